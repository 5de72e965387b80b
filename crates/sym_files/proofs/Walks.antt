-- How far records are taken, of a chunk's rows, of a round's chunks and of a file's rounds.
use Rattle.std.proofs.Common.{◌≡◌, ◌∙◌, refl, sym, ap, ℕ, zero, suc, ◌+◌, ◌<◌, ◌≤◌, arith, append_assoc, append-nil, length-append, List, [], ◌∷◌, ◌++◌, length, drop, map, get_or, IfSome, IsSome, Bool, true, false, ◌==◌, Option, None, Some, Ok, Err, Result, subst}
use Rattle.std.specs.List.{All}
use Rattle.std.specs.Result.{IsErrAnd}
use Rattle.std.proofs.lemmas.List.Elements.{All-head, All-push, All-tail}
use Rattle.std.specs.Option.{unwrap_or}
use Rattle.std.proofs.lemmas.Grind.{flat_map-append}
use Rattle.std.proofs.lemmas.Bool.{eqb-true, eqb-false}
use Rattle.std.proofs.lemmas.List.{length-map, map-append}
use Rattle.sym_base.specs.declared.values.value.Value.{Value}
use Rattle.sym_base.specs.declared.values.record.Record.{Record}
use Rattle.sym_check.specs.Meaning.Arithmetic.{and_then}
use Rattle.sym_check.specs.Plan.ScriptPlans.{ScriptPlan}
use Rattle.sym_table.specs.declared.bad.Bad.{Bad}
use Rattle.sym_table.specs.declared.bad.BadCause.{BadCause}
use Rattle.sym_table.specs.declared.bad.Decoded.TheVariants as decoded
use Rattle.sym_table.specs.declared.chunk.Chunk.{Chunk}
use Rattle.sym_table.specs.declared.header.Header.{Header}
use Rattle.sym_table.specs.Cutting.{Cutting, Cuts, IsNext}
use Rattle.sym_table.specs.ChunkRecords.{RunOn, chunk_records, all_records}
use Rattle.sym_table.specs.Decoding.{numbered}
use Rattle.sym_table.specs.Reading.{Row}
use Rattle.sym_table.specs.RowRecords.{record_or_bad, records_or_bad, in_turn}
use Rattle.sym_check.specs.declared.plan.script.FieldPlan.{FieldPlan}
use Rattle.sym_table.specs.Rows.{FitsChunk, FitsHeader, read_row}
use Rattle.sym_table.proofs.RecordsAgree.{rows_append}
use Rattle.sym_files.specs.declared.rounds.Took.{Took}
use Rattle.sym_files.specs.declared.rounds.Took.TheVariants as took
use Rattle.sym_files.specs.Rounds.{Extends, IsRound, Takes, shown_chunk, round_records, stands_by}
use Rattle.sym_files.specs.declared.error.PassErr.{PassErr}
use Rattle.sym_files.specs.Taking.{AreCut, AreTaken, CutsRound, IfTaken, TakesRows, rows_of}

-- Of all records some are taken, and the others are left.
pub record IsWalk {S : Type 0} (stands : S → List Record → Type 0) (all left : Result (List Record) Bad) (old now : S) : Type 0 where
  pub done : List Record
  pub splits : all ≡ in_turn (Ok done) left
  pub extends : Extends stands old now done

-- ---- records in turn
pub none_first : (r : Result (List Record) Bad) → r ≡ in_turn (Ok []) r
none_first (Ok records) = refl
none_first (Err bad) = refl

pub turn_assoc : (a b c : Result (List Record) Bad) → in_turn a (in_turn b c) ≡ in_turn (in_turn a b) c
turn_assoc (Err bad) b c = refl
turn_assoc (Ok first) (Err bad) c = refl
turn_assoc (Ok first) (Ok more) (Err bad) = refl
turn_assoc (Ok first) (Ok more) (Ok rest) = ap Ok (sym (append_assoc first more rest))

-- ---- the walk
-- The next part of what is left is taken.
pub walk_on : {S : Type 0} (stands : S → List Record → Type 0) (all left part rest : Result (List Record) Bad) (old now new : S)
    → IsWalk stands all left old now → left ≡ in_turn part rest → Takes stands part now new took.Done → IsWalk stands all rest old new
walk_on stands all left part rest old now new w e takes = record {
  done = w.done ++ takes.0;
  splits =
      w.splits
      ∙ ap (in_turn (Ok w.done)) (e ∙ ap (λ r. in_turn r rest) takes.1)
      ∙ turn_assoc (Ok w.done) (Ok takes.0) rest;
  extends = λ before at.
      let P : List Record → Type 0 = λ records. stands new records in
      subst P (append_assoc before w.done takes.0) (takes.2 (before ++ w.done) (w.extends before at));
}

-- The next part of what is left has a row that is no record.
pub walk_stops : {S : Type 0} (stands : S → List Record → Type 0) (all left part rest : Result (List Record) Bad) (old now : S) (bad : Bad)
    → IsWalk stands all left old now → left ≡ in_turn part rest → part ≡ Err bad → all ≡ Err bad
walk_stops stands all left part rest old now bad w e broken =
    w.splits ∙ ap (in_turn (Ok w.done)) (e ∙ ap (λ r. in_turn r rest) broken)

-- Nothing is left.
pub walk_ends : {S : Type 0} (stands : S → List Record → Type 0) (all left : Result (List Record) Bad) (old now : S)
    → IsWalk stands all left old now → left ≡ Ok [] → Takes stands all old now took.Done
walk_ends stands all left old now w e =
    (w.done, w.splits ∙ ap (in_turn (Ok w.done)) e ∙ ap Ok (append-nil w.done), w.extends)

-- ---- a chunk's rows
-- What one row is read as.
abbrev pub alone : Result Record Bad → Result (List Record) Bad
alone (Ok rec) = Ok (rec ∷ [])
alone (Err bad) = Err bad

pub first_alone : (r : Result Record Bad) (others : Result (List Record) Bad)
    → and_then (λ rec. and_then (λ rest. Ok (rec ∷ rest)) others) r ≡ in_turn (alone r) others
first_alone (Err bad) others = refl
first_alone (Ok rec) (Err bad) = refl
first_alone (Ok rec) (Ok rest) = refl

-- What is left at a place, where an item is there.
pub drop_next : {A : Type 0} (xs : List A) (k : ℕ) (x : A) → k < length xs → x ≡ get_or xs k x → drop k xs ≡ x ∷ drop (k + 1) xs
drop_next [] k x h e = absurd (omega (arith, h))
drop_next (y ∷ ys) zero x h e = ap (λ z. z ∷ ys) (sym e)
drop_next (y ∷ ys) (suc k) x h e =
    let more : suc (k + 1) ≡ suc k + 1 = omega arith in
    drop_next ys k x (omega (arith, h)) e ∙ ap (λ m. x ∷ drop m (y ∷ ys)) more

pub row_next : (p : ScriptPlan) (header : Header) (n : ℕ) (rows : List Row) (k : ℕ) (row : Row) → k < length rows → row ≡ get_or rows k row
    → records_or_bad p header n (drop k rows) ≡ in_turn (alone (record_or_bad n (read_row p.enums p.fields header row))) (records_or_bad p header (n + 1) (drop (k + 1) rows))
row_next p header n rows k row h e =
    ap (records_or_bad p header n) (drop_next rows k row h e)
    ∙ first_alone (record_or_bad n (read_row p.enums p.fields header row)) (records_or_bad p header (n + 1) (drop (k + 1) rows))

-- What a row was decoded to.
pub record_is : (n : ℕ) (read : Result (List Value) BadCause) (rec : Record) → numbered n read ≡ decoded.Is rec → alone (record_or_bad n read) ≡ Ok (rec ∷ [])
record_is n (Ok values) rec e =
    let same : record { no = n; fields = values } ≡ rec = cc in ap (λ r. Ok (r ∷ [])) same
record_is n (Err why) rec e = absurd (cc)

-- ---- a round's chunks
pub chunk_next : (p : ScriptPlan) (cuts : List Chunk) (k : ℕ) (cut : Chunk) → k < length cuts → cut ≡ get_or cuts k cut
    → all_records p (drop k cuts) ≡ in_turn (chunk_records p cut) (all_records p (drop (k + 1) cuts))
chunk_next p cuts k cut h e = ap (all_records p) (drop_next cuts k cut h e)

-- ---- a file's rounds
-- The rows of chunks that run on, and then others.
pub round_next : (p : ScriptPlan) (header : Header) (shown : Row → Row) (n : ℕ) (cuts : List Chunk) (rest : List Row)
    → All (λ (cut : Chunk). cut.header ≡ header) cuts → RunOn n cuts
    → records_or_bad p header n (map shown (rows_of cuts ++ rest))
    ≡ in_turn (round_records p shown cuts) (records_or_bad p header (n + length (rows_of cuts)) (map shown rest))
round_next p header shown n [] rest headers numbers =
    let same : n ≡ n + 0 = omega arith in
    none_first (records_or_bad p header n (map shown rest))
    ∙ ap (λ m. in_turn (Ok []) (records_or_bad p header m (map shown rest))) same
round_next p header shown n (cut ∷ cuts) rest headers numbers =
    let count : n + length (map shown cut.rows) ≡ n + length cut.rows = omega (arith, length-map cut.rows shown) in
    let last : n + length cut.rows + length (rows_of cuts) ≡ n + length (cut.rows ++ rows_of cuts) = omega (arith, length-append cut.rows (rows_of cuts)) in
    let front = records_or_bad p header n (map shown cut.rows) in
    let more = round_records p shown cuts in
    let head : chunk_records p (shown_chunk shown cut) ≡ front =
    ap (λ h. records_or_bad p h cut.first_no (map shown cut.rows)) (All-head (λ (c : Chunk). c.header ≡ header) cut cuts headers)
    ∙ ap (λ m. records_or_bad p header m (map shown cut.rows)) numbers.0 in
    ap (λ rows. records_or_bad p header n (map shown rows)) (append_assoc cut.rows (rows_of cuts) rest)
    ∙ ap (records_or_bad p header n) (map-append shown cut.rows (rows_of cuts ++ rest))
    ∙ rows_append p header n (map shown cut.rows) (map shown (rows_of cuts ++ rest))
    ∙ ap (λ m. in_turn front (records_or_bad p header m (map shown (rows_of cuts ++ rest)))) count
    ∙ ap (in_turn front) (round_next p header shown (n + length cut.rows) cuts rest (All-tail (λ (c : Chunk). c.header ≡ header) cut cuts headers) numbers.1)
    ∙ turn_assoc front more (records_or_bad p header (n + length cut.rows + length (rows_of cuts)) (map shown rest))
    ∙ ap (λ m. in_turn (in_turn front more) (records_or_bad p header m (map shown rest))) last
    ∙ ap (λ r. in_turn (in_turn r more) (records_or_bad p header (n + length (cut.rows ++ rows_of cuts)) (map shown rest))) (sym head)

-- ---- chunks that are cut off one after the other
pub some_rows : (a b : List Row) → ◌≡◌ {A = Option (List Row)} (Some a) (Some b) → a ≡ b
some_rows a b e = cc

pub left_is : (o : Option (List Row)) → IsSome o → o ≡ Some (unwrap_or o [])
left_is None h = absurd (cc)
left_is (Some rows) h = refl

pub left_of : (o : Option (List Row)) (rows : List Row) → o ≡ Some rows → unwrap_or o [] ≡ rows
left_of o rows e = ap (λ x. unwrap_or x []) e

pub is_some : (o : Option (List Row)) (rows : List Row) → o ≡ Some rows → IsSome o
is_some o rows e = let P : Option (List Row) → Type 0 = λ x. IsSome x in subst P (sym e) refl

pub more_rows : (cuts : List Chunk) (cut : Chunk) → rows_of (cuts ++ cut ∷ []) ≡ rows_of cuts ++ cut.rows
more_rows cuts cut =
    flat_map-append (λ (k : Chunk). k.rows) cuts (cut ∷ []) ∙ ap (λ rows. rows_of cuts ++ rows) (append-nil cut.rows)

run_on_more : (n : ℕ) (cuts : List Chunk) (cut : Chunk) → RunOn n cuts → cut.first_no ≡ n + length (rows_of cuts) → RunOn n (cuts ++ cut ∷ [])
run_on_more n [] cut numbers e = (omega (arith, e), tt)
run_on_more n (k ∷ cuts) cut numbers e =
    (numbers.0, run_on_more (n + length k.rows) cuts cut numbers.1 (omega (arith, e, length-append k.rows (rows_of cuts))))

pub cut_on : (a b c : Cutting) (cuts : List Chunk) (cut : Chunk) → AreCut a b cuts → b.header ≡ a.header → IsNext b c cut → AreCut a c (cuts ++ cut ∷ [])
cut_on a b c cuts cut is same next =
    let rest_is : is.rest ≡ cut.rows ++ next.rest = some_rows is.rest (cut.rows ++ next.rest) (sym is.has ∙ next.had) in
    let more = more_rows cuts cut in
    record {
      rest = next.rest;
      had =
          is.had
          ∙ ap (λ rest. Some (rows_of cuts ++ rest)) rest_is
          ∙ ap Some (sym (append_assoc (rows_of cuts) cut.rows next.rest))
          ∙ ap (λ rows. Some (rows ++ next.rest)) (sym more);
      has = next.has;
      filled = All-push (λ (k : Chunk). 1 ≤ length k.rows) cuts cut is.filled next.some;
      headers = All-push (λ (k : Chunk). k.header ≡ a.header) cuts cut is.headers (next.header_is ∙ same);
      numbers = run_on_more a.next_no cuts cut is.numbers (next.first ∙ is.next);
      next = omega (arith, next.next, is.next, ap length more, length-append (rows_of cuts) cut.rows);
    }

-- The next chunk, as it was found and put behind the others.
pub cut_push : (a b c : Cutting) (cuts more : List Chunk) (found : Option Chunk) (cut : Chunk) → found ≡ Some cut → more ≡ cuts ++ cut ∷ []
    → AreCut a b cuts → b.header ≡ a.header → Cuts b c (Ok found) → AreCut a c more
cut_push a b c cuts more found cut some pushed is same next =
    let P : Option Chunk → Type 0 = λ o. Cuts b c (Ok o) in
    let Q : List Chunk → Type 0 = λ all. AreCut a c all in
    subst Q (sym pushed) (cut_on a b c cuts cut is same (subst P some next))

pub fit_push : (fields : List FieldPlan) (cuts more : List Chunk) (found : Option Chunk) (cut : Chunk) → found ≡ Some cut → more ≡ cuts ++ cut ∷ []
    → All (FitsChunk fields) cuts → IfSome found (λ k. FitsChunk fields k) → All (FitsChunk fields) more
fit_push fields cuts more found cut some pushed are fits =
    let P : Option Chunk → Type 0 = λ o. IfSome o (λ k. FitsChunk fields k) in
    let Q : List Chunk → Type 0 = λ all. All (FitsChunk fields) all in
    subst Q (sym pushed) (All-push (FitsChunk fields) cuts cut are (subst P some fits))

-- Whether there is one, by the test of the length.
pub none_are : {A : Type 0} (xs : List A) (b : Bool) → b ≡ true → b ≡ (length xs == 0) → xs ≡ []
none_are [] b t e = refl
none_are (x ∷ xs) b t e = let zero_is = eqb-true (length (x ∷ xs)) 0 (sym e ∙ t) in absurd (omega arith)

pub some_are : {A : Type 0} (xs : List A) (b : Bool) → b ≡ false → b ≡ (length xs == 0) → 1 ≤ length xs
some_are [] b t e = absurd (eqb-false 0 0 (sym e ∙ t) refl)
some_are (x ∷ xs) b t e = omega arith

-- Where no chunk was cut off, the next number stays.
pub same_next : (a b : Cutting) (cuts : List Chunk) → AreCut a b cuts → cuts ≡ [] → b.next_no ≡ a.next_no
same_next a b cuts is e = omega (arith, is.next, ap (λ k. length (rows_of k)) e)

-- How far a file's rows are taken: those that are left, and the walk over the records.
pub record IsTaking {S : Type 0} (stands : S → List Record → Type 0) (p : ScriptPlan) (header : Header) (shown : Row → Row) (first : ℕ) (rows : List Row)
    (old now : S) (c : Cutting) : Type 0 where
  pub left : List Row
  pub has : c.left ≡ Some left
  pub numbers : c.next_no + length left ≡ first + length rows
  pub walk : IsWalk stands (records_or_bad p header first (map shown rows)) (records_or_bad p header c.next_no (map shown left)) old now

-- What is left, by the round that is cut off it.
left_next : {S : Type 0} (stands : S → List Record → Type 0) (p : ScriptPlan) (header : Header) (shown : Row → Row) (first : ℕ) (rows : List Row) (old now : S) (c d : Cutting) (cuts : List Chunk)
    → (is : IsTaking stands p header shown first rows old now c) → c.header ≡ header → (cut : AreCut c d cuts)
    → records_or_bad p header c.next_no (map shown is.left) ≡ in_turn (round_records p shown cuts) (records_or_bad p header d.next_no (map shown cut.rest))
left_next stands p header shown first rows old now c d cuts is same cut =
    let P : Header → Type 0 = λ h. All (λ (k : Chunk). k.header ≡ h) cuts in
    let left_is : is.left ≡ rows_of cuts ++ cut.rest = some_rows is.left (rows_of cuts ++ cut.rest) (sym is.has ∙ cut.had) in
    ap (λ left. records_or_bad p header c.next_no (map shown left)) left_is
    ∙ round_next p header shown c.next_no cuts cut.rest (subst P same cut.headers) cut.numbers
    ∙ ap (λ m. in_turn (round_records p shown cuts) (records_or_bad p header m (map shown cut.rest))) (sym cut.next)

pub taking_on : {S : Type 0} (stands : S → List Record → Type 0) (p : ScriptPlan) (header : Header) (shown : Row → Row) (first : ℕ) (rows : List Row) (old now new : S) (c d : Cutting) (cuts : List Chunk)
    → IsTaking stands p header shown first rows old now c → c.header ≡ header → AreCut c d cuts
    → Takes stands (round_records p shown cuts) now new took.Done → IsTaking stands p header shown first rows old new d
taking_on stands p header shown first rows old now new c d cuts is same cut takes =
    let left_is : is.left ≡ rows_of cuts ++ cut.rest = some_rows is.left (rows_of cuts ++ cut.rest) (sym is.has ∙ cut.had) in
    record {
      left = cut.rest;
      has = cut.has;
      numbers = omega (arith, is.numbers, cut.next, ap length left_is, length-append (rows_of cuts) cut.rest);
      walk =
          walk_on stands (records_or_bad p header first (map shown rows)) (records_or_bad p header c.next_no (map shown is.left)) (round_records p shown cuts)
          (records_or_bad p header d.next_no (map shown cut.rest)) old now new is.walk
          (left_next stands p header shown first rows old now c d cuts is same cut) takes;
    }

pub taking_stops : {S : Type 0} (stands : S → List Record → Type 0) (p : ScriptPlan) (header : Header) (shown : Row → Row) (first : ℕ) (rows : List Row) (old now : S) (c d : Cutting) (cuts : List Chunk) (bad : Bad)
    → IsTaking stands p header shown first rows old now c → c.header ≡ header → AreCut c d cuts
    → round_records p shown cuts ≡ Err bad → records_or_bad p header first (map shown rows) ≡ Err bad
taking_stops stands p header shown first rows old now c d cuts bad is same cut broken =
    walk_stops stands (records_or_bad p header first (map shown rows)) (records_or_bad p header c.next_no (map shown is.left)) (round_records p shown cuts)
    (records_or_bad p header d.next_no (map shown cut.rest)) old now bad is.walk
    (left_next stands p header shown first rows old now c d cuts is same cut) broken

-- There are as many records as rows.
one_more : (r : Result Record Bad) (others : Result (List Record) Bad) (records : List Record) (n : ℕ)
    → ((rest : List Record) → others ≡ Ok rest → length rest ≡ n)
    → and_then (λ rec. and_then (λ rest. Ok (rec ∷ rest)) others) r ≡ Ok records → length records ≡ suc n
one_more (Err bad) others records n many e = absurd (cc)
one_more (Ok rec) (Err bad) records n many e = absurd (cc)
one_more (Ok rec) (Ok rest) records n many e =
    let same : rec ∷ rest ≡ records = cc in sym (ap length same) ∙ ap suc (many rest refl)

pub records_many : (p : ScriptPlan) (header : Header) (n : ℕ) (rows : List Row) (records : List Record) → records_or_bad p header n rows ≡ Ok records → length records ≡ length rows
records_many p header n [] records e = let none : records ≡ [] = cc in ap length none
records_many p header n (row ∷ rows) records e =
    one_more (record_or_bad n (read_row p.enums p.fields header row)) (records_or_bad p header (n + 1) rows) records (length rows)
    (λ rest is. records_many p header (n + 1) rows rest is) e

pub taking_ends : {S : Type 0} (stands : S → List Record → Type 0) (p : ScriptPlan) (header : Header) (shown : Row → Row) (first : ℕ) (rows : List Row) (old now : S) (c d : Cutting)
    → IsTaking stands p header shown first rows old now c → c.left ≡ Some [] → d.next_no ≡ c.next_no
    → AreTaken stands (records_or_bad p header first (map shown rows)) first d.next_no old now
taking_ends stands p header shown first rows old now c d is none same =
    let left_is : is.left ≡ [] = some_rows is.left [] (sym is.has ∙ none) in
    let ends =
    walk_ends stands (records_or_bad p header first (map shown rows)) (records_or_bad p header c.next_no (map shown is.left)) old now is.walk
    (ap (λ left. records_or_bad p header c.next_no (map shown left)) left_is) in
    record {
      records = ends.0;
      are = ends.1;
      next_is = omega (arith, same, is.numbers, ap length left_is, records_many p header first (map shown rows) ends.0 ends.1, length-map rows shown);
      extends = ends.2;
    }

-- ---- a round that is cut off and isn't taken yet
-- It was cut off where the rounds before it are taken.
pub record IsAhead {S : Type 0} (stands : S → List Record → Type 0) (p : ScriptPlan) (header : Header) (shown : Row → Row) (first : ℕ) (rows : List Row)
    (old now : S) (c : Cutting) (cuts : List Chunk) : Type 0 where
  pub from : Cutting
  pub taking : IsTaking stands p header shown first rows old now from
  pub header_is : from.header ≡ header
  pub cut : CutsRound from c cuts

taking_begins : {S : Type 0} (stands : S → List Record → Type 0) (p : ScriptPlan) (shown : Row → Row) (s : S) (c : Cutting)
    → IsSome c.left → IsTaking stands p c.header shown c.next_no (unwrap_or c.left []) s s c
taking_begins stands p shown s c some = record {
  left = unwrap_or c.left [];
  has = left_is c.left some;
  numbers = refl;
  walk = record {
    done = [];
    splits = none_first (records_or_bad p c.header c.next_no (map shown (unwrap_or c.left [])));
    extends = λ before at.
        let P : List Record → Type 0 = λ records. stands s records in subst P (sym (append-nil before)) at;
  };
}

pub ahead_begins : {S : Type 0} (stands : S → List Record → Type 0) (p : ScriptPlan) (shown : Row → Row) (s : S) (c d : Cutting) (cuts : List Chunk)
    → IsSome c.left → CutsRound c d cuts → IsAhead stands p c.header shown c.next_no (unwrap_or c.left []) s s d cuts
ahead_begins stands p shown s c d cuts some cut = record {
  from = c;
  taking = taking_begins stands p shown s c some;
  header_is = refl;
  cut = cut;
}

pub ahead_on : {S : Type 0} (stands : S → List Record → Type 0) (p : ScriptPlan) (header : Header) (shown : Row → Row) (first : ℕ) (rows : List Row) (old now new : S) (c d : Cutting) (cuts more : List Chunk)
    → IsAhead stands p header shown first rows old now c cuts → Takes stands (round_records p shown cuts) now new took.Done → CutsRound c d more
    → IsAhead stands p header shown first rows old new d more
ahead_on stands p header shown first rows old now new c d cuts more is takes cut = record {
  from = c;
  taking = taking_on stands p header shown first rows old now new is.from c cuts is.taking is.header_is is.cut.cut takes;
  header_is = is.cut.header ∙ is.header_is;
  cut = cut;
}

pub ahead_stops : {S : Type 0} (stands : S → List Record → Type 0) (p : ScriptPlan) (header : Header) (shown : Row → Row) (first : ℕ) (rows : List Row) (old now : S) (c : Cutting) (cuts : List Chunk) (bad : Bad)
    → IsAhead stands p header shown first rows old now c cuts → round_records p shown cuts ≡ Err bad → records_or_bad p header first (map shown rows) ≡ Err bad
ahead_stops stands p header shown first rows old now c cuts bad is broken =
    taking_stops stands p header shown first rows old now is.from c cuts bad is.taking is.header_is is.cut.cut broken

pub ahead_ends : {S : Type 0} (stands : S → List Record → Type 0) (p : ScriptPlan) (header : Header) (shown : Row → Row) (first : ℕ) (rows : List Row) (old now : S) (c : Cutting) (cuts : List Chunk)
    → IsAhead stands p header shown first rows old now c cuts → cuts ≡ [] → AreTaken stands (records_or_bad p header first (map shown rows)) first c.next_no old now
ahead_ends stands p header shown first rows old now c cuts is none =
    taking_ends stands p header shown first rows old now is.from c is.taking (is.cut.ended none) (same_next is.from c cuts is.cut.cut none)

pub some_rows_of : (cuts : List Chunk) → All (λ (cut : Chunk). 1 ≤ length cut.rows) cuts → 1 ≤ length cuts → 1 ≤ length (rows_of cuts)
some_rows_of [] filled many = absurd (omega arith)
some_rows_of (k ∷ cuts) filled many =
    omega (arith, All-head (λ (c : Chunk). 1 ≤ length c.rows) k cuts filled, length-append k.rows (rows_of cuts))

-- How many rows aren't taken yet: those of the round that is cut off, and those that are left.
pub ahead_fewer : {S : Type 0} (stands : S → List Record → Type 0) (p : ScriptPlan) (header : Header) (shown : Row → Row) (first : ℕ) (rows : List Row) (old now : S) (c d : Cutting) (cuts more : List Chunk)
    → IsAhead stands p header shown first rows old now c cuts → 1 ≤ length cuts → CutsRound c d more
    → length (rows_of more) + length (unwrap_or d.left []) < length (rows_of cuts) + length (unwrap_or c.left [])
ahead_fewer stands p header shown first rows old now c d cuts more is many cut =
    let had : unwrap_or c.left [] ≡ rows_of more ++ cut.cut.rest = left_of c.left (rows_of more ++ cut.cut.rest) cut.cut.had in
    let has : unwrap_or d.left [] ≡ cut.cut.rest = left_of d.left cut.cut.rest cut.cut.has in
    omega (arith, ap length had, ap length has, some_rows_of cuts is.cut.cut.filled many, length-append (rows_of more) cut.cut.rest)

pub ahead_round : {S : Type 0} (stands : S → List Record → Type 0) (p : ScriptPlan) (header : Header) (shown : Row → Row) (first : ℕ) (rows : List Row) (old now : S) (c : Cutting) (cuts : List Chunk)
    → IsAhead stands p header shown first rows old now c cuts → FitsHeader p.fields header → 1 ≤ length cuts → IsRound p.fields cuts
ahead_round stands p header shown first rows old now c cuts is fits many =
    let P : Header → Type 0 = λ h. FitsHeader p.fields h in
    record {
      some = many;
      most = is.cut.most;
      fit = is.cut.fit p.fields (subst P (sym is.header_is) fits);
      first = is.from.next_no;
      numbers = is.cut.cut.numbers;
    }

-- What a round came to, by the script, the limit and what is shown as they were.
pub took_as : {S : Type 0} (stands : S → ScriptPlan → ℕ → List Record → Type 0) (p q : ScriptPlan) (n m : ℕ) (f g : Row → Row) (cuts : List Chunk) (now new : S) (t u : Took)
    → p ≡ q → n ≡ m → f ≡ g → t ≡ u → Takes (stands_by stands p n) (round_records p f cuts) now new t → Takes (stands_by stands q m) (round_records q g cuts) now new u
took_as stands p q n m f g cuts now new t u plan limit shown same takes =
    let P : ScriptPlan → Type 0 = λ x. Takes (stands_by stands x n) (round_records x f cuts) now new t in
    let N : ℕ → Type 0 = λ x. Takes (stands_by stands q x) (round_records q f cuts) now new t in
    let F : (Row → Row) → Type 0 = λ x. Takes (stands_by stands q m) (round_records q x cuts) now new t in
    let T : Took → Type 0 = λ x. Takes (stands_by stands q m) (round_records q g cuts) now new x in
    subst T same (subst F shown (subst N limit (subst P plan takes)))

-- A fact of a round whose records were taken, where they were.
pub taken_as : (t : Took) (fact : Type 0) → t ≡ took.Done → IfTaken t fact → fact
taken_as took.Done fact done holds = holds
taken_as (took.Bad bad) fact done holds = absurd (cc)

-- What a file's rows came to, by the rows as they were left.
pub rows_as : {S : Type 0} (stands : S → List Record → Type 0) (p : ScriptPlan) (header : Header) (n next : ℕ) (shown : Row → Row) (rows left : List Row) (old new : S) (t u : Took)
    → rows ≡ left → t ≡ u → TakesRows stands (records_or_bad p header n (map shown rows)) n next old new t
    → TakesRows stands (records_or_bad p header n (map shown left)) n next old new u
rows_as stands p header n next shown rows left old new t u e same takes =
    let P : List Row → Type 0 = λ x. TakesRows stands (records_or_bad p header n (map shown x)) n next old new t in
    let T : Took → Type 0 = λ x. TakesRows stands (records_or_bad p header n (map shown left)) n next old new x in
    subst T same (subst P e takes)

-- ---- errors that are passed on
pub fails_as : {A : Type 0} (r : Result A PassErr) (why : PassErr) (P : Result A PassErr → Type 0) → IsErrAnd r (λ e. e ≡ why) → P (Err why) → P r
fails_as (Ok x) why P is holds = absurd is
fails_as (Err e) why P is holds = let Q : PassErr → Type 0 = λ x. P (Err x) in subst Q (sym is) holds
