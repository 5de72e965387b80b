-- Rows and chunks that are folded in order.
use Rattle.std.proofs.Common.{◌≡◌, ◌∙◌, ap, sym, refl, subst, arith, ℕ, zero, suc, ◌+◌, ◌<◌, List, [], ◌∷◌, ◌++◌, append_assoc, append-nil, length, drop, get_or, Option, Some, None, Result, Ok, Err, slice_get, true, false, true≢false, is_some, IfNone}
use Rattle.std.proofs.lemmas.List.Elements.{All-append, All-head, All-nil, All-tail}
use Rattle.std.proofs.lemmas.Option.{get_or_from_slice_get, slice_get_within}
use Rattle.std.specs.List.{All}
use Rattle.sym_base.specs.declared.values.record.Record.{Record}
use Rattle.sym_base.specs.declared.values.value.Value.{Value}
use Rattle.sym_check.specs.Meaning.Arithmetic.{and_then}
use Rattle.sym_check.specs.Meaning.Validity.{IsRecord}
use Rattle.sym_check.specs.Plan.ScriptPlans.{ScriptPlan}
use Rattle.sym_check.specs.Plan.WellFormed.{IsWellFormed}
use Rattle.sym_plain.specs.Pairs.{after_record, after_records}
use Rattle.sym_plain.proofs.Apart.{records_on}
use Rattle.sym_table.specs.declared.bad.Bad.{Bad}
use Rattle.sym_table.specs.declared.bad.BadCause.{BadCause}
use Rattle.sym_table.specs.declared.bad.Decoded.TheVariants as decoded
use Rattle.sym_table.specs.declared.chunk.Chunk.{Chunk}
use Rattle.sym_table.specs.declared.header.Header.{Header}
use Rattle.sym_table.specs.ChunkRecords.{all_records, chunk_records}
use Rattle.sym_table.specs.Decoding.{Fills, numbered}
use Rattle.sym_table.specs.Reading.{Row}
use Rattle.sym_table.specs.RowRecords.{in_turn, record_or_bad, records_or_bad}
use Rattle.sym_table.specs.Rows.{FitsChunk, read_row}
use Rattle.sym_table.proofs.RecordsAgree.{records_are, rows_records}
use Rattle.sym_shuffle.specs.Begun.{groups_after}
use Rattle.sym_shuffle.specs.Folding.{Folds}
use Rattle.sym_shuffle.proofs.BegunGroups.{Groups}

abbrev pub Read : Type 0
Read = Result (List Record) Bad

-- Of all records the first ones are folded, and the others are left.
pub record IsFolding (p : ScriptPlan) (all left : Read) (old now : Groups) : Type 0 where
  pub done : List Record
  pub splits : all ≡ in_turn (Ok done) left
  pub groups : now ≡ after_records p done old

-- ---- a row that is no record
pub found_none : (found : Option Bad) → is_some found ≡ false → found ≡ None
found_none None e = refl
found_none (Some bad) e = absurd (true≢false e)

pub found_some : (found : Option Bad) → is_some found ≡ true → (bad : Bad) × (found ≡ Some bad)
found_some None e = absurd (true≢false (sym e))
found_some (Some bad) e = (bad, refl)

pub where_none : (found : Option Bad) (fact : Type 0) → found ≡ None → IfNone found fact → fact
where_none None fact e holds = holds
where_none (Some bad) fact e holds = absurd cc

-- ---- records in turn
none_first : (r : Read) → r ≡ in_turn (Ok []) r
none_first (Ok records) = refl
none_first (Err bad) = refl

turn_later : (a b c : Read) → in_turn a (in_turn b c) ≡ in_turn (in_turn a b) c
turn_later (Err bad) b c = refl
turn_later (Ok x) (Err bad) c = refl
turn_later (Ok x) (Ok y) (Err bad) = refl
turn_later (Ok x) (Ok y) (Ok z) = ap Ok (sym (append_assoc x y z))

-- ---- how far records are folded
pub none_folded : (p : ScriptPlan) (all : Read) (old : Groups) → IsFolding p all all old old
none_folded p all old = record { done = []; splits = none_first all; groups = refl }

-- The next part of what is left is folded.
folds_on : (p : ScriptPlan) (all left part rest : Read) (old now new : Groups) (records : List Record) → IsFolding p all left old now → left ≡ in_turn part rest → part ≡ Ok records → new ≡ after_records p records now
    → IsFolding p all rest old new
folds_on p all left part rest old now new records h split is groups = record {
  done = h.done ++ records;
  splits =
      h.splits
      ∙ ap (in_turn (Ok h.done)) (split ∙ ap (λ (r : Read). in_turn r rest) is)
      ∙ turn_later (Ok h.done) (Ok records) rest;
  groups = groups ∙ ap (after_records p records) h.groups ∙ records_on p h.done records old;
}

-- The next part has a row that is no record.
stops_at : (p : ScriptPlan) (all left part rest : Read) (old now : Groups) (bad : Bad) → IsFolding p all left old now → left ≡ in_turn part rest → part ≡ Err bad → all ≡ Err bad
stops_at p all left part rest old now bad h split broken =
    h.splits ∙ ap (in_turn (Ok h.done)) (split ∙ ap (λ (r : Read). in_turn r rest) broken)

-- Nothing is left.
pub all_done : (p : ScriptPlan) (all left : Read) (old now : Groups) (h : IsFolding p all left old now) → left ≡ Ok [] → all ≡ Ok h.done
all_done p all left old now h none = h.splits ∙ ap (in_turn (Ok h.done)) none ∙ ap Ok (append-nil h.done)

pub folds_all : (p : ScriptPlan) (all left : Read) (old now : Groups) (bad : Option Bad) → IsFolding p all left old now → left ≡ Ok [] → bad ≡ None → Folds p all old bad now
folds_all p all left old now bad h none is =
    subst (λ (read : Read). Folds p read old bad now) (sym (all_done p all left old now h none)) (is, h.groups)

pub folded_groups : (p : ScriptPlan) (all left : Read) (old now : Groups) → IsFolding p all left old now → left ≡ Ok [] → Ok now ≡ groups_after p all old
folded_groups p all left old now h none = ap Ok h.groups ∙ ap (λ (read : Read). groups_after p read old) (sym (all_done p all left old now h none))

-- ---- rows
abbrev alone : Result Record Bad → Read
alone (Ok rec) = Ok (rec ∷ [])
alone (Err bad) = Err bad

first_alone : (r : Result Record Bad) (others : Read) → and_then (λ rec. and_then (λ rest. Ok (rec ∷ rest)) others) r ≡ in_turn (alone r) others
first_alone (Err bad) others = refl
first_alone (Ok rec) (Err bad) = refl
first_alone (Ok rec) (Ok rest) = refl

drop_next : {A : Type 0} (xs : List A) (k : ℕ) (x : A) → k < length xs → x ≡ get_or xs k x → drop k xs ≡ x ∷ drop (k + 1) xs
drop_next [] k x h e = absurd (omega (arith, h))
drop_next (y ∷ ys) zero x h e = ap (λ z. z ∷ ys) (sym e)
drop_next (y ∷ ys) (suc k) x h e =
    let more : suc (k + 1) ≡ suc k + 1 = omega arith in
    drop_next ys k x (omega (arith, h)) e ∙ ap (λ m. x ∷ drop m (y ∷ ys)) more

row_next : (p : ScriptPlan) (header : Header) (n : ℕ) (rows : List Row) (k : ℕ) (row : Row) → slice_get rows k ≡ Some row
    → records_or_bad p header n (drop k rows) ≡ in_turn (alone (record_or_bad n (read_row p.enums p.fields header row))) (records_or_bad p header (n + 1) (drop (k + 1) rows))
row_next p header n rows k row at =
    ap (records_or_bad p header n) (drop_next rows k row (slice_get_within rows k row at) (sym (get_or_from_slice_get rows k row row at)))
    ∙ first_alone (record_or_bad n (read_row p.enums p.fields header row)) (records_or_bad p header (n + 1) (drop (k + 1) rows))

row_is : (n : ℕ) (read : Result (List Value) BadCause) (rec : Record) → numbered n read ≡ decoded.Is rec → alone (record_or_bad n read) ≡ Ok (rec ∷ [])
row_is n (Ok values) rec e =
    let same : record { no = n; fields = values } ≡ rec = cc in ap (λ r. Ok (r ∷ [])) same
row_is n (Err why) rec e = absurd cc

row_breaks : (n : ℕ) (read : Result (List Value) BadCause) (bad : Bad) → numbered n read ≡ decoded.Bad bad → alone (record_or_bad n read) ≡ Err bad
row_breaks n (Ok values) bad e = absurd cc
row_breaks n (Err why) bad e =
    let same : record { no = n; cause = why } ≡ bad = cc in ap Err same

module _ (p : ScriptPlan) (header : Header) (n : ℕ) (rows : List Row) (k : ℕ) (row : Row) (all : Read) (old now : Groups) (found : Option Bad) (rec : Record) where
  -- The next row is a record, which is folded.
  pub row_folded : (new : Groups) → slice_get rows k ≡ Some row → found ≡ None → Fills found rec (numbered n (read_row p.enums p.fields header row)) → new ≡ after_record p rec now
      → IsFolding p all (records_or_bad p header n (drop k rows)) old now → IsFolding p all (records_or_bad p header (n + 1) (drop (k + 1) rows)) old new
  row_folded new at none fills is h =
      let F : Option Bad → Type 0 = λ o. Fills o rec (numbered n (read_row p.enums p.fields header row)) in
      folds_on p all (records_or_bad p header n (drop k rows)) (alone (record_or_bad n (read_row p.enums p.fields header row))) (records_or_bad p header (n + 1) (drop (k + 1) rows))
      old now new (rec ∷ []) h (row_next p header n rows k row at) (row_is n (read_row p.enums p.fields header row) rec (subst F none fills)) is

  -- It is none.
  pub row_refused : (bad : Bad) (new : Groups) → slice_get rows k ≡ Some row → found ≡ Some bad → Fills found rec (numbered n (read_row p.enums p.fields header row))
      → IsFolding p all (records_or_bad p header n (drop k rows)) old now → Folds p all old found new
  row_refused bad new at is fills h =
      let F : Option Bad → Type 0 = λ o. Fills o rec (numbered n (read_row p.enums p.fields header row)) in
      subst (λ (read : Read). Folds p read old found new)
      (sym (stops_at p all (records_or_bad p header n (drop k rows)) (alone (record_or_bad n (read_row p.enums p.fields header row))) (records_or_bad p header (n + 1) (drop (k + 1) rows))
      old now bad h (row_next p header n rows k row at) (row_breaks n (read_row p.enums p.fields header row) bad (subst F is fills))))
      is

-- ---- chunks
module _ (p : ScriptPlan) (cuts : List Chunk) (k : ℕ) (cut : Chunk) (all : Read) (old now new : Groups) (found : Option Bad) where
  chunk_next : k < length cuts → cut ≡ get_or cuts k cut → all_records p (drop k cuts) ≡ in_turn (chunk_records p cut) (all_records p (drop (k + 1) cuts))
  chunk_next h e = ap (all_records p) (drop_next cuts k cut h e)

  -- The next chunk is folded.
  pub chunk_folded : k < length cuts → cut ≡ get_or cuts k cut → found ≡ None → Folds p (chunk_records p cut) now found new → IsFolding p all (all_records p (drop k cuts)) old now
      → IsFolding p all (all_records p (drop (k + 1) cuts)) old new
  chunk_folded h e none folds w = of (chunk_records p cut) refl folds
    where
      of : (read : Read) → chunk_records p cut ≡ read → Folds p read now found new → IsFolding p all (all_records p (drop (k + 1) cuts)) old new
      of (Ok records) is (same, after) = folds_on p all (all_records p (drop k cuts)) (chunk_records p cut) (all_records p (drop (k + 1) cuts)) old now new records w (chunk_next h e) is after
      of (Err bad) is same = absurd (some_none bad found same none)
        where
          some_none : (bad : Bad) (found : Option Bad) → found ≡ Some bad → found ≡ None → ⊥
          some_none bad found a b = cc

  -- It has a row that is no record.
  pub chunk_refused : (bad : Bad) → k < length cuts → cut ≡ get_or cuts k cut → found ≡ Some bad → Folds p (chunk_records p cut) now found new → IsFolding p all (all_records p (drop k cuts)) old now → all ≡ Err bad
  chunk_refused bad h e some folds w = of (chunk_records p cut) refl folds
    where
      of : (read : Read) → chunk_records p cut ≡ read → Folds p read now found new → all ≡ Err bad
      of (Ok records) is (same, after) = absurd (none_some found same some)
        where
          none_some : (found : Option Bad) → found ≡ None → found ≡ Some bad → ⊥
          none_some found a b = cc
      of (Err first) is same =
          let one : first ≡ bad = cc in
          stops_at p all (all_records p (drop k cuts)) (chunk_records p cut) (all_records p (drop (k + 1) cuts)) old now bad w (chunk_next h e) (is ∙ ap Err one)

-- ---- records of the script
turned : (a b : Read) (records : List Record) → in_turn a b ≡ Ok records → (first : List Record) × (rest : List Record) × (a ≡ Ok first) × (b ≡ Ok rest) × (first ++ rest ≡ records)
turned (Err bad) b records e = absurd cc
turned (Ok first) (Err bad) records e = absurd cc
turned (Ok first) (Ok rest) records e = (first, rest, refl, refl, cc)

-- What chunks that fit are read as are the script's records.
pub chunks_are_records : (p : ScriptPlan) (cuts : List Chunk) (records : List Record) → IsWellFormed p → All (FitsChunk p.fields) cuts → all_records p cuts ≡ Ok records → All (IsRecord p) records
chunks_are_records p [] records w fit e =
    let none : [] ≡ records = cc in subst (All (IsRecord p)) none (All-nil (IsRecord p))
chunks_are_records p (cut ∷ cuts) records w fit e =
    let both = turned (chunk_records p cut) (all_records p cuts) records e in
    let head = All-head (FitsChunk p.fields) cut cuts fit in
    subst (All (IsRecord p)) both.4
    (All-append (IsRecord p) both.0 both.1
    (records_are p cut.header cut.first_no cut.rows both.0 w ((rows_records p cut.header cut.first_no cut.rows both.0 head.header.count).1 both.2))
    (chunks_are_records p cuts both.1 w (All-tail (FitsChunk p.fields) cut cuts fit) both.3))
