-- What is told of the rounds of a file's rows.
use Rattle.std.proofs.Common.{◌≡◌, ◌∙◌, refl, sym, ap, subst, ℕ, ◌+◌, ◌<◌, ◌≤◌, ◌⊎◌, inl, inr, ⊎_elim, arith, append_assoc, append-nil, List, [], ◌∷◌, ◌++◌, length, length-append, map, Some, IsSome, Result, Ok, Err}
use Rattle.std.specs.List.{All}
use Rattle.std.specs.Option.{unwrap_or}
use Rattle.std.specs.Result.{IfOk, IsErrAnd}
use Rattle.std.proofs.lemmas.Bool.{cases_lt}
use Rattle.std.proofs.lemmas.List.{length-map, map-append}
use Rattle.std.proofs.lemmas.List.Elements.{All-nil}
use Rattle.sym_base.specs.declared.values.memory.NoMemory.{NoMemory}
use Rattle.sym_base.specs.declared.values.record.Record.{Record}
use Rattle.sym_base.specs.declared.values.value.Value.{Value}
use Rattle.sym_check.specs.Plan.ScriptPlans.{ScriptPlan}
use Rattle.sym_table.specs.declared.bad.Bad.{Bad}
use Rattle.sym_table.specs.declared.bad.BadCause.{BadCause}
use Rattle.sym_table.specs.declared.chunk.Chunk.{Chunk}
use Rattle.sym_table.specs.declared.header.Header.{Header}
use Rattle.sym_table.specs.Cutting.{Cutting}
use Rattle.sym_table.specs.Reading.{Row}
use Rattle.sym_table.specs.RowRecords.{in_turn, record_or_bad, records_or_bad}
use Rattle.sym_table.specs.Rows.{read_row}
use Rattle.sym_table.proofs.RecordsAgree.{rows_append}
use Rattle.sym_files.specs.declared.rounds.Took.{Took}
use Rattle.sym_files.specs.declared.rounds.Took.TheVariants as took
use Rattle.sym_files.specs.FileRounds.{AreDone, rounds_records}
use Rattle.sym_files.specs.Rounds.{Takes, round_records}
use Rattle.sym_files.specs.Taking.{AreCut, CutsRound, full_round, rows_of}
use Rattle.sym_files.specs.Telling.{BeginWith, HasTold, Point, Tells, TellsRound, TellsRows, TellsSome, tells_by}
use Rattle.sym_files.specs.Telling as point
use Rattle.sym_files.proofs.RoundLists.{Rounds, are_rounds, one_full_more, one_round_more, records_more, still_full}
use Rattle.sym_files.proofs.Walks.{alone, first_alone, left_is, records_many, round_next, some_rows, some_rows_of}

-- ---- a round has as many records as rows
pub turn_splits : (a b : Result (List Record) Bad) (rs : List Record) → in_turn a b ≡ Ok rs
    → (x : List Record) × (y : List Record) × (a ≡ Ok x) × (b ≡ Ok y) × (x ++ y ≡ rs)
turn_splits (Err e) b rs is = absurd (cc)
turn_splits (Ok x) (Err e) rs is = absurd (cc)
turn_splits (Ok x) (Ok y) rs is = (x, y, refl, refl, cc)

pub round_many : (p : ScriptPlan) (shown : Row → Row) (cuts : List Chunk) (records : List Record) → round_records p shown cuts ≡ Ok records
    → length records ≡ length (rows_of cuts)
round_many p shown [] records is = let none : records ≡ [] = cc in ap length none
round_many p shown (cut ∷ cuts) records is =
    let parts = turn_splits (records_or_bad p cut.header cut.first_no (map shown cut.rows)) (round_records p shown cuts) records is in
    let first = records_many p cut.header cut.first_no (map shown cut.rows) parts.0 parts.2 in
    let rest = round_many p shown cuts parts.1 parts.3 in
    omega (arith, first, rest, sym (ap length parts.4), length-append parts.0 parts.1, length-map cut.rows shown, length-append cut.rows (rows_of cuts))

-- ---- where a row that is no record stands
turn_breaks : (a b : Result (List Record) Bad) (bad : Bad) → in_turn a b ≡ Err bad → (a ≡ Err bad) ⊎ (b ≡ Err bad)
turn_breaks (Err e) b bad is = inl is
turn_breaks (Ok x) (Err e) bad is = inr is
turn_breaks (Ok x) (Ok y) bad is = absurd (cc)

row_bad : (n : ℕ) (read : Result (List Value) BadCause) (bad : Bad) → alone (record_or_bad n read) ≡ Err bad → bad.no ≡ n
row_bad n (Ok values) bad is = absurd (cc)
row_bad n (Err why) bad is =
    let same : ◌≡◌ {A = Bad} (record { no = n; cause = why }) bad = cc in sym (ap (λ (b : Bad). b.no) same)

rows_bad : (p : ScriptPlan) (header : Header) (n : ℕ) (rows : List Row) (bad : Bad) → records_or_bad p header n rows ≡ Err bad
    → (n ≤ bad.no) × (bad.no < n + length rows)
rows_bad p header n [] bad is = absurd (cc)
rows_bad p header n (row ∷ rows) bad is =
    ⊎_elim
    (λ (here : alone (record_or_bad n (read_row p.enums p.fields header row)) ≡ Err bad).
    let at = row_bad n (read_row p.enums p.fields header row) bad here in (omega (arith, at), omega (arith, at)))
    (λ (later : records_or_bad p header (n + 1) rows ≡ Err bad).
    let at = rows_bad p header (n + 1) rows bad later in (omega (arith, at.0), omega (arith, at.1)))
    (turn_breaks (alone (record_or_bad n (read_row p.enums p.fields header row))) (records_or_bad p header (n + 1) rows) bad
    (sym (first_alone (record_or_bad n (read_row p.enums p.fields header row)) (records_or_bad p header (n + 1) rows)) ∙ is))

-- ---- how far the rows are told of
pub record IsToldTo {S : Type 0} (told : Tells S) (p : ScriptPlan) (header : Header) (shown : Row → Row) (per first : ℕ) (rows : List Row) (before : Rounds)
    (now : S) (c : Cutting) : Type 0 where
  pub rounds : Rounds
  pub taken : List Row
  pub left : List Row
  pub has : c.left ≡ Some left
  pub are : rows ≡ taken ++ left
  pub read : records_or_bad p header first (map shown taken) ≡ Ok (rounds_records rounds)
  pub next_is : c.next_no ≡ first + length taken
  pub full : AreDone per rounds left
  pub told_of : told now point.between (before ++ rounds)

abbrev begins : {S : Type 0} (told : Tells S) (p : ScriptPlan) (header : Header) (shown : Row → Row) (per first : ℕ) (rows : List Row) (before : Rounds) (now : S) (c : Cutting)
    → (t : IsToldTo told p header shown per first rows before now c) → BeginWith p header shown first rows t.rounds
begins told p header shown per first rows before now c t = record { taken = t.taken; rest = t.left; are = t.are; read = t.read }

told_begins : {S : Type 0} (told : Tells S) (p : ScriptPlan) (shown : Row → Row) (per : ℕ) (before : Rounds) (now : S) (c : Cutting)
    → IsSome c.left → told now point.between before → IsToldTo told p c.header shown per c.next_no (unwrap_or c.left []) before now c
told_begins told p shown per before now c some stands = record {
  rounds = [];
  taken = [];
  left = unwrap_or c.left [];
  has = left_is c.left some;
  are = refl;
  read = refl;
  next_is = omega arith;
  full = inl (All-nil (λ (round : List Record). length round ≡ per));
  told_of = subst (λ (r : Rounds). told now point.between r) (sym (append-nil before)) stands;
}

-- All rows of the rounds so far, and then others.
read_on : (p : ScriptPlan) (header : Header) (shown : Row → Row) (first : ℕ) (taken more : List Row) (records : List Record)
    → records_or_bad p header first (map shown taken) ≡ Ok records
    → records_or_bad p header first (map shown (taken ++ more)) ≡ in_turn (Ok records) (records_or_bad p header (first + length taken) (map shown more))
read_on p header shown first taken more records read =
    ap (records_or_bad p header first) (map-append shown taken more)
    ∙ rows_append p header first (map shown taken) (map shown more)
    ∙ ap (λ (n : ℕ). in_turn (records_or_bad p header first (map shown taken)) (records_or_bad p header (first + n) (map shown more))) (length-map taken shown)
    ∙ ap (λ r. in_turn r (records_or_bad p header (first + length taken) (map shown more))) read

turn_last : (r : Result (List Record) Bad) → in_turn r (Ok []) ≡ r
turn_last (Err e) = refl
turn_last (Ok x) = ap Ok (append-nil x)

-- What the rows of a round that is cut off are read as.
cut_read : (p : ScriptPlan) (header : Header) (shown : Row → Row) (c d : Cutting) (cuts : List Chunk) → c.header ≡ header → AreCut c d cuts
    → records_or_bad p header c.next_no (map shown (rows_of cuts)) ≡ round_records p shown cuts
cut_read p header shown c d cuts same cut =
    let P : Header → Type 0 = λ h. All (λ (k : Chunk). k.header ≡ h) cuts in
    ap (λ r. records_or_bad p header c.next_no (map shown r)) (sym (append-nil (rows_of cuts)))
    ∙ round_next p header shown c.next_no cuts [] (subst P same cut.headers) cut.numbers
    ∙ turn_last (round_records p shown cuts)

left_rows : {S : Type 0} (told : Tells S) (p : ScriptPlan) (header : Header) (shown : Row → Row) (per first : ℕ) (rows : List Row) (before : Rounds) (now : S) (c d : Cutting) (cuts : List Chunk)
    → (t : IsToldTo told p header shown per first rows before now c) → (cut : AreCut c d cuts) → t.left ≡ rows_of cuts ++ cut.rest
left_rows told p header shown per first rows before now c d cuts t cut = some_rows t.left (rows_of cuts ++ cut.rest) (sym t.has ∙ cut.had)

-- One round more.
told_more : {S : Type 0} (told : Tells S) (p : ScriptPlan) (header : Header) (shown : Row → Row) (per first : ℕ) (rows : List Row) (before : Rounds) (now new : S) (c d : Cutting) (cuts : List Chunk)
    (records : List Record)
    → (t : IsToldTo told p header shown per first rows before now c) → c.header ≡ header → CutsRound c d cuts → full_round c.chunk ≡ per → 1 ≤ length (rows_of cuts)
    → round_records p shown cuts ≡ Ok records → told new point.between ((before ++ t.rounds) ++ records ∷ [])
    → IsToldTo told p header shown per first rows before new d
told_more told p header shown per first rows before now new c d cuts records t same round size some read told_of =
    let cut = round.cut in
    let left = left_rows told p header shown per first rows before now c d cuts t cut in
    let all_full = still_full per t.rounds t.left t.full (omega (arith, ap length left, length-append (rows_of cuts) cut.rest, some)) in
    let many : length records ≡ length (rows_of cuts) = round_many p shown cuts records read in
    let this_round : records_or_bad p header (first + length t.taken) (map shown (rows_of cuts)) ≡ Ok records =
    ap (λ n. records_or_bad p header n (map shown (rows_of cuts))) (sym t.next_is) ∙ cut_read p header shown c d cuts same cut ∙ read in
    record {
      rounds = t.rounds ++ records ∷ [];
      taken = t.taken ++ rows_of cuts;
      left = cut.rest;
      has = cut.has;
      are = t.are ∙ ap (λ r. t.taken ++ r) left ∙ sym (append_assoc t.taken (rows_of cuts) cut.rest);
      read =
          read_on p header shown first t.taken (rows_of cuts) (rounds_records t.rounds) t.read
          ∙ ap (in_turn (Ok (rounds_records t.rounds))) this_round
          ∙ ap Ok (sym (records_more t.rounds records));
      next_is = omega (arith, cut.next, t.next_is, length-append t.taken (rows_of cuts));
      full =
          ⊎_elim
          (λ (short : length (rows_of cuts) < per).
          inr (
            one_round_more per t.rounds records all_full (omega (arith, many, some)) (omega (arith, many, short)),
            some_rows cut.rest [] (sym cut.has ∙ round.full (omega (arith, short, size))),
          ))
          (λ (whole : per ≤ length (rows_of cuts)). inl (one_full_more per t.rounds records all_full (omega (arith, many, whole, round.rows, size))))
          (cases_lt (length (rows_of cuts)) per);
      told_of = subst (λ (r : Rounds). told new point.between r) (append_assoc before t.rounds (records ∷ [])) told_of;
    }

-- ---- a round that is cut off and isn't taken yet
pub record IsToldAhead {S : Type 0} (told : Tells S) (p : ScriptPlan) (header : Header) (shown : Row → Row) (per first : ℕ) (rows : List Row) (before : Rounds)
    (now : S) (c : Cutting) (cuts : List Chunk) : Type 0 where
  pub from : Cutting
  pub to : IsToldTo told p header shown per first rows before now from
  pub header_is : from.header ≡ header
  pub size : full_round from.chunk ≡ per
  pub cut : CutsRound from c cuts

pub ahead_told : {S : Type 0} (told : Tells S) (p : ScriptPlan) (shown : Row → Row) (before : Rounds) (now : S) (c d : Cutting) (cuts : List Chunk)
    → IsSome c.left → CutsRound c d cuts → told now point.between before
    → IsToldAhead told p c.header shown (full_round c.chunk) c.next_no (unwrap_or c.left []) before now d cuts
ahead_told told p shown before now c d cuts some cut stands = record {
  from = c;
  to = told_begins told p shown (full_round c.chunk) before now c some stands;
  header_is = refl;
  size = refl;
  cut = cut;
}

-- The round is taken, and the next one is cut off.
pub ahead_told_on : {S : Type 0} (told : Tells S) (p : ScriptPlan) (header : Header) (shown : Row → Row) (per first : ℕ) (rows : List Row) (before : Rounds) (now new : S) (c d : Cutting) (cuts more : List Chunk)
    → (is : IsToldAhead told p header shown per first rows before now c cuts) → 1 ≤ length cuts
    → TellsRound told (round_records p shown cuts) (before ++ is.to.rounds) new (Ok took.Done) → CutsRound c d more
    → IsToldAhead told p header shown per first rows before new d more
ahead_told_on told p header shown per first rows before now new c d cuts more is many tells cut = record {
  from = c;
  to =
      told_more told p header shown per first rows before now new is.from c cuts tells.0 is.to is.header_is is.cut is.size
      (some_rows_of cuts is.cut.cut.filled many) tells.1 tells.2;
  header_is = is.cut.header ∙ is.header_is;
  size = ap full_round is.cut.chunk ∙ is.size;
  cut = cut;
}

-- No row is left.
pub ahead_told_ends : {S : Type 0} (told : Tells S) (p : ScriptPlan) (header : Header) (shown : Row → Row) (per first : ℕ) (rows : List Row) (before : Rounds) (now : S) (c : Cutting) (cuts : List Chunk)
    → IsToldAhead told p header shown per first rows before now c cuts → cuts ≡ []
    → TellsRows told p header shown per first rows before now (Ok took.Done)
ahead_told_ends told p header shown per first rows before now c cuts is none =
    let t = is.to in
    let left : t.left ≡ [] = some_rows t.left [] (sym t.has ∙ is.cut.ended none) in
    let same : rows ≡ t.taken = t.are ∙ ap (λ r. t.taken ++ r) left ∙ append-nil t.taken in
    record {
      rounds = t.rounds;
      are = are_rounds per t.rounds t.left t.full;
      read_as = ap (λ r. records_or_bad p header first (map shown r)) same ∙ t.read;
      told_of = t.told_of;
    }

-- A row of the round is no record.
pub ahead_told_bad : {S : Type 0} (told : Tells S) (p : ScriptPlan) (header : Header) (shown : Row → Row) (per first : ℕ) (rows : List Row) (before : Rounds) (now new : S) (c : Cutting) (cuts : List Chunk) (bad : Bad)
    → (is : IsToldAhead told p header shown per first rows before now c cuts) → 1 ≤ length cuts
    → TellsRound told (round_records p shown cuts) (before ++ is.to.rounds) new (Ok (took.Bad bad))
    → TellsRows told p header shown per first rows before new (Ok (took.Bad bad))
ahead_told_bad told p header shown per first rows before now new c cuts bad is many tells =
    let t = is.to in
    let cut = is.cut.cut in
    let some = some_rows_of cuts cut.filled many in
    let left = left_rows told p header shown per first rows before now is.from c cuts t cut in
    let count : length (rounds_records t.rounds) ≡ length t.taken =
    records_many p header first (map shown t.taken) (rounds_records t.rounds) t.read ∙ length-map t.taken shown in
    let at = rows_bad p header is.from.next_no (map shown (rows_of cuts)) bad (cut_read p header shown is.from c cuts is.header_is cut ∙ tells.0) in
    record {
      rounds = t.rounds;
      full = still_full per t.rounds t.left t.full (omega (arith, ap length left, length-append (rows_of cuts) cut.rest, some));
      begins = begins told p header shown per first rows before now is.from t;
      within = record {
        low = omega (arith, at.0, count, t.next_is);
        high = omega (arith, at.1, count, t.next_is, length-map (rows_of cuts) shown, is.cut.rows, is.size);
      };
      told_of = tells.1;
    }

-- An allocation failed.
pub ahead_told_refused : {S : Type 0} (told : Tells S) (p : ScriptPlan) (header : Header) (shown : Row → Row) (per first : ℕ) (rows : List Row) (before : Rounds) (now new : S) (c : Cutting) (cuts : List Chunk) (e : NoMemory)
    → (is : IsToldAhead told p header shown per first rows before now c cuts) → 1 ≤ length cuts
    → TellsRound told (round_records p shown cuts) (before ++ is.to.rounds) new (Err e)
    → TellsRows told p header shown per first rows before new (Err e)
ahead_told_refused told p header shown per first rows before now new c cuts e is many (inl stopped) =
    let t = is.to in
    record {
      rounds = t.rounds;
      begins = record { begin = begins told p header shown per first rows before now is.from t; done = t.full };
      point = point.at_refusal;
      told_of = stopped;
    }
ahead_told_refused told p header shown per first rows before now new c cuts e is many (inr done) =
    let t =
    told_more told p header shown per first rows before now new is.from c cuts done.0 is.to is.header_is is.cut is.size
    (some_rows_of cuts is.cut.cut.filled many) done.1 done.2 in
    record {
      rounds = t.rounds;
      begins = record { begin = begins told p header shown per first rows before new c t; done = t.full };
      point = point.between;
      told_of = t.told_of;
    }

-- An allocation failed before the first round.
pub none_told : {S : Type 0} (told : Tells S) (p : ScriptPlan) (shown : Row → Row) (per : ℕ) (before : Rounds) (now : S) (c : Cutting) (e : NoMemory)
    → IsSome c.left → told now point.between before
    → TellsRows told p c.header shown per c.next_no (unwrap_or c.left []) before now (Err e)
none_told told p shown per before now c e some stands =
    let t = told_begins told p shown per before now c some stands in
    record {
      rounds = t.rounds;
      begins = record { begin = begins told p c.header shown per c.next_no (unwrap_or c.left []) before now c t; done = t.full };
      point = point.between;
      told_of = t.told_of;
    }

-- ---- what a round came to, by the script and what is shown as they were, and by the answer
pub told_as : {S : Type 0} (told : S → S → ScriptPlan → Point → Rounds → Type 0) (p q : ScriptPlan) (start : S) (f g : Row → Row) (cuts : List Chunk) (before : Rounds) (new : S)
    (r s : Result Took NoMemory) → p ≡ q → f ≡ g → r ≡ s
    → TellsRound (tells_by told p start) (round_records p f cuts) before new r → TellsRound (tells_by told q start) (round_records q g cuts) before new s
told_as told p q start f g cuts before new r s plan shown same tells =
    let P : ScriptPlan → Type 0 = λ x. TellsRound (tells_by told x start) (round_records x f cuts) before new r in
    let F : (Row → Row) → Type 0 = λ x. TellsRound (tells_by told q start) (round_records q x cuts) before new r in
    let T : Result Took NoMemory → Type 0 = λ x. TellsRound (tells_by told q start) (round_records q g cuts) before new x in
    subst T same (subst F shown (subst P plan tells))

-- What is told between rounds, by the script as it was.
pub between_as : {S : Type 0} (told : S → S → ScriptPlan → Point → Rounds → Type 0) (p q : ScriptPlan) (start : S) (before : Rounds) (now : S) → p ≡ q
    → told start now q point.between before → told start now p point.between before
between_as told p q start before now plan at =
    let P : ScriptPlan → Type 0 = λ x. told start now x point.between before in subst P (sym plan) at

-- What is told after a round, by what it came to.
pub round_tells : {S : Type 0} (told : Tells S) (stands : S → List Record → Type 0) (read : Result (List Record) Bad) (before : Rounds) (old new : S) (r : Result Took NoMemory)
    → IfOk r (Takes stands read old new) → HasTold told read before new r → TellsRound told read before new r
round_tells told stands read before old new (Ok took.Done) takes tells = (takes.0, takes.1, tells takes.0 takes.1)
round_tells told stands read before old new (Ok (took.Bad bad)) takes tells = (takes, tells)
round_tells told stands read before old new (Err e) takes tells = inl tells

-- Where nothing is told of.
abbrev pub nothing : {S : Type 0} → Tells S
nothing x point rounds = Unit {0}

pub untold_round : {S R : Type 0} (stands : R → List Record → Type 0) (read : Result (List Record) Bad) (before : Rounds) (new : S) (old now : R) (r : Result Took NoMemory)
    → IfOk r (Takes stands read old now) → TellsRound nothing read before new r
untold_round stands read before new old now (Ok took.Done) takes = (takes.0, takes.1, tt)
untold_round stands read before new old now (Ok (took.Bad bad)) takes = (takes, tt)
untold_round stands read before new old now (Err e) takes = inl tt

-- ---- errors that are passed on
pub refused_as : {A : Type 0} (r : Result A NoMemory) (Q : NoMemory → Type 0) (P : Result A NoMemory → Type 0) → IsErrAnd r Q → ((e : NoMemory) → P (Err e)) → P r
refused_as (Ok x) Q P is holds = absurd is
refused_as (Err e) Q P is holds = holds e

-- What a file's rows came to, by how many records a full round has.
pub rows_per : {S : Type 0} (told : Tells S) (p : ScriptPlan) (header : Header) (shown : Row → Row) (per m first : ℕ) (rows : List Row) (before : Rounds) (new : S) (r s : Result Took NoMemory)
    → per ≡ m → r ≡ s → TellsRows told p header shown per first rows before new r → TellsRows told p header shown m first rows before new s
rows_per told p header shown per m first rows before new r s same as_was tells =
    let N : ℕ → Type 0 = λ n. TellsRows told p header shown n first rows before new r in
    let T : Result Took NoMemory → Type 0 = λ x. TellsRows told p header shown m first rows before new x in subst T as_was (subst N same tells)

pub some_per : (chunk : ℕ) → 1 ≤ chunk → 1 ≤ full_round chunk
some_per chunk some = omega arith
