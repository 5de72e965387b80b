-- The rows of a chunk, taken into groups one after the other.
use Rattle.std.proofs.Common.{◌≡◌, ◌∙◌, ap, ap₂, sym, refl, subst, arith, ℕ, Bool, cond, ◌+◌, List, [], ◌∷◌, ◌++◌, Option, Some, None, is_some, true, false, Result, Ok, Err, length, take, drop}
use Rattle.std.proofs.lemmas.List.{append-nil, append_assoc, length-take-le}
use Rattle.std.proofs.lemmas.Option.{slice_get_within}
use Rattle.std.specs.Prelude.{slice_get}
use Rattle.sym_base.specs.declared.values.value.Key.{Key}
use Rattle.sym_base.specs.declared.values.value.Value.{Value}
use Rattle.sym_base.specs.declared.values.record.Record.{Record}
use Rattle.sym_check.specs.Meaning.Arithmetic.{and_then}
use Rattle.sym_check.specs.Meaning.Groups.{key_of}
use Rattle.sym_check.specs.Plan.ScriptPlans.{ScriptPlan}
use Rattle.sym_check.proofs.Keys.{same_key}
use Rattle.sym_path.proofs.Lists.{drop_get, take_and_drop, take_get}
use Rattle.sym_table.specs.declared.bad.Bad.{Bad}
use Rattle.sym_table.specs.declared.bad.BadCause.{BadCause}
use Rattle.sym_table.specs.declared.bad.Decoded.{Decoded}
use Rattle.sym_table.specs.declared.bad.Decoded.TheVariants as decoded
use Rattle.sym_table.specs.declared.header.Header.{Header}
use Rattle.sym_table.specs.Decoding.{Fills, numbered}
use Rattle.sym_table.specs.Reading.{Row}
use Rattle.sym_table.specs.RowRecords.{in_turn, record_or_bad, records_or_bad}
use Rattle.sym_table.specs.Rows.{read_row}
use Rattle.sym_table.proofs.RecordsAgree.{rows_append}
use Rattle.sym_run.specs.Growing.{ExtendsByOne, Grows, GrowsByOne, TakesOn}
use Rattle.sym_run.specs.Kinds.{EachStandsFor, Kind, by_extension}
use Rattle.sym_run.specs.Opened.{OpenGroupsAreExtended, OpenGroupsAreTight, OpenGroupsFit, OpenGroupsKeepNone, OpenGroupsStandFor, open_kind}
use Rattle.sym_run.specs.declared.opened.Open.{Open}
use Rattle.sym_run.proofs.JoinedGroups.{grown_closed, grown_fit, grown_tight, joined_all, joined_none, joined_on}

abbrev Groups : Type 0
Groups = List (Key × Open)

-- The groups of one record more.
one_record : (kind : Kind Open) (p : ScriptPlan) (limit most : ℕ) (records : List Record) (rec : Record) (old new : Groups) → Grows kind p limit (key_of p rec) (λ rest. rest ≡ rec ∷ []) (most ≡ 0) old new
    → EachStandsFor kind p records old → EachStandsFor kind p (records ++ rec ∷ []) new
one_record kind p limit most records rec old new g h =
    joined_all kind p limit records (rec ∷ []) new
    (joined_on kind p limit records (rec ∷ []) [] (key_of p rec) (λ rest. rest ≡ rec ∷ []) (most ≡ 0) old new refl g
    (ap (λ (b : Bool). cond b (rec ∷ []) []) (same_key (key_of p rec)))
    (joined_none kind p limit records (rec ∷ []) old h))

-- The groups stand for the records for which the first ones stood, and then those of the first rows.
pub record IsTaking (p : ScriptPlan) (limit most : ℕ) (header : Header) (n : ℕ) (rows : List Row) (first groups : Groups) : Type 0 where
  pub records : List Record
  pub are : records_or_bad p header n rows ≡ Ok records
  pub stand : (before : List Record) → OpenGroupsStandFor p before first → OpenGroupsStandFor p (before ++ records) groups
  pub fits : OpenGroupsFit p groups
  pub tight : OpenGroupsAreTight p limit groups
  pub closed : most ≡ 0 → OpenGroupsKeepNone first → OpenGroupsKeepNone groups
  pub extended : most ≡ 0 → (before : List Record) → OpenGroupsAreExtended p limit before first → OpenGroupsAreExtended p limit (before ++ records) groups

-- ---- one row
record_is : (n : ℕ) (read : Result (List Value) BadCause) (rec : Record) → numbered n read ≡ decoded.Is rec → record_or_bad n read ≡ Ok rec
record_is n (Ok values) rec e = let same : record { no = n; fields = values } ≡ rec = cc in ap Ok same
record_is n (Err why) rec e = cc

bad_is : (n : ℕ) (read : Result (List Value) BadCause) (bad : Bad) → numbered n read ≡ decoded.Bad bad → record_or_bad n read ≡ Err bad
bad_is n (Ok values) bad e = cc
bad_is n (Err why) bad e = let same : record { no = n; cause = why } ≡ bad = cc in ap Err same

one_row : (p : ScriptPlan) (header : Header) (n : ℕ) (row : Row) (rec : Record) → numbered n (read_row p.enums p.fields header row) ≡ decoded.Is rec → records_or_bad p header n (row ∷ []) ≡ Ok (rec ∷ [])
one_row p header n row rec e =
    ap (λ (found : Result Record Bad). and_then (λ rec. and_then (λ others. Ok (rec ∷ others)) (Ok [])) found)
    (record_is n (read_row p.enums p.fields header row) rec e)

bad_row : (p : ScriptPlan) (header : Header) (n : ℕ) (row : Row) (rows : List Row) (bad : Bad) → numbered n (read_row p.enums p.fields header row) ≡ decoded.Bad bad → records_or_bad p header n (row ∷ rows) ≡ Err bad
bad_row p header n row rows bad e =
    ap (λ (found : Result Record Bad). and_then (λ rec. and_then (λ others. Ok (rec ∷ others)) (records_or_bad p header (n + 1) rows)) found)
    (bad_is n (read_row p.enums p.fields header row) bad e)

-- ---- rows so far, and the next
taken_length : (rows : List Row) (i : ℕ) (row : Row) → slice_get rows i ≡ Some row → length (take i rows) ≡ i
taken_length rows i row at = let within = slice_get_within rows i row at in length-take-le i rows (omega arith)

pub taking_on : (p : ScriptPlan) (limit most : ℕ) (header : Header) (n : ℕ) (rows : List Row) (i : ℕ) (row : Row) (rec : Record) (first old new : Groups) → IsTaking p limit most header n (take i rows) first old → slice_get rows i ≡ Some row
    → numbered (n + i) (read_row p.enums p.fields header row) ≡ decoded.Is rec → GrowsByOne p limit most (key_of p rec) rec old new
    → (most ≡ 0 → ExtendsByOne p limit most (key_of p rec) rec old new) → IsTaking p limit most header n (take (i + 1) rows) first new
taking_on p limit most header n rows i row rec first old new h at is g extends = record {
  records = h.records ++ rec ∷ [];
  are =
      ap (records_or_bad p header n) (take_get rows i row at)
      ∙ rows_append p header n (take i rows) (row ∷ [])
      ∙ ap₂ in_turn h.are (ap (λ m. records_or_bad p header (n + m) (row ∷ [])) (taken_length rows i row at) ∙ one_row p header (n + i) row rec is);
  stand = λ before s.
      subst (λ (rs : List Record). OpenGroupsStandFor p rs new) (append_assoc before h.records (rec ∷ []))
      (one_record open_kind p limit most (before ++ h.records) rec old new g (h.stand before s));
  fits = grown_fit open_kind p limit (key_of p rec) (λ rest. rest ≡ rec ∷ []) (most ≡ 0) old new g h.fits;
  tight = grown_tight open_kind p limit (key_of p rec) (λ rest. rest ≡ rec ∷ []) (most ≡ 0) old new g h.tight;
  closed = λ none before. grown_closed open_kind p limit (key_of p rec) (λ rest. rest ≡ rec ∷ []) (most ≡ 0) old new g none (h.closed none before);
  extended = λ none before s.
      subst (λ (rs : List Record). OpenGroupsAreExtended p limit rs new) (append_assoc before h.records (rec ∷ []))
      (one_record (by_extension limit open_kind) p limit most (before ++ h.records) rec old new (extends none) (h.extended none before s));
}

-- The row is the first that is no record.
pub taken_bad : (p : ScriptPlan) (limit most : ℕ) (header : Header) (n : ℕ) (rows : List Row) (i : ℕ) (row : Row) (bad : Bad) (first groups : Groups) → IsTaking p limit most header n (take i rows) first groups → slice_get rows i ≡ Some row
    → numbered (n + i) (read_row p.enums p.fields header row) ≡ decoded.Bad bad → records_or_bad p header n rows ≡ Err bad
taken_bad p limit most header n rows i row bad first groups h at is =
    ap (records_or_bad p header n) (sym (take_and_drop i rows) ∙ ap (λ (rs : List Row). take i rows ++ rs) (drop_get rows i row at))
    ∙ rows_append p header n (take i rows) (row ∷ drop (i + 1) rows)
    ∙ ap₂ in_turn h.are (ap (λ m. records_or_bad p header (n + m) (row ∷ drop (i + 1) rows)) (taken_length rows i row at) ∙ bad_row p header (n + i) row (drop (i + 1) rows) bad is)

pub taking_none : (p : ScriptPlan) (limit most : ℕ) (header : Header) (n : ℕ) (groups : Groups) → OpenGroupsFit p groups → OpenGroupsAreTight p limit groups → IsTaking p limit most header n [] groups groups
taking_none p limit most header n groups fits tight = record {
  records = [];
  are = refl;
  stand = λ before s. subst (λ (rs : List Record). OpenGroupsStandFor p rs groups) (sym (append-nil before)) s;
  fits = fits;
  tight = tight;
  closed = λ none before. before;
  extended = λ none before s. subst (λ (rs : List Record). OpenGroupsAreExtended p limit rs groups) (sym (append-nil before)) s;
}

-- All rows are records.
pub taken_all : (p : ScriptPlan) (limit most : ℕ) (header : Header) (n : ℕ) (rows : List Row) (first groups : Groups) → IsTaking p limit most header n rows first groups → TakesOn p limit (records_or_bad p header n rows) first None groups
taken_all p limit most header n rows first groups h =
    subst (λ (found : Result (List Record) Bad). TakesOn p limit found first None groups) (sym h.are) (refl, h.tight, h.stand)

pub extended_all : (p : ScriptPlan) (limit most : ℕ) (header : Header) (n : ℕ) (rows : List Row) (first groups : Groups) (before records : List Record) → IsTaking p limit most header n rows first groups → most ≡ 0 → records_or_bad p header n rows ≡ Ok records
    → OpenGroupsAreExtended p limit before first → OpenGroupsAreExtended p limit (before ++ records) groups
extended_all p limit most header n rows first groups before records h none e s =
    let found : Ok h.records ≡ Ok records = sym h.are ∙ e in
    let same : h.records ≡ records = cc in
    subst (λ (rs : List Record). OpenGroupsAreExtended p limit (before ++ rs) groups) same (h.extended none before s)

-- ---- what decoding told
pub record_told : (bad : Option Bad) (rec : Record) (d : Decoded) → is_some bad ≡ false → Fills bad rec d → d ≡ decoded.Is rec
record_told None rec d e h = h
record_told (Some bad) rec d e h = cc

pub bad_told : (p : ScriptPlan) (limit most : ℕ) (header : Header) (n : ℕ) (rows : List Row) (i : ℕ) (row : Row) (bad : Option Bad) (rec : Record) (first groups : Groups) → IsTaking p limit most header n (take i rows) first groups → slice_get rows i ≡ Some row
    → is_some bad ≡ true → Fills bad rec (numbered (n + i) (read_row p.enums p.fields header row)) → TakesOn p limit (records_or_bad p header n rows) first bad groups
bad_told p limit most header n rows i row None rec first groups h at e told = cc
bad_told p limit most header n rows i row (Some bad) rec first groups h at e told =
    subst (λ (found : Result (List Record) Bad). TakesOn p limit found first (Some bad) groups) (sym (taken_bad p limit most header n rows i row bad first groups h at told)) refl

-- Not all rows are records where one was told to be none.
pub bad_there : (p : ScriptPlan) (limit most : ℕ) (header : Header) (n : ℕ) (rows : List Row) (i : ℕ) (row : Row) (bad : Option Bad) (rec : Record) (first groups : Groups) (records : List Record) → IsTaking p limit most header n (take i rows) first groups
    → slice_get rows i ≡ Some row → is_some bad ≡ true → Fills bad rec (numbered (n + i) (read_row p.enums p.fields header row)) → records_or_bad p header n rows ≡ Ok records → ⊥
bad_there p limit most header n rows i row None rec first groups records h at e told all = cc
bad_there p limit most header n rows i row (Some bad) rec first groups records h at e told all =
    let other : Err bad ≡ Ok records = sym (taken_bad p limit most header n rows i row bad first groups h at told) ∙ all in
    cc
