-- Replays that go on, record by record and chunk by chunk.
use Rattle.std.proofs.Common.{◌≡◌, ◌∙◌, ap, ap₂, sym, refl, subst, arith, ℕ, ◌+◌, ◌<◌, if◌then◌else◌, List, [], ◌∷◌, ◌++◌, append-nil, append_assoc, length, drop, get_or, Option, Some, None, is_some, true, false, Result, Ok, Err}
use Rattle.std.specs.Map.{lookup}
use Rattle.sym_base.specs.declared.values.value.Key.{Key}
use Rattle.sym_base.specs.declared.values.value.Value.{Value}
use Rattle.sym_base.specs.declared.values.record.Record.{Record}
use Rattle.sym_base.specs.declared.values.state.Outcome.{Outcome}
use Rattle.sym_check.specs.Meaning.Arithmetic.{and_then}
use Rattle.sym_check.specs.Meaning.Groups.{is_key, key_of, records_of}
use Rattle.sym_check.specs.Meaning.Updates.{after, step}
use Rattle.sym_check.specs.Plan.ScriptPlans.{ScriptPlan}
use Rattle.sym_plain.specs.Pairs.{after_record, after_records, standing}
use Rattle.sym_plain.proofs.Apart.{records_on}
use Rattle.sym_plain.proofs.Puts.{lookup-put-same}
use Rattle.sym_table.specs.declared.bad.Bad.{Bad as BadRow}
use Rattle.sym_table.specs.declared.bad.BadCause.{BadCause}
use Rattle.sym_table.specs.declared.bad.Decoded.TheVariants as decoded
use Rattle.sym_table.specs.declared.chunk.Chunk.{Chunk}
use Rattle.sym_table.specs.declared.header.Header.{Header}
use Rattle.sym_table.specs.ChunkRecords.{all_records, chunk_records}
use Rattle.sym_table.specs.Decoding.{Fills, numbered}
use Rattle.sym_table.specs.Reading.{Row}
use Rattle.sym_table.specs.RowRecords.{in_turn, record_or_bad, records_or_bad}
use Rattle.sym_table.specs.Rows.{read_row}
use Rattle.sym_scan.specs.declared.replays.Progress.{Progress}
use Rattle.sym_scan.specs.declared.replays.Replayed.TheVariants.{Rows, Bad}
use Rattle.sym_scan.specs.declared.rows.TraceRow.{TraceRow}
use Rattle.sym_scan.specs.Traces.{from_groups, is_shown, row_after, rows_after}
use Rattle.sym_scan.specs.Replays.{GoesOn, replayed_to, row_of}
use Rattle.sym_scan.proofs.Found.{Found, both_before, none_before}
use Rattle.sym_scan.proofs.Lists.{left_from}
use Rattle.sym_scan.proofs.Standing.{Pairs, rows_then, stand_after}

-- ---- one record
abbrev pub row_with : ℕ → Key → Outcome → TraceRow
row_with number key outcome = record { no = number; key = key; outcome = outcome }

-- The row of a record whose group has made its step.
row_is : (p : ScriptPlan) (rec : Record) (groups : Pairs)
    → row_of rec.no (key_of p rec) (lookup (is_key (key_of p rec)) (after_record p rec groups)) ≡ row_after p (from_groups p groups) [] rec ∷ []
row_is p rec groups =
    let k : Key = key_of p rec in
    let o : Outcome = step p (from_groups p groups k) rec in
    let found : lookup (is_key k) (after_record p rec groups) ≡ Some o = lookup-put-same k o groups in
    let is : o ≡ after p (records_of p k (rec ∷ [])) (from_groups p groups k) = ap (standing p) (sym found) ∙ stand_after p (rec ∷ []) groups k in
    ap (row_of rec.no k) found ∙ ap (λ (u : Outcome). row_with rec.no k u ∷ []) is

pub record_taken : (p : ScriptPlan) (every : ℕ) (rec : Record) (old new : Progress) → new.groups ≡ after_record p rec old.groups
    → new.rows.items ≡ old.rows.items ++ (if is_shown every rec then row_of rec.no (key_of p rec) (lookup (is_key (key_of p rec)) new.groups) else [])
    → GoesOn p every (Ok (rec ∷ [])) old None new
record_taken p every rec old new groups rows =
    let k : Key = key_of p rec in (
      refl,
      groups,
      rows
          ∙ ap (λ (gs : Pairs). old.rows.items ++ (if is_shown every rec then row_of rec.no k (lookup (is_key k) gs) else [])) groups
          ∙ ap (λ (row : List TraceRow). old.rows.items ++ (if is_shown every rec then row else [])) (row_is p rec old.groups)
          ∙ ap (λ (row : List TraceRow). old.rows.items ++ row) (sym (append-nil (if is_shown every rec then row_after p (from_groups p old.groups) [] rec ∷ [] else []))),
    )

-- ---- records in turn
-- The progress from some groups and rows on: records of what was found are taken, and `rest` is what
-- is left.
pub record IsReplaying (p : ScriptPlan) (every : ℕ) (found rest : Result (List Record) BadRow) (first : List (Key × Outcome)) (shown : List TraceRow) (now : Progress) : Type 0 where
  pub records : List Record
  pub are : found ≡ in_turn (Ok records) rest
  pub groups : now.groups ≡ after_records p records first
  pub rows : now.rows.items ≡ shown ++ rows_after p every (from_groups p first) [] records

pub replaying_none : (p : ScriptPlan) (every : ℕ) (found : Result (List Record) BadRow) (first : List (Key × Outcome)) (shown : List TraceRow) (now : Progress)
    → now.groups ≡ first → now.rows.items ≡ shown → IsReplaying p every found found first shown now
replaying_none p every found first shown now groups rows = record {
  records = [];
  are = none_before found;
  groups = groups;
  rows = rows ∙ sym (append-nil shown);
}

replayed_some : (p : ScriptPlan) (every : ℕ) (found rest : Found) (next : List Record) (bad : Option BadRow) (first : Pairs) (shown : List TraceRow) (old new : Progress)
    → IsReplaying p every found (in_turn (Ok next) rest) first shown old → GoesOn p every (Ok next) old bad new → IsReplaying p every found rest first shown new
replayed_some p every found rest next bad first shown old new h g = record {
  records = h.records ++ next;
  are = h.are ∙ both_before h.records next rest;
  groups = g.1 ∙ ap (after_records p next) h.groups ∙ records_on p h.records next first;
  rows =
      g.2
      ∙ ap (λ (rows : List TraceRow). rows ++ rows_after p every (from_groups p old.groups) [] next) h.rows
      ∙ append_assoc shown (rows_after p every (from_groups p first) [] h.records) (rows_after p every (from_groups p old.groups) [] next)
      ∙ ap (λ (groups : Pairs). shown ++ (rows_after p every (from_groups p first) [] h.records ++ rows_after p every (from_groups p groups) [] next)) h.groups
      ∙ ap (λ (rows : List TraceRow). shown ++ rows) (sym (rows_then p every first h.records next));
}

-- A part more, of which no row is bad, and of which one is.
pub replaying_on : (p : ScriptPlan) (every : ℕ) (found part rest : Result (List Record) BadRow) (bad : Option BadRow) (first : List (Key × Outcome)) (shown : List TraceRow) (old new : Progress) → bad ≡ None
    → IsReplaying p every found (in_turn part rest) first shown old → GoesOn p every part old bad new → IsReplaying p every found rest first shown new
replaying_on p every found (Ok next) rest bad first shown old new none h g = replayed_some p every found rest next bad first shown old new h g
replaying_on p every found (Err why) rest bad first shown old new none h g = let other : Some why ≡ None = sym g ∙ none in absurd (cc)

pub replaying_bad : (p : ScriptPlan) (every : ℕ) (found part rest : Result (List Record) BadRow) (told : Option BadRow) (bad : BadRow) (first : List (Key × Outcome)) (shown : List TraceRow) (old new : Progress) → told ≡ Some bad
    → IsReplaying p every found (in_turn part rest) first shown old → GoesOn p every part old told new → found ≡ Err bad
replaying_bad p every found (Ok next) rest told bad first shown old new some h g = let none = g.0 in absurd (cc)
replaying_bad p every found (Err why) rest told bad first shown old new some h g = let same : why ≡ bad = cc in h.are ∙ ap Err same

-- Nothing is left: all records are taken.
replayed_whole : (p : ScriptPlan) (every : ℕ) (found rest : Found) (first : Pairs) (shown : List TraceRow) (now : Progress) → rest ≡ Ok [] → (h : IsReplaying p every found rest first shown now) → found ≡ Ok h.records
replayed_whole p every found rest first shown now none h = h.are ∙ ap (in_turn (Ok h.records)) none ∙ ap Ok (append-nil h.records)

pub replaying_all : (p : ScriptPlan) (every : ℕ) (found rest : Result (List Record) BadRow) (old now : Progress) → rest ≡ Ok [] → IsReplaying p every found rest old.groups old.rows.items now → GoesOn p every found old None now
replaying_all p every found rest old now none h =
    subst (λ (f : Found). GoesOn p every f old None now) (sym (replayed_whole p every found rest old.groups old.rows.items now none h)) (refl, h.groups, h.rows)

pub replaying_stops : (p : ScriptPlan) (every : ℕ) (found : Result (List Record) BadRow) (bad : BadRow) (old new : Progress) → found ≡ Err bad → GoesOn p every found old (Some bad) new
replaying_stops p every found bad old new all = subst (λ (f : Found). GoesOn p every f old (Some bad) new) (sym all) refl

-- What goes on from starts comes to their replay.
pub replay_told : (p : ScriptPlan) (every : ℕ) (found : Result (List Record) BadRow) (starts : List (Key × Outcome)) (old new : Progress) → GoesOn p every found old None new → old.groups ≡ starts → old.rows.items ≡ []
    → Rows new.rows.items ≡ replayed_to p every starts found
replay_told p every (Ok records) starts old new goes groups rows =
    ap Rows (goes.2 ∙ ap₂ (λ (shown : List TraceRow) (gs : Pairs). shown ++ rows_after p every (from_groups p gs) [] records) rows groups)
replay_told p every (Err why) starts old new goes groups rows = absurd (cc)

pub replay_bad : (p : ScriptPlan) (every : ℕ) (found : Result (List Record) BadRow) (starts : List (Key × Outcome)) (bad : BadRow) (old new : Progress) → GoesOn p every found old (Some bad) new → Bad bad ≡ replayed_to p every starts found
replay_bad p every (Ok records) starts bad old new goes = let none = goes.0 in absurd (cc)
replay_bad p every (Err why) starts bad old new goes = let same : bad ≡ why = cc in ap Bad same

-- ---- rows
record_is : (n : ℕ) (read : Result (List Value) BadCause) (rec : Record) → numbered n read ≡ decoded.Is rec → record_or_bad n read ≡ Ok rec
record_is n (Ok values) rec e = let same : record { no = n; fields = values } ≡ rec = cc in ap Ok same
record_is n (Err why) rec e = cc

bad_is : (n : ℕ) (read : Result (List Value) BadCause) (bad : BadRow) → numbered n read ≡ decoded.Bad bad → record_or_bad n read ≡ Err bad
bad_is n (Ok values) bad e = cc
bad_is n (Err why) bad e = let same : record { no = n; cause = why } ≡ bad = cc in ap Err same

-- What was found of the rows that are left: of the next one, and then of the others.
rows_next : (p : ScriptPlan) (header : Header) (n i : ℕ) (rows : List Row) (row : Row) (found : Result (List Record) BadRow) → i < length rows → row ≡ get_or rows i row
    → and_then (λ rec. Ok (rec ∷ [])) (record_or_bad (n + i) (read_row p.enums p.fields header row)) ≡ found
    → records_or_bad p header (n + i) (drop i rows) ≡ in_turn found (records_or_bad p header (n + (i + 1)) (drop (i + 1) rows))
rows_next p header n i rows row found within is e =
    let next : (n + i) + 1 ≡ n + (i + 1) = omega arith in
    ap (records_or_bad p header (n + i)) (left_from rows i row within is)
    ∙ ap (λ m. and_then (λ rec. and_then (λ others. Ok (rec ∷ others)) (records_or_bad p header m (drop (i + 1) rows))) (record_or_bad (n + i) (read_row p.enums p.fields header row))) next
    ∙ of (record_or_bad (n + i) (read_row p.enums p.fields header row)) (records_or_bad p header (n + (i + 1)) (drop (i + 1) rows))
    ∙ ap (λ (f : Found). in_turn f (records_or_bad p header (n + (i + 1)) (drop (i + 1) rows))) e
  where
    of : (r : Result Record BadRow) (rest : Found) → and_then (λ rec. and_then (λ others. Ok (rec ∷ others)) rest) r ≡ in_turn (and_then (λ rec. Ok (rec ∷ [])) r) rest
    of (Ok rec) (Ok rest) = refl
    of (Ok rec) (Err bad) = refl
    of (Err bad) rest = refl

pub row_replayed : (p : ScriptPlan) (every : ℕ) (header : Header) (n i : ℕ) (rows : List Row) (row : Row) (told : Option BadRow) (rec : Record) (found : Result (List Record) BadRow) (first : List (Key × Outcome)) (shown : List TraceRow) (old new : Progress)
    → i < length rows → row ≡ get_or rows i row → is_some told ≡ false → Fills told rec (numbered (n + i) (read_row p.enums p.fields header row))
    → GoesOn p every (Ok (rec ∷ [])) old None new
    → IsReplaying p every found (records_or_bad p header (n + i) (drop i rows)) first shown old → IsReplaying p every found (records_or_bad p header (n + (i + 1)) (drop (i + 1) rows)) first shown new
row_replayed p every header n i rows row (Some bad) rec found first shown old new within is none fills goes h = absurd (cc)
row_replayed p every header n i rows row None rec found first shown old new within is none fills goes h =
    let are : record_or_bad (n + i) (read_row p.enums p.fields header row) ≡ Ok rec = record_is (n + i) (read_row p.enums p.fields header row) rec fills in
    replaying_on p every found (Ok (rec ∷ [])) (records_or_bad p header (n + (i + 1)) (drop (i + 1) rows)) None first shown old new refl
    (subst (λ (rest : Found). IsReplaying p every found rest first shown old) (rows_next p header n i rows row (Ok (rec ∷ [])) within is (ap (and_then (λ rec. Ok (rec ∷ []))) are)) h)
    goes

pub row_bad : (p : ScriptPlan) (every : ℕ) (header : Header) (n i : ℕ) (rows : List Row) (row : Row) (told : Option BadRow) (rec : Record) (found : Result (List Record) BadRow) (old now new : Progress)
    → i < length rows → row ≡ get_or rows i row → is_some told ≡ true → Fills told rec (numbered (n + i) (read_row p.enums p.fields header row))
    → IsReplaying p every found (records_or_bad p header (n + i) (drop i rows)) old.groups old.rows.items now → GoesOn p every found old told new
row_bad p every header n i rows row None rec found old now new within is some fills h = absurd (cc)
row_bad p every header n i rows row (Some bad) rec found old now new within is some fills h =
    let are : record_or_bad (n + i) (read_row p.enums p.fields header row) ≡ Err bad = bad_is (n + i) (read_row p.enums p.fields header row) bad fills in
    let all : found ≡ Err bad =
    replaying_bad p every found (Err bad) (records_or_bad p header (n + (i + 1)) (drop (i + 1) rows)) (Some bad) bad old.groups old.rows.items now now refl
    (subst (λ (rest : Found). IsReplaying p every found rest old.groups old.rows.items now) (rows_next p header n i rows row (Err bad) within is (ap (and_then (λ rec. Ok (rec ∷ []))) are)) h)
    refl in
    subst (λ (f : Found). GoesOn p every f old (Some bad) new) (sym all) refl

-- ---- chunks
-- What was found of the chunks that are left.
pub chunks_next : (p : ScriptPlan) (chunks : List Chunk) (i : ℕ) (cut : Chunk) → i < length chunks → cut ≡ get_or chunks i cut
    → all_records p (drop i chunks) ≡ in_turn (chunk_records p cut) (all_records p (drop (i + 1) chunks))
chunks_next p chunks i cut within is = ap (all_records p) (left_from chunks i cut within is)
