-- Rows and chunks that are read in order.
use Rattle.std.proofs.Common.{◌≡◌, ◌∙◌, refl, sym, ap, ℕ, ◌+◌, ◌<◌, arith, List, [], ◌∷◌, length, drop, map, slice_get, Some, IfOk, Result, Ok, Err, subst, get_or}
use Rattle.std.proofs.lemmas.Option.{get_or_from_slice_get, slice_get_within}
use Rattle.sym_base.specs.declared.values.memory.NoMemory.{NoMemory}
use Rattle.sym_base.specs.declared.values.record.Record.{Record}
use Rattle.sym_base.specs.declared.values.value.Value.{Value}
use Rattle.sym_check.specs.Plan.ScriptPlans.{ScriptPlan}
use Rattle.sym_table.specs.declared.bad.Bad.{Bad}
use Rattle.sym_table.specs.declared.bad.BadCause.{BadCause}
use Rattle.sym_table.specs.declared.bad.Decoded.{Decoded}
use Rattle.sym_table.specs.declared.bad.Decoded.TheVariants as decoded
use Rattle.sym_table.specs.declared.chunk.Chunk.{Chunk}
use Rattle.sym_table.specs.declared.header.Header.{Header}
use Rattle.sym_table.specs.ChunkRecords.{chunk_records}
use Rattle.sym_table.specs.Decoding.{numbered}
use Rattle.sym_table.specs.Reading.{Row}
use Rattle.sym_table.specs.RowRecords.{record_or_bad, records_or_bad, in_turn}
use Rattle.sym_table.specs.Rows.{read_row}
use Rattle.sym_files.specs.declared.rounds.Took.{Took}
use Rattle.sym_files.specs.declared.rounds.Took.TheVariants as took
use Rattle.sym_files.specs.Rounds.{Takes, round_records, shown_chunk}
use Rattle.sym_files.proofs.Walks.{IsWalk, alone, none_first, walk_on, walk_stops, drop_next, row_next, record_is}
use Rattle.sym_engine_tests.specs.Rounds.{Reads}

-- A walk of which no value stands for the records.
abbrev pub IsRead : Result (List Record) Bad → Result (List Record) Bad → Type 0
IsRead all left = IsWalk {S = Unit {0}} (λ _ _. Unit {0}) all left tt tt

pub read_begins : (all : Result (List Record) Bad) → IsRead all all
read_begins all = record { done = []; splits = none_first all; extends = λ _ _. tt }

read_on : (all left part rest : Result (List Record) Bad) (records : List Record) → IsRead all left → left ≡ in_turn part rest → part ≡ Ok records → IsRead all rest
read_on all left part rest records w e are =
    walk_on {S = Unit {0}} (λ _ _. Unit {0}) all left part rest tt tt tt w e (records, are, λ _ _. tt)

pub row_read : (p : ScriptPlan) (header : Header) (n : ℕ) (shown : Row → Row) (rows : List Row) (k : ℕ) (row seen : Row) (d : Decoded) (rec : Record) (all : Result (List Record) Bad)
    → slice_get rows k ≡ Some row → seen ≡ shown row → d ≡ numbered n (read_row p.enums p.fields header seen) → d ≡ decoded.Is rec
    → IsRead all (records_or_bad p header n (map shown (drop k rows))) → IsRead all (records_or_bad p header (n + 1) (map shown (drop (k + 1) rows)))
row_read p header n shown rows k row seen d rec all at as_shown read is w =
    let within = slice_get_within rows k row at in
    let there = sym (get_or_from_slice_get rows k row row at) in
    let left = map shown (drop (k + 1) rows) in
    let next =
    ap (λ rs. records_or_bad p header n (map shown rs)) (drop_next rows k row within there)
    ∙ row_next p header n (shown row ∷ left) 0 (shown row) (omega arith) refl in
    let found : numbered n (read_row p.enums p.fields header (shown row)) ≡ decoded.Is rec =
    ap (λ r. numbered n (read_row p.enums p.fields header r)) (sym as_shown) ∙ sym read ∙ is in
    read_on all (records_or_bad p header n (map shown (drop k rows))) (alone (record_or_bad n (read_row p.enums p.fields header (shown row)))) (records_or_bad p header (n + 1) left)
    (rec ∷ []) w next (record_is n (read_row p.enums p.fields header (shown row)) rec found)

is_bad : (n : ℕ) (read : Result (List Value) BadCause) (bad : Bad) → numbered n read ≡ decoded.Bad bad → alone (record_or_bad n read) ≡ Err bad
is_bad n (Ok values) bad e = absurd (cc)
is_bad n (Err why) bad e =
    let same : record { no = n; cause = why } ≡ bad = cc in ap Err same

-- The first row that is no record ends the reading.
pub row_is_bad : (p : ScriptPlan) (header : Header) (n : ℕ) (shown : Row → Row) (rows : List Row) (k : ℕ) (row seen : Row) (d : Decoded) (bad : Bad) (all : Result (List Record) Bad)
    → slice_get rows k ≡ Some row → seen ≡ shown row → d ≡ numbered n (read_row p.enums p.fields header seen) → d ≡ decoded.Bad bad
    → IsRead all (records_or_bad p header n (map shown (drop k rows))) → all ≡ Err bad
row_is_bad p header n shown rows k row seen d bad all at as_shown read is w =
    let within = slice_get_within rows k row at in
    let there = sym (get_or_from_slice_get rows k row row at) in
    let left = map shown (drop (k + 1) rows) in
    let next =
    ap (λ rs. records_or_bad p header n (map shown rs)) (drop_next rows k row within there)
    ∙ row_next p header n (shown row ∷ left) 0 (shown row) (omega arith) refl in
    let found : numbered n (read_row p.enums p.fields header (shown row)) ≡ decoded.Bad bad =
    ap (λ r. numbered n (read_row p.enums p.fields header r)) (sym as_shown) ∙ sym read ∙ is in
    walk_stops {S = Unit {0}} (λ _ _. Unit {0}) all (records_or_bad p header n (map shown (drop k rows))) (alone (record_or_bad n (read_row p.enums p.fields header (shown row))))
    (records_or_bad p header (n + 1) left) tt tt bad w next (is_bad n (read_row p.enums p.fields header (shown row)) bad found)

pub chunk_read : (p : ScriptPlan) (shown : Row → Row) (cuts : List Chunk) (k : ℕ) (cut : Chunk) (t : Took) (all : Result (List Record) Bad)
    → k < length cuts → cut ≡ get_or cuts k cut → t ≡ took.Done → Reads (chunk_records p (shown_chunk shown cut)) t
    → IsRead all (round_records p shown (drop k cuts)) → IsRead all (round_records p shown (drop (k + 1) cuts))
chunk_read p shown cuts k cut t all h e done reads w =
    let T : Took → Type 0 = λ x. Reads (chunk_records p (shown_chunk shown cut)) x in
    let are = subst T done reads in
    read_on all (round_records p shown (drop k cuts)) (chunk_records p (shown_chunk shown cut)) (round_records p shown (drop (k + 1) cuts)) are.0 w
    (ap (round_records p shown) (drop_next cuts k cut h e)) are.1

-- The clause of a taker that stands for any records.
pub round_read : {S : Type 0} (p : ScriptPlan) (shown : Row → Row) (cuts items : List Chunk) (old new : S) (r : Result Took NoMemory) → items ≡ cuts
    → IfOk r (Reads (round_records p shown items)) → IfOk r (Takes (λ (x : S) (records : List Record). Unit {0}) (round_records p shown cuts) old new)
round_read p shown cuts items old new (Ok took.Done) same reads =
    (reads.0, ap (round_records p shown) (sym same) ∙ reads.1, λ before stood. tt)
round_read p shown cuts items old new (Ok (took.Bad bad)) same reads =
    ap (round_records p shown) (sym same) ∙ reads
round_read p shown cuts items old new (Err e) same reads = tt
