-- Rows and chunks that are folded in order.
use Rattle.std.proofs.Common.{◌≡◌, ◌∙◌, sym, ap, ℕ, ◌+◌, ◌<◌, List, [], ◌∷◌, ◌++◌, length, drop, get_or, slice_get, Option, Some, None, Result, Ok, Err, IfOk, subst}
use Rattle.std.proofs.lemmas.Option.{get_or_from_slice_get, slice_get_within}
use Rattle.sym_base.specs.declared.values.memory.NoMemory.{NoMemory}
use Rattle.sym_base.specs.declared.values.record.Record.{Record}
use Rattle.sym_base.specs.declared.values.value.Key.{Key}
use Rattle.sym_base.specs.declared.values.state.Outcome.{Outcome}
use Rattle.sym_check.specs.Meaning.Groups.{pass}
use Rattle.sym_check.specs.Plan.ScriptPlans.{ScriptPlan}
use Rattle.sym_base.specs.declared.values.value.Value.{Value}
use Rattle.sym_table.specs.declared.bad.Bad.{Bad}
use Rattle.sym_table.specs.declared.bad.BadCause.{BadCause}
use Rattle.sym_table.specs.declared.bad.Decoded.TheVariants as decoded
use Rattle.sym_table.specs.declared.chunk.Chunk.{Chunk}
use Rattle.sym_table.specs.declared.header.Header.{Header}
use Rattle.sym_table.specs.ChunkRecords.{chunk_records, all_records}
use Rattle.sym_table.specs.Decoding.{numbered, Fills}
use Rattle.sym_table.specs.Reading.{Passes, Row}
use Rattle.sym_table.specs.RowRecords.{record_or_bad, records_or_bad}
use Rattle.sym_table.specs.Rows.{read_row}
use Rattle.sym_passes.specs.declared.folded_rounds.Folded.{Folded}
use Rattle.sym_files.specs.declared.rounds.Took.{Took}
use Rattle.sym_files.specs.declared.rounds.Took.TheVariants as took
use Rattle.sym_files.specs.Rounds.{Takes}
use Rattle.sym_files.specs.Taking.{IfTaken}
use Rattle.sym_passes.specs.Passed.{ArePassed}
use Rattle.sym_files.proofs.Walks.{IsWalk, alone, walk_on, walk_stops, row_next, chunk_next, record_is}

abbrev Pairs : Type 0
Pairs = List (Key × Outcome)

pub row_folded : (p : ScriptPlan) (header : Header) (n : ℕ) (rows : List Row) (k : ℕ) (row : Row) (found : Option Bad) (rec : Record) (all : Result (List Record) Bad) (old now new : Pairs)
    → slice_get rows k ≡ Some row → found ≡ None → Fills found rec (numbered n (read_row p.enums p.fields header row))
    → ((records : List Record) → now ≡ pass p records → new ≡ pass p (records ++ rec ∷ []))
    → IsWalk (ArePassed p) all (records_or_bad p header n (drop k rows)) old now → IsWalk (ArePassed p) all (records_or_bad p header (n + 1) (drop (k + 1) rows)) old new
row_folded p header n rows k row found rec all old now new at none fills folds w =
    let F : Option Bad → Type 0 = λ o. Fills o rec (numbered n (read_row p.enums p.fields header row)) in
    let within = slice_get_within rows k row at in
    let is = sym (get_or_from_slice_get rows k row row at) in
    walk_on (ArePassed p) all (records_or_bad p header n (drop k rows)) (alone (record_or_bad n (read_row p.enums p.fields header row))) (records_or_bad p header (n + 1) (drop (k + 1) rows))
    old now new w (row_next p header n rows k row within is)
    (rec ∷ [], record_is n (read_row p.enums p.fields header row) rec (subst F none fills), folds)

refused : (n : ℕ) (read : Result (List Value) BadCause) (bad : Bad) → numbered n read ≡ decoded.Bad bad → alone (record_or_bad n read) ≡ Err bad
refused n (Ok values) bad e = absurd (cc)
refused n (Err why) bad e =
    let same : record { no = n; cause = why } ≡ bad = cc in ap Err same

pub row_refused : (p : ScriptPlan) (header : Header) (n : ℕ) (rows : List Row) (k : ℕ) (row : Row) (found : Option Bad) (bad : Bad) (rec : Record) (all : Result (List Record) Bad) (old now : Pairs)
    → slice_get rows k ≡ Some row → found ≡ Some bad → Fills found rec (numbered n (read_row p.enums p.fields header row))
    → IsWalk (ArePassed p) all (records_or_bad p header n (drop k rows)) old now → all ≡ Err bad
row_refused p header n rows k row found bad rec all old now at e fills w =
    let F : Option Bad → Type 0 = λ o. Fills o rec (numbered n (read_row p.enums p.fields header row)) in
    let within = slice_get_within rows k row at in
    let is = sym (get_or_from_slice_get rows k row row at) in
    walk_stops (ArePassed p) all (records_or_bad p header n (drop k rows)) (alone (record_or_bad n (read_row p.enums p.fields header row))) (records_or_bad p header (n + 1) (drop (k + 1) rows))
    old now bad w (row_next p header n rows k row within is) (refused n (read_row p.enums p.fields header row) bad (subst F e fills))

pub chunk_folded : (p : ScriptPlan) (cuts : List Chunk) (k : ℕ) (cut : Chunk) (t : Took) (all : Result (List Record) Bad) (old now new : Pairs)
    → k < length cuts → cut ≡ get_or cuts k cut → t ≡ took.Done → Takes (ArePassed p) (chunk_records p cut) now new t
    → IsWalk (ArePassed p) all (all_records p (drop k cuts)) old now → IsWalk (ArePassed p) all (all_records p (drop (k + 1) cuts)) old new
chunk_folded p cuts k cut t all old now new h e done takes w =
    let T : Took → Type 0 = λ x. Takes (ArePassed p) (chunk_records p cut) now new x in
    walk_on (ArePassed p) all (all_records p (drop k cuts)) (chunk_records p cut) (all_records p (drop (k + 1) cuts)) old now new w
    (chunk_next p cuts k cut h e) (subst T done takes)

-- The cursor has passed the rows of a chunk that is folded.
pub is_passed : (t : Took) (rows : List Row) (old new : Option (List Row)) → t ≡ took.Done → IfTaken t (Passes rows old new) → Passes rows old new
is_passed took.Done rows old new e h = h
is_passed (took.Bad bad) rows old new e h = cc e

-- A round whose groups are folded.
pub round_folded : (p : ScriptPlan) (cuts items : List Chunk) (old new : Folded) (r : Result Took NoMemory) → items ≡ cuts
    → IfOk r (Takes (ArePassed p) (all_records p items) old.groups new.groups)
    → IfOk r (Takes (λ (x : Folded) (records : List Record). ArePassed p x.groups records) (all_records p cuts) old new)
round_folded p cuts items old new (Ok took.Done) same takes = (takes.0, ap (all_records p) (sym same) ∙ takes.1, takes.2)
round_folded p cuts items old new (Ok (took.Bad bad)) same takes = ap (all_records p) (sym same) ∙ takes
round_folded p cuts items old new (Err e) same takes = takes
