-- The records of a round's chunks are records of the script.
use Rattle.std.proofs.Common.{◌≡◌, refl, subst, List, [], ◌∷◌, Result, Ok, Err, IfOk}
use Rattle.std.specs.List.{All}
use Rattle.std.proofs.lemmas.List.Elements.{All-append, All-head, All-nil, All-tail}
use Rattle.sym_base.specs.declared.values.record.Record.{Record}
use Rattle.sym_check.specs.Meaning.Validity.{IsRecord}
use Rattle.sym_check.specs.Plan.ScriptPlans.{ScriptPlan}
use Rattle.sym_check.specs.Plan.WellFormed.{IsWellFormed}
use Rattle.sym_table.specs.declared.bad.Bad.{Bad as BadRow}
use Rattle.sym_table.specs.declared.chunk.Chunk.{Chunk}
use Rattle.sym_table.specs.ChunkRecords.{all_records, chunk_records}
use Rattle.sym_table.specs.RowRecords.{in_turn}
use Rattle.sym_table.specs.Rows.{FitsChunk}
use Rattle.sym_table.proofs.RecordsAgree.{records_are, rows_records}

chunk_are : (p : ScriptPlan) (cut : Chunk) (found : Result (List Record) BadRow) → IsWellFormed p → FitsChunk p.fields cut →
    chunk_records p cut ≡ found → IfOk found (All (IsRecord p))
chunk_are p cut (Ok records) well fits e =
    records_are p cut.header cut.first_no cut.rows records well ((rows_records p cut.header cut.first_no cut.rows records fits.header.count).1 e)
chunk_are p cut (Err bad) well fits e = tt

turn_are : (p : ScriptPlan) (found others : Result (List Record) BadRow) → IfOk found (All (IsRecord p)) → IfOk others (All (IsRecord p)) →
    IfOk (in_turn found others) (All (IsRecord p))
turn_are p (Ok first) (Ok rest) all more = All-append (IsRecord p) first rest all more
turn_are p (Ok first) (Err bad) all more = tt
turn_are p (Err bad) others all more = tt

rounds_are : (p : ScriptPlan) (cuts : List Chunk) → IsWellFormed p → All (FitsChunk p.fields) cuts → IfOk (all_records p cuts) (All (IsRecord p))
rounds_are p [] well fit = All-nil (IsRecord p)
rounds_are p (cut ∷ cuts) well fit =
    turn_are p (chunk_records p cut) (all_records p cuts)
    (chunk_are p cut (chunk_records p cut) well (All-head (FitsChunk p.fields) cut cuts fit) refl)
    (rounds_are p cuts well (All-tail (FitsChunk p.fields) cut cuts fit))

-- The records of a round's chunks are records of the script.
pub round_are : (p : ScriptPlan) (cuts : List Chunk) (records : List Record) → IsWellFormed p → All (FitsChunk p.fields) cuts →
    all_records p cuts ≡ Ok records → All (IsRecord p) records
round_are p cuts records well fit e = subst (λ found. IfOk found (All (IsRecord p))) e (rounds_are p cuts well fit)
