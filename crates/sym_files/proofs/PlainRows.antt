-- Rows that are shown as they are.
use Rattle.std.proofs.Common.{◌≡◌, ◌∙◌, refl, sym, ap, subst, List, [], ◌∷◌, map, Result, Ok, Err, IfOk}
use Rattle.sym_base.specs.declared.values.memory.NoMemory.{NoMemory}
use Rattle.sym_base.specs.declared.values.record.Record.{Record}
use Rattle.sym_check.specs.Plan.ScriptPlans.{ScriptPlan}
use Rattle.sym_table.specs.declared.bad.Bad.{Bad}
use Rattle.sym_table.specs.declared.chunk.Chunk.{Chunk}
use Rattle.sym_table.specs.ChunkRecords.{all_records}
use Rattle.sym_table.specs.Reading.{Row}
use Rattle.sym_files.specs.declared.rounds.Took.{Took}
use Rattle.sym_files.specs.Rounds.{Takes, round_records, shown_chunk}

same_rows : (rows : List Row) → map (λ row. row) rows ≡ rows
same_rows [] = refl
same_rows (row ∷ rows) = ap (λ more. row ∷ more) (same_rows rows)

pub plain_chunks : (cuts : List Chunk) → map (shown_chunk (λ row. row)) cuts ≡ cuts
plain_chunks [] = refl
plain_chunks (cut ∷ cuts) =
    ap (λ rows. (record cut { rows = rows }) ∷ map (shown_chunk (λ row. row)) cuts) (same_rows cut.rows)
    ∙ ap (λ more. cut ∷ more) (plain_chunks cuts)

-- What a round comes to, by an answer that is passed on.
pub plain_round : {S : Type 0} (stands : S → List Record → Type 0) (p : ScriptPlan) (cuts : List Chunk) (old new : S) (t : Took) (r : Result Took NoMemory)
    → Takes stands (all_records p cuts) old new t → IfOk r (λ u. u ≡ t) → IfOk r (Takes stands (round_records p (λ row. row) cuts) old new)
plain_round stands p cuts old new t (Ok u) takes is =
    let R : Result (List Record) Bad → Type 0 = λ read. Takes stands read old new t in
    let T : Took → Type 0 = Takes stands (round_records p (λ row. row) cuts) old new in
    subst T (sym is) (subst R (ap (all_records p) (sym (plain_chunks cuts))) takes)
plain_round stands p cuts old new t (Err e) takes is = tt
