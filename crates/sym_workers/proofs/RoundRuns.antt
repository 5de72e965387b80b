-- The run of a round.
use Rattle.std.proofs.Common.{◌≡◌, ◌∙◌, refl, sym, ap, ap₂, subst, arith, ℕ, suc, ◌+◌, ◌-◌, ◌<◌, ◌≤◌, List, ◌∷◌, ◌++◌, drop, take, length, get_or, Option, Some, None, Result, Ok, Err, slice_get}
use Rattle.std.proofs.Math.Seq.{drop-cons}
use Rattle.std.specs.Prelude.{slice_range}
use Rattle.std.proofs.lemmas.List.{take_all}
use Rattle.std.proofs.lemmas.Option.{slice_get_read}
use Rattle.sym_base.specs.declared.values.record.Record.{Record}
use Rattle.sym_check.specs.Plan.ScriptPlans.{ScriptPlan}
use Rattle.sym_table.specs.declared.bad.Bad.{Bad as BadRow}
use Rattle.sym_table.specs.declared.chunk.Chunk.{Chunk}
use Rattle.sym_table.specs.ChunkRecords.{all_records, all_rows}
use Rattle.sym_table.specs.Reading.{Row}
use Rattle.sym_run.specs.declared.runs.Run.{Run}
use Rattle.sym_run.specs.Runs.{GroupsStandFor, HasFound}
use Rattle.sym_workers.specs.RoundRuns.{StandsForAll}

-- The chunk at a place, by the list that the code goes over.
pub chunk_at : (cuts items : List Chunk) (k : ℕ) (cut : Chunk) → items ≡ cuts → k < length items → cut ≡ get_or items k cut → slice_get cuts k ≡ Some cut
chunk_at cuts items k cut same h e =
    let P : List Chunk → Type 0 = λ xs. slice_get xs k ≡ Some cut in
    subst P same (slice_get_read items (length items) k cut refl h e)

-- The rows of the chunks up to `end`, from a chunk on.
pub next_between : (cursor : Option (List Row)) (cuts items : List Chunk) (k end : ℕ) (cut : Chunk) → items ≡ cuts → k < end → end ≤ length cuts → cut ≡ get_or items k cut
    → cursor ≡ Some (all_rows (slice_range cuts k end)) → cursor ≡ Some (cut.rows ++ all_rows (slice_range cuts (k + 1) end))
next_between cursor cuts items k end cut same below within is e =
    let here : cut ≡ get_or cuts k cut = subst (λ (xs : List Chunk). cut ≡ get_or xs k cut) same is in
    let next : suc k ≡ k + 1 = omega arith in
    let size : end - k ≡ suc (end - (k + 1)) = omega (arith, below) in
    let near : k < length cuts = omega (arith, below, within) in
    let there : drop k cuts ≡ cut ∷ drop (k + 1) cuts = drop-cons cuts k cut near ∙ ap₂ (λ (x : Chunk) n. x ∷ drop n cuts) (sym here) next in
    let split : slice_range cuts k end ≡ cut ∷ slice_range cuts (k + 1) end = ap₂ (λ (n : ℕ) (xs : List Chunk). take n xs) size there in
    e ∙ ap (λ (xs : List Chunk). Some (all_rows xs)) split

-- ---- the run of a round
-- What the run of all chunks found.
found_in : (p : ScriptPlan) (limit : ℕ) (cuts : List Chunk) (run : Run) → StandsForAll p limit cuts run → HasFound p limit (all_records p cuts) run.bad run.groups
found_in p limit cuts run h =
    let from = h.ends.from in
    let to = h.ends.to in
    let whole : slice_range cuts run.lo run.hi ≡ cuts = rw (from, to) (take_all (length cuts - 0) cuts (omega arith)) in
    subst (λ (cs : List Chunk). HasFound p limit (all_records p cs) run.bad run.groups) whole h.stands.found

-- All rows of a round are records, for which its run stands.
pub record AreStoodFor (p : ScriptPlan) (found : Result (List Record) BadRow) (run : Run) : Type 0 where
  pub records : List Record
  pub are : found ≡ Ok records
  pub stands : GroupsStandFor p records run.groups

stood_for : (p : ScriptPlan) (limit : ℕ) (found : Result (List Record) BadRow) (run : Run) → HasFound p limit found run.bad run.groups → run.bad ≡ None → AreStoodFor p found run
stood_for p limit (Ok records) run h fine = record { records = records; are = refl; stands = h.2 }
stood_for p limit (Err bad) run h fine = absurd (cc)

pub round_fine : (p : ScriptPlan) (limit : ℕ) (cuts : List Chunk) (run : Run) → StandsForAll p limit cuts run → run.bad ≡ None → AreStoodFor p (all_records p cuts) run
round_fine p limit cuts run h fine = stood_for p limit (all_records p cuts) run (found_in p limit cuts run h) fine

bad_found : (p : ScriptPlan) (limit : ℕ) (found : Result (List Record) BadRow) (run : Run) (bad : BadRow) → HasFound p limit found run.bad run.groups → run.bad ≡ Some bad → found ≡ Err bad
bad_found p limit (Ok records) run bad h is = let none = h.0 in absurd (cc)
bad_found p limit (Err first) run bad h is = let same : first ≡ bad = cc in ap Err same

pub round_bad : (p : ScriptPlan) (limit : ℕ) (cuts : List Chunk) (run : Run) (bad : BadRow) → StandsForAll p limit cuts run → run.bad ≡ Some bad → all_records p cuts ≡ Err bad
round_bad p limit cuts run bad h is = bad_found p limit (all_records p cuts) run bad (found_in p limit cuts run h) is
