-- What the run of a round comes to on no groups, and what that says of the round's rows.
use Rattle.std.proofs.Common.{◌≡◌, ℕ, List, IfOk, None, Result, Ok, Err, subst, sym}
use Rattle.sym_base.specs.declared.values.memory.NoMemory.{NoMemory}
use Rattle.sym_base.specs.declared.values.record.Record.{Record}
use Rattle.sym_base.specs.declared.values.state.Outcome.{Outcome}
use Rattle.sym_base.specs.declared.values.value.Key.{Key}
use Rattle.sym_check.specs.Checking.CheckedScripts.{checked_plan}
use Rattle.sym_check.specs.Plan.ScriptPlans.{ScriptPlan}
use Rattle.sym_plain.specs.Pairs.{after_records}
use Rattle.sym_table.specs.ChunkRecords.{all_records}
use Rattle.sym_table.specs.declared.bad.Bad.{Bad}
use Rattle.sym_table.specs.declared.chunk.Chunk.{Chunk}
use Rattle.sym_run.specs.declared.runs.Applied.{Applied}
use Rattle.sym_run.specs.declared.runs.Applied.TheVariants as applied
use Rattle.sym_run.specs.declared.runs.Run.{Run}
use Rattle.sym_run.specs.Applying.{AreValid, IfDone, bad_of}
use Rattle.sym_run.specs.Runs.{AreTight, GroupsFit, GroupsStandFor}
use Rattle.sym_run.proofs.FoundRecords.{run_tight}
use Rattle.sym_files.specs.declared.rounds.Work.{Work}
use Rattle.sym_workers.specs.RoundRuns.{StandsForAll}
use Rattle.sym_files.specs.Rounds.{round_records}
use Rattle.sym_files.proofs.PlainRows.{plain_chunks}
use Rattle.sym_passes.proofs.AppliedRuns.{IsApplied}
use Rattle.sym_workers.proofs.RoundRuns.{round_bad, round_fine}
use Rattle.sym_workers.specs.Pieces.{StandsFrom}
use Rattle.sym_workers_tests.specs.Comparing.{ComesTo}

came_to : (p : ScriptPlan) (limit : ℕ) (cuts : List Chunk) (run : Run) (given : List (Key × Outcome)) (found : Applied)
    → StandsForAll p limit cuts run → IsApplied p run given found → ComesTo (all_records p cuts) found
came_to p limit cuts run given (applied.Done new) h is =
    let fine = round_fine p limit cuts run h (sym is.bad) in
    (fine.records, fine.are)
came_to p limit cuts run given (applied.Bad bad) h is = round_bad p limit cuts run bad h (sym is.bad)

pub comes_to : (p : ScriptPlan) (limit : ℕ) (cuts : List Chunk) (run : Run) (given : List (Key × Outcome)) (found : Result Applied NoMemory)
    → StandsForAll p limit cuts run → IfOk found (λ a. bad_of a ≡ run.bad) → IfOk found (λ a. IfDone a (AreValid p))
    → ((records : List Record) → GroupsStandFor p records run.groups → IfOk found (λ a. IfDone a (λ g. g ≡ after_records p records given)))
    → IfOk found (ComesTo (round_records p (λ row. row) cuts))
comes_to p limit cuts run given (Ok found) h bad valid groups =
    let P : List Chunk → Type 0 = λ some. ComesTo (all_records p some) found in
    subst P (sym (plain_chunks cuts)) (came_to p limit cuts run given found h (record { bad = bad; valid = valid; groups_are = groups }))
comes_to p limit cuts run given (Err why) h bad valid groups = tt

-- An answer that is known is what the round comes to.
pub came : (read : Result (List Record) Bad) (found known : Applied) → found ≡ known → ComesTo read found → ComesTo read known
came read found known is comes = subst (ComesTo read) is comes

-- The chains of a part without a bad row are tight.
pub part_tight : (work : Work) (lo hi : ℕ) (r : Result Run NoMemory) (run : Run) → r ≡ Ok run → IfOk r (StandsFrom work lo hi) → run.bad ≡ None
    → AreTight (checked_plan work.checked) work.limit run.groups
part_tight work lo hi r run is stands none =
    let P : Result Run NoMemory → Type 0 = λ x. IfOk x (StandsFrom work lo hi) in
    let made : StandsFrom work lo hi run = subst P is stands in
    run_tight (checked_plan work.checked) work.limit work.chunks run made.stands none

-- They fit the script.
pub part_fits : (work : Work) (lo hi : ℕ) (r : Result Run NoMemory) (run : Run) → r ≡ Ok run → IfOk r (StandsFrom work lo hi)
    → GroupsFit (checked_plan work.checked) run.groups
part_fits work lo hi r run is stands =
    let P : Result Run NoMemory → Type 0 = λ x. IfOk x (StandsFrom work lo hi) in
    let made : StandsFrom work lo hi run = subst P is stands in
    made.stands.fits
