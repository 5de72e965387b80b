-- The parts so far are started.
use Rattle.std.proofs.Common.{◌≡◌, ◌++◌, ℕ, List}
use Rattle.std.specs.Vec.Iter.{into_iter_items}
use Rattle.sym_check.specs.Checking.CheckedScripts.{checked_plan}
use Rattle.sym_table.specs.declared.chunk.Chunk.{Chunk}
use Rattle.sym_run.specs.Applying.{AreValid}
use Rattle.sym_scan.specs.Parts.{AreRuns}
use Rattle.sym_scan.proofs.PartLaws.{IsStarting}
use Rattle.sym_scan.proofs.part_starts.start_all.Given as goal

abbrev pub invariant-parts : goal.invariant-parts
invariant-parts l =
    let p = checked_plan l.fn.checked in
    record {
      all : l.yielded ++ into_iter_items l.ran-iterator ≡ l.fn.runs.items;
      valid : AreValid p l.groups;
      on : (limit every : ℕ) (chunks : List Chunk) (to : ℕ) → AreRuns p limit chunks 0 to l.yielded → IsStarting p every chunks to l.fn.groups l.groups l.parts.items;
    }
