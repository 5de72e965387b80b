-- The files so far are taken, and the store is as it was.
use Rattle.std.proofs.Common.{◌≡◌, ◌≤◌, ℕ, List, map}
use Rattle.std.specs.String.{string_bytes}
use Rattle.sym_check.specs.Checking.CheckedScripts.{checked_plan}
use Rattle.sym_file.specs.SavedTexts.{printed}
use Rattle.sym_run.specs.Applying.{AreValid}
use Rattle.sym_reduce.proofs.Files.{IsReducing}
use Rattle.sym_reduce.proofs.run_files.reduce_files.Given as goal

abbrev pub invariant-files : goal.invariant-files
invariant-files g l =
    let p = checked_plan l.checked in
    record {
      reducing : IsReducing (printed l.checked) p l.max_bytes (g.F.Store.holds l.fn.files) (map string_bytes l.names) l.file l.next l.totals;
      valid : AreValid p l.totals;
      same : g.F.Store.holds l.files ≡ g.F.Store.holds l.fn.files;
      later : (other : List ℕ) → g.F.Store.faults l.fn.files other ≤ g.F.Store.faults l.files other;
    }
