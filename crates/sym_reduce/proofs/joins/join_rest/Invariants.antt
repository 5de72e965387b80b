-- The files so far are joined, and the store is as it was.
use Rattle.std.proofs.Common.{◌≡◌, ◌≤◌, ℕ, List, map}
use Rattle.std.specs.String.{string_bytes}
use Rattle.sym_check.specs.Checking.CheckedScripts.{checked_plan}
use Rattle.sym_file.specs.SavedTexts.{printed}
use Rattle.sym_reduce.specs.Joining.{CanGoOn, IsJoining}
use Rattle.sym_reduce.proofs.joins.join_rest.Given as goal

abbrev pub invariant-files : goal.invariant-files
invariant-files g l =
    let p = checked_plan l.checked in
    record {
      joining : IsJoining (printed l.checked) p l.fn.options.max_bytes l.fn.options.limit (g.F.Store.holds l.fn.files) (map string_bytes l.names) l.file l.joined;
      able : CanGoOn p l.joined;
      same : g.F.Store.holds l.files ≡ g.F.Store.holds l.fn.files;
      later : (other : List ℕ) → g.F.Store.faults l.fn.files other ≤ g.F.Store.faults l.files other;
    }
