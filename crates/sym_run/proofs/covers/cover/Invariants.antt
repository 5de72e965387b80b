-- The segment covers the first of the kept records.
use Rattle.std.proofs.Common.{take}
use Rattle.sym_check.specs.Checking.CheckedScripts.{checked_plan}
use Rattle.sym_run.specs.Covering.{Covers}
use Rattle.sym_run.proofs.covers.cover.Given as goal

abbrev pub invariant-records : goal.invariant-records
invariant-records l = Covers (checked_plan l.settings.checked.now) l.settings.limit (take l.index l.kept) l.segment
