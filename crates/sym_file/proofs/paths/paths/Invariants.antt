-- What was read, and what is still read, come to the whole.
use Rattle.std.proofs.Common.{◌≡◌, ◌-◌}
use Rattle.sym_check.specs.Plan.ScriptPlans.{script_plan}
use Rattle.sym_file.specs.Reading.{many, path_at}
use Rattle.sym_file.proofs.Loops.{with_front}
use Rattle.sym_file.proofs.paths.paths.Given as goal

abbrev pub invariant-paths : goal.invariant-paths
invariant-paths l = with_front l.paths.items (many (path_at (script_plan l.plan)) (l.count - l.counter) l.rest) ≡ many (path_at (script_plan l.plan)) l.count l.bytes
