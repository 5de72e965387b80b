-- What was read, and what is still read, come to the whole.
use Rattle.std.proofs.Common.{◌≡◌, ◌-◌, []}
use Rattle.sym_check.specs.Plan.ScriptPlans.{script_plan}
use Rattle.sym_file.specs.Reading.{groups_at}
use Rattle.sym_file.proofs.reader.groups.Given as goal

abbrev pub invariant-groups : goal.invariant-groups
invariant-groups l = groups_at (script_plan l.plan) (l.count - l.counter) l.groups l.rest ≡ groups_at (script_plan l.plan) l.count [] l.bytes
