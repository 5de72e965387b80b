-- What was read, and what is still read, come to the whole.
use Rattle.std.proofs.Common.{◌≡◌, ◌-◌}
use Rattle.sym_check.specs.Plan.ScriptPlans.{script_plan}
use Rattle.sym_file.specs.Reading.{apart, literal_at, many}
use Rattle.sym_file.proofs.Loops.{with_front}
use Rattle.sym_file.proofs.parts.literals.Given as goal

abbrev pub invariant-literals : goal.invariant-literals
invariant-literals l = with_front l.literals.items (many (apart (literal_at (script_plan l.plan) l.parts)) (l.count - l.counter) l.rest) ≡ many (apart (literal_at (script_plan l.plan) l.parts)) l.count l.bytes
