-- What was read, and what is still read, come to the whole.
use Rattle.std.proofs.Common.{◌≡◌, ◌-◌}
use Rattle.sym_check.specs.Plan.ScriptPlans.{script_plan}
use Rattle.sym_file.specs.Reading.{many, segment_at}
use Rattle.sym_file.proofs.Loops.{with_front}
use Rattle.sym_file.proofs.paths.segments.Given as goal

abbrev pub invariant-segments : goal.invariant-segments
invariant-segments l = with_front l.segments.items (many (segment_at (script_plan l.plan)) (l.count - l.counter) l.rest) ≡ many (segment_at (script_plan l.plan)) l.count l.bytes
