-- What was read, and what is still read, come to the whole.
use Rattle.std.proofs.Common.{◌≡◌, drop}
use Rattle.sym_check.specs.Plan.ScriptPlans.{script_plan}
use Rattle.sym_file.specs.Reading.{apart, each, form_at}
use Rattle.sym_file.proofs.Loops.{with_front}
use Rattle.sym_file.proofs.forms.forms.Given as goal

abbrev pub invariant-cells : goal.invariant-cells
invariant-cells l =
    with_front l.forms.items (each (λ cell. apart (form_at cell)) (drop l.cell-index (script_plan l.plan).cells) l.rest) ≡ each (λ cell. apart (form_at cell)) (script_plan l.plan).cells l.bytes
