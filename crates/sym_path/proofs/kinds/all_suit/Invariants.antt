-- The literals so far suit the cell.
use Rattle.std.proofs.Common.{◌≡◌, ◌<◌, ℕ, Some}
use Rattle.std.specs.Prelude.{slice_get}
use Rattle.sym_check.specs.Plan.ScriptPlans.{script_plan}
use Rattle.sym_pred.specs.Literals.{literals}
use Rattle.sym_pred.specs.declared.literal.Literal.{Literal}
use Rattle.sym_path.specs.Fitting.{Suits}
use Rattle.sym_path.proofs.kinds.all_suit.Given as goal

abbrev pub invariant-literals : goal.invariant-literals
invariant-literals l = (d : ℕ) (literal : Literal) → d < l.index → slice_get (literals l.facts) d ≡ Some literal → Suits (script_plan l.plan) l.kinds literal
