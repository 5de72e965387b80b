-- What a contract sees of statements: their parts and plans without boxes, with the scope and the
-- number of the next local after them.
use Rattle.std.specs.Prelude.{ℕ, Result}
use Rattle.sym_base.specs.Trees.{StmtTree}
use Rattle.sym_check.specs.declared.elaborate.error.CheckErr.{CheckErr}
use Rattle.sym_check.specs.declared.elaborate.holds.KeptCell.{KeptCell}
use Rattle.sym_check.specs.declared.elaborate.statement.LocalValue.{LocalValue}
use Rattle.sym_check.specs.declared.elaborate.target.Target.{Target as TargetCell}
use Rattle.sym_check.specs.declared.elaborate.target.Target.TheVariants as target
use Rattle.sym_check.specs.declared.plan.statement.Do.{Do}
use Rattle.sym_check.specs.declared.plan.statement.Dos.{Dos}
use Rattle.sym_check.specs.Plan.DoPlans.{do_plan, dos_plan}
use Rattle.sym_check.specs.Elaborate.Statements.{LetValue, Target, ToInt, ToEnum, ToNums, ToWords, Kept, PlannedDo, PlannedDos, statement}
use Rattle.sym_check.specs.Plan.FixedPlans.{fixed_plan}
use Rattle.sym_check.specs.Rules.Scopes.{Scope}
use Rattle.sym_check.specs.Checking.TypedPlans.{Answers}

abbrev pub target_plan : TargetCell → Target
target_plan (target.Int c) = ToInt c
target_plan (target.Enum c enum) = ToEnum c enum
target_plan (target.Nums c) = ToNums c
target_plan (target.Words c) = ToWords c

abbrev pub kept_plan : KeptCell → Kept
kept_plan k = record { cell = k.cell; kinds = k.kinds.now }

abbrev pub local_plan : LocalValue → LetValue
local_plan v = record { kind = v.kind; value = fixed_plan v.value }

abbrev pub planned_do : Scope → ℕ → Do → PlannedDo
planned_do s next d = record { plan = do_plan d; scope = s; next = next }

abbrev pub planned_dos : ℕ → Dos → PlannedDos
planned_dos next ds = record { plan = dos_plan ds; next = next }

-- The plan of a statement that declares nothing, whatever is hidden and however many locals stand
-- before it, or why it has none.
abbrev pub Plans : Scope → StmtTree → Result Do CheckErr → Type 0
Plans s x result =
    (hidden : Scope) (n : ℕ) → Answers (planned_do s n) (statement hidden s n x) result
