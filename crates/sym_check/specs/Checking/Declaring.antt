-- What a contract sees of declarations: their plans without boxes, and the scope after them.
use Rattle.std.specs.Prelude.{◌≡◌, ◌≢◌, if◌then◌else◌, ◌++◌, Result, Ok, Err}
use Rattle.sym_base.specs.declared.tree.name.Name.{Name}
use Rattle.sym_check.specs.declared.elaborate.error.CheckErr.{CheckErr}
use Rattle.sym_check.specs.declared.elaborate.error.CheckErr.TheVariants as broken
use Rattle.sym_check.specs.declared.elaborate.part.PartPlans.{PartPlans}
use Rattle.sym_check.specs.declared.elaborate.state.NamedCell.{NamedCell}
use Rattle.sym_base.specs.Trees.{ExprTree}
use Rattle.sym_check.specs.Meaning.Arithmetic.{◌>>=◌}
use Rattle.sym_check.specs.Breaks.Expressions.{place}
use Rattle.sym_check.specs.Plan.CondPlans.{CondPlan}
use Rattle.sym_check.specs.Meaning.Conditions.{same_word}
use Rattle.sym_check.specs.Elaborate.Expressions.{infer, condition}
use Rattle.sym_check.specs.Rules.Scopes.{Scope, in_tests}
use Rattle.sym_check.specs.Rules.InOrder.{Planned}
use Rattle.sym_check.specs.Elaborate.Declarations.{PlannedParts, PlannedCell}

-- The plan and the scope after it are those of the definition, or `NoMemory` is returned.
abbrev pub Declares : {A B : Type 0}
    → (A → B) → Result (Planned B) CheckErr → Result A CheckErr → Scope → Type 0
Declares view outcome (Ok a) s = outcome ≡ Ok (record { plan = view a; scope = s })
Declares view outcome (Err e) s = e ≢ broken.NoMemory → outcome ≡ Err e

abbrev pub part_plans : PartPlans → PlannedParts
part_plans p = record { kinds = p.kinds; firsts = p.firsts }

abbrev pub named_cell : NamedCell → PlannedCell
named_cell c = record { plan = c.plan; meaning = c.meaning }

-- Why a name that nothing declared earlier has can't be used in the declaration of `own`.
abbrev pub unseen_by : Name → Name → CheckErr
unseen_by own x = if same_word own.text x.text then broken.Kind x.at else broken.Name x.at

-- The condition of a test's body, in which its parameters and the labels are visible.
abbrev pub body_of : Scope → Scope → ExprTree → Result CondPlan CheckErr
body_of s params e = do
  t ← infer (in_tests s ++ params) e
  condition (place e) t
