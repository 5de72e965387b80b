-- Conditions as plain data.
use Rattle.std.specs.Prelude.{ℕ, List, map}
use Rattle.sym_base.specs.declared.tree.compare.Compare.{Compare}
use Rattle.sym_check.specs.declared.plan.expression.WordOf.{WordOf}
use Rattle.sym_check.specs.declared.plan.expression.LabelOf.{LabelOf}
use Rattle.sym_check.specs.declared.plan.condition.Cond.{Cond}
use Rattle.sym_check.specs.declared.plan.condition.Cond.TheVariants as cond
use Rattle.sym_check.specs.Plan.FixedPlans.{NumPlan, num_plan, FixedPlan, fixed_plan}
use Rattle.sym_check.specs.Plan.LinePlans.{TermPlan, term_plan}

pub data CondPlan : Type 0 where
  Compared : Compare → TermPlan → NumPlan → CondPlan
  Words : WordOf → WordOf → CondPlan
  CellIs : ℕ → LabelOf → CondPlan
  LabelIs : LabelOf → LabelOf → CondPlan
  Test : ℕ → ℕ → List FixedPlan → CondPlan
  Not : CondPlan → CondPlan
  And : CondPlan → CondPlan → CondPlan
  Or : CondPlan → CondPlan → CondPlan

abbrev pub cond_plan : Cond → CondPlan
cond_plan (cond.Compare compare t n) = Compared compare (term_plan t) (num_plan n)
cond_plan (cond.Words v w) = Words v w
cond_plan (cond.CellIs c l) = CellIs c l
cond_plan (cond.LabelIs l m) = LabelIs l m
cond_plan (cond.Test test cell args) = Test test cell (map fixed_plan args)
cond_plan (cond.Not' p c) = Not (cond_plan c)
cond_plan (cond.And' p c q d) = And (cond_plan c) (cond_plan d)
cond_plan (cond.Or' p c q d) = Or (cond_plan c) (cond_plan d)
