-- Statements of the update as plain data.
use Rattle.std.specs.Prelude.{ℕ, List, map}
use Rattle.sym_check.specs.declared.plan.expression.WordOf.{WordOf}
use Rattle.sym_check.specs.declared.plan.expression.LabelOf.{LabelOf}
use Rattle.sym_check.specs.declared.plan.statement.Do.{Do}
use Rattle.sym_check.specs.declared.plan.statement.Do.TheVariants as one
use Rattle.sym_check.specs.declared.plan.statement.Dos.{Dos}
use Rattle.sym_check.specs.declared.plan.statement.Dos.TheVariants as dos
use Rattle.sym_check.specs.Plan.FixedPlans.{FixedPlan, fixed_plan}
use Rattle.sym_check.specs.Plan.LinePlans.{TermPlan, term_plan}
use Rattle.sym_check.specs.Plan.CondPlans.{CondPlan, cond_plan}

mutual
  pub data DoPlan : Type 0 where
    Let : ℕ → FixedPlan → DoPlan
    SetInt : ℕ → TermPlan → DoPlan
    SetEnum : ℕ → LabelOf → DoPlan
    CopyEnum : ℕ → ℕ → DoPlan
    Keep : ℕ → List FixedPlan → DoPlan
    KeepFrom : ℕ → ℕ → DoPlan
    PushNum : ℕ → TermPlan → DoPlan
    PushWord : ℕ → WordOf → DoPlan
    If : CondPlan → DosPlan → DosPlan → DoPlan

  pub data DosPlan : Type 0 where
    End : DosPlan
    Then : DoPlan → DosPlan → DosPlan

abbrev mutual
  pub do_plan : Do → DoPlan
  do_plan (one.Let n e) = Let n (fixed_plan e)
  do_plan (one.SetInt c t) = SetInt c (term_plan t)
  do_plan (one.SetEnum c l) = SetEnum c l
  do_plan (one.CopyEnum c d) = CopyEnum c d
  do_plan (one.Keep c vs) = Keep c (map fixed_plan vs)
  do_plan (one.KeepFrom c d) = KeepFrom c d
  do_plan (one.PushNum c t) = PushNum c (term_plan t)
  do_plan (one.PushWord c w) = PushWord c w
  do_plan (one.If c a b) = If (cond_plan c) (dos_plan a) (dos_plan b)

  pub dos_plan : Dos → DosPlan
  dos_plan dos.End = End
  dos_plan (dos.More' p d q rest) = Then (do_plan d) (dos_plan rest)
