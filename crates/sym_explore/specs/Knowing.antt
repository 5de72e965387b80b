-- Conditions and statements whose names stand for values of the kinds that they need.
use Rattle.sym_check.specs.Plan.CondPlans.{CondPlan}
use Rattle.sym_check.specs.Plan.DoPlans.{DoPlan, DosPlan}
use Rattle.sym_check.specs.Meaning.FixedValues.{Environment}
use Rattle.sym_check.specs.Plan.LinePlans.{TermPlan}
use Rattle.sym_check.specs.Plan.ScriptPlans.{ScriptPlan}
use Rattle.sym_check.specs.Plan.WellFormed.{Kinds, IsKnown, IsCond, IsDo, IsDos, IsTerm}

-- There are kinds of what is known with which the condition is well formed; the others in the same
-- way.
pub record CondIsKnown (p : ScriptPlan) (k : Environment) (c : CondPlan) : Type 0 where
  pub kinds : Kinds
  pub known : IsKnown p.enums kinds k
  pub well : IsCond p kinds c

-- There are kinds of what is known with which the term is well formed.
pub record TermIsKnown (p : ScriptPlan) (k : Environment) (t : TermPlan) : Type 0 where
  pub kinds : Kinds
  pub known : IsKnown p.enums kinds k
  pub well : IsTerm p.cells kinds t

-- There are kinds of what is known with which the statement is well formed, and kinds after it.
pub record DoIsKnown (p : ScriptPlan) (k : Environment) (d : DoPlan) : Type 0 where
  pub kinds : Kinds
  pub later : Kinds
  pub known : IsKnown p.enums kinds k
  pub well : IsDo p kinds d later

-- There are kinds of what is known with which the statements are well formed.
pub record DosAreKnown (p : ScriptPlan) (k : Environment) (ds : DosPlan) : Type 0 where
  pub kinds : Kinds
  pub known : IsKnown p.enums kinds k
  pub well : IsDos p kinds ds
