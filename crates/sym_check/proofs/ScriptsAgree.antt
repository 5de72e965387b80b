-- A script has a plan by the rules exactly where the function gives it, and a first broken rule
-- exactly where the function names it. So it has one plan or one first broken rule, and never both.
use Rattle.std.proofs.Common.{◌≡◌, refl, ◌⊎◌, inl, inr, Result, Ok, Err}
use Rattle.sym_base.specs.Trees.{ScriptTree}
use Rattle.sym_check.specs.Plan.ScriptPlans.{ScriptPlan}
use Rattle.sym_check.specs.declared.elaborate.error.CheckErr.{CheckErr}
use Rattle.sym_check.specs.Rules.Scripts.{IsAccepted, BreaksScript, plan_of}
use Rattle.sym_check.proofs.ScriptParts.{script_agrees}

pub accepted_planned : (t : ScriptTree) (p : ScriptPlan) → IsAccepted t p → plan_of t ≡ Ok p
accepted_planned t p i = (script_agrees t).complete p i

pub planned_accepted : (t : ScriptTree) (p : ScriptPlan) → plan_of t ≡ Ok p → IsAccepted t p
planned_accepted t p e = (script_agrees t).sound p e

pub breaks_planned : (t : ScriptTree) (f : CheckErr) → BreaksScript t f → plan_of t ≡ Err f
breaks_planned t f b = (script_agrees t).finds f b

pub planned_breaks : (t : ScriptTree) (f : CheckErr) → plan_of t ≡ Err f → BreaksScript t f
planned_breaks t f e = (script_agrees t).breaks f e

pub one_plan : (t : ScriptTree) (p q : ScriptPlan) → IsAccepted t p → IsAccepted t q → p ≡ q
one_plan t p q i j =
    let h : plan_of t ≡ Ok p = accepted_planned t p i in
    let k : plan_of t ≡ Ok q = accepted_planned t q j in
    cc (h, k)

pub one_fault : (t : ScriptTree) (f g : CheckErr) → BreaksScript t f → BreaksScript t g → f ≡ g
one_fault t f g i j =
    let h : plan_of t ≡ Err f = breaks_planned t f i in
    let k : plan_of t ≡ Err g = breaks_planned t g j in
    cc (h, k)

pub never_both : (t : ScriptTree) (p : ScriptPlan) (f : CheckErr) → IsAccepted t p → BreaksScript t f → ⊥
never_both t p f i j =
    let h : plan_of t ≡ Ok p = accepted_planned t p i in
    let k : plan_of t ≡ Err f = breaks_planned t f j in
    cc (h, k)

pub one_or_other : (t : ScriptTree) → ((p : ScriptPlan) × IsAccepted t p) ⊎ ((f : CheckErr) × BreaksScript t f)
one_or_other t = go (plan_of t) refl
  where
    go : (r : Result ScriptPlan CheckErr) → plan_of t ≡ r → ((p : ScriptPlan) × IsAccepted t p) ⊎ ((f : CheckErr) × BreaksScript t f)
    go (Ok p) e = inl (p, planned_accepted t p e)
    go (Err f) e = inr (f, planned_breaks t f e)
