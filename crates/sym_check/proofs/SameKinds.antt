-- The tests of kinds and numbers hold exactly of what is equal.
use Rattle.std.proofs.Common.{◌≡◌, refl, ℕ, Bool, true, false, List, rules}
use Rattle.std.specs.Prelude.{◌==◌}
use Rattle.std.specs.Bool.{Decides}
use Rattle.std.specs.Cmp.{unsigned_Decides}
use Rattle.std.specs.Cmp.Lexicographic.{pointwise, pointwise_decides}
use Rattle.sym_check.specs.declared.plan.script.KindPlan.{KindPlan}
use Rattle.sym_check.specs.contracts.plan.script.KindPlanPartialEq.TheImpl as kinds
use Rattle.sym_check.specs.Elaborate.Expressions.{same_kind}

kind_eq-Decides : (x y : KindPlan) → Decides ((kinds.ghosts).eq x y) (x ≡ y)
kind_eq-Decides x y = search rules

same_kinds-Decides : (xs ys : List KindPlan) → Decides (pointwise same_kind xs ys) (xs ≡ ys)
same_kinds-Decides = pointwise_decides kind_eq-Decides

decided_false : {P : Type 0} (b : Bool) → Decides b P → (P → ⊥) → b ≡ false
decided_false true d h = absurd (h (d.0 refl))
decided_false false d h = refl

pub same_kinds : (xs ys : List KindPlan) → xs ≡ ys → pointwise same_kind xs ys ≡ true
same_kinds xs ys e = (same_kinds-Decides xs ys).1 e

pub kinds_are_same : (xs ys : List KindPlan) → pointwise same_kind xs ys ≡ true → xs ≡ ys
kinds_are_same xs ys e = (same_kinds-Decides xs ys).0 e

pub other_kinds : (xs ys : List KindPlan) → (xs ≡ ys → ⊥) → pointwise same_kind xs ys ≡ false
other_kinds xs ys h = decided_false (pointwise same_kind xs ys) (same_kinds-Decides xs ys) h

pub same_number : (m n : ℕ) → m ≡ n → (m == n) ≡ true
same_number m n e = (unsigned_Decides m n).1 e

pub numbers_are_same : (m n : ℕ) → (m == n) ≡ true → m ≡ n
numbers_are_same m n e = (unsigned_Decides m n).0 e

pub other_number : (m n : ℕ) → (m ≡ n → ⊥) → (m == n) ≡ false
other_number m n h = decided_false (m == n) (unsigned_Decides m n) h
