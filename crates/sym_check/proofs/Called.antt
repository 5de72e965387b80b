-- What a call comes to after the tests on its arguments.
use Rattle.std.proofs.Common.{◌≡◌, ℕ, ◌-◌, ◌==◌, true, false, List, length, take, drop, Result, Ok, Err, refl, ap, sym, ◌∙◌, arith, length-drop}
use Rattle.std.proofs.Math.Seq.{take-length}
use Rattle.std.proofs.lemmas.Grind.{common_steps}
use Rattle.std.specs.Cmp.Lexicographic.{pointwise}
use Rattle.sym_check.specs.declared.elaborate.error.CheckErr.{CheckErr}
use Rattle.sym_check.specs.declared.elaborate.error.CheckErr.TheVariants as broken
use Rattle.sym_check.specs.declared.plan.script.KindPlan.{KindPlan}
use Rattle.sym_check.specs.Meaning.Arithmetic.{and_then}
use Rattle.sym_check.specs.Plan.CondPlans as cond
use Rattle.sym_check.specs.Elaborate.Expressions.{TestNamed, Arguments, same_kind, values_of, called_on}
use Rattle.sym_check.specs.Rules.Typing.{HoldCell, Truth}

-- The rest of a list, cut out of it.
pub rest-whole : {A : Type 0} (n : ℕ) (xs : List A) → take (length xs - n) (drop n xs) ≡ drop n xs
rest-whole n xs = ap (λ k. take k (drop n xs)) (sym (length-drop n xs)) ∙ take-length (drop n xs)

same : (n m : ℕ) → n ≡ m → (n == m) ≡ true
same n m e = grind (arith, common_steps)

module _ (at : ℕ) (test : TestNamed) (args : Arguments) (c : ℕ) (ks : List KindPlan) where
  pub other-kinds : length args.others ≡ length test.params - length ks →
      pointwise same_kind ks (take (length ks) test.params) ≡ false →
      called_on at test args (HoldCell c ks) ≡ Err (broken.Kind args.first.at)
  other-kinds e p = rw (same _ _ e, p) refl

  pub same-kinds : length args.others ≡ length test.params - length ks →
      pointwise same_kind ks (take (length ks) test.params) ≡ true →
      called_on at test args (HoldCell c ks) ≡ and_then (λ vs. Ok (Truth (cond.Test test.test c vs))) (values_of (drop (length ks) test.params) args.others)
  same-kinds e p = rw (same _ _ e, p) refl

pub then-ok : {A B : Type 0} (o : Result A CheckErr) (f : A → Result B CheckErr) (a : A) → o ≡ Ok a → and_then f o ≡ f a
then-ok o f a e = rw e refl

pub then-err : {A B : Type 0} (o : Result A CheckErr) (f : A → Result B CheckErr) (e : CheckErr) → o ≡ Err e → and_then f o ≡ Err e
then-err o f e p = rw p refl
