-- Locals that were there before a statement are there after it.
use Rattle.std.proofs.Common.{◌≡◌, ◌∙◌, ap, sym, refl, ℕ, ◌≤◌, List, [], ◌∷◌, ◌++◌, take, length, arith, length-take, pos, replicate, ◌-◌, Result, Ok, Err, OnOk}
use Rattle.std.proofs.lemmas.List.{take_all, take_at, take-take}
use Rattle.sym_base.specs.declared.values.value.Value.{Value}
use Rattle.sym_base.specs.declared.values.value.Value.TheVariants as value
use Rattle.sym_base.specs.declared.values.record.Record.{Record}
use Rattle.sym_check.specs.declared.evaluate.arithmetic.Arith.{Arith}
use Rattle.sym_check.specs.Plan.DoPlans.{DoPlan, Let, SetInt, SetEnum, CopyEnum, Keep, KeepFrom, PushNum, PushWord, If}
use Rattle.sym_check.specs.Meaning.FixedValues.{Environment, fixed_value}
use Rattle.sym_check.specs.Meaning.Updates.{environment, environment_after, with_result}

same_kept : (xs : List Value) → take (length xs) xs ≡ xs
same_kept xs = take_all (length xs) xs (omega arith)

with_result-kept : (k : Environment) (n : ℕ) (r : Result Value Arith) → take (length k.locals) (with_result k n r).locals ≡ k.locals
with_result-kept k n (Ok v) = take_at k.locals (replicate (n - length k.locals) (value.Num (pos 0)) ++ v ∷ []) (length k.locals) refl
with_result-kept k n (Err e) = same_kept k.locals

after-kept : (k : Environment) (d : DoPlan) → take (length k.locals) (environment_after k d).locals ≡ k.locals
after-kept k (Let n e) = with_result-kept k n (fixed_value k e)
after-kept k (SetInt c t) = same_kept k.locals
after-kept k (SetEnum c l) = same_kept k.locals
after-kept k (CopyEnum c d) = same_kept k.locals
after-kept k (Keep c es) = same_kept k.locals
after-kept k (KeepFrom c d) = same_kept k.locals
after-kept k (PushNum c t) = same_kept k.locals
after-kept k (PushWord c w) = same_kept k.locals
after-kept k (If c a b) = same_kept k.locals

kept_further : (xs ys zs : List Value) → take (length xs) ys ≡ xs → take (length ys) zs ≡ ys → take (length xs) zs ≡ xs
kept_further xs ys zs p q =
    let shorter : length xs ≤ length ys = omega (arith, ap length p, length-take (length xs) ys) in
    sym (take-take (length xs) (length ys) zs shorter) ∙ ap (take (length xs)) q ∙ p

pub kept_on : {A E : Type 0} (r : Result A E) (rec : Record) (xs ys zs : List Value) (d : DoPlan) → environment rec ys ≡ environment_after (environment rec xs) d → OnOk r (take (length ys) zs ≡ ys) → OnOk r (take (length xs) zs ≡ xs)
kept_on (Ok x) rec xs ys zs d e h = kept_further xs ys zs (ap (λ (k : Environment). take (length xs) k.locals) e ∙ after-kept (environment rec xs) d) h
kept_on (Err x) rec xs ys zs d e h = h
