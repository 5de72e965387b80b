-- The values of several expressions, one more at a time.
use Rattle.std.proofs.Common.{◌≡◌, ap, sym, refl, List, [], ◌∷◌, ◌++◌, append_assoc, append-nil, Result, Ok, Err}
use Rattle.sym_base.specs.declared.values.value.Value.{Value}
use Rattle.sym_base.specs.declared.values.state.FaultKind.{FaultKind}
use Rattle.sym_check.specs.declared.evaluate.arithmetic.Arith.{Arith}
use Rattle.sym_check.specs.Meaning.Arithmetic.{and_then}
use Rattle.sym_check.specs.Plan.FixedPlans.{FixedPlan}
use Rattle.sym_check.specs.Meaning.FixedValues.{Environment, fixed_value, fixed_values}
use Rattle.sym_check.specs.Meaning.Updates.{or_fault}
use Rattle.sym_plain.specs.Running.{with_value}

-- These values and then those of the other expressions.
abbrev pub continued : List Value → Result (List Value) Arith → Result (List Value) FaultKind
continued vs r = or_fault (and_then (λ more. Ok (vs ++ more)) r)

abbrev pub values_after : Environment → List Value → List FixedPlan → Result (List Value) FaultKind
values_after k vs es = continued vs (fixed_values k es)

pub values_after-all : (k : Environment) (es : List FixedPlan) → values_after k [] es ≡ or_fault (fixed_values k es)
values_after-all k es = of (fixed_values k es)
  where
    of : (r : Result (List Value) Arith) → continued [] r ≡ or_fault r
    of (Ok vs) = refl
    of (Err e) = refl

pub values_after-none : (k : Environment) (vs : List Value) → values_after k vs [] ≡ Ok vs
values_after-none k vs = ap Ok (append-nil vs)

pub values_after-put : (k : Environment) (vs ws : List Value) (e : FixedPlan) (rest : List FixedPlan) → with_value k vs e ≡ Ok ws → values_after k vs (e ∷ rest) ≡ values_after k ws rest
values_after-put k vs ws e rest h = of (fixed_value k e) (fixed_values k rest) h
  where
    of : (x : Result Value Arith) (r : Result (List Value) Arith) → and_then (λ v. Ok (vs ++ v ∷ [])) (or_fault x) ≡ Ok ws → continued vs (and_then (λ y. and_then (λ ys. Ok (y ∷ ys)) r) x) ≡ continued ws r
    of (Ok y) (Ok ys) g = let same : vs ++ y ∷ [] ≡ ws = cc in rw (← same) (ap Ok (sym (append_assoc vs (y ∷ []) ys)))
    of (Ok y) (Err f) g = refl
    of (Err f) r g = cc

pub values_after-fault : (k : Environment) (vs : List Value) (e : FixedPlan) (rest : List FixedPlan) (kind : FaultKind) → with_value k vs e ≡ Err kind → values_after k vs (e ∷ rest) ≡ Err kind
values_after-fault k vs e rest kind h = of (fixed_value k e) h
  where
    of : (x : Result Value Arith) → and_then (λ v. Ok (vs ++ v ∷ [])) (or_fault x) ≡ Err kind → continued vs (and_then (λ y. and_then (λ ys. Ok (y ∷ ys)) (fixed_values k rest)) x) ≡ Err kind
    of (Ok y) g = cc
    of (Err f) g = cc
