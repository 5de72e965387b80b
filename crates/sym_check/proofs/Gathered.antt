-- Values that are gathered one by one are those of the whole list.
use Rattle.std.proofs.Common.{◌≡◌, ℕ, suc, ◌+◌, ◌<◌, List, [], ◌∷◌, ◌++◌, length, get_or, drop, Result, Ok, Err, refl, ap, sym, append_assoc, append-nil, add-one, drop-cons}
use Rattle.sym_check.specs.declared.elaborate.error.CheckErr.{CheckErr}
use Rattle.sym_check.specs.declared.plan.script.KindPlan.{KindPlan}
use Rattle.sym_check.specs.Meaning.Arithmetic.{and_then}
use Rattle.sym_check.specs.Elaborate.Expressions.{Located, value_of, values_of}
use Rattle.sym_check.specs.Plan.FixedPlans.{FixedPlan}

-- These, before the others.
abbrev pub gathered : {A : Type 0} → List A → List A → Result (List A) CheckErr
gathered xs rest = Ok (xs ++ rest)

pub gathered-one : {A : Type 0} (xs : List A) (x : A) (o : Result (List A) CheckErr) →
    and_then (gathered xs) (and_then (λ rest. Ok (x ∷ rest)) o) ≡ and_then (gathered (xs ++ x ∷ [])) o
gathered-one xs x (Ok rest) = ap (λ all. Ok all) (sym (append_assoc xs (x ∷ []) rest))
gathered-one xs x (Err e) = refl

values-go : (k : KindPlan) (ks : List KindPlan) (a : Located) (rest : List Located) (v : FixedPlan) (xs : List FixedPlan) →
    value_of k a ≡ Ok v →
    and_then (gathered xs) (values_of (k ∷ ks) (a ∷ rest)) ≡ and_then (gathered (xs ++ v ∷ [])) (values_of ks rest)
values-go k ks a rest v xs e = rw e (gathered-one xs v (values_of ks rest))

-- The value at the next index.
pub values-next : (ks : List KindPlan) (i : ℕ) (d : KindPlan) (all : List Located) (a : Located) (rest : List Located) (v : FixedPlan) (xs vs : List FixedPlan) →
    i < length ks →
    value_of (get_or ks i d) a ≡ Ok v →
    all ≡ a ∷ rest →
    vs ≡ xs ++ v ∷ [] →
    and_then (gathered xs) (values_of (drop i ks) all) ≡ and_then (gathered vs) (values_of (drop (i + 1) ks) rest)
values-next ks i d all a rest v xs vs below e p q =
    rw (p, q, drop-cons ks i d, add-one) (values-go (get_or ks i d) (drop (suc i) ks) a rest v xs e)

-- No operand is left.
pub values-end : (ks : List KindPlan) (rest : List Located) (xs : List FixedPlan) → rest ≡ [] → and_then (gathered xs) (values_of ks rest) ≡ Ok xs
values-end [] rest xs e = ap (λ all. Ok all) (append-nil xs)
values-end (k ∷ ks) [] xs e = ap (λ all. Ok all) (append-nil xs)
values-end (k ∷ ks) (a ∷ rest) xs e = cc
