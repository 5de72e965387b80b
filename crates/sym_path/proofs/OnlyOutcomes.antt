-- What paths give at a state is one outcome exactly where one of them admits the state and gives it,
-- and no other admits it.
use Rattle.std.proofs.Common.{◌≡◌, ◌↔◌, ℕ, zero, suc, Bool, true, false, List, [], ◌∷◌, ◌++◌, Some, refl, ap, sym, ◌∙◌}
use Rattle.std.specs.Prelude.{if◌then◌else◌, slice_get}
use Rattle.sym_base.specs.declared.values.state.State.{State}
use Rattle.sym_base.specs.declared.values.state.Outcome.{Outcome}
use Rattle.sym_base.specs.Tests.{Truth}
use Rattle.sym_path.specs.declared.path.Path.{Path}
use Rattle.sym_path.specs.Admitting.{admits}
use Rattle.sym_path.specs.Giving.{end_at, outcomes, IsOnlyOutcome}
use Rattle.sym_path.proofs.Decided.{admits_decided}

module _ (truth : Truth) (s : State) where
  abbrev admitted_by : Path → Bool
  admitted_by p = admits truth p.when s.cells

  abbrev NoneAdmits : List Path → Type 0
  NoneAdmits paths = (i : ℕ) (p : Path) → slice_get paths i ≡ Some p → admitted_by p ≡ true → ⊥

  none_cons : (p : Path) (paths : List Path) → admitted_by p ≡ false → NoneAdmits paths → NoneAdmits (p ∷ paths)
  none_cons p paths f rest zero q e h =
      let same : p ≡ q = cc in
      let g : admitted_by p ≡ admitted_by q = ap (λ (r : Path). admitted_by r) same in
      cc
  none_cons p paths f rest (suc i) q e h = rest i q e h

  none_step : (p : Path) (paths : List Path) (b : Bool) → admitted_by p ≡ b → (outcomes truth paths s ≡ [] → NoneAdmits paths) → (if b then end_at p.end s ∷ [] else []) ++ outcomes truth paths s ≡ [] → NoneAdmits (p ∷ paths)
  none_step p paths true f more e = absurd (cc)
  none_step p paths false f more e = none_cons p paths f (more e)

  -- Paths that give nothing don't admit the state,
  none_from : (paths : List Path) → outcomes truth paths s ≡ [] → NoneAdmits paths
  none_from [] e = λ i p f h. cc
  none_from (p ∷ paths) e = none_step p paths (admitted_by p) refl (none_from paths) e

  nothing_step : (p : Path) (paths : List Path) (b : Bool) → admitted_by p ≡ b → (admitted_by p ≡ true → ⊥) → outcomes truth paths s ≡ [] → (if b then end_at p.end s ∷ [] else []) ++ outcomes truth paths s ≡ []
  nothing_step p paths true f not_p rest = absurd (not_p f)
  nothing_step p paths false f not_p rest = rest

  -- and paths that don't admit it give nothing.
  nothing_from : (paths : List Path) → NoneAdmits paths → outcomes truth paths s ≡ []
  nothing_from [] n = refl
  nothing_from (p ∷ paths) n = nothing_step p paths (admitted_by p) refl (λ h. n zero p refl h) (nothing_from paths (λ i q e h. n (suc i) q e h))

  module _ (o : Outcome) where
    abbrev Only : List Path → Type 0
    Only paths = (k : ℕ) × (q : Path) × (slice_get paths k ≡ Some q) × (admitted_by q ≡ true) × (end_at q.end s ≡ o)
        × ((i : ℕ) (r : Path) → slice_get paths i ≡ Some r → admitted_by r ≡ true → i ≡ k)

    later : (p : Path) (paths : List Path) → admitted_by p ≡ false → Only paths → Only (p ∷ paths)
    later p paths f (k, q, is, h, gives, others) = (suc k, q, is, h, gives, only)
      where
        only : (i : ℕ) (r : Path) → slice_get (p ∷ paths) i ≡ Some r → admitted_by r ≡ true → i ≡ suc k
        only zero r e h = let same : p ≡ r = cc in let g : admitted_by p ≡ admitted_by r = ap (λ (x : Path). admitted_by x) same in cc
        only (suc i) r e h = ap suc (others i r e h)

    first : (p : Path) (paths : List Path) → admitted_by p ≡ true → end_at p.end s ≡ o → NoneAdmits paths → Only (p ∷ paths)
    first p paths f gives none = (zero, p, refl, f, gives, only)
      where
        only : (i : ℕ) (r : Path) → slice_get (p ∷ paths) i ≡ Some r → admitted_by r ≡ true → i ≡ zero
        only zero r e h = refl
        only (suc i) r e h = absurd (none i r e h)

    only_step : (p : Path) (paths : List Path) (b : Bool) → admitted_by p ≡ b → (outcomes truth paths s ≡ o ∷ [] → Only paths) → (if b then end_at p.end s ∷ [] else []) ++ outcomes truth paths s ≡ o ∷ [] → Only (p ∷ paths)
    only_step p paths true f more e =
        let gives : end_at p.end s ≡ o = cc in
        let rest : outcomes truth paths s ≡ [] = cc in
        first p paths f gives (none_from paths rest)
    only_step p paths false f more e = later p paths f (more e)

    only_from : (paths : List Path) → outcomes truth paths s ≡ o ∷ [] → Only paths
    only_from [] e = absurd (cc)
    only_from (p ∷ paths) e = only_step p paths (admitted_by p) refl (only_from paths) e

    one_step : (p : Path) (paths : List Path) (b : Bool) → b ≡ true → end_at p.end s ≡ o → outcomes truth paths s ≡ [] → (if b then end_at p.end s ∷ [] else []) ++ outcomes truth paths s ≡ o ∷ []
    one_step p paths true f gives rest = cc
    one_step p paths false f gives rest = absurd (cc)

    skip_step : (p : Path) (paths : List Path) (b : Bool) → (b ≡ true → ⊥) → outcomes truth paths s ≡ o ∷ [] → (if b then end_at p.end s ∷ [] else []) ++ outcomes truth paths s ≡ o ∷ []
    skip_step p paths true f rest = absurd (f refl)
    skip_step p paths false f rest = rest

    only_to : (paths : List Path) (k : ℕ) (q : Path) → slice_get paths k ≡ Some q → admitted_by q ≡ true → end_at q.end s ≡ o → ((i : ℕ) (r : Path) → slice_get paths i ≡ Some r → admitted_by r ≡ true → i ≡ k) → outcomes truth paths s ≡ o ∷ []
    only_to [] k q is h gives others = absurd (cc)
    only_to (p ∷ paths) zero q is h gives others =
        let same : q ≡ p = cc in
        let own : admitted_by p ≡ true = ap (λ (r : Path). admitted_by r) (sym same) ∙ h in
        let ends : end_at p.end s ≡ o = ap (λ (r : Path). end_at r.end s) (sym same) ∙ gives in
        one_step p paths (admitted_by p) own ends (nothing_from paths (λ i r e g. let z : suc i ≡ 0 = others (suc i) r e g in cc))
    only_to (p ∷ paths) (suc k) q is h gives others =
        skip_step p paths (admitted_by p) (λ g. let z : 0 ≡ suc k = others 0 p refl g in cc)
        (only_to paths k q is h gives (λ i r e g. let z : suc i ≡ suc k = others (suc i) r e g in cc))

pub only_outcome : (truth : Truth) (paths : List Path) (s : State) (o : Outcome) → (outcomes truth paths s ≡ o ∷ []) ↔ IsOnlyOutcome truth paths s o
only_outcome truth paths s o = (forth, back)
  where
    of_only : Only truth s o paths → IsOnlyOutcome truth paths s o
    of_only (k, q, is, h, gives, others) = record {
      index = k;
      path = q;
      is = is;
      admitted = (admits_decided truth q.when s).0 h;
      gives = gives;
      no_other = λ i other e g. others i other e ((admits_decided truth other.when s).1 g);
    }

    forth : outcomes truth paths s ≡ o ∷ [] → IsOnlyOutcome truth paths s o
    forth e = of_only (only_from truth s o paths e)

    back : IsOnlyOutcome truth paths s o → outcomes truth paths s ≡ o ∷ []
    back w =
        only_to truth s o paths w.index w.path w.is ((admits_decided truth w.path.when s).1 w.admitted) w.gives
        (λ i r e g. w.no_other i r e ((admits_decided truth r.when s).0 g))
