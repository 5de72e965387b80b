-- What a range keeps of a number that is below it, in it or above it.
use Rattle.std.proofs.Common.{◌≡◌, ℤ, ◌<ℤ◌, ◌≤ℤ◌, Bool, true, false, Option, Some, None, refl, sym, ap, ◌∙◌, arith}
use Rattle.std.proofs.lemmas.Int.{ints}
use Rattle.std.specs.Prelude.{int_le, if◌then◌else◌}
use Rattle.sym_check.proofs.KeptNumbers.{kept_in as kept_in_range}
use Rattle.sym_check.specs.Plan.Ranges.{kept}
use Rattle.sym_int.specs.Points.{HasPoint}
use Rattle.sym_int.specs.declared.span.Span.{Span}
use Rattle.sym_path.proofs.Decided.{point_decided}
use Rattle.sym_path.specs.Admitting.{has_point}
use Rattle.sym_explore.proofs.PathNumbers.{no_point}
use Rattle.sym_explore.specs.Ranging.{ranged}

not_at_most : (x y : ℤ) → y <ℤ x → int_le x y ≡ false
not_at_most x y less = go (int_le x y) refl
  where
    go : (b : Bool) → int_le x y ≡ b → int_le x y ≡ false
    go true e = let most : x ≤ℤ y = grind (arith, ints) in absurd (omega (arith, ints))
    go false e = e

at_most : (x y : ℤ) → x ≤ℤ y → int_le x y ≡ true
at_most x y h = grind (arith, ints)

module _ (clamps : Bool) (ends : Span) (x : ℤ) where
  abbrev by_point : Bool → Bool → Bool → Option ℤ
  by_point inside marked above =
      if inside then Some x else (if marked then Some (if above then ends.hi else ends.lo) else None)

  pub kept_in : HasPoint ends x → kept (ranged clamps ends) x ≡ Some x
  kept_in h = ap (λ (b : Bool). by_point b clamps (int_le ends.lo x)) ((point_decided ends x).1 h)

  pub kept_out : clamps ≡ false → ¬ (HasPoint ends x) → kept (ranged clamps ends) x ≡ None
  kept_out e n = λ i. by_point (no_point ends x n i) (e i) (int_le ends.lo x)

  pub kept_below : clamps ≡ true → x <ℤ ends.lo → kept (ranged clamps ends) x ≡ Some ends.lo
  kept_below e less =
      let out : has_point ends x ≡ false = no_point ends x (λ h. let k = h.0 in omega (arith, ints, k, less)) in
      λ i. by_point (out i) (e i) (not_at_most ends.lo x less i)

  pub kept_above : clamps ≡ true → ends.hi <ℤ x → kept (ranged clamps ends) x ≡ Some ends.hi
  kept_above e more =
      let out : has_point ends x ≡ false = no_point ends x (λ h. let k = h.1 in omega (arith, ints, k, more)) in
      let ordered : ends.lo ≤ℤ ends.hi = ends.ordered in
      let most : ends.lo ≤ℤ x = omega (arith, ints) in
      let is : int_le ends.lo x ≡ true = at_most ends.lo x most in
      λ i. by_point (out i) (e i) (is i)

  -- It is in the range.
  pub kept_within : (y : ℤ) → kept (ranged clamps ends) x ≡ Some y → HasPoint ends y
  kept_within y = kept_in_range (ranged clamps ends) x y ends.ordered

  -- A range that clamps keeps something of each number.
  pub kept_some : clamps ≡ true → ¬ (kept (ranged clamps ends) x ≡ None)
  kept_some e none = go (has_point ends x) (int_le ends.lo x) (sym (λ i. by_point (has_point ends x) (e i) (int_le ends.lo x)) ∙ none)
    where
      go : (b a : Bool) → by_point b true a ≡ None → ⊥
      go true a q = absurd (cc)
      go false true q = absurd (cc)
      go false false q = absurd (cc)
