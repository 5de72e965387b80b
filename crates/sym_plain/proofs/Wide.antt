-- Which numbers 128 bits hold.
use Rattle.std.proofs.Common.{◌≡◌, ◌∙◌, ◌^◌, ◌-◌, ℤ, pos, negsuc, neg_ℤ, ◌≤ℤ◌, true, false, Bool, ap, sym, refl, if◌then◌else◌, Option, Some, None, FitsSigned, SomeIff, arith}
use Rattle.std.specs.Prelude.{int_le, ◌&&◌}
use Rattle.std.specs.Bool.{Decides}
use Rattle.std.specs.Cmp.Derive.{both_true}
use Rattle.std.proofs.lemmas.Int.{ints}
use mir.Syntax.{w128}
use Rattle.sym_base.specs.declared.values.report.Column.TheVariants.{Num, Bad}
use Rattle.sym_base.specs.declared.values.report.ReportFault.TheVariants as fault
use Rattle.sym_plain.specs.Shown.{is_wide, wide, wide_column}

le-Decides : (a b : ℤ) → Decides (int_le a b) (a ≤ℤ b)
le-Decides a b = (λ e. grind (arith, ints), λ h. grind (arith, ints))

fits : (z : ℤ) → neg_ℤ (pos (2 ^ 127)) ≤ℤ z → z ≤ℤ pos (2 ^ 127 - 1) → FitsSigned w128 z
fits (pos n) h k = record { sfits = omega (arith, ints) }
fits (negsuc n) h k = record { sfits = omega (arith, ints) }

is_wide-fits : (z : ℤ) → FitsSigned w128 z → is_wide z ≡ true
is_wide-fits z f =
    both_true ((le-Decides (neg_ℤ (pos (2 ^ 127))) z).1 (omega (arith, ints))) ((le-Decides z (pos (2 ^ 127 - 1))).1 (omega (arith, ints)))

fits-is_wide : (z : ℤ) → is_wide z ≡ true → FitsSigned w128 z
fits-is_wide z h = of (int_le (neg_ℤ (pos (2 ^ 127))) z) (int_le z (pos (2 ^ 127 - 1))) refl refl h
  where
    of : (a b : Bool) → int_le (neg_ℤ (pos (2 ^ 127))) z ≡ a → int_le z (pos (2 ^ 127 - 1)) ≡ b → (a && b) ≡ true → FitsSigned w128 z
    of true true p q e = fits z ((le-Decides (neg_ℤ (pos (2 ^ 127))) z).0 p) ((le-Decides z (pos (2 ^ 127 - 1))).0 q)
    of true false p q e = cc
    of false b p q e = cc

pub exact : (r : Option ℤ) (z : ℤ) → SomeIff r (FitsSigned w128 z) z → wide_column r ≡ wide z
exact None z h = of (is_wide z) refl
  where
    of : (b : Bool) → is_wide z ≡ b → Bad fault.Overflow ≡ (if b then Num z else Bad fault.Overflow)
    of true e = absurd (h (fits-is_wide z e))
    of false e = refl
exact (Some x) z h =
    ap Num h.1 ∙ ap (λ (b : Bool). if b then Num z else Bad fault.Overflow) (sym (is_wide-fits z h.0))
