-- Tests that decide what may be made of plain numbers.
use Rattle.std.specs.Prelude.{ℕ, ◌<◌, ◌≤◌, ℤ, pos, ◌≤ℤ◌, nat_lt, nat_le, int_le, unsigned_abs, Bool, not, ◌&&◌, refl}
use Rattle.std.specs.Bool.{Decides}
use Rattle.std.specs.Ordering.{int_eq}
use Rattle.std.proofs.lemmas.Bool.{le-leb, leb-true, lt-ltb, ltb-true}
use Rattle.std.proofs.lemmas.Bool.Decides.{Decides-and, Decides-int_eq, Decides-like, Decides-not}
use Rattle.sym_base.specs.Limits.{IsNumber, is_number, num_max}
use Rattle.sym_int.proofs.Truths.{le_true}
use Rattle.sym_int.specs.Bounds.{AreOfLine, offset_max, slope_max}
use Rattle.sym_int.specs.Points.{AreEnds}

pub below_decided : (n limit : ℕ) → Decides (nat_lt n limit) (n < limit)
below_decided n limit = (ltb-true n limit, lt-ltb n limit)

pub up_to_decided : (n limit : ℕ) → Decides (nat_le n limit) (n ≤ limit)
up_to_decided n limit = (leb-true n limit, le-leb n limit)

pub number_decided : (x : ℤ) → Decides (is_number x) (IsNumber x)
unfolding is_number
number_decided x = up_to_decided (unsigned_abs x) num_max

pub order_decided : (x y : ℤ) → Decides (int_le x y) (x ≤ℤ y)
order_decided x y = ((le_true x y y refl).1, (le_true x y y refl).0)

abbrev pub are_ends : ℤ → ℤ → Bool
are_ends lo hi = is_number lo && (int_le lo hi && is_number hi)

pub ends_decided : (lo hi : ℤ) → Decides (are_ends lo hi) (AreEnds lo hi)
ends_decided lo hi =
    Decides-like (are_ends lo hi) (λ h. (h.0, h.1.0, h.1.1)) (λ h. (h.0, (h.1, h.2)))
    (Decides-and (is_number lo) (int_le lo hi && is_number hi) (number_decided lo)
    (Decides-and (int_le lo hi) (is_number hi) (order_decided lo hi) (number_decided hi)))

abbrev pub are_of_line : ℤ → ℤ → Bool
are_of_line a b =
    not (int_eq a (pos 0))
    && (nat_le (unsigned_abs a) slope_max && nat_le (unsigned_abs b) offset_max)

pub line_decided : (a b : ℤ) → Decides (are_of_line a b) (AreOfLine a b)
line_decided a b =
    Decides-like (are_of_line a b) (λ h. (h.0, h.1.0, h.1.1)) (λ h. (h.0, (h.1, h.2)))
    (Decides-and (not (int_eq a (pos 0)))
    (nat_le (unsigned_abs a) slope_max && nat_le (unsigned_abs b) offset_max)
    (Decides-not (int_eq a (pos 0)) (Decides-int_eq a (pos 0)))
    (Decides-and (nat_le (unsigned_abs a) slope_max) (nat_le (unsigned_abs b) offset_max)
    (up_to_decided (unsigned_abs a) slope_max) (up_to_decided (unsigned_abs b) offset_max)))
