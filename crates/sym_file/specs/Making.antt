-- Values of types that keep a fact, from their plain parts; none where the fact doesn't hold.
use Rattle.std.specs.Prelude.{◌≡◌, ℕ, ◌≤◌, ◌^◌, ℤ, unsigned_abs, nat_lt, Bool, true, false, List, map, Option, Some, None, refl, if◌then◌else◌}
use Rattle.std.proofs.Common.{subst, sym}
use Rattle.std.specs.FinMap.{from_sorted, is_sorted}
use Rattle.sym_base.specs.Limits.{is_number}
use Rattle.sym_enum.specs.declared.label_set.LabelSet.{LabelSet}
use Rattle.sym_int.specs.Bounds.{AreOfLine, offset_max}
use Rattle.sym_int.specs.Offsets.{high_of, joined_again, low_below, low_of}
use Rattle.sym_int.specs.declared.form.Line.{Line}
use Rattle.sym_int.specs.declared.form.Number.{Number}
use Rattle.sym_int.specs.declared.span.Span.{Span}
use Rattle.sym_pred.specs.Facts.{FactMap, atom_cmp}
use Rattle.sym_pred.specs.Literals.{entry_of}
use Rattle.sym_pred.specs.declared.literal.Literal.{Literal}
use Rattle.sym_file.specs.Deciding.{are_ends, are_of_line, below_decided, ends_decided, line_decided, number_decided}

-- What a proof of the fact makes, where the test finds it.
abbrev pub made : {A : Type 0} → (b : Bool) → (b ≡ true → A) → Option A
made true make = Some (make refl)
made false make = None

-- The set whose labels have this sum of powers of 2.
unfoldable pub set_of : ℕ → Option LabelSet
set_of n =
    made (nat_lt n (2 ^ 32)) (λ e. record { bits = n; below_32 = (below_decided n (2 ^ 32)).0 e })

unfoldable pub span_of : ℤ → ℤ → Option Span
span_of lo hi = made (are_ends lo hi) (λ e. record {
  lo = lo;
  hi = hi;
  lo_in = ((ends_decided lo hi).0 e).0;
  ordered = ((ends_decided lo hi).0 e).1;
  hi_in = ((ends_decided lo hi).0 e).2;
})

unfoldable pub number_of : ℤ → Option Number
number_of x = made (is_number x) (λ e. record { value = x; value_in = (number_decided x).0 e })

-- The line with this slope and this offset.
abbrev pub line_with : ℕ → (a b : ℤ) → AreOfLine a b → Line
line_with cell a b h = record {
  cell = cell;
  high = high_of b;
  a = a;
  low = low_of b;
  rises_or_falls = h.0;
  a_in = h.1;
  b_in = subst (λ (x : ℤ). unsigned_abs x ≤ offset_max) (sym (joined_again b)) h.2;
  low_in = low_below b;
}

unfoldable pub line_of : ℕ → ℤ → ℤ → Option Line
line_of cell a b =
    made (are_of_line a b) (λ e. line_with cell a b ((line_decided a b).0 e))

-- Facts of literals in order, no two of the same test and arguments.
unfoldable pub facts_of : List Literal → Option FactMap
facts_of literals =
    if is_sorted atom_cmp (map entry_of literals)
    then Some (from_sorted (map entry_of literals))
    else None
