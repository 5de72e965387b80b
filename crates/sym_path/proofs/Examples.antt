-- The definitions tried on a counter whose cell 0 is a number from 0 to 10 and whose cell 1 has the
-- labels 0 and 1: one is added where the label is 0, and past 10 the group ends.
use Rattle.std.specs.Prelude.{◌≡◌, ◌≤◌, refl, ℕ, ℤ, pos, unsigned_abs, false, [], ◌∷◌}
use Rattle.std.proofs.Common.{◌↔◌, zero, suc, arith, lit≤, lit<}
use Rattle.std.proofs.lemmas.Int.{ints}
use Rattle.std.specs.List.{Contains}
use Rattle.sym_base.specs.declared.values.state.Cell.TheVariants as cell
use Rattle.sym_base.specs.declared.values.state.Fault.{Fault}
use Rattle.sym_base.specs.declared.values.state.FaultKind.TheVariants.{Over}
use Rattle.sym_base.specs.declared.values.state.State.{State}
use Rattle.sym_base.specs.declared.values.state.Outcome.{Outcome}
use Rattle.sym_base.specs.declared.values.state.Outcome.TheVariants.{Going}
use Rattle.sym_base.specs.declared.values.state.Outcome.TheVariants as outcome
use Rattle.sym_enum.specs.Labels.{has_label}
use Rattle.sym_enum.specs.declared.form.EnumForm.TheVariants as label
use Rattle.sym_enum.specs.declared.label_set.LabelSet.{LabelSet}
use Rattle.sym_int.specs.Bounds.{offset_max}
use Rattle.sym_int.specs.Offsets.{joined}
use Rattle.sym_int.specs.declared.form.IntForm.{IntForm}
use Rattle.sym_int.specs.declared.form.IntForm.TheVariants as number
use Rattle.sym_int.specs.declared.span.Span.{Span}
use Rattle.sym_base.specs.Tests.{Truth}
use Rattle.sym_path.specs.declared.part.Part.TheVariants as part
use Rattle.sym_path.specs.declared.form.Form.TheVariants as form
use Rattle.sym_path.specs.declared.path.PathEnd.TheVariants.{Next, Ended}
use Rattle.sym_path.specs.declared.path.Path.{Path}
use Rattle.sym_path.specs.Composing.{given_by_both, given_by_three}
use Rattle.sym_path.specs.Giving.{AgreeAt, Gives, given, outcomes}
use Rattle.sym_path.specs.Pairs.{most_pairs}
use Rattle.sym_path.proofs.AmongOutcomes.{gives_is, no_item, one_item, only_item, same_outcomes}

abbrev nothing : Truth
nothing test args parts = false

abbrev below_ten : Span
below_ten = record { lo = pos 0; hi = pos 9; lo_in = lit≤ tt; ordered = omega (arith, ints); hi_in = lit≤ tt }

abbrev ten : Span
ten = record { lo = pos 10; hi = pos 10; lo_in = lit≤ tt; ordered = omega (arith, ints); hi_in = lit≤ tt }

one_small : unsigned_abs (joined (pos 0) 1) ≤ offset_max
unfolding joined
one_small = lit≤ tt

abbrev one_more : IntForm
one_more = number.Line (record { cell = 0; high = pos 0; a = pos 1; low = 1; rises_or_falls = λ e. cc; a_in = lit≤ tt; b_in = one_small; low_in = lit< tt })

abbrev zero_label : LabelSet
zero_label = record { bits = 1; below_32 = lit< tt }

abbrev past : Fault
past = record { kind = Over 0; no = 7 }

abbrev adds : Path
adds = record { when = part.Span below_ten ∷ part.Set zero_label ∷ []; end = Next (form.Int one_more ∷ form.Enum (label.Const 0) ∷ []) }

abbrev ends : Path
ends = record { when = part.Span ten ∷ part.Set zero_label ∷ []; end = Ended past }

abbrev counting : ℤ → ℕ → State
counting x l = record { cells = cell.Int x ∷ cell.Enum l ∷ [] }

from_three : given nothing adds (counting (pos 3) 0) ≡ Going (counting (pos 4) 0) ∷ []
unfolding has_label joined
from_three = refl

from_ten : outcomes nothing (adds ∷ ends ∷ []) (counting (pos 10) 0) ≡ outcome.Ended past ∷ []
unfolding has_label
from_ten = refl

-- Neither path is for the label 1, nor for a number past the range.
from_another : outcomes nothing (adds ∷ ends ∷ []) (counting (pos 3) 1) ≡ []
unfolding has_label
from_another = refl

from_outside : outcomes nothing (adds ∷ ends ∷ []) (counting (pos 11) 0) ≡ []
unfolding has_label
from_outside = refl

-- Two paths for a state give two outcomes.
from_both : outcomes nothing (adds ∷ adds ∷ []) (counting (pos 9) 0) ≡ Going (counting (pos 10) 0) ∷ Going (counting (pos 10) 0) ∷ []
unfolding has_label joined
from_both = refl

-- They give no other outcome, and agree with one of them alone.
from_either : (o : Outcome) → Gives nothing (adds ∷ adds ∷ []) (counting (pos 9) 0) o → Going (counting (pos 10) 0) ≡ o
from_either o h = twice ((same_outcomes nothing (adds ∷ adds ∷ []) (counting (pos 9) 0) o (Going (counting (pos 10) 0) ∷ Going (counting (pos 10) 0) ∷ []) from_both).0 h)
  where
    twice : Contains (Going (counting (pos 10) 0) ∷ Going (counting (pos 10) 0) ∷ []) o → Going (counting (pos 10) 0) ≡ o
    twice (zero, within, is) = is
    twice (suc zero, within, is) = is
    twice (suc (suc k), within, is) = absurd (omega arith)

from_nine : outcomes nothing (adds ∷ []) (counting (pos 9) 0) ≡ Going (counting (pos 10) 0) ∷ []
unfolding has_label joined
from_nine = refl

twice_is_once : AgreeAt nothing (adds ∷ adds ∷ []) (adds ∷ []) (counting (pos 9) 0)
twice_is_once o = (
  λ h. (one o).1 (one_item (Going (counting (pos 10) 0)) o (from_either o h)),
  λ h. (two o).1 (0, omega arith, only_item (Going (counting (pos 10) 0)) o ((one o).0 h)),
)
  where
    one : (o : Outcome) → Gives nothing (adds ∷ []) (counting (pos 9) 0) o ↔ Contains (Going (counting (pos 10) 0) ∷ []) o
    one o = same_outcomes nothing (adds ∷ []) (counting (pos 9) 0) o (Going (counting (pos 10) 0) ∷ []) from_nine

    two : (o : Outcome) → Gives nothing (adds ∷ adds ∷ []) (counting (pos 9) 0) o ↔ Contains (Going (counting (pos 10) 0) ∷ Going (counting (pos 10) 0) ∷ []) o
    two o = same_outcomes nothing (adds ∷ adds ∷ []) (counting (pos 9) 0) o (Going (counting (pos 10) 0) ∷ Going (counting (pos 10) 0) ∷ []) from_both

-- They don't agree with a path that doesn't admit the state.
another_differs : AgreeAt nothing (adds ∷ []) (ends ∷ []) (counting (pos 9) 0) → ⊥
unfolding has_label joined
another_differs h =
    let given : Gives nothing (ends ∷ []) (counting (pos 9) 0) (Going (counting (pos 10) 0)) =
    (h (Going (counting (pos 10) 0))).0 ((same_outcomes nothing (adds ∷ []) (counting (pos 9) 0) (Going (counting (pos 10) 0)) (Going (counting (pos 10) 0) ∷ []) from_nine).1
    (one_item (Going (counting (pos 10) 0)) (Going (counting (pos 10) 0)) refl)) in
    no_item (Going (counting (pos 10) 0)) ((gives_is nothing (ends ∷ []) (counting (pos 9) 0) (Going (counting (pos 10) 0))).0 given)

-- Two records in turn, and three: from 8 the third one ends the group, and from 10 the first one.
two_in_turn : given_by_both nothing (adds ∷ ends ∷ []) (adds ∷ ends ∷ []) (counting (pos 8) 0) ≡ Going (counting (pos 10) 0) ∷ []
unfolding has_label joined
two_in_turn = refl

three_in_turn : given_by_three nothing (adds ∷ ends ∷ []) (adds ∷ ends ∷ []) (adds ∷ ends ∷ []) (counting (pos 8) 0) ≡ outcome.Ended past ∷ []
unfolding has_label joined
three_in_turn = refl

three_from_ten : given_by_three nothing (adds ∷ ends ∷ []) (adds ∷ ends ∷ []) (adds ∷ ends ∷ []) (counting (pos 10) 0) ≡ outcome.Ended past ∷ []
unfolding has_label
three_from_ten = refl

-- One path of the left has ended, and each of the two on the right may come after the other one.
three_pairs : most_pairs (adds ∷ ends ∷ []) (adds ∷ ends ∷ []) ≡ 3
three_pairs = refl
