-- Sets with the same labels are the same set.
use Rattle.std.proofs.Common.{◌≡◌, ℕ, ◌<◌, ◌^◌, ap}
use Rattle.std.proofs.lemmas.Nat.Bits.{same_from_bits}
use Rattle.sym_enum.proofs.Bits.{same_bit}
use Rattle.sym_enum.specs.Labels.{has_label}
use Rattle.sym_enum.specs.declared.label_set.LabelSet.{LabelSet}
use denote.Struct.Props.{props}
use mathlib.Core.HLevel.{Σ_prop_path}

below_prop : (n : ℕ) → IsProp (n < 2 ^ 32)
below_prop n = hlevel props

of_number : ((n : ℕ) × (n < 2 ^ 32)) → LabelSet
of_number p = record { bits = p.0; below_32 = p.1 }

pub same_number : (a b : LabelSet) → a.bits ≡ b.bits → a ≡ b
unfolding of_number
same_number a b e =
    let x : (n : ℕ) × (n < 2 ^ 32) = (a.bits, a.below_32) in
    let y : (n : ℕ) × (n < 2 ^ 32) = (b.bits, b.below_32) in
    let p : x ≡ y = Σ_prop_path below_prop e in
    ap of_number p

pub same_labels : (a b : LabelSet) → ((label : ℕ) → has_label a label ≡ has_label b label) → a ≡ b
unfolding has_label
same_labels a b h = same_number a b (same_from_bits a.bits b.bits (λ k. same_bit a.bits b.bits k (h k)))
