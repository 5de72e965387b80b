-- For the crates above: the equality of list forms decides equality where that of their elements does.
use Rattle.std.proofs.Common.{◌≡◌, Bool, List}
use Rattle.std.specs.Bool.{Decides}
use Rattle.std.specs.Cmp.Lexicographic.{pointwise, pointwise_decides}

pub list_form_eq-Decides : {E : Type 0} (eq : E → E → Bool) → ((x y : E) → Decides (eq x y) (x ≡ y)) → (f g : List E) → Decides (pointwise eq f g) (f ≡ g)
list_form_eq-Decides eq decides f g = pointwise_decides decides f g
