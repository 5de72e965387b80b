-- The order and the equality of values: total, and telling apart all that differs.
use Rattle.std.proofs.Common.{◌≡◌, ◌∙◌, ◌↔◌, List, refl, ap, sym, rules}
use Rattle.std.specs.declared.cmp.Ordering.{Ordering}
use Rattle.std.specs.declared.cmp.Ordering.TheVariants.{Less, Equal, Greater}
use Rattle.std.specs.Ordering.{ordering_reverse}
use Rattle.std.specs.Bool.{Decides}
use Rattle.std.specs.Cmp.{IsTotalOrder, nat_cmp_total, int_cmp_total}
use Rattle.std.specs.Cmp.Lexicographic.{lists_total, nat_list_cmp_total, pointwise, pointwise_decides}
use Rattle.std.specs.FinMap.{IsAntisymmetric, nat_cmp-IsAntisymmetric, int_cmp-IsAntisymmetric, slice_cmp-IsAntisymmetric}
use Rattle.sym_base.specs.contracts.values.value.ValuePartialEq.TheImpl as equality
use Rattle.sym_base.specs.contracts.values.value.KeyPartialEq.TheImpl as key_equality
use Rattle.sym_base.specs.declared.values.value.Key.{Key}
use Rattle.sym_base.specs.declared.values.value.Value.{Value}
use Rattle.sym_base.specs.declared.values.value.Value.TheVariants.{Num, Word, Label}
use Rattle.sym_base.specs.Order.{value_cmp, values_cmp}

antisymm : (x y : Value) → value_cmp x y ≡ ordering_reverse (value_cmp y x)
antisymm (Num x) (Num y) = int_cmp_total.antisymm x y
antisymm (Word s) (Word t) = nat_list_cmp_total.antisymm s t
antisymm (Label l) (Label m) = nat_cmp_total.antisymm l m
antisymm (Num x) _ = refl
antisymm (Word s) _ = refl
antisymm (Label l) _ = refl

trans : (x y z : Value) → value_cmp x y ≡ Less → value_cmp y z ≡ Less → value_cmp x z ≡ Less
trans (Num x) (Num y) (Num z) p q = int_cmp_total.trans x y z p q
trans (Word r) (Word s) (Word t) p q = nat_list_cmp_total.trans r s t p q
trans (Label k) (Label l) (Label m) p q = nat_cmp_total.trans k l m p q
trans (Num x) _ (Word t) p q = refl
trans (Num x) _ (Label m) p q = refl
trans (Word s) _ (Label m) p q = refl
trans (Num x) (Word s) (Num z) p q = cc
trans (Num x) (Label l) (Num z) p q = cc
trans (Word s) (Num y) z p q = cc
trans (Word s) (Word t) (Num z) p q = cc
trans (Word s) (Label l) z p q = cc
trans (Label l) (Num y) z p q = cc
trans (Label l) (Word t) z p q = cc
trans (Label l) (Label m) (Num z) p q = cc
trans (Label l) (Label m) (Word t) p q = cc

congr : (x y z : Value) → value_cmp x y ≡ Equal → value_cmp x z ≡ value_cmp y z
congr (Num x) (Num y) (Num z) p = int_cmp_total.congr x y z p
congr (Word r) (Word s) (Word t) p = nat_list_cmp_total.congr r s t p
congr (Label k) (Label l) (Label m) p = nat_cmp_total.congr k l m p
congr (Num x) (Num y) _ p = refl
congr (Word r) (Word s) _ p = refl
congr (Label k) (Label l) _ p = refl
congr (Num x) (Word s) z p = cc
congr (Num x) (Label l) z p = cc
congr (Word r) (Num y) z p = cc
congr (Word r) (Label l) z p = cc
congr (Label k) (Num y) z p = cc
congr (Label k) (Word s) z p = cc

-- Both are total orders,
pub value_cmp-total : IsTotalOrder value_cmp
value_cmp-total = record { antisymm = antisymm; trans = trans; congr = congr }

pub values_cmp-total : IsTotalOrder values_cmp
values_cmp-total = lists_total value_cmp-total

-- and tie only what is equal.
pub value_cmp-IsAntisymmetric : IsAntisymmetric value_cmp
value_cmp-IsAntisymmetric (Num x) (Num y) e = ap Num (int_cmp-IsAntisymmetric x y e)
value_cmp-IsAntisymmetric (Word s) (Word t) e = ap Word (slice_cmp-IsAntisymmetric nat_cmp-IsAntisymmetric s t e)
value_cmp-IsAntisymmetric (Label l) (Label m) e = ap Label (nat_cmp-IsAntisymmetric l m e)
value_cmp-IsAntisymmetric (Num x) (Word t) e = cc
value_cmp-IsAntisymmetric (Num x) (Label m) e = cc
value_cmp-IsAntisymmetric (Word s) (Num y) e = cc
value_cmp-IsAntisymmetric (Word s) (Label m) e = cc
value_cmp-IsAntisymmetric (Label l) (Num y) e = cc
value_cmp-IsAntisymmetric (Label l) (Word t) e = cc

-- An order that is its own reverse is a tie.
own_reverse : (o : Ordering) → o ≡ ordering_reverse o → o ≡ Equal
own_reverse Less e = cc
own_reverse Equal e = refl
own_reverse Greater e = cc

pub value_cmp-ties : (x y : Value) → (value_cmp x y ≡ Equal) ↔ (x ≡ y)
value_cmp-ties x y = (
  value_cmp-IsAntisymmetric x y,
  λ e. ap (λ (z : Value). value_cmp x z) (sym e) ∙ own_reverse (value_cmp x x) (antisymm x x),
)

pub values_cmp-IsAntisymmetric : IsAntisymmetric values_cmp
values_cmp-IsAntisymmetric = slice_cmp-IsAntisymmetric value_cmp-IsAntisymmetric

-- The equality that is derived for values holds exactly of what is equal, and so does that of lists.
pub value_eq-Decides : (x y : Value) → Decides ((equality.ghosts).eq x y) (x ≡ y)
value_eq-Decides x y = search rules

pub values_eq-Decides : (xs ys : List Value) → Decides (pointwise (equality.ghosts).eq xs ys) (xs ≡ ys)
values_eq-Decides = pointwise_decides value_eq-Decides

abbrev key_with : List Value → Key
key_with values = record { values = values }

pub key_eq-Decides : (k l : Key) → Decides ((key_equality.ghosts).eq k l) (k ≡ l)
key_eq-Decides k l =
    let values = values_eq-Decides k.values l.values in (
      λ h. ap key_with (values.0 h),
      λ e. values.1 (ap (λ (key : Key). key.values) e),
    )
