use Rattle.std.proofs.Common.{◌≡◌, zero, suc, All, List, [], ◌∷◌, ◌++◌, sym, ap, subst, ◌∙◌, append_assoc, arith}
use Rattle.sym_base.specs.declared.values.value.Value.TheVariants.{Num}
use Rattle.sym_int.specs.Elements.{CanGoThrough, led_to}
use Rattle.sym_int.specs.Lines.{form_value}
use Rattle.sym_int.specs.declared.form.IntForm.{IntForm}
use Rattle.sym_uses.specs.ListForms.{numbers_at}
use Rattle.sym_uses.proofs.list_forms.pushed_in_turn.Goals as goal

alone : {A : Type 0} (P : A → Type 0) (x : A) → P x → All P (x ∷ [])
alone P x p zero d h = p
alone P x p (suc k) d h = absurd (omega arith)

pub go_through-requires : goal.go_through-requires
go_through-requires c =
    let right : c.in_ok-right.right ≡ c.args.second ∷ [] = c.in_ok-right.ensures ∙ ap (λ (xs : List IntForm). xs ++ c.args.second ∷ []) c.same-2.ensures in
    subst (λ (xs : List IntForm). All (λ element. CanGoThrough element c.args.context.now) xs) (sym right) (alone (λ element. CanGoThrough element c.args.context.now) c.args.second c.requires)

pub returns : goal.returns
returns c = λ state old h.
    let left : c.in_ok-left.left ≡ c.args.first ∷ [] = c.in_ok-left.ensures ∙ ap (λ (xs : List IntForm). xs ++ c.args.first ∷ []) c.same.ensures in
    let right : c.in_ok-right.right ≡ c.args.second ∷ [] = c.in_ok-right.ensures ∙ ap (λ (xs : List IntForm). xs ++ c.args.second ∷ []) c.same-2.ensures in
    c.in_ok-go_through.ensures.composed state old h
    ∙ (λ i. numbers_at (right i) (led_to c.args.context.now state) (numbers_at (left i) state old))
    ∙ append_assoc old (Num (form_value c.args.first state) ∷ []) (Num (form_value c.args.second (led_to c.args.context.now state)) ∷ [])
