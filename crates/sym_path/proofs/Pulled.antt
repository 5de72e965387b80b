-- What is needed of one cell, over all forms.
use Rattle.std.proofs.Common.{◌≡◌, ◌+◌, ◌↔◌, ℕ, ℤ, Bool, true, false, ◌&&◌, List, Option, Some, None, drop, refl, sym, ap, ◌∙◌}
use Rattle.std.proofs.lemmas.Bool.{and_parts, and_from, eq-eqb}
use Rattle.std.specs.Prelude.{slice_get, IsTrue}
use Rattle.sym_base.specs.Limits.{IsNumber}
use Rattle.sym_int.specs.Lines.{form_on}
use Rattle.sym_int.specs.Points.{HasPoint, IsPart}
use Rattle.sym_int.specs.declared.form.IntForm.TheVariants as number
use Rattle.sym_int.specs.declared.form.Line.{Line}
use Rattle.sym_int.specs.declared.span.Span.{Span}
use Rattle.sym_path.specs.declared.part.Part.TheVariants as part
use Rattle.sym_path.specs.Pulling.{zip_all, int_passes}
use Rattle.sym_path.proofs.Decided.{point_decided}
use Rattle.sym_path.proofs.Fitted.{number_between}
use Rattle.sym_path.proofs.Lists.{drop_get}

pub zip_all_drop : {A B : Type 0} (t : A → B → Bool) (xs : List A) (ys : List B) (i : ℕ) (x : A) (y : B) → slice_get xs i ≡ Some x → slice_get ys i ≡ Some y → zip_all t (drop i xs) (drop i ys) ≡ (t x y && zip_all t (drop (i + 1) xs) (drop (i + 1) ys))
zip_all_drop t xs ys i x y e f = let d = drop_get xs i x e in let g = drop_get ys i y f in rw (d, g) refl

assoc : (a b c : Bool) → ((a && b) && c) ≡ (a && (b && c))
assoc true b c = refl
assoc false b c = refl

-- One form more.
pub labels_next : (a b p : Bool) (z y w : Bool) → b ≡ (a && p) → z ≡ (p && y) → (a && z) ≡ w → (b && y) ≡ w
labels_next a b p z y w e f h = ap (λ k. k && y) e ∙ assoc a p y ∙ ap (λ k. a && k) (sym f) ∙ h

pub numbers_next : (left span next : Span) (p y z w : Bool) (x : ℤ) → (HasPoint next x ↔ (HasPoint left x × IsTrue p)) → z ≡ (p && y) → ((HasPoint left x × IsTrue z) ↔ (HasPoint span x × IsTrue w)) → ((HasPoint next x × IsTrue y) ↔ (HasPoint span x × IsTrue w))
numbers_next left span next p y z w x step e h = (
  λ q. h.0 ((step.0 q.0).0, e ∙ and_from p y (step.0 q.0).1 q.1),
  λ q. let r = h.1 q in let t = and_parts p y (sym e ∙ r.1) in (step.1 (r.0, t.0), t.1),
)

part_like : (P Q : ℤ → Type 0) (o : Option Span) → ((x : ℤ) → P x → Q x) → ((x : ℤ) → Q x → P x) → IsPart P o → IsPart Q o
part_like P Q None there back h = λ x q. h x (back x q)
part_like P Q (Some span) there back h = λ x. (λ q. there x ((h x).0 q), λ q. (h x).1 (back x q))

module _ (c : ℕ) (span need : Span) (line : Line) (named : line.cell ≡ c) where
  abbrev at_line : ℤ → ℤ
  at_line x = form_on (number.Line line) x

  passes_there : (x : ℤ) → HasPoint need (at_line x) → IsTrue (int_passes c x (part.Span need) (number.Line line))
  passes_there x h = rw (eq-eqb line.cell c named) ((point_decided need (at_line x)).1 h)

  passes_back : (x : ℤ) → IsTrue (int_passes c x (part.Span need) (number.Line line)) → HasPoint need (at_line x)
  passes_back x h = (point_decided need (at_line x)).0 (rw (eq-eqb line.cell c named) at h)

  point_number : (x : ℤ) → HasPoint span x → IsNumber x
  point_number x h = number_between span.lo span.hi x span.lo_in span.hi_in h

  pub line_in : (pulled : Span) (o : Option Span) → ((x : ℤ) → IsNumber x → (HasPoint pulled x ↔ HasPoint need (at_line x))) → IsPart (λ x. HasPoint span x × HasPoint pulled x) o → IsPart (λ x. HasPoint span x × IsTrue (int_passes c x (part.Span need) (number.Line line))) o
  line_in pulled o exact h =
      part_like (λ x. HasPoint span x × HasPoint pulled x) (λ x. HasPoint span x × IsTrue (int_passes c x (part.Span need) (number.Line line))) o
      (λ x q. (q.0, passes_there x ((exact x (point_number x q.0)).0 q.1))) (λ x q. (q.0, (exact x (point_number x q.0)).1 (passes_back x q.1))) h

  pub line_never : ((x : ℤ) → IsNumber x → HasPoint need (at_line x) → ⊥) → (x : ℤ) → HasPoint span x × IsTrue (int_passes c x (part.Span need) (number.Line line)) → ⊥
  line_never never x q = never x (point_number x q.0) (passes_back x q.1)
