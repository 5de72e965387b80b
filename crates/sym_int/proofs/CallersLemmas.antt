-- For the crates above: which forms are the same, and what the equality of forms decides.
use Rattle.std.proofs.Common.{◌≡◌, ◌≢◌, ◌<◌, ◌^◌, ℕ, ℤ, pos, ◌+ℤ◌, ◌-ℤ◌, ◌*ℤ◌, ◌≤ℤ◌, List, Option, None, sym, ap, ◌∙◌, arith}
use Rattle.std.proofs.lemmas.Bool.Decides.{Decides-eqb, Decides-int_eq, Decides-and, Decides-like}
use Rattle.std.proofs.lemmas.Int.{ints, by_lt_z}
use Rattle.std.specs.Bool.{Decides}
use Rattle.std.specs.Cmp.Lexicographic.{pointwise, pointwise_decides}
use Rattle.sym_base.specs.Limits.{IsNumber}
use Rattle.sym_int.proofs.Products.{times_sum, product_apart}
use Rattle.sym_int.proofs.Values.{same_ends}
use Rattle.sym_int.specs.Bounds.{AreOfLine}
use Rattle.sym_int.specs.Lines.{form_on, form_cell, offset}
use Rattle.sym_int.specs.Offsets.{joined, joined_is}
use Rattle.sym_int.specs.Taken.{IsTaken}
use Rattle.sym_int.specs.contracts.form.IntFormPartialEq.TheImpl as form_equality
use Rattle.sym_int.specs.contracts.form.LinePartialEq.TheImpl as line_equality
use Rattle.sym_int.specs.contracts.form.NumberPartialEq.TheImpl as number_equality
use Rattle.sym_int.specs.contracts.span.SpanPartialEq.TheImpl as span_equality
use Rattle.sym_int.specs.declared.form.IntForm.{IntForm}
use Rattle.sym_int.specs.declared.form.IntForm.TheVariants as form
use Rattle.sym_int.specs.declared.form.Line.{Line}
use Rattle.sym_int.specs.declared.form.Number.{Number}
use Rattle.sym_int.specs.declared.span.Span.{Span}
use borrow.Author.Differences.{same_in, product_is}
use denote.Struct.Props.{props}
use mathlib.Core.HLevel.{Σ_prop_path}

-- ---- constants and lines by their numbers

number_prop : (x : ℤ) → IsProp (IsNumber x)
number_prop x = hlevel props

abbrev of_number : (x : ℤ) × IsNumber x → Number
of_number p = record { value = p.0; value_in = p.1 }

same_number : (m n : Number) → m.value ≡ n.value → m ≡ n
same_number m n e =
    let x : (v : ℤ) × IsNumber v = (m.value, m.value_in) in
    let y : (v : ℤ) × IsNumber v = (n.value, n.value_in) in
    let p : x ≡ y = Σ_prop_path number_prop e in
    ap of_number p

-- What a line keeps of its slope and of the parts of its offset.
abbrev Keeps : ℤ → ℤ → ℕ → Type 0
Keeps high a low = AreOfLine a (joined high low) × (low < 2 ^ 64)

abbrev LineParts : Type 0
LineParts = (p : ℕ × ℤ × ℤ × ℕ) × Keeps p.1 p.2 p.3

abbrev of_parts : LineParts → Line
of_parts p = record { cell = p.0.0; high = p.0.1; a = p.0.2; low = p.0.3; rises_or_falls = p.1.0.0; a_in = p.1.0.1; b_in = p.1.0.2; low_in = p.1.1 }

parts_prop : (p : ℕ × ℤ × ℤ × ℕ) → IsProp (Keeps p.1 p.2 p.3)
parts_prop p = hlevel props

same_parts : (l m : Line) → l.cell ≡ m.cell → l.high ≡ m.high → l.a ≡ m.a → l.low ≡ m.low → l ≡ m
same_parts l m e f g h =
    let x : LineParts = ((l.cell, l.high, l.a, l.low), ((l.rises_or_falls, l.a_in, l.b_in), l.low_in)) in
    let y : LineParts = ((m.cell, m.high, m.a, m.low), ((m.rises_or_falls, m.a_in, m.b_in), m.low_in)) in
    let parts : x.0 ≡ y.0 = λ i. (e i, f i, g i, h i) in
    let p : x ≡ y = Σ_prop_path parts_prop parts in
    ap of_parts p

-- A number has its parts above and below 2^64 in one way.
high_once : (h k : ℤ) (l m : ℕ) → l < 2 ^ 64 → m < 2 ^ 64 → joined h l ≡ joined k m → h ≡ k
high_once h k l m p q e = let same = rw (joined_is h l, joined_is k m) at e in omega (arith, ints)

low_once : (h k : ℤ) (l m : ℕ) → l < 2 ^ 64 → m < 2 ^ 64 → joined h l ≡ joined k m → l ≡ m
low_once h k l m p q e = let same = rw (joined_is h l, joined_is k m) at e in omega (arith, ints)

-- A line has one cell, one slope and one offset.
pub same_line : (l m : Line) → l.cell ≡ m.cell → l.a ≡ m.a → offset l ≡ offset m → l ≡ m
same_line l m e f g =
    same_parts l m e (high_once l.high m.high l.low m.low l.low_in m.low_in g) f (low_once l.high m.high l.low m.low l.low_in m.low_in g)

-- ---- lines that agree at two points

times_turned : (a x : ℤ) → a *ℤ x ≡ x *ℤ a
times_turned a x = same_in (a *ℤ x) (x *ℤ a) (omega (arith, product_is a x, product_is x a))

slope_gap : (a b c d x y k z : ℤ) → a ≡ c +ℤ k → x ≡ y +ℤ z → a *ℤ x +ℤ b ≡ c *ℤ x +ℤ d → a *ℤ y +ℤ b ≡ c *ℤ y +ℤ d → k *ℤ z ≡ pos 0
slope_gap a b c d x y k z p q e f =
    let one : a *ℤ x ≡ x *ℤ c +ℤ x *ℤ k = times_turned a x ∙ ap (λ (t : ℤ). x *ℤ t) p ∙ times_sum x c k in
    let two : a *ℤ y ≡ y *ℤ c +ℤ y *ℤ k = times_turned a y ∙ ap (λ (t : ℤ). y *ℤ t) p ∙ times_sum y c k in
    let three : k *ℤ x ≡ k *ℤ y +ℤ k *ℤ z = ap (λ (t : ℤ). k *ℤ t) q ∙ times_sum k y z in
    let four : c *ℤ x ≡ x *ℤ c = times_turned c x in
    let five : c *ℤ y ≡ y *ℤ c = times_turned c y in
    let six : x *ℤ k ≡ k *ℤ x = times_turned x k in
    let seven : y *ℤ k ≡ k *ℤ y = times_turned y k in
    omega (arith, ints)

no_gap : (a b c d x y : ℤ) → x ≢ y → a ≢ c → a *ℤ x +ℤ b ≡ c *ℤ x +ℤ d → a *ℤ y +ℤ b ≡ c *ℤ y +ℤ d → ⊥
no_gap a b c d x y apart other e f =
    product_apart (a -ℤ c) (x -ℤ y) (λ p. other (omega (arith, ints))) (λ p. apart (omega (arith, ints)))
    (slope_gap a b c d x y (a -ℤ c) (x -ℤ y) (omega (arith, ints)) (omega (arith, ints)) e f)

same_slope : (a b c d x y : ℤ) → x ≢ y → a *ℤ x +ℤ b ≡ c *ℤ x +ℤ d → a *ℤ y +ℤ b ≡ c *ℤ y +ℤ d → a ≡ c
same_slope a b c d x y apart e f =
    by_lt_z a c
    (λ p. absurd (no_gap a b c d x y apart (λ q. omega (arith, ints)) e f))
    (λ p. by_lt_z c a (λ q. absurd (no_gap a b c d x y apart (λ r. omega (arith, ints)) e f)) (λ q. omega (arith, ints)))

same_offset : (a b c d x : ℤ) → a ≡ c → a *ℤ x +ℤ b ≡ c *ℤ x +ℤ d → b ≡ d
same_offset a b c d x e f = let product : a *ℤ x ≡ c *ℤ x = ap (λ (t : ℤ). t *ℤ x) e in omega (arith, ints)

-- Forms over the same cell that agree at two points are the same form.
pub same_at_two : (f g : IntForm) (x y : ℤ) → form_cell f ≡ form_cell g → x ≢ y → form_on f x ≡ form_on g x → form_on f y ≡ form_on g y → f ≡ g
same_at_two (form.Const m) (form.Const n) x y cell apart e h = ap form.Const (same_number m n e)
same_at_two (form.Const m) (form.Line l) x y cell apart e h = cc
same_at_two (form.Line l) (form.Const n) x y cell apart e h = cc
same_at_two (form.Line l) (form.Line m) x y cell apart e h =
    let slope = same_slope l.a (offset l) m.a (offset m) x y apart e h in
    let named : l.cell ≡ m.cell = cc in
    ap form.Line (same_line l m named slope (same_offset l.a (offset l) m.a (offset m) x slope e))

-- Forms over no cell that agree at one point are the same form.
pub same_at_one : (f g : IntForm) (x : ℤ) → form_cell f ≡ None → form_cell g ≡ None → form_on f x ≡ form_on g x → f ≡ g
same_at_one (form.Const m) (form.Const n) x p q e = ap form.Const (same_number m n e)
same_at_one (form.Const m) (form.Line l) x p q e = cc
same_at_one (form.Line l) g x p q e = cc

-- A number that depends on a cell has one form on a span.
pub taken_once : (number : ℤ → ℤ) (cell : Option ℕ) (span : Span) (f g : IntForm) → IsTaken number cell span f → IsTaken number cell span g → f ≡ g
taken_once number cell span f g t u =
    let o : span.lo ≤ℤ span.hi = span.ordered in
    let first = t.same span.lo (omega (arith, ints), o) ∙ sym (u.same span.lo (omega (arith, ints), o)) in
    by_lt_z span.lo span.hi
    (λ p.
    same_at_two f g span.lo span.hi (t.more p ∙ sym (u.more p)) (λ q. omega (arith, ints)) first
    (t.same span.hi (o, omega (arith, ints)) ∙ sym (u.same span.hi (o, omega (arith, ints)))))
    (λ p. let e : span.lo ≡ span.hi = omega (arith, ints) in same_at_one f g span.lo (t.one e) (u.one e) first)

-- ---- equality

number_eq-Decides : (x y : Number) → Decides ((number_equality.ghosts).eq x y) (x ≡ y)
number_eq-Decides x y = Decides-like _ (λ e. same_number x y e) (λ e. ap (λ (n : Number). n.value) e) (Decides-int_eq x.value y.value)

line_eq-Decides : (x y : Line) → Decides ((line_equality.ghosts).eq x y) (x ≡ y)
line_eq-Decides x y =
    Decides-like _ (λ p. same_parts x y p.0 p.1.0 p.1.1.0 p.1.1.1)
    (λ e. (ap (λ (l : Line). l.cell) e, (ap (λ (l : Line). l.high) e, (ap (λ (l : Line). l.a) e, ap (λ (l : Line). l.low) e))))
    (Decides-and _ _ (Decides-eqb x.cell y.cell)
    (Decides-and _ _ (Decides-int_eq x.high y.high) (Decides-and _ _ (Decides-int_eq x.a y.a) (Decides-eqb x.low y.low))))

-- The equality of forms holds exactly of equal ones,
pub form_eq-Decides : (x y : IntForm) → Decides ((form_equality.ghosts).eq x y) (x ≡ y)
form_eq-Decides (form.Const m) (form.Const n) = Decides-like _ (λ e. ap form.Const e) (λ e. cc) (number_eq-Decides m n)
form_eq-Decides (form.Const m) (form.Line l) = (λ e. cc, λ e. cc)
form_eq-Decides (form.Line l) (form.Const n) = (λ e. cc, λ e. cc)
form_eq-Decides (form.Line l) (form.Line m) = Decides-like _ (λ e. ap form.Line e) (λ e. cc) (line_eq-Decides l m)

-- that of lists of them too,
pub forms_eq-Decides : (xs ys : List IntForm) → Decides (pointwise (form_equality.ghosts).eq xs ys) (xs ≡ ys)
forms_eq-Decides = pointwise_decides form_eq-Decides

-- and that of spans.
pub span_eq-Decides : (x y : Span) → Decides ((span_equality.ghosts).eq x y) (x ≡ y)
span_eq-Decides x y =
    Decides-like _ (λ p. same_ends x y p.0 p.1) (λ e. (ap (λ (s : Span). s.lo) e, ap (λ (s : Span). s.hi) e)) (Decides-and _ _ (Decides-int_eq x.lo y.lo) (Decides-int_eq x.hi y.hi))
