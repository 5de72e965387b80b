-- What becomes of the cells.
use Rattle.std.proofs.Common.{◌≡◌, ℕ, ◌+◌, ◌≤◌, ◌<◌, ◌^◌, ℤ, unsigned_abs, Bool, true, false, cond, eqb, List, [], ◌∷◌, ◌++◌, length, Some, None, refl, sym, ap, subst, ◌∙◌, append_assoc, arith, codes}
use Rattle.std.proofs.lemmas.Bool.{eqb-true}
use Rattle.std.proofs.lemmas.List.{length-append}
use Rattle.std.proofs.lemmas.List.Concat.{flat_map-cons}
use Rattle.std.specs.Fmt.{decimal, signed_decimal}
use Rattle.std.specs.List.{All}
use Rattle.sym_base.specs.declared.values.value.Value.{Value}
use Rattle.sym_check.specs.declared.plan.script.KindPlan.{KindPlan}
use Rattle.sym_check.specs.declared.plan.script.CellPlan.{CellPlan}
use Rattle.sym_check.specs.declared.plan.script.CellPlan.TheVariants as plan
use Rattle.sym_enum.specs.declared.form.EnumForm.{EnumForm}
use Rattle.sym_enum.specs.declared.form.EnumForm.TheVariants as label
use Rattle.sym_int.specs.Bounds.{offset_max, slope_max}
use Rattle.sym_int.specs.Lines.{offset}
use Rattle.sym_int.specs.declared.form.IntForm.{IntForm}
use Rattle.sym_int.specs.declared.form.IntForm.TheVariants as number
use Rattle.sym_pred.specs.declared.form.HoldForm.{HoldForm}
use Rattle.sym_pred.specs.declared.form.HoldForm.TheVariants as hold
use Rattle.sym_path.specs.declared.form.Form.{Form}
use Rattle.sym_path.specs.declared.form.Form.TheVariants as form
use Rattle.sym_file.specs.Making.{line_of, number_of}
use Rattle.sym_file.specs.Reading.{Read, ◌>>=◌, added_at, after, apart, below_at, constant_at, form_at, hold_form_at, int_at, label_form_at, line_at, many, nat_at, number_at, small_at, values_at, word_at}
use Rattle.sym_file.specs.Stored.{IsStoredNumber, IsStoredText}
use Rattle.sym_file.specs.Texts.{added_text, form_text, hold_form_text, label_form_text, number_text, spaced, value_text, word_text}
use Rattle.sym_file.proofs.Codecs.{AreMany, Codec, Ends, Few, Takes, after_again, after_takes, apart_codec, bound, ends_before, few_after, fewer, grouped_6, into, many_codec, many_takes, some_is}
use Rattle.sym_file.proofs.Made.{line_again, line_takes, number_again, number_takes}
use Rattle.sym_file.proofs.NumberTexts.{below_codec, int_codec, int_takes, nat_again, nat_takes, small_codec, word_codec}
use Rattle.sym_file.proofs.ValueTexts.{IsWritten, labels, lettered, values_codec}

pub cells : Codec decimal (λ m. m < 2 ^ 16) (below_at (2 ^ 16))
cells = below_codec (2 ^ 16) (omega arith)

-- ---- numbers

constant_takes : (b : ℕ) (bytes : List ℕ) (f : IntForm) (rest : List ℕ) → Few bytes → eqb b 110 ≡ true → constant_at bytes ≡ Some (f, rest) → Takes number_text IsStoredNumber (b ∷ bytes) f rest
unfolding number_text
constant_takes b bytes f rest few is e =
    let a = bound (small_at bytes) (λ x. number_of x.0 >>= λ n. Some (number.Const n, x.1)) (f, rest) e in
    let c = bound (number_of a.0.0) (λ n. Some (number.Const n, a.0.1)) (f, rest) a.2 in
    let read : b ∷ bytes ≡ number_text (number.Const c.0) ++ a.0.1 =
    ap (λ (d : ℕ). d ∷ bytes) (eqb-true b 110 is) ∙ ap (λ (bs : List ℕ). 110 ∷ bs) (small_codec.takes bytes a.0.0 a.0.1 few a.1).text_is
    ∙ ap (λ (x : ℤ). 110 ∷ (signed_decimal x ++ a.0.1)) (number_takes a.0.0 c.0 c.1) in
    subst (λ (r : IntForm × List ℕ). Takes number_text IsStoredNumber (b ∷ bytes) r.0 r.1) (some_is (number.Const c.0, a.0.1) (f, rest) c.2)
    (record { text_is = read; is_so = tt })

line_takes_bytes : (b : ℕ) (bytes : List ℕ) (f : IntForm) (rest : List ℕ) → Few bytes → eqb b 120 ≡ true → line_at bytes ≡ Some (f, rest) → Takes number_text IsStoredNumber (b ∷ bytes) f rest
unfolding number_text
line_takes_bytes b bytes f rest few is e =
    let a = bound (below_at (2 ^ 16) bytes) (λ cell. after (codes ",") cell.1 >>= λ r. int_at r >>= λ a. after (codes ",") a.1 >>= λ r. int_at r >>= λ b. line_of cell.0 a.0 b.0 >>= λ l. Some (number.Line l, b.1)) (f, rest) e in
    let c = bound (after (codes ",") a.0.1) (λ r. int_at r >>= λ x. after (codes ",") x.1 >>= λ r. int_at r >>= λ y. line_of a.0.0 x.0 y.0 >>= λ l. Some (number.Line l, y.1)) (f, rest) a.2 in
    let d = bound (int_at c.0) (λ x. after (codes ",") x.1 >>= λ r. int_at r >>= λ y. line_of a.0.0 x.0 y.0 >>= λ l. Some (number.Line l, y.1)) (f, rest) c.2 in
    let g = bound (after (codes ",") d.0.1) (λ r. int_at r >>= λ y. line_of a.0.0 d.0.0 y.0 >>= λ l. Some (number.Line l, y.1)) (f, rest) d.2 in
    let h = bound (int_at g.0) (λ y. line_of a.0.0 d.0.0 y.0 >>= λ l. Some (number.Line l, y.1)) (f, rest) g.2 in
    let m = bound (line_of a.0.0 d.0.0 h.0.0) (λ l. Some (number.Line l, h.0.1)) (f, rest) h.2 in
    let same = line_takes a.0.0 d.0.0 h.0.0 m.0 m.1 in
    let cell = cells.takes bytes a.0.0 a.0.1 few a.1 in
    let read : b ∷ bytes ≡ number_text (number.Line m.0) ++ h.0.1 =
    ap (λ (t : ℕ). t ∷ bytes) (eqb-true b 120 is)
    ∙ ap (λ (bs : List ℕ). codes "x" ++ bs) cell.text_is
    ∙ ap (λ (bs : List ℕ). codes "x" ++ (decimal a.0.0 ++ bs)) (after_takes (codes ",") a.0.1 c.0 c.1)
    ∙ ap (λ (bs : List ℕ). codes "x" ++ (decimal a.0.0 ++ (codes "," ++ bs))) (int_takes c.0 d.0.0 d.0.1 d.1)
    ∙ ap (λ (bs : List ℕ). codes "x" ++ (decimal a.0.0 ++ (codes "," ++ (signed_decimal d.0.0 ++ bs)))) (after_takes (codes ",") d.0.1 g.0 g.1)
    ∙ ap (λ (bs : List ℕ). codes "x" ++ (decimal a.0.0 ++ (codes "," ++ (signed_decimal d.0.0 ++ (codes "," ++ bs))))) (int_takes g.0 h.0.0 h.0.1 h.1)
    ∙ ap (λ (t : ℕ). codes "x" ++ (decimal t ++ (codes "," ++ (signed_decimal d.0.0 ++ (codes "," ++ (signed_decimal h.0.0 ++ h.0.1)))))) same.0
    ∙ ap (λ (t : ℤ). codes "x" ++ (decimal m.0.cell ++ (codes "," ++ (signed_decimal t ++ (codes "," ++ (signed_decimal h.0.0 ++ h.0.1)))))) same.1
    ∙ ap (λ (t : ℤ). codes "x" ++ (decimal m.0.cell ++ (codes "," ++ (signed_decimal m.0.a ++ (codes "," ++ (signed_decimal t ++ h.0.1)))))) same.2
    ∙ sym (grouped_6 (codes "x") (decimal m.0.cell) (codes ",") (signed_decimal m.0.a) (codes ",") (signed_decimal (offset m.0)) h.0.1) in
    subst (λ (r : IntForm × List ℕ). Takes number_text IsStoredNumber (b ∷ bytes) r.0 r.1) (some_is (number.Line m.0, h.0.1) (f, rest) m.2)
    (record { text_is = read; is_so = subst (λ (n : ℕ). n < 2 ^ 16) same.0 cell.is_so })

number_takes_bytes : (bytes : List ℕ) (f : IntForm) (rest : List ℕ) → Few bytes → number_at bytes ≡ Some (f, rest) → Takes number_text IsStoredNumber bytes f rest
unfolding number_at
number_takes_bytes [] f rest few e = absurd cc
number_takes_bytes (b ∷ bytes) f rest few e = of (eqb b 110) (eqb b 120) refl refl e
  where
    of : (n x : Bool) → eqb b 110 ≡ n → eqb b 120 ≡ x → cond n (constant_at bytes) (cond x (line_at bytes) None) ≡ Some (f, rest) → Takes number_text IsStoredNumber (b ∷ bytes) f rest
    of true x is q g = constant_takes b bytes f rest (fewer (b ∷ []) (b ∷ bytes) bytes refl few) is g
    of false true o is g = line_takes_bytes b bytes f rest (fewer (b ∷ []) (b ∷ bytes) bytes refl few) is g
    of false false o q g = absurd cc

number_again_bytes : (f : IntForm) (rest : List ℕ) → IsStoredNumber f → Ends rest → number_at (number_text f ++ rest) ≡ Some (f, rest)
unfolding number_at number_text
number_again_bytes (number.Const n) rest is ends = rw (small_codec.again n.value rest n.value_in ends, number_again n) refl
number_again_bytes (number.Line line) rest is ends =
    let slope : unsigned_abs line.a ≤ slope_max = line.a_in in
    let bounded : unsigned_abs (offset line) ≤ offset_max = line.b_in in
    let grouped : number_text (number.Line line) ++ rest ≡ codes "x" ++ (decimal line.cell ++ (codes "," ++ (signed_decimal line.a ++ (codes "," ++ (signed_decimal (offset line) ++ rest))))) = grouped_6 (codes "x") (decimal line.cell) (codes ",") (signed_decimal line.a) (codes ",") (signed_decimal (offset line)) rest in
    ap number_at grouped
    ∙ rw (
      cells.again line.cell (codes "," ++ (signed_decimal line.a ++ (codes "," ++ (signed_decimal (offset line) ++ rest)))) is refl,
      after_again (codes ",") (signed_decimal line.a ++ (codes "," ++ (signed_decimal (offset line) ++ rest))),
      int_codec.again line.a (codes "," ++ (signed_decimal (offset line) ++ rest)) (omega (arith, slope)) refl,
      after_again (codes ",") (signed_decimal (offset line) ++ rest),
      int_codec.again (offset line) rest (omega (arith, bounded)) ends,
      line_again line,
    ) refl

pub number_codec : Codec number_text IsStoredNumber number_at
number_codec = record { takes = number_takes_bytes; again = number_again_bytes }

-- ---- added elements

module _ {A : Type 0} (text : A → List ℕ) (Is : A → Type 0) (item : List ℕ → Read A) (h : Codec text Is item) where
  abbrev next_text : A → List ℕ
  next_text x = codes " " ++ text x

  -- There are no more elements than bytes.
  added_few : (xs : List A) → length xs ≤ length (spaced text xs)
  added_few [] = omega arith
  added_few (x ∷ xs) =
      let more = added_few xs in
      let count : length (spaced text (x ∷ xs)) ≡ length (next_text x) + length (spaced text xs) = ap length (flat_map-cons next_text x xs) ∙ length-append (next_text x) (spaced text xs) in
      let one : length (next_text x) ≡ 1 + length (text x) = length-append (codes " ") (text x) in
      omega (arith, more, count, one)

  added_takes : (bytes : List ℕ) (xs : List A) (rest : List ℕ) → Few bytes → added_at item bytes ≡ Some (xs, rest) → Takes (added_text text) (λ ys. (length ys < 2 ^ 64) × All Is ys) bytes xs rest
  unfolding added_at
  added_takes bytes xs rest few e =
      let a = bound (after (codes "a") bytes) (λ r. nat_at r >>= λ n. many (apart item) n.0 n.1) (xs, rest) e in
      let b = bound (nat_at a.0) (λ n. many (apart item) n.0 n.1) (xs, rest) a.2 in
      let few_counted : Few b.0.1 = fewer (decimal b.0.0) a.0 b.0.1 (nat_takes a.0 b.0.0 b.0.1 b.1) (few_after (codes "a") bytes a.0 a.1 few) in
      let counted = many_takes next_text Is (apart item) (apart_codec text Is item h) b.0.0 b.0.1 xs rest few_counted b.2 in
      let count : length b.0.1 ≡ length (spaced text xs) + length rest = ap length counted.text_is ∙ length-append (spaced text xs) rest in
      let many : length xs < 2 ^ 64 = let less = added_few xs in omega (arith, few_counted, count, less) in
      let read : bytes ≡ added_text text xs ++ rest =
      after_takes (codes "a") bytes a.0 a.1
      ∙ ap (λ (bs : List ℕ). codes "a" ++ bs) (nat_takes a.0 b.0.0 b.0.1 b.1)
      ∙ ap (λ (n : ℕ). codes "a" ++ (decimal n ++ b.0.1)) (sym counted.is_so.many)
      ∙ ap (λ (bs : List ℕ). codes "a" ++ (decimal (length xs) ++ bs)) counted.text_is
      ∙ simp append_assoc in
      record { text_is = read; is_so = (many, counted.is_so.each) }

  added_again : (xs : List A) (rest : List ℕ) → length xs < 2 ^ 64 → All Is xs → Ends rest → added_at item (added_text text xs ++ rest) ≡ Some (xs, rest)
  unfolding added_at
  added_again xs rest few each ends =
      let grouped : added_text text xs ++ rest ≡ codes "a" ++ (decimal (length xs) ++ (spaced text xs ++ rest)) = simp append_assoc in
      ap (added_at item) grouped
      ∙ rw (
        after_again (codes "a") (decimal (length xs) ++ (spaced text xs ++ rest)),
        nat_again (length xs) (spaced text xs ++ rest) (omega (arith, few)) (ends_before next_text Is (apart item) (apart_codec text Is item h) (λ x rest. refl) xs rest ends),
      ) ((many_codec next_text Is (apart item) (apart_codec text Is item h) (λ x rest. refl) (length xs)).again xs rest (record { many = refl; each = each }) ends)

-- ---- forms
-- A form of a cell that is read as it is written.
abbrev pub IsLabelForm : EnumForm → Type 0
IsLabelForm (label.Const l) = l < 256
IsLabelForm (label.Copy c) = c < 2 ^ 16

abbrev pub IsHoldForm : ℕ → HoldForm → Type 0
IsHoldForm parts (hold.Const vs) = AreMany IsWritten parts vs
IsHoldForm parts (hold.Copy c) = c < 2 ^ 16

abbrev pub IsFormOf : CellPlan → Form → Type 0
IsFormOf (plan.Enum of first) (form.Enum f) = IsLabelForm f
IsFormOf (plan.Enum of first) (form.Int f) = ⊥
IsFormOf (plan.Enum of first) (form.Hold f) = ⊥
IsFormOf (plan.Enum of first) (form.Nums xs) = ⊥
IsFormOf (plan.Enum of first) (form.Words xs) = ⊥
IsFormOf (plan.Int lo hi first clamp) (form.Enum f) = ⊥
IsFormOf (plan.Int lo hi first clamp) (form.Int f) = IsStoredNumber f
IsFormOf (plan.Int lo hi first clamp) (form.Hold f) = ⊥
IsFormOf (plan.Int lo hi first clamp) (form.Nums xs) = ⊥
IsFormOf (plan.Int lo hi first clamp) (form.Words xs) = ⊥
IsFormOf (plan.Hold kinds first) (form.Enum f) = ⊥
IsFormOf (plan.Hold kinds first) (form.Int f) = ⊥
IsFormOf (plan.Hold kinds first) (form.Hold f) = IsHoldForm (length kinds) f
IsFormOf (plan.Hold kinds first) (form.Nums xs) = ⊥
IsFormOf (plan.Hold kinds first) (form.Words xs) = ⊥
IsFormOf (plan.Nums lo hi clamp) (form.Enum f) = ⊥
IsFormOf (plan.Nums lo hi clamp) (form.Int f) = ⊥
IsFormOf (plan.Nums lo hi clamp) (form.Hold f) = ⊥
IsFormOf (plan.Nums lo hi clamp) (form.Nums xs) = (length xs < 2 ^ 64) × All IsStoredNumber xs
IsFormOf (plan.Nums lo hi clamp) (form.Words xs) = ⊥
IsFormOf plan.Words (form.Enum f) = ⊥
IsFormOf plan.Words (form.Int f) = ⊥
IsFormOf plan.Words (form.Hold f) = ⊥
IsFormOf plan.Words (form.Nums xs) = ⊥
IsFormOf plan.Words (form.Words xs) = (length xs < 2 ^ 64) × All IsStoredText xs

label_form_takes : (of first : ℕ) (bytes : List ℕ) (f : Form) (rest : List ℕ) → Few bytes → label_form_at bytes ≡ Some (f, rest) → Takes form_text (IsFormOf (plan.Enum of first)) bytes f rest
unfolding label_form_at form_text
label_form_takes enum first [] f rest few e = absurd cc
label_form_takes enum first (b ∷ bytes) f rest few e = of (eqb b 99) (eqb b 107) refl refl e
  where
    of : (c k : Bool) → eqb b 99 ≡ c → eqb b 107 ≡ k
        → cond c (below_at 256 bytes >>= into (λ l. form.Enum (label.Const l))) (cond k (below_at (2 ^ 16) bytes >>= into (λ l. form.Enum (label.Copy l))) None) ≡ Some (f, rest)
        → Takes form_text (IsFormOf (plan.Enum enum first)) (b ∷ bytes) f rest
    of true k is q g = lettered 99 decimal form_text (λ l. form.Enum (label.Const l)) (below_at 256) (λ m. m < 256) (IsFormOf (plan.Enum enum first)) labels (λ x h. h) (λ x. refl) b bytes f rest few is g
    of false true o is g = lettered 107 decimal form_text (λ c. form.Enum (label.Copy c)) (below_at (2 ^ 16)) (λ m. m < 2 ^ 16) (IsFormOf (plan.Enum enum first)) cells (λ x h. h) (λ x. refl) b bytes f rest few is g
    of false false o q g = absurd cc

label_form_again : (f : EnumForm) (rest : List ℕ) → IsLabelForm f → Ends rest → label_form_at (label_form_text f ++ rest) ≡ Some (form.Enum f, rest)
unfolding label_form_at
label_form_again (label.Const l) rest is ends = rw (labels.again l rest is ends) refl
label_form_again (label.Copy c) rest is ends = rw (cells.again c rest is ends) refl

abbrev values_text : List Value → List ℕ
values_text vs = spaced value_text vs

hold_form_takes : (kinds : List KindPlan) (first : List Value) (bytes : List ℕ) (f : Form) (rest : List ℕ) → Few bytes → hold_form_at (length kinds) bytes ≡ Some (f, rest) → Takes form_text (IsFormOf (plan.Hold kinds first)) bytes f rest
unfolding hold_form_at form_text
hold_form_takes kinds first [] f rest few e = absurd cc
hold_form_takes kinds first (b ∷ bytes) f rest few e = of (eqb b 104) (eqb b 107) refl refl e
  where
    of : (c k : Bool) → eqb b 104 ≡ c → eqb b 107 ≡ k
        → cond c (values_at (length kinds) bytes >>= into (λ l. form.Hold (hold.Const l))) (cond k (below_at (2 ^ 16) bytes >>= into (λ l. form.Hold (hold.Copy l))) None) ≡ Some (f, rest)
        → Takes form_text (IsFormOf (plan.Hold kinds first)) (b ∷ bytes) f rest
    of true k is q g = lettered 104 values_text form_text (λ vs. form.Hold (hold.Const vs)) (values_at (length kinds)) (AreMany IsWritten (length kinds)) (IsFormOf (plan.Hold kinds first)) (values_codec (length kinds)) (λ x h. h) (λ x. refl) b bytes f rest few is g
    of false true o is g = lettered 107 decimal form_text (λ c. form.Hold (hold.Copy c)) (below_at (2 ^ 16)) (λ m. m < 2 ^ 16) (IsFormOf (plan.Hold kinds first)) cells (λ x h. h) (λ x. refl) b bytes f rest few is g
    of false false o q g = absurd cc

hold_form_again : (parts : ℕ) (f : HoldForm) (rest : List ℕ) → IsHoldForm parts f → Ends rest → hold_form_at parts (hold_form_text f ++ rest) ≡ Some (form.Hold f, rest)
unfolding hold_form_at
hold_form_again parts (hold.Const vs) rest is ends = rw ((values_codec parts).again vs rest is ends) refl
hold_form_again parts (hold.Copy c) rest is ends = rw (cells.again c rest is ends) refl

-- What is read, and turned into a form.
into_form : {A : Type 0} (text : A → List ℕ) (make : A → Form) (item : List ℕ → Read A) (Is : A → Type 0) (Own : Form → Type 0)
    → ((bytes : List ℕ) (x : A) (rest : List ℕ) → Few bytes → item bytes ≡ Some (x, rest) → Takes text Is bytes x rest)
    → ((x : A) → Is x → Own (make x)) → ((x : A) → form_text (make x) ≡ text x) → (bytes : List ℕ) (f : Form) (rest : List ℕ) → Few bytes → (item bytes >>= into make) ≡ Some (f, rest) → Takes form_text Own bytes f rest
into_form {A} text make item Is Own takes turned same bytes f rest few e =
    let k = bound (item bytes) (into make) (f, rest) e in
    let t = takes bytes k.0.0 k.0.1 few k.1 in
    subst (λ (p : Form × List ℕ). Takes form_text Own bytes p.0 p.1) (some_is (make k.0.0, k.0.1) (f, rest) k.2)
    (record { text_is = t.text_is ∙ ap (λ (u : List ℕ). u ++ k.0.1) (sym (same k.0.0)); is_so = turned k.0.0 t.is_so })

form_takes : (cell : CellPlan) (bytes : List ℕ) (f : Form) (rest : List ℕ) → Few bytes → form_at cell bytes ≡ Some (f, rest) → Takes form_text (IsFormOf cell) bytes f rest
unfolding form_at form_text
form_takes (plan.Enum of first) bytes f rest few e = label_form_takes of first bytes f rest few e
form_takes (plan.Int lo hi first clamp) bytes f rest few e =
    into_form number_text form.Int number_at IsStoredNumber (IsFormOf (plan.Int lo hi first clamp)) number_codec.takes (λ x h. h) (λ x. refl) bytes f rest few e
form_takes (plan.Hold kinds first) bytes f rest few e = hold_form_takes kinds first bytes f rest few e
form_takes (plan.Nums lo hi clamp) bytes f rest few e =
    into_form (added_text number_text) form.Nums (added_at number_at) (λ ys. (length ys < 2 ^ 64) × All IsStoredNumber ys) (IsFormOf (plan.Nums lo hi clamp))
    (added_takes number_text IsStoredNumber number_at number_codec) (λ x h. h) (λ x. refl) bytes f rest few e
form_takes plan.Words bytes f rest few e =
    into_form (added_text word_text) form.Words (added_at word_at) (λ ys. (length ys < 2 ^ 64) × All IsStoredText ys) (IsFormOf plan.Words)
    (added_takes word_text IsStoredText word_at word_codec) (λ x h. h) (λ x. refl) bytes f rest few e

form_again : (cell : CellPlan) (f : Form) (rest : List ℕ) → IsFormOf cell f → Ends rest → form_at cell (form_text f ++ rest) ≡ Some (f, rest)
unfolding form_at form_text
form_again (plan.Enum of first) (form.Enum f) rest is ends = label_form_again f rest is ends
form_again (plan.Enum of first) (form.Int f) rest is ends = absurd is
form_again (plan.Enum of first) (form.Hold f) rest is ends = absurd is
form_again (plan.Enum of first) (form.Nums xs) rest is ends = absurd is
form_again (plan.Enum of first) (form.Words xs) rest is ends = absurd is
form_again (plan.Int lo hi first clamp) (form.Enum f) rest is ends = absurd is
form_again (plan.Int lo hi first clamp) (form.Int f) rest is ends = rw (number_codec.again f rest is ends) refl
form_again (plan.Int lo hi first clamp) (form.Hold f) rest is ends = absurd is
form_again (plan.Int lo hi first clamp) (form.Nums xs) rest is ends = absurd is
form_again (plan.Int lo hi first clamp) (form.Words xs) rest is ends = absurd is
form_again (plan.Hold kinds first) (form.Enum f) rest is ends = absurd is
form_again (plan.Hold kinds first) (form.Int f) rest is ends = absurd is
form_again (plan.Hold kinds first) (form.Hold f) rest is ends = hold_form_again (length kinds) f rest is ends
form_again (plan.Hold kinds first) (form.Nums xs) rest is ends = absurd is
form_again (plan.Hold kinds first) (form.Words xs) rest is ends = absurd is
form_again (plan.Nums lo hi clamp) (form.Enum f) rest is ends = absurd is
form_again (plan.Nums lo hi clamp) (form.Int f) rest is ends = absurd is
form_again (plan.Nums lo hi clamp) (form.Hold f) rest is ends = absurd is
form_again (plan.Nums lo hi clamp) (form.Nums xs) rest is ends = rw (added_again number_text IsStoredNumber number_at number_codec xs rest is.0 is.1 ends) refl
form_again (plan.Nums lo hi clamp) (form.Words xs) rest is ends = absurd is
form_again plan.Words (form.Enum f) rest is ends = absurd is
form_again plan.Words (form.Int f) rest is ends = absurd is
form_again plan.Words (form.Hold f) rest is ends = absurd is
form_again plan.Words (form.Nums xs) rest is ends = absurd is
form_again plan.Words (form.Words xs) rest is ends = rw (added_again word_text IsStoredText word_at word_codec xs rest is.0 is.1 ends) refl

pub form_codec : (cell : CellPlan) → Codec form_text (IsFormOf cell) (form_at cell)
form_codec cell = record { takes = form_takes cell; again = form_again cell }
