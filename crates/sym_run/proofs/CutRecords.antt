-- Records that are cut from a list of numbers and a list of values.
use Rattle.std.proofs.Common.{◌≡◌, ◌∙◌, ◌≤◌, ◌<◌, ◌+◌, ◌*◌, ℕ, zero, suc, ap, ap₂, sym, refl, subst, arith, List, [], ◌∷◌, ◌++◌, Some, length, length-append, length-drop, take, drop}
use Rattle.std.proofs.Math.Nat.{add-mul, mul-le-mul_right, suc-mul}
use Rattle.std.proofs.lemmas.List.{length-take-le, take-append-drop, take-append-le, drop-append-le, take_all, drop-drop}
use Rattle.std.proofs.lemmas.List.Elements.{All-head}
use Rattle.std.specs.Prelude.{slice_get}
use Rattle.sym_base.specs.declared.values.value.Value.{Value}
use Rattle.sym_base.specs.declared.values.record.Record.{Record}
use Rattle.sym_run.specs.Keeping.{AreAsWide, AreWide, cut_records}

-- The values of one record more.
more_values : (width : ℕ) (numbers : List ℕ) (number count : ℕ) → length (number ∷ numbers) * width ≤ count → (width ≤ count) × (length numbers * width + width ≤ count)
more_values width numbers number count h =
    let e : suc (length numbers) * width ≡ length numbers * width + width = suc-mul (length numbers) width in
    (omega (arith, e, h), omega (arith, e, h))

pub cut_length : (width : ℕ) (numbers : List ℕ) (values : List Value) → length (cut_records width numbers values) ≡ length numbers
cut_length width [] values = refl
cut_length width (number ∷ numbers) values = ap suc (cut_length width numbers (drop width values))

-- Values after those of all records don't matter.
cut_more : (width : ℕ) (numbers : List ℕ) (values more : List Value) → length numbers * width ≤ length values → cut_records width numbers (values ++ more) ≡ cut_records width numbers values
cut_more width [] values more h = refl
cut_more width (number ∷ numbers) values more h =
    let there = more_values width numbers number (length values) h in
    ap₂ (λ (fs : List Value) (rs : List Record). record { no = number; fields = fs } ∷ rs)
    (take-append-le width values more there.0)
    (ap (cut_records width numbers) (drop-append-le width values more there.0)
    ∙ cut_more width numbers (drop width values) more (let l = length-drop width values in let within = there.1 in omega (arith, l, within)))

cut_short : (width : ℕ) (numbers : List ℕ) (values : List Value) → length numbers * width ≤ length values → cut_records width numbers (take (length numbers * width) values) ≡ cut_records width numbers values
cut_short width numbers values h =
    let n : ℕ = length numbers * width in
    sym (cut_more width numbers (take n values) (drop n values) (let l = length-take-le n values h in omega (arith, l)))
    ∙ ap (cut_records width numbers) (take-append-drop n values)

-- The records of two lists of numbers, each with its values.
cut_both : (width : ℕ) (numbers others : List ℕ) (values more : List Value) → length values ≡ length numbers * width
    → cut_records width (numbers ++ others) (values ++ more) ≡ cut_records width numbers values ++ cut_records width others more
cut_both width [] others [] more h = refl
cut_both width [] others (v ∷ values) more h = absurd (omega (arith, h))
cut_both width (number ∷ numbers) others values more h =
    let there = more_values width numbers number (length values) (omega (arith, h)) in
    let e : suc (length numbers) * width ≡ length numbers * width + width = suc-mul (length numbers) width in
    ap₂ (λ (fs : List Value) (rs : List Record). record { no = number; fields = fs } ∷ rs)
    (take-append-le width values more there.0)
    (ap (cut_records width (numbers ++ others)) (drop-append-le width values more there.0)
    ∙ cut_both width numbers others (drop width values) more (let l = length-drop width values in omega (arith, l, e, h)))

-- One record more.
cut_push : (width : ℕ) (numbers : List ℕ) (values : List Value) (rec : Record) → length values ≡ length numbers * width → length rec.fields ≡ width
    → cut_records width (numbers ++ rec.no ∷ []) (values ++ rec.fields) ≡ cut_records width numbers values ++ rec ∷ []
cut_push width numbers values rec h wide =
    cut_both width numbers (rec.no ∷ []) values rec.fields h
    ∙ ap (λ (fs : List Value). cut_records width numbers values ++ record { no = rec.no; fields = fs } ∷ []) (take_all width rec.fields (omega (arith, wide)))

-- The record at an index.
cut_get : (width : ℕ) (numbers : List ℕ) (values : List Value) (i number : ℕ) → slice_get numbers i ≡ Some number
    → slice_get (cut_records width numbers values) i ≡ Some (record { no = number; fields = take width (drop (i * width) values) })
cut_get width [] values i number at = absurd (cc)
cut_get width (n ∷ numbers) values zero number at =
    let same : n ≡ number = cc in
    let start : 0 ≡ 0 * width = omega arith in
    ap₂ (λ (k at : ℕ). Some (record { no = k; fields = take width (drop at values) })) same start
cut_get width (n ∷ numbers) values (suc i) number at =
    cut_get width numbers (drop width values) i number at
    ∙ ap (λ (vs : List Value). Some (record { no = number; fields = take width vs }))
    (drop-drop (i * width) width values ∙ ap (λ (k : ℕ). drop k values) (let e = suc-mul i width in omega (arith, e)))

-- The records of a list are as wide as one of them.
cut_width : (width count : ℕ) (numbers : List ℕ) (values : List Value) → 0 < length numbers → length numbers * width ≤ length values → AreWide count (cut_records width numbers values) → width ≡ count
cut_width width count [] values some h wide = absurd (omega (arith, some))
cut_width width count (number ∷ numbers) values some h wide =
    let there = more_values width numbers number (length values) h in
    sym (length-take-le width values there.0) ∙ All-head (λ (rec : Record). length rec.fields ≡ count) (record { no = number; fields = take width values }) (cut_records width numbers (drop width values)) wide

-- ---- a push
-- The width is that of the records, where there are some.
same_width : (width wide : ℕ) (numbers : List ℕ) (values : List Value) → length numbers * width ≤ length values → AreWide wide (cut_records width numbers values)
    → (cut_records wide numbers values ≡ cut_records width numbers values) × (length numbers * wide ≤ length values)
same_width width wide [] values h all = (refl, omega arith)
same_width width wide (number ∷ numbers) values h all =
    let same : width ≡ wide = cut_width width wide (number ∷ numbers) values (omega arith) h all in
    (ap (λ (w : ℕ). cut_records w (number ∷ numbers) values) (sym same), subst (λ (w : ℕ). length (number ∷ numbers) * w ≤ length values) same h)

-- Some values more, and no record.
pushed_none : (width wide : ℕ) (numbers : List ℕ) (values some : List Value) → length numbers * width ≤ length values → AreWide wide (cut_records width numbers values)
    → (cut_records wide numbers (take (length numbers * wide) values ++ some) ≡ cut_records width numbers values) × (length numbers * wide ≤ length (take (length numbers * wide) values ++ some))
pushed_none width wide numbers values some h all =
    let same = same_width width wide numbers values h all in
    let front = take (length numbers * wide) values in
    let long : length front ≡ length numbers * wide = length-take-le (length numbers * wide) values same.1 in (
      cut_more wide numbers front some (omega (arith, long)) ∙ cut_short wide numbers values same.1 ∙ same.0,
      omega (arith, long, length-append front some),
    )

-- The values of one record more.
pushed_one : (width : ℕ) (numbers : List ℕ) (values : List Value) (rec : Record) → length numbers * width ≤ length values → AreWide (length rec.fields) (cut_records width numbers values)
    → (cut_records (length rec.fields) (numbers ++ rec.no ∷ []) (take (length numbers * length rec.fields) values ++ rec.fields) ≡ cut_records width numbers values ++ rec ∷ [])
    × (length (numbers ++ rec.no ∷ []) * length rec.fields ≤ length (take (length numbers * length rec.fields) values ++ rec.fields))
pushed_one width numbers values rec h all =
    let wide : ℕ = length rec.fields in
    let same = same_width width wide numbers values h all in
    let front = take (length numbers * wide) values in
    let long : length front ≡ length numbers * wide = length-take-le (length numbers * wide) values same.1 in
    let more : length (numbers ++ rec.no ∷ []) ≡ suc (length numbers) = omega (arith, length-append numbers (rec.no ∷ [])) in
    let product : length (numbers ++ rec.no ∷ []) * wide ≡ length numbers * wide + wide = ap (λ (n : ℕ). n * wide) more ∙ suc-mul (length numbers) wide in (
      cut_push wide numbers front rec long refl
          ∙ ap (λ (rs : List Record). rs ++ rec ∷ []) (cut_short wide numbers values same.1 ∙ same.0),
      omega (arith, long, product, length-append front rec.fields),
    )

-- A list's numbers and values are those of kept records, and a record more is as wide as they are.
pub record IsPush (width wide : ℕ) (numbers : List ℕ) (values : List Value) (rec : Record) (kept : List Record) : Type 0 where
  pub room : length numbers * width ≤ length values
  pub are : cut_records width numbers values ≡ kept
  pub same : wide ≡ length rec.fields
  pub as_wide : AreAsWide rec kept

all_wide : (width wide : ℕ) (numbers : List ℕ) (values : List Value) (rec : Record) (kept : List Record) → IsPush width wide numbers values rec kept → AreWide wide (cut_records width numbers values)
all_wide width wide numbers values rec kept h =
    subst (λ (w : ℕ). AreWide w (cut_records width numbers values)) (sym h.same) (subst (λ (rs : List Record). AreWide (length rec.fields) rs) (sym h.are) h.as_wide)

pub push_room : (width wide count : ℕ) (numbers : List ℕ) (values : List Value) (rec : Record) (kept : List Record) → IsPush width wide numbers values rec kept → count ≡ length numbers → count * wide ≤ length values
push_room width wide count numbers values rec kept h is =
    subst (λ (n : ℕ). n * wide ≤ length values) (sym is) (same_width width wide numbers values h.room (all_wide width wide numbers values rec kept h)).1

-- After a push that failed there may be some values more.
pub push_failed : (width wide count : ℕ) (numbers others : List ℕ) (values some new : List Value) (rec : Record) (kept : List Record) → IsPush width wide numbers values rec kept → count ≡ length numbers
    → others ≡ numbers → new ≡ take (count * wide) values ++ some → (cut_records wide others new ≡ kept) × (length others * wide ≤ length new)
push_failed width wide count numbers others values some new rec kept h is same all =
    let none = pushed_none width wide numbers values some h.room (all_wide width wide numbers values rec kept h) in
    rw (same, all, is) (none.0 ∙ h.are, none.1)

pub push_done : (width wide count : ℕ) (numbers longer : List ℕ) (values new : List Value) (rec : Record) (kept : List Record) → IsPush width wide numbers values rec kept → count ≡ length numbers
    → longer ≡ numbers ++ rec.no ∷ [] → new ≡ take (count * wide) values ++ rec.fields → (cut_records wide longer new ≡ kept ++ rec ∷ []) × (length longer * wide ≤ length new)
push_done width wide count numbers longer values new rec kept h is more all =
    let one = pushed_one width numbers values rec h.room (subst (λ (rs : List Record). AreWide (length rec.fields) rs) (sym h.are) h.as_wide) in
    let wider : wide ≡ length rec.fields = h.same in
    rw (more, all, is, wider) (one.0 ∙ ap (λ (rs : List Record). rs ++ rec ∷ []) h.are, one.1)

-- ---- a record that is read
-- The values of the record at an index are there.
pub read_room : (width i : ℕ) (numbers : List ℕ) (values : List Value) (kept : List Record) → length numbers * width ≤ length values → cut_records width numbers values ≡ kept → i < length kept
    → (i * width + width ≤ length values) × (i < length numbers)
read_room width i numbers values kept h are within =
    let long : length kept ≡ length numbers = ap length (sym are) ∙ cut_length width numbers values in
    let here : i < length numbers = omega (arith, long, within) in
    let e : suc i * width ≡ i * width + width = suc-mul i width in
    let below : suc i * width ≤ length numbers * width = mul-le-mul_right width here in
    (omega (arith, e, below, h), here)

pub read_at : (width i number : ℕ) (numbers : List ℕ) (values fields : List Value) (kept : List Record) → cut_records width numbers values ≡ kept → slice_get numbers i ≡ Some number
    → fields ≡ take width (drop (i * width) values) → slice_get kept i ≡ Some (record { no = number; fields = fields })
read_at width i number numbers values fields kept are at is =
    ap (λ (rs : List Record). slice_get rs i) (sym are)
    ∙ cut_get width numbers values i number at
    ∙ ap (λ (fs : List Value). Some (record { no = number; fields = fs })) (sym is)

-- ---- two lists
-- The values of the first one, and some more that stay over where they couldn't be put in one.
pub append_failed : (width count : ℕ) (numbers others : List ℕ) (values some new : List Value) (left : List Record) → length numbers * width ≤ length values → cut_records width numbers values ≡ left → count ≡ length numbers
    → others ≡ numbers → new ≡ take (count * width) values ++ some → cut_records width others new ≡ left
append_failed width count numbers others values some new left h are is same all =
    let front = take (length numbers * width) values in
    let long : length front ≡ length numbers * width = length-take-le (length numbers * width) values h in
    rw (same, all, is) (cut_more width numbers front some (omega (arith, long)) ∙ cut_short width numbers values h ∙ are)

pub both_kept : (width wide count : ℕ) (numbers others all : List ℕ) (values next new : List Value) (left right : List Record)
    → length numbers * width ≤ length values → length others * wide ≤ length next → cut_records width numbers values ≡ left → cut_records wide others next ≡ right
    → AreWide count left → AreWide count right → 0 < length numbers → 0 < length others → all ≡ numbers ++ others → new ≡ take (length numbers * width) values ++ next
    → (cut_records width all new ≡ left ++ right) × (length all * width ≤ length new)
both_kept width wide count numbers others all values next new left right l r are_left are_right wide_left wide_right some_left some_right is_all is_new =
    let of_left : width ≡ count = cut_width width count numbers values some_left l (subst (λ (rs : List Record). AreWide count rs) (sym are_left) wide_left) in
    let of_right : wide ≡ count = cut_width wide count others next some_right r (subst (λ (rs : List Record). AreWide count rs) (sym are_right) wide_right) in
    let same : wide ≡ width = of_right ∙ sym of_left in
    let front = take (length numbers * width) values in
    let long : length front ≡ length numbers * width = length-take-le (length numbers * width) values l in
    let next_long : length others * width ≤ length next = subst (λ (w : ℕ). length others * w ≤ length next) same r in
    let product : length (numbers ++ others) * width ≡ length numbers * width + length others * width =
    ap (λ (n : ℕ). n * width) (length-append numbers others) ∙ add-mul (length numbers) (length others) width in
    rw (is_all, is_new) (
      cut_both width numbers others front next long
          ∙ ap₂ (λ (a b : List Record). a ++ b) (cut_short width numbers values l ∙ are_left) (ap (λ (w : ℕ). cut_records w others next) (sym same) ∙ are_right),
      omega (arith, long, next_long, product, length-append front next),
    )
