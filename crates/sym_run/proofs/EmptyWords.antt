-- Values and the empty word among them.
use Rattle.std.proofs.Common.{◌≡◌, ◌∙◌, ◌≤◌, ◌<◌, ◌+◌, ◌-◌, ◌*◌, ◌==◌, Bool, true, ℕ, zero, suc, ap, ap₂, sym, refl, subst, arith, List, [], ◌∷◌, ◌++◌, Option, Some, None, length, length-drop, map, take, drop}
use Rattle.std.specs.Prelude.{slice_get, slice_set}
use Rattle.sym_base.specs.declared.values.value.Value.{Value}
use Rattle.sym_base.specs.declared.values.value.Value.TheVariants.{Word}
use Rattle.sym_base.specs.declared.values.record.Record.{Record}
use Rattle.sym_run.specs.Keeping.{AreAsWide, AreWide, cut_records, with_empty, with_empty_in}
use Rattle.sym_run.proofs.CutRecords.{read_at}
use Rattle.std.specs.Option.{option_eq}
use Rattle.std.proofs.lemmas.Bool.{eqb-true}
use Rattle.std.proofs.lemmas.Option.{slice_get-get_or}
use Rattle.std.proofs.lemmas.List.{length-take-le, take_all}
use Rattle.std.proofs.lemmas.List.Elements.{All-cons, All-head, All-nil, All-tail}
use Rattle.sym_path.proofs.FollowingNarrowed.{set_length}

abbrev around : ℕ → List Value → List Value
around place values = with_empty (Some place) values

-- ---- the value at an index
pub at_place : (values : List Value) (place : ℕ) → place ≤ length values → slice_get (around place values) place ≡ Some (Word [])
at_place [] zero h = refl
at_place [] (suc place) h = absurd (omega (arith, h))
at_place (v ∷ values) zero h = refl
at_place (v ∷ values) (suc place) h = at_place values place (omega (arith, h))

pub before_place : (values : List Value) (place i : ℕ) → i < place → place ≤ length values → slice_get (around place values) i ≡ slice_get values i
before_place values zero i below h = absurd (omega (arith, below))
before_place [] (suc place) i below h = absurd (omega (arith, h))
before_place (v ∷ values) (suc place) zero below h = refl
before_place (v ∷ values) (suc place) (suc i) below h = before_place values place i (omega (arith, below)) (omega (arith, h))

after_place : (values : List Value) (place i : ℕ) → place ≤ i → place ≤ length values → slice_get (around place values) (suc i) ≡ slice_get values i
after_place values zero i above h = refl
after_place [] (suc place) i above h = absurd (omega (arith, h))
after_place (v ∷ values) (suc place) zero above h = absurd (omega (arith, above))
after_place (v ∷ values) (suc place) (suc i) above h = after_place values place i (omega (arith, above)) (omega (arith, h))

pub past_place : (values : List Value) (place i before : ℕ) → place < i → i ≡ before + 1 → place ≤ length values → slice_get (around place values) i ≡ slice_get values before
past_place values place i before above is h =
    let next : i ≡ suc before = omega (arith, is) in
    ap (slice_get (around place values)) next ∙ after_place values place before (omega (arith, above, is)) h

pub around_length : (values : List Value) (place : ℕ) → length (around place values) ≡ length values + 1
around_length values zero = omega arith
around_length [] (suc place) = refl
around_length (v ∷ values) (suc place) = let l = around_length values place in omega (arith, l)

-- A place past the end is the end.
pub past_end : (values : List Value) (place : ℕ) → length values ≤ place → around place values ≡ around (length values) values
past_end [] zero h = refl
past_end [] (suc place) h = refl
past_end (v ∷ values) zero h = absurd (omega (arith, h))
past_end (v ∷ values) (suc place) h = ap (λ (vs : List Value). v ∷ vs) (past_end values place (omega (arith, h)))

-- ---- values without the empty word
pub put_back : (values : List Value) (place : ℕ) → slice_get values place ≡ Some (Word []) → around place (take place values ++ drop (place + 1) values) ≡ values
put_back [] place there = cc
put_back (v ∷ values) zero there = let same : v ≡ Word [] = cc in ap (λ (u : Value). u ∷ values) (sym same)
put_back (v ∷ values) (suc place) there = let next : suc place + 1 ≡ suc (place + 1) = omega arith in
    ap (λ (n : ℕ). around (suc place) (take (suc place) (v ∷ values) ++ drop n (v ∷ values))) next
    ∙ ap (λ (vs : List Value). v ∷ vs) (put_back values place there)

-- ---- records
-- The record at an index, with the empty word.
pub read_with : (empty : Option ℕ) (width i number : ℕ) (numbers : List ℕ) (values found fields : List Value) (stored : List Record) → cut_records width numbers values ≡ stored → slice_get numbers i ≡ Some number
    → found ≡ take width (drop (i * width) values) → fields ≡ with_empty empty found → slice_get (map (with_empty_in empty) stored) i ≡ Some (record { no = number; fields = fields })
read_with empty width i number numbers values found fields stored are at is with =
    let there = read_at width i number numbers values found stored are at is in
    got stored i (record { no = number; fields = found }) there
    ∙ ap (λ (fs : List Value). Some (record { no = number; fields = fs })) (sym with)
  where
    got : (records : List Record) (n : ℕ) (rec : Record) → slice_get records n ≡ Some rec → slice_get (map (with_empty_in empty) records) n ≡ Some (with_empty_in empty rec)
    got [] n rec e = cc
    got (r ∷ records) zero rec e = let same : r ≡ rec = cc in ap (λ (x : Record). Some (with_empty_in empty x)) same
    got (r ∷ records) (suc n) rec e = got records n rec e

-- So many values less, where there is a place.
abbrev pub less : Option ℕ → ℕ → ℕ
less None count = count
less (Some place) count = count - 1

narrower : (empty : Option ℕ) (values : List Value) (count : ℕ) → length (with_empty empty values) ≡ count → length values ≡ less empty count
narrower None values count e = e
narrower (Some place) values count e = let l = around_length values place in omega (arith, l, e)

pub all_narrower : (empty : Option ℕ) (count : ℕ) (stored : List Record) → AreWide count (map (with_empty_in empty) stored) → AreWide (less empty count) stored
all_narrower empty count stored h = all stored h
  where
    all : (records : List Record) → AreWide count (map (with_empty_in empty) records) → AreWide (less empty count) records
    all [] wide = All-nil (λ (rec : Record). length rec.fields ≡ less empty count)
    all (rec ∷ records) wide =
        All-cons (λ (r : Record). length r.fields ≡ less empty count) rec records
        (narrower empty rec.fields count (All-head (λ (r : Record). length r.fields ≡ count) (with_empty_in empty rec) (map (with_empty_in empty) records) wide))
        (all records (All-tail (λ (r : Record). length r.fields ≡ count) (with_empty_in empty rec) (map (with_empty_in empty) records) wide))

map-both : (f : Record → Record) (left right : List Record) → map f (left ++ right) ≡ map f left ++ map f right
map-both f [] right = refl
map-both f (rec ∷ left) right = ap (λ (rs : List Record). f rec ∷ rs) (map-both f left right)

-- One record more.
pub with_last : (empty : Option ℕ) (old new : List Record) (rec : Record) (values : List Value) → with_empty empty values ≡ rec.fields → new ≡ old ++ record { no = rec.no; fields = values } ∷ [] → map (with_empty_in empty) new ≡ map (with_empty_in empty) old ++ rec ∷ []
with_last empty old new rec values back is =
    ap (map (with_empty_in empty)) is
    ∙ map-both (with_empty_in empty) old (record { no = rec.no; fields = values } ∷ [])
    ∙ ap (λ (fs : List Value). map (with_empty_in empty) old ++ record { no = rec.no; fields = fs } ∷ []) back

-- The records of two lists.
pub with_both : (empty : Option ℕ) (left right all : List Record) → all ≡ left ++ right → map (with_empty_in empty) all ≡ map (with_empty_in empty) left ++ map (with_empty_in empty) right
with_both empty left right all is = ap (map (with_empty_in empty)) is ∙ map-both (with_empty_in empty) left right

-- Without a place the records stay.
pub with_none : (stored : List Record) → map (with_empty_in None) stored ≡ stored
with_none [] = refl
with_none (rec ∷ stored) = ap (λ (rs : List Record). rec ∷ rs) (with_none stored)

-- A list of values that is made equal to another one, one value further.
set_on : (target values : List Value) (i : ℕ) (value : Value) → take i values ≡ take i target → slice_get target i ≡ Some value → i < length values → take (suc i) (slice_set values i value) ≡ take (suc i) target
set_on [] values i value e at within = cc
set_on (t ∷ target) [] i value e at within = absurd (omega (arith, within))
set_on (t ∷ target) (v ∷ values) zero value e at within = let same : t ≡ value = cc in ap (λ (u : Value). u ∷ []) (sym same)
set_on (t ∷ target) (v ∷ values) (suc i) value e at within =
    let head : v ≡ t = cc in
    let tail : take i values ≡ take i target = cc in
    ap₂ (λ (u : Value) (vs : List Value). u ∷ vs) head (set_on target values i value tail at (omega (arith, within)))

pub filled_on : (target values new : List Value) (i count : ℕ) (value : Value) → length values ≡ count → i < count → take i values ≡ take i target → slice_get target i ≡ Some value → new ≡ slice_set values i value
    → (length new ≡ count) × (take (i + 1) new ≡ take (i + 1) target)
filled_on target values new i count value long within e at is =
    let next : i + 1 ≡ suc i = omega arith in (
      ap length is ∙ set_length values i value ∙ long,
      rw (is, next) (set_on target values i value e at (omega (arith, long, within))),
    )

-- There is a value at each index below.
pub there_is : (values : List Value) (i count : ℕ) → length values ≡ count → i < count → None ≡ slice_get values i → ⊥
there_is values i count long within none = let some = slice_get-get_or values i (Word []) (omega (arith, long, within)) in absurd (cc)

pub filled_all : (target values : List Value) (i count : ℕ) → length values ≡ count → length target ≡ count → count ≤ i → take i values ≡ take i target → values ≡ target
filled_all target values i count long wide past e = sym (take_all i values (omega (arith, long, past))) ∙ e ∙ take_all i target (omega (arith, wide, past))

-- ---- how many values are stored
pub without_width : (values : List Value) (place : ℕ) → place < length values → length (take place values) + length (drop (place + 1) values) ≡ less (Some place) (length values)
without_width values place within =
    let front = length-take-le place values (omega (arith, within)) in
    let back = length-drop (place + 1) values in
    omega (arith, front, back, within)

-- The values that are stored of a record are as many as the others have.
pub stored_wide : (empty : Option ℕ) (wide : ℕ) (stored : List Record) (kept : List Record) (rec : Record) → map (with_empty_in empty) stored ≡ kept → AreAsWide rec kept → wide ≡ less empty (length rec.fields) → AreWide wide stored
stored_wide empty wide stored kept rec are h is =
    subst (λ (n : ℕ). AreWide n stored) (sym is) (all_narrower empty (length rec.fields) stored (subst (AreAsWide rec) (sym are) h))

pub pieces_wide : (values first rest : List Value) (place : ℕ) → place < length values → first ≡ take place values → rest ≡ drop (place + 1) values → length first + length rest ≡ less (Some place) (length values)
pieces_wide values first rest place within a b =
    let l : length first ≡ length (take place values) = ap length a in
    let r : length rest ≡ length (drop (place + 1) values) = ap length b in
    let w = without_width values place within in
    omega (arith, l, r, w)

-- ---- places
pub same_place : (a b : Option ℕ) (t : Bool) → t ≡ true → t ≡ option_eq (λ x y. x == y) a b → a ≡ b
same_place None None t e is = refl
same_place None (Some y) t e is = cc
same_place (Some x) None t e is = cc
same_place (Some x) (Some y) t e is = let same : x ≡ y = eqb-true x y (sym is ∙ e) in ap Some same
