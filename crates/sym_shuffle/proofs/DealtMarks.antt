-- Values that have a mark, pushed and set one after the other.
use Rattle.std.proofs.Common.{◌≡◌, ◌∙◌, ◌+◌, ◌<◌, ◌≤◌, ℕ, zero, suc, ap, sym, refl, arith, min, get_or, Bool, true, false, List, [], ◌∷◌, ◌++◌, append_assoc, append-nil, length, take, drop, Option, Some, None, slice_get, slice_set}
use Rattle.std.proofs.lemmas.List.{drop_all, get_or_past, take_all}
use Rattle.std.proofs.lemmas.Option.{get_or_from_slice_get, slice_get_within}
use Rattle.std.specs.Option.{option_to_list}
use Rattle.sym_base.specs.declared.values.value.Value.{Value}
use Rattle.sym_reads.specs.Agreement.{where_marked}
use Rattle.sym_shuffle.specs.Shuffling.{marked, width_of}
use Rattle.sym_shuffle.proofs.MarkedValues.{marked_at, width_below, put_marked, put_none, put_unmarked, taken_marked, taken_unmarked}

-- ---- pushed
-- At a mark the value there is pushed, if there is one,
pub pushed_marked : (marks : List Bool) (fields first old new : List Value) (i : ℕ) (found : Option Value) → i < length marks → get_or marks i false ≡ true → slice_get fields i ≡ found
    → new ≡ old ++ option_to_list found → old ≡ first ++ marked (take i marks) fields → new ≡ first ++ marked (take (i + 1) marks) fields
pushed_marked marks fields first old new i found within mark at is so_far =
    is
    ∙ ap (λ (vs : List Value). vs ++ option_to_list found) so_far
    ∙ append_assoc first (marked (take i marks) fields) (option_to_list found)
    ∙ ap (λ (o : Option Value). first ++ (marked (take i marks) fields ++ option_to_list o)) (sym at)
    ∙ ap (λ (vs : List Value). first ++ vs) (sym (taken_marked marks fields i false within mark))

pub pushed_none : (marks : List Bool) (fields first old new : List Value) (i : ℕ) → i < length marks → get_or marks i false ≡ true → slice_get fields i ≡ None → new ≡ old
    → old ≡ first ++ marked (take i marks) fields → new ≡ first ++ marked (take (i + 1) marks) fields
pushed_none marks fields first old new i within mark at is so_far =
    pushed_marked marks fields first old new i None within mark at (is ∙ sym (append-nil old)) so_far

-- and elsewhere none is.
pub pushed_unmarked : (marks : List Bool) (fields first old new : List Value) (i : ℕ) → i < length marks → get_or marks i false ≡ false → new ≡ old
    → old ≡ first ++ marked (take i marks) fields → new ≡ first ++ marked (take (i + 1) marks) fields
pushed_unmarked marks fields first old new i within mark is so_far =
    is ∙ so_far ∙ ap (λ (vs : List Value). first ++ vs) (sym (taken_unmarked marks fields i false within mark))

pub pushed_all : (marks : List Bool) (fields first now : List Value) (i : ℕ) → length marks ≤ i → now ≡ first ++ marked (take i marks) fields → now ≡ first ++ marked marks fields
pushed_all marks fields first now i past so_far =
    so_far ∙ ap (λ (ms : List Bool). first ++ marked ms fields) (take_all i marks past)

-- ---- set
none_past : (values : List Value) (i : ℕ) → slice_get values i ≡ None → length values ≤ i
none_past [] i none = omega arith
none_past (v ∷ values) zero none = absurd cc
none_past (v ∷ values) (suc i) none = let later = none_past values i none in omega arith

-- One value more is passed over, where there may be one.
pub passed_over : (first wide more at next cap : ℕ) → at ≡ min (first + wide) cap → next ≡ min (at + 1) cap → more ≡ wide + 1 → next ≡ min (first + more) cap
passed_over first wide more at next cap is steps wider = omega (arith, is, steps, wider)

-- What is set where it is changes nothing.
same_stays : (values : List Value) (i : ℕ) (value : Value) → slice_get values i ≡ Some value → slice_set values i value ≡ values
same_stays [] i value there = absurd cc
same_stays (v ∷ values) zero value there = let same : v ≡ value = cc in ap (λ (x : Value). x ∷ values) (sym same)
same_stays (v ∷ values) (suc i) value there = ap (λ (vs : List Value). v ∷ vs) (same_stays values i value there)

-- What is set past the values changes none.
past_stays : (values : List Value) (i : ℕ) (value : Value) → slice_get values i ≡ None → slice_set values i value ≡ values
past_stays [] i value none = refl
past_stays (v ∷ values) zero value none = cc
past_stays (v ∷ values) (suc i) value none = ap (λ (vs : List Value). v ∷ vs) (past_stays values i value none)

-- Of the values from `first` on, which are the marked ones, the next is that of the mark.
next_is : (marks : List Bool) (from values : List Value) (i first : ℕ) → i < length marks → get_or marks i false ≡ true → take (width_of marks) (drop first values) ≡ marked marks from
    → slice_get values (first + width_of (take i marks)) ≡ slice_get from i
next_is marks from values i first within mark are =
    let k = width_of (take i marks) in
    get_dropped values first k
    ∙ get_taken (drop first values) (width_of marks) k (width_below marks i false within mark)
    ∙ ap (λ (vs : List Value). slice_get vs k) are
    ∙ marked_at marks from i false within mark
  where
    get_dropped : (values : List Value) (first k : ℕ) → slice_get values (first + k) ≡ slice_get (drop first values) k
    get_dropped [] first k = ap (λ (vs : List Value). slice_get vs k) (sym (drop_all first [] (omega arith)))
    get_dropped (v ∷ values) zero k =
        let same : 0 + k ≡ k = omega arith in
        ap (slice_get (v ∷ values)) same
    get_dropped (v ∷ values) (suc first) k =
        let same : suc first + k ≡ suc (first + k) = omega arith in
        ap (slice_get (v ∷ values)) same ∙ get_dropped values first k

    get_taken : (values : List Value) (n k : ℕ) → k < n → slice_get values k ≡ slice_get (take n values) k
    get_taken [] n k lt = ap (λ (vs : List Value). slice_get vs k) (sym (take_all n [] (omega arith)))
    get_taken (v ∷ values) zero k lt = absurd (omega arith)
    get_taken (v ∷ values) (suc n) zero lt = refl
    get_taken (v ∷ values) (suc n) (suc k) lt = get_taken values n k (omega arith)

-- It is set at the mark,
pub set_marked : (marks : List Bool) (from values old now new : List Value) (i first at cap : ℕ) (held : Value) → i < length marks → get_or marks i false ≡ true → take (width_of marks) (drop first values) ≡ marked marks from
    → at ≡ min (first + width_of (take i marks)) cap → length values ≤ cap → slice_get now i ≡ Some held → new ≡ slice_set now i (get_or values at held) → now ≡ where_marked (take i marks) from old
    → new ≡ where_marked (take (i + 1) marks) from old
set_marked marks from values old now new i first at cap held within mark are at_is few there is so_far = of (slice_get from i) refl
  where
    place : ℕ
    place = first + width_of (take i marks)

    of : (found : Option Value) → slice_get from i ≡ found → new ≡ where_marked (take (i + 1) marks) from old
    of (Some value) found =
        let read : slice_get values place ≡ Some value = next_is marks from values i first within mark are ∙ found in
        let inside = slice_get_within values place value read in
        let here : at ≡ place = omega (arith, at_is, few, inside) in
        let got : get_or values at held ≡ value = ap (λ (n : ℕ). get_or values n held) here ∙ get_or_from_slice_get values place value held read in
        is
        ∙ ap (slice_set now i) got
        ∙ ap (λ (vs : List Value). slice_set vs i value) so_far
        ∙ sym (put_marked marks from old i false value within mark found)
    of None found =
        let read : slice_get values place ≡ None = next_is marks from values i first within mark are ∙ found in
        let outside = none_past values place read in
        let past : length values ≤ at = omega (arith, at_is, few, outside) in
        is
        ∙ ap (slice_set now i) (get_or_past values at held past)
        ∙ same_stays now i held there
        ∙ so_far
        ∙ sym (put_none marks from old i found)

-- and where there is no field there, nothing is.
pub set_past : (marks : List Bool) (from old now new : List Value) (i : ℕ) → i < length marks → get_or marks i false ≡ true → slice_get now i ≡ None → new ≡ now → now ≡ where_marked (take i marks) from old
    → new ≡ where_marked (take (i + 1) marks) from old
set_past marks from old now new i within mark none is so_far = of (slice_get from i) refl
  where
    of : (found : Option Value) → slice_get from i ≡ found → new ≡ where_marked (take (i + 1) marks) from old
    of (Some value) found =
        is
        ∙ sym (past_stays now i value none)
        ∙ ap (λ (vs : List Value). slice_set vs i value) so_far
        ∙ sym (put_marked marks from old i false value within mark found)
    of None found = is ∙ so_far ∙ sym (put_none marks from old i found)

-- Nothing is set where there is no mark.
pub set_unmarked : (marks : List Bool) (from old now new : List Value) (i : ℕ) → i < length marks → get_or marks i false ≡ false → new ≡ now → now ≡ where_marked (take i marks) from old
    → new ≡ where_marked (take (i + 1) marks) from old
set_unmarked marks from old now new i within mark is so_far =
    is ∙ so_far ∙ sym (put_unmarked marks from old i false within mark)

pub set_all : (marks : List Bool) (from old now : List Value) (i : ℕ) → length marks ≤ i → now ≡ where_marked (take i marks) from old → now ≡ where_marked marks from old
set_all marks from old now i past so_far = so_far ∙ ap (λ (ms : List Bool). where_marked ms from old) (take_all i marks past)
