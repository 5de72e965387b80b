-- The columns of fields, as a function and as relations.
use Rattle.std.proofs.Common.{◌≡◌, ◌≢◌, ◌↔◌, ◌∙◌, ◌⊎◌, inl, inr, refl, sym, ap, ℕ, zero, suc, ◌+◌, ◌-◌, ◌<◌, ◌≤◌, arith, Bool, true, false, nat_eq, List, [], ◌∷◌, drop, slice_get, Option, Some, None, Result, Ok, Err, MatchResult, if◌then◌else◌}
use Rattle.std.proofs.lemmas.Bool.{cases_lt}
use Rattle.std.specs.Cmp.Lexicographic.{pointwise}
use Rattle.sym_check.specs.declared.plan.script.FieldPlan.{FieldPlan}
use Rattle.sym_check.specs.Meaning.Arithmetic.{and_then}
use Rattle.sym_table.specs.declared.header.HeadFault.{HeadFault}
use Rattle.sym_table.specs.declared.header.HeadFault.TheVariants as head
use Rattle.sym_table.specs.Headers.{HasColumn, HasNoColumn, HasTwoColumns, AreColumns, FirstHeadFault, column_from, unless_again, found_column, column_of, columns_of}
use Rattle.sym_table.specs.Headers as headers
use Rattle.sym_table.proofs.Said.{is_text, other_text}

-- The first column with the text, counted from 0, where the first has the number `at`.
record IsFirst (at : ℕ) (row : List (List ℕ)) (text : List ℕ) (place : ℕ) : Type 0 where
  here : ℕ
  place_is : place ≡ at + here
  named : slice_get row here ≡ Some text
  before : (k : ℕ) → k < here → slice_get row k ≢ Some text

abbrev Found : ℕ → List (List ℕ) → List ℕ → Option ℕ → Type 0
Found at row text None = HasNoColumn row text
Found at row text (Some place) = IsFirst at row text place

some_text : (a b : List ℕ) → ◌≡◌ {A = Option (List ℕ)} (Some a) (Some b) → a ≡ b
some_text a b e = cc

none_before : (c : List ℕ) (rest : List (List ℕ)) (text : List ℕ) → c ≢ text → HasNoColumn rest text → HasNoColumn (c ∷ rest) text
none_before c rest text h none zero e = h (some_text c text e)
none_before c rest text h none (suc k) e = none k e

later_before : (c : List ℕ) (rest : List (List ℕ)) (text : List ℕ) (here : ℕ) → c ≢ text → ((k : ℕ) → k < here → slice_get rest k ≢ Some text)
    → (k : ℕ) → k < suc here → slice_get (c ∷ rest) k ≢ Some text
later_before c rest text here h before zero less e = h (some_text c text e)
later_before c rest text here h before (suc k) less e = before k (omega arith) e

next_found : (at : ℕ) (c : List ℕ) (rest : List (List ℕ)) (text : List ℕ) (o : Option ℕ) → c ≢ text → Found (at + 1) rest text o → Found at (c ∷ rest) text o
next_found at c rest text None h none = none_before c rest text h none
next_found at c rest text (Some place) h is = record {
  here = suc is.here;
  place_is = let e = is.place_is in omega arith;
  named = is.named;
  before = later_before c rest text is.here h is.before;
}

from_go : (at : ℕ) (c : List ℕ) (rest : List (List ℕ)) (text : List ℕ) (b : Bool) → pointwise nat_eq c text ≡ b
    → Found (at + 1) rest text (column_from (at + 1) rest text)
    → Found at (c ∷ rest) text (if b then Some at else column_from (at + 1) rest text)
from_go at c rest text true e found = record {
  here = 0;
  place_is = omega arith;
  named = ap Some (is_text c text e);
  before = λ k less. absurd (omega (arith, less));
}
from_go at c rest text false e found =
    next_found at c rest text (column_from (at + 1) rest text) (other_text c text e) found

from_found : (at : ℕ) (row : List (List ℕ)) (text : List ℕ) → Found at row text (column_from at row text)
from_found at [] text = λ k e. cc e
from_found at (c ∷ rest) text =
    from_go at c rest text (pointwise nat_eq c text) refl (from_found (at + 1) rest text)

-- What is behind a place.
dropped : (row : List (List ℕ)) (n k : ℕ) → slice_get (drop n row) k ≡ slice_get row (n + k)
dropped row zero k = let e : k ≡ 0 + k = omega arith in ap (slice_get row) e
dropped [] (suc n) k = refl
dropped (c ∷ row) (suc n) k =
    let e : suc (n + k) ≡ suc n + k = omega arith in dropped row n k ∙ ap (slice_get (c ∷ row)) e

only_one : (row : List (List ℕ)) (text : List ℕ) (place : ℕ) → ((k : ℕ) → k < place → slice_get row k ≢ Some text)
    → HasNoColumn (drop (place + 1) row) text → (k : ℕ) → slice_get row k ≡ Some text → (k < place) ⊎ (place ≤ k) → k ≡ place
only_one row text place before none k e (inl less) = absurd (before k less e)
only_one row text place before none k e (inr more) = go (cases_lt place k)
  where
    go : (place < k) ⊎ (k ≤ place) → k ≡ place
    go (inl less) =
        let at : place + 1 + (k - (place + 1)) ≡ k = omega arith in
        absurd (none (k - (place + 1)) (dropped row (place + 1) (k - (place + 1)) ∙ ap (slice_get row) at ∙ e))
    go (inr same) = omega arith

abbrev Broken : List (List ℕ) → ℕ → List ℕ → HeadFault → Type 0
Broken row which text (head.NoField n) = (n ≡ which) × HasNoColumn row text
Broken row which text (head.Twice n) = (n ≡ which) × HasTwoColumns row text

again_holds : (row : List (List ℕ)) (text : List ℕ) (which place : ℕ) (o : Option ℕ) → IsFirst 0 row text place
    → Found (place + 1) (drop (place + 1) row) text o → MatchResult (unless_again which place o) (HasColumn row text) (Broken row which text)
again_holds row text which place None is none =
    let same : place ≡ is.here = omega (arith, is.place_is) in
    record {
      named = rw same is.named;
      only = λ k e. only_one row text place (rw same is.before) none k e (cases_lt k place);
    }
again_holds row text which place (Some other) is found =
    let same : place ≡ is.here = omega (arith, is.place_is) in (
      refl,
      record {
        one = place;
        other = place + 1 + found.here;
        apart = omega arith;
        named = rw same is.named;
        again = sym (dropped row (place + 1) found.here) ∙ found.named;
      },
    )

found_holds : (row : List (List ℕ)) (text : List ℕ) (which : ℕ) (o : Option ℕ) → Found 0 row text o
    → MatchResult (found_column row text which o) (HasColumn row text) (Broken row which text)
found_holds row text which None none = (refl, none)
found_holds row text which (Some place) is =
    again_holds row text which place (column_from (place + 1) (drop (place + 1) row) text) is
    (from_found (place + 1) (drop (place + 1) row) text)

column_holds : (row : List (List ℕ)) (text : List ℕ) (which : ℕ) → MatchResult (column_of row text which) (HasColumn row text) (Broken row which text)
column_holds row text which = found_holds row text which (column_from 0 row text) (from_found 0 row text)

-- The three cases exclude each other.
not_none : (row : List (List ℕ)) (text : List ℕ) (place : ℕ) → HasColumn row text place → HasNoColumn row text → ⊥
not_none row text place is none = none place is.named

not_two : (row : List (List ℕ)) (text : List ℕ) (place : ℕ) → HasColumn row text place → HasTwoColumns row text → ⊥
not_two row text place is two =
    let a = is.only two.one two.named in let b = is.only two.other two.again in let c = two.apart in omega arith

column_answered : (row : List (List ℕ)) (text : List ℕ) (which place : ℕ) (r : Result ℕ HeadFault)
    → MatchResult r (HasColumn row text) (Broken row which text) → HasColumn row text place → r ≡ Ok place
column_answered row text which place (Ok other) so is = ap Ok (is.only other so.named)
column_answered row text which place (Err (head.NoField n)) so is = absurd (not_none row text place is so.1)
column_answered row text which place (Err (head.Twice n)) so is = absurd (not_two row text place is so.1)

none_answered : (row : List (List ℕ)) (text : List ℕ) (which : ℕ) (r : Result ℕ HeadFault)
    → MatchResult r (HasColumn row text) (Broken row which text) → HasNoColumn row text → r ≡ Err (head.NoField which)
none_answered row text which (Ok other) so none = absurd (not_none row text other so none)
none_answered row text which (Err (head.NoField n)) so none = ap (λ m. Err (head.NoField m)) so.0
none_answered row text which (Err (head.Twice n)) so none = absurd (none so.1.one so.1.named)

two_answered : (row : List (List ℕ)) (text : List ℕ) (which : ℕ) (r : Result ℕ HeadFault)
    → MatchResult r (HasColumn row text) (Broken row which text) → HasTwoColumns row text → r ≡ Err (head.Twice which)
two_answered row text which (Ok other) so two = absurd (not_two row text other so two)
two_answered row text which (Err (head.NoField n)) so two = absurd (so.1 two.one two.named)
two_answered row text which (Err (head.Twice n)) so two = ap (λ m. Err (head.Twice m)) so.0

-- One field, and then the others.
first_fault : (row : List (List ℕ)) (which : ℕ) (f : FieldPlan) (fields : List FieldPlan) (why : HeadFault)
    → Broken row which f.header why → FirstHeadFault row which (f ∷ fields) why
first_fault row which f fields (head.NoField n) so = rw so.0 (headers.absent which f fields so.1)
first_fault row which f fields (head.Twice n) so = rw so.0 (headers.twice which f fields so.1)

more_hold : (row : List (List ℕ)) (which : ℕ) (f : FieldPlan) (fields : List FieldPlan) (first : Result ℕ HeadFault) (rest : Result (List ℕ) HeadFault)
    → MatchResult first (HasColumn row f.header) (Broken row which f.header)
    → MatchResult rest (AreColumns row fields) (FirstHeadFault row (which + 1) fields)
    → MatchResult (and_then (λ place. and_then (λ places. Ok (place ∷ places)) rest) first) (AreColumns row (f ∷ fields)) (FirstHeadFault row which (f ∷ fields))
more_hold row which f fields (Ok place) (Ok places) is are = headers.one_more f fields place places is are
more_hold row which f fields (Ok place) (Err why) is fault = headers.later which f fields place why is fault
more_hold row which f fields (Err why) rest so others = first_fault row which f fields why so

columns_hold : (row : List (List ℕ)) (which : ℕ) (fields : List FieldPlan)
    → MatchResult (columns_of row which fields) (AreColumns row fields) (FirstHeadFault row which fields)
columns_hold row which [] = headers.no_field
columns_hold row which (f ∷ fields) =
    more_hold row which f fields (column_of row f.header which) (columns_of row (which + 1) fields)
    (column_holds row f.header which) (columns_hold row (which + 1) fields)

columns_answered : (row : List (List ℕ)) (which : ℕ) (fields : List FieldPlan) (places : List ℕ)
    → AreColumns row fields places → columns_of row which fields ≡ Ok places
columns_answered row which _ _ headers.no_field = refl
columns_answered row which _ _ (headers.one_more f fields place places is are) =
    rw (column_answered row f.header which place (column_of row f.header which) (column_holds row f.header which) is, columns_answered row (which + 1) fields places are) refl

fault_answered : (row : List (List ℕ)) (which : ℕ) (fields : List FieldPlan) (why : HeadFault)
    → FirstHeadFault row which fields why → columns_of row which fields ≡ Err why
fault_answered row _ _ _ (headers.absent which f fields none) =
    rw (none_answered row f.header which (column_of row f.header which) (column_holds row f.header which) none) refl
fault_answered row _ _ _ (headers.twice which f fields two) =
    rw (two_answered row f.header which (column_of row f.header which) (column_holds row f.header which) two) refl
fault_answered row _ _ _ (headers.later which f fields place why is after) =
    rw (column_answered row f.header which place (column_of row f.header which) (column_holds row f.header which) is, fault_answered row (which + 1) fields why after) refl

pub header_columns : (fields : List FieldPlan) (row : List (List ℕ)) (places : List ℕ) → AreColumns row fields places ↔ (columns_of row 0 fields ≡ Ok places)
header_columns fields row places = (columns_answered row 0 fields places, λ e. rw e at (columns_hold row 0 fields))

pub header_fault : (fields : List FieldPlan) (row : List (List ℕ)) (why : HeadFault) → FirstHeadFault row 0 fields why ↔ (columns_of row 0 fields ≡ Err why)
header_fault fields row why = (fault_answered row 0 fields why, λ e. rw e at (columns_hold row 0 fields))
