-- How lists of literals differ, and what that says of the facts that they are.
use Rattle.std.proofs.Common.{◌≡◌, ◌≢◌, ℕ, zero, suc, ◌+◌, ◌<◌, Bool, true, false, not, List, [], ◌∷◌, length, get_or, set, take, map, Option, Some, None, refl, sym, ap, ◌∙◌, inl, inr, arith}
use Rattle.std.specs.declared.cmp.Ordering.{Ordering}
use Rattle.std.specs.declared.cmp.Ordering.TheVariants.{Less, Equal, Greater}
use Rattle.std.specs.Ordering.{is_ne}
use Rattle.std.specs.Option.{MatchOption, is_some}
use Rattle.std.specs.Cmp.{tied_itself}
use Rattle.std.specs.FinMap.{get, insert, from_sorted, entries, entries-from_sorted, entries-insert, same_entries_map, get-from_sorted, put}
use Rattle.std.proofs.lemmas.List.{get_or-set_same, get_or-set_other, get_or-take, take-set-le, take_more_same, length-map, length-set}
use Rattle.std.proofs.lemmas.Bool.{cases_eq}
use Rattle.sym_pred.specs.declared.literal.Literal.{Literal}
use Rattle.sym_pred.specs.declared.facts.Difference.TheVariants.{Many}
use Rattle.sym_pred.specs.Facts.{Atom, atom_cmp, FactMap}
use Rattle.sym_pred.specs.Literals.{atom_of, entry_of, literal_of, literals}
use Rattle.sym_pred.specs.Places.{IsInOrder}
use Rattle.sym_pred.specs.Meaning.{Stands, DifferInOne, Unite}
use Rattle.sym_pred.specs.Differences.{turned, IsDifference}
use Rattle.sym_pred.proofs.EntriesLemmas.{find-at, find-place, put-at}
use Rattle.sym_pred.proofs.FactsLemmas.{atom_cmp-total, atom_cmp-IsAntisymmetric, literals_of_view, get_or-entries, literal_of-entries}
use Rattle.sym_pred.proofs.MeaningLemmas.{not_both, insert-DifferInOne, DifferInOne-insert}

map-set : {A B : Type 0} (f : A → B) (xs : List A) (i : ℕ) (x : A) → map f (set xs i x) ≡ set (map f xs) i (f x)
map-set f [] zero x = refl
map-set f [] (suc i) x = refl
map-set f (y ∷ xs) zero x = refl
map-set f (y ∷ xs) (suc i) x = ap (λ rest. f y ∷ rest) (map-set f xs i x)

get_or-default : (xs : List Literal) (k : ℕ) (e d : Literal) → k < length xs → get_or xs k e ≡ get_or xs k d
get_or-default [] k e d p = absurd (omega arith)
get_or-default (x ∷ xs) zero e d p = refl
get_or-default (x ∷ xs) (suc k) e d p = get_or-default xs k e d (omega arith)

-- ---- what tells that there is more than one difference

-- Turning a literal changes no atom.
atom-set : (xs : List Literal) (i k : ℕ) (d : Literal) → atom_of (get_or (set xs k (turned (get_or xs k d))) i d) ≡ atom_of (get_or xs i d)
atom-set [] zero zero d = refl
atom-set [] zero (suc k) d = refl
atom-set [] (suc i) zero d = refl
atom-set [] (suc i) (suc k) d = refl
atom-set (x ∷ xs) zero zero d = refl
atom-set (x ∷ xs) zero (suc k) d = refl
atom-set (x ∷ xs) (suc i) zero d = refl
atom-set (x ∷ xs) (suc i) (suc k) d = atom-set xs i k d

pub Many-atoms : (left right : List Literal) (i : ℕ) (d : Literal) → atom_cmp (atom_of (get_or left i d)) (atom_of (get_or right i d)) ≢ Equal → IsDifference left right Many
Many-atoms left right i d apart = (
  λ same. apart (ap (λ (xs : List Literal). atom_cmp (atom_of (get_or left i d)) (atom_of (get_or xs i d))) same ∙ tied_itself atom_cmp-total (atom_of (get_or left i d))),
  λ k e p is.
      apart (ap (λ (xs : List Literal). atom_cmp (atom_of (get_or left i d)) (atom_of (get_or xs i d))) (is ∙ ap (λ x. set left k (turned x)) (get_or-default left k e d p))
      ∙ ap (λ (a : Atom). atom_cmp (atom_of (get_or left i d)) a) (atom-set left i k d)
      ∙ tied_itself atom_cmp-total (atom_of (get_or left i d))),
)

-- A turned literal at a place is the only one whose outcome differs.
turned_there : (left right : List Literal) (k i : ℕ) (d e : Literal) → right ≡ set left k (turned (get_or left k e)) → (get_or left i d).outcome ≡ not (get_or right i d).outcome → i ≡ k
turned_there left right k i d e is differ =
    elim (cases_eq i k) [
      | inl same ↦ same
      | inr other ↦ not_both _ (ap (λ (x : Literal). x.outcome) (ap (λ (xs : List Literal). get_or xs i d) is ∙ get_or-set_other left k i _ d other) ∙ differ)
    ]

-- The first lists, as far as a loop has come, are equal but for one turned literal.
front_turned : (left right : List Literal) (p i : ℕ) (d : Literal) → p < i → p < length left → take i right ≡ take i (set left p (turned (get_or left p d))) → (get_or left p d).outcome ≡ not (get_or right p d).outcome
front_turned left right p i d below inside front =
    let here : get_or right p d ≡ turned (get_or left p d) =
    sym (get_or-take i right p d below) ∙ ap (λ (xs : List Literal). get_or xs p d) front ∙ get_or-take i (set left p (turned (get_or left p d))) p d below ∙ get_or-set_same left p (turned (get_or left p d)) d inside in
    twice (get_or left p d).outcome (get_or right p d).outcome (ap (λ (x : Literal). x.outcome) here)
  where
    twice : (a b : Bool) → b ≡ not a → a ≡ not b
    twice true b e = ap not (sym e)
    twice false b e = ap not (sym e)

pub Many-outcomes : (left right : List Literal) (p i : ℕ) (d : Literal) → p < i → i < length left → take i right ≡ take i (set left p (turned (get_or left p d))) → (get_or left i d).outcome ≡ not (get_or right i d).outcome → IsDifference left right Many
Many-outcomes left right p i d below inside front differ =
    let first = front_turned left right p i d below (omega arith) front in (
      λ same. not_both _ (ap (λ (xs : List Literal). (get_or xs i d).outcome) same ∙ differ),
      λ k e q is.
          let at_p : p ≡ k = turned_there left right k p d e is first in
          let at_i : i ≡ k = turned_there left right k i d e is differ in
          omega arith,
    )

-- ---- a step of the loop

same_literal : (x y : Literal) → atom_of y ≡ atom_of x → y.outcome ≡ x.outcome → y ≡ x
same_literal x y a o = λ i. record { test = (a i).0; args = (a i).1; outcome = o i }

pub step-equal : (left right : List Literal) (i : ℕ) (d : Literal) → i < length left → length right ≡ length left → atom_of (get_or right i d) ≡ atom_of (get_or left i d) → (get_or right i d).outcome ≡ (get_or left i d).outcome → take i right ≡ take i left → take (i + 1) right ≡ take (i + 1) left
step-equal left right i d inside long atom outcome front = take_more_same right left i d (omega arith) inside front (same_literal _ _ atom outcome)

pub step-turn : (left right : List Literal) (i : ℕ) (d : Literal) → i < length left → length right ≡ length left → atom_of (get_or right i d) ≡ atom_of (get_or left i d) → (get_or right i d).outcome ≡ not (get_or left i d).outcome → take i right ≡ take i left → (e : Literal) → take (i + 1) right ≡ take (i + 1) (set left i (turned (get_or left i e)))
step-turn left right i d inside long atom outcome front e =
    let one : get_or left i e ≡ get_or left i d = get_or-default left i e d inside in
    let here : get_or right i d ≡ turned (get_or left i e) = same_literal _ _ atom outcome ∙ ap turned (sym one) in
    take_more_same right (set left i (turned (get_or left i e))) i d (omega arith) (omega (arith, length-set left i (turned (get_or left i e))))
    (front ∙ sym (take-set-le i left i (turned (get_or left i e)) (omega arith)))
    (here ∙ sym (get_or-set_same left i (turned (get_or left i e)) d inside))

pub step-after : (left right : List Literal) (p i : ℕ) (d : Literal) → p < i → i < length left → length right ≡ length left → atom_of (get_or right i d) ≡ atom_of (get_or left i d) → (get_or right i d).outcome ≡ (get_or left i d).outcome → (e : Literal) → take i right ≡ take i (set left p (turned (get_or left p e))) → take (i + 1) right ≡ take (i + 1) (set left p (turned (get_or left p e)))
step-after left right p i d below inside long atom outcome e front =
    take_more_same right (set left p (turned (get_or left p e))) i d (omega arith) (omega (arith, length-set left p (turned (get_or left p e)))) front
    (same_literal _ _ atom outcome ∙ sym (get_or-set_other left p i (turned (get_or left p e)) d (λ (same : i ≡ p). omega arith)))

-- ---- what a difference says of facts

module _ (left right : FactMap) (xs ys : List Literal) (h : IsInOrder xs) (g : IsInOrder ys) (is_left : from_sorted {R = atom_cmp} (map entry_of xs) ≡ left) (is_right : from_sorted {R = atom_cmp} (map entry_of ys) ≡ right) where
  pub equal-Nothing : ys ≡ xs → left ≡ right
  equal-Nothing same = sym is_left ∙ ap (λ (zs : List Literal). from_sorted {R = atom_cmp} (map entry_of zs)) (sym same) ∙ is_right

  left_entries : entries left ≡ map entry_of xs
  left_entries = ap (λ (m : FactMap). entries m) (sym is_left) ∙ entries-from_sorted atom_cmp (map entry_of xs) h

  right_entries : entries right ≡ map entry_of ys
  right_entries = ap (λ (m : FactMap). entries m) (sym is_right) ∙ entries-from_sorted atom_cmp (map entry_of ys) g

  -- to turn the literal at a place is to insert its atom with the other outcome
  turned_entries : (i : ℕ) (d : Literal) → i < length xs → (v : Bool) → put atom_cmp (atom_of (get_or xs i d)) v (map entry_of xs) ≡ set (map entry_of xs) i (atom_of (get_or xs i d), v)
  turned_entries i d p v =
      let here = get_or-entries xs i (entry_of d) in
      put-at atom_cmp-total (map entry_of xs) i (entry_of d) (atom_of (get_or xs i d)) v h (rw (length-map xs entry_of) p)
      (ap (λ (e : Atom × Bool). atom_cmp e.0 (atom_of (get_or xs i d))) here ∙ tied_itself atom_cmp-total (atom_of (get_or xs i d)))
      ∙ ap (λ (e : Atom × Bool). set (map entry_of xs) i (e.0, v)) here

  pub Stands-place : (i : ℕ) (d : Literal) → i < length xs → Stands left (atom_of (get_or xs i d)) (get_or xs i d).outcome
  Stands-place i d p =
      let here = get_or-entries xs i (entry_of d) in
      ap (λ (m : FactMap). get m (atom_of (get_or xs i d))) (sym is_left)
      ∙ get-from_sorted atom_cmp (map entry_of xs) (atom_of (get_or xs i d)) h
      ∙ find-at atom_cmp-total (map entry_of xs) i (entry_of d) (atom_of (get_or xs i d)) h (rw (length-map xs entry_of) p)
      (ap (λ (e : Atom × Bool). atom_cmp e.0 (atom_of (get_or xs i d))) here ∙ tied_itself atom_cmp-total (atom_of (get_or xs i d)))
      ∙ ap (λ (e : Atom × Bool). Some e.1) here

  pub DifferInOne-One : (i : ℕ) (d : Literal) → i < length xs → ys ≡ set xs i (turned (get_or xs i d)) → DifferInOne left right
  DifferInOne-One i d p is =
      DifferInOne-insert left right (atom_of (get_or xs i d)) (get_or xs i d).outcome (Stands-place i d p)
      (same_entries_map right (insert left (atom_of (get_or xs i d)) (not (get_or xs i d).outcome))
      (right_entries
      ∙ ap (λ (zs : List Literal). map entry_of zs) is
      ∙ map-set entry_of xs i (turned (get_or xs i d))
      ∙ sym (turned_entries i d p (not (get_or xs i d).outcome))
      ∙ ap (λ es. put atom_cmp (atom_of (get_or xs i d)) (not (get_or xs i d).outcome) es) (sym left_entries)
      ∙ sym (entries-insert atom_cmp-total left (atom_of (get_or xs i d)) (not (get_or xs i d).outcome))))

  pub DifferInOne-One-atom : (i : ℕ) (d : Literal) (p : i < length xs) (is : ys ≡ set xs i (turned (get_or xs i d))) → (DifferInOne-One i d p is).atom ≡ atom_of (get_or xs i d)
  unfolding DifferInOne-One
  DifferInOne-One-atom i d p is = refl

  pub not_Unite-Many : IsDifference xs ys Many → Unite left right → ⊥
  not_Unite-Many many (inl same) = many.0 (sym (literals_of_view right ys g is_right) ∙ ap (λ (m : FactMap). literals m) (sym same) ∙ literals_of_view left xs h is_left)
  not_Unite-Many many (inr differ) =
      let found = find-place atom_cmp-total (map entry_of xs) differ.atom differ.outcome (sym (get-from_sorted atom_cmp (map entry_of xs) differ.atom h) ∙ ap (λ (m : FactMap). get m differ.atom) is_left ∙ differ.one) in
      let d : Literal = literal_of (differ.atom, differ.outcome) in
      let p : found.0 < length xs = rw (length-map xs entry_of) at found.1 in
      let here = get_or-entries xs found.0 (entry_of d) in
      let atom : atom_of (get_or xs found.0 d) ≡ differ.atom = ap (λ (e : Atom × Bool). e.0) (sym here) ∙ atom_cmp-IsAntisymmetric _ _ (found.2 (entry_of d)).0 in
      let outcome : (get_or xs found.0 d).outcome ≡ differ.outcome = ap (λ (e : Atom × Bool). e.1) (sym here) ∙ (found.2 (entry_of d)).1 in
      let es : map entry_of ys ≡ map entry_of (set xs found.0 (turned (get_or xs found.0 d))) =
      sym right_entries
      ∙ ap (λ (m : FactMap). entries m) (insert-DifferInOne left right differ)
      ∙ entries-insert atom_cmp-total left differ.atom (not differ.outcome)
      ∙ ap (λ es. put atom_cmp differ.atom (not differ.outcome) es) left_entries
      ∙ (λ i. put atom_cmp (sym atom i) (not (sym outcome i)) (map entry_of xs))
      ∙ turned_entries found.0 d p (not (get_or xs found.0 d).outcome)
      ∙ sym (map-set entry_of xs found.0 (turned (get_or xs found.0 d))) in
      many.1 found.0 d p (sym (literal_of-entries ys) ∙ ap (λ (zs : List (Atom × Bool)). map literal_of zs) es ∙ literal_of-entries (set xs found.0 (turned (get_or xs found.0 d))))

-- ---- how far the loop over two lists has come

-- Up to i the lists are equal, but for the literal that was found turned.
abbrev pub Front : List Literal → List Literal → ℕ → Option ℕ → Type 0
Front left right i found = MatchOption found (take i right ≡ take i left) (λ place. (place < i) × ((e : Literal) → take i right ≡ take i (set left place (turned (get_or left place e)))))

is_ne-true : (r : Ordering) → is_ne r ≡ true → r ≢ Equal
is_ne-true Less e same = cc
is_ne-true Equal e same = cc
is_ne-true Greater e same = cc

is_ne-false : (r : Ordering) → is_ne r ≡ false → r ≡ Equal
is_ne-false Less e = cc
is_ne-false Equal e = refl
is_ne-false Greater e = cc

-- The literals x and y stand at place i of the two lists.
module _ (left right : List Literal) (i : ℕ) (x y : Literal) (inside : i < length left) (long : length right ≡ length left) (is_x : x ≡ get_or left i x) (is_y : y ≡ get_or right i y) where
  left_at : (d : Literal) → get_or left i d ≡ x
  left_at d = get_or-default left i d x inside ∙ sym is_x

  right_at : (d : Literal) → get_or right i d ≡ y
  right_at d = get_or-default right i d y (omega arith) ∙ sym is_y

  pub Many-here : is_ne (atom_cmp (atom_of x) (atom_of y)) ≡ true → IsDifference left right Many
  Many-here apart = Many-atoms left right i x (λ e. is_ne-true _ apart ((λ j. atom_cmp (atom_of (sym (left_at x) j)) (atom_of (sym (right_at x) j))) ∙ e))

  outcome_at : x.outcome ≡ not y.outcome → (d : Literal) → (get_or left i d).outcome ≡ not (get_or right i d).outcome
  outcome_at differ d = ap (λ (z : Literal). z.outcome) (left_at d) ∙ differ ∙ ap (λ (z : Literal). not z.outcome) (sym (right_at d))

  pub Many-again : (found : Option ℕ) → Front left right i found → is_some found ≡ true → x.outcome ≡ not y.outcome → IsDifference left right Many
  Many-again None front some differ = cc
  Many-again (Some place) front some differ = Many-outcomes left right place i x front.0 inside (front.1 x) (outcome_at differ x)

  atom_at : is_ne (atom_cmp (atom_of x) (atom_of y)) ≡ false → (d : Literal) → atom_of (get_or right i d) ≡ atom_of (get_or left i d)
  atom_at same d = ap atom_of (right_at d) ∙ sym (atom_cmp-IsAntisymmetric (atom_of x) (atom_of y) (is_ne-false _ same)) ∙ ap atom_of (sym (left_at d))

  turn_back : (a b : Bool) → a ≡ not b → b ≡ not a
  turn_back true true e = cc
  turn_back true false e = refl
  turn_back false true e = refl
  turn_back false false e = cc

  pub Front-turned : (found : Option ℕ) → Front left right i found → is_some found ≡ false → is_ne (atom_cmp (atom_of x) (atom_of y)) ≡ false → x.outcome ≡ not y.outcome → Front left right (i + 1) (Some i)
  Front-turned None front none same differ = (omega arith, step-turn left right i x inside long (atom_at same x) (turn_back _ _ (outcome_at differ x)) front)
  Front-turned (Some place) front none same differ = cc

  pub Front-same : (found : Option ℕ) → Front left right i found → is_ne (atom_cmp (atom_of x) (atom_of y)) ≡ false → x.outcome ≡ y.outcome → Front left right (i + 1) found
  Front-same None front same outcome = step-equal left right i x inside long (atom_at same x) (ap (λ (z : Literal). z.outcome) (right_at x) ∙ sym outcome ∙ ap (λ (z : Literal). z.outcome) (sym (left_at x))) front
  Front-same (Some place) front same outcome = (
    (let p = front.0 in omega arith),
    λ e. step-after left right place i x front.0 inside long (atom_at same x) (ap (λ (z : Literal). z.outcome) (right_at x) ∙ sym outcome ∙ ap (λ (z : Literal). z.outcome) (sym (left_at x))) e (front.1 e),
  )

-- A literal to read in place of one past a list's end.
pub some_literal : Literal
some_literal = record { test = 0; args = []; outcome = false }
