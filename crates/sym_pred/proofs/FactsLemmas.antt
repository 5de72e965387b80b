-- The order of atoms is total and tells all atoms apart; what the map of facts is over literals in order.
use Rattle.std.proofs.Common.{◌≡◌, ℕ, zero, suc, cond, ◌+◌, ◌<◌, ◌≤◌, Bool, List, [], ◌∷◌, length, get_or, map, refl, sym, ap, subst, ◌∙◌, arith, Option, None, Ok, Err, Result}
use Rattle.std.specs.Prelude.{T}
use Rattle.std.specs.declared.cmp.Ordering.TheVariants.{Less, Equal, Greater}
use Rattle.std.specs.Ordering.{nat_cmp, ordering_then, ordering_index, on, is_lt, eq_by_cmp}
use Rattle.std.specs.Cmp.{IsTotalOrder, total, then_po, then_agrees, on_total, partial_order_from_total, nat_cmp_total}
use Rattle.std.specs.FinMap.{IsAntisymmetric, nat_cmp-IsAntisymmetric, empty, from_sorted, entries-from_sorted, len, len-entries, get, get-from_sorted, find, put, is_sorted, same_map, same_entries_map, get-empty, entries-insert, get-remove}
use Rattle.std.specs.FinMap as finite
use Rattle.std.specs.FinMap.Entries.{is_sorted-put}
use Rattle.std.specs.List.{insert, remove}
use Rattle.std.specs.List.Sorted.{IsSortedBy, IsNonDecreasingBy, IsBinarySearchResult, IsSearchInRange}
use Rattle.std.proofs.lemmas.List.Sorted.{searchable_from_sorted}
use Rattle.std.proofs.lemmas.List.{get_or_default, length-map}
use Rattle.std.proofs.Math.ListN.{get_or-map}
use Rattle.sym_base.specs.Order.{values_cmp}
use Rattle.sym_base.proofs.ValueLemmas.{values_cmp-total, values_cmp-IsAntisymmetric}
use Rattle.sym_pred.specs.declared.literal.Literal.{Literal}
use Rattle.sym_pred.specs.Facts.{Atom, atom_cmp, FactMap}
use Rattle.sym_pred.specs.Literals.{atom_of, entry_of, literal_of, literals}
use Rattle.sym_pred.specs.Places.{IsInOrder, IsPlace}
use Rattle.sym_pred.proofs.EntriesLemmas.{flipped, sorted_from_adjacent, sorted-at, find-at, find-between, put-between, sorted-remove, find-remove}

pub atom_cmp-total : IsTotalOrder atom_cmp
atom_cmp-total =
    let by_test : IsTotalOrder (on (λ (a : Atom). a.0) nat_cmp) = on_total (λ (a : Atom). a.0) nat_cmp_total in
    let by_args : IsTotalOrder (on (λ (a : Atom). a.1) values_cmp) = on_total (λ (a : Atom). a.1) values_cmp-total in
    total (then_po (partial_order_from_total by_test) (partial_order_from_total by_args)) (then_agrees (λ x y. refl) (λ x y. refl))

pub atom_cmp-IsAntisymmetric : IsAntisymmetric atom_cmp
atom_cmp-IsAntisymmetric a b is =
    elim (nat_cmp a.0 b.0) as (λ r. nat_cmp a.0 b.0 ≡ r → ordering_then r (values_cmp a.1 b.1) ≡ Equal → a ≡ b) [
      | Less ↦ λ p e. cc
      | Equal ↦ λ p e. λ i. (nat_cmp-IsAntisymmetric a.0 b.0 p i, values_cmp-IsAntisymmetric a.1 b.1 e i)
      | Greater ↦ λ p e. cc
    ] refl is

-- ---- literals and entries

pub literal_of-entries : (xs : List Literal) → map literal_of (map entry_of xs) ≡ xs
literal_of-entries [] = refl
literal_of-entries (x ∷ xs) = ap (λ rest. x ∷ rest) (literal_of-entries xs)

pub literals-from_sorted : (xs : List Literal) → IsInOrder xs → literals (from_sorted {R = atom_cmp} (map entry_of xs)) ≡ xs
literals-from_sorted xs h = ap (λ es. map literal_of es) (entries-from_sorted atom_cmp (map entry_of xs) h) ∙ literal_of-entries xs

pub len-from_sorted : (xs : List Literal) → IsInOrder xs → len (from_sorted {R = atom_cmp} (map entry_of xs)) ≡ length xs
len-from_sorted xs h = len-entries _ ∙ ap length (entries-from_sorted atom_cmp (map entry_of xs) h) ∙ length-map xs entry_of

pub from_sorted-nil : from_sorted {X = Bool} {R = atom_cmp} [] ≡ empty
from_sorted-nil = same_map atom_cmp-total atom_cmp-IsAntisymmetric _ _ (λ q. get-from_sorted atom_cmp [] q tt ∙ sym (get-empty atom_cmp q))

-- ---- what a search finds

pub get_or-entries : (xs : List Literal) (i : ℕ) (d : Atom × Bool) → get_or (map entry_of xs) i d ≡ entry_of (get_or xs i (literal_of d))
get_or-entries xs i d = get_or-map entry_of xs i (literal_of d)

pub literals-searchable : (xs : List Literal) (atom : Atom) → IsInOrder xs → IsNonDecreasingBy (λ x. ordering_index (atom_cmp (atom_of x) atom)) xs
literals-searchable xs atom h =
    let rising : IsSortedBy (λ x y. is_lt (atom_cmp (atom_of x) (atom_of y))) xs =
    λ k d low high.
    let up = sorted-at atom_cmp-total (map entry_of xs) k (k + 1) (entry_of d) h (omega arith) (rw (length-map xs entry_of) high) in
    ap is_lt (flipped atom_cmp-total (atom_of (get_or xs k d)) (atom_of (get_or xs (k + 1) d)) (rw (get_or-entries xs k (entry_of d), get_or-entries xs (k + 1) (entry_of d)) at up)) in
    searchable_from_sorted atom_cmp-total atom_of xs atom rising

pub searched : (xs : List Literal) (atom : Atom) → IsInOrder xs → (r : Result ℕ ℕ) → IsSearchInRange r (length xs) → IsBinarySearchResult (λ x. atom_cmp (atom_of x) atom) xs r → IsPlace xs atom r
searched xs atom h (Ok i) range tied = (
  range,
  λ d. atom_cmp-IsAntisymmetric _ _ (tied d),
  λ d. rw (get_or-entries xs i (entry_of d)) at (find-at atom_cmp-total (map entry_of xs) i (entry_of d) atom h (rw (length-map xs entry_of) range) (rw (get_or-entries xs i (entry_of d)) (tied d))),
)
searched xs atom h (Err i) range parted =
    let parts = parted (literals-searchable xs atom h) in
    let below : (k : ℕ) (d : Atom × Bool) → k < i → atom_cmp (get_or (map entry_of xs) k d).0 atom ≡ Less = λ k d p. rw (get_or-entries xs k d) (parts.0 k (literal_of d) (omega arith) p) in
    let above : (k : ℕ) (d : Atom × Bool) → i ≤ k → k < length (map entry_of xs) → atom_cmp (get_or (map entry_of xs) k d).0 atom ≡ Greater = λ k d p q. rw (get_or-entries xs k d) (parts.1 k (literal_of d) p (rw (length-map xs entry_of) at q)) in (
      range,
      find-between atom_cmp-total (map entry_of xs) i atom below above,
      λ outcome. put-between atom_cmp-total (map entry_of xs) i atom outcome (rw (length-map xs entry_of) range) below above,
    )

-- ---- literals in order

pub in_order_from_adjacent : (xs : List Literal) → ((k : ℕ) (d : Literal) → k + 1 < length xs → atom_cmp (atom_of (get_or xs k d)) (atom_of (get_or xs (k + 1) d)) ≡ Less) → IsInOrder xs
in_order_from_adjacent xs rises =
    sorted_from_adjacent atom_cmp-total (map entry_of xs) (λ k d p.
    let next : k + 1 ≡ suc k = omega arith in
    let inside : suc k < length xs = rw (length-map xs entry_of) at p in
    let less = rises k (literal_of d) (omega arith) in
    rw (get_or-entries xs k d, get_or-entries xs (suc k) d)
    (subst (λ (j : ℕ). atom_cmp (atom_of (get_or xs k (literal_of d))) (atom_of (get_or xs j (literal_of d))) ≡ Less) next less))

-- Of two literals in order the atom of the earlier one is less.
pub rising_at : (xs : List Literal) (i j : ℕ) (x y : Literal) → IsInOrder xs → i < j → j < length xs → x ≡ get_or xs i x → y ≡ get_or xs j y → atom_cmp (atom_of x) (atom_of y) ≡ Less
rising_at xs i j x y h p q one other =
    let up = sorted-at atom_cmp-total (map entry_of xs) i j (entry_of x) h p (rw (length-map xs entry_of) q) in
    let less = rw (get_or-entries xs i (entry_of x), get_or-entries xs j (entry_of x)) at up in
    (λ k. atom_cmp (atom_of (one k)) (atom_of ((other ∙ sym (get_or_default xs j x y q)) k))) ∙ less

-- ---- edits at a place

map-insert : {A B : Type 0} (f : A → B) (xs : List A) (i : ℕ) (x : A) → map f (insert xs i x) ≡ insert (map f xs) i (f x)
map-insert f [] zero x = refl
map-insert f [] (suc i) x = refl
map-insert f (y ∷ xs) zero x = refl
map-insert f (y ∷ xs) (suc i) x = ap (λ rest. f y ∷ rest) (map-insert f xs i x)

map-remove : {A B : Type 0} (f : A → B) (xs : List A) (i : ℕ) → map f (remove xs i) ≡ remove (map f xs) i
map-remove f [] zero = refl
map-remove f [] (suc i) = refl
map-remove f (y ∷ xs) zero = refl
map-remove f (y ∷ xs) (suc i) = ap (λ rest. f y ∷ rest) (map-remove f xs i)

pub entries-longer : (xs : List Literal) (l : Literal) (i : ℕ) → IsPlace xs (atom_of l) (Err i) → map entry_of (insert xs i l) ≡ put atom_cmp (atom_of l) l.outcome (map entry_of xs)
entries-longer xs l i place = map-insert entry_of xs i l ∙ sym (place.2 l.outcome)

pub in_order-longer : (xs : List Literal) (l : Literal) (i : ℕ) → IsInOrder xs → IsPlace xs (atom_of l) (Err i) → IsInOrder (insert xs i l)
in_order-longer xs l i h place = subst (λ es. T (is_sorted atom_cmp es)) (sym (entries-longer xs l i place)) (is_sorted-put atom_cmp atom_cmp-total (atom_of l) l.outcome (map entry_of xs) h)

pub facts-longer : (xs : List Literal) (l : Literal) (i : ℕ) → IsInOrder xs → IsPlace xs (atom_of l) (Err i) → from_sorted {R = atom_cmp} (map entry_of (insert xs i l)) ≡ finite.insert (from_sorted {R = atom_cmp} (map entry_of xs)) (atom_of l) l.outcome
facts-longer xs l i h place =
    same_entries_map _ _
    (entries-from_sorted atom_cmp _ (in_order-longer xs l i h place)
    ∙ entries-longer xs l i place
    ∙ ap (λ es. put atom_cmp (atom_of l) l.outcome es) (sym (entries-from_sorted atom_cmp _ h))
    ∙ sym (entries-insert atom_cmp-total (from_sorted (map entry_of xs)) (atom_of l) l.outcome))

pub in_order-without : (xs : List Literal) (i : ℕ) → IsInOrder xs → IsInOrder (remove xs i)
in_order-without xs i h = subst (λ es. T (is_sorted atom_cmp es)) (sym (map-remove entry_of xs i)) (sorted-remove atom_cmp-total (map entry_of xs) i h)

pub facts-without : (xs : List Literal) (i : ℕ) (d : Literal) → IsInOrder xs → i < length xs → from_sorted {R = atom_cmp} (map entry_of (remove xs i)) ≡ finite.remove (from_sorted {R = atom_cmp} (map entry_of xs)) (atom_of (get_or xs i d))
facts-without xs i d h p =
    same_map atom_cmp-total atom_cmp-IsAntisymmetric _ _ (λ q.
    get-from_sorted atom_cmp _ q (in_order-without xs i h)
    ∙ ap (λ es. find atom_cmp q es) (map-remove entry_of xs i)
    ∙ find-remove atom_cmp-total (map entry_of xs) i (entry_of d) q h (rw (length-map xs entry_of) p)
    ∙ ap (λ (e : Atom × Bool). cond (eq_by_cmp atom_cmp q e.0) None (find atom_cmp q (map entry_of xs))) (get_or-entries xs i (entry_of d))
    ∙ sym (get-remove atom_cmp-total (from_sorted (map entry_of xs)) (atom_of (get_or xs i d)) q
    ∙ ap (λ (o : Option Bool). cond (eq_by_cmp atom_cmp q (atom_of (get_or xs i d))) None o) (get-from_sorted atom_cmp (map entry_of xs) q h)))

-- The literals that a contract sees are those that stand in the list.
pub literals_of_view : (facts : FactMap) (xs : List Literal) → IsInOrder xs → from_sorted {R = atom_cmp} (map entry_of xs) ≡ facts → literals facts ≡ xs
literals_of_view facts xs h view = ap (λ (m : FactMap). literals m) (sym view) ∙ literals-from_sorted xs h

pub get_of_view : (facts : FactMap) (xs : List Literal) → IsInOrder xs → from_sorted {R = atom_cmp} (map entry_of xs) ≡ facts → (atom : Atom) → get facts atom ≡ find atom_cmp atom (map entry_of xs)
get_of_view facts xs h view atom = ap (λ (m : FactMap). get m atom) (sym view) ∙ get-from_sorted atom_cmp (map entry_of xs) atom h
