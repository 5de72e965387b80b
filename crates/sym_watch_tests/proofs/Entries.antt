-- The step that appends a partial keeps the rule of the book.
use Rattle.std.proofs.Common.{◌≡◌, ℕ, ◌+◌, ◌<◌, ◌==◌, Bool, true, false, List, [], ◌∷◌, ◌++◌, length, refl, ap, sym, subst, arith, inl, length-append, None}
use Rattle.std.proofs.lemmas.List.{append-nil}
use Rattle.std.proofs.lemmas.Bool.Decides.{nat_tests}
use mathlib.Core.List.{IsPrefix}
use prog.Atomic.{either}
use Rattle.logbook.specs.Pages.{Cell, cell, keeps, no_nib, step, Moves, Goes}
use Rattle.sym_watch.specs.declared.partial.Partial.{Partial}
use Rattle.sym_watch.proofs.Prefixes.{prefix_whole}
use Rattle.sym_watch_tests.specs.Books.{IsCounted, Appends}

abbrev shows : List Partial → List Partial
shows log = []

abbrev moves : List Partial → List Partial → ℕ → Type 0
moves xs ys n = Unit {0}

-- What the exchange of the count for the next one does at a log, by whether the count was found.
goes : (log seen : List Partial) (p : Partial) (count next : ℕ) → length seen ≡ count
    → next ≡ count + 1 → IsPrefix seen log
    → (found : Bool) → (length log == count) ≡ found
    → Goes IsCounted shows moves 0 (seen, (no_nib, None)) (λ n. either (n == count) next n)
    (Appends (step 0 count next p) (seen, (no_nib, None)))
    ((length log, true) ∷ (0, true) ∷ []) log
goes log seen p count next long after prefix true is =
    let here : length log ≡ count = grind (arith, nat_tests) in
    let same : seen ≡ log = prefix_whole seen log prefix (omega arith) in
    let n : either (length log == count) next (length log) ≡ length (log ++ p ∷ []) =
    rw is (omega (arith, length-append log (p ∷ []))) in (
      keeps,
      p ∷ [],
      None,
      tt,
      record { words = ap (λ (k : ℕ). (k, true) ∷ (0, true) ∷ []) n },
      inl (refl, refl),
      rw is (ap (λ w. w ++ p ∷ []) (sym same)),
    )
goes log seen p count next long after prefix false is =
    let all : log ++ [] ≡ log = append-nil log in
    let n : either (length log == count) next (length log) ≡ length (log ++ []) =
    rw is (ap length (sym all)) in (
      keeps,
      [],
      None,
      tt,
      record { words = ap (λ (k : ℕ). (k, true) ∷ (0, true) ∷ []) n },
      inl (refl, refl),
      rw is tt,
    )

-- Whatever the book is, the exchange appends the partial to all that was seen, or changes nothing.
pub appends_moves : (seen : List Partial) (p : Partial) (count next : ℕ) → length seen ≡ count
    → next ≡ count + 1
    → Moves IsCounted shows moves 0 (seen, (no_nib, None)) (λ n. either (n == count) next n)
    (Appends (step 0 count next p) (seen, (no_nib, None)))
appends_moves seen p count next long after cells log kept prefix away =
    let Fits : List Cell → Type 0 = λ cs. (0 < length cs) × ((cell cs 0).1 ≡ true)
    × Goes IsCounted shows moves 0 (seen, (no_nib, None)) (λ n. either (n == count) next n)
    (Appends (step 0 count next p) (seen, (no_nib, None))) cs log in
    subst Fits (sym kept.words)
    (omega arith, refl, goes log seen p count next long after prefix (length log == count) refl)
