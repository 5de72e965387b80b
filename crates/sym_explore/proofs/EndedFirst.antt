-- Paths of which those that have ended are put first.
use Rattle.std.proofs.Common.{◌≡◌, ◌≤◌, ◌<◌, ◌+◌, ℕ, List, [], ◌∷◌, ◌++◌, length, get_or, set, take, drop, sym, ap, ◌∙◌, subst, arith}
use Rattle.std.proofs.lemmas.List.{length-take-le, take-append-drop}
use Rattle.std.proofs.lemmas.List.Elements.{All-nil, All-push}
use Rattle.std.proofs.lemmas.List.Sorted.{All-permutation, IsPermutation-append_comm, IsPermutation-refl, IsPermutation-trans}
use Rattle.std.specs.List.{All}
use Rattle.std.specs.List.Sorted.{IsPermutation}
use Rattle.sym_path.specs.declared.path.Path.{Path}
use Rattle.sym_path.specs.Changing.{GoesOn}
use Rattle.sym_explore.specs.Ending.{AreMoved}
use Rattle.sym_explore.specs.Parting.{AllGoOn}
use Rattle.sym_explore.proofs.InOrder.{AreInParts, count_within, first_is, second_is, set_same, to_first, to_second, turned, turned_same}

-- Of the paths before the index, those that have ended come first, and then those that go on.
pub record AreEndedTo (old : List Path) (index count : ℕ) (paths : List Path) : Type 0 where
  pub over : List Path
  pub going : List Path
  pub parts : AreInParts old index count paths over going
  pub same : IsPermutation old paths
  pub all_over : All (λ (path : Path). ¬ (GoesOn path.end)) over
  pub all_going : AllGoOn going

-- Those that are first already.
pub some_ended : (old : List Path) (count : ℕ) → count ≤ length old → All (λ (path : Path). ¬ (GoesOn path.end)) (take count old) → AreEndedTo old count count old
some_ended old count within ended = record {
  over = take count old;
  going = [];
  parts = record {
    is = sym (take-append-drop count old);
    counted = length-take-le count old within;
    both = omega (arith, length-take-le count old within);
    within = within;
  };
  same = IsPermutation-refl old;
  all_over = ended;
  all_going = All-nil (λ (path : Path). GoesOn path.end);
}

module _ (old : List Path) (index count : ℕ) (paths : List Path) (h : AreEndedTo old index count paths) (path : Path) (below : index < length paths) (here : path ≡ get_or paths index path) where
  pub going_more : GoesOn path.end → AreEndedTo old (index + 1) count paths
  going_more goes = record {
    over = h.over;
    going = h.going ++ path ∷ [];
    parts = to_second old index count paths h.over h.going h.parts path path paths below here (set_same paths index path here);
    same = h.same;
    all_over = h.all_over;
    all_going = All-push (λ (path : Path). GoesOn path.end) h.going path h.all_going goes;
  }

  pub ended_more : ¬ (GoesOn path.end) → (final : List Path) → final ≡ set (set paths count (get_or paths index path)) index (get_or paths count path) → IsPermutation paths final → AreEndedTo old (index + 1) (count + 1) final
  ended_more ends final exchanged moved = record {
    over = h.over ++ path ∷ [];
    going = turned h.going;
    parts = to_first old index count paths h.over h.going h.parts path path paths below here (set_same paths index path here) final exchanged;
    same = IsPermutation-trans old paths final h.same moved;
    all_over = All-push (λ (path : Path). ¬ (GoesOn path.end)) h.over path h.all_over ends;
    all_going = All-permutation (λ (path : Path). GoesOn path.end) h.going (turned h.going) (turned_same h.going) h.all_going;
  }

module _ (old : List Path) (index count : ℕ) (paths : List Path) (h : AreEndedTo old index count paths) (end : length paths ≤ index) where
  pub ended_within : count ≤ length paths
  ended_within = count_within old index count paths h.over h.going h.parts end

  pub first_over : All (λ (path : Path). ¬ (GoesOn path.end)) (take count paths)
  first_over = subst (All (λ (path : Path). ¬ (GoesOn path.end))) (first_is old index count paths h.over h.going h.parts end) h.all_over

  pub others_go : AllGoOn (drop count paths)
  others_go = subst AllGoOn (second_is old index count paths h.over h.going h.parts end) h.all_going

-- Those that go on are taken out.
pub going_taken : (old paths : List Path) (count : ℕ) → IsPermutation old paths → All (λ (path : Path). ¬ (GoesOn path.end)) (take count paths) → (none going ended : List Path) → none ≡ [] → going ≡ none ++ drop count paths → ended ≡ take count paths → AreMoved old going [] ended
going_taken old paths count same over none going ended empty going_is ended_is =
    let whole : IsPermutation old (take count paths ++ drop count paths) = subst (IsPermutation old) (sym (take-append-drop count paths)) same in
    let turns : IsPermutation old (drop count paths ++ take count paths) = IsPermutation-trans old (take count paths ++ drop count paths) (drop count paths ++ take count paths) whole (IsPermutation-append_comm (take count paths) (drop count paths)) in
    let going_all : going ≡ drop count paths = going_is ∙ ap (λ (xs : List Path). xs ++ drop count paths) empty in
    record {
      moved = take count paths;
      is = ended_is;
      same = subst (λ (xs : List Path). IsPermutation old (xs ++ take count paths)) (sym going_all) turns;
      over = over;
    }
