-- Partials of rounds, and their rows.
use Rattle.std.proofs.Common.{◌≡◌, ◌∙◌, refl, sym, ap, ℕ, zero, suc, ◌+◌, add-one, List, [], ◌∷◌, ◌++◌, map, take, slice_get, append_assoc, append-nil}
use Rattle.std.proofs.lemmas.List.{map-append}
use Rattle.sym_report.specs.Appending.{listed}
use Rattle.sym_base.specs.Trees.{ScriptTree}
use Rattle.sym_base.specs.declared.values.record.Record.{Record}
use Rattle.sym_check.specs.Plan.ScriptPlans.{ScriptPlan}
use Rattle.sym_watched.specs.Partials.{partial_after, partials_after, partials_of}
use Rattle.sym_files.specs.FileRounds.{rounds_records}
use Rattle.sym_files.proofs.RoundLists.{Rounds, records_more}

partials_later : (tree : ScriptTree) (p : ScriptPlan) (before : List Record) (rs : Rounds) (r : List Record)
    → partials_after tree p before (rs ++ r ∷ []) ≡ partials_after tree p before rs ++ partial_after tree p ((before ++ rounds_records rs) ++ r) ∷ []
partials_later tree p before [] r =
    ap (λ x. partial_after tree p (x ++ r) ∷ []) (sym (append-nil before))
partials_later tree p before (q ∷ rs) r =
    ap (λ x. partial_after tree p (before ++ q) ∷ x) (partials_later tree p (before ++ q) rs r)
    ∙ ap (λ x. partial_after tree p (before ++ q) ∷ (partials_after tree p (before ++ q) rs ++ partial_after tree p (x ++ r) ∷ []))
    (append_assoc before q (rounds_records rs))

-- One round more.
pub partials_more : (tree : ScriptTree) (p : ScriptPlan) (rs : Rounds) (r : List Record)
    → partials_of tree p (rs ++ r ∷ []) ≡ partials_of tree p rs ++ partial_after tree p (rounds_records (rs ++ r ∷ [])) ∷ []
partials_more tree p rs r =
    partials_later tree p [] rs r
    ∙ ap (λ x. partials_of tree p rs ++ partial_after tree p x ∷ []) (sym (records_more rs r))

-- ---- rows
taken : {A : Type 0} (xs : List A) (i : ℕ) → take (i + 1) xs ≡ take i xs ++ listed (slice_get xs i)
taken [] zero = refl
taken [] (suc i) = rw add-one refl
taken (x ∷ xs) zero = refl
taken (x ∷ xs) (suc i) = rw add-one (ap (λ ys. x ∷ ys) (rw add-one at (taken xs i)))

-- The rows of one group more.
pub rows_more : {A B : Type 0} (row : A → B) (groups : List A) (i : ℕ) (old new : List B) → old ≡ map row (take i groups) → new ≡ old ++ map row (listed (slice_get groups i))
    → new ≡ map row (take (i + 1) groups)
rows_more row groups i old new before here =
    here
    ∙ ap (λ rows. rows ++ map row (listed (slice_get groups i))) before
    ∙ sym (ap (map row) (taken groups i) ∙ map-append row (take i groups) (listed (slice_get groups i)))
