-- The partial at the last border is the report on all records.
use Rattle.std.proofs.Common.{◌≡◌, ◌∙◌, sym, ap, subst, ℕ, suc, ◌-◌, ◌≤◌, arith, List, [], ◌∷◌, ◌++◌, length, map, take, slice_get, append_assoc, append-nil, Some, Result, Ok}
use Rattle.std.proofs.lemmas.List.{take_all}
use Rattle.sym_base.specs.Trees.{ScriptTree}
use Rattle.sym_base.specs.declared.values.record.Record.{Record}
use Rattle.sym_base.specs.declared.values.value.Key.{Key}
use Rattle.sym_base.specs.declared.values.state.Outcome.{Outcome}
use Rattle.sym_check.specs.Meaning.Groups.{pass}
use Rattle.sym_check.specs.Plan.ScriptPlans.{ScriptPlan}
use Rattle.sym_files.specs.declared.error.PassErr.{PassErr}
use Rattle.sym_files.specs.FileRounds.{DoneFiles, rounds_records}
use Rattle.sym_files.specs.FirstProblems.{AllFine}
use Rattle.sym_files.specs.Passing.{MayAll}
use Rattle.sym_files.proofs.FilesAgree.{files_records}
use Rattle.sym_files.proofs.RoundLists.{Rounds}
use Rattle.sym_files.proofs.RoundsOnce.{first_told, rounds_fine}
use Rattle.sym_passes.specs.Passed.{PassedAll}
use Rattle.sym_plain.specs.Shown.{last}
use Rattle.sym_report.specs.ReportRows.{row_of}
use Rattle.sym_watch.specs.declared.partial.Partial.{Partial}
use Rattle.sym_watched.specs.Partials.{WatchedFiles, partial_after, partials_after, partials_of}

last_more : {A : Type 0} (x y : A) (ys : List A) → last (x ∷ y ∷ ys) ≡ last (y ∷ ys)
last_more x y ys =
    let here : length (x ∷ y ∷ ys) - 1 ≡ suc (length (y ∷ ys) - 1) = omega arith in ap (slice_get (x ∷ y ∷ ys)) here

last_after : (tree : ScriptTree) (p : ScriptPlan) (before round : List Record) (rounds : Rounds)
    → last (partials_after tree p before (round ∷ rounds)) ≡ Some (partial_after tree p (before ++ rounds_records (round ∷ rounds)))
last_after tree p before round [] = ap (λ (rs : List Record). Some (partial_after tree p (before ++ rs))) (sym (append-nil round))
last_after tree p before round (next ∷ rounds) =
    last_more (partial_after tree p (before ++ round)) (partial_after tree p ((before ++ round) ++ next)) (partials_after tree p ((before ++ round) ++ next) rounds)
    ∙ last_after tree p (before ++ round) next rounds
    ∙ ap (λ (rs : List Record). Some (partial_after tree p rs)) (append_assoc before round (rounds_records (next ∷ rounds)))

pub last_partial : (tree : ScriptTree) (p : ScriptPlan) (rounds : Rounds) → 1 ≤ length rounds → last (partials_of tree p rounds) ≡ Some (partial_after tree p (rounds_records rounds))
last_partial tree p [] some = absurd (omega (arith, some))
last_partial tree p (round ∷ rounds) some = last_after tree p [] round rounds

-- ---- the groups of the same files
same_records : (w : WatchedFiles) (files : List (List ℕ)) (rounds : Rounds) (groups : List (Key × Outcome)) → w.first ≡ 1 → map w.holds w.names ≡ map Some files
    → DoneFiles w (length w.names) rounds → PassedAll w.plan w.rules w.holds w.names groups → groups ≡ pass w.plan (rounds_records rounds)
same_records w files rounds groups first see done passed =
    let k = length w.names in
    let own : done.files ≡ take k files = first_told w.holds k w.names files done.files see done.may in
    let M : List (List ℕ) → Type 0 = λ ns. MayAll w.holds ns passed.files in
    let whole : take k w.names ≡ w.names = take_all k w.names (omega arith) in
    let other : passed.files ≡ take k files = first_told w.holds k w.names files passed.files see (subst M (sym whole) passed.may) in
    let F : List (List ℕ) → Type 0 = λ fs. AllFine w.plan w.rules 1 fs passed.records in
    let G : List (List ℕ) → Type 0 = λ fs. AllFine w.plan w.rules w.first fs (rounds_records rounds) in
    let N : ℕ → Type 0 = λ n. AllFine w.plan w.rules n (take k files) (rounds_records rounds) in
    let a = (files_records w.plan w.rules 0 1 (take k files) passed.records).0 (subst F other passed.fine) in
    let b = (files_records w.plan w.rules 0 1 (take k files) (rounds_records rounds)).0 (subst N first (subst G own (rounds_fine w.plan w.rules w.per w.first done.files rounds done.are))) in
    let both : ◌≡◌ {A = Result (List Record) PassErr} (Ok passed.records) (Ok (rounds_records rounds)) = sym a ∙ b in
    let same : passed.records ≡ rounds_records rounds = cc in
    passed.stands ∙ ap (pass w.plan) same

pub last_report : (tree : ScriptTree) (w : WatchedFiles) (files : List (List ℕ)) (rounds : Rounds) (groups : List (Key × Outcome)) → w.first ≡ 1 → map w.holds w.names ≡ map Some files
    → DoneFiles w (length w.names) rounds → 1 ≤ length rounds → PassedAll w.plan w.rules w.holds w.names groups
    → last (partials_of tree w.plan rounds) ≡ Some (record { upto = length (rounds_records rounds); rows = map (row_of tree w.plan) groups })
last_report tree w files rounds groups first see done some passed =
    let at : List (Key × Outcome) → Partial = λ gs. record { upto = length (rounds_records rounds); rows = map (row_of tree w.plan) gs } in
    last_partial tree w.plan rounds some
    ∙ ap (λ (gs : List (Key × Outcome)). Some (at gs)) (sym (same_records w files rounds groups first see done passed))
