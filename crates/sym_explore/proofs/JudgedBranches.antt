-- What branches make of a state, where nothing changes or one of them is pushed.
use Rattle.std.proofs.Common.{◌≡◌, ℕ, ◌+◌, ◌≤◌, Bool, true, false, not, List, [], ◌∷◌, ◌++◌, Option, Some, Result, Ok, map, refl, sym, ap, ◌∙◌, append_assoc, arith}
use Rattle.std.proofs.lemmas.List.Elements.{All-push}
use Rattle.std.specs.Prelude.{if◌then◌else◌}
use Rattle.sym_base.specs.declared.values.state.State.{State}
use Rattle.sym_base.specs.declared.values.state.Outcome.{Outcome}
use Rattle.sym_base.specs.Tests.{Truth}
use Rattle.sym_check.specs.declared.evaluate.arithmetic.Arith.{Arith}
use Rattle.sym_check.specs.Plan.ScriptPlans.{ScriptPlan}
use Rattle.sym_int.specs.Cuts.{count_truth}
use Rattle.sym_path.specs.declared.form.Form.{Form}
use Rattle.sym_path.specs.declared.path.PathEnd.{PathEnd}
use Rattle.sym_path.specs.declared.path.PathEnd.TheVariants.{Next, Ended}
use Rattle.sym_path.specs.declared.path.Path.{Path}
use Rattle.sym_path.specs.Admitting.{admits}
use Rattle.sym_path.specs.Changing.{GoesOn}
use Rattle.sym_path.specs.Fitting.{PathFits}
use Rattle.sym_path.specs.Giving.{end_at, given, state_at}
use Rattle.sym_explore.specs.declared.branch.Branch.{Branch}
use Rattle.sym_explore.specs.Branches.{with_truth, judged, with_answer, answered, IsGoing, BranchesGo, branches_with, AreFewBranches}

abbrev pub Judged : Type 0
Judged = List (Outcome × Option Bool)

abbrev pub branch_of : Path → Bool → Branch
branch_of path x = record { path = path; truth = x }

pub judged-append : (tests : Truth) (xs ys : List Branch) (s : State) → judged tests (xs ++ ys) s ≡ judged tests xs s ++ judged tests ys s
judged-append tests [] ys s = refl
judged-append tests (b ∷ xs) ys s =
    let first : Judged = with_truth (Some b.truth) (given tests b.path s) in
    ap (λ (rest : Judged). first ++ rest) (judged-append tests xs ys s) ∙ sym (append_assoc first (judged tests xs s) (judged tests ys s))

-- ---- a truth that is known wherever the path admits a state

known_if : (b : Bool) (o : Outcome) (x y : Bool) → (b ≡ true → x ≡ y) → with_truth (Some x) (if b then o ∷ [] else []) ≡ with_truth (Some y) (if b then o ∷ [] else [])
known_if true o x y h = ap (λ (z : Bool). with_truth (Some z) (o ∷ [])) (h refl)
known_if false o x y h = refl

pub known_truth : (tests : Truth) (path : Path) (s : State) (x y : Bool) → (admits tests path.when s.cells ≡ true → x ≡ y) → with_truth (Some x) (given tests path s) ≡ with_truth (Some y) (given tests path s)
known_truth tests path s x y h = known_if (admits tests path.when s.cells) (end_at path.end s) x y h

-- ---- a path that becomes two, on the first of which the truth holds

split_if : (b x : Bool) (o : Outcome) (first last : Bool) → (b ≡ true → first ≡ x) → (b ≡ true → last ≡ not x) → (with_truth (Some true) (if first then (if b then o ∷ [] else []) else []) ++ []) ++ with_truth (Some false) (if last then (if b then o ∷ [] else []) else []) ≡ with_truth (Some x) (if b then o ∷ [] else [])
split_if false x o true true h g = refl
split_if false x o true false h g = refl
split_if false x o false true h g = refl
split_if false x o false false h g = refl
split_if true true o true true h g = let e : true ≡ false = g refl in absurd (cc)
split_if true true o true false h g = refl
split_if true true o false last h g = let e : false ≡ true = h refl in absurd (cc)
split_if true false o true last h g = let e : true ≡ false = h refl in absurd (cc)
split_if true false o false true h g = refl
split_if true false o false false h g = let e : false ≡ true = g refl in absurd (cc)

pub split_truth : (tests : Truth) (before : List Branch) (old copy path : Path) (s : State) (x first last : Bool) → given tests copy s ≡ (if first then given tests old s else []) → given tests path s ≡ (if last then given tests old s else []) → (admits tests old.when s.cells ≡ true → first ≡ x) → (admits tests old.when s.cells ≡ true → last ≡ not x) → judged tests (before ++ branch_of copy true ∷ []) s ++ with_truth (Some false) (given tests path s) ≡ judged tests before s ++ with_truth (Some x) (given tests old s)
split_truth tests before old copy path s x first last h g p q =
    let pushed : Judged = with_truth (Some true) (given tests copy s) ++ [] in
    let rest : Judged = with_truth (Some false) (given tests path s) in
    let both : pushed ++ rest ≡ with_truth (Some x) (given tests old s) =
    (λ i. (with_truth (Some true) (h i) ++ []) ++ with_truth (Some false) (g i))
    ∙ split_if (admits tests old.when s.cells) x (end_at old.end s) first last p q in
    ap (λ (js : Judged). js ++ rest) (judged-append tests before (branch_of copy true ∷ []) s)
    ∙ append_assoc (judged tests before s) pushed rest
    ∙ ap (λ (js : Judged). judged tests before s ++ js) both

-- ---- what a condition makes of a path whose truth is known

going_if : (b x : Bool) (end : PathEnd) (s : State) (n : ℕ) (meaning : State → Result Bool Arith) → GoesOn end → (b ≡ true → (forms : List Form) → end ≡ Next forms → meaning (state_at forms s) ≡ Ok x) → with_truth (Some x) (if b then end_at end s ∷ [] else []) ≡ map (answered n meaning) (if b then end_at end s ∷ [] else [])
going_if true x (Next forms) s n meaning h g = ap (λ (r : Result Bool Arith). with_answer n (state_at forms s) r ∷ []) (sym (g refl forms refl))
going_if false x (Next forms) s n meaning h g = refl
going_if b x (Ended fault) s n meaning h g = absurd h

-- The truth of a condition at each state that the path gives.
pub going_answers : (tests : Truth) (path : Path) (s : State) (n : ℕ) (meaning : State → Result Bool Arith) (x : Bool) → GoesOn path.end → (admits tests path.when s.cells ≡ true → (forms : List Form) → path.end ≡ Next forms → meaning (state_at forms s) ≡ Ok x) → with_truth (Some x) (given tests path s) ≡ map (answered n meaning) (given tests path s)
going_answers tests path s n meaning x h g = going_if (admits tests path.when s.cells) x path.end s n meaning h g

-- ---- one branch more

pub branches_with-push : (x : Bool) (branches : List Branch) (b : Branch) → branches_with x (branches ++ b ∷ []) ≡ branches_with x branches + count_truth x b.truth
branches_with-push x [] b = omega arith
branches_with-push x (a ∷ branches) b = let h = branches_with-push x branches b in omega (arith, h)

pub few_split : (branches : List Branch) (copy : Path) → AreFewBranches (λ x. 1) branches (branches ++ branch_of copy true ∷ []) false
few_split branches copy = record { each = λ x. each x (branches_with-push x branches (branch_of copy true)) }
  where
    each : (x : Bool) → branches_with x (branches ++ branch_of copy true ∷ []) ≡ branches_with x branches + count_truth x true → branches_with x (branches ++ branch_of copy true ∷ []) + count_truth x false ≤ branches_with x branches + 1
    each true h = omega (arith, h)
    each false h = omega (arith, h)

-- One path with a truth.
pub few_one : (branches : List Branch) (truth : Bool) → AreFewBranches (λ x. 1) branches branches truth
few_one branches truth = record { each = λ x. let h = count_most x truth in omega (arith, h) }
  where
    count_most : (x t : Bool) → count_truth x t ≤ 1
    count_most true true = omega arith
    count_most true false = omega arith
    count_most false true = omega arith
    count_most false false = omega arith

pub fewer_branches : (some most : Bool → ℕ) (before after : List Branch) (last : Bool) → ((x : Bool) → some x ≤ most x) → AreFewBranches some before after last → AreFewBranches most before after last
fewer_branches some most before after last less h = record { each = λ x. omega (arith, h.each x, less x) }

pub pushed_go : (p : ScriptPlan) (branches : List Branch) (copy : Path) (x : Bool) → BranchesGo p branches → PathFits p copy → GoesOn copy.end → BranchesGo p (branches ++ branch_of copy x ∷ [])
pushed_go p branches copy x h fits goes = All-push (λ (b : Branch). IsGoing p b.path) branches (branch_of copy x) h (record { fits = fits; goes_on = goes })
