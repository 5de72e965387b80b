-- Paths that a condition parts: what the lists of them give at a state.
use Rattle.std.proofs.Common.{◌≡◌, ◌≤◌, ℕ, Bool, true, false, List, [], ◌∷◌, ◌++◌, Option, Some, None, Ok, Err, map, length, refl, sym, ap, ◌∙◌, subst, append_assoc}
use Rattle.std.proofs.lemmas.List.{append-nil, map-append}
use Rattle.std.proofs.lemmas.List.Elements.{All-append, All-cons, All-head, All-map, All-nil, All-tail, All-weaker}
use Rattle.std.specs.List.{Any}
use Rattle.std.specs.Prelude.{if◌then◌else◌}
use Rattle.sym_base.specs.declared.values.record.Record.{Record}
use Rattle.sym_base.specs.declared.values.state.Fault.{Fault}
use Rattle.sym_base.specs.declared.values.state.FaultKind.TheVariants as kind
use Rattle.sym_base.specs.declared.values.state.State.{State}
use Rattle.sym_base.specs.declared.values.state.Outcome.{Outcome}
use Rattle.sym_base.specs.declared.values.state.Outcome.TheVariants.{Going, Ended}
use Rattle.sym_check.specs.declared.evaluate.arithmetic.Arith.{Arith}
use Rattle.sym_check.specs.Meaning.Conditions.{test_truth}
use Rattle.sym_check.specs.Plan.ScriptPlans.{ScriptPlan}
use Rattle.sym_check.specs.Meaning.Fitting.{FitsFault}
use Rattle.sym_path.specs.Composing.{HaveFaultsAmong}
use Rattle.sym_path.proofs.Changed.{faults_fit, faults_give}
use Rattle.sym_path.specs.Admitting.{admits}
use Rattle.sym_path.specs.Changing.{GoesOn, end_by, ended_by, with_fault}
use Rattle.sym_path.specs.Fitting.{PathFits, SegmentFits}
use Rattle.sym_path.specs.Giving.{end_at, given}
use Rattle.sym_path.specs.Standing.{EndsAmong}
use Rattle.sym_path.specs.declared.path.Path.{Path}
use Rattle.sym_path.specs.declared.path.PathEnd.{PathEnd}
use Rattle.sym_path.specs.declared.path.PathEnd.TheVariants as path
use Rattle.sym_explore.specs.declared.branch.Branch.{Branch}
use Rattle.sym_explore.specs.Branches.{answered, AreGoing, BranchesGo, IsGoing, judged, paths_false, paths_true, with_answer, with_truth}
use Rattle.sym_explore.specs.Faulting.{HasNumber}
use Rattle.sym_explore.specs.Parting.{AllGoOn, AreParts, at_state, those_failed, those_false, those_true}

abbrev pub Judged : Type 0
Judged = List (Outcome × Option Bool)

-- ---- lists, one after the other

pub at_append : (p : ScriptPlan) (xs ys : List Path) (s : State) → at_state p (xs ++ ys) s ≡ at_state p xs s ++ at_state p ys s
at_append p [] ys s = refl
at_append p (x ∷ xs) ys s =
    let first = given (test_truth p.tests) x s in
    ap (λ (os : List Outcome). first ++ os) (at_append p xs ys s) ∙ sym (append_assoc first (at_state p xs s) (at_state p ys s))

pub true_append : (xs ys : Judged) → those_true (xs ++ ys) ≡ those_true xs ++ those_true ys
true_append [] ys = refl
true_append ((o, Some true) ∷ xs) ys = ap (λ (os : List Outcome). o ∷ os) (true_append xs ys)
true_append ((o, Some false) ∷ xs) ys = true_append xs ys
true_append ((o, None) ∷ xs) ys = true_append xs ys

pub false_append : (xs ys : Judged) → those_false (xs ++ ys) ≡ those_false xs ++ those_false ys
false_append [] ys = refl
false_append ((o, Some true) ∷ xs) ys = false_append xs ys
false_append ((o, Some false) ∷ xs) ys = ap (λ (os : List Outcome). o ∷ os) (false_append xs ys)
false_append ((o, None) ∷ xs) ys = false_append xs ys

pub map_alike : {A B : Type 0} (f g : A → B) (xs : List A) → ((x : A) → f x ≡ g x) → map f xs ≡ map g xs
map_alike f g [] each = refl
map_alike f g (x ∷ xs) each = ap (λ y. y ∷ map f xs) (each x) ∙ ap (λ ys. g x ∷ ys) (map_alike f g xs each)

pub map_same : {A : Type 0} (f : A → A) (xs : List A) → ((x : A) → f x ≡ x) → map f xs ≡ xs
map_same f [] each = refl
map_same f (x ∷ xs) each = ap (λ y. y ∷ map f xs) (each x) ∙ ap (λ ys. x ∷ ys) (map_same f xs each)

-- ---- outcomes of one truth

pub true_of_true : (os : List Outcome) → those_true (with_truth (Some true) os) ≡ os
true_of_true [] = refl
true_of_true (o ∷ os) = ap (λ (rest : List Outcome). o ∷ rest) (true_of_true os)

pub true_of_false : (os : List Outcome) → those_true (with_truth (Some false) os) ≡ []
true_of_false [] = refl
true_of_false (o ∷ os) = true_of_false os

pub false_of_true : (os : List Outcome) → those_false (with_truth (Some true) os) ≡ []
false_of_true [] = refl
false_of_true (o ∷ os) = false_of_true os

pub false_of_false : (os : List Outcome) → those_false (with_truth (Some false) os) ≡ os
false_of_false [] = refl
false_of_false (o ∷ os) = ap (λ (rest : List Outcome). o ∷ rest) (false_of_false os)

-- ---- branches by their truth

pub judged_true : (p : ScriptPlan) (bs : List Branch) (s : State) → at_state p (paths_true bs) s ≡ those_true (judged (test_truth p.tests) bs s)
judged_true p [] s = refl
judged_true p (b ∷ bs) s = go b.truth (judged_true p bs s)
  where
    gives : List Outcome
    gives = given (test_truth p.tests) b.path s

    rest : Judged
    rest = judged (test_truth p.tests) bs s

    go : (x : Bool) → at_state p (paths_true bs) s ≡ those_true rest → at_state p (if x then b.path ∷ paths_true bs else paths_true bs) s ≡ those_true (with_truth (Some x) gives ++ rest)
    go true h =
        ap (λ (os : List Outcome). gives ++ os) h
        ∙ sym (true_append (with_truth (Some true) gives) rest ∙ ap (λ (os : List Outcome). os ++ those_true rest) (true_of_true gives))
    go false h =
        h ∙ sym (true_append (with_truth (Some false) gives) rest ∙ ap (λ (os : List Outcome). os ++ those_true rest) (true_of_false gives))

pub judged_false : (p : ScriptPlan) (bs : List Branch) (s : State) → at_state p (paths_false bs) s ≡ those_false (judged (test_truth p.tests) bs s)
judged_false p [] s = refl
judged_false p (b ∷ bs) s = go b.truth (judged_false p bs s)
  where
    gives : List Outcome
    gives = given (test_truth p.tests) b.path s

    rest : Judged
    rest = judged (test_truth p.tests) bs s

    go : (x : Bool) → at_state p (paths_false bs) s ≡ those_false rest → at_state p (if x then paths_false bs else b.path ∷ paths_false bs) s ≡ those_false (with_truth (Some x) gives ++ rest)
    go true h =
        h ∙ sym (false_append (with_truth (Some true) gives) rest ∙ ap (λ (os : List Outcome). os ++ those_false rest) (false_of_true gives))
    go false h =
        ap (λ (os : List Outcome). gives ++ os) h
        ∙ sym (false_append (with_truth (Some false) gives) rest ∙ ap (λ (os : List Outcome). os ++ those_false rest) (false_of_false gives))

-- Branches before, and one more.
pub paths_true_push : (bs : List Branch) (b : Branch) → paths_true (bs ++ b ∷ []) ≡ paths_true bs ++ paths_true (b ∷ [])
paths_true_push [] b = refl
paths_true_push (x ∷ bs) b = go x.truth (paths_true_push bs b)
  where
    go : (t : Bool) → paths_true (bs ++ b ∷ []) ≡ paths_true bs ++ paths_true (b ∷ []) → (if t then x.path ∷ paths_true (bs ++ b ∷ []) else paths_true (bs ++ b ∷ [])) ≡ (if t then x.path ∷ paths_true bs else paths_true bs) ++ paths_true (b ∷ [])
    go true h = ap (λ (ps : List Path). x.path ∷ ps) h
    go false h = h

pub paths_false_push : (bs : List Branch) (b : Branch) → paths_false (bs ++ b ∷ []) ≡ paths_false bs ++ paths_false (b ∷ [])
paths_false_push [] b = refl
paths_false_push (x ∷ bs) b = go x.truth (paths_false_push bs b)
  where
    go : (t : Bool) → paths_false (bs ++ b ∷ []) ≡ paths_false bs ++ paths_false (b ∷ []) → (if t then paths_false (bs ++ b ∷ []) else x.path ∷ paths_false (bs ++ b ∷ [])) ≡ (if t then paths_false bs else x.path ∷ paths_false bs) ++ paths_false (b ∷ [])
    go true h = h
    go false h = ap (λ (ps : List Path). x.path ∷ ps) h

-- Each of the paths fits the script and goes on.
pub go_true : (p : ScriptPlan) (bs : List Branch) → BranchesGo p bs → AreGoing p (paths_true bs)
go_true p [] h = All-nil (IsGoing p)
go_true p (b ∷ bs) h = go b.truth (go_true p bs (All-tail (λ (x : Branch). IsGoing p x.path) b bs h))
  where
    go : (x : Bool) → AreGoing p (paths_true bs) → AreGoing p (if x then b.path ∷ paths_true bs else paths_true bs)
    go true rest = All-cons (IsGoing p) b.path (paths_true bs) (All-head (λ (x : Branch). IsGoing p x.path) b bs h) rest
    go false rest = rest

pub go_false : (p : ScriptPlan) (bs : List Branch) → BranchesGo p bs → AreGoing p (paths_false bs)
go_false p [] h = All-nil (IsGoing p)
go_false p (b ∷ bs) h = go b.truth (go_false p bs (All-tail (λ (x : Branch). IsGoing p x.path) b bs h))
  where
    go : (x : Bool) → AreGoing p (paths_false bs) → AreGoing p (if x then paths_false bs else b.path ∷ paths_false bs)
    go true rest = rest
    go false rest = All-cons (IsGoing p) b.path (paths_false bs) (All-head (λ (x : Branch). IsGoing p x.path) b bs h) rest

-- One item more of a list that is put after another one.
pub put_more : {A B : Type 0} (f : List A → List B) (done : List A) (one : A) (before middle after : List B) → f (done ++ one ∷ []) ≡ f done ++ f (one ∷ []) → middle ≡ before ++ f done → after ≡ middle ++ f (one ∷ []) → after ≡ before ++ f (done ++ one ∷ [])
put_more f done one before middle after push h g =
    g ∙ ap (λ xs. xs ++ f (one ∷ [])) h ∙ append_assoc before (f done) (f (one ∷ [])) ∙ ap (λ xs. before ++ xs) (sym push)

-- ---- paths that go on

-- Each of the outcomes goes on.
abbrev pub AreGoingOn : List Outcome → Type 0
AreGoingOn [] = Unit {0}
AreGoingOn (Going s ∷ os) = AreGoingOn os
AreGoingOn (Ended fault ∷ os) = ⊥

going_append : (xs ys : List Outcome) → AreGoingOn xs → AreGoingOn ys → AreGoingOn (xs ++ ys)
going_append [] ys h g = g
going_append (Going s ∷ xs) ys h g = going_append xs ys h g
going_append (Ended fault ∷ xs) ys h g = absurd h

given_goes : (end : PathEnd) (s : State) (admitted : Bool) → GoesOn end → AreGoingOn (if admitted then end_at end s ∷ [] else [])
given_goes (path.Next forms) s true h = tt
given_goes (path.Next forms) s false h = tt
given_goes (path.Ended fault) s admitted h = absurd h

pub at_goes : (p : ScriptPlan) (paths : List Path) (s : State) → AllGoOn paths → AreGoingOn (at_state p paths s)
at_goes p [] s h = tt
at_goes p (x ∷ paths) s h =
    let P : Path → Type 0 = λ (y : Path). GoesOn y.end in
    going_append (given (test_truth p.tests) x s) (at_state p paths s)
    (given_goes x.end s (admits (test_truth p.tests) x.when s.cells) (All-head P x paths h))
    (at_goes p paths s (All-tail P x paths h))

pub none_failed : (n : ℕ) (f : State → Bool) (os : List Outcome) → AreGoingOn os → those_failed (map (answered n (λ s. Ok (f s))) os) ≡ []
none_failed n f [] h = refl
none_failed n f (Going s ∷ os) h = go (f s) (none_failed n f os h)
  where
    go : (x : Bool) → those_failed (map (answered n (λ t. Ok (f t))) os) ≡ [] → those_failed (with_answer n s (Ok x) ∷ map (answered n (λ t. Ok (f t))) os) ≡ []
    go true e = e
    go false e = e
none_failed n f (Ended fault ∷ os) h = absurd h

-- Paths of which none fails.
pub open_parts : (p : ScriptPlan) (n : ℕ) (f : State → Bool) (old trues falses_before falses ended_before ended : List Path) → AllGoOn old → ended ≡ ended_before → ((s : State) → length (at_state p old s) ≤ 1 → (at_state p trues s ≡ those_true (map (answered n (λ s. Ok (f s))) (at_state p old s))) × (at_state p falses s ≡ at_state p falses_before s ++ those_false (map (answered n (λ s. Ok (f s))) (at_state p old s)))) → AreParts p (answered n (λ s. Ok (f s))) old trues falses_before falses ended_before ended
open_parts p n f old trues falses_before falses ended_before ended going same h s less = record {
  trues = (h s less).0;
  falses = (h s less).1;
  ended =
      ap (λ (ps : List Path). at_state p ps s) same
      ∙ sym (append-nil (at_state p ended_before s))
      ∙ ap (λ (os : List Outcome). at_state p ended_before s ++ os) (sym (none_failed n f (at_state p old s) (at_goes p old s going)));
}

-- Other paths that have ended stay as they are.
pub with_ended : (p : ScriptPlan) (meaning : Outcome → Outcome × Option Bool) (old trues falses_before falses ended : List Path) → AreParts p meaning old trues falses_before falses [] [] → AreParts p meaning old trues falses_before falses ended ended
with_ended p meaning old trues falses_before falses ended h s less =
    let parts = h s less in
    record {
      trues = parts.trues;
      falses = parts.falses;
      ended = sym (append-nil (at_state p ended s)) ∙ ap (λ (os : List Outcome). at_state p ended s ++ os) parts.ended;
    }

-- ---- one truth for all of them

told_known : (n : ℕ) (x : Bool) (os : List Outcome) → AreGoingOn os → map (answered n (λ s. Ok x)) os ≡ with_truth (Some x) os
told_known n x [] h = refl
told_known n x (Going s ∷ os) h = ap (λ (js : Judged). (Going s, Some x) ∷ js) (told_known n x os h)
told_known n x (Ended fault ∷ os) h = absurd h

pub known_parts : (p : ScriptPlan) (n : ℕ) (x : Bool) (old trues falses_before falses ended_before ended : List Path) → AllGoOn old → trues ≡ (if x then old else []) → falses ≡ falses_before ++ (if x then [] else old) → ended ≡ ended_before → AreParts p (answered n (λ s. Ok x)) old trues falses_before falses ended_before ended
known_parts p n x old trues falses_before falses ended_before ended going e f same =
    open_parts p n (λ s. x) old trues falses_before falses ended_before ended going same
    (λ s less. (
      ap (λ (ps : List Path). at_state p ps s) e ∙ all_true x s,
      ap (λ (ps : List Path). at_state p ps s) f
          ∙ at_append p falses_before (if x then [] else old) s
          ∙ ap (λ (os : List Outcome). at_state p falses_before s ++ os) (all_false x s),
    ))
  where
    told : (y : Bool) (s : State) → with_truth (Some y) (at_state p old s) ≡ map (answered n (λ t. Ok y)) (at_state p old s)
    told y s = sym (told_known n y (at_state p old s) (at_goes p old s going))

    all_true : (y : Bool) (s : State) → at_state p (if y then old else []) s ≡ those_true (map (answered n (λ t. Ok y)) (at_state p old s))
    all_true true s = sym (true_of_true (at_state p old s)) ∙ ap those_true (told true s)
    all_true false s = sym (true_of_false (at_state p old s)) ∙ ap those_true (told false s)

    all_false : (y : Bool) (s : State) → at_state p (if y then [] else old) s ≡ those_false (map (answered n (λ t. Ok y)) (at_state p old s))
    all_false true s = sym (false_of_true (at_state p old s)) ∙ ap those_false (told true s)
    all_false false s = sym (false_of_false (at_state p old s)) ∙ ap those_false (told false s)

-- ---- arithmetic that fails

abbrev pub arith_fault : ℕ → Fault
arith_fault n = record { kind = kind.Arith; no = n }

at_failed : (p : ScriptPlan) (fault : Fault) (paths : List Path) (s : State) → at_state p (map (λ (x : Path). with_fault x fault) paths) s ≡ map (ended_by fault) (at_state p paths s)
at_failed p fault [] s = refl
at_failed p fault (x ∷ paths) s =
    let T = test_truth p.tests in
    ap (λ (os : List Outcome). os ++ at_state p (map (λ (y : Path). with_fault y fault) paths) s) (faults_give T s x fault)
    ∙ ap (λ (os : List Outcome). map (ended_by fault) (given T x s) ++ os) (at_failed p fault paths s)
    ∙ sym (map-append (ended_by fault) (given T x s) (at_state p paths s))

module _ (n : ℕ) (e : Arith) where
  abbrev fails : Outcome → Outcome × Option Bool
  fails = answered n (λ s. Err e)

  no_true : (os : List Outcome) → [] ≡ those_true (map fails os)
  no_true [] = refl
  no_true (Going s ∷ os) = no_true os
  no_true (Ended fault ∷ os) = no_true os

  no_false : (os : List Outcome) → [] ≡ those_false (map fails os)
  no_false [] = refl
  no_false (Going s ∷ os) = no_false os
  no_false (Ended fault ∷ os) = no_false os

  all_failed : (os : List Outcome) → map (ended_by (arith_fault n)) os ≡ those_failed (map fails os)
  all_failed [] = refl
  all_failed (Going s ∷ os) = ap (λ (rest : List Outcome). Ended (arith_fault n) ∷ rest) (all_failed os)
  all_failed (Ended fault ∷ os) = ap (λ (rest : List Outcome). Ended fault ∷ rest) (all_failed os)

pub failed_parts : (p : ScriptPlan) (n : ℕ) (e : Arith) (fault : Fault) (old trues falses_before falses ended_before ended : List Path) → fault ≡ arith_fault n → trues ≡ [] → falses ≡ falses_before → ended ≡ ended_before ++ map (λ (x : Path). with_fault x fault) old → AreParts p (answered n (λ s. Err e)) old trues falses_before falses ended_before ended
failed_parts p n e fault old trues falses_before falses ended_before ended is none same failed s less = record {
  trues = ap (λ (ps : List Path). at_state p ps s) none ∙ no_true n e (at_state p old s);
  falses =
      ap (λ (ps : List Path). at_state p ps s) same
      ∙ sym (append-nil (at_state p falses_before s))
      ∙ ap (λ (os : List Outcome). at_state p falses_before s ++ os) (no_false n e (at_state p old s));
  ended =
      ap (λ (ps : List Path). at_state p ps s) failed
      ∙ at_append p ended_before (map (λ (x : Path). with_fault x fault) old) s
      ∙ ap (λ (os : List Outcome). at_state p ended_before s ++ os)
      (at_failed p fault old s ∙ ap (λ (f : Fault). map (ended_by f) (at_state p old s)) is ∙ all_failed n e (at_state p old s));
}

pub failed_fit : (p : ScriptPlan) (fault : Fault) (old before after : List Path) → fault.kind ≡ kind.Arith → SegmentFits p old → SegmentFits p before → after ≡ before ++ map (λ (x : Path). with_fault x fault) old → SegmentFits p after
failed_fit p fault old before after is h g e =
    let each : (x : Path) → PathFits p x → PathFits p (with_fault x fault) = λ x fits. faults_fit p x fault fits (subst (FitsFault p) (sym is) tt) in
    subst (SegmentFits p) (sym e)
    (All-append (PathFits p) before (map (λ (x : Path). with_fault x fault) old) g
    (All-map (PathFits p) (λ (x : Path). with_fault x fault) old (All-weaker (PathFits p) (λ (x : Path). PathFits p (with_fault x fault)) each old h)))

end_came : (records : List Record) (fault : Fault) (end : PathEnd) → Any (λ (rec : Record). rec.no ≡ fault.no) records → GoesOn end → EndsAmong records (end_by fault end)
end_came records fault (path.Next forms) h goes = h
end_came records fault (path.Ended old) h goes = absurd goes

pub failed_came : (n : ℕ) (fault : Fault) (old before after : List Path) → fault.no ≡ n → AllGoOn old → after ≡ before ++ map (λ (x : Path). with_fault x fault) old → (records : List Record) → HasNumber n records → HaveFaultsAmong records before → HaveFaultsAmong records after
failed_came n fault old before after is going e records has h =
    let P : Path → Type 0 = λ (x : Path). EndsAmong records x.end in
    let here : Any (λ (rec : Record). rec.no ≡ fault.no) records = subst (λ (m : ℕ). Any (λ (rec : Record). rec.no ≡ m) records) (sym is) has in
    subst (HaveFaultsAmong records) (sym e)
    (All-append P before (map (λ (x : Path). with_fault x fault) old) h
    (All-map P (λ (x : Path). with_fault x fault) old (All-weaker (λ (x : Path). GoesOn x.end) (λ (x : Path). EndsAmong records (end_by fault x.end)) (λ x g. end_came records fault x.end here g) old going)))

-- Two meanings that agree part paths in the same way.
pub parts_alike : (p : ScriptPlan) (f g : Outcome → Outcome × Option Bool) (old trues falses_before falses ended_before ended : List Path) → ((o : Outcome) → f o ≡ g o) → AreParts p f old trues falses_before falses ended_before ended → AreParts p g old trues falses_before falses ended_before ended
parts_alike p f g old trues falses_before falses ended_before ended each h s less =
    let same : map f (at_state p old s) ≡ map g (at_state p old s) = map_alike f g (at_state p old s) each in
    let parts = h s less in
    record {
      trues = parts.trues ∙ ap those_true same;
      falses = parts.falses ∙ ap (λ (js : Judged). at_state p falses_before s ++ those_false js) same;
      ended = parts.ended ∙ ap (λ (js : Judged). at_state p ended_before s ++ those_failed js) same;
    }
