-- What the paths of one segment and then of another give, and that they stand for the records of both.
use Rattle.std.proofs.Common.{◌≡◌, ◌+◌, ℕ, suc, Bool, true, false, List, [], ◌∷◌, ◌++◌, inl, inr, length, take, drop, refl, sym, ap, ◌∙◌, subst, arith, append_assoc}
use Rattle.std.proofs.lemmas.Grind.{flat_map-append}
use Rattle.std.proofs.lemmas.List.{append-nil, get_or_append_left, get_or-append-add, take-append-drop}
use Rattle.std.proofs.lemmas.List.Elements.{All-append, All-cons, All-nil}
use Rattle.std.specs.List.{All, Any, flat_map, insert}
use Rattle.std.specs.Prelude.{IsTrue, Some, if◌then◌else◌, slice_get}
use Rattle.sym_base.specs.Tests.{Truth}
use Rattle.sym_base.specs.declared.values.record.Record.{Record}
use Rattle.sym_base.specs.declared.values.state.Fault.{Fault}
use Rattle.sym_base.specs.declared.values.state.State.{State}
use Rattle.sym_base.specs.declared.values.state.Outcome.{Outcome}
use Rattle.sym_base.specs.declared.values.state.Outcome.TheVariants.{Going}
use Rattle.sym_base.specs.declared.values.state.Outcome.TheVariants as outcome
use Rattle.sym_check.proofs.PlanLaws.{after_append}
use Rattle.sym_check.specs.Meaning.Conditions.{test_truth}
use Rattle.sym_check.specs.Plan.ScriptPlans.{ScriptPlan}
use Rattle.sym_check.specs.Meaning.Updates.{after}
use Rattle.sym_check.specs.Meaning.Validity.{IsValid, IsValidOutcome}
use Rattle.sym_path.specs.declared.form.Form.{Form}
use Rattle.sym_path.specs.declared.part.Part.{Part}
use Rattle.sym_path.specs.declared.path.Path.{Path}
use Rattle.sym_path.specs.declared.path.PathEnd.{PathEnd}
use Rattle.sym_path.specs.declared.path.PathEnd.TheVariants.{Next, Ended}
use Rattle.sym_path.specs.Admitting.{admits}
use Rattle.sym_path.specs.Composing.{AreComposed, AreFollowed, GoesOnTo, GrowsBy, GrowsByAll, GrowsByPath, IsComposition, given_after, given_by_both}
use Rattle.sym_path.specs.Fitting.{PathFits, SegmentFits}
use Rattle.sym_path.specs.Following.{IsFollowed}
use Rattle.sym_path.specs.Giving.{IsOnlyOutcome, end_at, given, outcomes, state_at}
use Rattle.sym_path.specs.Pairs.{AreFollowers, ArePairs}
use Rattle.sym_path.specs.Possible.{IsPossiblePair}
use Rattle.sym_path.specs.Settling.{IsSettling}
use Rattle.sym_path.specs.Standing.{EndsAmong, StandsFor}
use Rattle.sym_path.proofs.AmongOutcomes.{same_outcomes}
use Rattle.sym_path.proofs.Decided.{admits_decided}
use Rattle.sym_path.proofs.Fitted.{end_valid}
use Rattle.sym_path.proofs.Lists.{all_at, all_from, drop_get}
use Rattle.sym_path.proofs.OnlyOutcomes.{only_outcome}
use Rattle.sym_path.proofs.PairCounts.{count_first, ended_pairs, going_pairs, length_both, no_pairs, pairs_both}
use Rattle.sym_path.proofs.PossibleStates.{pair_is_possible}
use Rattle.sym_path.proofs.SettlingStands.{settled_end, settled_stand}

pub outcomes_both : (truth : Truth) (xs ys : List Path) (s : State) → outcomes truth (xs ++ ys) s ≡ outcomes truth xs s ++ outcomes truth ys s
outcomes_both truth [] ys s = refl
outcomes_both truth (x ∷ xs) ys s =
    ap (λ (os : List Outcome). given truth x s ++ os) (outcomes_both truth xs ys s)
    ∙ sym (append_assoc (given truth x s) (outcomes truth xs s) (outcomes truth ys s))

-- ---- one path and then others

both_true : (a b : Bool) → (IsTrue a → IsTrue b) → (IsTrue b → IsTrue a) → a ≡ b
both_true true true h k = refl
both_true true false h k = sym (h refl)
both_true false true h k = k refl
both_true false false h k = refl

not_true : (b : Bool) → (IsTrue b → ⊥) → b ≡ false
not_true true h = absurd (h refl)
not_true false h = refl

module _ (p : ScriptPlan) (when : List Part) (forms : List Form) (s : State) where
  abbrev truth : Truth
  truth = test_truth p.tests

  abbrev going : Path
  going = record { when = when; end = Next forms }

  abbrev next_state : State
  next_state = state_at forms s

  given_same : (a b : Bool) (o e : Outcome) → a ≡ b → (IsTrue a → o ≡ e) → (if a then o ∷ [] else []) ≡ (if b then e ∷ [] else [])
  given_same true b o e same h = ap (λ (x : Outcome). x ∷ []) (h refl) ∙ ap (λ (c : Bool). if c then e ∷ [] else []) same
  given_same false b o e same h = ap (λ (c : Bool). if c then e ∷ [] else []) same

  -- The path of both gives what the second one gives at the state after the first one,
  one_given : (next both : Path) → IsTrue (admits truth when s.cells) → IsFollowed p going next both → given truth both s ≡ given truth next next_state
  one_given next both here h =
      given_same (admits truth both.when s.cells) (admits truth next.when next_state.cells) (end_at both.end s) (end_at next.end next_state)
      (both_true (admits truth both.when s.cells) (admits truth next.when next_state.cells)
      (λ t. (admits_decided truth next.when next_state).1 ((h.admits s).0 ((admits_decided truth both.when s).0 t)).1)
      (λ t. (admits_decided truth both.when s).1 ((h.admits s).1 ((admits_decided truth when s).0 here, (admits_decided truth next.when next_state).0 t))))
      (λ t. h.gives s ((admits_decided truth both.when s).0 t))

  -- which gives nothing where it can't come after the first one.
  none_given : (next : Path) → IsTrue (admits truth when s.cells) → (IsPossiblePair truth going next → ⊥) → given truth next next_state ≡ []
  none_given next here impossible =
      let none : admits truth next.when next_state.cells ≡ false = not_true (admits truth next.when next_state.cells) (λ t.
      impossible (pair_is_possible truth going next s ((admits_decided truth when s).0 here) ((admits_decided truth next.when next_state).0 t))) in
      ap (λ (b : Bool). if b then end_at next.end next_state ∷ [] else []) none

  followed_give : (others paths : List Path) → IsTrue (admits truth when s.cells) → AreFollowed p going others paths → outcomes truth paths s ≡ outcomes truth others next_state
  followed_give [] paths here h = ap (λ (ps : List Path). outcomes truth ps s) h
  followed_give (next ∷ others) paths here (inl (both, rest, is, possible, followed, more)) =
      ap (λ (ps : List Path). outcomes truth ps s) is
      ∙ ap (λ (os : List Outcome). os ++ outcomes truth rest s) (one_given next both here followed)
      ∙ ap (λ (os : List Outcome). given truth next next_state ++ os) (followed_give others rest here more)
  followed_give (next ∷ others) paths here (inr (impossible, more)) =
      followed_give others paths here more
      ∙ sym (ap (λ (os : List Outcome). os ++ outcomes truth others next_state) (none_given next here impossible))

  -- Where the first path doesn't admit the state, they give nothing.
  not_admitted : (others paths : List Path) → admits truth when s.cells ≡ false → AreFollowed p going others paths → outcomes truth paths s ≡ []
  not_admitted [] paths none h = ap (λ (ps : List Path). outcomes truth ps s) h
  not_admitted (next ∷ others) paths none (inl (both, rest, is, possible, followed, more)) =
      let here : admits truth both.when s.cells ≡ false = not_true (admits truth both.when s.cells) (λ t.
      let held : admits truth when s.cells ≡ true = (admits_decided truth when s).1 ((followed.admits s).0 ((admits_decided truth both.when s).0 t)).0 in
      let clash : true ≡ false = sym held ∙ none in
      cc) in
      ap (λ (ps : List Path). outcomes truth ps s) is
      ∙ ap (λ (b : Bool). (if b then end_at both.end s ∷ [] else []) ++ outcomes truth rest s) here
      ∙ not_admitted others rest none more
  not_admitted (next ∷ others) paths none (inr (impossible, more)) = not_admitted others paths none more

  next_gives : (others paths : List Path) (b : Bool) → admits truth when s.cells ≡ b → AreFollowed p going others paths → outcomes truth paths s ≡ flat_map (given_after truth others) (if b then Going next_state ∷ [] else [])
  next_gives others paths true e h = followed_give others paths e h ∙ sym (append-nil (outcomes truth others next_state))
  next_gives others paths false e h = not_admitted others paths e h

-- ---- all paths

path_gives : (p : ScriptPlan) (when : List Part) (end : PathEnd) (others paths : List Path) (s : State) → GoesOnTo p end (record { when = when; end = end }) others paths → outcomes (test_truth p.tests) paths s ≡ flat_map (given_after (test_truth p.tests) others) (given (test_truth p.tests) (record { when = when; end = end }) s)
path_gives p when (Next forms) others paths s h = next_gives p when forms s others paths (admits (test_truth p.tests) when s.cells) refl h
path_gives p when (Ended fault) others paths s h = ap (λ (ps : List Path). outcomes (test_truth p.tests) ps s) h ∙ go (admits (test_truth p.tests) when s.cells)
  where
    go : (b : Bool) → (if b then outcome.Ended fault ∷ [] else []) ++ [] ≡ flat_map (given_after (test_truth p.tests) others) (if b then outcome.Ended fault ∷ [] else [])
    go true = refl
    go false = refl

pub composed_give : (p : ScriptPlan) (left right paths : List Path) (s : State) → AreComposed p left right paths → outcomes (test_truth p.tests) paths s ≡ flat_map (given_after (test_truth p.tests) right) (outcomes (test_truth p.tests) left s)
composed_give p [] right paths s h = ap (λ (ps : List Path). outcomes (test_truth p.tests) ps s) h
composed_give p (path ∷ left) right paths s (first, rest, is, here, more) =
    ap (λ (ps : List Path). outcomes (test_truth p.tests) ps s) is
    ∙ outcomes_both (test_truth p.tests) first rest s
    ∙ ap (λ (os : List Outcome). os ++ outcomes (test_truth p.tests) rest s) (path_gives p path.when path.end right first s here)
    ∙ ap (λ (os : List Outcome). flat_map (given_after (test_truth p.tests) right) (given (test_truth p.tests) path s) ++ os) (composed_give p left right rest s more)
    ∙ sym (flat_map-append (given_after (test_truth p.tests) right) (given (test_truth p.tests) path s) (outcomes (test_truth p.tests) left s))

-- ---- what holds of each path

all_rest : {A : Type 0} (P : A → Type 0) (x : A) (xs : List A) → All P (x ∷ xs) → All P xs
all_rest P x xs h = all_from P xs (λ i y e. all_at P (x ∷ xs) (suc i) y h e)

all_first : {A : Type 0} (P : A → Type 0) (x : A) (xs : List A) → All P (x ∷ xs) → P x
all_first P x xs h = all_at P (x ∷ xs) 0 x h refl

-- What holds of a left path that stays and of a path that follows one of the right holds of all.
module _ (p : ScriptPlan) (L R P : Path → Type 0) (stays : (path : Path) → L path → P path) (follows : (first next both : Path) → R next → IsFollowed p first next both → P both) where
  followed_all : (first : Path) (others paths : List Path) → All R others → AreFollowed p first others paths → All P paths
  followed_all first [] paths all h = subst (λ (ps : List Path). All P ps) (sym h) (All-nil P)
  followed_all first (next ∷ others) paths all (inl (both, rest, is, possible, followed, more)) =
      subst (λ (ps : List Path). All P ps) (sym is)
      (All-cons P both rest (follows first next both (all_first R next others all) followed) (followed_all first others rest (all_rest R next others all) more))
  followed_all first (next ∷ others) paths all (inr (impossible, more)) = followed_all first others paths (all_rest R next others all) more

  path_all : (path : Path) (end : PathEnd) (others paths : List Path) → L path → All R others → GoesOnTo p end path others paths → All P paths
  path_all path (Next forms) others paths own all h = followed_all path others paths all h
  path_all path (Ended fault) others paths own all h = subst (λ (ps : List Path). All P ps) (sym h) (All-cons P path [] (stays path own) (All-nil P))

  composed_all : (left right paths : List Path) → All L left → All R right → AreComposed p left right paths → All P paths
  composed_all [] right paths own all h = subst (λ (ps : List Path). All P ps) (sym h) (All-nil P)
  composed_all (path ∷ left) right paths own all (first, rest, is, here, more) =
      subst (λ (ps : List Path). All P ps) (sym is)
      (All-append P first rest (path_all path path.end right first (all_first L path left own) all here) (composed_all left right rest (all_rest L path left own) all more))

pub composed_fit : (p : ScriptPlan) (left right paths : List Path) → SegmentFits p left → SegmentFits p right → AreComposed p left right paths → SegmentFits p paths
composed_fit p left right paths l r h = composed_all p (PathFits p) (PathFits p) (PathFits p) (λ path own. own) (λ first next both own followed. followed.fits) left right paths l r h

-- ---- faults

any_first : {A : Type 0} (P : A → Type 0) (xs ys : List A) → Any P xs → Any P (xs ++ ys)
any_first {A} P xs ys (k, x, within, is, h) = (k, x, let l = length_both xs ys in omega (arith, l), get_or_append_left xs ys x k within ∙ is, h)

any_rest : {A : Type 0} (P : A → Type 0) (xs ys : List A) → Any P ys → Any P (xs ++ ys)
any_rest {A} P xs ys (k, x, within, is, h) = (length xs + k, x, let l = length_both xs ys in omega (arith, l), get_or-append-add xs ys k x ∙ is, h)

ends_first : (first rest : List Record) (end : PathEnd) → EndsAmong first end → EndsAmong (first ++ rest) end
ends_first first rest (Next forms) h = tt
ends_first first rest (Ended fault) h = any_first (λ (rec : Record). rec.no ≡ fault.no) first rest h

ends_rest : (first rest : List Record) (end : PathEnd) → EndsAmong rest end → EndsAmong (first ++ rest) end
ends_rest first rest (Next forms) h = tt
ends_rest first rest (Ended fault) h = any_rest (λ (rec : Record). rec.no ≡ fault.no) first rest h

ends_follow : (p : ScriptPlan) (records : List Record) (first next both : Path) → EndsAmong records next.end → IsFollowed p first next both → (end : PathEnd) → end ≡ both.end → EndsAmong records end
ends_follow p records first next both own followed (Next forms) e = tt
ends_follow p records first next both own followed (Ended fault) e =
    let same : next.end ≡ Ended fault = (followed.fault fault).0 (sym e) in
    subst (λ (end : PathEnd). EndsAmong records end) same own

composed_end : (p : ScriptPlan) (first rest : List Record) (left right paths : List Path) → All (λ (path : Path). EndsAmong first path.end) left → All (λ (path : Path). EndsAmong rest path.end) right → AreComposed p left right paths → All (λ (path : Path). EndsAmong (first ++ rest) path.end) paths
composed_end p first rest left right paths l r h =
    composed_all p (λ (path : Path). EndsAmong first path.end) (λ (path : Path). EndsAmong rest path.end) (λ (path : Path). EndsAmong (first ++ rest) path.end)
    (λ path own. ends_first first rest path.end own)
    (λ one next both own followed. ends_rest first rest both.end (ends_follow p rest one next both own followed both.end refl))
    left right paths l r h

-- The same of one list of records.
composed_end_among : (p : ScriptPlan) (records : List Record) (left right paths : List Path) → All (λ (path : Path). EndsAmong records path.end) left → All (λ (path : Path). EndsAmong records path.end) right → AreComposed p left right paths → All (λ (path : Path). EndsAmong records path.end) paths
composed_end_among p records left right paths l r h =
    composed_all p (λ (path : Path). EndsAmong records path.end) (λ (path : Path). EndsAmong records path.end) (λ (path : Path). EndsAmong records path.end)
    (λ path own. own)
    (λ one next both own followed. ends_follow p records one next both own followed both.end refl)
    left right paths l r h

-- ---- records

ended_stays : (p : ScriptPlan) (records : List Record) (fault : Fault) → after p records (outcome.Ended fault) ≡ outcome.Ended fault
ended_stays p [] fault = refl
ended_stays p (rec ∷ records) fault = ended_stays p records fault

-- The outcome of the records from a valid state is valid.
pub outcome_valid : (p : ScriptPlan) (records : List Record) (paths : List Path) (s : State) → StandsFor p records paths → IsValid p s → IsValidOutcome p (after p records (Going s))
outcome_valid p records paths s h v =
    let one : IsOnlyOutcome (test_truth p.tests) paths s (after p records (Going s)) = h.exact s v in
    let fits : PathFits p one.path = all_at (PathFits p) paths one.index one.path h.fits one.is in
    subst (λ (o : Outcome). IsValidOutcome p o) one.gives (end_valid (test_truth p.tests) p one.path.when one.path.end s fits.end one.admitted v)

given_exactly : (p : ScriptPlan) (rest : List Record) (right : List Path) (o : Outcome) → StandsFor p rest right → IsValidOutcome p o → given_after (test_truth p.tests) right o ++ [] ≡ after p rest o ∷ []
given_exactly p rest right (Going s) h v = append-nil (outcomes (test_truth p.tests) right s) ∙ (only_outcome (test_truth p.tests) right s (after p rest (Going s))).1 (h.exact s v)
given_exactly p rest right (outcome.Ended fault) h v = ap (λ (o : Outcome). o ∷ []) (sym (ended_stays p rest fault))

pub composed_stand : (p : ScriptPlan) (first rest : List Record) (left right paths : List Path) → AreComposed p left right paths → StandsFor p first left → StandsFor p rest right → StandsFor p (first ++ rest) paths
composed_stand p first rest left right paths h l r = record {
  fits = composed_fit p left right paths l.fits r.fits h;
  faults = composed_end p first rest left right paths l.faults r.faults h;
  exact = λ s v. (only_outcome (test_truth p.tests) paths s (after p (first ++ rest) (Going s))).0 (exact s v);
}
  where
    exact : (s : State) → IsValid p s → outcomes (test_truth p.tests) paths s ≡ after p (first ++ rest) (Going s) ∷ []
    exact s v =
        let truth : Truth = test_truth p.tests in
        let o : Outcome = after p first (Going s) in
        let before : outcomes truth left s ≡ o ∷ [] = (only_outcome truth left s o).1 (l.exact s v) in
        composed_give p left right paths s h
        ∙ ap (λ (os : List Outcome). flat_map (given_after truth right) os) before
        ∙ given_exactly p rest right o r (outcome_valid p first left s l v)
        ∙ ap (λ (x : Outcome). x ∷ []) (sym (after_append p first rest (Going s)))

-- ---- how many they are

followed_answers : (p : ScriptPlan) (first : Path) (others paths : List Path) → AreFollowed p first others paths → AreFollowers (test_truth p.tests) first others (length paths)
followed_answers p first [] paths h = record { answers = []; decided = tt; sum = ap length h }
followed_answers p first (next ∷ others) paths (inl (both, rest, is, possible, followed, more)) =
    let a = followed_answers p first others rest more in record {
      answers = true ∷ a.answers;
      decided = ((λ e. possible, λ h. refl), a.decided);
      sum =
          let l : length paths ≡ 1 + length rest = ap length is ∙ omega arith in
          let c = count_first (λ (answer : Bool). answer) true a.answers in
          let sum = a.sum in
          omega (arith, l, c);
    }
followed_answers p first (next ∷ others) paths (inr (impossible, more)) =
    let a = followed_answers p first others paths more in record {
      answers = false ∷ a.answers;
      decided = ((λ e. absurd (cc), λ h. absurd (impossible h)), a.decided);
      sum =
          let c = count_first (λ (answer : Bool). answer) false a.answers in
          let sum = a.sum in
          omega (arith, c);
    }

path_pairs : (p : ScriptPlan) (when : List Part) (end : PathEnd) (others paths : List Path) → GoesOnTo p end (record { when = when; end = end }) others paths → ArePairs (test_truth p.tests) (record { when = when; end = end } ∷ []) others (length paths)
path_pairs p when (Next forms) others paths h = going_pairs (test_truth p.tests) (record { when = when; end = Next forms }) others (length paths) refl (followed_answers p (record { when = when; end = Next forms }) others paths h)
path_pairs p when (Ended fault) others paths h = subst (λ (n : ℕ). ArePairs (test_truth p.tests) (record { when = when; end = Ended fault } ∷ []) others n) (sym (ap length h)) (ended_pairs (test_truth p.tests) (record { when = when; end = Ended fault }) others refl (λ q possible. possible))

pub composed_pairs : (p : ScriptPlan) (left right paths : List Path) → AreComposed p left right paths → ArePairs (test_truth p.tests) left right (length paths)
composed_pairs p [] right paths h = subst (λ (n : ℕ). ArePairs (test_truth p.tests) [] right n) (sym (ap length h)) (no_pairs (test_truth p.tests) right)
composed_pairs p (path ∷ left) right paths (first, rest, is, here, more) =
    subst (λ (n : ℕ). ArePairs (test_truth p.tests) (path ∷ left) right n) (sym (ap length is ∙ length_both first rest))
    (pairs_both (test_truth p.tests) (path ∷ []) left right (length first) (length rest) (path_pairs p path.when path.end right first here) (composed_pairs p left right rest more))

-- ---- the composition

pub composition : (p : ScriptPlan) (left right paths segment : List Path) → SegmentFits p left → SegmentFits p right → AreComposed p left right paths → IsSettling paths segment → IsComposition p left right segment
composition p left right paths segment l r h w = record {
  settled = w.settled;
  fits = w.reduced.fits p (composed_fit p left right paths l r h);
  few = record { pairs = length paths; are = composed_pairs p left right paths h; few = w.reduced.few };
  stands = λ first rest a b. settled_stand p (first ++ rest) paths segment (composed_stand p first rest left right paths h a b) w;
  agrees = λ s o.
      let truth : Truth = test_truth p.tests in
      let kept = w.reduced.agree truth s o in
      let same = same_outcomes truth paths s o (given_by_both truth left right s) (composed_give p left right paths s h) in
      (λ g. same.0 (kept.0 g), λ g. kept.1 (same.1 g));
  gives = λ s few.
      let truth : Truth = test_truth p.tests in
      let same : outcomes truth paths s ≡ given_by_both truth left right s = composed_give p left right paths s h in
      w.reduced.same truth s (omega (arith, ap length same, few)) ∙ same;
  faults = λ records a b. settled_end records paths segment (composed_end_among p records left right paths a b h) w;
}

-- ---- as they are made

followed_more : (p : ScriptPlan) (first next both : Path) (others paths : List Path) → IsPossiblePair (test_truth p.tests) first next → IsFollowed p first next both → AreFollowed p first others paths → AreFollowed p first (others ++ next ∷ []) (paths ++ both ∷ [])
followed_more p first next both [] paths possible followed h = inl (both, [], ap (λ (ps : List Path). ps ++ both ∷ []) h, possible, followed, refl)
followed_more p first next both (q ∷ others) paths possible followed (inl (one, rest, is, can, own, more)) =
    inl (one, rest ++ both ∷ [], ap (λ (ps : List Path). ps ++ both ∷ []) is, can, own, followed_more p first next both others rest possible followed more)
followed_more p first next both (q ∷ others) paths possible followed (inr (impossible, more)) = inr (impossible, followed_more p first next both others paths possible followed more)

followed_same : (p : ScriptPlan) (first next : Path) (others paths : List Path) → (IsPossiblePair (test_truth p.tests) first next → ⊥) → AreFollowed p first others paths → AreFollowed p first (others ++ next ∷ []) paths
followed_same p first next [] paths none h = inr (none, h)
followed_same p first next (q ∷ others) paths none (inl (one, rest, is, can, own, more)) = inl (one, rest, is, can, own, followed_same p first next others rest none more)
followed_same p first next (q ∷ others) paths none (inr (impossible, more)) = inr (impossible, followed_same p first next others paths none more)

-- One other more.
pub grown_more : (p : ScriptPlan) (first next : Path) (others old mid new : List Path) → GrowsByAll p first others old mid → GrowsBy p first next mid new → GrowsByAll p first (others ++ next ∷ []) old new
grown_more p first next others old mid new h (inl (both, is, possible, followed)) = record {
  paths = h.paths ++ both ∷ [];
  is = is ∙ ap (λ (ps : List Path). ps ++ both ∷ []) h.is ∙ append_assoc old h.paths (both ∷ []);
  are = followed_more p first next both others h.paths possible followed h.are;
}
grown_more p first next others old mid new h (inr (impossible, is)) = record {
  paths = h.paths;
  is = is ∙ h.is;
  are = followed_same p first next others h.paths impossible h.are;
}

-- Others after others.
followed_both : (p : ScriptPlan) (first : Path) (others past paths rest : List Path) → AreFollowed p first others paths → AreFollowed p first past rest → AreFollowed p first (others ++ past) (paths ++ rest)
followed_both p first [] past paths rest h k = subst (λ (ps : List Path). AreFollowed p first past (ps ++ rest)) (sym h) k
followed_both p first (q ∷ others) past paths rest (inl (one, more, is, can, own, h)) k = inl (one, more ++ rest, ap (λ (ps : List Path). ps ++ rest) is, can, own, followed_both p first others past more rest h k)
followed_both p first (q ∷ others) past paths rest (inr (impossible, h)) k = inr (impossible, followed_both p first others past paths rest h k)

insert_seam : {A : Type 0} (xs ys : List A) (x : A) → insert (xs ++ ys) (length xs) x ≡ xs ++ x ∷ ys
insert_seam [] [] x = refl
insert_seam [] (y ∷ ys) x = refl
insert_seam (z ∷ xs) ys x = ap (λ zs. z ∷ zs) (insert_seam xs ys x)

-- By the others before one and those after it, and then, in its place, by the path of that one.
pub grown_around : (p : ScriptPlan) (first next both : Path) (others old mid new : List Path) (at : ℕ) → slice_get others at ≡ Some next → IsPossiblePair (test_truth p.tests) first next → IsFollowed p first next both → GrowsByAll p first (take at others) old mid → GrowsByAll p first (drop (at + 1) others) mid new → GrowsByAll p first others old (insert new (length mid) both)
grown_around p first next both others old mid new at here possible followed h k = record {
  paths = h.paths ++ both ∷ k.paths;
  is = ap (λ (ps : List Path). insert ps (length mid) both) k.is ∙ insert_seam mid k.paths both
      ∙ ap (λ (ps : List Path). ps ++ both ∷ k.paths) h.is ∙ append_assoc old h.paths (both ∷ k.paths);
  are = subst (λ (ps : List Path). AreFollowed p first ps (h.paths ++ both ∷ k.paths)) whole
      (followed_both p first (take at others) (next ∷ drop (at + 1) others) h.paths (both ∷ k.paths) h.are (inl (both, k.paths, refl, possible, followed, k.are)));
}
  where
    whole : take at others ++ next ∷ drop (at + 1) others ≡ others
    whole = ap (λ (ps : List Path). take at others ++ ps) (sym (drop_get others at next here)) ∙ take-append-drop at others

-- One path more.
pub composed_more : (p : ScriptPlan) (path : Path) (left right paths new : List Path) → AreComposed p left right paths → GrowsByPath p path right paths new → AreComposed p (left ++ path ∷ []) right new
composed_more p path [] right paths new h g = (g.paths, [], g.is ∙ ap (λ (ps : List Path). ps ++ g.paths) h ∙ sym (append-nil g.paths), g.are, refl)
composed_more p path (q ∷ left) right paths new (first, rest, is, here, more) g = (
  first,
  rest ++ g.paths,
  g.is ∙ ap (λ (ps : List Path). ps ++ g.paths) is ∙ append_assoc first rest g.paths,
  here,
  composed_more p path left right rest (rest ++ g.paths) more (record { paths = g.paths; is = refl; are = g.are }),
)
