-- Segments taken a record further.
use Rattle.std.proofs.Common.{◌≡◌, ◌≤◌, ◌<◌, ◌+◌, ◌*◌, ◌++◌, ◌∷◌, ℕ, Bool, true, false, List, [], map, length, refl, sym, ap, ◌∙◌, subst, arith, length-append}
use Rattle.std.proofs.Math.Nat.{mul-le-mul_left}
use Rattle.std.proofs.lemmas.List.{append-nil, get_or_append_left, length-map}
use Rattle.std.proofs.lemmas.List.Elements.{All-append, All-nil, All-push, All-weaker}
use Rattle.std.proofs.lemmas.List.Quantifiers.{Any-push}
use Rattle.std.specs.List.{Any}
use Rattle.std.specs.Prelude.{IfOk, Result, Ok, Err, if◌then◌else◌}
use Rattle.sym_base.specs.declared.limits.TheConstants as limit
use Rattle.sym_base.specs.declared.values.record.Record.{Record}
use Rattle.sym_base.specs.declared.values.value.Value.{Value}
use Rattle.sym_base.specs.declared.values.state.State.{State}
use Rattle.sym_base.specs.declared.values.state.Outcome.{Outcome}
use Rattle.sym_base.specs.declared.values.state.Outcome.TheVariants.{Going}
use Rattle.sym_base.specs.declared.values.state.Outcome.TheVariants as outcome
use Rattle.sym_base.specs.Tests.{Truth}
use Rattle.sym_check.specs.Meaning.Conditions.{test_truth}
use Rattle.sym_check.specs.Meaning.PathBounds.{path_bound}
use Rattle.sym_check.specs.Plan.ScriptPlans.{ScriptPlan}
use Rattle.sym_check.specs.Meaning.Updates.{after, environment}
use Rattle.sym_check.specs.Meaning.Validity.{IsRecord, IsValid}
use Rattle.sym_check.specs.Plan.WellFormed.{IsWellFormed}
use Rattle.sym_check.proofs.PlanLaws.{after_more}
use Rattle.sym_path.specs.Composing.{HaveFaultsAmong}
use Rattle.sym_path.specs.declared.part.Part.{Part}
use Rattle.sym_path.specs.declared.path.Path.{Path}
use Rattle.sym_path.specs.declared.path.PathEnd.{PathEnd}
use Rattle.sym_path.specs.declared.path.PathEnd.TheVariants.{Next, Ended}
use Rattle.sym_path.specs.Admitting.{admits}
use Rattle.sym_path.specs.Changing.{GoesOn}
use Rattle.sym_path.specs.Fitting.{PathFits, SegmentFits}
use Rattle.sym_path.specs.Giving.{end_at, outcomes}
use Rattle.sym_path.specs.Identity.{AdmitsAll, IsWholeEnd, IsWholePath, LeavesAll}
use Rattle.sym_path.specs.Settling.{IsSettling}
use Rattle.sym_path.specs.Standing.{EndsAmong, StandsFor}
use Rattle.sym_path.proofs.Decided.{admits_decided}
use Rattle.sym_path.proofs.OnlyOutcomes.{only_outcome}
use Rattle.sym_path.proofs.SettlingStands.{settled_stand}
use Rattle.sym_explore.specs.Counting.{dos_ended, dos_going, made_paths}
use Rattle.sym_explore.specs.Ending.{AreMoved, AreParted}
use Rattle.sym_explore.specs.Faulting.{HasNumber}
use Rattle.sym_explore.specs.Growing.{GivesAfter, IsExplored, IsSegmentOf}
use Rattle.sym_explore.specs.Knowing.{DosAreKnown}
use Rattle.sym_explore.specs.Parting.{AllGoOn, AreFewRun, AreRun, at_state, those_ended, those_going}
use Rattle.sym_explore.specs.Running.{DosWereRun}
use Rattle.sym_explore.specs.Stepping.{after_dos, step_by}
use Rattle.sym_explore.proofs.CountedPaths.{bound_is_count, updates_go_on}
use Rattle.sym_explore.proofs.EndedLists.{moved_away, moved_count, moved_stay, outcomes_append, run_exact}
use Rattle.sym_explore.proofs.KnownParts.{update_known}
use Rattle.sym_explore.proofs.RunLists.{after_update, map_same, run_then}

-- What follows where a call answers.
pub when_answered : {A E : Type 0} {P Q : A → Type 0} (r : Result A E) → ((x : A) → P x → Q x) → IfOk r P → IfOk r Q
when_answered (Ok x) f h = f x h
when_answered (Err e) f h = tt

-- A record begins with no local.
pub known_update : (p : ScriptPlan) (rec : Record) (locals : List Value) → locals ≡ [] → IsWellFormed p → IsRecord p rec → DosAreKnown p (environment rec locals) p.update
known_update p rec locals none well is =
    subst (λ (xs : List Value). DosAreKnown p (environment rec xs) p.update) (sym none) (update_known p rec well is)

-- ---- one record

-- Paths of which those that have ended are moved away: no outcome changes.
pub apart : (p : ScriptPlan) (old going none ended : List Path) → none ≡ [] → AreMoved old going none ended → AllGoOn going → AreRun p (λ o. o) old going none ended
apart p old going none ended empty moves on =
    run_exact p (λ o. o) old old going none none ended same moves on
  where
    same : AreParted p false (λ o. o) old old none none
    same s once = record {
      added = [];
      others = sym (append-nil (at_state p none s));
      over = λ ends. refl;
      gives = sym (map_same (λ o. o) (at_state p old s) (λ o. refl));
    }

one_outcome : (os : List Outcome) → length os ≤ 1 → those_ended os ++ those_going os ≡ os
one_outcome [] once = refl
one_outcome (Going s ∷ []) once = refl
one_outcome (outcome.Ended fault ∷ []) once = refl
one_outcome (o ∷ q ∷ os) once = absurd (omega (arith, once))

module _ (p : ScriptPlan) (rec : Record) (old going none ended new after now : List Path) (empty : none ≡ []) (moves : AreMoved old going none ended) (on : AllGoOn going) (is : now ≡ after ++ new) where
  explored_gives : (locals : List Value) → locals ≡ [] → AreRun p (after_dos p (environment rec locals) rec.no p.update) going new ended after → GivesAfter p rec old now
  explored_gives locals fresh run s once =
      let tests = test_truth p.tests in
      let f = step_by p rec in
      let update : Outcome → Outcome = after_dos p (environment rec []) rec.no p.update in
      let step : AreRun p update going new ended after = subst (λ (xs : List Value). AreRun p (after_dos p (environment rec xs) rec.no p.update) going new ended after) fresh run in
      let all : AreRun p f old new none after = run_then (λ o. o) update f (λ fault. refl) (after_update p rec) p old going new none ended after (apart p old going none ended empty moves on) step in
      let at = all s once in
      let os = at_state p old s in
      let few : length (map f os) ≤ 1 = omega (arith, length-map os f, once) in
      ap (λ ps. outcomes tests ps s) is
      ∙ outcomes_append tests after new s
      ∙ ap (λ zs. zs ++ at_state p new s) (at.ended ∙ ap (λ ps. outcomes tests ps s ++ those_ended (map f os)) empty)
      ∙ ap (λ zs. those_ended (map f os) ++ zs) at.going
      ∙ one_outcome (map f os) few

  explored_few : AreFewRun (dos_going p.cells p.update) (dos_ended p.cells p.update) going new ended after → length now ≤ length old * made_paths p
  explored_few h =
      fewer (length going) (length ended) (length old) (made_paths p) (length now)
      (omega (arith, moved_count old going none ended moves, ap length empty)) (omega (arith, updates_go_on p.cells p.update)) (omega (arith, ap length is, length-append after new, h.all))
    where
      fewer : (g e o most n : ℕ) → g + e ≡ o → 1 ≤ most → n ≤ e + g * most → n ≤ o * most
      fewer g e o most n sum once h =
          let m : e * 1 ≤ e * most = mul-le-mul_left e once in
          let q : (g + e) * most ≡ o * most = ap (λ k. k * most) sum in
          omega (arith, m, q, h)

  explored_faults : (records : List Record) → AllGoOn new → HaveFaultsAmong records after → HaveFaultsAmong records now
  explored_faults records goes ends =
      let P : Path → Type 0 = λ path. EndsAmong records path.end in
      let G : Path → Type 0 = λ path. GoesOn path.end in
      subst (λ (ps : List Path). HaveFaultsAmong records ps) (sym is)
      (All-append P after new ends (All-weaker G P (λ path h. goes_among path.end h) new goes))
    where
      goes_among : (end : PathEnd) → GoesOn end → EndsAmong records end
      goes_among (Next forms) h = tt
      goes_among (Ended fault) h = absurd h

-- What is true of all of the paths is true of those that go on, and of those that have ended.
module _ (p : ScriptPlan) (old going none ended : List Path) (empty : none ≡ []) (moves : AreMoved old going none ended) where
  pub going_fit : SegmentFits p old → SegmentFits p going
  going_fit = moved_stay (PathFits p) old going none ended moves

  pub ended_fit : SegmentFits p old → SegmentFits p ended
  ended_fit h = moved_away (PathFits p) old going none ended moves h (subst (λ (ps : List Path). SegmentFits p ps) (sym empty) (All-nil (PathFits p)))

  ended_came : (records : List Record) → HaveFaultsAmong records old → HaveFaultsAmong records ended
  ended_came records h =
      let P : Path → Type 0 = λ path. EndsAmong records path.end in
      moved_away P old going none ended moves h (subst (λ (ps : List Path). HaveFaultsAmong records ps) (sym empty) (All-nil P))

-- What those that go on become, and those that have ended.
pub explored_run : (p : ScriptPlan) (rec : Record) (old going none ended new after now : List Path) → none ≡ [] → AreMoved old going none ended → AllGoOn going → now ≡ after ++ new → (locals : List Value) → locals ≡ [] → DosWereRun p (environment rec locals) rec.no p.update going new ended after → IsExplored p rec old now
explored_run p rec old going none ended new after now empty moves on is locals fresh h = record {
  exact = explored_gives p rec old going none ended new after now empty moves on is locals fresh h.exact;
  fits = subst (SegmentFits p) (sym is) (All-append (PathFits p) after new h.next.ended_fit h.next.fits);
  few = explored_few p rec old going none ended new after now empty moves on is h.few;
  faults = λ records has ends. explored_faults p rec old going none ended new after now empty moves on is records h.next.going (h.faults records has (ended_came p old going none ended empty moves records ends));
}

-- ---- one record more

any_longer : {A : Type 0} (P : A → Type 0) (xs ys : List A) → Any P xs → Any P (xs ++ ys)
any_longer P xs ys (k, x, within, is, h) =
    (k, x, omega (arith, length-append xs ys), get_or_append_left xs ys x k within ∙ is, h)

end_longer : (records : List Record) (rec : Record) (end : PathEnd) → EndsAmong records end → EndsAmong (records ++ rec ∷ []) end
end_longer records rec (Next forms) h = tt
end_longer records rec (Ended fault) h = any_longer (λ (r : Record). r.no ≡ fault.no) records (rec ∷ []) h

ends_longer : (records : List Record) (rec : Record) (paths : List Path) → HaveFaultsAmong records paths → HaveFaultsAmong (records ++ rec ∷ []) paths
ends_longer records rec paths h =
    let P : Path → Type 0 = λ path. EndsAmong records path.end in
    let Q : Path → Type 0 = λ path. EndsAmong (records ++ rec ∷ []) path.end in
    All-weaker P Q (λ path. end_longer records rec path.end) paths h

number_among : (records : List Record) (rec : Record) → HasNumber rec.no (records ++ rec ∷ [])
number_among records rec = Any-push (λ (r : Record). r.no ≡ rec.no) records rec refl

-- What is explored, with an equal plan and equal paths.
pub explored_of : (q p : ScriptPlan) (rec : Record) (items old new : List Path) → q ≡ p → items ≡ old → IsExplored q rec items new → IsExplored p rec old new
explored_of q p rec items old new same is h =
    subst (λ (paths : List Path). IsExplored p rec paths new) is (subst (λ (plan : ScriptPlan). IsExplored plan rec items new) same h)

pub record_of : (q p : ScriptPlan) (rec : Record) → q ≡ p → IsRecord p rec → IsRecord q rec
record_of q p rec same h = subst (λ (plan : ScriptPlan). IsRecord plan rec) (sym same) h

pub small_of : (q p : ScriptPlan) → q ≡ p → path_bound q ≤ limit.PATHS_MAX → path_bound p ≤ limit.PATHS_MAX
small_of q p same h = subst (λ (plan : ScriptPlan). path_bound plan ≤ limit.PATHS_MAX) same h

pub explored_stand : (p : ScriptPlan) (rec : Record) (records : List Record) (old new : List Path) → IsExplored p rec old new → StandsFor p records old → StandsFor p (records ++ rec ∷ []) new
explored_stand p rec records old new h stand = record {
  fits = h.fits;
  faults = h.faults (records ++ rec ∷ []) (number_among records rec) (ends_longer records rec old stand.faults);
  exact = λ s valid. (only_outcome (test_truth p.tests) new s (after p (records ++ rec ∷ []) (Going s))).0 (gives s valid);
}
  where
    gives : (s : State) → IsValid p s → outcomes (test_truth p.tests) new s ≡ after p (records ++ rec ∷ []) (Going s) ∷ []
    gives s valid =
        let one : outcomes (test_truth p.tests) old s ≡ after p records (Going s) ∷ [] = (only_outcome (test_truth p.tests) old s (after p records (Going s))).1 (stand.exact s valid) in
        h.exact s (omega (arith, ap length one))
        ∙ ap (map (step_by p rec)) one
        ∙ ap (λ (o : Outcome). o ∷ []) (sym (after_more p records rec (Going s)))

-- ---- the first record

whole_goes_on : (p : ScriptPlan) (when : List Part) (end : PathEnd) → IsWholeEnd p when end → EndsAmong [] end
whole_goes_on p when (Next forms) h = tt
whole_goes_on p when (Ended fault) h = absurd h

-- A path that leaves each valid state as it is.
pub record IsIdentity (p : ScriptPlan) (path : Path) : Type 0 where
  pub fits : PathFits p path
  pub admitted : AdmitsAll p path
  pub leaves : LeavesAll p path
  pub whole : IsWholePath p path

one_fits : (p : ScriptPlan) (path : Path) → PathFits p path → SegmentFits p (path ∷ [])
one_fits p path fits = All-push (PathFits p) [] path (All-nil (PathFits p)) fits

whole_stands : (p : ScriptPlan) (path : Path) → IsIdentity p path → StandsFor p [] (path ∷ [])
whole_stands p path h = record {
  fits = one_fits p path h.fits;
  faults =
      let P : Path → Type 0 = λ q. EndsAmong [] q.end in
      All-push P [] path (All-nil P) (whole_goes_on p path.when path.end h.whole);
  exact = λ s valid. (only_outcome (test_truth p.tests) (path ∷ []) s (Going s)).0 (gives s valid);
}
  where
    gives : (s : State) → IsValid p s → outcomes (test_truth p.tests) (path ∷ []) s ≡ Going s ∷ []
    gives s valid =
        let holds : admits (test_truth p.tests) path.when s.cells ≡ true = (admits_decided (test_truth p.tests) path.when s).1 (h.admitted (test_truth p.tests) s valid) in
        ap (λ (b : Bool). (if b then end_at path.end s ∷ [] else []) ++ []) holds ∙ ap (λ (o : Outcome). o ∷ []) (h.leaves s valid)

-- ---- what is settled

pub settled_explored : (p : ScriptPlan) (rec : Record) (records : List Record) (old new segment : List Path) → IsExplored p rec old new → IsSettling new segment → StandsFor p records old → StandsFor p (records ++ rec ∷ []) segment
settled_explored p rec records old new segment h settling stand =
    settled_stand p (records ++ rec ∷ []) new segment (explored_stand p rec records old new h stand) settling

first_settled : (p : ScriptPlan) (rec : Record) (path : Path) (new segment : List Path) → IsExplored p rec (path ∷ []) new → IsSettling new segment → IsIdentity p path → StandsFor p (rec ∷ []) segment
first_settled p rec path new segment h settling identity =
    settled_explored p rec [] (path ∷ []) new segment h settling (whole_stands p path identity)

pub settled_gives : (p : ScriptPlan) (rec : Record) (old new segment : List Path) → IsExplored p rec old new → IsSettling new segment → GivesAfter p rec old segment
settled_gives p rec old new segment h settling s once =
    let tests : Truth = test_truth p.tests in
    let gives = h.exact s once in
    let few : length (outcomes tests new s) ≤ 1 = omega (arith, ap length gives, length-map (outcomes tests old s) (step_by p rec), once) in
    settling.reduced.same tests s few ∙ gives

-- ---- how many

pub few_counted : (n : ℕ) → n ≤ limit.PATHS_MAX → n < limit.PATHS_COUNTED
few_counted n h = omega arith

-- The path bound of an accepted script is its count of paths.
pub settled_few : (p : ScriptPlan) (rec : Record) (old new segment : List Path) → path_bound p ≤ limit.PATHS_MAX → IsExplored p rec old new → IsSettling new segment → length segment ≤ length old * path_bound p
settled_few p rec old new segment small h settling =
    within (length segment) (length new) (length old) (made_paths p) (path_bound p) (bound_is_count p (few_counted (path_bound p) small)) h.few settling.reduced.few
  where
    within : (a b c d e : ℕ) → d ≡ e → b ≤ c * d → a ≤ b → a ≤ c * e
    within a b c d e same few less = let g : c * d ≡ c * e = ap (λ (n : ℕ). c * n) same in omega arith

first_few : (p : ScriptPlan) (rec : Record) (path : Path) (new segment : List Path) → path_bound p ≤ limit.PATHS_MAX → IsExplored p rec (path ∷ []) new → IsSettling new segment → length segment ≤ path_bound p
first_few p rec path new segment small h settling =
    let few : length segment ≤ 1 * path_bound p = settled_few p rec (path ∷ []) new segment small h settling in
    omega arith

-- What the paths of one record are settled to is its segment.
pub first_segment : (p : ScriptPlan) (rec : Record) (path : Path) (new segment : List Path) → path_bound p ≤ limit.PATHS_MAX → IsExplored p rec (path ∷ []) new → IsSettling new segment → IsIdentity p path → IsSegmentOf p rec segment
first_segment p rec path new segment small h settling identity = record {
  settled = settling.settled;
  fits = settling.reduced.fits p h.fits;
  few = first_few p rec path new segment small h settling;
  stands = first_settled p rec path new segment h settling identity;
}
