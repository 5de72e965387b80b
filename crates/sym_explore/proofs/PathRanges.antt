-- A path that is parted by whether a number over a cell lies in a range.
use Rattle.std.proofs.Common.{◌≡◌, ◌≢◌, ◌+◌, ◌≤◌, ℕ, suc, ℤ, pos, negsuc, neg_ℤ, ◌+ℤ◌, ◌*ℤ◌, ◌<ℤ◌, ◌≤ℤ◌, Bool, true, false, List, [], ◌∷◌, ◌++◌, Option, Some, None, inl, inr, map, length, refl, sym, ap, ◌∙◌, subst, append_assoc, arith}
use Rattle.std.proofs.lemmas.Int.{ints, by_lt_z}
use Rattle.std.proofs.lemmas.List.{append-nil, length-append}
use Rattle.std.proofs.lemmas.List.Elements.{All-push}
use Rattle.std.specs.Prelude.{slice_get, slice_set, IfSome, if◌then◌else◌}
use Rattle.sym_base.specs.States.{number_at}
use Rattle.sym_base.specs.Tests.{Truth}
use Rattle.sym_base.specs.declared.values.record.Record.{Record}
use Rattle.sym_base.specs.declared.values.state.Cell.TheVariants as cell
use Rattle.sym_base.specs.declared.values.state.Fault.{Fault}
use Rattle.sym_base.specs.declared.values.state.State.{State}
use Rattle.sym_base.specs.declared.values.state.Outcome.{Outcome}
use Rattle.sym_base.specs.declared.values.state.Outcome.TheVariants.{Going}
use Rattle.sym_base.specs.declared.values.state.Outcome.TheVariants as outcome
use Rattle.sym_check.specs.Meaning.Conditions.{test_truth}
use Rattle.sym_check.specs.Plan.Ranges.{kept}
use Rattle.sym_check.specs.Plan.ScriptPlans.{ScriptPlan}
use Rattle.sym_int.proofs.Products.{opposites, times_keeps}
use Rattle.sym_int.specs.Fits.{IsFitted, IsInside, inside_span}
use Rattle.sym_int.specs.Lines.{form_on, wide_cell, wide_on, wide_value}
use Rattle.sym_int.specs.Parts.{Above, Below, Within}
use Rattle.sym_int.specs.Points.{HasPoint, IsPart}
use Rattle.sym_int.specs.Taken.{IsCellIn, IsTaken}
use Rattle.sym_int.specs.declared.fits.Fitted.{Fitted}
use Rattle.sym_int.specs.declared.fits.Inside.{Inside}
use Rattle.sym_int.specs.declared.form.IntForm.{IntForm}
use Rattle.sym_int.specs.declared.form.IntForm.TheVariants as form
use Rattle.sym_int.specs.declared.span.Span.{Span}
use Rattle.sym_int.specs.declared.wide.Wide.{Wide}
use Rattle.sym_path.specs.Composing.{HaveFaultsAmong}
use Rattle.sym_path.proofs.Changed.{faults_give}
use Rattle.sym_path.specs.Admitting.{admits}
use Rattle.sym_path.specs.Changing.{GoesOn, changed, end_by, ended_by, with_fault}
use Rattle.sym_path.specs.Fitting.{NumberFits, PathFits, SegmentFits, StaysWithin}
use Rattle.sym_path.specs.Giving.{end_at, given, outcomes}
use Rattle.sym_path.specs.Narrowing.{GivesWhere, IsSubspan, NarrowsNumbers, NumberIsPutAtEnd, NumbersNarrowed}
use Rattle.sym_path.specs.Standing.{EndsAmong}
use Rattle.sym_path.specs.Taking.{HasOneNumber, NumberIsTakenTo}
use Rattle.sym_path.specs.declared.part.Part.{Part}
use Rattle.sym_path.specs.declared.part.Part.TheVariants as part
use Rattle.sym_path.specs.declared.path.Path.{Path}
use Rattle.sym_path.specs.declared.path.PathEnd.{PathEnd}
use Rattle.sym_path.specs.declared.path.PathEnd.TheVariants.{Next, Ended}
use Rattle.sym_explore.proofs.PathNumbers.{number_is_held, given_none, given_in, given_out, wide_at}
use Rattle.sym_explore.specs.Faulting.{FaultsCameAt, HasNumber}
use Rattle.sym_explore.specs.Parting.{those_going}
use Rattle.sym_explore.specs.Ranging.{IsPartPushed, IsPartedAt, IsWholeOn, NumberFitsOn, form_stored, kept_stored, ranged}
use Rattle.sym_explore.specs.Placing.{TargetRanges, put_at, target_stored}
use Rattle.sym_explore.specs.declared.places.Target.{Target}
use Rattle.sym_explore.proofs.KeptNumbers.{kept_in, kept_out}

-- ---- paths, and one more

pub outcomes_push : (truth : Truth) (paths : List Path) (q : Path) (s : State) → outcomes truth (paths ++ q ∷ []) s ≡ outcomes truth paths s ++ given truth q s
outcomes_push truth [] q s = append-nil (given truth q s)
outcomes_push truth (x ∷ paths) q s =
    ap (λ (os : List Outcome). given truth x s ++ os) (outcomes_push truth paths q s)
    ∙ sym (append_assoc (given truth x s) (outcomes truth paths s) (given truth q s))

-- ---- a path that ends by a fault

pub goes_among : (records : List Record) (end : PathEnd) → GoesOn end → EndsAmong records end
goes_among records (Next forms) h = tt
goes_among records (Ended fault) h = absurd h

fault_ends : (fault : Fault) (end : PathEnd) → ¬ (GoesOn (end_by fault end))
fault_ends fault (Next forms) h = h
fault_ends fault (Ended old) h = h

end_stays : (c : ℕ) (x : ℤ) (end : PathEnd) → ¬ (GoesOn end) → NumberIsPutAtEnd c x end end
end_stays c x (Next forms) over = absurd (over tt)
end_stays c x (Ended fault) over = refl

-- A path that has ended is narrowed by its span alone.
pub narrowed_ended : (c : ℕ) (span : Span) (old new : Path) → new.when ≡ slice_set old.when c (part.Span span) → new.end ≡ old.end → ¬ (GoesOn old.end) → NumbersNarrowed c span old new
narrowed_ended c span old new when end over = record {
  when = when;
  one = λ e. subst (NumberIsPutAtEnd c span.lo old.end) (sym end) (end_stays c span.lo old.end over);
  more = λ below. end;
}

pub going_append : (xs ys : List Outcome) → those_going (xs ++ ys) ≡ those_going xs ++ those_going ys
going_append [] ys = refl
going_append (Going s ∷ xs) ys = ap (λ (os : List Outcome). Going s ∷ os) (going_append xs ys)
going_append (outcome.Ended fault ∷ xs) ys = going_append xs ys

-- What a path gives that has ended.
pub over_gives : (truth : Truth) (path : Path) (s : State) → ¬ (GoesOn path.end) → those_going (given truth path s) ≡ []
over_gives truth path s over = go path.end (admits truth path.when s.cells) over
  where
    go : (end : PathEnd) (a : Bool) → ¬ (GoesOn end) → those_going (if a then end_at end s ∷ [] else []) ≡ []
    go (Next forms) a h = absurd (h tt)
    go (Ended fault) true h = refl
    go (Ended fault) false h = refl

-- Nothing is added to the others.
pub nothing_added : (p : ScriptPlan) (clamps : Bool) (step stays : Outcome → Outcome) (old : Path) (before : List Path) (path : Path) (s : State) → map stays (given (test_truth p.tests) path s) ≡ map step (given (test_truth p.tests) old s) → IsPartedAt p clamps step stays old before path before s
nothing_added p clamps step stays old before path s e = record {
  added = [];
  others = sym (append-nil (outcomes (test_truth p.tests) before s));
  over = λ ends. refl;
  gives = e;
}

-- ---- a part that is pushed

module _ (p : ScriptPlan) (c : ℕ) (fault : Fault) (old : Path) where
  part_fits : (o : Option Span) (before after : List Path) → IsPartPushed p c o fault old before after → SegmentFits p before → SegmentFits p after
  part_fits None before after h others = subst (SegmentFits p) (sym h) others
  part_fits (Some span) before after h others = subst (SegmentFits p) (sym h.is) (All-push (PathFits p) before h.pushed others h.fits)

  part_length : (o : Option Span) (before after : List Path) → IsPartPushed p c o fault old before after → length after ≤ length before + 1
  part_length None before after h = let e = ap length h in omega (arith, e)
  part_length (Some span) before after h = let e = ap length h.is in let f = length-append before (h.pushed ∷ []) in omega (arith, e, f)

  part_faults : (records : List Record) (o : Option Span) (before after : List Path) → GoesOn old.end → HasNumber fault.no records → IsPartPushed p c o fault old before after → HaveFaultsAmong records before → HaveFaultsAmong records after
  part_faults records None before after goes here h others = subst (HaveFaultsAmong records) (sym h) others
  part_faults records (Some span) before after goes here h others =
      subst (HaveFaultsAmong records) (sym h.is)
      (All-push (λ (q : Path). EndsAmong records q.end) before h.pushed others (subst (EndsAmong records) (sym h.end) (came old.end goes)))
    where
      came : (end : PathEnd) → GoesOn end → EndsAmong records (end_by fault end)
      came (Next forms) g = here
      came (Ended f) g = absurd g

-- ---- what the parts give

-- What is given where the cell holds a number with the property, and nothing elsewhere.
pub record IsGivenWhere (truth : Truth) (old : Path) (c : ℕ) (span : Span) (s : State) (property : ℤ → Type 0) (wanted gives : List Outcome) : Type 0 where
  pub none : given truth old s ≡ [] → gives ≡ []
  pub here : slice_get s.cells c ≡ Some (cell.Int (number_at s c)) → HasPoint span (number_at s c) → property (number_at s c) → gives ≡ wanted
  pub away : slice_get s.cells c ≡ Some (cell.Int (number_at s c)) → HasPoint span (number_at s c) → ¬ (property (number_at s c)) → gives ≡ []

module _ (p : ScriptPlan) (c : ℕ) (old : Path) (span : Span) (s : State) where
  abbrev all : List Outcome
  all = given (test_truth p.tests) old s

  fault_none : (fault : Fault) → all ≡ [] → given (test_truth p.tests) (with_fault old fault) s ≡ []
  fault_none fault e = faults_give (test_truth p.tests) s old fault ∙ ap (map (ended_by fault)) e

  -- The paths after a part is pushed: those before, and what is given on the part, which has ended.
  part_given : (o : Option Span) (property : ℤ → Type 0) (fault : Fault) (before after : List Path) → IsPart property o → IsPartPushed p c o fault old before after →
      (gives : List Outcome) × (outcomes (test_truth p.tests) after s ≡ outcomes (test_truth p.tests) before s ++ gives)
      × IsGivenWhere (test_truth p.tests) old c span s property (map (ended_by fault) all) gives × (those_going gives ≡ [])
  part_given None property fault before after is pushed = (
    [],
    ap (λ (ps : List Path). outcomes (test_truth p.tests) ps s) pushed ∙ sym (append-nil (outcomes (test_truth p.tests) before s)),
    record { none = λ e. refl; here = λ h x q. absurd (is (number_at s c) q); away = λ h x n. refl },
    refl,
  )
  part_given (Some part_span) property fault before after is pushed =
      let T = test_truth p.tests in
      let q : Path = pushed.pushed in
      let ended : Path = with_fault old fault in (
        given T q s,
        ap (λ (ps : List Path). outcomes T ps s) pushed.is ∙ outcomes_push T before q s,
        record {
          none = λ e. given_none T ended q c part_span s pushed.gives (fault_none fault e);
          here = λ h x g. given_in T ended q c part_span s (number_at s c) pushed.gives h ((is (number_at s c)).1 g) ∙ faults_give T s old fault;
          away = λ h x n. given_out T ended q c part_span s (number_at s c) pushed.gives h (λ g. n ((is (number_at s c)).0 g));
        },
        over_gives T q s (λ g. fault_ends fault old.end (subst GoesOn pushed.end g)),
      )

pub map_same : (os : List Outcome) → map (λ (o : Outcome). o) os ≡ os
map_same [] = refl
map_same (o ∷ os) = ap (λ (rest : List Outcome). o ∷ rest) (map_same os)

-- Three lists of which one is what is wanted, and the others are empty.
first_of : (a b d w : List Outcome) → a ≡ w → b ≡ [] → d ≡ [] → a ++ (b ++ d) ≡ w
first_of a b d w e f g = rw (e, f, g) (append-nil w)

second_of : (a b d w : List Outcome) → a ≡ [] → b ≡ w → d ≡ [] → a ++ (b ++ d) ≡ w
second_of a b d w e f g = rw (e, f, g) (append-nil w)

third_of : (a b d w : List Outcome) → a ≡ [] → b ≡ [] → d ≡ w → a ++ (b ++ d) ≡ w
third_of a b d w e f g = rw (e, f, g) refl

-- What is given on a span of the cell, where the same becomes of all that it gives.
pub narrowed_given : (truth : Truth) (old path : Path) (c : ℕ) (span part_span : Span) (s : State) (property : ℤ → Type 0) (change : Outcome → Outcome) (gives : List Outcome) → IsPart property (Some part_span) → GivesWhere old c (part.Span part_span) path → gives ≡ map change (given truth path s) → IsGivenWhere truth old c span s property (map change (given truth old s)) gives
narrowed_given truth old path c span part_span s property change gives is narrowed e = record {
  none = λ none. e ∙ ap (map change) (given_none truth old path c part_span s narrowed none);
  here = λ h x g. e ∙ ap (map change) (given_in truth old path c part_span s (number_at s c) narrowed h ((is (number_at s c)).1 g));
  away = λ h x n. e ∙ ap (map change) (given_out truth old path c part_span s (number_at s c) narrowed h (λ g. n ((is (number_at s c)).0 g)));
}

-- What is given on a part that isn't there.
pub nothing_given : (truth : Truth) (old : Path) (c : ℕ) (span : Span) (s : State) (property : ℤ → Type 0) (wanted : List Outcome) → IsPart property None → IsGivenWhere truth old c span s property wanted []
nothing_given truth old c span s property wanted is = record {
  none = λ e. refl;
  here = λ h x g. absurd (is (number_at s c) g);
  away = λ h x n. refl;
}

module _ (p : ScriptPlan) (c : ℕ) (old : Path) (span range : Span) (number : Wide) (is : slice_get old.when c ≡ Some (part.Span span)) (names : wide_cell number ≡ Some c) where
  -- Below, above and within the range, the parts give what comes of the number.
  pub parts_give : (made below above within : Outcome → Outcome) (s : State) (low high mid : List Outcome) →
      (wide_value number s <ℤ range.lo → made ≡ below) →
      (range.hi <ℤ wide_value number s → made ≡ above) →
      (HasPoint range (wide_value number s) → made ≡ within) →
      IsGivenWhere (test_truth p.tests) old c span s (Below span number range.lo) (map below (given (test_truth p.tests) old s)) low →
      IsGivenWhere (test_truth p.tests) old c span s (Above span number range.hi) (map above (given (test_truth p.tests) old s)) high →
      IsGivenWhere (test_truth p.tests) old c span s (Within span number range) (map within (given (test_truth p.tests) old s)) mid →
      low ++ (high ++ mid) ≡ map made (given (test_truth p.tests) old s)
  parts_give made below above within s low high mid is_below is_above is_within l h m =
      let os : List Outcome = given (test_truth p.tests) old s in
      let same_map : (f : Outcome → Outcome) → made ≡ f → map f os ≡ map made os = λ f e. ap (λ (g : Outcome → Outcome). map g os) (sym e) in
      elim (number_is_held (test_truth p.tests) old s c span is) [
        | inl none ↦ first_of low high mid _ (l.none none ∙ sym (ap (map made) none)) (h.none none) (m.none none)
        | inr (held, point) ↦
            let x : ℤ = number_at s c in
            let same : wide_value number s ≡ wide_on number x = wide_at number c s names in
            let ordered : range.lo ≤ℤ range.hi = range.ordered in
            by_lt_z (wide_on number x) range.lo
            (λ low_is.
            first_of low high mid _ (l.here held point (point, low_is) ∙ same_map below (is_below (omega (arith, ints, same, low_is))))
            (h.away held point (λ g. let k = g.1 in omega (arith, ints, k, low_is, ordered)))
            (m.away held point (λ g. let k = g.1.0 in omega (arith, ints, k, low_is))))
            (λ not_low.
            by_lt_z range.hi (wide_on number x)
            (λ high_is.
            second_of low high mid _
            (l.away held point (λ g. let k = g.1 in omega (arith, ints, k, not_low)))
            (h.here held point (point, high_is) ∙ same_map above (is_above (omega (arith, ints, same, high_is))))
            (m.away held point (λ g. let k = g.1.1 in omega (arith, ints, k, high_is))))
            (λ not_high.
            let there : HasPoint range (wide_on number x) = (omega (arith, ints), omega (arith, ints)) in
            let inside : HasPoint range (wide_value number s) = subst (HasPoint range) (sym same) there in
            third_of low high mid _
            (l.away held point (λ g. let k = g.1 in omega (arith, ints, k, not_low)))
            (h.away held point (λ g. let k = g.1 in omega (arith, ints, k, not_high)))
            (m.here held point (point, there) ∙ same_map within (is_within inside))))
      ]

-- ---- what the range of a target keeps

module _ (wide : Wide) (target : Target) (s : State) where
  pub kept_makes : (x : ℤ) → kept (ranged target.clamps target.ends) (wide_value wide s) ≡ Some x → target_stored wide target s ≡ changed (put_at target.place x)
  kept_makes x e = ap (λ (o : Option ℤ). kept_stored o target.fault (put_at target.place)) e

  pub none_makes : kept (ranged target.clamps target.ends) (wide_value wide s) ≡ None → target_stored wide target s ≡ ended_by target.fault
  none_makes e = ap (λ (o : Option ℤ). kept_stored o target.fault (put_at target.place)) e

  pub inside_makes : HasPoint target.ends (wide_value wide s) → target_stored wide target s ≡ changed (put_at target.place (wide_value wide s))
  inside_makes h = kept_makes (wide_value wide s) (kept_in target.clamps target.ends (wide_value wide s) h)

-- No number over the cell is in the range: the path ends.
pub none_inside : (p : ScriptPlan) (c : ℕ) (old : Path) (span : Span) (number : Wide) (target : Target) → target.clamps ≡ false → slice_get old.when c ≡ Some (part.Span span) → wide_cell number ≡ Some c → (before : List Path) → IsPart (Within span number target.ends) None → TargetRanges p target number old before (with_fault old target.fault) before None
none_inside p c old span number target ends is names before outside s =
    let T = test_truth p.tests in
    let os : List Outcome = given T old s in
    nothing_added p target.clamps (target_stored number target s) (λ (o : Outcome). o) old before (with_fault old target.fault) s
    (elim (number_is_held T old s c span is) [
      | inl none ↦ map_same (given T (with_fault old target.fault) s) ∙ faults_give T s old target.fault ∙ ap (map (ended_by target.fault)) none ∙ sym (ap (map (target_stored number target s)) none)
      | inr (held, point) ↦
          let out : ¬ (HasPoint target.ends (wide_value number s)) = λ g. outside (number_at s c) (point, subst (HasPoint target.ends) (wide_at number c s names) g) in
          map_same (given T (with_fault old target.fault) s) ∙ faults_give T s old target.fault
          ∙ ap (λ (f : Outcome → Outcome). map f os) (sym (none_makes number target s (kept_out target.clamps target.ends (wide_value number s) ends out)))
    ])

-- ---- the number on the path

ends_of_points : (a b : Span) → ((x : ℤ) → HasPoint a x → HasPoint b x) → IsSubspan b a
ends_of_points a b h =
    let ordered : a.lo ≤ℤ a.hi = a.ordered in
    let first = h a.lo (omega (arith, ints), ordered) in
    let last = h a.hi (ordered, omega (arith, ints)) in
    (first.0, last.1)

one_point : (when : List Part) (c : ℕ) (x : ℤ) (span : Span) → slice_get when c ≡ Some (part.Span span) → HasOneNumber when c x → span.lo ≡ span.hi
one_point when c x span is one =
    let same : part.Span one.span ≡ part.Span span = cc in
    let equal : one.span ≡ span = cc in
    sym (ap (λ (q : Span). q.lo) equal) ∙ one.lo ∙ sym one.hi ∙ ap (λ (q : Span). q.hi) equal

two_ends : (a : Span) → a.lo ≢ a.hi → a.lo <ℤ a.hi
two_ends a n = let o : a.lo ≤ℤ a.hi = a.ordered in by_lt_z a.lo a.hi (λ p. p) (λ q. absurd (n (omega (arith, ints))))

module _ (when : List Part) (c : ℕ) (span range : Span) (number : ℤ → ℤ) (is : slice_get when c ≡ Some (part.Span span)) (within : (x : ℤ) → HasPoint span x → HasPoint range (number x)) where
  taken_fits : (f : IntForm) → IsTaken number (Some c) span f → NumberFits range.lo range.hi when f
  taken_fits (form.Const n) h =
      let ordered : span.lo ≤ℤ span.hi = span.ordered in
      let first : HasPoint span span.lo = (omega (arith, ints), ordered) in
      subst (HasPoint range) (sym (h.same span.lo first)) (within span.lo first)
  taken_fits (form.Line line) h =
      let more : span.lo <ℤ span.hi = two_ends span (λ e. let none = h.one e in absurd (cc)) in
      let named : Some line.cell ≡ Some c = h.more more in
      let same : line.cell ≡ c = cc in
      subst (λ (o : Option Part). StaysWithin range.lo range.hi (form_on (form.Line line)) o)
      (sym (ap (λ (k : ℕ). slice_get when k) same ∙ is))
      (λ x point. subst (HasPoint range) (sym (h.same x point)) (within x point))

  taken_is_taken : (f : IntForm) → IsTaken number (Some c) span f → NumberIsTakenTo when f f
  taken_is_taken (form.Const n) h = record { one = λ d x e o. absurd (cc); more = λ none. refl }
  taken_is_taken (form.Line line) h =
      let more : span.lo <ℤ span.hi = two_ends span (λ e. let none = h.one e in absurd (cc)) in
      let named : Some line.cell ≡ Some c = h.more more in
      record {
        one = λ d x e o.
            let same : d ≡ c = cc in
            let there : HasOneNumber when c x = subst (λ (k : ℕ). HasOneNumber when k x) same o in
            let ends = one_point when c x span is there in
            absurd (omega (arith, ints, ends, more));
        more = λ none. refl;
      }

-- ---- a number that is in the range on the whole path

-- A number between two lies, along a line, between their numbers.
pub line_between : (a b lo hi x first last : ℤ) → lo ≤ℤ x → x ≤ℤ hi → first ≤ℤ (a *ℤ lo +ℤ b) → (a *ℤ lo +ℤ b) ≤ℤ last → first ≤ℤ (a *ℤ hi +ℤ b) → (a *ℤ hi +ℤ b) ≤ℤ last → (first ≤ℤ (a *ℤ x +ℤ b)) × ((a *ℤ x +ℤ b) ≤ℤ last)
line_between (pos k) b lo hi x first last l h p q r t =
    let one = times_keeps k lo x l in
    let two = times_keeps k x hi h in
    (omega (arith, ints), omega (arith, ints))
line_between (negsuc k) b lo hi x first last l h p q r t =
    let less : neg_ℤ x ≤ℤ neg_ℤ lo = omega (arith, ints) in
    let more : neg_ℤ hi ≤ℤ neg_ℤ x = omega (arith, ints) in
    let one : (neg_ℤ (negsuc k) *ℤ neg_ℤ x) ≤ℤ (neg_ℤ (negsuc k) *ℤ neg_ℤ lo) = times_keeps (suc k) (neg_ℤ x) (neg_ℤ lo) less in
    let two : (neg_ℤ (negsuc k) *ℤ neg_ℤ hi) ≤ℤ (neg_ℤ (negsuc k) *ℤ neg_ℤ x) = times_keeps (suc k) (neg_ℤ hi) (neg_ℤ x) more in
    let e = opposites (negsuc k) x in
    let f = opposites (negsuc k) lo in
    let g = opposites (negsuc k) hi in
    (omega (arith, ints), omega (arith, ints))

module _ (c : ℕ) (old : Path) (target : Target) (number : Wide) (f : IntForm) (names : wide_cell number ≡ Some c) (whole : IsWholeOn number c target.ends old f) where
  pub whole_ranges : (p : ScriptPlan) (before : List Path) → TargetRanges p target number old before old before (Some f)
  whole_ranges p before s =
      let T = test_truth p.tests in
      let os : List Outcome = given T old s in
      let put : ℤ → State → State = put_at target.place in
      nothing_added p target.clamps (target_stored number target s) (form_stored (Some f) put s) old before old s
      (elim (number_is_held T old s c whole.span whole.is) [
        | inl none ↦ ap (map (form_stored (Some f) put s)) none ∙ sym (ap (map (target_stored number target s)) none)
        | inr (held, point) ↦
            let cell_in : IsCellIn (wide_cell number) whole.span s = subst (λ (o : Option ℕ). IsCellIn o whole.span s) (sym names) point in
            let inside : HasPoint target.ends (wide_value number s) = subst (HasPoint target.ends) (sym (wide_at number c s names)) (whole.within (number_at s c) point) in
            ap (λ (y : ℤ). map (changed (put y)) os) (whole.value s cell_in) ∙ ap (λ (g : Outcome → Outcome). map g os) (sym (inside_makes number target s inside))
      ])

  pub whole_number : GoesOn old.end → NumberFitsOn target.ends.lo target.ends.hi old f
  whole_number goes =
      let taken : IsTaken (wide_on number) (Some c) whole.span f = subst (λ (o : Option ℕ). IsTaken (wide_on number) o whole.span f) names whole.form in
      record {
        goes_on = goes;
        fits = taken_fits old.when c whole.span target.ends (wide_on number) whole.is whole.within f taken;
        taken = taken_is_taken old.when c whole.span target.ends (wide_on number) whole.is whole.within f taken;
      }

-- ---- the parts of a fitted span

part_narrows : (o : Option Span) (property : ℤ → Type 0) (span : Span) (old : Option Part) → old ≡ Some (part.Span span) → IsPart property o → ((x : ℤ) → property x → HasPoint span x) → IfSome o (λ q. NarrowsNumbers q old)
part_narrows None property span old e h within = tt
part_narrows (Some q) property span old e h within =
    let narrower : IsSubspan span q = ends_of_points q span (λ x point. within x ((h x).0 point)) in
    subst (NarrowsNumbers q) (sym e) narrower

pub below_narrows : (span range : Span) (number : Wide) (fitted : Fitted) → IsFitted span number range fitted → (old : Option Part) → old ≡ Some (part.Span span) → IfSome fitted.below (λ q. NarrowsNumbers q old)
below_narrows span range number fitted fits old is = part_narrows fitted.below (Below span number range.lo) span old is fits.below (λ x h. h.0)

pub above_narrows : (span range : Span) (number : Wide) (fitted : Fitted) → IsFitted span number range fitted → (old : Option Part) → old ≡ Some (part.Span span) → IfSome fitted.above (λ q. NarrowsNumbers q old)
above_narrows span range number fitted fits old is = part_narrows fitted.above (Above span number range.hi) span old is fits.above (λ x h. h.0)

-- The path on the part inside, with the number of its form there.
pub inside_given : (p : ScriptPlan) (c : ℕ) (old path : Path) (span range : Span) (number : Wide) (inside : Inside) → wide_cell number ≡ Some c → IsPart (Within span number range) (Some inside.span) → IsInside number inside → GivesWhere old c (part.Span inside.span) path → (store : ℤ → State → State) (s : State) →
    IsGivenWhere (test_truth p.tests) old c span s (Within span number range) (map (changed (store (wide_value number s))) (given (test_truth p.tests) old s)) (map (form_stored (Some inside.form) store s) (given (test_truth p.tests) path s))
inside_given p c old path span range number inside names is inside_form gives store s =
    let T = test_truth p.tests in
    record {
      none = λ e. ap (map (form_stored (Some inside.form) store s)) (given_none T old path c inside.span s gives e);
      here = λ h x g.
          let point : HasPoint inside.span (number_at s c) = (is (number_at s c)).1 g in
          let cell_in : IsCellIn (wide_cell number) inside.span s = subst (λ (o : Option ℕ). IsCellIn o inside.span s) (sym names) point in
          ap (map (form_stored (Some inside.form) store s)) (given_in T old path c inside.span s (number_at s c) gives h point)
          ∙ ap (λ (y : ℤ). map (changed (store y)) (given T old s)) (inside_form.value s cell_in);
      away = λ h x n. ap (map (form_stored (Some inside.form) store s)) (given_out T old path c inside.span s (number_at s c) gives h (λ point. n ((is (number_at s c)).0 point)));
    }

-- ---- a path that is parted

-- The number of the part inside, on a path with this span.
module _ (c : ℕ) (span range : Span) (number : Wide) (fitted : Fitted) (inside : Inside) (names : wide_cell number ≡ Some c) (fits : IsFitted span number range fitted) (some : fitted.inside ≡ Some inside) where
  pub inside_points : IsPart (Within span number range) (Some inside.span)
  inside_points = subst (λ (o : Option Inside). IsPart (Within span number range) (inside_span o)) some fits.inside

  pub inside_is : IsInside number inside
  inside_is = subst (λ (o : Option Inside). IfSome o (IsInside number)) some fits.form

  pub parts_number : (path : Path) → GoesOn path.end → slice_get path.when c ≡ Some (part.Span inside.span) → NumberFitsOn range.lo range.hi path inside.form
  parts_number path goes has =
      let taken : IsTaken (wide_on number) (Some c) inside.span inside.form = subst (λ (o : Option ℕ). IsTaken (wide_on number) o inside.span inside.form) names inside_is.form in
      let in_range : (x : ℤ) → HasPoint inside.span x → HasPoint range (wide_on number x) = λ x point. ((inside_points x).0 point).1 in
      record {
        goes_on = goes;
        fits = taken_fits path.when c inside.span range (wide_on number) has in_range inside.form taken;
        taken = taken_is_taken path.when c inside.span range (wide_on number) has in_range inside.form taken;
      }

pub parts_range : (p : ScriptPlan) (c : ℕ) (old path : Path) (span : Span) (number : Wide) (target : Target) (fitted : Fitted) (inside : Inside) (before between after : List Path) → target.clamps ≡ false →
    slice_get old.when c ≡ Some (part.Span span) → wide_cell number ≡ Some c → IsFitted span number target.ends fitted → fitted.inside ≡ Some inside →
    IsPartPushed p c fitted.below target.fault old before between → IsPartPushed p c fitted.above target.fault old between after →
    GivesWhere old c (part.Span inside.span) path → TargetRanges p target number old before path after (Some inside.form)
parts_range p c old path span number target fitted inside before between after ends is names fits some low high gives s =
    let T = test_truth p.tests in
    let put : ℤ → State → State = put_at target.place in
    let x : ℤ = wide_value number s in
    let points = inside_points c span target.ends number fitted inside names fits some in
    let form_is = inside_is c span target.ends number fitted inside names fits some in
    let under = part_given p c old span s fitted.below (Below span number target.ends.lo) target.fault before between fits.below low in
    let over = part_given p c old span s fitted.above (Above span number target.ends.hi) target.fault between after fits.above high in
    let mid = map (form_stored (Some inside.form) put s) (given T path s) in
    let ended : ¬ (HasPoint target.ends x) → target_stored number target s ≡ ended_by target.fault = λ out. none_makes number target s (kept_out target.clamps target.ends x ends out) in
    record {
      added = under.0 ++ over.0;
      others = over.1 ∙ ap (λ (os : List Outcome). os ++ over.0) under.1 ∙ append_assoc (outcomes T before s) under.0 over.0;
      over = λ q. going_append under.0 over.0 ∙ (λ i. under.3 i ++ over.3 i);
      gives = append_assoc under.0 over.0 mid
          ∙ parts_give p c old span target.ends number is names (target_stored number target s) (ended_by target.fault) (ended_by target.fault) (changed (put x)) s under.0 over.0 mid
          (λ less. ended (λ h. let k = h.0 in omega (arith, ints, k, less)))
          (λ more. ended (λ h. let k = h.1 in omega (arith, ints, k, more)))
          (inside_makes number target s)
          under.2 over.2 (inside_given p c old path span target.ends number inside names points form_is gives put s);
    }

module _ (p : ScriptPlan) (c : ℕ) (old : Path) (fault : Fault) (fitted : Fitted) (before between after : List Path)
    (low : IsPartPushed p c fitted.below fault old before between) (high : IsPartPushed p c fitted.above fault old between after) where
  pub parts_fit : SegmentFits p before → SegmentFits p after
  parts_fit others = part_fits p c fault old fitted.above between after high (part_fits p c fault old fitted.below before between low others)

  pub parts_few : length after ≤ length before + 2
  parts_few =
      let a = part_length p c fault old fitted.below before between low in
      let b = part_length p c fault old fitted.above between after high in
      omega (arith, a, b)

  pub parts_faults : (path : Path) → GoesOn old.end → GoesOn path.end → FaultsCameAt fault.no old before path after
  parts_faults path goes goes_on records here ends others = (
    goes_among records path.end goes_on,
    part_faults p c fault old records fitted.above between after goes here high (part_faults p c fault old records fitted.below before between goes here low others),
  )
