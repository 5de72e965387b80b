-- Lists of paths on which an assignment was run.
use Rattle.std.proofs.Common.{◌≡◌, ◌≤◌, ◌+◌, ◌*◌, ℕ, ℤ, Bool, false, List, [], ◌∷◌, ◌++◌, map, length, refl, sym, ap, ◌∙◌, subst, arith}
use Rattle.std.proofs.Math.Nat.{mul-le-mul_left}
use Rattle.std.proofs.lemmas.List.{append-nil, length-map, map-append}
use Rattle.std.proofs.lemmas.List.Elements.{All-nil, All-cons, All-head, All-tail}
use Rattle.std.proofs.lemmas.List.Sorted.{IsPermutation-refl}
use Rattle.std.specs.Prelude.{OnOk, Result, Ok, Err, if◌then◌else◌}
use Rattle.std.specs.List.{All, AllZip}
use Rattle.std.specs.List.Sorted.{IsPermutation}
use Rattle.sym_base.specs.declared.values.record.Record.{Record}
use Rattle.sym_base.specs.declared.values.state.Fault.{Fault}
use Rattle.sym_base.specs.declared.values.state.Cell.TheVariants as cell
use Rattle.sym_base.specs.declared.values.state.FaultKind.{FaultKind}
use Rattle.sym_base.specs.declared.values.state.FaultKind.TheVariants as cause
use Rattle.sym_base.specs.declared.values.state.State.{State}
use Rattle.sym_base.specs.declared.values.state.Outcome.{Outcome}
use Rattle.sym_base.specs.declared.values.state.Outcome.TheVariants.{Going}
use Rattle.sym_base.specs.declared.values.state.Outcome.TheVariants as outcome
use Rattle.sym_base.specs.declared.values.value.Value.{Value}
use Rattle.sym_base.specs.States.{with_cell}
use Rattle.sym_check.specs.declared.evaluate.arithmetic.Arith.{Arith}
use Rattle.sym_check.specs.Meaning.Arithmetic.{and_then}
use Rattle.sym_check.specs.Meaning.Conditions.{test_truth}
use Rattle.sym_check.specs.Plan.DoPlans.{DoPlan, Let, SetInt, SetEnum, CopyEnum, Keep, KeepFrom, PushNum, PushWord, If}
use Rattle.sym_check.specs.Meaning.Fitting.{FitsFault}
use Rattle.sym_check.specs.Plan.FixedPlans.{FixedPlan}
use Rattle.sym_check.specs.Meaning.FixedValues.{Environment, fixed_values}
use Rattle.sym_check.specs.Plan.LinePlans.{TermPlan}
use Rattle.sym_check.specs.Plan.Ranges.{is_clamped}
use Rattle.sym_check.specs.Plan.ScriptPlans.{ScriptPlan}
use Rattle.sym_check.specs.Meaning.Updates.{at_record, do_step, or_fault, stored, with_int, with_pushed}
use Rattle.sym_pred.specs.declared.form.HoldForm.TheVariants as hold
use Rattle.sym_path.specs.Composing.{HaveFaultsAmong}
use Rattle.sym_path.proofs.Changed.{faults_fit, faults_give}
use Rattle.sym_path.proofs.Lists.{zip_all, zip_length}
use Rattle.sym_path.specs.declared.form.Form.TheVariants as form
use Rattle.sym_path.specs.declared.path.Path.{Path}
use Rattle.sym_path.specs.declared.path.PathEnd.{PathEnd}
use Rattle.sym_path.specs.declared.path.PathEnd.TheVariants.{Next, Ended}
use Rattle.sym_path.specs.Changing.{GoesOn, end_by, ended_by, with_fault}
use Rattle.sym_path.specs.Fitting.{PathFits, SegmentFits}
use Rattle.sym_path.specs.Giving.{given, outcomes}
use Rattle.sym_path.specs.Standing.{EndsAmong}
use Rattle.sym_explore.specs.Assigning.{EndsNone, with_parts}
use Rattle.sym_explore.specs.Counting.{do_ended, do_going, store_ended, store_going}
use Rattle.sym_explore.specs.Ending.{AreMoved, AreParted, IsChanged}
use Rattle.sym_explore.specs.Faulting.{EndsSo, HasNumber}
use Rattle.sym_explore.specs.Knowing.{DoIsKnown, TermIsKnown}
use Rattle.sym_explore.specs.Parting.{AllGoOn}
use Rattle.sym_explore.specs.Running.{DoWasRun, WereRun}
use Rattle.sym_explore.specs.Stepping.{after_do}
use Rattle.sym_explore.specs.Placing.{PlaceFits, place_cell}
use Rattle.sym_explore.specs.Storing.{after_store, store_do}
use Rattle.sym_explore.specs.Terms.{ready_of}
use Rattle.sym_explore.specs.declared.places.Place.{Place}
use Rattle.sym_explore.specs.declared.places.Place.TheVariants as place
use Rattle.sym_explore.specs.declared.places.Target.{Target}
use Rattle.sym_explore.specs.declared.terms.Ready.{Ready}
use Rattle.sym_explore.proofs.AssignedKnown.{push_cell, push_term, set_cell, set_term}
use Rattle.sym_explore.proofs.AssignedParts.{parts_fit_kept, parts_kept}
use Rattle.sym_explore.proofs.AssignedPaths.{formed_end}
use Rattle.sym_explore.proofs.CountedPaths.{store_goes_on}
use Rattle.sym_explore.proofs.PathRanges.{goes_among}
use Rattle.sym_explore.proofs.StoredPaths.{store_is, were_run}
use Rattle.sym_explore.proofs.TermForms.{ready_fails}

-- ---- all paths, one by one

still_goes : (old new : PathEnd) → EndsSo old new → GoesOn old → GoesOn new
still_goes (Next fs) (Next gs) h g = tt
still_goes (Next fs) (Ended b) h g = absurd h
still_goes (Ended a) new h g = absurd g

all_among : (records : List Record) (paths : List Path) → AllGoOn paths → HaveFaultsAmong records paths
all_among records [] h = All-nil (λ (q : Path). EndsAmong records q.end)
all_among records (x ∷ paths) h =
    All-cons (λ (q : Path). EndsAmong records q.end) x paths
    (goes_among records x.end (All-head (λ (q : Path). GoesOn q.end) x paths h))
    (all_among records paths (All-tail (λ (q : Path). GoesOn q.end) x paths h))

-- Nothing is added to the others.
none_added : (p : ScriptPlan) (step : Outcome → Outcome) (old new before : List Path) → ((s : State) → outcomes (test_truth p.tests) new s ≡ map step (outcomes (test_truth p.tests) old s)) → AreParted p false step old new before before
none_added p step old new before e s few = record {
  added = [];
  others = sym (append-nil (outcomes (test_truth p.tests) before s));
  over = λ ends. refl;
  gives = e s;
}

-- ---- paths that all go on

module _ (p : ScriptPlan) (step : Outcome → Outcome) where
  changed_give : (old new : List Path) → AllZip (IsChanged p step) old new → (s : State) → outcomes (test_truth p.tests) new s ≡ map step (outcomes (test_truth p.tests) old s)
  changed_give [] [] h s = refl
  changed_give [] (y ∷ new) h s = absurd h
  changed_give (x ∷ old) [] h s = absurd h
  changed_give (x ∷ old) (y ∷ new) h s =
      let T = test_truth p.tests in
      (λ i. h.0.becomes s i ++ changed_give old new h.1 s i) ∙ sym (map-append step (given T x s) (outcomes T old s))

  pub changed_run : (n : ℕ) (old new before : List Path) → AllZip (IsChanged p step) old new → SegmentFits p old → AllGoOn old → SegmentFits p before → WereRun p step n 1 0 old new before before
  changed_run n old new before h fit goes others =
      let on : AllGoOn new = zip_all (IsChanged p step) (λ (q : Path). GoesOn q.end) (λ (q : Path). GoesOn q.end) old new (λ x y c g. still_goes x.end y.end c.same g) h goes in
      let fits : SegmentFits p new = zip_all (IsChanged p step) (PathFits p) (PathFits p) old new (λ x y c f. c.fits) h fit in
      let stay : AreMoved new new before before = record {
        moved = [];
        is = sym (append-nil before);
        same = subst (IsPermutation new) (sym (append-nil new)) (IsPermutation-refl new);
        over = All-nil (λ (q : Path). ¬ (GoesOn q.end));
      } in
      were_run p step n 0 old new new before before before (none_added p step old new before (changed_give old new h)) fits others (sym (zip_length (IsChanged p step) old new h)) (omega arith) (λ records here ends. (all_among records new on, ends)) stay on

-- ---- paths that all fail

module _ (p : ScriptPlan) (fault : Fault) where
  abbrev failing : Path → Path
  failing path = with_fault path fault

  failed_give : (old : List Path) (s : State) → outcomes (test_truth p.tests) (map failing old) s ≡ map (ended_by fault) (outcomes (test_truth p.tests) old s)
  failed_give [] s = refl
  failed_give (x ∷ old) s =
      let T = test_truth p.tests in
      (λ i. faults_give T s x fault i ++ failed_give old s i) ∙ sym (map-append (ended_by fault) (given T x s) (outcomes T old s))

  failed_fit : (old : List Path) → FitsFault p fault.kind → SegmentFits p old → SegmentFits p (map failing old)
  failed_fit [] kind h = All-nil (PathFits p)
  failed_fit (x ∷ old) kind h = All-cons (PathFits p) (failing x) (map failing old) (faults_fit p x fault (All-head (PathFits p) x old h) kind) (failed_fit old kind (All-tail (PathFits p) x old h))

  failed_among : (records : List Record) (old : List Path) → HasNumber fault.no records → AllGoOn old → HaveFaultsAmong records (map failing old)
  failed_among records [] here h = All-nil (λ (q : Path). EndsAmong records q.end)
  failed_among records (x ∷ old) here h =
      All-cons (λ (q : Path). EndsAmong records q.end) (failing x) (map failing old)
      (came x.end (All-head (λ (q : Path). GoesOn q.end) x old h))
      (failed_among records old here (All-tail (λ (q : Path). GoesOn q.end) x old h))
    where
      came : (end : PathEnd) → GoesOn end → EndsAmong records (end_by fault end)
      came (Next forms) g = here
      came (Ended f) g = absurd g

  failed_over : (old : List Path) → All (λ (q : Path). ¬ (GoesOn q.end)) (map failing old)
  failed_over [] = All-nil (λ (q : Path). ¬ (GoesOn q.end))
  failed_over (x ∷ old) = All-cons (λ (q : Path). ¬ (GoesOn q.end)) (failing x) (map failing old) (over x.end) (failed_over old)
    where
      over : (end : PathEnd) → ¬ (GoesOn (end_by fault end))
      over (Next forms) = λ g. g
      over (Ended f) = λ g. g

  pub failed_run : (old new before after : List Path) → new ≡ [] → after ≡ before ++ map failing old → FitsFault p fault.kind → SegmentFits p old → AllGoOn old → SegmentFits p before → WereRun p (ended_by fault) fault.no 1 0 old new before after
  failed_run old new before after none is kind fit goes others =
      let moved : AreMoved (map failing old) new before after = record {
        moved = map failing old;
        is = is;
        same = subst (λ (ps : List Path). IsPermutation (map failing old) (ps ++ map failing old)) (sym none) (IsPermutation-refl (map failing old));
        over = failed_over old;
      } in
      let on : AllGoOn new = subst AllGoOn (sym none) (All-nil (λ (q : Path). GoesOn q.end)) in
      were_run p (ended_by fault) fault.no 0 old (map failing old) new before before after (none_added p (ended_by fault) old (map failing old) before (failed_give old)) (failed_fit old kind fit) others (length-map old failing) (omega arith) (λ records here ends. (failed_among records old here goes, ends)) moved on

-- ---- the same step, and more paths

pub run_as : (p : ScriptPlan) (f g : Outcome → Outcome) (n most_going most_ended : ℕ) (old new before after : List Path) → ((o : Outcome) → f o ≡ g o) → WereRun p f n most_going most_ended old new before after → WereRun p g n most_going most_ended old new before after
run_as p f g n m e old new before after same h = subst (λ (step : Outcome → Outcome). WereRun p step n m e old new before after) (λ i o. same o i) h

pub run_more : (p : ScriptPlan) (step : Outcome → Outcome) (n g e : ℕ) (old new before after : List Path) → 1 ≤ g → WereRun p step n 1 0 old new before after → WereRun p step n g e old new before after
run_more p step n g e old new before after some h =
    let going : length old * 1 ≤ length old * g = mul-le-mul_left (length old) some in
    let more : 1 + 0 ≤ g + e = omega arith in
    let all : length old * (1 + 0) ≤ length old * (g + e) = mul-le-mul_left (length old) more in
    record {
      exact = h.exact;
      next = h.next;
      few = record { going = omega (arith, h.few.going, going); all = omega (arith, h.few.all, all) };
      faults = h.faults;
    }

-- The counts of a statement that ends no path.
pub run_none : (p : ScriptPlan) (step : Outcome → Outcome) (n : ℕ) (d : DoPlan) (old new before after : List Path) → EndsNone d → WereRun p step n 1 0 old new before after → WereRun p step n (do_going p.cells d) (do_ended p.cells d) old new before after
run_none p step n (Let m e) old new before after none h = absurd none
run_none p step n (SetInt c t) old new before after none h = absurd none
run_none p step n (SetEnum c l) old new before after none h = h
run_none p step n (CopyEnum c d) old new before after none h = h
run_none p step n (Keep c es) old new before after none h = absurd none
run_none p step n (KeepFrom c d) old new before after none h = h
run_none p step n (PushNum c t) old new before after none h = absurd none
run_none p step n (PushWord c w) old new before after none h = h
run_none p step n (If c a b) old new before after none h = absurd none

-- A statement that fails at each state.
pub fails_as : (p : ScriptPlan) (k : Environment) (n : ℕ) (d : DoPlan) (kind : FaultKind) → ((s : State) → do_step p k d s ≡ Err kind) → (o : Outcome) → ended_by (record { kind = kind; no = n }) o ≡ after_do p k n d o
fails_as p k n d kind e (Going s) = ap (at_record n) (sym (e s))
fails_as p k n d kind e (outcome.Ended fault) = refl

-- ---- parts that are kept

module _ (p : ScriptPlan) (k : Environment) (n c : ℕ) (es : List FixedPlan) (parts : List Value) (known : DoIsKnown p k (Keep c es)) (is : or_fault (fixed_values k es) ≡ Ok parts) where
  abbrev keeping : Path → Path
  keeping path = with_parts path c parts

  kept_zip : (old : List Path) → SegmentFits p old → AllZip (IsChanged p (after_do p k n (Keep c es))) old (map keeping old)
  kept_zip [] h = tt
  kept_zip (x ∷ old) h = (
    record {
      becomes = parts_kept p k n c es x parts is;
      fits = parts_fit_kept p k n c es x parts (All-head (PathFits p) x old h) known is;
      same = formed_end c (form.Hold (hold.Const parts)) x.end;
    },
    kept_zip old (All-tail (PathFits p) x old h),
  )

  pub kept_run : (old new before : List Path) → new ≡ map keeping old → SegmentFits p old → AllGoOn old → SegmentFits p before → WereRun p (after_do p k n (Keep c es)) n 1 0 old new before before
  kept_run old new before e fit goes others =
      changed_run p (after_do p k n (Keep c es)) n old new before
      (subst (λ (ps : List Path). AllZip (IsChanged p (after_do p k n (Keep c es))) old ps) (sym e) (kept_zip old fit))
      fit goes others

-- ---- outcomes of calls

pub on_ok : {A E P Q : Type 0} (r : Result A E) → (P → Q) → OnOk r P → OnOk r Q
on_ok (Ok x) f h = f h
on_ok (Err e) f h = tt

pub on_ok_both : {A E P Q R : Type 0} (r : Result A E) → OnOk r P → OnOk r Q → (P → Q → R) → OnOk r R
on_ok_both (Ok x) h k f = f h k
on_ok_both (Err e) h k f = tt

-- ---- a number that is stored

module _ (p : ScriptPlan) (k : Environment) (n : ℕ) (at : Place) (t : TermPlan) where
  pub store_term : DoIsKnown p k (store_do at t) → TermIsKnown p k t
  store_term = go at
    where
      go : (at : Place) → DoIsKnown p k (store_do at t) → TermIsKnown p k t
      go (place.Cell c) h = set_term p k c t h
      go (place.End c) h = push_term p k c t h

  pub store_place : DoIsKnown p k (store_do at t) → PlaceFits p at
  store_place = go at
    where
      go : (at : Place) → DoIsKnown p k (store_do at t) → PlaceFits p at
      go (place.Cell c) h = set_cell p k c t h
      go (place.End c) h = push_cell p k c t h

  pub store_fails : (x : Arith) → ready_of k t ≡ Err x → (s : State) → do_step p k (store_do at t) s ≡ Err cause.Arith
  store_fails x e s = go at
    where
      go : (at : Place) → do_step p k (store_do at t) s ≡ Err cause.Arith
      go (place.Cell c) = ap (λ (r : Result ℤ Arith). and_then (λ (y : ℤ). stored p c (with_int c) y s) (or_fault r)) (ready_fails k t x e s)
      go (place.End c) = ap (λ (r : Result ℤ Arith). and_then (λ (y : ℤ). stored p c (with_pushed c) y s) (or_fault r)) (ready_fails k t x e s)

  -- The counts of paths are those of the place's cell.
  store_done : (old new before after : List Path) → WereRun p (after_do p k n (store_do at t)) n (store_going p.cells (place_cell at)) (store_ended p.cells (place_cell at)) old new before after → DoWasRun p k n (store_do at t) old new before after
  store_done old new before after = go at
    where
      go : (at : Place) → WereRun p (after_do p k n (store_do at t)) n (store_going p.cells (place_cell at)) (store_ended p.cells (place_cell at)) old new before after → DoWasRun p k n (store_do at t) old new before after
      go (place.Cell c) h = h
      go (place.End c) h = h

  -- Its arithmetic failed.
  pub store_failed : (x : Arith) (fault : Fault) (old new before after : List Path) → ready_of k t ≡ Err x → fault.kind ≡ cause.Arith → fault.no ≡ n → WereRun p (ended_by fault) fault.no 1 0 old new before after → DoWasRun p k n (store_do at t) old new before after
  store_failed x fault old new before after e kind number h =
      let same : fault ≡ record { kind = cause.Arith; no = n } = λ i. record { kind = kind i; no = number i } in
      let own : WereRun p (ended_by (record { kind = cause.Arith; no = n })) n 1 0 old new before after = subst (λ (f : Fault). WereRun p (ended_by f) f.no 1 0 old new before after) same h in
      store_done old new before after
      (run_more p (after_do p k n (store_do at t)) n (store_going p.cells (place_cell at)) (store_ended p.cells (place_cell at)) old new before after (store_goes_on (is_clamped p.cells (place_cell at)))
      (run_as p (ended_by (record { kind = cause.Arith; no = n })) (after_do p k n (store_do at t)) n 1 0 old new before after (fails_as p k n (store_do at t) cause.Arith (store_fails x e)) own))

  -- It was stored at the target.
  pub store_run : (r : Ready) (target : Target) (clamps : Bool) (old new before after : List Path) → ready_of k t ≡ Ok r → target.place ≡ at → target.fault.no ≡ n → is_clamped p.cells (place_cell at) ≡ clamps →
      WereRun p (after_store p target.fault.no target.place r) target.fault.no (if clamps then 3 else 1) (if clamps then 0 else 2) old new before after →
      DoWasRun p k n (store_do at t) old new before after
  store_run r target clamps old new before after e there number is h =
      let own : WereRun p (after_store p n at r) n (if clamps then 3 else 1) (if clamps then 0 else 2) old new before after =
      subst (λ (m : ℕ). WereRun p (after_store p m at r) m (if clamps then 3 else 1) (if clamps then 0 else 2) old new before after) number
      (subst (λ (a : Place). WereRun p (after_store p target.fault.no a r) target.fault.no (if clamps then 3 else 1) (if clamps then 0 else 2) old new before after) there h) in
      store_done old new before after
      (subst (λ (b : Bool). WereRun p (after_do p k n (store_do at t)) n (if b then 3 else 1) (if b then 0 else 2) old new before after) (sym is)
      (run_as p (after_store p n at r) (after_do p k n (store_do at t)) n (if clamps then 3 else 1) (if clamps then 0 else 2) old new before after (store_is p k n at t r e) own))

-- ---- values that fail

pub values_fail : (r : Result (List Value) Arith) (kind : FaultKind) → or_fault r ≡ Err kind → kind ≡ cause.Arith
values_fail (Ok xs) kind e = absurd (cc)
values_fail (Err x) kind e = let same : cause.Arith ≡ kind = cc in sym same

pub values_failed : (p : ScriptPlan) (k : Environment) (n c : ℕ) (es : List FixedPlan) (kind : FaultKind) (old new before after : List Path) → or_fault (fixed_values k es) ≡ Err kind → WereRun p (ended_by (record { kind = kind; no = n })) n 1 0 old new before after → WereRun p (after_do p k n (Keep c es)) n 1 0 old new before after
values_failed p k n c es kind old new before after e h =
    run_as p (ended_by (record { kind = kind; no = n })) (after_do p k n (Keep c es)) n 1 0 old new before after
    (fails_as p k n (Keep c es) kind (λ s. ap (λ (r : Result (List Value) FaultKind). and_then (λ (parts : List Value). Ok (with_cell s c (cell.Hold parts))) r) e))
    h
