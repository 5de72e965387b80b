-- The steps of paths whose cells are known.
use Rattle.std.proofs.Common.{◌≡◌, ◌≤◌, ℕ, zero, suc, Bool, true, false, List, [], ◌∷◌, ◌++◌, Option, Some, ◌⊎◌, inl, inr, map, length, refl, sym, ap, ◌∙◌, subst, arith}
use Rattle.std.proofs.Math.Nat.{mul-le-mul_left}
use Rattle.std.proofs.lemmas.Simd.{map-map}
use Rattle.std.proofs.lemmas.List.Elements.{All-cons, All-head, All-nil, All-tail}
use Rattle.std.proofs.lemmas.List.{map-append}
use Rattle.std.proofs.lemmas.List.Sums.{sum_by-cons}
use Rattle.std.specs.List.{All, AllZip}
use Rattle.std.specs.Prelude.{slice_get, slice_set, if◌then◌else◌, Result, Ok, Err}
use Rattle.sym_base.specs.Tests.{Truth}
use Rattle.sym_base.specs.declared.values.record.Record.{Record}
use Rattle.sym_base.specs.declared.values.value.Value.{Value}
use Rattle.sym_base.specs.States.{with_cell}
use Rattle.sym_base.specs.declared.values.state.Cell.TheVariants as cell
use Rattle.sym_base.specs.declared.values.state.Fault.{Fault}
use Rattle.sym_base.specs.declared.values.state.FaultKind.{FaultKind}
use Rattle.sym_base.specs.declared.values.state.FaultKind.TheVariants as cause
use Rattle.sym_base.specs.declared.values.state.State.{State}
use Rattle.sym_base.specs.declared.values.state.Outcome.{Outcome}
use Rattle.sym_base.specs.declared.values.state.Outcome.TheVariants.{Going}
use Rattle.sym_base.specs.declared.values.state.Outcome.TheVariants as outcome
use Rattle.sym_check.specs.declared.evaluate.arithmetic.Arith.{Arith}
use Rattle.sym_check.specs.Meaning.Arithmetic.{and_then}
use Rattle.sym_check.specs.Meaning.Conditions.{test_truth, truth}
use Rattle.sym_check.specs.Meaning.Fitting.{FitsFault}
use Rattle.sym_check.specs.Meaning.FixedValues.{Environment, fixed_value, fixed_values}
use Rattle.sym_check.specs.Meaning.Updates.{at_record, dos_step, environment, environment_after, or_fault}
use Rattle.sym_check.specs.Plan.CondPlans.{CondPlan}
use Rattle.sym_check.specs.Plan.DoPlans.{DoPlan, DosPlan, If, Keep, Let, Then}
use Rattle.sym_check.specs.Plan.FixedPlans.{FixedPlan}
use Rattle.sym_check.specs.Plan.LinePlans.{TermPlan}
use Rattle.sym_check.specs.Plan.Ranges.{kept}
use Rattle.sym_check.specs.Plan.ScriptPlans.{ScriptPlan}
use Rattle.sym_int.specs.declared.form.IntForm.{IntForm}
use Rattle.sym_int.specs.declared.wide.Wide.TheVariants as wide
use Rattle.sym_int.specs.declared.wide.WideNumber.{WideNumber}
use Rattle.sym_pred.specs.declared.form.HoldForm.TheVariants as hold
use Rattle.sym_path.specs.Composing.{HaveFaultsAmong}
use Rattle.sym_path.proofs.Changed.{faults_fit, faults_give}
use Rattle.sym_path.proofs.Lists.{zip_length}
use Rattle.sym_path.specs.declared.form.Form.{Form}
use Rattle.sym_path.specs.declared.form.Form.TheVariants as form
use Rattle.sym_path.specs.declared.path.PathEnd.{PathEnd}
use Rattle.sym_path.specs.declared.path.PathEnd.TheVariants.{Next, Ended}
use Rattle.sym_path.specs.declared.path.Path.{Path}
use Rattle.sym_path.specs.Changing.{GoesOn, end_by, end_with_form, ended_by, with_fault, with_form}
use Rattle.sym_path.specs.Fitting.{PathFits}
use Rattle.sym_path.specs.Giving.{given, outcomes}
use Rattle.sym_path.specs.Standing.{EndsAmong}
use Rattle.sym_explore.proofs.AssignedLists.{store_fails}
use Rattle.sym_explore.proofs.AssignedNowhere.{ended_stays}
use Rattle.sym_explore.proofs.AssignedParts.{parts_fit_kept, parts_kept}
use Rattle.sym_explore.proofs.AssignedPaths.{form_goes, same_maps}
use Rattle.sym_explore.proofs.CountedPaths.{updates_go_on}
use Rattle.sym_explore.proofs.PathNumbers.{map_going}
use Rattle.sym_explore.proofs.PathRanges.{map_same}
use Rattle.sym_explore.proofs.RunLists.{after_then, after_update}
use Rattle.sym_explore.proofs.StoredPaths.{store_is}
use Rattle.sym_explore.proofs.TermRanges.{known_ranges, ready_ranges}
use Rattle.sym_explore.specs.Counting.{made_paths, most_grown, most_paths}
use Rattle.sym_explore.specs.Ending.{IsChanged}
use Rattle.sym_explore.specs.Faulting.{EndsSo, HasNumber}
use Rattle.sym_explore.specs.Growing.{IsExplored}
use Rattle.sym_explore.specs.Knowing.{DoIsKnown}
use Rattle.sym_explore.specs.Parting.{at_state}
use Rattle.sym_explore.specs.Placing.{TargetFits}
use Rattle.sym_explore.specs.Ranging.{KnownRanges, ranged}
use Rattle.sym_explore.specs.Stepping.{Becomes, after_do, after_dos, step_by}
use Rattle.sym_explore.specs.Storing.{IsParted, ReadyStores, after_store, store_do}
use Rattle.sym_explore.specs.Sure.{EndsAt, HoldsAfter, IsStepped, IsSteppedOn, IsSure, IsSureEnd, IsSurePath}
use Rattle.sym_explore.specs.Terms.{IsReadyOver, ready_number, ready_of}
use Rattle.sym_explore.specs.declared.places.Place.{Place}
use Rattle.sym_explore.specs.declared.places.Target.{Target}
use Rattle.sym_explore.specs.declared.terms.Ready.{Ready}

-- ---- ends

set_get : {A : Type 0} (xs : List A) (k i : ℕ) (v g : A) → slice_get (slice_set xs k v) i ≡ Some g → (g ≡ v) ⊎ (slice_get xs i ≡ Some g)
set_get [] k i v g e = inr e
set_get (x ∷ xs) zero zero v g e = let same : Some v ≡ Some g = e in inl (cc)
set_get (x ∷ xs) zero (suc i) v g e = inr e
set_get (x ∷ xs) (suc k) zero v g e = inr e
set_get (x ∷ xs) (suc k) (suc i) v g e = set_get xs k i v g e

-- A sure form in the place of another one.
pub form_sure : (c : ℕ) (f : Form) (end : PathEnd) → IsSure f → IsSureEnd end → IsSureEnd (end_with_form c f end)
form_sure c f (Next forms) own sure d g e =
    elim (set_get forms c d f g e) [
      | inl same ↦ subst IsSure (sym same) own
      | inr there ↦ sure d g there
    ]
form_sure c f (Ended fault) own sure d g e = absurd (cc)

pub failed_sure : (fault : Fault) (end : PathEnd) → IsSureEnd (end_by fault end)
failed_sure fault (Next forms) c f e = absurd (cc)
failed_sure fault (Ended old) c f e = absurd (cc)

failed_ends : (fault : Fault) (end : PathEnd) → GoesOn end → EndsAt fault.no (end_by fault end)
failed_ends fault (Next forms) h = refl
failed_ends fault (Ended old) h = absurd h

pub goes_ends : (n : ℕ) (end : PathEnd) → GoesOn end → EndsAt n end
goes_ends n (Next forms) h = tt
goes_ends n (Ended fault) h = absurd h

-- ---- steps

-- A step that is another one at each state that the path makes.
pub stepped_as : (p : ScriptPlan) (f g : Outcome → Outcome) (n : ℕ) (old new : Path) → GoesOn old.end → HoldsAfter p old (λ s. f (Going s) ≡ g (Going s)) → IsStepped p f n old new → IsStepped p g n old new
stepped_as p f g n old new goes same h = record {
  becomes = λ s. h.becomes s ∙ map_going (test_truth p.tests) old s f g goes (λ later e. same s later e);
  fits = h.fits;
  sure = h.sure;
  ends = h.ends;
}

-- A step that changes nothing.
pub stepped_none : (p : ScriptPlan) (f : Outcome → Outcome) (n : ℕ) (path : Path) → IsSurePath p path → HoldsAfter p path (λ s. f (Going s) ≡ Going s) → IsStepped p f n path path
stepped_none p f n path sure same = record {
  becomes = λ s. sym (map_going (test_truth p.tests) path s f (λ o. o) sure.goes_on (λ later e. same s later e) ∙ map_same (given (test_truth p.tests) path s));
  fits = sure.fits;
  sure = sure.sure;
  ends = goes_ends n path.end sure.goes_on;
}

-- The path fails.
pub stepped_failed : (p : ScriptPlan) (f : Outcome → Outcome) (n : ℕ) (fault : Fault) (old new : Path) → IsSurePath p old → new ≡ with_fault old fault → fault.kind ≡ cause.Arith → fault.no ≡ n → HoldsAfter p old (λ s. f (Going s) ≡ outcome.Ended (record { kind = cause.Arith; no = n })) → IsStepped p f n old new
stepped_failed p f n fault old new sure is kind numbered fails =
    subst (IsStepped p f n old) (sym is)
    (record {
      becomes = λ s. faults_give T s old fault ∙ map_going T old s (ended_by fault) f sure.goes_on (λ later e. ap (λ (x : Fault). outcome.Ended x) same ∙ sym (fails s later e));
      fits = faults_fit p old fault sure.fits (subst (FitsFault p) (sym kind) tt);
      sure = failed_sure fault old.end;
      ends = subst (λ (m : ℕ). EndsAt m (end_by fault old.end)) numbered (failed_ends fault old.end sure.goes_on);
    })
  where
    T : Truth
    T = test_truth p.tests

    same : fault ≡ record { kind = cause.Arith; no = n }
    same = λ i. record { kind = kind i; no = numbered i }

-- One step and then another.
then_becomes : (p : ScriptPlan) (f g both : Outcome → Outcome) (old mid new : Path) → ((o : Outcome) → g (f o) ≡ both o) → Becomes p f old mid → Becomes p g mid new → Becomes p both old new
then_becomes p f g both old mid new same h k s =
    let T = test_truth p.tests in
    k s ∙ ap (map g) (h s) ∙ map-map g f (given T old s) ∙ same_maps (λ o. g (f o)) both (given T old s) same

module _ (p : ScriptPlan) (k : Environment) (n : ℕ) (d : DoPlan) (rest : DosPlan) (old mid : Path) (first : IsStepped p (after_do p k n d) n old mid) where
  pub stepped_then : (new : Path) → IsStepped p (after_dos p (environment_after k d) n rest) n mid new → IsStepped p (after_dos p k n (Then d rest)) n old new
  stepped_then new h = record {
    becomes = then_becomes p (after_do p k n d) (after_dos p (environment_after k d) n rest) (after_dos p k n (Then d rest)) old mid new (after_then p k n d rest) first.becomes h.becomes;
    fits = h.fits;
    sure = h.sure;
    ends = h.ends;
  }

  -- Nothing more happens where the path has ended.
  pub stepped_over : ¬ (GoesOn mid.end) → IsStepped p (after_dos p k n (Then d rest)) n old mid
  stepped_over over = record {
    becomes = then_becomes p (after_do p k n d) (after_dos p (environment_after k d) n rest) (after_dos p k n (Then d rest)) old mid mid (after_then p k n d rest) first.becomes (ended_stays p (after_dos p (environment_after k d) n rest) mid (λ fault. refl) over);
    fits = first.fits;
    sure = first.sure;
    ends = first.ends;
  }

  pub sure_still : GoesOn mid.end → IsSurePath p mid
  sure_still goes = record { fits = first.fits; goes_on = goes; sure = first.sure }

-- ---- numbers

-- Nothing is added to no paths.
pub parted_alone : (p : ScriptPlan) (clamps : Bool) (f : Outcome → Outcome) (old new : Path) → IsParted p clamps f old [] new [] → Becomes p f old new
parted_alone p clamps f old new h s =
    let T = test_truth p.tests in
    let at = h s in
    let none : [] ≡ at.added = at.others in
    sym (map_same (given T new s)) ∙ ap (λ (os : List Outcome). os ++ map (λ o. o) (given T new s)) none ∙ at.gives

module _ (p : ScriptPlan) (target : Target) (x : WideNumber) (r : Ready) (old new : Path) (o : Option IntForm) (fits : TargetFits p target) (sure : IsSurePath p old) (h : KnownRanges (kept (ranged target.clamps target.ends) x.value) target.fault old new o) where
  pub ranged_stores : HoldsAfter p old (λ s. ready_number r s ≡ x.value) → ReadyStores p target r old [] new [] o
  ranged_stores is =
      let over : IsReadyOver p r old (wide.Const x) = record {
        goes_on = sure.goes_on;
        number = is;
        span = tt;
        fixed = λ t. refl;
      } in
      ready_ranges p r target (wide.Const x) old new [] [] o fits over (known_ranges target x old new p [] o h)

-- ---- values

values_are : {A : Type 0} (r : Result A Arith) (kind : FaultKind) → or_fault r ≡ Err kind → or_fault r ≡ Err cause.Arith
values_are (Ok x) kind e = absurd (cc)
values_are (Err x) kind e = refl

module _ (p : ScriptPlan) (k : Environment) (n : ℕ) (path : Path) (sure : IsSurePath p path) where
  pub kept_stepped : (c : ℕ) (es : List FixedPlan) (parts : List Value) (new : Path) → DoIsKnown p k (Keep c es) → or_fault (fixed_values k es) ≡ Ok parts → new ≡ with_form path c (form.Hold (hold.Const parts)) → IsStepped p (after_do p k n (Keep c es)) n path new
  kept_stepped c es parts new known e is =
      subst (IsStepped p (after_do p k n (Keep c es)) n path) (sym is)
      (record {
        becomes = parts_kept p k n c es path parts e;
        fits = parts_fit_kept p k n c es path parts sure.fits known e;
        sure = form_sure c (form.Hold (hold.Const parts)) path.end tt sure.sure;
        ends = goes_ends n (end_with_form c (form.Hold (hold.Const parts)) path.end) (form_goes c (form.Hold (hold.Const parts)) path.end sure.goes_on);
      })

-- ---- statements

still_goes : (old new : PathEnd) → EndsSo old new → GoesOn old → GoesOn new
still_goes (Next fs) (Next gs) h g = tt
still_goes (Next fs) (Ended b) h g = absurd h
still_goes (Ended a) new h g = absurd g

module _ (p : ScriptPlan) (k : Environment) (n : ℕ) (old new : Path) (sure : IsSurePath p old) where
  pub changed_stepped : (f : Outcome → Outcome) → IsChanged p f old new → IsSureEnd new.end → IsStepped p f n old new
  changed_stepped f h later = record {
    becomes = h.becomes;
    fits = h.fits;
    sure = later;
    ends = goes_ends n new.end (still_goes old.end new.end h.same sure.goes_on);
  }

  pub store_stepped : (at : Place) (t : TermPlan) (r : Ready) (target : Target) → ready_of k t ≡ Ok r → target.place ≡ at → target.fault.no ≡ n → IsStepped p (after_store p target.fault.no target.place r) target.fault.no old new → IsStepped p (after_do p k n (store_do at t)) n old new
  store_stepped at t r target e there numbered h =
      stepped_as p (after_store p n at r) (after_do p k n (store_do at t)) n old new sure.goes_on (λ s later g. store_is p k n at t r e (Going later))
      (subst (λ (m : ℕ). IsStepped p (after_store p m at r) m old new) numbered (subst (λ (q : Place). IsStepped p (after_store p target.fault.no q r) target.fault.no old new) there h))

  pub store_failing : (at : Place) (t : TermPlan) (x : Arith) (fault : Fault) → ready_of k t ≡ Err x → new ≡ with_fault old fault → fault.kind ≡ cause.Arith → fault.no ≡ n → IsStepped p (after_do p k n (store_do at t)) n old new
  store_failing at t x fault e is kind numbered =
      stepped_failed p (after_do p k n (store_do at t)) n fault old new sure is kind numbered
      (λ s later g. ap (at_record n) (store_fails p k n at t x e later))

  pub keep_failing : (c : ℕ) (es : List FixedPlan) (why : FaultKind) (fault : Fault) → or_fault (fixed_values k es) ≡ Err why → new ≡ with_fault old fault → fault.kind ≡ cause.Arith → fault.no ≡ n → IsStepped p (after_do p k n (Keep c es)) n old new
  keep_failing c es why fault e is kind numbered =
      stepped_failed p (after_do p k n (Keep c es)) n fault old new sure is kind numbered
      (λ s later g. ap (λ (r : Result (List Value) FaultKind). at_record n (and_then (λ (parts : List Value). Ok (with_cell later c (cell.Hold parts))) r)) (values_are (fixed_values k es) why e))

  pub let_failing : (c : ℕ) (e : FixedPlan) (why : FaultKind) (fault : Fault) → or_fault (fixed_value k e) ≡ Err why → new ≡ with_fault old fault → fault.kind ≡ cause.Arith → fault.no ≡ n → IsStepped p (after_do p k n (Let c e)) n old new
  let_failing c e why fault h is kind numbered =
      stepped_failed p (after_do p k n (Let c e)) n fault old new sure is kind numbered
      (λ s later g. ap (λ (r : Result Value FaultKind). at_record n (and_then (λ (v : Value). Ok later) r)) (values_are (fixed_value k e) why h))

  -- An `if` of which the condition is known, or fails.
  pub if_stepped : (c : CondPlan) (a b : DosPlan) (x : Bool) → HoldsAfter p old (λ s. or_fault (truth (test_truth p.tests) k c s) ≡ Ok x) → IsStepped p (after_dos p k n (if x then a else b)) n old new → IsStepped p (after_do p k n (If c a b)) n old new
  if_stepped c a b x is h =
      stepped_as p (after_dos p k n (if x then a else b)) (after_do p k n (If c a b)) n old new sure.goes_on
      (λ s later g. same x later ∙ ap (λ (r : Result Bool FaultKind). at_record n (and_then (λ (y : Bool). if y then dos_step p k a later else dos_step p k b later) r)) (sym (is s later g)))
      h
    where
      same : (x : Bool) (s : State) → at_record n (dos_step p k (if x then a else b) s) ≡ at_record n (if x then dos_step p k a s else dos_step p k b s)
      same true s = refl
      same false s = refl

  pub if_failing : (c : CondPlan) (a b : DosPlan) (why : FaultKind) (fault : Fault) → HoldsAfter p old (λ s. or_fault (truth (test_truth p.tests) k c s) ≡ Err why) → new ≡ with_fault old fault → fault.kind ≡ cause.Arith → fault.no ≡ n → IsStepped p (after_do p k n (If c a b)) n old new
  if_failing c a b why fault h is kind numbered =
      stepped_failed p (after_do p k n (If c a b)) n fault old new sure is kind numbered
      (λ s later g. ap (λ (r : Result Bool FaultKind). at_record n (and_then (λ (y : Bool). if y then dos_step p k a later else dos_step p k b later) r)) (values_are (truth (test_truth p.tests) k c later) why (h s later g)))

-- A local that gets its value.
pub let_stepped : (p : ScriptPlan) (k : Environment) (n c : ℕ) (e : FixedPlan) (v : Value) (path : Path) → IsSurePath p path → or_fault (fixed_value k e) ≡ Ok v → IsStepped p (after_do p k n (Let c e)) n path path
let_stepped p k n c e v path sure h =
    stepped_none p (after_do p k n (Let c e)) n path sure
    (λ s later g. ap (λ (r : Result Value FaultKind). at_record n (and_then (λ (w : Value). Ok later) r)) h)

-- ---- one record

ends_among : (n : ℕ) (records : List Record) (end : PathEnd) → EndsAt n end → HasNumber n records → EndsAmong records end
ends_among n records (Next forms) h has = tt
ends_among n records (Ended fault) h has = subst (λ (m : ℕ). HasNumber m records) (sym h) has

pub update_stepped : (p : ScriptPlan) (rec : Record) (locals : List Value) (old new : Path) → locals ≡ [] → IsStepped p (after_dos p (environment rec locals) rec.no p.update) rec.no old new → IsSteppedOn p rec old new
update_stepped p rec locals old new none h =
    let T = test_truth p.tests in
    let own : IsStepped p (after_dos p (environment rec []) rec.no p.update) rec.no old new = subst (λ (xs : List Value). IsStepped p (after_dos p (environment rec xs) rec.no p.update) rec.no old new) none h in
    record {
      becomes = λ s. own.becomes s ∙ same_maps (after_dos p (environment rec []) rec.no p.update) (step_by p rec) (given T old s) (after_update p rec);
      fits = own.fits;
      faults = λ records has ends. ends_among rec.no records new.end own.ends has;
    }

pub over_stepped : (p : ScriptPlan) (rec : Record) (path : Path) → PathFits p path → ¬ (GoesOn path.end) → IsSteppedOn p rec path path
over_stepped p rec path fits over = record {
  becomes = ended_stays p (step_by p rec) path (λ fault. refl) over;
  fits = fits;
  faults = λ records has ends. ends;
}

-- ---- all paths

pub all_stepped : (p : ScriptPlan) (rec : Record) (old new : List Path) → AllZip (IsSteppedOn p rec) old new → (s : State) → at_state p new s ≡ map (step_by p rec) (at_state p old s)
all_stepped p rec [] [] h s = refl
all_stepped p rec [] (y ∷ new) h s = absurd h
all_stepped p rec (x ∷ old) [] h s = absurd h
all_stepped p rec (x ∷ old) (y ∷ new) h s =
    let T = test_truth p.tests in
    (λ i. h.0.becomes s i ++ all_stepped p rec old new h.1 s i) ∙ sym (map-append (step_by p rec) (given T x s) (outcomes T old s))

pub all_fit : (p : ScriptPlan) (rec : Record) (old new : List Path) → AllZip (IsSteppedOn p rec) old new → All (PathFits p) new
all_fit p rec [] [] h = All-nil (PathFits p)
all_fit p rec [] (y ∷ new) h = absurd h
all_fit p rec (x ∷ old) [] h = absurd h
all_fit p rec (x ∷ old) (y ∷ new) h = All-cons (PathFits p) y new h.0.fits (all_fit p rec old new h.1)

pub all_came : (p : ScriptPlan) (rec : Record) (records : List Record) → HasNumber rec.no records → (old new : List Path) → AllZip (IsSteppedOn p rec) old new → HaveFaultsAmong records old → HaveFaultsAmong records new
all_came p rec records has [] [] h ends = ends
all_came p rec records has [] (y ∷ new) h ends = absurd h
all_came p rec records has (x ∷ old) [] h ends = absurd h
all_came p rec records has (x ∷ old) (y ∷ new) h ends =
    let P : Path → Type 0 = λ path. EndsAmong records path.end in
    All-cons P y new (h.0.faults records has (All-head P x old ends)) (all_came p rec records has old new h.1 (All-tail P x old ends))

-- Each path is one path after the record.
pub sure_explored : (p : ScriptPlan) (rec : Record) (old new : List Path) → AllZip (IsSteppedOn p rec) old new → IsExplored p rec old new
sure_explored p rec old new h = record {
  exact = λ s once. all_stepped p rec old new h s;
  fits = all_fit p rec old new h;
  few =
      let same = zip_length (IsSteppedOn p rec) old new h in
      let one : 1 ≤ made_paths p = omega (arith, updates_go_on p.cells p.update) in
      let more = mul-le-mul_left (length old) one in
      omega (arith, same, more);
  faults = λ records has ends. all_came p rec records has old new h ends;
}

-- There are no more than any bound on what each becomes allows.
pub sure_each_few : (p : ScriptPlan) (rec : Record) (old new : List Path) → AllZip (IsSteppedOn p rec) old new → length new ≤ most_grown (made_paths p) old
sure_each_few p rec old new h =
    let same = zip_length (IsSteppedOn p rec) old new h in
    omega (arith, same, at_least (made_paths p) (omega (arith, updates_go_on p.cells p.update)) old)
  where
    one_of : (most : ℕ) → 1 ≤ most → (end : PathEnd) → 1 ≤ most_paths end most
    one_of most some (Next forms) = some
    one_of most some (Ended fault) = omega arith

    at_least : (most : ℕ) → 1 ≤ most → (xs : List Path) → length xs ≤ most_grown most xs
    at_least most some [] = omega arith
    at_least most some (x ∷ xs) =
        let first = one_of most some x.end in
        let rest = at_least most some xs in
        let sum = sum_by-cons (λ (path : Path). most_paths path.end most) x xs in
        omega (arith, first, rest, sum)
