-- Paths that get a number, where they stand.
use Rattle.std.proofs.Common.{◌≡◌, ◌≤◌, ◌+◌, ◌*◌, ℕ, ℤ, Bool, true, false, List, [], ◌∷◌, ◌++◌, Some, map, length, refl, sym, ap, ◌∙◌, subst, append_assoc, arith}
use Rattle.std.proofs.Math.Nat.{mul-add}
use Rattle.std.proofs.lemmas.List.{append-nil, length-append, length-map}
use Rattle.std.proofs.lemmas.List.Sorted.{length_permutation}
use Rattle.std.proofs.lemmas.List.Elements.{All-append, All-cons, All-nil}
use Rattle.std.specs.Prelude.{IsTrue, Result, Ok}
use Rattle.sym_base.specs.declared.values.record.Record.{Record}
use Rattle.sym_base.specs.declared.values.state.Outcome.{Outcome}
use Rattle.sym_base.specs.declared.values.state.Outcome.TheVariants.{Going}
use Rattle.sym_base.specs.declared.values.state.Outcome.TheVariants as outcome
use Rattle.sym_check.specs.declared.evaluate.arithmetic.Arith.{Arith}
use Rattle.sym_check.specs.Meaning.Arithmetic.{and_then}
use Rattle.sym_check.specs.Plan.CellKinds.{IsNumsCell}
use Rattle.sym_check.specs.Meaning.Conditions.{test_truth}
use Rattle.sym_check.specs.Meaning.FixedValues.{Environment}
use Rattle.sym_check.specs.Plan.LinePlans.{TermPlan}
use Rattle.sym_check.specs.Plan.ScriptPlans.{ScriptPlan}
use Rattle.sym_check.specs.Meaning.Updates.{at_record, or_fault, stored, with_int, with_pushed}
use Rattle.sym_int.specs.declared.form.IntForm.{IntForm}
use Rattle.sym_path.specs.Composing.{HaveFaultsAmong}
use Rattle.sym_path.proofs.Changed.{forms_give}
use Rattle.sym_path.specs.declared.form.Form.TheVariants as form
use Rattle.sym_path.specs.declared.path.Path.{Path}
use Rattle.sym_path.specs.Changing.{GoesOn, form_of, with_form}
use Rattle.sym_path.specs.Fitting.{PathFits, SegmentFits}
use Rattle.sym_path.specs.Giving.{given, outcomes}
use Rattle.sym_path.specs.Standing.{EndsAmong}
use Rattle.sym_explore.specs.Assigning.{added_numbers}
use Rattle.sym_explore.specs.Ending.{AreMoved, AreParted}
use Rattle.sym_explore.specs.Faulting.{FaultsCameAt, HasNumber}
use Rattle.sym_explore.specs.Parting.{AllGoOn, AreRun, those_ended, those_going}
use Rattle.sym_explore.specs.Placing.{IsPut}
use Rattle.sym_explore.specs.Running.{WereRun}
use Rattle.sym_explore.specs.Stepping.{after_do}
use Rattle.sym_explore.specs.Storing.{IsParted, ReadyStores, StoresAll, after_store, store_do}
use Rattle.sym_explore.specs.Terms.{ready_of}
use Rattle.sym_explore.specs.declared.places.Place.{Place}
use Rattle.sym_explore.specs.declared.places.Place.TheVariants as place
use Rattle.sym_explore.specs.declared.places.Target.{Target}
use Rattle.sym_explore.specs.declared.terms.Ready.{Ready}
use Rattle.sym_explore.proofs.AssignedForms.{number_pushed}
use Rattle.sym_explore.proofs.EndedLists.{all_going as those_all, interleaved, moved_away, moved_count, moved_stay, outcomes_append, run_exact}
use Rattle.sym_explore.proofs.InPlace.{AllThreaded}
use Rattle.sym_explore.proofs.PathRanges.{going_append, goes_among, map_same}
use Rattle.sym_explore.proofs.TermForms.{ready_gives}

-- ---- one path

module _ (p : ScriptPlan) (target : Target) (r : Ready) (old mid new : Path) (before after : List Path) where
  -- The number of the form is put at the place.
  pub number_stored : (f : IntForm) → IsPut p target.place f mid new → ReadyStores p target r old before mid after (Some f) → IsParted p target.clamps (after_store p target.fault.no target.place r) old before new after
  number_stored f here ranges s =
      let at = ranges s in
      record {
        added = at.added;
        others = at.others;
        over = at.over;
        gives = ap (λ (os : List Outcome). at.added ++ os) (map_same (given (test_truth p.tests) new s) ∙ here s) ∙ at.gives;
      }

-- What a path gives in whose cell a number is put.
pub cell_put : (p : ScriptPlan) (c : ℕ) (f : IntForm) (old new : Path) → new ≡ with_form old c (form.Int f) → IsPut p (place.Cell c) f old new
cell_put p c f old new is s = ap (λ (q : Path). given (test_truth p.tests) q s) is ∙ forms_give (test_truth p.tests) s old c (form.Int f)

pub end_put : (p : ScriptPlan) (c : ℕ) (f : IntForm) (old new : Path) → PathFits p old → IsNumsCell p.cells c → new ≡ with_form old c (form.Nums (added_numbers (form_of old.end c) ++ f ∷ [])) → IsPut p (place.End c) f old new
end_put p c f old new fits nums is s = ap (λ (q : Path). given (test_truth p.tests) q s) is ∙ number_pushed (test_truth p.tests) p old s c f fits nums

-- ---- the statement

-- What the statement does at a state, with its term ready.
pub store_is : (p : ScriptPlan) (k : Environment) (n : ℕ) (at : Place) (t : TermPlan) (r : Ready) → ready_of k t ≡ Ok r → (o : Outcome) → after_store p n at r o ≡ after_do p k n (store_do at t) o
store_is p k n (place.Cell c) t r e (Going s) = ap (λ (x : Result ℤ Arith). at_record n (and_then (λ (y : ℤ). stored p c (with_int c) y s) (or_fault x))) (sym (ready_gives k t r e s))
store_is p k n (place.End c) t r e (Going s) = ap (λ (x : Result ℤ Arith). at_record n (and_then (λ (y : ℤ). stored p c (with_pushed c) y s) (or_fault x))) (sym (ready_gives k t r e s))
store_is p k n at t r e (outcome.Ended fault) = refl

-- ---- several paths

-- What is done to one of them, which goes on.
pub record IsStored (p : ScriptPlan) (n : ℕ) (clamps : Bool) (step : Outcome → Outcome) (old : Path) (before : List Path) (new : Path) (after : List Path) : Type 0 where
  pub goes_on : GoesOn old.end
  pub exact : IsParted p clamps step old before new after
  pub fits : PathFits p new
  pub few : length after ≤ length before + 2
  pub faults : FaultsCameAt n old before new after
  pub stored : StoresAll clamps new before after

module _ (p : ScriptPlan) (n : ℕ) (clamps : Bool) (step : Outcome → Outcome) where
  pub stored_exact : (old : List Path) (before : List Path) (new : List Path) (after : List Path) → AllThreaded (IsStored p n clamps step) old before new after → AreParted p clamps step old new before after
  stored_exact [] before [] after h s few = record {
    added = [];
    others = ap (λ (ps : List Path). outcomes (test_truth p.tests) ps s) h ∙ sym (append-nil (outcomes (test_truth p.tests) before s));
    over = λ ends. refl;
    gives = refl;
  }
  stored_exact [] before (y ∷ new) after h s few = absurd h
  stored_exact (x ∷ old) before [] after h s few = absurd h
  stored_exact (x ∷ old) before (y ∷ new) after h s few =
      let T = test_truth p.tests in
      let sum = length-append (given T x s) (outcomes T old s) in
      let one = h.1.exact s in
      let rest = stored_exact old h.0 new after h.2 s (omega (arith, sum, few)) in
      let own : one.added ++ given T y s ≡ map step (given T x s) = ap (λ (os : List Outcome). one.added ++ os) (sym (map_same (given T y s))) ∙ one.gives in
      record {
        added = one.added ++ rest.added;
        others = rest.others ∙ ap (λ (os : List Outcome). os ++ rest.added) one.others ∙ append_assoc (outcomes T before s) one.added rest.added;
        over = λ ends. going_append one.added rest.added ∙ (λ i. one.over ends i ++ rest.over ends i);
        gives = interleaved step (given T x s) (outcomes T old s) one.added (given T y s) rest.added (outcomes T new s) few own rest.gives;
      }

  pub stored_fit : (old : List Path) (before : List Path) (new : List Path) (after : List Path) → AllThreaded (IsStored p n clamps step) old before new after → SegmentFits p new
  stored_fit [] before [] after h = All-nil (PathFits p)
  stored_fit [] before (y ∷ new) after h = absurd h
  stored_fit (x ∷ old) before [] after h = absurd h
  stored_fit (x ∷ old) before (y ∷ new) after h = All-cons (PathFits p) y new h.1.fits (stored_fit old h.0 new after h.2)

  pub stored_few : (old : List Path) (before : List Path) (new : List Path) (after : List Path) → AllThreaded (IsStored p n clamps step) old before new after → length after ≤ length before + length old * 2
  stored_few [] before [] after h = omega (arith, ap length h)
  stored_few [] before (y ∷ new) after h = absurd h
  stored_few (x ∷ old) before [] after h = absurd h
  stored_few (x ∷ old) before (y ∷ new) after h =
      omega (arith, h.1.few, stored_few old h.0 new after h.2)

  pub stored_faults : (old : List Path) (before : List Path) (new : List Path) (after : List Path) → AllThreaded (IsStored p n clamps step) old before new after → (records : List Record) → HasNumber n records → HaveFaultsAmong records before → HaveFaultsAmong records new × HaveFaultsAmong records after
  stored_faults [] before [] after h records here ends = (All-nil (λ (q : Path). EndsAmong records q.end), subst (HaveFaultsAmong records) (sym h) ends)
  stored_faults [] before (y ∷ new) after h records here ends = absurd h
  stored_faults (x ∷ old) before [] after h records here ends = absurd h
  stored_faults (x ∷ old) before (y ∷ new) after h records here ends =
      let one = h.1.faults records here (goes_among records x.end h.1.goes_on) ends in
      let rest = stored_faults old h.0 new after h.2 records here one.1 in
      (All-cons (λ (q : Path). EndsAmong records q.end) y new one.0 rest.0, rest.1)

  pub stored_go_on : (old : List Path) (before : List Path) (new : List Path) (after : List Path) → AllThreaded (IsStored p n clamps step) old before new after → clamps ≡ true → AllGoOn before → AllGoOn new × AllGoOn after
  stored_go_on [] before [] after h marked all = (All-nil (λ (q : Path). GoesOn q.end), subst AllGoOn (sym h) all)
  stored_go_on [] before (y ∷ new) after h marked all = absurd h
  stored_go_on (x ∷ old) before [] after h marked all = absurd h
  stored_go_on (x ∷ old) before (y ∷ new) after h marked all =
      let one = h.1.stored marked in
      let rest = stored_go_on old h.0 new after h.2 marked (one.1 all) in
      (All-cons (λ (q : Path). GoesOn q.end) y new one.0 rest.0, rest.1)

-- ---- those that ended have moved

module _ (p : ScriptPlan) (step : Outcome → Outcome) (n ended : ℕ) (old mid new before between after : List Path) where
  -- The paths were changed where they stand, and then those that ended moved.
  pub were_run : AreParted p false step old mid before between → SegmentFits p mid → SegmentFits p between → length mid ≡ length old → length between ≤ length before + length old * ended → ((records : List Record) → HasNumber n records → HaveFaultsAmong records before → HaveFaultsAmong records mid × HaveFaultsAmong records between) → AreMoved mid new between after → AllGoOn new → WereRun p step n 1 ended old new before after
  were_run parted fits others same few faults moves goes = record {
    exact = run_exact p step old mid new before between after parted moves goes;
    next = record {
      fits = moved_stay (PathFits p) mid new between after moves fits;
      going = goes;
      ended_fit = moved_away (PathFits p) mid new between after moves fits others;
    };
    few = record {
      going = omega (arith, stays, same);
      all = omega (arith, moved_count mid new between after moves, same, few, times);
    };
    faults = λ records here ends.
        let each = faults records here ends in
        moved_away (λ (q : Path). EndsAmong records q.end) mid new between after moves each.0 each.1;
  }
    where
      stays : length new ≤ length mid
      stays = omega (arith, length-append new moves.moved, length_permutation mid (new ++ moves.moved) moves.same)

      times : length old * (1 + ended) ≡ length old * 1 + length old * ended
      times = mul-add (length old) 1 ended

-- ---- those that were added are put after the others

-- Two lists, of which one is empty, in the other order.
swapped : (xs ys made : List Outcome) → length made ≤ 1 → xs ++ ys ≡ made → ys ++ xs ≡ made
swapped [] ys made few e = append-nil ys ∙ e
swapped (x ∷ xs) [] made few e = sym (append-nil (x ∷ xs)) ∙ e
swapped (x ∷ xs) (y ∷ ys) made few e = absurd (omega (arith, few, ap length e, length-append xs (y ∷ ys)))

module _ (p : ScriptPlan) (step : Outcome → Outcome) (n : ℕ) (old mid more new ended : List Path) (is : new ≡ mid ++ more) where
  -- None of them ended.
  pub clamped_run : AreParted p true step old mid [] more → SegmentFits p mid → SegmentFits p more → AllGoOn mid → AllGoOn more → SegmentFits p ended → length mid ≡ length old → length more ≤ length old * 2 → WereRun p step n 3 0 old new ended ended
  clamped_run parted fits more_fit goes more_go others same few = record {
    exact = exact;
    next = record {
      fits = subst (SegmentFits p) (sym is) (All-append (PathFits p) mid more fits more_fit);
      going = all_go;
      ended_fit = others;
    };
    few = record {
      going = omega (arith, count, same, few, times 3 1 2 refl);
      all = omega (arith, count, same, few, times 3 1 2 refl);
    };
    faults = λ records here ends. ends;
  }
    where
      all_go : AllGoOn new
      all_go = subst AllGoOn (sym is) (All-append (λ (q : Path). GoesOn q.end) mid more goes more_go)

      count : length new ≡ length mid + length more
      count = ap length is ∙ length-append mid more

      times : (a b c : ℕ) → a ≡ b + c → length old * a ≡ length old * b + length old * c
      times a b c e = ap (λ (k : ℕ). length old * k) e ∙ mul-add (length old) b c

      exact : AreRun p step old new ended ended
      exact s once =
          let T = test_truth p.tests in
          let at = parted s once in
          let made : List Outcome = map step (outcomes T old s) in
          let few_made : length made ≤ 1 = subst (λ (k : ℕ). k ≤ 1) (sym (length-map (outcomes T old s) step)) once in
          let whole : outcomes T new s ≡ made =
          ap (λ (ps : List Path). outcomes T ps s) is
          ∙ outcomes_append T mid more s
          ∙ ap (λ (os : List Outcome). outcomes T mid s ++ os) at.others
          ∙ swapped at.added (outcomes T mid s) made few_made at.gives in
          let going = those_all T s new all_go in
          record {
            going = sym going.0 ∙ ap those_going whole;
            ended = sym (append-nil (outcomes T ended s)) ∙ ap (λ (os : List Outcome). outcomes T ended s ++ os) (sym (ap those_ended (sym whole) ∙ going.1));
          }

-- ---- whether all of them go on

-- The answer after a path is true only where that before it is, and the path goes on.
abbrev pub TellsGoing : Path → Bool → Path → Bool → Type 0
TellsGoing old before new after = IsTrue after → IsTrue before × GoesOn new.end

pub all_going : (old : List Path) (before : Bool) (new : List Path) (after : Bool) → AllThreaded TellsGoing old before new after → IsTrue after → IsTrue before × AllGoOn new
all_going [] before [] after h t = (subst (λ (x : Bool). IsTrue x) h t, All-nil (λ (path : Path). GoesOn path.end))
all_going [] before (y ∷ new) after h t = absurd h
all_going (x ∷ old) before [] after h t = absurd h
all_going (x ∷ old) before (y ∷ new) after h t =
    let rest = all_going old h.0 new after h.2 t in
    let one = h.1 rest.0 in
    (one.0, All-cons (λ (path : Path). GoesOn path.end) y new one.1 rest.1)
