-- What a block, a statement and an `if` make of lists of paths, from what their parts do.
use Rattle.std.proofs.Common.{◌≡◌, inl, inr, ℕ, List, [], ◌∷◌, ◌++◌, Result, Ok, Err, length, refl, sym, ap, ◌∙◌, subst, true, false, arith}
use Rattle.std.specs.Prelude.{OnOk, IsTrue, ◌==◌}
use Rattle.sym_base.specs.declared.values.record.Record.{Record}
use Rattle.sym_base.specs.declared.values.value.Value.{Value}
use Rattle.sym_base.specs.declared.values.state.Fault.{Fault}
use Rattle.sym_base.specs.declared.values.state.FaultKind.{FaultKind}
use Rattle.sym_base.specs.declared.values.state.FaultKind.TheVariants as fault
use Rattle.sym_base.specs.declared.values.state.Outcome.{Outcome}
use Rattle.sym_base.specs.declared.values.state.Outcome.TheVariants.{Going}
use Rattle.sym_base.specs.declared.values.state.Outcome.TheVariants as outcome
use Rattle.sym_check.specs.declared.evaluate.arithmetic.Arith.{Arith}
use Rattle.sym_check.specs.Meaning.Arithmetic.{◌>>=◌}
use Rattle.sym_check.specs.Plan.CondPlans.{CondPlan}
use Rattle.sym_check.specs.Meaning.Conditions.{is_fixed}
use Rattle.sym_check.specs.Meaning.Fitting.{FitsFault}
use Rattle.sym_check.specs.Plan.DoPlans.{DoPlan, DosPlan, Let, If, End, Then}
use Rattle.sym_check.specs.Plan.FixedPlans.{FixedPlan}
use Rattle.sym_check.specs.Meaning.FixedValues.{Environment, fixed_value}
use Rattle.sym_check.specs.Plan.ScriptPlans.{ScriptPlan}
use Rattle.sym_check.specs.Meaning.Updates.{at_record, environment, environment_after, or_fault}
use Rattle.sym_path.specs.declared.path.Path.{Path}
use Rattle.sym_path.specs.Changing.{ended_by}
use Rattle.sym_explore.specs.Counting.{do_ended, do_going, dos_ended, dos_going}
use Rattle.sym_explore.specs.Parting.{AreFewRun, AreOfOneTruth, AreRun}
use Rattle.sym_explore.specs.Running.{CanRun, DoWasRun, DosWereRun, HasValue, IsNamed, WereRun, failed_paths}
use Rattle.sym_explore.specs.Stepping.{after_do, after_dos}
use Rattle.sym_explore.specs.Trying.{CondWasTried}
use Rattle.sym_explore.proofs.AssignedLists.{failed_run, fails_as, on_ok, run_as}
use Rattle.sym_explore.proofs.CountedPaths.{updates_go_on}
use Rattle.sym_explore.proofs.RunCounts.{few_if, few_none, few_then}
use Rattle.sym_explore.proofs.RunLists.{end_stays, run_none, run_same, runs_if, runs_then}
use Rattle.sym_explore.proofs.TriedConditions.{can_run_beside, can_run_both}

-- Whether a list is empty.
pub none_left : (xs : List Path) (n : ℕ) → n ≡ length xs → (n == 0) ≡ true → xs ≡ []
none_left [] n is empty = refl
none_left (x ∷ xs) n is empty = absurd (let h : n ≡ 0 = grind arith in omega (arith, h, is))

pub some_left : (xs : List Path) (n : ℕ) → n ≡ length xs → (n == 0) ≡ false → xs ≡ [] → ⊥
some_left xs n is empty none = let h : n ≡ 0 = is ∙ ap length none in let t : (n == 0) ≡ true = ap (λ k. k == 0) h in cc

-- ---- paths that are left as they are

same_run : (p : ScriptPlan) (step : Outcome → Outcome) (n : ℕ) → ((o : Outcome) → step o ≡ o) → (paths ended : List Path) → CanRun p paths ended → WereRun p step n 1 0 paths paths ended ended
same_run p step n same paths ended can = record {
  exact = run_same p step same paths ended can.going;
  next = can;
  few = record { going = omega arith; all = omega arith };
  faults = λ records has ends. ends;
}

-- No path is left: nothing more happens.
pub no_run : (p : ScriptPlan) (step : Outcome → Outcome) (n g e : ℕ) (paths ended : List Path) → paths ≡ [] → CanRun p paths ended → WereRun p step n g e paths paths ended ended
no_run p step n g e paths ended none can = record {
  exact = subst (λ (ps : List Path). AreRun p step ps ps ended ended) (sym none) (run_none p step ended);
  next = can;
  few = subst (λ (ps : List Path). AreFewRun g e ps ps ended ended) (sym none) (few_none g e ended);
  faults = λ records has ends. ends;
}

-- ---- a local

kind_of : (r : Result Value Arith) (kind : FaultKind) → or_fault r ≡ Err kind → fault.Arith ≡ kind
kind_of (Ok w) kind is = absurd (cc)
kind_of (Err e) kind is = cc

module _ (p : ScriptPlan) (n : ℕ) (k : Environment) (c : ℕ) (e : FixedPlan) (old before : List Path) (can : CanRun p old before) where
  pub let_value : (v : Value) → or_fault (fixed_value k e) ≡ Ok v → DoWasRun p k n (Let c e) old old before before
  let_value v is = same_run p (after_do p k n (Let c e)) n same old before can
    where
      same : (o : Outcome) → after_do p k n (Let c e) o ≡ o
      same (Going s) = ap (λ r. at_record n (r >>= λ x. Ok s)) is
      same (outcome.Ended broken) = refl

  pub let_fault : (kind : FaultKind) (new after : List Path) → or_fault (fixed_value k e) ≡ Err kind → new ≡ [] → after ≡ before ++ failed_paths (record { kind = kind; no = n }) old → DoWasRun p k n (Let c e) old new before after
  let_fault kind new after is none more =
      let broken : Fault = record { kind = kind; no = n } in
      let fits : FitsFault p kind = subst (FitsFault p) (kind_of (fixed_value k e) kind is) tt in
      run_as p (ended_by broken) (after_do p k n (Let c e)) n 1 0 old new before after
      (fails_as p k n (Let c e) kind (λ s. ap (λ (r : Result Value FaultKind). r >>= λ x. Ok s) is))
      (failed_run p broken old new before after none more fits can.fits can.going can.ended_fit)

-- ---- a statement and the rest of its block

-- Where a path goes on, the local that the statement names has its value.
pub is_named : (rec : Record) (k : Environment) (d : DoPlan) (locals : List Value) (paths : List Path) → (paths ≡ [] → ⊥) → IsNamed rec k d locals paths → HasValue k d × (environment rec locals ≡ environment_after k d)
is_named rec k d locals paths some h = elim h [
  | inl none ↦ absurd (some none)
  | inr named ↦ named
]

then_runs : (p : ScriptPlan) (k : Environment) (n : ℕ) (d : DoPlan) (rest : DosPlan) (old middle new before ended after : List Path) → DoWasRun p k n d old middle before ended → DosWereRun p (environment_after k d) n rest middle new ended after → DosWereRun p k n (Then d rest) old new before after
then_runs p k n d rest old middle new before ended after h more = record {
  exact = runs_then p k n d rest old middle new before ended after h.exact more.exact;
  next = more.next;
  few = few_then (do_going p.cells d) (do_ended p.cells d) (dos_going p.cells rest) (dos_ended p.cells rest) old middle new before ended after (updates_go_on p.cells rest) h.few more.few;
  faults = λ records has ends. more.faults records has (h.faults records has ends);
}

module _ (p : ScriptPlan) (rec : Record) (n : ℕ) (start : List Value) (whole : DosPlan) (d : DoPlan) (rest : DosPlan) (is : whole ≡ Then d rest) (old middle before ended : List Path) (h : DoWasRun p (environment rec start) n d old middle before ended) where
  -- No path goes on after the statement.
  pub none_run : middle ≡ [] → DosWereRun p (environment rec start) n whole old middle before ended
  none_run none =
      let k = environment rec start in
      let later = environment_after k d in
      subst (λ (ds : DosPlan). DosWereRun p k n ds old middle before ended) (sym is)
      (then_runs p k n d rest old middle middle before ended ended h (no_run p (after_dos p later n rest) n (dos_going p.cells rest) (dos_ended p.cells rest) middle ended none h.next))

  pub then_run : {A E : Type 0} (locals : List Value) → environment rec locals ≡ environment_after (environment rec start) d → (new after : List Path) (result : Result A E) → OnOk result (DosWereRun p (environment rec locals) n rest middle new ended after) → OnOk result (DosWereRun p (environment rec start) n whole old new before after)
  then_run locals named new after result more =
      let k = environment rec start in
      let P : Environment → Type 0 = λ e. OnOk result (DosWereRun p e n rest middle new ended after) in
      let R : DosPlan → Type 0 = λ ds. OnOk result (DosWereRun p k n ds old new before after) in
      subst R (sym is) (on_ok result (then_runs p k n d rest old middle new before ended after h) (subst P named more))

-- ---- the end of a block

pub end_run : (p : ScriptPlan) (k : Environment) (n : ℕ) (whole : DosPlan) → whole ≡ End → (paths before : List Path) → CanRun p paths before → DosWereRun p k n whole paths paths before before
end_run p k n whole is paths before can =
    subst (λ (ds : DosPlan). DosWereRun p k n ds paths paths before before) (sym is) (same_run p (after_dos p k n End) n (end_stays p k n) paths before can)

-- ---- an `if`

module _ (p : ScriptPlan) (rec : Record) (n : ℕ) (start : List Value) (c : CondPlan) (a b : DosPlan) (old trues none falses before failed : List Path) (empty : none ≡ []) (then_paths ended : List Path) (middle : List Value) (kept : middle ≡ start) (else_paths after now : List Path) (is : now ≡ then_paths ++ else_paths) where
  pub if_run : CondWasTried p (environment rec start) n c old trues none falses before failed → (IsTrue (is_fixed c) → AreOfOneTruth old trues none falses before failed) → DosWereRun p (environment rec start) n a trues then_paths failed ended → DosWereRun p (environment rec middle) n b falses else_paths ended after → DoWasRun p (environment rec start) n (If c a b) old now before after
  if_run tried one k later =
      let k0 = environment rec start in
      let h : CondWasTried p k0 n c old trues [] falses before failed = subst (λ (ns : List Path). CondWasTried p k0 n c old trues ns falses before failed) empty tried in
      let l : DosWereRun p k0 n b falses else_paths ended after = subst (λ (ls : List Value). DosWereRun p (environment rec ls) n b falses else_paths ended after) kept later in
      let single : IsTrue (is_fixed c) → AreOfOneTruth old trues [] falses before failed = λ f. subst (λ (ns : List Path). AreOfOneTruth old trues ns falses before failed) empty (one f) in
      record {
        exact = subst (λ (ps : List Path). AreRun p (after_do p k0 n (If c a b)) old ps before after) (sym is) (runs_if p k0 n c a b old trues falses before failed h.exact then_paths ended else_paths after k.exact l.exact);
        next = can_run_both p then_paths else_paths now after is (can_run_beside p then_paths ended after k.next l.next.ended_fit) l.next;
        few =
            subst (λ (ps : List Path). AreFewRun (do_going p.cells (If c a b)) (do_ended p.cells (If c a b)) old ps before after) (sym is)
            (few_if p.cells c a b old trues falses before failed then_paths ended else_paths after h.few single k.few l.few);
        faults = λ records has ends. l.faults records has (k.faults records has (h.faults records has ends));
      }
