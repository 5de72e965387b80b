-- What lists of paths give that statements are run on.
use Rattle.std.proofs.Common.{◌≡◌, ◌≤◌, ℕ, Bool, true, false, List, [], ◌∷◌, ◌++◌, Option, Some, None, Result, Ok, Err, map, length, refl, sym, ap, ◌∙◌, arith}
use Rattle.std.proofs.lemmas.List.{append-nil, length-map}
use Rattle.std.specs.Prelude.{if◌then◌else◌}
use Rattle.sym_base.specs.declared.values.record.Record.{Record}
use Rattle.sym_base.specs.declared.values.state.State.{State}
use Rattle.sym_base.specs.declared.values.state.Fault.{Fault}
use Rattle.sym_base.specs.declared.values.state.FaultKind.{FaultKind}
use Rattle.sym_base.specs.declared.values.state.Outcome.{Outcome}
use Rattle.sym_base.specs.declared.values.state.Outcome.TheVariants.{Going}
use Rattle.sym_base.specs.declared.values.state.Outcome.TheVariants as outcome
use Rattle.sym_check.specs.declared.evaluate.arithmetic.Arith.{Arith}
use Rattle.sym_check.specs.Meaning.Arithmetic.{◌>>=◌}
use Rattle.sym_check.specs.Meaning.Conditions.{test_truth, truth}
use Rattle.sym_check.specs.Plan.CondPlans.{CondPlan}
use Rattle.sym_check.specs.Plan.DoPlans.{DoPlan, If, DosPlan, End, Then}
use Rattle.sym_check.specs.Meaning.FixedValues.{Environment}
use Rattle.sym_check.specs.Plan.ScriptPlans.{ScriptPlan}
use Rattle.sym_check.specs.Meaning.Updates.{at_record, do_step, dos_step, environment, environment_after, or_fault}
use Rattle.sym_path.specs.declared.path.Path.{Path}
use Rattle.sym_explore.specs.Branches.{with_answer, tried}
use Rattle.sym_explore.specs.Parting.{AllGoOn, those_going, those_ended, those_true, those_false, those_failed, at_state, AreParts, AreRun}
use Rattle.sym_explore.specs.Stepping.{going_on, after_do, after_dos, step_by}
use Rattle.sym_explore.proofs.EndedLists.{all_going, outcomes_append}

-- What a function that changes nothing makes of the items.
pub map_same : {A : Type 0} (f : A → A) (xs : List A) → ((x : A) → f x ≡ x) → map f xs ≡ xs
map_same f [] each = refl
map_same f (x ∷ xs) each = ap (λ y. y ∷ map f xs) (each x) ∙ ap (λ ys. x ∷ ys) (map_same f xs each)

pub map_alike : {A B : Type 0} (f g : A → B) (xs : List A) → ((x : A) → f x ≡ g x) → map f xs ≡ map g xs
map_alike f g [] each = refl
map_alike f g (x ∷ xs) each = ap (λ y. y ∷ map f xs) (each x) ∙ ap (λ ys. g x ∷ ys) (map_alike f g xs each)

-- ---- at most one outcome

fewer_going : (os : List Outcome) → length (those_going os) ≤ length os
fewer_going [] = omega arith
fewer_going (Going s ∷ os) = omega (arith, fewer_going os)
fewer_going (outcome.Ended fault ∷ os) = omega (arith, fewer_going os)

fewer_true : (js : List (Outcome × Option Bool)) → length (those_true js) ≤ length js
fewer_true [] = omega arith
fewer_true ((o, Some true) ∷ js) = omega (arith, fewer_true js)
fewer_true ((o, Some false) ∷ js) = omega (arith, fewer_true js)
fewer_true ((o, None) ∷ js) = omega (arith, fewer_true js)

fewer_false : (js : List (Outcome × Option Bool)) → length (those_false js) ≤ length js
fewer_false [] = omega arith
fewer_false ((o, Some true) ∷ js) = omega (arith, fewer_false js)
fewer_false ((o, Some false) ∷ js) = omega (arith, fewer_false js)
fewer_false ((o, None) ∷ js) = omega (arith, fewer_false js)

-- ---- one step and then another

module _ (first rest both : Outcome → Outcome) (stays : (fault : Fault) → rest (outcome.Ended fault) ≡ outcome.Ended fault) (same : (o : Outcome) → rest (first o) ≡ both o) where
  goes_then : (x : Outcome) → those_going (map rest (those_going (x ∷ []))) ≡ those_going (rest x ∷ [])
  goes_then (Going s) = refl
  goes_then (outcome.Ended fault) = ap (λ y. those_going (y ∷ [])) (sym (stays fault))

  ends_then : (es : List Outcome) (x : Outcome) → (es ++ those_ended (x ∷ [])) ++ those_ended (map rest (those_going (x ∷ []))) ≡ es ++ those_ended (rest x ∷ [])
  ends_then es (Going s) = ap (λ zs. zs ++ those_ended (rest (Going s) ∷ [])) (append-nil es)
  ends_then es (outcome.Ended fault) = append-nil (es ++ outcome.Ended fault ∷ []) ∙ ap (λ y. es ++ those_ended (y ∷ [])) (sym (stays fault))

  going_then : (os : List Outcome) → length os ≤ 1 → those_going (map rest (those_going (map first os))) ≡ those_going (map both os)
  going_then [] once = refl
  going_then (o ∷ []) once = goes_then (first o) ∙ ap (λ y. those_going (y ∷ [])) (same o)
  going_then (o ∷ q ∷ os) once = absurd (omega (arith, once))

  ended_then : (es os : List Outcome) → length os ≤ 1 → (es ++ those_ended (map first os)) ++ those_ended (map rest (those_going (map first os))) ≡ es ++ those_ended (map both os)
  ended_then es [] once = append-nil (es ++ [])
  ended_then es (o ∷ []) once = ends_then es (first o) ∙ ap (λ y. es ++ those_ended (y ∷ [])) (same o)
  ended_then es (o ∷ q ∷ os) once = absurd (omega (arith, once))

  pub run_then : (p : ScriptPlan) (old middle new before ended after : List Path) → AreRun p first old middle before ended → AreRun p rest middle new ended after → AreRun p both old new before after
  run_then p old middle new before ended after h k s once =
      let os = at_state p old s in
      let es = at_state p before s in
      let a = h s once in
      let few : length (at_state p middle s) ≤ 1 = omega (arith, ap length a.going, fewer_going (map first os), length-map os first, once) in
      let b = k s few in
      record {
        going = b.going ∙ ap (λ zs. those_going (map rest zs)) a.going ∙ going_then os once;
        ended =
            b.ended
            ∙ ap (λ zs. zs ++ those_ended (map rest (at_state p middle s))) a.ended
            ∙ ap (λ zs. (es ++ those_ended (map first os)) ++ those_ended (map rest zs)) a.going
            ∙ ended_then es os once;
      }

chained : (n : ℕ) (r : Result State FaultKind) (part : State → Result State FaultKind) → going_on n part (at_record n r) ≡ at_record n (r >>= part)
chained n (Ok s) part = refl
chained n (Err kind) part = refl

pub after_then : (p : ScriptPlan) (k : Environment) (n : ℕ) (d : DoPlan) (rest : DosPlan) (o : Outcome) → after_dos p (environment_after k d) n rest (after_do p k n d o) ≡ after_dos p k n (Then d rest) o
after_then p k n d rest (Going s) = chained n (do_step p k d s) (dos_step p (environment_after k d) rest)
after_then p k n d rest (outcome.Ended fault) = refl

-- A statement and the rest of its block.
pub runs_then : (p : ScriptPlan) (k : Environment) (n : ℕ) (d : DoPlan) (rest : DosPlan) (old middle new before ended after : List Path) → AreRun p (after_do p k n d) old middle before ended → AreRun p (after_dos p (environment_after k d) n rest) middle new ended after → AreRun p (after_dos p k n (Then d rest)) old new before after
runs_then p k n d rest = run_then (after_do p k n d) (after_dos p (environment_after k d) n rest) (after_dos p k n (Then d rest)) (λ fault. refl) (after_then p k n d rest) p

-- No path is left: nothing more happens.
pub run_none : (p : ScriptPlan) (step : Outcome → Outcome) (before : List Path) → AreRun p step [] [] before before
run_none p step before s once = record { going = refl; ended = sym (append-nil (at_state p before s)) }

-- ---- a step that changes nothing

pub run_same : (p : ScriptPlan) (step : Outcome → Outcome) → ((o : Outcome) → step o ≡ o) → (paths before : List Path) → AllGoOn paths → AreRun p step paths paths before before
run_same p step same paths before on s once =
    let tests = test_truth p.tests in
    let os = at_state p paths s in
    let all = all_going tests s paths on in
    record {
      going = sym (ap those_going (map_same step os same) ∙ all.0);
      ended = sym (append-nil (at_state p before s)) ∙ ap (λ zs. at_state p before s ++ zs) (sym (ap those_ended (map_same step os same) ∙ all.1));
    }

pub end_stays : (p : ScriptPlan) (k : Environment) (n : ℕ) (o : Outcome) → after_dos p k n End o ≡ o
end_stays p k n (Going s) = refl
end_stays p k n (outcome.Ended fault) = refl

-- ---- both sides of an `if`

-- The outcome is what the sides make of the one that the condition was tried on.
abbrev IsSided : (Outcome → Outcome) → (Outcome → Outcome) → Outcome × Option Bool → Outcome → Type 0
IsSided a b (x, Some true) end = a x ≡ end
IsSided a b (x, Some false) end = b x ≡ end
IsSided a b (x, None) end = (fault : Fault) × (x ≡ outcome.Ended fault) × (end ≡ outcome.Ended fault)

module _ (a b : Outcome → Outcome) where
  goes_sided : (j : Outcome × Option Bool) (end : Outcome) → IsSided a b j end → those_going (map a (those_true (j ∷ []))) ++ those_going (map b (those_false (j ∷ []))) ≡ those_going (end ∷ [])
  goes_sided (x, Some true) end is = append-nil (those_going (a x ∷ [])) ∙ ap (λ y. those_going (y ∷ [])) is
  goes_sided (x, Some false) end is = ap (λ y. those_going (y ∷ [])) is
  goes_sided (x, None) end is = ap (λ y. those_going (y ∷ [])) (sym is.2)

  ends_sided : (es : List Outcome) (j : Outcome × Option Bool) (end : Outcome) → IsSided a b j end → ((es ++ those_failed (j ∷ [])) ++ those_ended (map a (those_true (j ∷ [])))) ++ those_ended (map b (those_false (j ∷ []))) ≡ es ++ those_ended (end ∷ [])
  ends_sided es (x, Some true) end is =
      append-nil ((es ++ []) ++ those_ended (a x ∷ []))
      ∙ ap (λ zs. zs ++ those_ended (a x ∷ [])) (append-nil es)
      ∙ ap (λ y. es ++ those_ended (y ∷ [])) is
  ends_sided es (x, Some false) end is =
      ap (λ zs. zs ++ those_ended (b x ∷ [])) (append-nil (es ++ []) ∙ append-nil es)
      ∙ ap (λ y. es ++ those_ended (y ∷ [])) is
  ends_sided es (x, None) end is =
      append-nil ((es ++ x ∷ []) ++ [])
      ∙ append-nil (es ++ x ∷ [])
      ∙ ap (λ y. es ++ y ∷ []) is.1
      ∙ ap (λ y. es ++ those_ended (y ∷ [])) (sym is.2)

  module _ (meaning : Outcome → Outcome × Option Bool) (both : Outcome → Outcome) (sided : (o : Outcome) → IsSided a b (meaning o) (both o)) where
    going_sided : (os : List Outcome) → length os ≤ 1 → those_going (map a (those_true (map meaning os))) ++ those_going (map b (those_false (map meaning os))) ≡ those_going (map both os)
    going_sided [] once = refl
    going_sided (o ∷ []) once = goes_sided (meaning o) (both o) (sided o)
    going_sided (o ∷ q ∷ os) once = absurd (omega (arith, once))

    ended_sided : (es os : List Outcome) → length os ≤ 1 → ((es ++ those_failed (map meaning os)) ++ those_ended (map a (those_true (map meaning os)))) ++ those_ended (map b (those_false (map meaning os))) ≡ es ++ those_ended (map both os)
    ended_sided es [] once = append-nil ((es ++ []) ++ []) ∙ append-nil (es ++ [])
    ended_sided es (o ∷ []) once = ends_sided es (meaning o) (both o) (sided o)
    ended_sided es (o ∷ q ∷ os) once = absurd (omega (arith, once))

    -- The paths on which the condition is true are run through the one side, the others through the
    -- other one.
    pub run_sides : (p : ScriptPlan) (old trues falses before failed : List Path) → AreParts p meaning old trues [] falses before failed → (then_paths ended else_paths after : List Path) → AreRun p a trues then_paths failed ended → AreRun p b falses else_paths ended after → AreRun p both old (then_paths ++ else_paths) before after
    run_sides p old trues falses before failed h then_paths ended else_paths after k l s once =
        let tests = test_truth p.tests in
        let os = at_state p old s in
        let es = at_state p before s in
        let parts = h s once in
        let few : length (map meaning os) ≤ 1 = omega (arith, length-map os meaning, once) in
        let few_true : length (at_state p trues s) ≤ 1 = omega (arith, ap length parts.trues, fewer_true (map meaning os), few) in
        let few_false : length (at_state p falses s) ≤ 1 = omega (arith, ap length parts.falses, fewer_false (map meaning os), few) in
        let x = k s few_true in
        let y = l s few_false in
        record {
          going =
              outcomes_append tests then_paths else_paths s
              ∙ ap (λ zs. zs ++ at_state p else_paths s) (x.going ∙ ap (λ zs. those_going (map a zs)) parts.trues)
              ∙ ap (λ zs. those_going (map a (those_true (map meaning os))) ++ zs) (y.going ∙ ap (λ zs. those_going (map b zs)) parts.falses)
              ∙ going_sided os once;
          ended =
              y.ended
              ∙ ap (λ zs. zs ++ those_ended (map b (at_state p falses s))) (x.ended ∙ ap (λ zs. zs ++ those_ended (map a (at_state p trues s))) parts.ended ∙ ap (λ zs. (es ++ those_failed (map meaning os)) ++ those_ended (map a zs)) parts.trues)
              ∙ ap (λ zs. ((es ++ those_failed (map meaning os)) ++ those_ended (map a (those_true (map meaning os)))) ++ those_ended (map b zs)) parts.falses
              ∙ ended_sided es os once;
        }

answer_sided : (p : ScriptPlan) (k : Environment) (n : ℕ) (a b : DosPlan) (s : State) (r : Result Bool Arith) → IsSided (after_dos p k n a) (after_dos p k n b) (with_answer n s r) (at_record n (or_fault r >>= λ x. if x then dos_step p k a s else dos_step p k b s))
answer_sided p k n a b s (Ok true) = refl
answer_sided p k n a b s (Ok false) = refl
answer_sided p k n a b s (Err e) = (_, refl, refl)

after_if : (p : ScriptPlan) (k : Environment) (n : ℕ) (c : CondPlan) (a b : DosPlan) (o : Outcome) → IsSided (after_dos p k n a) (after_dos p k n b) (tried p k n c o) (after_do p k n (If c a b) o)
after_if p k n c a b (Going s) = answer_sided p k n a b s (truth (test_truth p.tests) k c s)
after_if p k n c a b (outcome.Ended fault) = (fault, refl, refl)

pub runs_if : (p : ScriptPlan) (k : Environment) (n : ℕ) (c : CondPlan) (a b : DosPlan) (old trues falses before failed : List Path) → AreParts p (tried p k n c) old trues [] falses before failed → (then_paths ended else_paths after : List Path) → AreRun p (after_dos p k n a) trues then_paths failed ended → AreRun p (after_dos p k n b) falses else_paths ended after → AreRun p (after_do p k n (If c a b)) old (then_paths ++ else_paths) before after
runs_if p k n c a b = run_sides (after_dos p k n a) (after_dos p k n b) (tried p k n c) (after_do p k n (If c a b)) (after_if p k n c a b) p

-- ---- one record

pub after_update : (p : ScriptPlan) (rec : Record) (o : Outcome) → after_dos p (environment rec []) rec.no p.update o ≡ step_by p rec o
after_update p rec (Going s) = refl
after_update p rec (outcome.Ended fault) = refl
