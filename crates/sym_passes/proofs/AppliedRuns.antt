-- The groups that a round leads on.
use Rattle.std.proofs.Common.{◌≡◌, ◌∙◌, refl, sym, ap, subst, ℕ, List, [], ◌++◌, Result, Ok, Err}
use Rattle.std.proofs.lemmas.List.Elements.{All-nil}
use Rattle.sym_base.specs.declared.values.record.Record.{Record}
use Rattle.sym_base.specs.declared.values.value.Key.{Key}
use Rattle.sym_base.specs.declared.values.state.Outcome.{Outcome}
use Rattle.sym_check.specs.Meaning.Validity.{IsValidOutcome}
use Rattle.sym_check.specs.Plan.ScriptPlans.{ScriptPlan}
use Rattle.sym_plain.specs.Pairs.{after_records}
use Rattle.sym_plain.proofs.Apart.{pass_more}
use Rattle.sym_table.specs.declared.bad.Bad.{Bad as BadRow}
use Rattle.sym_run.specs.declared.runs.Applied.{Applied}
use Rattle.sym_run.specs.declared.runs.Applied.TheVariants as applied
use Rattle.sym_run.specs.declared.runs.Run.{Run}
use Rattle.sym_run.specs.Applying.{AreValid, IfDone, applied_to, bad_of}
use Rattle.sym_run.specs.Runs.{GroupsStandFor}
use Rattle.sym_files.specs.Rounds.{AreWorkers}
use Rattle.sym_passes.specs.Passed.{AreLedBy}

abbrev Pairs : Type 0
Pairs = List (Key × Outcome)

-- What a run comes to on groups.
pub record IsApplied (p : ScriptPlan) (run : Run) (groups : Pairs) (found : Applied) : Type 0 where
  pub bad : bad_of found ≡ run.bad
  pub valid : IfDone found (AreValid p)
  pub groups_are : (records : List Record) → GroupsStandFor p records run.groups → IfDone found (λ g. g ≡ after_records p records groups)

-- What the groups come to where all rows of a round are records.
abbrev pub Led : ScriptPlan → Result (List Record) BadRow → Pairs → Pairs → Type 0
Led p read old new =
    (records : List Record) × (read ≡ Ok records) × ((before : List Record) → AreLedBy p old before → AreLedBy p new (before ++ records))

-- Groups that records have led on.
led_groups : (p : ScriptPlan) (old given new : Pairs) (records before : List Record) → given ≡ old → new ≡ after_records p records given → AreValid p new
    → AreLedBy p old before → AreLedBy p new (before ++ records)
led_groups p old given new records before same on valid led =
    record { passed = on ∙ ap (after_records p records) (same ∙ led.passed) ∙ pass_more p before records; valid = valid }

-- ---- the groups after a round
pub all_led : (p : ScriptPlan) (read : Result (List Record) BadRow) (old given new : Pairs) (found : Applied)
    → given ≡ old → found ≡ applied_to p read given → IfDone found (AreValid p) → found ≡ applied.Done new → Led p read old new
all_led p (Ok records) old given new found same is valid done =
    let V : Applied → Type 0 = λ x. IfDone x (AreValid p) in
    let on : new ≡ after_records p records given = cc in
    (records, refl, λ before led. led_groups p old given new records before same on (subst V done valid) led)
all_led p (Err bad) old given new found same is valid done = absurd (cc)

pub all_broken : (p : ScriptPlan) (read : Result (List Record) BadRow) (given : Pairs) (found : Applied) (bad : BadRow)
    → found ≡ applied_to p read given → found ≡ applied.Bad bad → read ≡ Err bad
all_broken p (Ok records) given found bad is broken = absurd (cc)
all_broken p (Err first) given found bad is broken = let same : first ≡ bad = cc in ap Err same

-- What a round leads groups to, beside a number of workers, which stays.
pub with_workers : (p : ScriptPlan) (workers : ℕ) (read : Result (List Record) BadRow) (old new : Pairs) → Led p read old new
    → (records : List Record) × (read ≡ Ok records) × ((before : List Record) → AreWorkers workers × AreLedBy p old before → AreWorkers workers × AreLedBy p new (before ++ records))
with_workers p workers read old new led = (led.0, led.1, λ before stood. (stood.0, led.2 before stood.1))

-- ---- the beginning
-- There are no groups yet.
pub begun : (p : ScriptPlan) (workers given : ℕ) (groups : Pairs) → workers ≡ given → AreWorkers given → groups ≡ [] → AreWorkers workers × AreLedBy p groups []
begun p workers given groups same range empty = (
  subst (λ (n : ℕ). AreWorkers n) (sym same) range,
  record { passed = empty; valid = subst (λ (gs : Pairs). AreValid p gs) (sym empty) (All-nil (λ (group : Key × Outcome). IsValidOutcome p group.1)) },
)
