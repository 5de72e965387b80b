-- What a list of paths leads an outcome to, by the first path that admits a state.
use Rattle.std.proofs.Common.{◌≡◌, ◌∙◌, ℕ, List, Some, inl, inr, sym, ap, subst}
use Rattle.std.specs.Prelude.{slice_get}
use Rattle.sym_base.specs.Tests.{Truth}
use Rattle.sym_base.specs.declared.values.record.Record.{Record}
use Rattle.sym_base.specs.declared.values.state.State.{State}
use Rattle.sym_base.specs.declared.values.state.Outcome.{Outcome}
use Rattle.sym_base.specs.declared.values.state.Outcome.TheVariants.{Going}
use Rattle.sym_base.specs.declared.values.state.Outcome.TheVariants as outcome
use Rattle.sym_check.specs.Meaning.Conditions.{test_truth}
use Rattle.sym_check.specs.Plan.ScriptPlans.{ScriptPlan}
use Rattle.sym_check.specs.Meaning.Updates.{after}
use Rattle.sym_check.specs.Meaning.Validity.{IsValidOutcome}
use Rattle.sym_check.proofs.PlanLaws.{ended_stays}
use Rattle.sym_path.specs.declared.path.Path.{Path}
use Rattle.sym_path.specs.Admitting.{Admits}
use Rattle.sym_path.specs.Following.{end_after}
use Rattle.sym_path.specs.Giving.{IsOnlyOutcome, end_at}
use Rattle.sym_path.specs.Leading.{IsFirstFor, IsLedByFirst, LeadsTo}
use Rattle.sym_path.specs.Standing.{StandsFor}
use Rattle.sym_path.proofs.Lists.{all_at}

-- The path at the index of the first one that admits the state.
pub led_first : (truth : Truth) (paths : List Path) (s : State) (o new : Outcome) (index : ℕ) (path : Path) → o ≡ Going s → IsFirstFor truth paths s index → slice_get paths index ≡ Some path → new ≡ end_after path.end o → LeadsTo truth paths o new
led_first truth paths s o new index path is first at gives =
    let here : Some path ≡ Some first.path = sym at ∙ first.is in
    let same : path ≡ first.path = cc in
    let made : new ≡ end_at first.path.end s = gives ∙ ap (end_after path.end) is ∙ ap (λ (q : Path). end_at q.end s) same in
    subst (λ (x : Outcome). LeadsTo truth paths x new) (sym is) (inl (record { index = index; first = first; gives = made }))

-- What a segment that stands for records leads a valid outcome to is what they make of it.
pub led_by : (p : ScriptPlan) (records : List Record) (paths : List Path) (o new : Outcome) → StandsFor p records paths → IsValidOutcome p o → LeadsTo (test_truth p.tests) paths o new → new ≡ after p records o
led_by p records paths (outcome.Ended fault) new stands valid led = led ∙ sym (ended_stays p records fault)
led_by p records paths (Going s) new stands valid led = elim led [
  | inl by ↦ by.gives ∙ only_first (stands.exact s valid) by
  | inr none ↦
      let only = stands.exact s valid in
      absurd (all_at (λ (path : Path). Admits (test_truth p.tests) path.when s → ⊥) paths only.index only.path none.0 only.is only.admitted)
]
  where
    only_first : IsOnlyOutcome (test_truth p.tests) paths s (after p records (Going s)) → (by : IsLedByFirst (test_truth p.tests) paths s new) → end_at by.first.path.end s ≡ after p records (Going s)
    only_first only by =
        let same : by.index ≡ only.index = only.no_other by.index by.first.path by.first.is by.first.admitted in
        let there : Some by.first.path ≡ Some only.path = sym by.first.is ∙ ap (slice_get paths) same ∙ only.is in
        let is : by.first.path ≡ only.path = cc in
        ap (λ (q : Path). end_at q.end s) is ∙ only.gives
