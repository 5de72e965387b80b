-- What the segments of a chain make of an outcome in turn.
use Rattle.std.proofs.Common.{◌≡◌, ◌∙◌, ◌<◌, ◌+◌, ◌≤◌, ℕ, suc, refl, sym, ap, subst, List, [], ◌∷◌, length, drop, get_or, add-one, drop-cons}
use Rattle.std.proofs.lemmas.List.{drop_all}
use Rattle.sym_base.specs.declared.values.record.Record.{Record}
use Rattle.sym_base.specs.declared.values.state.Outcome.{Outcome}
use Rattle.sym_check.specs.Plan.ScriptPlans.{ScriptPlan}
use Rattle.sym_check.specs.Meaning.Updates.{after}
use Rattle.sym_check.proofs.PlanLaws.{after_append}
use Rattle.sym_path.specs.declared.path.Path.{Path}
use Rattle.sym_path.specs.Standing.{StandsFor}
use Rattle.sym_run.specs.Chains.{SegmentsStandFor}

-- The records for which the segments from an index on stand lead to where all lead.
pub record IsLed (p : ScriptPlan) (segments : List (List Path)) (outcome end : Outcome) : Type 0 where
  pub rest : List Record
  pub stand : SegmentsStandFor p rest segments
  pub leads : after p rest outcome ≡ end

pub led_none : (p : ScriptPlan) (records : List Record) (segments : List (List Path)) (outcome : Outcome) → SegmentsStandFor p records segments → IsLed p segments outcome (after p records outcome)
led_none p records segments outcome h = record { rest = records; stand = h; leads = refl }

-- The item of a list at an index, before what is left.
left_from : {A : Type 0} (xs : List A) (i : ℕ) (x : A) → i < length xs → x ≡ get_or xs i x → drop i xs ≡ x ∷ drop (i + 1) xs
left_from xs i x within is = rw add-one (drop-cons xs i x within ∙ ap (λ y. y ∷ drop (suc i) xs) (sym is))

-- One segment further.
led_on : (p : ScriptPlan) (segment : List Path) (segments : List (List Path)) (outcome next end : Outcome) → IsLed p (segment ∷ segments) outcome end → ((rs : List Record) → StandsFor p rs segment → next ≡ after p rs outcome) → IsLed p segments next end
led_on p segment segments outcome next end h leads = record {
  rest = h.stand.1;
  stand = h.stand.4;
  leads = ap (after p h.stand.1) (leads h.stand.0 h.stand.3) ∙ sym (after_append p h.stand.0 h.stand.1 outcome) ∙ ap (λ (rs : List Record). after p rs outcome) (sym h.stand.2) ∙ h.leads;
}

-- The next segment is the one at the index.
pub led_further : (p : ScriptPlan) (segments : List (List Path)) (i : ℕ) (segment : List Path) (outcome next end : Outcome) → i < length segments → segment ≡ get_or segments i segment → IsLed p (drop i segments) outcome end
    → ((rs : List Record) → StandsFor p rs segment → next ≡ after p rs outcome) → IsLed p (drop (i + 1) segments) next end
led_further p segments i segment outcome next end within is h leads =
    led_on p segment (drop (i + 1) segments) outcome next end
    (subst (λ (ss : List (List Path)). IsLed p ss outcome end) (left_from segments i segment within is) h) leads

-- Without a segment more, all is led.
pub led_whole : (p : ScriptPlan) (segments : List (List Path)) (i : ℕ) (outcome end : Outcome) → length segments ≤ i → IsLed p (drop i segments) outcome end → outcome ≡ end
led_whole p segments i outcome end past h =
    let led : IsLed p [] outcome end = subst (λ (ss : List (List Path)). IsLed p ss outcome end) (drop_all i segments past) h in
    ap (λ (rs : List Record). after p rs outcome) (sym led.stand) ∙ led.leads
