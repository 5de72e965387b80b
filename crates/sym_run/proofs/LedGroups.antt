-- Groups that are led on where they are new.
use Rattle.std.proofs.Common.{◌≡◌, ◌∙◌, ap, sym, Bool, if◌then◌else◌, List, [], ◌∷◌, ◌++◌, map, Option, None}
use Rattle.std.specs.Map.{lookup}
use Rattle.sym_base.specs.declared.values.value.Key.{Key}
use Rattle.sym_base.specs.declared.values.record.Record.{Record}
use Rattle.sym_base.specs.declared.values.state.Outcome.{Outcome}
use Rattle.sym_base.specs.declared.values.state.Outcome.TheVariants.{Going}
use Rattle.sym_check.specs.Meaning.Groups.{is_key}
use Rattle.sym_check.specs.Plan.ScriptPlans.{ScriptPlan}
use Rattle.sym_check.specs.Meaning.Updates.{after, initial}
use Rattle.sym_plain.specs.Pairs.{put, standing}
use Rattle.sym_run.specs.Applying.{led_on}
use Rattle.sym_run.proofs.GroupPuts.{absent_key}

-- A new group goes last.
pub begun_led : (p : ScriptPlan) (records : List Record) (key : Key) (groups : List (Key × Outcome)) (outcome : Outcome) → lookup (is_key key) groups ≡ None → outcome ≡ after p records (Going (initial p))
    → groups ++ (key, outcome) ∷ [] ≡ led_on p records key groups
begun_led p records key groups outcome none is =
    let now : Outcome = after p records (Going (initial p)) in
    ap (λ (o : Outcome). groups ++ (key, o) ∷ []) is
    ∙ sym (ap (λ (r : Option Outcome). put groups key (after p records (standing p r))) none
    ∙ ap (λ (t : Bool). if t then map (λ q. if is_key key q.0 then (q.0, now) else q) groups else groups ++ (key, now) ∷ []) (absent_key key groups none))
