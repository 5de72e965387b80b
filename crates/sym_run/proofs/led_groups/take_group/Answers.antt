use Rattle.std.proofs.Common.{◌≡◌, ◌∙◌, [], ◌∷◌, true, Some, ap, is_some, subst, sym}
use Rattle.std.proofs.lemmas.Map.Made.{is_some-lookup}
use Rattle.sym_base.specs.declared.values.value.Key.{Key}
use Rattle.sym_base.specs.declared.values.state.Outcome.{Outcome}
use Rattle.sym_check.specs.Checking.CheckedScripts.{checked_plan}
use Rattle.sym_check.specs.Meaning.Groups.{is_key}
use Rattle.sym_check.specs.Meaning.Validity.{IsValidOutcome}
use Rattle.sym_check.proofs.Keys.{same_key}
use Rattle.sym_plain.specs.Pairs.{has_key, standing}
use Rattle.sym_run.specs.Applying.{AreValid}
use Rattle.sym_run.specs.Leading.{AreAlikeBut, IsAt, while_out}
use Rattle.sym_run.proofs.GroupPuts.{all_found, all_put}
use Rattle.sym_run.proofs.TakenGroups.{alike_put}
use Rattle.sym_run.proofs.led_groups.take_group.Goals as goal

pub returns-in-Some-clause-valid : goal.returns-in-Some-clause-valid
returns-in-Some-clause-valid c = λ key here.
    let p = checked_plan c.args.checked.now in
    let at : IsAt c.args.groups.now key (Some c.in-Some.index) = subst (IsAt c.args.groups.now key) c.in-Some.is here in
    subst (AreValid p) (sym (c.take_at.ensures.groups key at))
    (all_put (λ (k : Key) (o : Outcome). IsValidOutcome p o) (λ (k : Key) (o : Outcome). IsValidOutcome p o) key while_out
    (λ j o e s. s) (λ j e. tt) c.args.groups.now (same_key key) c.requires)

pub returns-in-Some-clause-alike : goal.returns-in-Some-clause-alike
returns-in-Some-clause-alike c = λ key here.
    let old = c.args.groups.now in
    let at : IsAt old key (Some c.in-Some.index) = subst (IsAt old key) c.in-Some.is here in
    let there : has_key old key ≡ true = sym (is_some-lookup (is_key key) old) ∙ ap is_some (c.take_at.ensures.outcome key at) in
    subst (AreAlikeBut (key ∷ []) old) (sym (c.take_at.ensures.groups key at)) (alike_put key while_out old there)

pub returns-in-Some-clause-taken : goal.returns-in-Some-clause-taken
returns-in-Some-clause-taken c = λ key here.
    let p = checked_plan c.args.checked.now in
    let old = c.args.groups.now in
    let at : IsAt old key (Some c.in-Some.index) = subst (IsAt old key) c.in-Some.is here in
    let found = c.take_at.ensures.outcome key at in
    record {
      place = at;
      outcome = sym (ap (standing p) found);
      valid = all_found (λ (k : Key) (o : Outcome). IsValidOutcome p o) key c.take_at.result old c.requires found;
    }
