use Rattle.std.proofs.Common.{◌∙◌, ap, arith, length, refl, subst, sym}
use Rattle.std.specs.Prelude.{slice_set}
use Rattle.std.specs.List.{IsDistinct, zip}
use Rattle.std.proofs.lemmas.Map.Made.{keys_of-zip}
use Rattle.std.proofs.lemmas.Option.{slice_get_read}
use Rattle.sym_check.specs.Meaning.Groups.{is_key}
use Rattle.sym_check.specs.Plan.ScriptPlans.{script_plan}
use Rattle.sym_plain.proofs.Zipped.{absent, gone_on}
use Rattle.sym_plain.proofs.groups.go_on.Goals as goal

pub returns-in_ok-advance-in-Some-clause-steps : goal.returns-in_ok-advance-in-Some-clause-steps
returns-in_ok-advance-in-Some-clause-steps c =
    let ks = c.args.keys.now.keys in
    let vs = c.args.outcomes.now.items in
    let i = c.in-Some.index in
    let old = c.index_mut.result.now in
    ap (λ o. zip ks (slice_set vs i o)) c.in_ok-advance-in-Some.ensures
    ∙ gone_on (script_plan c.args.plan.now) c.args.rec.now ks vs c.args.key.now i old c.requires.len c.requires.distinct (sym c.in-Some.ensures.index)
    (slice_get_read vs (length vs) i old refl (omega (arith, c.in-Some.ensures.within, c.requires.len)) c.index_mut.ensures.value)

pub returns-in-None-clause-steps : goal.returns-in-None-clause-steps
returns-in-None-clause-steps c =
    let ks = c.args.keys.now.keys in
    let vs = c.args.outcomes.now.items in (
      absent ks vs c.args.key.now c.requires.len (sym c.in-None.ensures.found),
      refl,
      subst (IsDistinct is_key) (sym (keys_of-zip ks vs c.requires.len)) c.requires.distinct,
    )
