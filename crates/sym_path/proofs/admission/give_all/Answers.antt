use Rattle.std.proofs.Common.{◌≡◌, ◌<◌, ◌≤◌, false, true, length, sym, ◌∙◌, arith}
use Rattle.std.proofs.lemmas.Option.{slice_get_past}
use Rattle.sym_check.specs.Meaning.Conditions.{test_truth}
use Rattle.sym_check.specs.Plan.ScriptPlans.{script_plan}
use Rattle.sym_pred.specs.Literals.{literals}
use Rattle.sym_path.specs.Admitting.{gives_outcome}
use Rattle.sym_path.proofs.Admits.{literals_counted}
use Rattle.sym_path.proofs.Lists.{all_failed, all_next, all_past, no_gap}
use Rattle.sym_path.proofs.admission.give_all.Goals.{in-Some+else-not-gives, in-None}
use Rattle.sym_path.proofs.admission.give_all.Goals as goal

pub returns-then-not-gives : goal.returns-then-not-gives
returns-then-not-gives c =
    let failed : gives_outcome (test_truth (script_plan c.args.plan.now).tests) c.args.parts.now c.in-Some.literal.now ≡ false = sym c.gives.ensures ∙ c.if-not-gives.true in
    sym (all_failed _ (literals c.args.facts.now) c.literals.index c.in-Some.literal.now (sym c.in-Some.ensures) failed c.literals.invariant)

pub literals-preserved : goal.literals-preserved
literals-preserved c = elim c.match-at.branch [
  | in-Some+else-not-gives w ↦
      let given : gives_outcome (test_truth (script_plan c.args.plan.now).tests) c.args.parts.now w.in-Some.literal.now ≡ true = sym w.gives.ensures ∙ w.if-not-gives.false in
      all_next _ (literals c.args.facts.now) c.literals.index w.in-Some.literal.now (sym w.in-Some.ensures) given c.literals.invariant
  | in-None w ↦
      let within : c.literals.index < length (literals c.args.facts.now) = omega (arith, literals_counted c.args.facts.now, c.len-index-end.ensures, c.literals-test.true) in
      absurd (no_gap _ _ within (sym w.in-None.ensures))
]

pub returns : goal.returns
returns c =
    let past : length (literals c.args.facts.now) ≤ c.literals.index = omega (arith, literals_counted c.args.facts.now, c.len-index-end.ensures, c.literals-test.false) in
    sym (all_past _ (literals c.args.facts.now) c.literals.index (slice_get_past _ _ past) c.literals.invariant)
