use Rattle.std.proofs.Common.{List}
use Rattle.std.proofs.lemmas.Result.{IfOk-weaker}
use Rattle.sym_check.specs.Checking.CheckedScripts.{checked_plan}
use Rattle.sym_check.specs.Plan.ScriptPlans.{ScriptPlan}
use Rattle.sym_path.specs.declared.path.Path.{Path}
use Rattle.sym_path.specs.Composing.{IsComposition}
use Rattle.sym_uses.specs.Segments.{IsAlsoFromLeft}
use Rattle.sym_uses.proofs.segments.three_in_one.Goals as goal

pub returns-clause-either_way : goal.returns-clause-either_way
returns-clause-either_way c =
    let p : ScriptPlan = checked_plan c.args.checked.now in
    let first : List Path = c.args.first.now in
    let second : List Path = c.args.second.now in
    let third : List Path = c.args.third.now in
    let rest : List Path = c.in_ok-rest.rest in
    IfOk-weaker c.compose-2.result (IsComposition p first rest) (IsAlsoFromLeft p first second third)
    (λ whole last left other s both then.
    c.composition_is_associative.ensures.agree p first second third other whole s (record {
      left = left;
      right = rest;
      first_two = both;
      then_third = then;
      last_two = c.in_ok-rest.ensures;
      after_first = last;
    }))
    c.compose-2.ensures
