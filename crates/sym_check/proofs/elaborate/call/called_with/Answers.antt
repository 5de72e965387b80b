-- The tests on the arguments, in their order.
use Rattle.std.proofs.Common.{◌≡◌, ◌∙◌, ◌-◌, length, map, drop, arith, Ok, Err}
use Rattle.std.proofs.lemmas.List.{length-map}
use Rattle.std.proofs.lemmas.Result.{err_from_is_err_and}
use Rattle.sym_check.specs.Checking.CalledTests.{called_test}
use Rattle.sym_check.specs.Elaborate.Expressions.{Arguments, values_of}
use Rattle.sym_check.specs.Plan.FixedPlans.{fixed_plan}
use Rattle.sym_check.specs.Checking.TypedPlans.{located_plan}
use Rattle.sym_check.proofs.Called.{rest-whole, other-kinds, same-kinds, then-err, then-ok}
use Rattle.sym_check.proofs.elaborate.call.called_with.Goals as goal

pub returns-then-not-starts_with : goal.returns-then-not-starts_with
returns-then-not-starts_with c =
    let args : Arguments = record { first = located_plan c.args.first.now; others = map located_plan c.args.others.items } in
    let counted : length args.others ≡ length c.args.test.params.now - length c.in-HoldCell.kinds = omega (arith, length-map c.args.others.items located_plan) in
    rw c.in-HoldCell.is (λ refused. other-kinds c.args.at (called_test c.args.test) args c.in-HoldCell.cell c.in-HoldCell.kinds counted (cc c.starts_with.ensures.value))

pub returns-in_err-args : goal.returns-in_err-args
returns-in_err-args c =
    let args : Arguments = record { first = located_plan c.args.first.now; others = map located_plan c.args.others.items } in
    let counted : length args.others ≡ length c.args.test.params.now - length c.in-HoldCell.kinds = omega (arith, length-map c.args.others.items located_plan) in
    let goes = same-kinds c.args.at (called_test c.args.test) args c.in-HoldCell.cell c.in-HoldCell.kinds counted (cc c.starts_with.ensures.value) in
    let rest = rest-whole (length c.in-HoldCell.kinds) c.args.test.params.now in
    let p = err_from_is_err_and c.from_residual.result c.from_residual.ensures.1 in
    rw (p.1, p.2, c.in-HoldCell.is) (λ refused.
    let failed : values_of (drop (length c.in-HoldCell.kinds) c.args.test.params.now) args.others ≡ Err c.in_err-args.field-0.0 = cc (rest, c.in_err-args.ensures refused) in
    goes ∙ then-err _ _ _ failed)

pub returns : goal.returns
returns c =
    let args : Arguments = record { first = located_plan c.args.first.now; others = map located_plan c.args.others.items } in
    let counted : length args.others ≡ length c.args.test.params.now - length c.in-HoldCell.kinds = omega (arith, length-map c.args.others.items located_plan) in
    let goes = same-kinds c.args.at (called_test c.args.test) args c.in-HoldCell.cell c.in-HoldCell.kinds counted (cc c.starts_with.ensures.value) in
    let rest = rest-whole (length c.in-HoldCell.kinds) c.args.test.params.now in
    let values : values_of (drop (length c.in-HoldCell.kinds) c.args.test.params.now) args.others ≡ Ok (map fixed_plan c.in_ok-args.args) = cc (rest, c.in_ok-args.ensures) in
    rw c.in-HoldCell.is (goes ∙ then-ok _ _ _ values)
