use Rattle.sym_check.specs.Plan.ScriptPlans.{script_plan}
use Rattle.sym_explore.specs.Branches.{answered, Splits}
use Rattle.sym_explore.specs.Calling.{test_holds, WasTested}
use Rattle.sym_explore.proofs.ComparedPaths.{if_ok_both}
use Rattle.sym_explore.proofs.TestsHeld.{copied_suits, const_called, copy_called, ended_tested}
use Rattle.sym_explore.proofs.hold_tests.call.Goals as goal

pub split_test-requires-clause-suits : goal.split_test-requires-clause-suits
split_test-requires-clause-suits c =
    copied_suits (script_plan c.args.plan.now) c.args.path.now c.args.called.now.cell c.in-Held.from c.args.called.now.test c.args.called.now.args.now c.requires.suits c.requires.split.fits c.in-Held.ensures

pub returns-in-Known-clause-exact : goal.returns-in-Known-clause-exact
returns-in-Known-clause-exact c = λ n.
    const_called (script_plan c.args.plan.now) c.args.path.now c.args.out.now.items c.args.called.now.cell c.args.called.now.test c.args.called.now.args.now c.in-Known.answer c.requires.suits c.requires.split.fits c.in-Known.ensures n

pub returns-in-Held-clause-exact : goal.returns-in-Held-clause-exact
returns-in-Held-clause-exact c = λ n.
    let p = script_plan c.args.plan.now in
    if_ok_both c.split_test.result
    (WasTested p c.in-Held.from c.args.called.now.test c.args.called.now.args.now c.args.path.now c.args.out.now.items c.split_test.new.path c.split_test.new.out.items)
    (Splits p (answered n (test_holds p c.args.called.now.cell c.args.called.now.test c.args.called.now.args.now)) c.args.path.now c.args.out.now.items c.split_test.new.path c.split_test.new.out.items)
    (λ last tested. copy_called (script_plan c.args.plan.now) c.args.path.now c.split_test.new.path c.args.out.now.items c.split_test.new.out.items c.args.called.now.cell c.in-Held.from c.args.called.now.test c.args.called.now.args.now last c.requires.suits c.requires.split.fits c.in-Held.ensures tested n)
    c.split_test.ensures.exact

pub unreachable-requires : goal.unreachable-requires
unreachable-requires c =
    ended_tested (script_plan c.args.plan.now) c.args.path.now c.args.called.now.cell c.args.called.now.test c.args.called.now.args.now c.requires.suits c.requires.split.fits c.in-Ended.ensures c.requires.split.goes_on
