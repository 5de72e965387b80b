use Rattle.std.specs.Prelude.{slice_get}
use Rattle.sym_check.specs.Plan.ScriptPlans.{ScriptPlan, script_plan}
use Rattle.sym_explore.proofs.PathCuts.{none_of, pushed_fit, first_narrows, cut_one, cut_two, cut_three, few_first, few_two, few_three}
use Rattle.sym_explore.proofs.comparisons.cut_path.Goals as goal

pub returns-in_default-clause-exact : goal.returns-in_default-clause-exact
returns-in_default-clause-exact c =
    cut_one (script_plan c.args.plan.now) c.args.cell c.args.pieces.now c.args.path.now c.args.out.now.items c.requires.pieces (none_of c.args.pieces.now.second c.in_default.not-Some)

pub returns-in_default-clause-few : goal.returns-in_default-clause-few
returns-in_default-clause-few c = few_first c.args.pieces.now c.args.out.now.items

pub push_piece-requires-clause-narrower : goal.push_piece-requires-clause-narrower
push_piece-requires-clause-narrower c = first_narrows (slice_get c.args.path.now.when c.args.cell) c.args.pieces.now c.requires.pieces

pub returns-in_default-third-clause-exact : goal.returns-in_default-third-clause-exact
returns-in_default-third-clause-exact c =
    cut_two (script_plan c.args.plan.now) c.args.cell c.args.pieces.now c.in-Some.second c.args.path.now c.narrow_numbers.new.self c.args.out.now.items c.push_piece.new.out.items c.requires.pieces c.in-Some.is (none_of c.args.pieces.now.third c.in_default-third.not-Some) c.in_ok-push_piece.ensures c.narrow_numbers.ensures.gives

pub returns-in_default-third-clause-few : goal.returns-in_default-third-clause-few
returns-in_default-third-clause-few c =
    few_two (script_plan c.args.plan.now) c.args.cell c.args.pieces.now c.in-Some.second c.args.path.now c.args.out.now.items c.push_piece.new.out.items c.in-Some.is c.in_ok-push_piece.ensures

pub returns-in_default-third-clause-next : goal.returns-in_default-third-clause-next
returns-in_default-third-clause-next c = record {
  fits = c.narrow_numbers.ensures.fits;
  goes_on = c.narrow_numbers.ensures.next c.requires.split.goes_on;
  others = pushed_fit (script_plan c.args.plan.now) c.args.cell c.args.pieces.now.first c.args.path.now c.args.out.now.items c.push_piece.new.out.items c.in_ok-push_piece.ensures c.requires.split.goes_on c.requires.split.others;
}

pub returns-clause-exact : goal.returns-clause-exact
returns-clause-exact c =
    cut_three (script_plan c.args.plan.now) c.args.cell c.args.pieces.now c.in-Some.second c.in-Some-third.third c.args.path.now c.narrow_numbers-2.new.self c.args.out.now.items c.push_piece.new.out.items c.push_piece-2.new.out.items c.requires.pieces c.in-Some.is c.in-Some-third.is c.in_ok-push_piece.ensures c.in_ok-push_piece-2.ensures c.narrow_numbers-2.ensures.gives

pub returns-clause-next : goal.returns-clause-next
returns-clause-next c =
    let p : ScriptPlan = script_plan c.args.plan.now in
    record {
      fits = c.narrow_numbers-2.ensures.fits;
      goes_on = c.narrow_numbers-2.ensures.next c.requires.split.goes_on;
      others =
          pushed_fit p c.args.cell c.in-Some.second c.args.path.now c.push_piece.new.out.items c.push_piece-2.new.out.items c.in_ok-push_piece-2.ensures c.requires.split.goes_on
          (pushed_fit p c.args.cell c.args.pieces.now.first c.args.path.now c.args.out.now.items c.push_piece.new.out.items c.in_ok-push_piece.ensures c.requires.split.goes_on c.requires.split.others);
    }

pub returns-clause-few : goal.returns-clause-few
returns-clause-few c =
    few_three (script_plan c.args.plan.now) c.args.cell c.args.pieces.now c.in-Some.second c.in-Some-third.third c.args.path.now c.args.out.now.items c.push_piece.new.out.items c.push_piece-2.new.out.items c.in-Some.is c.in-Some-third.is c.in_ok-push_piece.ensures c.in_ok-push_piece-2.ensures
