use Rattle.std.proofs.Common.{◌<◌, length, arith, subst}
use Rattle.sym_path.proofs.SettlingLists.{in_turn_after, in_turn_settled, one_more_settled, reduced_self, settling_of, pair_length, pair_settled, pair_reduced}
use Rattle.sym_path.specs.declared.path.Path.{Path}
use Rattle.sym_path.specs.Settling.{AreEndedInTurn}
use Rattle.std.specs.Prelude.{List}
use Rattle.sym_path.proofs.settled.settle.Goals as goal

pub paths-init : goal.paths-init
paths-init c =
    let ended : AreEndedInTurn c.args.paths.items c.ended_in_turn-ended.result = subst (λ (ps : List Path). AreEndedInTurn ps c.ended_in_turn-ended.result) c.deref.ensures.value c.ended_in_turn-ended.ensures.ended in
    record {
      within = omega arith;
      before = omega arith;
      ended = ended;
      settled = in_turn_settled c.args.paths.items c.ended_in_turn-ended.result (omega arith) ended;
      reduced = reduced_self c.args.paths.items;
    }

pub paths-preserved-in-Some : goal.paths-preserved-in-Some
paths-preserved-in-Some c =
    let n = c.paths.settled in
    let within : n < length c.paths.paths.items = omega arith in
    let earlier : c.in-Some.index < n = c.in-Some.ensures.0 in
    let join = c.in_ok-join_pair-in-Some.ensures in
    record {
      within = omega (arith, pair_length c.paths.paths.items c.join_pair.new.paths.items c.in-Some.index n earlier within join);
      before = omega arith;
      ended = in_turn_after c.paths.paths.items c.join_pair.new.paths.items c.in-Some.index n earlier within join c.paths.ended c.min-ended.result (omega arith) (omega arith) c.paths.invariant.ended;
      settled = pair_settled c.paths.paths.items c.join_pair.new.paths.items c.in-Some.index n earlier within join c.paths.invariant.settled;
      reduced = pair_reduced c.paths.paths.items c.join_pair.new.paths.items c.in-Some.index n earlier within join c.args.paths.items c.paths.invariant.reduced;
    }

pub paths-preserved : goal.paths-preserved
paths-preserved c =
    let within : c.paths.settled < length c.paths.paths.items = omega arith in
    record {
      within = omega arith;
      before = omega arith;
      ended = c.paths.invariant.ended;
      settled = one_more_settled c.paths.paths.items c.deref-in-paths.result.now c.paths.settled c.deref-in-paths.ensures.value within c.in-None.ensures c.paths.invariant.settled;
      reduced = c.paths.invariant.reduced;
    }

pub returns : goal.returns
returns c = settling_of c.args.paths.items c.paths.paths.items c.of.result c.paths.settled c.of.ensures (omega arith) c.paths.invariant.settled c.paths.invariant.reduced
