use Rattle.std.proofs.Common.{◌∙◌, length-set, subst, sym}
use Rattle.sym_check.specs.Checking.CheckedScripts.{checked_plan}
use Rattle.sym_run.specs.Closing.{IsJoinedTo}
use Rattle.sym_run.specs.declared.closed_groups.Joining.{Joining}
use Rattle.sym_run.proofs.ClosingGroups.{part_on, set_rest}
use Rattle.sym_run.proofs.closed_groups.join_part.Goals as goal

pub groups-preserved : goal.groups-preserved
groups-preserved c =
    let p = checked_plan c.args.checked.now in
    let olds = c.args.joining.now in
    let now = c.groups.joining in
    let new = c.join_in_place.new.one in
    record {
      long = length-set now c.groups.k new ∙ c.groups.invariant.long;
      done =
          part_on p c.args.limit c.groups.k olds now c.index-joining-k.result new c.groups.invariant.long c.groups-test.true c.index-joining-k.is
          (subst (λ (one : Joining). IsJoinedTo p c.args.limit one new) (sym c.index-joining-k.is) c.join_in_place.ensures)
          c.groups.invariant.done c.groups.invariant.rest;
      rest = set_rest olds now c.groups.k new c.groups.invariant.rest;
    }
