use denote.Param.Send.{sendable}
use Rattle.std.proofs.Common.{◌∙◌, ◌++◌, List, ap, length, subst, sym}
use Rattle.std.specs.List.{All}
use Rattle.sym_check.specs.Checking.CheckedScripts.{checked_plan}
use Rattle.sym_plain.specs.Pairs.{HaveDistinctKeys}
use Rattle.sym_run.specs.Closing.{CanJoin, WasJoined, put_joined}
use Rattle.sym_run.specs.Growing.{AreBoth}
use Rattle.sym_run.specs.Runs.{AreClosed, AreTight, GroupsFit, GroupsStandFor}
use Rattle.sym_run.specs.declared.closed_groups.Joining.{Joining}
use Rattle.sym_run.proofs.ChainsShared.{checked_shared}
use Rattle.sym_run.proofs.ClosingGroups.{IsAllJoined, can_all, joined_slice, put_back}
use Rattle.sym_run.proofs.JoinedGroups.{Chains}
use Rattle.sym_run.proofs.Stepping.{joining_all, joining_both}
use Rattle.sym_run.proofs.TakenGroups.{written_back}
use Rattle.sym_run.proofs.closed_groups.join_and_close.Given.{Over}
use Rattle.sym_run.proofs.closed_groups.join_and_close.Goals as goal

pub join_each-requires-sync-S : goal.join_each-requires-sync-S
join_each-requires-sync-S g c κs within = search (checked_shared, sendable) depth 60 fits 20000

pub join_each-requires-after_bounds : goal.join_each-requires-after_bounds
join_each-requires-after_bounds g c = λ κs within.
    let p = checked_plan c.args.checked.now in
    let limit = c.args.limit in
    let left = c.into_map-map.result.entries in
    subst (All (CanJoin p limit)) (sym c.as_mut_slice.ensures.value)
    (can_all p limit left c.args.right c.in_ok-joining.joining.items
    (subst (GroupsFit p) (sym c.into_map-map.ensures.same) c.requires.left)
    (subst (AreTight p limit) (sym c.into_map-map.ensures.same) c.requires.tight_left)
    c.requires.right c.requires.tight_right c.in_ok-joining.ensures.out)

all : (g : Over) (c : goal.After-of_map g) → IsAllJoined (checked_plan c.args.checked.now) c.args.limit c.args.left c.args.right c.put_all.new.map.entries
all g c =
    let p = checked_plan c.args.checked.now in
    let limit = c.args.limit in
    let left = c.into_map-map.result.entries in
    let right = c.args.right in
    let real = c.take_all_out.new.map.entries in
    let olds = c.in_ok-joining.joining.items in
    let news = c.join_each.new.joining in
    let same = written_back c.in_ok-joining.joining.len news olds (c.join_each.ensures.len ∙ ap length c.as_mut_slice.ensures.value) c.in_ok-joining.joining.ok.0 in
    let is = c.in_ok-put_all.ensures.groups ∙ ap (λ (joining : List Joining). put_joined joining real) same in
    subst (λ (groups : Chains). IsAllJoined p limit groups right c.put_all.new.map.entries) c.into_map-map.ensures.same
    (subst (IsAllJoined p limit left right) (sym is)
    (put_back p limit left right real news
    (subst (GroupsFit p) (sym c.into_map-map.ensures.same) c.requires.left)
    (subst (AreTight p limit) (sym c.into_map-map.ensures.same) c.requires.tight_left)
    (subst AreClosed (sym c.into_map-map.ensures.same) c.requires.closed_left)
    c.len-count.ensures.distinct
    c.in_ok-joining.ensures.alike
    (joined_slice p limit left right olds c.as_mut_slice.result.now news c.as_mut_slice.ensures.value c.join_each.ensures c.in_ok-joining.ensures.out)
    (subst (All WasJoined) same c.in_ok-put_all.ensures.joined)
    (subst HaveDistinctKeys is c.in_ok-put_all.ensures.distinct)))

pub returns-clause-fits : goal.returns-clause-fits
returns-clause-fits g c = subst (GroupsFit (checked_plan c.args.checked.now)) (sym c.of_map.ensures) (all g c).joining.fits

pub returns-clause-tight : goal.returns-clause-tight
returns-clause-tight g c = subst (AreTight (checked_plan c.args.checked.now) c.args.limit) (sym c.of_map.ensures) (all g c).joining.tight

pub returns-clause-closed : goal.returns-clause-closed
returns-clause-closed g c = subst AreClosed (sym c.of_map.ensures) (all g c).closed

pub returns-clause-both : goal.returns-clause-both
returns-clause-both g c =
    let p = checked_plan c.args.checked.now in
    subst (AreBoth p c.args.left c.args.right) (sym c.of_map.ensures)
    (joining_both p c.args.limit c.args.left c.args.right c.put_all.new.map.entries (all g c).joining)

pub returns-clause-stands : goal.returns-clause-stands
returns-clause-stands g c = λ first rest a b.
    let p = checked_plan c.args.checked.now in
    subst (GroupsStandFor p (first ++ rest)) (sym c.of_map.ensures)
    (joining_all p c.args.limit c.args.left c.args.right c.put_all.new.map.entries (all g c).joining first rest a b)
