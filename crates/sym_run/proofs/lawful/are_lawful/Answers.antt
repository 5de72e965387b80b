use Rattle.std.proofs.Common.{◌≤◌, ◌∙◌, ap, sym, length, refl, arith}
use Rattle.std.specs.Map.Iter.{deref_pair}
use Rattle.std.specs.Option.{option_map}
use Rattle.sym_check.specs.Checking.CheckedScripts.{checked_plan}
use Rattle.sym_path.proofs.Checks.{whole_list}
use Rattle.sym_run.specs.SavedRuns.{IsLawfulGroup}
use Rattle.sym_run.proofs.LawfulGroups.{none_below, one_further}
use Rattle.sym_run.proofs.lawful.are_lawful.Goals.{in-Some+else-not-is_lawful_group, in_default}
use Rattle.sym_run.proofs.lawful.are_lawful.Goals as goal

pub returns-clause-each : goal.returns-clause-each
returns-clause-each c =
    let past : length c.args.groups.now ≤ c.groups.index = omega (arith, c.groups-test.false) in
    (λ e. whole_list (IsLawfulGroup (checked_plan c.args.checked.now) c.args.first c.args.next) c.args.groups.now c.groups.index past c.groups.invariant, λ h. refl)

pub groups-preserved : goal.groups-preserved
groups-preserved c = elim c.match-at.branch [
  | in-Some+else-not-is_lawful_group w ↦
      one_further (IsLawfulGroup (checked_plan c.args.checked.now) c.args.first c.args.next) c.args.groups.now c.groups.index (w.in-Some.key.now, w.in-Some.chain.now) (sym c.at.ensures ∙ ap (λ r. option_map deref_pair r) w.in-Some.is) (w.is_lawful_group.ensures.0 w.if-not-is_lawful_group.false) c.groups.invariant
  | in_default w ↦ absurd (none_below c.args.groups.now c.groups.index (sym c.at.ensures ∙ ap (λ r. option_map deref_pair r) w.in_default.is) (omega (arith, c.groups-test.true, c.len-index-end.ensures.len)))
]
