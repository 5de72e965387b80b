use Rattle.std.proofs.Common.{◌≡◌, ◌∙◌, ◌<◌, ◌≤◌, ◌^◌, Some, None, ap, arith, length, rules, sym}
use Rattle.std.specs.Map.Iter.{deref_pair}
use Rattle.std.specs.Option.{option_map}
use Rattle.std.specs.Prelude.{slice_get}
use Rattle.sym_file.specs.Stored.{IsStoredGroup}
use Rattle.sym_file.specs.Texts.{group_text}
use Rattle.sym_file.proofs.Appending.{appended_at, nothing_at, stored_all}
use Rattle.sym_file.proofs.Groups.{Group}
use Rattle.sym_file.proofs.saved_text.put_groups.Goals.{in-Some+in_ok-put_group, in_default}
use Rattle.sym_file.proofs.saved_text.put_groups.Goals as goal

pub groups-preserved : goal.groups-preserved
groups-preserved c = elim c.match-at.branch [
  | in-Some+in_ok-put_group w ↦
      let x : Group = (w.in-Some.key.now, w.in-Some.chain.now) in
      let there : slice_get c.args.groups.now c.groups.index ≡ Some x = sym c.at.ensures ∙ ap (λ r. option_map deref_pair r) w.in-Some.is in
      rw w.out-is (appended_at group_text IsStoredGroup c.args.groups.now c.groups.index x c.args.out.now.items c.groups.out.items w.put_group.new.out.items there w.in_ok-put_group.ensures.text w.in_ok-put_group.ensures.stored c.groups.invariant)
  | in_default w ↦
      let none : slice_get c.args.groups.now c.groups.index ≡ None = sym c.at.ensures ∙ ap (λ r. option_map deref_pair r) w.in_default.is in
      absurd (nothing_at c.args.groups.now c.groups.index (omega (arith, c.groups-test.true, c.len-index-end.ensures.len)) none)
]

pub returns-clause-stored : goal.returns-clause-stored
returns-clause-stored c =
    let test = c.groups-test.false in
    let len = c.len-index-end.ensures.len in
    let past : length c.args.groups.now ≤ c.groups.index = omega (arith, test, len) in
    let small : c.len-index-end.result < 2 ^ 64 = search rules in
    let few : length c.args.groups.now < 2 ^ 64 = omega (arith, small, len) in
    stored_all group_text IsStoredGroup c.args.groups.now c.groups.index c.args.out.now.items c.groups.out.items past few c.groups.invariant
