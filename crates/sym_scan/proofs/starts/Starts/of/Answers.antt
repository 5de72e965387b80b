use Rattle.std.proofs.Common.{◌≡◌, ◌∙◌, ◌≤◌, ◌++◌, None, length, ap, arith, subst, sym}
use Rattle.std.specs.Map.{lookup}
use Rattle.sym_check.specs.Meaning.Groups.{is_key}
use Rattle.sym_scan.specs.Replays.{start_of}
use Rattle.sym_scan.proofs.Lists.{none_past}
use Rattle.sym_scan.proofs.Standing.{Pairs}
use Rattle.sym_scan.proofs.StartLaws.{start_absent, starts_next}
use Rattle.sym_scan.proofs.starts.Starts.of.Goals.{in-Some+in_ok-add_start, in_default}
use Rattle.sym_scan.proofs.starts.Starts.of.Goals as goal

pub add_start-requires : goal.add_start-requires
add_start-requires c = record {
  new =
      subst (λ (starts : Pairs). lookup (is_key c.in-Some.key.now) starts ≡ None) (sym c.keys.invariant)
      (start_absent c.args.groups.now c.args.run.now.groups c.keys.index (c.in-Some.key.now, c.in-Some._chain.now) (sym c.in-Some.ensures) c.len-index-end.ensures.distinct);
}

pub keys-preserved : goal.keys-preserved
keys-preserved c =
    elim c.match-at.branch [
      | in-Some+in_ok-add_start w ↦
          w.starts-is
          ∙ w.in_ok-add_start.ensures
          ∙ ap (λ (starts : Pairs). starts ++ start_of w.in-Some.key.now (lookup (is_key w.in-Some.key.now) c.args.groups.now)) c.keys.invariant
          ∙ sym (starts_next c.args.groups.now c.args.run.now.groups c.keys.index (w.in-Some.key.now, w.in-Some._chain.now) (sym w.in-Some.ensures))
      | in_default w ↦
          let past : length c.args.run.now.groups ≤ c.keys.index = none_past c.args.run.now.groups c.keys.index (sym w.in_default.ensures) in
          let test = c.keys-test.true in
          let end = c.len-index-end.ensures.len in
          absurd (omega arith)
    ]
