use Rattle.std.proofs.Common.{◌∙◌}
use Rattle.std.specs.Map.{lookup}
use Rattle.sym_check.specs.Checking.CheckedScripts.{checked_plan}
use Rattle.sym_check.specs.Meaning.Conditions.{test_truth}
use Rattle.sym_check.specs.Meaning.Groups.{is_key}
use Rattle.sym_plain.specs.Pairs.{standing}
use Rattle.sym_file.specs.Totals.{led_through}
use Rattle.sym_file.proofs.Marks.{once_new, once_there, seen_is}
use Rattle.sym_file.proofs.Taking.{new_taken, not_found}
use Rattle.sym_file.proofs.led_groups.take_once.Goals as goal

pub returns-in_ok-take_at-in-Some-clause-taken : goal.returns-in_ok-take_at-in-Some-clause-taken
returns-in_ok-take_at-in-Some-clause-taken c = λ seen is.
    let p = checked_plan c.args.checked.now in
    let groups = c.args.groups.now in
    let at = c.in-Some.ensures.index in
    once_there seen groups c.args.marks.now.items is c.args.key (led_through (test_truth p.tests) c.args.chain.now (standing p (lookup (is_key c.args.key) groups))) c.in_ok-take_at-in-Some.field-0 c.take_at.new.groups
    (c.in_ok-take_at-in-Some.ensures.taken c.args.key at) c.in-Some.index at c.in-Some.ensures.distinct
    (seen_is seen groups c.args.marks.now.items is c.args.key c.in-Some.index at c.index.result.now c.index.ensures ∙ c.if-index.false)

pub begin-requires-clause-new : goal.begin-requires-clause-new
begin-requires-clause-new c = not_found (lookup (is_key c.args.key) c.args.groups.now) c.in-None.ensures.found

pub returns-in_ok-begin-in-None-clause-taken : goal.returns-in_ok-begin-in-None-clause-taken
returns-in_ok-begin-in-None-clause-taken c = λ seen is.
    let p = checked_plan c.args.checked.now in
    let groups = c.args.groups.now in
    let none = not_found (lookup (is_key c.args.key) groups) c.in-None.ensures.found in
    once_new seen groups c.args.marks.now.items is c.args.key (led_through (test_truth p.tests) c.args.chain.now (standing p (lookup (is_key c.args.key) groups))) c.in_ok-begin-in-None.field-0 c.begin.new.groups
    (new_taken p c.args.key c.args.chain.now groups c.in_ok-begin-in-None.field-0 c.begin.new.groups none c.in_ok-begin-in-None.ensures.taken) c.push.new.self.items none c.in_ok-push-in-None.ensures.items
