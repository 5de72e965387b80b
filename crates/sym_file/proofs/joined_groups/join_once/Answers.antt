use Rattle.std.proofs.Common.{◌∙◌, sym}
use Rattle.std.specs.Map.{lookup}
use Rattle.sym_check.specs.Checking.CheckedScripts.{checked_plan}
use Rattle.sym_check.specs.Meaning.Groups.{is_key}
use Rattle.sym_plain.proofs.Pairs.{put-new}
use Rattle.sym_run.proofs.ClosedJoins.{closed_new}
use Rattle.sym_file.proofs.Marks.{joined_new, joined_there, seen_is}
use Rattle.sym_file.proofs.Taking.{not_found}
use Rattle.sym_file.proofs.joined_groups.join_once.Goals as goal

pub returns-in_ok-join_at-in-Some : goal.returns-in_ok-join_at-in-Some
returns-in_ok-join_at-in-Some c = λ seen is.
    let p = checked_plan c.args.joiner.now.checked.now in
    let groups = c.args.groups.now in
    let marks = c.args.marks.now.items in
    let at = c.in-Some.ensures.index in
    joined_there p c.args.joiner.now.limit seen groups marks is c.args.key c.args.chain c.join_at.new.self (c.in_ok-join_at-in-Some.ensures c.args.key at) c.in-Some.index at c.in-Some.ensures.distinct
    (seen_is seen groups marks is c.args.key c.in-Some.index at c.index.result.now c.index.ensures ∙ c.if-index.false)

pub begin-requires : goal.begin-requires
begin-requires c = record { new = not_found (lookup (is_key c.args.key) c.args.groups.now) c.in-None.ensures.found }

pub returns-in_ok-begin-in-None : goal.returns-in_ok-begin-in-None
returns-in_ok-begin-in-None c = λ seen is.
    let p = checked_plan c.args.joiner.now.checked.now in
    let groups = c.args.groups.now in
    let none = not_found (lookup (is_key c.args.key) groups) c.in-None.ensures.found in
    joined_new p c.args.joiner.now.limit seen groups c.args.marks.now.items is c.args.key c.args.chain c.begin.new.self
    (closed_new p c.args.joiner.now.limit c.args.key groups c.begin.new.self c.args.chain (c.in_ok-begin-in-None.ensures.ok ∙ sym (put-new groups c.args.key c.args.chain none)) none c.requires.right c.requires.closed_right)
    c.push.new.self.items none c.in_ok-push-in-None.ensures.items
