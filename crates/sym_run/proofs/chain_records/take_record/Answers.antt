use Rattle.std.proofs.Common.{Bool, List, true, subst}
use Rattle.std.proofs.lemmas.Result.{on_ok_weaker}
use Rattle.sym_base.specs.declared.values.value.Key.{Key}
use Rattle.sym_base.specs.declared.values.record.Record.{Record}
use Rattle.sym_check.specs.Checking.CheckedScripts.{checked_plan}
use Rattle.sym_check.specs.Meaning.Groups.{key_of}
use Rattle.sym_run.specs.Growing.{ExtendsByOne, GrowsByOne, GrowsIf, IsAbsent}
use Rattle.sym_run.specs.declared.opened.Open.{Open}
use Rattle.sym_run.proofs.Beginning.{grown_as_good}
use Rattle.sym_run.proofs.ExtendedGroups.{as_good_extended}
use Rattle.sym_run.proofs.chain_records.take_record.Goals as goal

pub returns-then-branch-clause-grows : goal.returns-then-branch-clause-grows
returns-then-branch-clause-grows c =
    let p = checked_plan c.args.settings.now.checked.now in
    let kept : Record = c.empty_unread.new.rec in
    let old = c.args.map.now.entries in
    let new = c.lengthen.new.map.entries in
    let grows : GrowsIf p c.args.settings.now.limit c.args.settings.now.most c.key_into.new.key kept old true new =
    subst (λ (there : Bool). GrowsIf p c.args.settings.now.limit c.args.settings.now.most c.key_into.new.key kept old there new) c.if-branch.true c.in_ok-lengthen.ensures.grows in
    grown_as_good p c.args.settings.now.limit c.args.settings.now.most (key_of p c.args.memory.now.rec) c.args.memory.now.rec kept old new c.in_ok-empty_unread.ensures.as_good
    (subst (λ (k : Key). GrowsByOne p c.args.settings.now.limit c.args.settings.now.most k kept old new) c.in_ok-key_into.ensures grows)

pub returns-clause-grows : goal.returns-clause-grows
returns-clause-grows c =
    let p = checked_plan c.args.settings.now.checked.now in
    let kept : Record = c.empty_unread.new.rec in
    let old : List (Key × Open) = c.args.map.now.entries in
    let still : List (Key × Open) = c.lengthen.new.map.entries in
    let new : List (Key × Open) = c.begin.new.map.entries in
    let absent : IsAbsent c.key_into.new.key old still =
    subst (λ (there : Bool). GrowsIf p c.args.settings.now.limit c.args.settings.now.most c.key_into.new.key kept old there still) c.if-branch.false c.in_ok-lengthen.ensures.grows in
    on_ok_weaker c.begin.result
    (λ grows. grown_as_good p c.args.settings.now.limit c.args.settings.now.most (key_of p c.args.memory.now.rec) c.args.memory.now.rec kept old new c.in_ok-empty_unread.ensures.as_good
    (subst (λ (groups : List (Key × Open)). GrowsByOne p c.args.settings.now.limit c.args.settings.now.most (key_of p c.args.memory.now.rec) kept groups new) absent.same
    (subst (λ (k : Key). GrowsByOne p c.args.settings.now.limit c.args.settings.now.most k kept still new) c.in_ok-key_into.ensures grows)))
    c.begin.ensures.grows

pub returns-then-branch-clause-extends : goal.returns-then-branch-clause-extends
returns-then-branch-clause-extends c = λ none.
    let p = checked_plan c.args.settings.now.checked.now in
    let kept : Record = c.empty_unread.new.rec in
    let old : List (Key × Open) = c.args.map.now.entries in
    let new : List (Key × Open) = c.lengthen.new.map.entries in
    as_good_extended p c.args.settings.now.limit c.args.settings.now.most (key_of p c.args.memory.now.rec) c.args.memory.now.rec kept old new c.in_ok-empty_unread.ensures.as_good
    (subst (λ (k : Key). ExtendsByOne p c.args.settings.now.limit c.args.settings.now.most k kept old new) c.in_ok-key_into.ensures
    (c.in_ok-lengthen.ensures.extends c.if-branch.true))

pub returns-clause-extends : goal.returns-clause-extends
returns-clause-extends c = λ none.
    let p = checked_plan c.args.settings.now.checked.now in
    let kept : Record = c.empty_unread.new.rec in
    let old : List (Key × Open) = c.args.map.now.entries in
    let still : List (Key × Open) = c.lengthen.new.map.entries in
    let new : List (Key × Open) = c.begin.new.map.entries in
    let absent : IsAbsent c.key_into.new.key old still =
    subst (λ (there : Bool). GrowsIf p c.args.settings.now.limit c.args.settings.now.most c.key_into.new.key kept old there still) c.if-branch.false c.in_ok-lengthen.ensures.grows in
    on_ok_weaker c.begin.result
    (λ extends. as_good_extended p c.args.settings.now.limit c.args.settings.now.most (key_of p c.args.memory.now.rec) c.args.memory.now.rec kept old new c.in_ok-empty_unread.ensures.as_good
    (subst (λ (groups : List (Key × Open)). ExtendsByOne p c.args.settings.now.limit c.args.settings.now.most (key_of p c.args.memory.now.rec) kept groups new) absent.same
    (subst (λ (k : Key). ExtendsByOne p c.args.settings.now.limit c.args.settings.now.most k kept still new) c.in_ok-key_into.ensures extends)))
    (c.begin.ensures.extends none)
