use Rattle.std.proofs.Common.{◌∙◌, ◌++◌, ◌==◌, List, ap, ap₂, length, sym, subst}
use Rattle.std.proofs.lemmas.Result.{on_ok_weaker}
use Rattle.sym_base.specs.declared.values.record.Record.{Record}
use Rattle.sym_check.specs.Checking.CheckedScripts.{checked_plan}
use Rattle.sym_check.specs.Meaning.Validity.{field_kinds}
use Rattle.sym_run.specs.Chains.{ChainFits, ChainStandsFor, IsTight, SegmentsAreTight}
use Rattle.sym_run.proofs.KeptRecords.{all_wide, kept_join_fits, kept_joined, no_items}
use Rattle.sym_run.proofs.joined_groups.join_chain.Goals as goal

pub keep_all-requires : goal.keep_all-requires
keep_all-requires c =
    let p = checked_plan c.args.checked.now in
    (length (field_kinds p), all_wide p c.args.left.now.kept c.requires.left.kept, all_wide p c.args.right.kept c.requires.right.kept)

pub returns-then-is_empty-clause-fits : goal.returns-then-is_empty-clause-fits
returns-then-is_empty-clause-fits c =
    let p = checked_plan c.args.checked.now in
    on_ok_weaker c.keep_all.result
    (λ k. kept_join_fits p c.args.left.now c.args.right c.keep_all.new.self c.requires.left c.requires.right k.segments k.kept) c.keep_all.ensures.ok

pub returns-then-is_empty-clause-tight : goal.returns-then-is_empty-clause-tight
returns-then-is_empty-clause-tight c =
    let p = checked_plan c.args.checked.now in
    on_ok_weaker c.keep_all.result
    (λ k. subst (SegmentsAreTight p c.args.limit) (sym k.segments) c.requires.tight_left) c.keep_all.ensures.ok

pub returns-then-is_empty-clause-stands : goal.returns-then-is_empty-clause-stands
returns-then-is_empty-clause-stands c = λ first rest h k.
    let p = checked_plan c.args.checked.now in
    let none = no_items c.args.right.segments (sym (ap (λ xs. length xs == 0) c.segments.ensures.same) ∙ sym c.is_empty.ensures ∙ c.if-is_empty.true) in
    on_ok_weaker c.keep_all.result
    (λ j. kept_joined p c.args.left.now c.args.right c.keep_all.new.self none j.segments j.kept first rest h k) c.keep_all.ensures.ok

pub returns-then-is_empty-clause-closed : goal.returns-then-is_empty-clause-closed
returns-then-is_empty-clause-closed c = λ a b.
    on_ok_weaker c.keep_all.result
    (λ k. k.kept ∙ ap₂ (λ (xs ys : List Record). xs ++ ys) a b) c.keep_all.ensures.ok

pub join_segments-requires-clause-left : goal.join_segments-requires-clause-left
join_segments-requires-clause-left c = subst (ChainFits (checked_plan c.args.checked.now)) (sym c.replace-old.ensures.value) c.requires.left

pub join_segments-requires-clause-tight_left : goal.join_segments-requires-clause-tight_left
join_segments-requires-clause-tight_left c = subst (IsTight (checked_plan c.args.checked.now) c.args.limit) (sym c.replace-old.ensures.value) c.requires.tight_left

pub returns-clause-stands : goal.returns-clause-stands
returns-clause-stands c = λ first rest h k.
    c.in_ok-left.ensures.stands first rest (subst (ChainStandsFor (checked_plan c.args.checked.now) first) (sym c.replace-old.ensures.value) h) k
