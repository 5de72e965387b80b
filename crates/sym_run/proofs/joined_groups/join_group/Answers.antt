use Rattle.std.proofs.Common.{◌∙◌, ap₂, subst}
use Rattle.indexmap.specs.IndexMap.{insert_entry}
use Rattle.sym_check.specs.Checking.CheckedScripts.{checked_plan}
use Rattle.sym_check.specs.Meaning.Groups.{is_key}
use Rattle.sym_plain.specs.Pairs.{HaveDistinctKeys}
use Rattle.sym_plain.proofs.Pairs.{insert-put}
use Rattle.sym_run.proofs.Beginning.{grown_new}
use Rattle.sym_run.proofs.joined_groups.join_group.Goals as goal

pub returns-in_ok-insert-clause-joins : goal.returns-in_ok-insert-clause-joins
returns-in_ok-insert-clause-joins c =
    let p = checked_plan c.args.checked.now in
    let back = rw c.in-Some.is at c.in_ok-right.ensures.joins in
    grown_new p c.args.limit c.args.key c.args.map.now.entries c.insert.new.self.entries c.args.right
    (c.in_ok-insert.ensures.entries ∙ ap₂ (λ es v. insert_entry is_key es c.args.key v) back.0.same back.1
    ∙ insert-put c.args.map.now.entries c.args.key c.args.right (subst HaveDistinctKeys back.0.same c.join_there.ensures.distinct))
    back.0.none c.requires.right c.requires.tight_right
