use Rattle.std.proofs.Common.{◌∙◌, ◌+◌, ◌++◌, ◌∷◌, [], List, ap, length, map, refl}
use Rattle.sym_check.specs.Checking.CheckedScripts.{checked_plan, checked_tree}
use Rattle.sym_base.specs.declared.values.record.Record.{Record}
use Rattle.sym_table.specs.declared.chunk.Chunk.{Chunk}
use Rattle.sym_watch.specs.declared.partial.Partial.{Partial}
use Rattle.sym_files.specs.Rounds.{round_records}
use Rattle.sym_files.specs.Taking.{rows_of}
use Rattle.sym_files.specs.Telling as point
use Rattle.sym_watched.specs.Watching.{ToldAt, start_of, watching}
use Rattle.sym_watched.proofs.Logs.{part_none, part_whole}
use Rattle.sym_passes.proofs.AppliedRuns.{all_broken, all_led}
use Rattle.sym_watched.proofs.WatchedRounds.{above_new, bad_of_round, done_of_round, of_records, part_of, partial_rows, round_fails, watched_on}
use Rattle.sym_watched.proofs.watched.WatchedRounds.take.Goals as goal

pub returns-in_err-border-clause-tells : goal.returns-in_err-border-clause-tells
returns-in_err-border-clause-tells g c = λ start before at.
    let p = checked_plan c.args.work.now.checked in
    let s = start_of (checked_tree start.task.checked.now) (map (λ o. (goal.Observer-dyn g (o.vtable, o.value)).log o.value) start.news.observers.items) in
    let read = round_records p (g.G.Gate.shown c.args.self.now.task.gate.now) c.args.work.now.chunks in
    let logs = map (λ o. (goal.Observer-dyn g (o.vtable, o.value)).log o.value) c.args.self.now.news.observers.items in
    let now = watching (checked_tree c.args.self.now.task.checked.now) c.args.self.now.groups c.args.self.now.border c.args.self.now.news.publisher.list c.args.self.now.news.untold logs in
    round_fails (ToldAt p s) read before now c.from_residual.result c.from_residual.ensures.0
    (part_of p s before _ _ _ _ _ _ logs at (part_none _ _))

pub returns-in_err-applied-clause-tells : goal.returns-in_err-applied-clause-tells
returns-in_err-applied-clause-tells g c = λ start before at.
    let p = checked_plan c.args.work.now.checked in
    let s = start_of (checked_tree start.task.checked.now) (map (λ o. (goal.Observer-dyn g (o.vtable, o.value)).log o.value) start.news.observers.items) in
    let read = round_records p (g.G.Gate.shown c.args.self.now.task.gate.now) c.args.work.now.chunks in
    let logs = map (λ o. (goal.Observer-dyn g (o.vtable, o.value)).log o.value) c.lead_round.new.self.observers.items in
    let now = watching (checked_tree c.args.self.now.task.checked.now) c.replace-groups.new.dest c.args.self.now.border c.lead_round.new.self.publisher.list c.lead_round.new.self.untold logs in
    round_fails (ToldAt p s) read before now c.from_residual-in_err-applied.result c.from_residual-in_err-applied.ensures.0
    (part_of p s before _ _ _ _ _ _ logs at c.in_err-applied.ensures.err)

pub returns-in_err-shown-in-Done-clause-tells : goal.returns-in_err-shown-in-Done-clause-tells
returns-in_err-shown-in-Done-clause-tells g c = λ start before at.
    let p = checked_plan c.args.work.now.checked in
    let s = start_of (checked_tree start.task.checked.now) (map (λ o. (goal.Observer-dyn g (o.vtable, o.value)).log o.value) start.news.observers.items) in
    let read = round_records p (g.G.Gate.shown c.args.self.now.task.gate.now) c.args.work.now.chunks in
    let logs = map (λ o. (goal.Observer-dyn g (o.vtable, o.value)).log o.value) c.lead_round.new.self.observers.items in
    let now = watching (checked_tree c.args.self.now.task.checked.now) c.replace-groups.new.dest c.args.self.now.border c.lead_round.new.self.publisher.list c.lead_round.new.self.untold logs in
    round_fails (ToldAt p s) read before now c.from_residual-in_err-shown-in-Done.result c.from_residual-in_err-shown-in-Done.ensures.0
    (part_of p s before _ _ _ _ _ _ logs at (part_whole _ _ _ c.in_ok-applied.ensures.ok))

pub returns-in_err-publish-in-Done-clause-tells : goal.returns-in_err-publish-in-Done-clause-tells
returns-in_err-publish-in-Done-clause-tells g c = λ start before at.
    let p = checked_plan c.args.work.now.checked in
    let s = start_of (checked_tree start.task.checked.now) (map (λ o. (goal.Observer-dyn g (o.vtable, o.value)).log o.value) start.news.observers.items) in
    let read = round_records p (g.G.Gate.shown c.args.self.now.task.gate.now) c.args.work.now.chunks in
    let logs = map (λ o. (goal.Observer-dyn g (o.vtable, o.value)).log o.value) c.publish.new.self.observers.items in
    let now = watching (checked_tree c.args.self.now.task.checked.now) c.replace-groups.new.dest c.args.self.now.border c.publish.new.self.publisher.list c.publish.new.self.untold logs in
    round_fails (ToldAt p s) read before now c.from_residual-in_err-publish-in-Done.result c.from_residual-in_err-publish-in-Done.ensures.0
    (part_of p s before _ _ _ _ _ _ logs at (part_whole _ _ _ (c.in_err-publish-in-Done.ensures.logs ∙ c.in_ok-applied.ensures.ok)))

pub returns-in_ok-publish-in-Done-clause-takes : goal.returns-in_ok-publish-in-Done-clause-takes
returns-in_ok-publish-in-Done-clause-takes g c =
    let p = checked_plan c.args.work.now.checked in
    let read = round_records p (g.G.Gate.shown c.args.self.now.task.gate.now) c.args.work.now.chunks in
    let border = c.in_ok-border.border in
    let partial : Partial = record { upto = border; rows = c.in_ok-shown-in-Done.shown } in
    watched_on p (checked_plan c.args.self.now.task.checked.now) read c.args.self.now.groups c.in-Done.groups c.args.self.now.task.workers
    c.args.self.now.border border c.args.self.now.news.publisher.list c.publish.new.self.publisher.list
    (all_led p read c.args.self.now.groups c.replace-groups.result c.in-Done.groups c.in_ok-applied.applied c.replace-groups.ensures.value c.in_ok-applied.ensures.applied
    c.in_ok-applied.ensures.valid c.in-Done.is)
    (above_new c.lead_round.new.self.publisher.list c.publish.new.self.publisher.list partial border c.in_ok-publish-in-Done.ensures.list refl)

pub returns-in_ok-publish-in-Done-clause-tells : goal.returns-in_ok-publish-in-Done-clause-tells
returns-in_ok-publish-in-Done-clause-tells g c = λ start before at.
    let p = checked_plan c.args.work.now.checked in
    let s = start_of (checked_tree start.task.checked.now) (map (λ o. (goal.Observer-dyn g (o.vtable, o.value)).log o.value) start.news.observers.items) in
    let shown = g.G.Gate.shown c.args.self.now.task.gate.now in
    let read = round_records p shown c.args.work.now.chunks in
    let was = c.args.self.now.border in
    let border = c.in_ok-border.border in
    let partial : Partial = record { upto = border; rows = c.in_ok-shown-in-Done.shown } in
    let logs = map (λ o. (goal.Observer-dyn g (o.vtable, o.value)).log o.value) c.publish.new.self.observers.items in
    let now = watching (checked_tree c.args.self.now.task.checked.now) c.in-Done.groups border c.publish.new.self.publisher.list c.publish.new.self.untold logs in
    of_records (round_records p shown c.args.work.now.chunks) (λ (r : List Record). ToldAt p s now point.between (before ++ r ∷ []))
    (done_of_round p (checked_plan c.args.self.now.task.checked.now) shown c.args.work.now.chunks s before (checked_tree c.args.self.now.task.checked.now) c.args.self.now.groups c.in-Done.groups
    was border c.args.self.now.news.publisher.list c.publish.new.self.publisher.list c.args.self.now.news.untold c.publish.new.self.untold _ _ c.requires.stands.0 partial at
    (c.in_ok-publish-in-Done.ensures.logs ∙ c.in_ok-applied.ensures.ok) c.requires.stands.1.passed c.requires.stands.1.script
    (all_led p read c.args.self.now.groups c.replace-groups.result c.in-Done.groups c.in_ok-applied.applied c.replace-groups.ensures.value c.in_ok-applied.ensures.applied
    c.in_ok-applied.ensures.valid c.in-Done.is)
    (c.in_ok-border.ensures ∙ ap (λ (cs : List Chunk). was + length (rows_of cs)) c.as_slice.ensures)
    (partial_rows border c.in_ok-shown-in-Done.shown _ c.in_ok-shown-in-Done.ensures)
    (c.in_ok-publish-in-Done.ensures.list ∙ ap (λ (l : List Partial). l ++ partial ∷ []) c.in_ok-applied.ensures.list)
    c.in_ok-publish-in-Done.ensures.untold)

pub returns-in-Bad-clause-takes : goal.returns-in-Bad-clause-takes
returns-in-Bad-clause-takes g c =
    let p = checked_plan c.args.work.now.checked in
    let read = round_records p (g.G.Gate.shown c.args.self.now.task.gate.now) c.args.work.now.chunks in
    all_broken p read c.replace-groups.result c.in_ok-applied.applied c.in-Bad.bad c.in_ok-applied.ensures.applied c.in-Bad.is

pub returns-in-Bad-clause-tells : goal.returns-in-Bad-clause-tells
returns-in-Bad-clause-tells g c = λ start before at.
    let p = checked_plan c.args.work.now.checked in
    let s = start_of (checked_tree start.task.checked.now) (map (λ o. (goal.Observer-dyn g (o.vtable, o.value)).log o.value) start.news.observers.items) in
    let read = round_records p (g.G.Gate.shown c.args.self.now.task.gate.now) c.args.work.now.chunks in
    (bad_of_round p read s before _ _ _ _ _ c.lead_round.new.self.untold _ _ c.in-Bad.bad at c.in_ok-applied.ensures.ok
    (all_broken p read c.replace-groups.result c.in_ok-applied.applied c.in-Bad.bad c.in_ok-applied.ensures.applied c.in-Bad.is)
    c.in_ok-applied.ensures.untold).1
