use Rattle.std.proofs.Common.{map, subst}
use Rattle.std.specs.Result.{IfErr, OnOk}
use Rattle.std.specs.String.{string_bytes}
use Rattle.sym_files.specs.FileRecords.{rules_of}
use Rattle.sym_watched.specs.Partials.{ToldAll, ToldUntil, watched_files}
use Rattle.sym_top.specs.Observers.{logs_of}
use Rattle.sym_top.specs.Programs.{checked_program}
use Rattle.sym_top.proofs.run.pass_run.Goals as goal

pub returns-then-run-clause-told : goal.returns-then-run-clause-told
returns-then-run-clause-told g c watch =
    let program = checked_program c.args.checked.now in
    let rules = rules_of c.args.run.now.options.max_bytes (g.G.Gate.shown c.args.gate.now) in
    let holds = g.F.Store.holds c.args.files.now in
    let logs = logs_of (λ o. (goal.Observer-dyn g (o.vtable, o.value)).log o.value) c.args.observers.now.items c.pass_watched.new.observers.items in
    subst (λ names. OnOk c.pass_watched.result (ToldAll program.tree (watched_files program.plan rules c.args.run.now.options.chunk holds (map string_bytes names) 1) logs.before logs.after))
    c.as_slice-names.ensures.value c.pass_watched.ensures.told

pub returns-then-run-clause-told_until : goal.returns-then-run-clause-told_until
returns-then-run-clause-told_until g c watch =
    let program = checked_program c.args.checked.now in
    let rules = rules_of c.args.run.now.options.max_bytes (g.G.Gate.shown c.args.gate.now) in
    let holds = g.F.Store.holds c.args.files.now in
    let logs = logs_of (λ o. (goal.Observer-dyn g (o.vtable, o.value)).log o.value) c.args.observers.now.items c.pass_watched.new.observers.items in
    subst (λ names. IfErr c.pass_watched.result (ToldUntil program.tree (watched_files program.plan rules c.args.run.now.options.chunk holds (map string_bytes names) 1) logs.before logs.after))
    c.as_slice-names.ensures.value c.pass_watched.ensures.told_until
