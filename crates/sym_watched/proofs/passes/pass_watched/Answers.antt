use Rattle.std.proofs.Common.{◌≡◌, [], Some, map, refl}
use Rattle.std.proofs.lemmas.List.Elements.{All-pop}
use Rattle.std.specs.Result.{IfErr}
use Rattle.std.specs.String.{string_bytes}
use Rattle.sym_check.specs.Checking.CheckedScripts.{checked_plan, checked_tree}
use Rattle.sym_files.specs.declared.error.PassErr.TheVariants as pass_err
use Rattle.sym_files.specs.FileRecords.{rules_of}
use Rattle.sym_watched.specs.Partials.{ToldUntil, watched_files}
use Rattle.sym_watched.specs.Watching.{start_of}
use Rattle.sym_watch.specs.Lists.{SeenList}
use Rattle.sym_watched.proofs.Logs.{grew_none}
use Rattle.sym_files.proofs.Walks.{fails_as}
use Rattle.sym_watched.proofs.WatchedFiles.{none_done}
use Rattle.sym_watched.proofs.passes.pass_watched.Goals as goal

pub returns-in_err-publisher-clause-told_until : goal.returns-in_err-publisher-clause-told_until
returns-in_err-publisher-clause-told_until g c =
    let tree = checked_tree c.args.checked.now in
    let logs = map (λ o. (goal.Observer-dyn g (o.vtable, o.value)).log o.value) c.args.observers.now.items in
    let rules = rules_of c.args.options.now.max_bytes (g.G.Gate.shown c.args.gate.now) in
    let w = watched_files (checked_plan c.args.checked.now) rules c.args.options.now.chunk (g.F.Store.holds c.args.files.now) (map string_bytes c.args.names.now) 1 in
    fails_as c.from_residual.result pass_err.NoMemory (λ r. IfErr r (ToldUntil tree w logs logs)) c.from_residual.ensures.1 (none_done w (start_of tree logs) logs refl)

pub watch_all-answer-requires-clause-begins : goal.watch_all-answer-requires-clause-begins
watch_all-answer-requires-clause-begins g c κs within = (
  record { script = refl; passed = c.new.ensures; border = refl; list = c.in_ok-publisher.ensures.publisher.0 },
  ([], refl, grew_none _),
)

pub invariant_of-watched : goal.invariant_of-watched
invariant_of-watched g c =
    let opened = c.in_ok-publisher.field-0 in
    let Of : SeenList → Type 0 = λ watcher. watcher.of ≡ opened.publisher.of in
    record { same = (All-pop Of opened.watchers.items c.pop.new.self.items (Some c.in-Some.watcher) c.in-Some.ensures.items c.in_ok-publisher.ensures.of).1 }
