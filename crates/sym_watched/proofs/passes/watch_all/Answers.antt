use Rattle.std.proofs.Common.{[], map, Result}
use Rattle.std.specs.Result.{IfErr}
use Rattle.std.specs.String.{string_bytes}
use Rattle.sym_check.specs.Checking.CheckedScripts.{checked_plan, checked_tree}
use Rattle.sym_files.specs.declared.error.PassErr.{PassErr}
use Rattle.sym_files.specs.declared.error.PassErr.TheVariants as pass_err
use Rattle.sym_files.specs.FileRecords.{rules_of}
use Rattle.sym_watched.specs.Partials.{ToldUntil, watched_files}
use Rattle.sym_watched.specs.Watching.{start_of, watching}
use Rattle.sym_files.proofs.Walks.{fails_as}
use Rattle.sym_watched.proofs.WatchedFiles.{out_of_memory, rest_all, rest_part, rest_whole, taken_by}
use Rattle.sym_watched.proofs.passes.watch_all.Goals as goal

pub returns-then-is_out_of_memory-clause-told_until : goal.returns-then-is_out_of_memory-clause-told_until
returns-then-is_out_of_memory-clause-told_until g c =
    let tree = checked_tree c.args.watched.now.task.checked.now in
    let p = checked_plan c.args.watched.now.task.checked.now in
    let logs = map (λ o. (goal.Observer-dyn g (o.vtable, o.value)).log o.value) c.args.watched.now.news.observers.items in
    let start = start_of tree logs in
    let rules = rules_of c.args.options.now.max_bytes (g.G.Gate.shown c.args.watched.now.task.gate.now) in
    let w = watched_files p rules c.args.options.now.chunk (g.F.Store.holds c.args.files.now) (map string_bytes c.args.names.now) 1 in
    let mid = c.each_round-answer.new.rounds in
    let told = map (λ o. (goal.Observer-dyn g (o.vtable, o.value)).log o.value) mid.news.observers.items in
    let now = watching (checked_tree mid.task.checked.now) mid.groups mid.border mid.news.publisher.list mid.news.untold told in
    let answer = c.each_round-answer.result in
    out_of_memory w start now answer (c.is_out_of_memory.ensures.out c.if-is_out_of_memory.true) (c.each_round-answer.ensures.told_until c.args.watched.now c.requires.begins)

pub returns-in_err-tell_rest-clause-told_until : goal.returns-in_err-tell_rest-clause-told_until
returns-in_err-tell_rest-clause-told_until g c =
    let tree = checked_tree c.args.watched.now.task.checked.now in
    let p = checked_plan c.args.watched.now.task.checked.now in
    let logs = map (λ o. (goal.Observer-dyn g (o.vtable, o.value)).log o.value) c.args.watched.now.news.observers.items in
    let start = start_of tree logs in
    let rules = rules_of c.args.options.now.max_bytes (g.G.Gate.shown c.args.watched.now.task.gate.now) in
    let w = watched_files p rules c.args.options.now.chunk (g.F.Store.holds c.args.files.now) (map string_bytes c.args.names.now) 1 in
    let mid = c.each_round-answer.new.rounds in
    let told = map (λ o. (goal.Observer-dyn g (o.vtable, o.value)).log o.value) mid.news.observers.items in
    let now = watching (checked_tree mid.task.checked.now) mid.groups mid.border mid.news.publisher.list mid.news.untold told in
    let answer = c.each_round-answer.result in
    let later = map (λ o. (goal.Observer-dyn g (o.vtable, o.value)).log o.value) c.tell_rest.new.self.observers.items in
    let P : Result (Unit {0}) PassErr → Type 0 = λ r. IfErr r (ToldUntil tree w logs later) in
    fails_as c.from_residual.result pass_err.NoMemory P c.from_residual.ensures.1
    (rest_part w start now later answer (c.is_out_of_memory.ensures.other c.if-is_out_of_memory.false) (c.each_round-answer.ensures.told c.args.watched.now c.requires.begins)
    (c.each_round-answer.ensures.told_until c.args.watched.now c.requires.begins) c.in_err-tell_rest.ensures.err)

pub returns-in_err-answer-clause-told_until : goal.returns-in_err-answer-clause-told_until
returns-in_err-answer-clause-told_until g c =
    let tree = checked_tree c.args.watched.now.task.checked.now in
    let p = checked_plan c.args.watched.now.task.checked.now in
    let logs = map (λ o. (goal.Observer-dyn g (o.vtable, o.value)).log o.value) c.args.watched.now.news.observers.items in
    let start = start_of tree logs in
    let rules = rules_of c.args.options.now.max_bytes (g.G.Gate.shown c.args.watched.now.task.gate.now) in
    let w = watched_files p rules c.args.options.now.chunk (g.F.Store.holds c.args.files.now) (map string_bytes c.args.names.now) 1 in
    let mid = c.each_round-answer.new.rounds in
    let told = map (λ o. (goal.Observer-dyn g (o.vtable, o.value)).log o.value) mid.news.observers.items in
    let now = watching (checked_tree mid.task.checked.now) mid.groups mid.border mid.news.publisher.list mid.news.untold told in
    let answer = c.each_round-answer.result in
    let later = map (λ o. (goal.Observer-dyn g (o.vtable, o.value)).log o.value) c.tell_rest.new.self.observers.items in
    let why = c.in_err-answer.field-0.0 in
    let P : Result (Unit {0}) PassErr → Type 0 = λ r. IfErr r (ToldUntil tree w logs later) in
    fails_as c.from_residual-in_err-answer.result why P c.from_residual-in_err-answer.ensures.1
    (rest_whole w start now later answer why (c.is_out_of_memory.ensures.other c.if-is_out_of_memory.false) c.in_err-answer.was
    (c.each_round-answer.ensures.told_until c.args.watched.now c.requires.begins) c.in_ok-tell_rest.ensures.ok)

pub returns-clause-passed : goal.returns-clause-passed
returns-clause-passed g c =
    let all = taken_by c.each_round-answer.result c.in_ok-answer.field-0 _ c.in_ok-answer.was c.each_round-answer.ensures.taken in
    record {
      files = all.files;
      may = all.may;
      records = all.records;
      fine = all.fine;
      stands = (all.stands.1 [] c.requires.stands).passed.passed;
    }

pub returns-clause-told : goal.returns-clause-told
returns-clause-told g c =
    let tree = checked_tree c.args.watched.now.task.checked.now in
    let p = checked_plan c.args.watched.now.task.checked.now in
    let logs = map (λ o. (goal.Observer-dyn g (o.vtable, o.value)).log o.value) c.args.watched.now.news.observers.items in
    let start = start_of tree logs in
    let rules = rules_of c.args.options.now.max_bytes (g.G.Gate.shown c.args.watched.now.task.gate.now) in
    let w = watched_files p rules c.args.options.now.chunk (g.F.Store.holds c.args.files.now) (map string_bytes c.args.names.now) 1 in
    let mid = c.each_round-answer.new.rounds in
    let told = map (λ o. (goal.Observer-dyn g (o.vtable, o.value)).log o.value) mid.news.observers.items in
    let now = watching (checked_tree mid.task.checked.now) mid.groups mid.border mid.news.publisher.list mid.news.untold told in
    let answer = c.each_round-answer.result in
    let later = map (λ o. (goal.Observer-dyn g (o.vtable, o.value)).log o.value) c.tell_rest.new.self.observers.items in
    rest_all w start now later answer c.in_ok-answer.field-0 c.in_ok-answer.was (c.each_round-answer.ensures.told c.args.watched.now c.requires.begins) c.in_ok-tell_rest.ensures.ok
