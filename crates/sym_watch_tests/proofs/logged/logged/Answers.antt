use Rattle.std.proofs.Common.{map, refl}
use Rattle.std.specs.String.{string_bytes}
use Rattle.sym_check.specs.Checking.CheckedScripts.{checked_plan, checked_tree}
use Rattle.sym_files.specs.FileRecords.{rules_of}
use Rattle.sym_watched.specs.Partials.{watched_files}
use Rattle.sym_watch_tests.proofs.SeenLogs.{logged}
use Rattle.sym_watch_tests.proofs.logged.logged.Goals as goal

pub returns : goal.returns
returns g c =
    let p = checked_plan c.args.checked.now in
    let rules = rules_of c.args.options.now.max_bytes (λ row. row) in
    let holds = g.F.Store.holds c.args.files.now in
    let w = watched_files p rules c.args.options.now.chunk holds (map string_bytes c.args.names.now) 1 in
    logged (checked_tree c.args.checked.now) w _ _ _ refl c.requires.begun c.pass_watched.ensures.told c.pass_watched.ensures.passed
