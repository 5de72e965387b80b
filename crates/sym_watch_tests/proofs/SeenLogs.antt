-- What two observers were told of a watched pass.
use Rattle.std.proofs.Common.{◌≡◌, List, [], ◌∷◌, length, map, None, Some, Result, Ok, Err, ap, ◌∙◌}
use Rattle.std.specs.Result.{OnOk, IfOk}
use Rattle.sym_base.specs.Trees.{ScriptTree}
use Rattle.sym_base.specs.declared.values.state.Outcome.{Outcome}
use Rattle.sym_base.specs.declared.values.value.Key.{Key}
use Rattle.sym_files.specs.FileRounds.{OfFiles}
use Rattle.sym_passes.specs.Passed.{PassedAll}
use Rattle.sym_watch.specs.Logs.{Log, grown}
use Rattle.sym_watched.specs.Partials.{ToldAll, WatchedFiles, partials_of}
use Rattle.sym_watched.proofs.LastPartial.{last_report}
use Rattle.sym_watch_tests.specs.Logged.{IsLogged, untold}

pub logged : {E : Type 0} (tree : ScriptTree) (w : WatchedFiles) (olds news : List Log)
    (answer : Result (List (Key × Outcome)) E) → w.first ≡ 1 → olds ≡ untold
    → OnOk answer (ToldAll tree w olds news)
    → IfOk answer (λ g. PassedAll w.plan w.rules w.holds w.names g)
    → IfOk answer (λ g. OfFiles w (length w.names) (IsLogged tree w news g))
logged tree w olds news (Err why) first begun told passed = tt
logged tree w olds news (Ok groups) first begun told passed = record {
  rounds = told.rounds;
  done = told.done;
  so = record {
    logs_are = told.so ∙ ap (map (grown (partials_of tree w.plan told.rounds))) begun;
    last_is = λ files tells some.
        last_report tree w files told.rounds groups first tells told.done some passed;
  };
}
