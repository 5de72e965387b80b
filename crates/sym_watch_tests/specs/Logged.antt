-- What the logs of two observers are after a watched pass, if contracts see that of the first one and
-- not that of the other.
use Rattle.std.specs.Prelude.{◌≡◌, ◌≤◌, ℕ, List, [], ◌∷◌, length, map, Option, None, Some}
use Rattle.sym_base.specs.Trees.{ScriptTree}
use Rattle.sym_base.specs.declared.values.record.Record.{Record}
use Rattle.sym_base.specs.declared.values.state.Outcome.{Outcome}
use Rattle.sym_base.specs.declared.values.value.Key.{Key}
use Rattle.sym_files.specs.FileRounds.{rounds_records}
use Rattle.sym_plain.specs.Shown.{last}
use Rattle.sym_report.specs.ReportRows.{row_of}
use Rattle.sym_watch.specs.Logs.{Log}
use Rattle.sym_watched.specs.Partials.{WatchedFiles, partials_of}

-- Nothing was told yet.
abbrev pub untold : List Log
untold = Some [] ∷ None ∷ []

-- The log that is seen is that of the partials at the borders of these rounds. If contracts see the
-- files too, and there is a round, the last partial has the rows of the groups, and so those of the
-- final report.
pub record IsLogged (tree : ScriptTree) (w : WatchedFiles) (logs : List Log)
    (groups : List (Key × Outcome)) (rounds : List (List Record)) : Type 0 where
  pub logs_are : logs ≡ Some (partials_of tree w.plan rounds) ∷ None ∷ []
  pub last_is : (files : List (List ℕ)) → map w.holds w.names ≡ map Some files
      → 1 ≤ length rounds
      → last (partials_of tree w.plan rounds) ≡ Some (record {
        upto = length (rounds_records rounds);
        rows = map (row_of tree w.plan) groups;
      })
