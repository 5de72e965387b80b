-- What the parts of a watched pass come to.
use Rattle.std.specs.Prelude.{◌≡◌, ◌≤◌, ℕ, List, ◌++◌, length, Option}
use Rattle.std.specs.Option.{ForSome}
use Rattle.sym_base.specs.Trees.{ScriptTree}
use Rattle.sym_base.specs.declared.values.record.Record.{Record}
use Rattle.sym_base.specs.declared.values.value.Key.{Key}
use Rattle.sym_base.specs.declared.values.state.Outcome.{Outcome}
use Rattle.sym_check.specs.Plan.ScriptPlans.{ScriptPlan}
use Rattle.sym_plain.specs.Shown.{last}
use Rattle.sym_report.specs.Appending.{listed}
use Rattle.sym_watch.specs.declared.partial.Partial.{Partial}
use Rattle.sym_watch.specs.Logs.{Log}
use Rattle.sym_files.specs.FileRounds.{rounds_records}
use Rattle.sym_files.specs.Rounds.{AreWorkers}
use Rattle.sym_files.specs.Telling.{Tells, between, at_bad, at_refusal}
use Rattle.sym_passes.specs.Passed.{AreLedBy, ArePassed}
use Rattle.sym_watched.specs.Partials.{AllGrew, AllGrewPart, partials_of}

-- How a watched pass began: the syntax tree of its script, and the observers' logs.
pub record Start : Type 0 where
  pub tree : ScriptTree
  pub logs : List Log

abbrev pub start_of : ScriptTree → List Log → Start
start_of tree logs = record { tree = tree; logs = logs }

-- The syntax tree of the script, the groups, the border of the last round, what was published, the
-- partial that isn't told yet, and the observers' logs.
pub record Watching : Type 0 where
  pub tree : ScriptTree
  pub groups : List (Key × Outcome)
  pub border : ℕ
  pub list : List Partial
  pub untold : Option Partial
  pub logs : List Log

abbrev pub watching : ScriptTree → List (Key × Outcome) → ℕ → List Partial → Option Partial
    → List Log → Watching
watching tree groups border list untold logs = record {
  tree = tree;
  groups = groups;
  border = border;
  list = list;
  untold = untold;
  logs = logs;
}

-- Observers who had the old logs were told of these partials but what isn't told yet.
abbrev pub AreTold : List Log → Watching → List Partial → Type 0
AreTold olds now partials =
    (told : List Partial) × (partials ≡ told ++ listed now.untold) × AllGrew olds now.logs told

-- The partials of these rounds were published, and the groups are those after them.
pub record ArePublished (p : ScriptPlan) (start : Start) (now : Watching)
    (rounds : List (List Record)) : Type 0 where
  pub script : now.tree ≡ start.tree
  pub passed : ArePassed p now.groups (rounds_records rounds)
  pub border : now.border ≡ length (rounds_records rounds)
  pub list : now.list ≡ partials_of start.tree p rounds

-- What observers were told of rounds, by where a pass stands.
abbrev pub ToldAt : ScriptPlan → Start → Tells Watching
ToldAt p start now between rounds =
    ArePublished p start now rounds × AreTold start.logs now (partials_of start.tree p rounds)
ToldAt p start now at_bad rounds = AreTold start.logs now (partials_of start.tree p rounds)
ToldAt p start now at_refusal rounds =
    AllGrewPart start.logs now.logs (partials_of start.tree p rounds)

-- No border that was published is over this one.
abbrev pub IsAbove : List Partial → ℕ → Type 0
IsAbove list border = ForSome (last list) (λ q. q.upto ≤ border)

-- A watched pass over these records: the groups of one sequential pass over them, by a script with
-- this plan and workers in their range; and no border that was published is over the last one.
pub record IsWatched (p plan : ScriptPlan) (groups : List (Key × Outcome)) (workers border : ℕ)
    (list : List Partial) (records : List Record) : Type 0 where
  pub passed : AreLedBy p groups records
  pub in_range : AreWorkers workers
  pub script : plan ≡ p
  pub above : IsAbove list border
