-- What a watched pass tells its observers: a partial at the border of each round.
use Rattle.std.specs.Prelude.{◌≡◌, ℕ, List, [], ◌∷◌, ◌++◌, length, map}
use Rattle.std.specs.List.{AllZip}
use mathlib.Core.List.{IsPrefix}
use Rattle.sym_base.specs.Trees.{ScriptTree}
use Rattle.sym_base.specs.declared.values.record.Record.{Record}
use Rattle.sym_check.specs.Meaning.Groups.{pass}
use Rattle.sym_check.specs.Plan.ScriptPlans.{ScriptPlan}
use Rattle.sym_report.specs.ReportRows.{row_of}
use Rattle.sym_watch.specs.declared.partial.Partial.{Partial}
use Rattle.sym_watch.specs.Logs.{Log, grown}
use Rattle.sym_files.specs.declared.error.PassErr.{PassErr}
use Rattle.sym_files.specs.FileRecords.{FileRules}
use Rattle.sym_files.specs.FileRounds.{NamedFiles, OfFiles, UntilStop, named_files}
use Rattle.sym_files.specs.Passing.{Holds}

-- The partial after the first records of a pass, which are numbered from 1: the number of the last
-- of them, and the report rows of the groups of one sequential pass over them.
abbrev pub partial_after : ScriptTree → ScriptPlan → List Record → Partial
partial_after tree p records =
    record { upto = length records; rows = map (row_of tree p) (pass p records) }

-- The partials at the borders of rounds, in order, that follow some records.
abbrev pub partials_after : ScriptTree → ScriptPlan → List Record → List (List Record)
    → List Partial
partials_after tree p before [] = []
partials_after tree p before (round ∷ rounds) =
    partial_after tree p (before ++ round) ∷ partials_after tree p (before ++ round) rounds

-- The partials at the borders of the first rounds of a pass.
abbrev pub partials_of : ScriptTree → ScriptPlan → List (List Record) → List Partial
partials_of tree p rounds = partials_after tree p [] rounds

-- Named files of which a watched pass tells partials.
abbrev pub WatchedFiles : Type 0
WatchedFiles = NamedFiles

abbrev pub watched_files : ScriptPlan → FileRules → ℕ → Holds → List (List ℕ) → ℕ → WatchedFiles
watched_files p rules chunk holds names first = named_files p rules chunk holds names first

-- Each log grew by all of these partials.
abbrev pub AllGrew : List Log → List Log → List Partial → Type 0
AllGrew olds news partials = news ≡ map (grown partials) olds

-- The log grew by a prefix of these partials.
abbrev pub GrewPart : List Partial → Log → Log → Type 0
GrewPart partials old new =
    (part : List Partial) × IsPrefix part partials × (new ≡ grown part old)

-- Each log grew by a prefix of these partials.
abbrev pub AllGrewPart : List Log → List Log → List Partial → Type 0
AllGrewPart olds news partials = AllZip (GrewPart partials) olds news

-- Where all files were taken, observers were told of the partials of all rounds.
abbrev pub ToldAll : ScriptTree → WatchedFiles → List Log → List Log → Type 0
ToldAll tree w olds news =
    OfFiles w (length w.names) (λ rounds. AllGrew olds news (partials_of tree w.plan rounds))

-- Else of those of the rounds that were done; where an allocation failed, of a prefix of them.
abbrev pub ToldUntil : ScriptTree → WatchedFiles → List Log → List Log → PassErr → Type 0
ToldUntil tree w olds news why =
    UntilStop w (λ rounds. AllGrew olds news (partials_of tree w.plan rounds))
    (λ rounds. AllGrew olds news (partials_of tree w.plan rounds))
    (λ rounds. AllGrewPart olds news (partials_of tree w.plan rounds)) why
