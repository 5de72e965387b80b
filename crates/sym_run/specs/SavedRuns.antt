-- Runs that are kept: what records of consecutive numbers do to each group.
use Rattle.std.specs.Prelude.{◌≡◌, ◌<◌, ◌≤◌, ℕ, suc, List, [], ◌∷◌, length}
use Rattle.std.specs.List.{All}
use Rattle.sym_base.specs.declared.values.record.Record.{Record}
use Rattle.sym_base.specs.declared.values.value.Key.{Key}
use Rattle.sym_check.specs.Meaning.Validity.{IsKey}
use Rattle.sym_check.specs.Plan.ScriptPlans.{ScriptPlan}
use Rattle.sym_path.specs.Fitting.{PathFits}
use Rattle.sym_path.specs.declared.path.Path.{Path}
use Rattle.sym_path.specs.declared.path.PathEnd.{PathEnd}
use Rattle.sym_path.specs.declared.path.PathEnd.TheVariants.{Next, Ended}
use Rattle.sym_plain.specs.Pairs.{HaveDistinctKeys}
use Rattle.sym_run.specs.Chained.{Chained}
use Rattle.sym_run.specs.Chains.{IsClosed}
use Rattle.sym_run.specs.Runs.{GroupsStandFor}
use Rattle.sym_run.specs.declared.saved.Saved.{Saved}

-- A fault came at a record whose number is at least `first` and below `next`.
abbrev pub EndsWithin : ℕ → ℕ → PathEnd → Type 0
EndsWithin first next (Next forms) = Unit {0}
EndsWithin first next (Ended fault) = (first ≤ fault.no) × (fault.no < next)

-- The path fits the script, and its fault is of one of the records.
pub record IsLawfulPath (p : ScriptPlan) (first next : ℕ) (path : Path) : Type 0 where
  pub fits : PathFits p path
  pub fault : EndsWithin first next path.end

-- A segment has one or more paths.
pub record IsLawfulSegment (p : ScriptPlan) (first next : ℕ) (paths : List Path) : Type 0 where
  pub some : 1 ≤ length paths
  pub each : All (IsLawfulPath p first next) paths

-- A chain has one or more segments, and keeps no records.
pub record IsLawfulChain (p : ScriptPlan) (first next : ℕ) (chain : Chained) : Type 0 where
  pub some : 1 ≤ length chain.segments
  pub each : All (IsLawfulSegment p first next) chain.segments
  pub closed : IsClosed chain

-- A group's key is of the script's kinds, and its chain is lawful.
pub record IsLawfulGroup (p : ScriptPlan) (first next : ℕ)
    (group : Key × Chained) : Type 0 where
  pub key : IsKey p group.0
  pub chain : IsLawfulChain p first next group.1

-- A saved run is lawful: its records are numbered from 1 or more on, its keys are distinct, and its
-- groups are lawful. (That facts are sorted is kept by their type.)
pub record IsLawfulSaved (p : ScriptPlan) (saved : Saved) : Type 0 where
  pub from : 1 ≤ saved.first
  pub order : saved.first ≤ saved.next
  pub distinct : HaveDistinctKeys saved.groups
  pub each : All (IsLawfulGroup p saved.first saved.next) saved.groups

-- Records numbered from `first` on, of which the last comes before the number `next`.
abbrev pub AreNumbered : ℕ → ℕ → List Record → Type 0
AreNumbered first next [] = first ≡ next
AreNumbered first next (rec ∷ records) =
    (rec.no ≡ first) × AreNumbered (suc first) next records

-- A saved run stands for records: they are numbered from its first number to the one before its
-- next, its keys are theirs in order of first appearance, and the chain of each key stands for the
-- records with it.
pub record SavedStandsFor (p : ScriptPlan) (records : List Record) (saved : Saved) : Type 0 where
  pub numbered : AreNumbered saved.first saved.next records
  pub groups : GroupsStandFor p records saved.groups
