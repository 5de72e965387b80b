-- Runs: what the records of some chunks do to each group, whatever its state is before them.
use Rattle.std.specs.Prelude.{◌≡◌, ◌≤◌, ℕ, List, [], ◌∷◌, ◌++◌, length, Option, Some, None, Result, Ok, Err, slice_range, if◌then◌else◌}
use Rattle.sym_base.specs.declared.values.value.Key.{Key}
use Rattle.sym_base.specs.declared.values.record.Record.{Record}
use Rattle.sym_check.specs.Plan.ScriptPlans.{ScriptPlan}
use Rattle.sym_run.specs.Chained.{Chained}
use Rattle.sym_plain.specs.Pairs.{has_key}
use Rattle.sym_table.specs.declared.bad.Bad.{Bad}
use Rattle.sym_table.specs.declared.chunk.Chunk.{Chunk}
use Rattle.sym_table.specs.ChunkRecords.{all_records}
use Rattle.sym_run.specs.Chains.{ChainFits, ChainStandsFor, IsClosed, IsTight}
use Rattle.sym_run.specs.Extended.{ChainIsExtended}
use Rattle.sym_run.specs.Kinds.{EachFits, EachIsClosed, EachIsExtended, EachIsTight, EachStandsFor, Kind}
use Rattle.sym_run.specs.declared.runs.Run.{Run}

-- What is said of chains as they stand.
abbrev pub chain_kind : Kind Chained
chain_kind = record {
  fits = ChainFits;
  tight = IsTight;
  stands = ChainStandsFor;
  closed = IsClosed;
  extended = ChainIsExtended;
}

-- All paths of the groups' chains fit the script.
abbrev pub GroupsFit : ScriptPlan → List (Key × Chained) → Type 0
GroupsFit p groups = EachFits chain_kind p groups

-- Each group's chain is tight.
abbrev pub AreTight : ScriptPlan → ℕ → List (Key × Chained) → Type 0
AreTight p limit groups = EachIsTight chain_kind p limit groups

-- No group's chain keeps a record.
abbrev pub AreClosed : List (Key × Chained) → Type 0
AreClosed groups = EachIsClosed chain_kind groups

-- A group with its chain closed: the key is the same, and the chain stands for the records for
-- which it stood, whatever these are.
pub record IsClosing (p : ScriptPlan) (old new : Key × Chained) : Type 0 where
  pub key : new.0 ≡ old.0
  pub closed : IsClosed new.1
  pub stands : (records : List Record) → ChainStandsFor p records old.1 →
      ChainStandsFor p records new.1

-- The groups stand for records: their keys are the records' keys in order of first appearance, and
-- the chain of each key stands for the records with it.
abbrev pub GroupsStandFor : ScriptPlan → List Record → List (Key × Chained) → Type 0
GroupsStandFor p records groups = EachStandsFor chain_kind p records groups

-- The groups are extended by records: their keys are the records' keys in order of first
-- appearance, and the chain of each key is extended by the records with it, as far as the limit
-- allows it.
abbrev pub GroupsAreExtended : ScriptPlan → ℕ → List Record → List (Key × Chained) → Type 0
GroupsAreExtended p limit records groups = EachIsExtended chain_kind p limit records groups

-- A group more, which goes last; none where its key is there.
abbrev pub added : List (Key × Chained) → Key → Chained
    → Option (List (Key × Chained))
added groups key chain =
    if has_key groups key then None else Some (groups ++ (key, chain) ∷ [])

-- The first row that is no record was found, or, where all rows are records, none, and the groups'
-- chains are tight and stand for the records.
abbrev pub HaveFound : {C : Type 0} → Kind C → ScriptPlan → ℕ → Result (List Record) Bad
    → Option Bad → List (Key × C) → Type 0
HaveFound kind p limit (Ok records) bad groups =
    (bad ≡ None) × EachIsTight kind p limit groups × EachStandsFor kind p records groups
HaveFound kind p limit (Err first) bad groups = bad ≡ Some first

-- The same of groups whose chains are as they stand.
abbrev pub HasFound : ScriptPlan → ℕ → Result (List Record) Bad
    → Option Bad → List (Key × Chained) → Type 0
HasFound p limit found bad groups = HaveFound chain_kind p limit found bad groups

-- Groups and a bad row stand for those chunks of a list that the numbers name, the second one not
-- included.
pub record StandForChunks {C : Type 0} (kind : Kind C) (p : ScriptPlan) (limit : ℕ)
    (chunks : List Chunk) (lo hi : ℕ) (groups : List (Key × C)) (bad : Option Bad) : Type 0 where
  pub order : lo ≤ hi
  pub within : hi ≤ length chunks
  pub fits : EachFits kind p groups
  pub found : HaveFound kind p limit (all_records p (slice_range chunks lo hi)) bad groups

-- A run stands for those chunks of a list that its numbers name.
abbrev pub StandsForChunks : ScriptPlan → ℕ → List Chunk → Run → Type 0
StandsForChunks p limit chunks run =
    StandForChunks chain_kind p limit chunks run.lo run.hi run.groups run.bad

-- The numbers of the first chunk and of the one after the last.
pub record IsFromTo (lo hi : ℕ) (run : Run) : Type 0 where
  pub from : run.lo ≡ lo
  pub to : run.hi ≡ hi
