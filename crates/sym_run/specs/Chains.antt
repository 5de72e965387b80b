-- Chains of segments, which stand for records in turn, and records after them that no segment
-- covers yet. That exploring begins again from a state that isn't known, where paths become too
-- many, is of the SYMPLE paper (SOSP 2015); that a few records are kept as they are, and stepped
-- when the state is known, is a choice of this project (docs/DECISIONS.md).
use Rattle.std.specs.Prelude.{◌≡◌, ◌≤◌, ◌+◌, ℕ, max, List, [], ◌∷◌, ◌++◌, length, Option, Some, None}
use Rattle.std.specs.List.{All, AllAdjacentBelow}
use Rattle.sym_base.specs.declared.values.record.Record.{Record}
use Rattle.sym_check.specs.Meaning.Conditions.{test_truth}
use Rattle.sym_check.specs.Meaning.PathBounds.{path_bound}
use Rattle.sym_check.specs.Meaning.Validity.{IsRecord}
use Rattle.sym_check.specs.Plan.ScriptPlans.{ScriptPlan}
use Rattle.sym_path.specs.declared.path.Path.{Path}
use Rattle.sym_path.specs.Fitting.{SegmentFits}
use Rattle.sym_path.specs.Standing.{StandsFor}
use Rattle.sym_path.specs.Within.{HaveMorePairs}
use Rattle.sym_run.specs.Chained.{Chained}
use Rattle.sym_run.specs.Keeping.{AreKeptAs}

-- ---- segments in order
-- All paths fit the script.
abbrev pub SegmentsFit : ScriptPlan → List (List Path) → Type 0
SegmentsFit p segments = All (SegmentFits p) segments

-- Segments stand for records: these are cut, in order, into one part for each segment, and each
-- segment stands for its part.
abbrev pub SegmentsStandFor : ScriptPlan → List Record → List (List Path) → Type 0
SegmentsStandFor p records [] = records ≡ []
SegmentsStandFor p records (segment ∷ segments) =
    (first : List Record) × (rest : List Record) × (records ≡ first ++ rest)
    × StandsFor p first segment × SegmentsStandFor p rest segments

-- A segment of a chain has no more paths than the limit, or than the script's path bound where that
-- is greater.
abbrev pub HasFewPaths : ScriptPlan → ℕ → List Path → Type 0
HasFewPaths p limit segment = length segment ≤ max limit (path_bound p)

-- Two segments have more pairs than the limit.
abbrev pub AreApart : ScriptPlan → ℕ → List Path → List Path → Type 0
AreApart p limit left right = HaveMorePairs (test_truth p.tests) left right limit

-- Segments are tight for a limit: each has few paths, and each and the next have more pairs than
-- the limit.
pub record SegmentsAreTight (p : ScriptPlan) (limit : ℕ) (segments : List (List Path)) : Type 0
  where
    pub few : All (HasFewPaths p limit) segments
    pub apart : AllAdjacentBelow (AreApart p limit) segments (length segments)

-- ---- chains
-- A chain has a segment or a kept record.
abbrev pub HasSome : Chained → Type 0
HasSome chain = 1 ≤ length chain.segments + length chain.kept

-- A closed chain keeps no records: segments cover all of them.
abbrev pub IsClosed : Chained → Type 0
IsClosed chain = chain.kept ≡ []

-- The closed chain of these segments.
abbrev pub closed_chain : List (List Path) → Chained
closed_chain segments = record { segments = segments; kept = [] }

-- A list of one or more segments is a chain; no segments are none.
abbrev pub chain_of : List (List Path) → Option Chained
chain_of [] = None
chain_of (segment ∷ segments) = Some (closed_chain (segment ∷ segments))

-- All paths of a chain fit the script, and what it keeps are records of the script.
pub record ChainFits (p : ScriptPlan) (chain : Chained) : Type 0 where
  pub segments : SegmentsFit p chain.segments
  pub kept : All (IsRecord p) chain.kept

-- A chain stands for records: its segments stand for the first ones, and the others are kept.
pub record ChainStandsFor (p : ScriptPlan) (records : List Record) (chain : Chained) : Type 0 where
  pub first : List Record
  pub rest : List Record
  pub cut : records ≡ first ++ rest
  pub segments : SegmentsStandFor p first chain.segments
  pub kept : AreKeptAs p rest chain.kept

-- A chain is tight for a limit where its segments are.
abbrev pub IsTight : ScriptPlan → ℕ → Chained → Type 0
IsTight p limit chain = SegmentsAreTight p limit chain.segments
