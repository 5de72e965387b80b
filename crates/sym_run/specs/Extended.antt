-- Segments that are extended record by record, as far as the limit of paths allows it. That
-- exploring goes on from the last segment, and begins again where the paths become too many, is of
-- the SYMPLE paper (SOSP 2015).
use Rattle.std.specs.Prelude.{◌≡◌, ◌≤◌, ◌++◌, ℕ, List, [], ◌∷◌, length}
use Rattle.sym_base.specs.declared.values.record.Record.{Record}
use Rattle.sym_check.specs.Plan.ScriptPlans.{ScriptPlan}
use Rattle.sym_explore.specs.Limiting.{IsTooLong}
use Rattle.sym_path.specs.declared.path.Path.{Path}
use Rattle.sym_path.specs.Standing.{StandsFor}
use Rattle.sym_run.specs.Chained.{Chained}
use Rattle.sym_run.specs.Chains.{IsClosed}

-- A segment ends before records: there are none, or its extension by the first of them has more
-- paths than the limit.
abbrev pub EndsBefore : ScriptPlan → ℕ → List Path → List Record → Type 0
EndsBefore p limit segment [] = Unit {0}
EndsBefore p limit segment (rec ∷ records) = IsTooLong p rec segment limit

-- Segments are extended by records, after which others come: the records are cut, in order, into
-- one part for each segment, of one record or more. Each segment stands for its part, and ends
-- before what comes after it. So a record whose extension fits is in the segment of the record
-- before it.
abbrev pub AreExtendedBefore : ScriptPlan → ℕ → List Record → List Record
    → List (List Path) → Type 0
AreExtendedBefore p limit records next [] = records ≡ []
AreExtendedBefore p limit records next (segment ∷ segments) =
    (first : List Record) × (rest : List Record) × (records ≡ first ++ rest) × (1 ≤ length first)
    × StandsFor p first segment × EndsBefore p limit segment (rest ++ next)
    × AreExtendedBefore p limit rest next segments

-- The same where no records come after them.
abbrev pub AreExtended : ScriptPlan → ℕ → List Record → List (List Path) → Type 0
AreExtended p limit records segments = AreExtendedBefore p limit records [] segments

-- A chain is extended by records: it keeps none of them as they are, and its segments are extended
-- by them.
pub record ChainIsExtended (p : ScriptPlan) (limit : ℕ) (records : List Record) (chain : Chained)
    : Type 0 where
  pub closed : IsClosed chain
  pub segments : AreExtended p limit records chain.segments
