-- Segments that stand for records in turn.
use Rattle.std.specs.Prelude.{◌≡◌, List, [], ◌∷◌, ◌++◌, Option, Some, None}
use Rattle.sym_base.specs.declared.values.record.Record.{Record}
use Rattle.sym_check.specs.Plan.ScriptPlans.{ScriptPlan}
use Rattle.sym_path.specs.declared.path.Path.{Path}
use Rattle.sym_path.specs.Standing.{StandsFor}
use Rattle.sym_bench.specs.declared.chain.Chain.{Chain}

-- The records are cut into neighbouring parts, and each segment stands for its part.
abbrev pub StandInTurn : ScriptPlan → List Record → List (List Path) → Type 0
StandInTurn p records [] = records ≡ []
StandInTurn p records (segment ∷ segments) =
    (first : List Record) × (rest : List Record) × (records ≡ first ++ rest)
    × StandsFor p first segment × StandInTurn p rest segments

-- The same of one segment, where there is one.
abbrev pub LastStandsFor : ScriptPlan → List Record → Option (List Path) → Type 0
LastStandsFor p records None = records ≡ []
LastStandsFor p records (Some segment) = StandsFor p records segment

-- The segments that are over the limit stand for the first records, and the last one for the rest.
pub record IsChainOf (p : ScriptPlan) (records : List Record) (chain : Chain) : Type 0 where
  pub first : List Record
  pub rest : List Record
  pub all : records ≡ first ++ rest
  pub whole : StandInTurn p first chain.whole.items
  pub last : LastStandsFor p rest chain.last
