-- What is composed where a segment is pushed onto others.
use Rattle.std.specs.Prelude.{◌≡◌, ℕ, List, [], ◌∷◌, ◌++◌}
use Rattle.sym_base.specs.declared.values.record.Record.{Record}
use Rattle.sym_check.specs.Meaning.Conditions.{test_truth}
use Rattle.sym_check.specs.Plan.ScriptPlans.{ScriptPlan}
use Rattle.sym_path.specs.Composing.{IsComposition}
use Rattle.sym_path.specs.Within.{HaveFewPairs}
use Rattle.sym_path.specs.declared.path.Path.{Path}
use Rattle.sym_run.specs.Chained.{Chained}
use Rattle.sym_run.specs.Chains.{ChainStandsFor, IsClosed}

-- Segments and one after them, composed to one from the right: the last two first. Each time the
-- two have at most as many pairs as the limit says.
abbrev pub AreComposedTo : ScriptPlan → ℕ → List (List Path) → List Path → List Path → Type 0
AreComposedTo p limit [] segment whole = whole ≡ segment
AreComposedTo p limit (left ∷ segments) segment whole =
    (right : List Path) × AreComposedTo p limit segments segment right
    × IsComposition p left right whole × HaveFewPairs (test_truth p.tests) left right limit

-- A segment was pushed onto segments: some at the end were composed with it, which had few pairs,
-- and those before them stay.
pub record IsPushed (p : ScriptPlan) (limit : ℕ) (segments : List (List Path)) (segment : List Path)
    (pushed : List (List Path)) : Type 0 where
  pub kept : List (List Path)
  pub others : List (List Path)
  pub last : List Path
  pub cut : segments ≡ kept ++ others
  pub composed : AreComposedTo p limit others segment last
  pub are : pushed ≡ kept ++ last ∷ []

-- A segment was pushed onto a chain, or onto a closed one of the same records if the chain keeps
-- some.
pub record IsPushedOnto (p : ScriptPlan) (limit : ℕ) (chain : Chained) (segment : List Path)
    (pushed : Chained) : Type 0 where
  pub closed : Chained
  pub none_kept : IsClosed closed
  pub same : IsClosed chain → closed ≡ chain
  pub stands : (records : List Record) → ChainStandsFor p records chain →
      ChainStandsFor p records closed
  pub segments : IsPushed p limit closed.segments segment pushed.segments
