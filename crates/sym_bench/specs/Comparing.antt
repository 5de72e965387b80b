-- Exploring beside the sequential pass.
use Rattle.std.specs.Prelude.{◌≡◌, ℕ, List, length}
use Rattle.sym_base.specs.declared.values.record.Record.{Record}
use Rattle.sym_base.specs.declared.values.state.Outcome.{Outcome}
use Rattle.sym_base.specs.declared.values.state.Outcome.TheVariants.{Going}
use Rattle.sym_check.specs.Plan.ScriptPlans.{ScriptPlan}
use Rattle.sym_check.specs.Meaning.Updates.{after, initial}

-- Both outcomes are that of one sequential pass over so many records.
pub record Agree (p : ScriptPlan) (count : ℕ) (stepped explored : Outcome) : Type 0 where
  pub records : List Record
  pub many : length records ≡ count
  pub by_steps : stepped ≡ after p records (Going (initial p))
  pub by_paths : explored ≡ after p records (Going (initial p))
