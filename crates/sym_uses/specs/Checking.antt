-- What a script's text comes to: a plan, or a broken rule.
use Rattle.std.specs.Prelude.{◌≡◌, ℕ, List, length}
use Rattle.sym_base.specs.Trees.{ScriptTree}
use Rattle.sym_parse.specs.Answers.{IsScriptOf}
use Rattle.sym_check.specs.Meaning.PathBounds.{path_bound}
use Rattle.sym_check.specs.Plan.ScriptPlans.{ScriptPlan}
use Rattle.sym_check.specs.Rules.Scripts.{IsAccepted, BreaksScript}
use Rattle.sym_check.specs.declared.elaborate.error.CheckErr.{CheckErr}
use Rattle.sym_uses.specs.declared.sizes.Size.{Size}

-- The text is a script that breaks no rule, and this is its plan.
pub record IsPlanOf (text : List ℕ) (plan : ScriptPlan) : Type 0 where
  pub tree : ScriptTree
  pub script : IsScriptOf text tree
  pub accepted : IsAccepted tree plan

-- The text is a script, and this is the first rule that it breaks.
pub record Breaks (text : List ℕ) (fault : CheckErr) : Type 0 where
  pub tree : ScriptTree
  pub script : IsScriptOf text tree
  pub broken : BreaksScript tree fault

-- The cells, tests and paths of the text's plan.
pub record IsSizeOf (text : List ℕ) (size : Size) : Type 0 where
  pub plan : ScriptPlan
  pub is_plan : IsPlanOf text plan
  pub cells : size.cells ≡ length plan.cells
  pub tests : size.tests ≡ length plan.tests
  pub paths : size.paths ≡ path_bound plan
