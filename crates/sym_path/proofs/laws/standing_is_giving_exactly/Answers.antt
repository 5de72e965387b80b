use Rattle.std.proofs.Common.{◌↔◌, List}
use Rattle.std.specs.List.{All}
use Rattle.sym_base.specs.declared.values.record.Record.{Record}
use Rattle.sym_base.specs.declared.values.state.Outcome.TheVariants.{Going}
use Rattle.sym_check.specs.Meaning.Conditions.{test_truth}
use Rattle.sym_check.specs.Plan.ScriptPlans.{ScriptPlan}
use Rattle.sym_check.specs.Meaning.Updates.{after}
use Rattle.sym_path.specs.declared.path.Path.{Path}
use Rattle.sym_path.specs.Fitting.{SegmentFits}
use Rattle.sym_path.specs.Standing.{EndsAmong, StandsFor, GivesExactly}
use Rattle.sym_path.proofs.OnlyOutcomes.{only_outcome}
use Rattle.sym_path.proofs.laws.standing_is_giving_exactly.Goals as goal

both : (p : ScriptPlan) (records : List Record) (paths : List Path) → StandsFor p records paths ↔ (SegmentFits p paths × All (λ (path : Path). EndsAmong records path.end) paths × GivesExactly p records paths)
both p records paths = (
  λ h. (h.fits, h.faults, λ s v. (only_outcome (test_truth p.tests) paths s (after p records (Going s))).1 (h.exact s v)),
  λ (fits, faults, exact). record { fits = fits; faults = faults; exact = λ s v. (only_outcome (test_truth p.tests) paths s (after p records (Going s))).0 (exact s v) },
)

pub returns : goal.returns
returns c = both
