-- Segments that stand for records have a pair.
use Rattle.std.proofs.Common.{◌≡◌, ◌∙◌, ℕ, List, refl, sym, subst}
use Rattle.sym_base.specs.declared.values.record.Record.{Record}
use Rattle.sym_base.specs.declared.values.state.Fault.{Fault}
use Rattle.sym_base.specs.declared.values.state.State.{State}
use Rattle.sym_base.specs.declared.values.state.Outcome.{Outcome}
use Rattle.sym_base.specs.declared.values.state.Outcome.TheVariants.{Going}
use Rattle.sym_base.specs.declared.values.state.Outcome.TheVariants as outcome
use Rattle.sym_check.specs.Meaning.Conditions.{test_truth}
use Rattle.sym_check.specs.Meaning.Updates.{after, initial}
use Rattle.sym_check.specs.Meaning.Validity.{IsValidOutcome}
use Rattle.sym_check.specs.Plan.ScriptPlans.{ScriptPlan}
use Rattle.sym_check.specs.Plan.WellFormed.{IsWellFormed}
use Rattle.sym_check.proofs.ValidSteps.{initial_valid}
use Rattle.sym_path.specs.Changing.{GoesOn}
use Rattle.sym_path.specs.Giving.{IsOnlyOutcome, end_at}
use Rattle.sym_path.specs.Following.{AdmitsOutcome}
use Rattle.sym_path.specs.Standing.{StandsFor}
use Rattle.sym_path.specs.Within.{IsComposedWithin}
use Rattle.sym_path.specs.declared.within.Composition.{Composition}
use Rattle.sym_path.specs.declared.within.Composition.TheVariants.{One, Apart}
use Rattle.sym_path.specs.declared.path.Path.{Path}
use Rattle.sym_path.specs.declared.path.PathEnd.{PathEnd}
use Rattle.sym_path.specs.declared.path.PathEnd.TheVariants.{Next, Ended}
use Rattle.sym_path.proofs.Composed.{outcome_valid}
use Rattle.sym_path.proofs.PossibleStates.{pair_is_possible}
use Rattle.sym_run.specs.ClosedJoins.{HaveNoPairs, IsComposedUnlessApart}

ends_going : (end : PathEnd) (s : State) (fault : Fault) → GoesOn end → end_at end s ≡ outcome.Ended fault → ⊥
ends_going (Next forms) s fault g e = absurd (cc)
ends_going (Ended other) s fault g e = absurd g

pub pair_there : (p : ScriptPlan) (before rest : List Record) (left right : List Path) → IsWellFormed p → StandsFor p before left → StandsFor p rest right → HaveNoPairs (test_truth p.tests) left right → ⊥
pair_there p before rest left right w l r none = go (end_at one.path.end s) refl
  where
    s : State
    s = initial p

    one : IsOnlyOutcome (test_truth p.tests) left (initial p) (after p before (Going (initial p)))
    one = l.exact (initial p) (initial_valid p w)

    go : (o : Outcome) → end_at one.path.end (initial p) ≡ o → ⊥
    go (Going u) e =
        let valid : IsValidOutcome p (Going u) =
        subst (IsValidOutcome p) (sym one.gives ∙ e) (outcome_valid p before left (initial p) l (initial_valid p w)) in
        let two = r.exact u valid in
        (none one.index one.path one.is).1 two.index two.path two.is
        (pair_is_possible (test_truth p.tests) one.path two.path (initial p) one.admitted
        (subst (AdmitsOutcome (test_truth p.tests) two.path.when) (sym e) two.admitted))
    go (outcome.Ended fault) e = ends_going one.path.end (initial p) fault (none one.index one.path one.is).0 e

-- What composing within a limit gives is so.
pub unless_apart : (p : ScriptPlan) (left right : List Path) (limit : ℕ) (made : Composition) → IsComposedWithin p left right limit made → IsComposedUnlessApart p left right limit made
unless_apart p left right limit (One segment) h = h
unless_apart p left right limit (Apart first second) h = (h.0, h.1, λ before rest l r. h.2)
