-- Settled paths stand for what they were.
use Rattle.std.proofs.Common.{◌≡◌, ◌≤◌, List, [], ◌∷◌, length, ap, ◌∙◌, subst, arith, get_or}
use Rattle.std.specs.List.{All, Any}
use Rattle.sym_base.specs.Tests.{Truth}
use Rattle.sym_base.specs.declared.values.record.Record.{Record}
use Rattle.sym_base.specs.declared.values.state.State.{State}
use Rattle.sym_base.specs.declared.values.state.Outcome.{Outcome}
use Rattle.sym_base.specs.declared.values.state.Outcome.TheVariants.{Going}
use Rattle.sym_check.specs.Meaning.Conditions.{test_truth}
use Rattle.sym_check.specs.Plan.ScriptPlans.{ScriptPlan}
use Rattle.sym_check.specs.Meaning.Updates.{after}
use Rattle.sym_check.specs.Meaning.Validity.{IsValid}
use Rattle.sym_path.specs.declared.path.Path.{Path}
use Rattle.sym_path.specs.declared.path.PathEnd.{PathEnd}
use Rattle.sym_path.specs.Giving.{IsOnlyOutcome, outcomes}
use Rattle.sym_path.specs.Settling.{AreRight, IsSettling}
use Rattle.sym_path.specs.Standing.{EndsAmong, StandsFor}
use Rattle.sym_path.proofs.Lists.{all_from, all_at}
use Rattle.sym_path.proofs.OnlyOutcomes.{only_outcome}

-- Their faults came at the same records.
pub settled_end : (records : List Record) (paths segment : List Path) → All (λ (path : Path). EndsAmong records path.end) paths → IsSettling paths segment → All (λ (path : Path). EndsAmong records path.end) segment
settled_end records paths segment h w =
    all_from (λ path. EndsAmong records path.end) segment (λ i path e.
    let (k, q, l, at, same) = all_at (λ path. Any (λ q. q.end ≡ path.end) paths) segment i path w.reduced.ends e in
    subst (λ (end : PathEnd). EndsAmong records end) same (subst (λ (x : Path). EndsAmong records x.end) at (h k q l)))

pub settled_stand : (p : ScriptPlan) (records : List Record) (paths segment : List Path) → StandsFor p records paths → IsSettling paths segment → StandsFor p records segment
settled_stand p records paths segment h w = record {
  fits = w.reduced.fits p h.fits;
  faults = settled_end records paths segment h.faults w;
  exact = λ s v.
      let truth : Truth = test_truth p.tests in
      let o : Outcome = after p records (Going s) in
      let once : outcomes truth paths s ≡ o ∷ [] = (only_outcome truth paths s o).1 (h.exact s v) in
      (only_outcome truth segment s o).0 (w.reduced.same truth s (omega (arith, ap length once)) ∙ once);
}

pub right_stand : (p : ScriptPlan) (records : List Record) (paths segment : List Path) → AreRight p records paths → IsSettling paths segment → StandsFor p records segment
right_stand p records paths segment h w = settled_stand p records paths segment (record { fits = h.fits; faults = h.faults; exact = exact }) w
  where
    exact : (s : State) → IsValid p s → IsOnlyOutcome (test_truth p.tests) paths s (after p records (Going s))
    exact s v = let one = h.once s v in record {
      index = one.index;
      path = one.path;
      is = one.is;
      admitted = one.admitted;
      gives = h.right one.index one.path s one.is v one.admitted;
      no_other = one.no_other;
    }
