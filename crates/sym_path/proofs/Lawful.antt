-- What stands for records has a path, and faults at numbers of the records.
use Rattle.std.proofs.Common.{◌≡◌, ◌≤◌, ◌<◌, ℕ, List, length, subst, arith}
use Rattle.std.proofs.lemmas.Option.{slice_get_within}
use Rattle.std.specs.List.{All}
use Rattle.sym_base.specs.declared.values.record.Record.{Record}
use Rattle.sym_base.specs.declared.values.state.Fault.{Fault}
use Rattle.sym_check.proofs.ValidSteps.{initial_valid}
use Rattle.sym_check.specs.Meaning.Updates.{initial}
use Rattle.sym_check.specs.Plan.ScriptPlans.{ScriptPlan}
use Rattle.sym_check.specs.Plan.WellFormed.{IsWellFormed}
use Rattle.sym_path.specs.declared.path.Path.{Path}
use Rattle.sym_path.specs.declared.path.PathEnd.{PathEnd}
use Rattle.sym_path.specs.declared.path.PathEnd.TheVariants.{Ended}
use Rattle.sym_path.specs.Standing.{EndsAmong, StandsFor}
use Rattle.sym_path.proofs.Lists.{all_at, all_from}

pub some_path : (p : ScriptPlan) (records : List Record) (paths : List Path) → IsWellFormed p → StandsFor p records paths → 1 ≤ length paths
some_path p records paths w h =
    let only = h.exact (initial p) (initial_valid p w) in
    let near : only.index < length paths = slice_get_within paths only.index only.path only.is in
    omega arith

module _ (records : List Record) (first next : ℕ) where
  abbrev IsIn : Record → Type 0
  IsIn rec = (first ≤ rec.no) × (rec.no < next)

  fault_within : (fault : Fault) → All IsIn records → EndsAmong records (Ended fault) → (first ≤ fault.no) × (fault.no < next)
  fault_within fault all (k, rec, near, at, same) =
      let in_range : IsIn rec = subst IsIn at (all k rec near) in
      (omega (arith, same, in_range.0), omega (arith, same, in_range.1))

  pub faults_within : (p : ScriptPlan) (paths : List Path) → StandsFor p records paths → All IsIn records → All (λ (path : Path). (fault : Fault) → path.end ≡ Ended fault → (first ≤ fault.no) × (fault.no < next)) paths
  faults_within p paths h all =
      all_from (λ (path : Path). (fault : Fault) → path.end ≡ Ended fault → (first ≤ fault.no) × (fault.no < next)) paths (λ i path e fault is.
      let among : EndsAmong records path.end = all_at (λ (q : Path). EndsAmong records q.end) paths i path h.faults e in
      fault_within fault all (subst (λ (end : PathEnd). EndsAmong records end) is among))
