-- Valid groups stay valid.
use Rattle.std.proofs.Common.{suc, Bool, true, false, cond, if◌then◌else◌, List, [], ◌∷◌, ◌++◌, map, Some, arith}
use Rattle.std.specs.List.{All}
use Rattle.std.specs.Map.{lookup}
use Rattle.std.proofs.lemmas.List.Elements.{All-append, All-cons}
use Rattle.sym_base.specs.declared.values.record.Record.{Record}
use Rattle.sym_base.specs.declared.values.value.Key.{Key}
use Rattle.sym_base.specs.declared.values.state.Outcome.{Outcome}
use Rattle.sym_check.specs.Meaning.Groups.{is_key, key_of}
use Rattle.sym_check.specs.Meaning.Updates.{step}
use Rattle.sym_check.specs.Meaning.Validity.{IsRecord, IsValidOutcome}
use Rattle.sym_check.specs.Plan.ScriptPlans.{ScriptPlan}
use Rattle.sym_check.specs.Plan.WellFormed.{IsWellFormed}
use Rattle.sym_check.proofs.ValidSteps.{initial_valid, step_valid}
use Rattle.sym_plain.specs.Pairs.{has_key, put, standing, after_record, after_records}
use Rattle.sym_plain.proofs.Puts.{Pairs, at_key}

module _ (p : ScriptPlan) where
  abbrev pub AreValid : Pairs Outcome → Type 0
  AreValid groups = All (λ group. IsValidOutcome p group.1) groups

  -- A group that isn't there begins with a valid state.
  pub standing_valid : IsWellFormed p → (key : Key) (groups : Pairs Outcome) → AreValid groups → IsValidOutcome p (standing p (lookup (is_key key) groups))
  standing_valid w key [] all = initial_valid p w
  standing_valid w key (g ∷ rest) all = of (is_key key g.0) (standing_valid w key rest (λ i d lt. all (suc i) d (omega arith)))
    where
      of : (b : Bool) → IsValidOutcome p (standing p (lookup (is_key key) rest)) → IsValidOutcome p (standing p (cond b (Some g.1) (lookup (is_key key) rest)))
      of true later = all 0 g (omega arith)
      of false later = later

  set_valid : (key : Key) (o : Outcome) (groups : Pairs Outcome) → IsValidOutcome p o → AreValid groups → AreValid (map (at_key key o) groups)
  set_valid key o [] h all = all
  set_valid key o (g ∷ rest) h all =
      All-cons (λ group. IsValidOutcome p group.1) (at_key key o g) (map (at_key key o) rest) (of (is_key key g.0)) (set_valid key o rest h (λ i d lt. all (suc i) d (omega arith)))
    where
      of : (b : Bool) → IsValidOutcome p (if b then (g.0, o) else g).1
      of true = h
      of false = all 0 g (omega arith)

  pub put_valid : (key : Key) (o : Outcome) (groups : Pairs Outcome) → IsValidOutcome p o → AreValid groups → AreValid (put groups key o)
  put_valid key o groups h all = of (has_key groups key)
    where
      of : (b : Bool) → AreValid (if b then map (at_key key o) groups else groups ++ (key, o) ∷ [])
      of true = set_valid key o groups h all
      of false = All-append (λ group. IsValidOutcome p group.1) groups ((key, o) ∷ []) all (All-cons (λ group. IsValidOutcome p group.1) (key, o) [] h (λ i d lt. absurd (omega arith)))

  pub record_valid : (rec : Record) (groups : Pairs Outcome) → IsWellFormed p → IsRecord p rec → AreValid groups → AreValid (after_record p rec groups)
  record_valid rec groups w is all =
      let before : Outcome = standing p (lookup (is_key (key_of p rec)) groups) in
      put_valid (key_of p rec) (step p before rec) groups (step_valid p before rec w is (standing_valid w (key_of p rec) groups all)) all

  pub records_valid : (records : List Record) (groups : Pairs Outcome) → IsWellFormed p → All (IsRecord p) records → AreValid groups → AreValid (after_records p records groups)
  records_valid [] groups w are all = all
  records_valid (rec ∷ records) groups w are all =
      records_valid records (after_record p rec groups) w (λ i d lt. are (suc i) d (omega arith)) (record_valid rec groups w (are 0 rec (omega arith)) all)
