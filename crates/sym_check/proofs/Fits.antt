-- What fits a well-formed plan: the key of a record, a valid state, and the outcome of a step.
use Rattle.std.proofs.Common.{◌≡◌, refl, ℕ, ℤ, Bool, true, false, List, [], ◌∷◌, map, Option, Some, None, Result, Ok, Err}
use Rattle.std.specs.Prelude.{slice_get, if◌then◌else◌, IfSome, IfErr}
use Rattle.std.specs.List.{AllZip}
use Rattle.sym_base.specs.declared.values.value.Value.{Value}
use Rattle.sym_base.specs.declared.values.record.Record.{Record}
use Rattle.sym_base.specs.declared.values.state.Cell.{Cell}
use Rattle.sym_base.specs.declared.values.state.Cell.TheVariants as cell
use Rattle.sym_base.specs.declared.values.state.State.{State}
use Rattle.sym_base.specs.declared.values.state.FaultKind.{FaultKind}
use Rattle.sym_base.specs.declared.values.state.FaultKind.TheVariants as fault
use Rattle.sym_base.specs.declared.values.state.Outcome.{Outcome}
use Rattle.sym_base.specs.declared.values.state.Outcome.TheVariants.{Going, Ended}
use Rattle.sym_check.specs.declared.evaluate.arithmetic.Arith.{Arith}
use Rattle.sym_check.specs.declared.plan.script.EnumPlan.{EnumPlan}
use Rattle.sym_check.specs.declared.plan.script.KindPlan.{KindPlan}
use Rattle.sym_check.specs.declared.plan.script.CellPlan.{CellPlan}
use Rattle.sym_check.specs.declared.plan.script.CellPlan.TheVariants as plan
use Rattle.sym_check.specs.Meaning.Arithmetic.{and_then}
use Rattle.sym_check.specs.Meaning.FixedValues.{Environment, fixed_value, fixed_values}
use Rattle.sym_check.specs.Meaning.LineValues.{term_number}
use Rattle.sym_check.specs.Meaning.Conditions.{truth, test_truth}
use Rattle.sym_check.specs.Plan.DoPlans.{DoPlan, DosPlan}
use Rattle.sym_check.specs.Plan.ScriptPlans.{ScriptPlan}
use Rattle.sym_base.specs.States.{with_cell}
use Rattle.sym_check.specs.Meaning.Updates.{or_fault, with_int, with_pushed, stored, environment, environment_after, do_step, dos_step, at_record, step}
use Rattle.sym_check.specs.Meaning.Groups.{field_at, key_of}
use Rattle.sym_check.specs.Meaning.Validity.{IsOfKind, AreOfKinds, field_kinds, IsRecord, IsOfField, IsKey, IsValidCell, IsValid, IsValidOutcome}
use Rattle.sym_check.specs.Meaning.Validity as valid
use Rattle.sym_check.specs.Meaning.Fitting.{FitsCell, FitsState, FitsFault, FitsOutcome}
use Rattle.sym_check.specs.Meaning.Fitting as fitting
use Rattle.sym_check.specs.Plan.WellFormed.{Kinds, IsDo, IsDos, IsWellFormed, known_kinds}
use Rattle.sym_check.specs.Plan.WellFormed as well
use Rattle.sym_check.proofs.KeptNumbers.{stored_fits}
use Rattle.sym_check.proofs.ZippedLists.{zip_get}

-- The value of a field is of its kind.
field_is : (p : ScriptPlan) (rec : Record) (g : ℕ) → IsRecord p rec → IsOfField p g (field_at rec g)
field_is p rec g r = go (slice_get (field_kinds p) g) refl
  where
    found : (k : KindPlan) → (v : Value) × (slice_get rec.fields g ≡ Some v) × IsOfKind p.enums k v → IsOfKind p.enums k (field_at rec g)
    found k (v, e, h) = rw e h

    go : (o : Option KindPlan) → slice_get (field_kinds p) g ≡ o → IsOfField p g (field_at rec g)
    go None e = rw e tt
    go (Some k) e = rw e (found k (zip_get (IsOfKind p.enums) (field_kinds p) rec.fields g k r e))

fields_are : (p : ScriptPlan) (rec : Record) (group : List ℕ) → IsRecord p rec → AllZip (IsOfField p) group (map (field_at rec) group)
fields_are p rec [] r = tt
fields_are p rec (g ∷ rest) r = (field_is p rec g r, fields_are p rec rest r)

pub key_is : (p : ScriptPlan) (rec : Record) → IsRecord p rec → IsKey p (key_of p rec)
key_is p rec r = fields_are p rec p.group r

cell_fits : (enums : List EnumPlan) (c : CellPlan) (content : Cell) → IsValidCell enums c content → FitsCell c content
cell_fits enums _ _ (valid.int lo hi first clamp x h) = fitting.int lo hi first clamp x
cell_fits enums _ _ (valid.nums lo hi clamp xs h) = fitting.nums lo hi clamp xs
cell_fits enums _ _ (valid.words ts) = fitting.words ts
cell_fits enums _ _ (valid.hold kinds first parts h) = fitting.hold kinds first parts
cell_fits enums _ _ (valid.enum of first l h) = fitting.enum of first l

cells_fit : (enums : List EnumPlan) (cells : List CellPlan) (contents : List Cell) → AllZip (IsValidCell enums) cells contents → AllZip FitsCell cells contents
cells_fit enums [] [] h = tt
cells_fit enums [] (x ∷ contents) h = absurd h
cells_fit enums (c ∷ cells) [] h = absurd h
cells_fit enums (c ∷ cells) (x ∷ contents) h = (cell_fits enums c x h.0, cells_fit enums cells contents h.1)

pub valid_fits : (p : ScriptPlan) (s : State) → IsValid p s → FitsState p s
valid_fits p s h = cells_fit p.enums p.cells s.cells h

-- Failed arithmetic, or a number out of the range of a cell that has one.
calculated_fits : {A : Type 0} (p : ScriptPlan) (f : A → Result State FaultKind) (r : Result A Arith) → ((x : A) → IfErr (f x) (FitsFault p)) → IfErr (and_then f (or_fault r)) (FitsFault p)
calculated_fits p f (Ok x) h = h x
calculated_fits p f (Err e) h = tt

followed_fits : (p : ScriptPlan) (f : State → Result State FaultKind) (r : Result State FaultKind) → IfErr r (FitsFault p) → ((s : State) → IfErr (f s) (FitsFault p)) → IfErr (and_then f r) (FitsFault p)
followed_fits p f (Ok s) h k = k s
followed_fits p f (Err e) h k = h

either_fits : (p : ScriptPlan) (l r : Result State FaultKind) (x : Bool) → IfErr l (FitsFault p) → IfErr r (FitsFault p) → IfErr (if x then l else r) (FitsFault p)
either_fits p l r true h k = h
either_fits p l r false h k = k

mutual
  do_fits : (p : ScriptPlan) (k later : Kinds) (d : DoPlan) → IsDo p k d later → (v : Environment) (s : State) → IfErr (do_step p v d s) (FitsFault p)
  do_fits p _ _ _ (well.let_value k n last e free t) v s = calculated_fits p (λ (x : Value). Ok s) (fixed_value v e) (λ x. tt)
  do_fits p _ _ _ (well.set_int k c t w u) v s =
      calculated_fits p (λ (x : ℤ). stored p c (with_int c) x s) (term_number v t s) (λ x. stored_fits p s c (with_int c) x (rw w.is refl))
  do_fits p _ _ _ (well.set_enum k c l w) v s = tt
  do_fits p _ _ _ (well.copy_enum k c d w) v s = tt
  do_fits p _ _ _ (well.keep k c es w) v s = calculated_fits p (λ (xs : List Value). Ok (with_cell s c (cell.Hold xs))) (fixed_values v es) (λ xs. tt)
  do_fits p _ _ _ (well.keep_from k c d w) v s = tt
  do_fits p _ _ _ (well.push_num k c t w u) v s =
      calculated_fits p (λ (x : ℤ). stored p c (with_pushed c) x s) (term_number v t s)
      (λ x. stored_fits p s c (with_pushed c) x (rw w.is refl))
  do_fits p _ _ _ (well.push_word k c w u t) v s = tt
  do_fits p _ _ _ (well.branch k c a b t ta tb) v s =
      calculated_fits p (λ (x : Bool). if x then dos_step p v a s else dos_step p v b s) (truth (test_truth p.tests) v c s)
      (λ x. either_fits p (dos_step p v a s) (dos_step p v b s) x (dos_fit p k a ta v s) (dos_fit p k b tb v s))

  dos_fit : (p : ScriptPlan) (k : Kinds) (ds : DosPlan) → IsDos p k ds → (v : Environment) (s : State) → IfErr (dos_step p v ds s) (FitsFault p)
  dos_fit p _ _ (well.finished k) v s = tt
  dos_fit p _ _ (well.followed k later d rest t r) v s =
      followed_fits p (λ (s' : State). dos_step p (environment_after v d) rest s') (do_step p v d s) (do_fits p k later d t v s)
      (λ s'. dos_fit p later rest r (environment_after v d) s')

recorded_fits : (p : ScriptPlan) (n : ℕ) (r : Result State FaultKind) → IfErr r (FitsFault p) → IsValidOutcome p (at_record n r) → FitsOutcome p (at_record n r)
recorded_fits p n (Ok s) h i = valid_fits p s i
recorded_fits p n (Err e) h i = h

pub step_fits : (p : ScriptPlan) (o : Outcome) (rec : Record) → IsWellFormed p → IsValidOutcome p (step p o rec) → FitsOutcome p o → FitsOutcome p (step p o rec)
step_fits p (Going s) rec w i h = recorded_fits p rec.no (dos_step p (environment rec []) p.update s) (dos_fit p (known_kinds p) p.update w.update (environment rec []) s) i
step_fits p (Ended end) rec w i h = h
