-- What an update makes of two records that agree in the fields that it names.
use Rattle.std.proofs.Common.{◌≡◌, refl, sym, ap, ap₂, ◌∙◌, ℕ, ℤ, pos, neg_ℤ, ◌+ℤ◌, ◌*ℤ◌, ◌-◌, Bool, not, ◌==◌, if◌then◌else◌, List, [], ◌∷◌, ◌++◌, length, replicate, Option, Some, None, slice_get, Result, Ok, Err}
use Rattle.std.specs.List.{AllZip}
use Rattle.sym_base.specs.declared.values.value.Value.{Value}
use Rattle.sym_base.specs.declared.values.value.Value.TheVariants as value
use Rattle.sym_base.specs.declared.values.record.Record.{Record}
use Rattle.sym_base.specs.declared.values.state.Cell.TheVariants as cell
use Rattle.sym_base.specs.declared.values.state.State.{State}
use Rattle.sym_base.specs.declared.values.state.FaultKind.{FaultKind}
use Rattle.sym_base.specs.declared.values.state.Outcome.{Outcome}
use Rattle.sym_base.specs.declared.values.state.Outcome.TheVariants.{Going, Ended}
use Rattle.sym_base.specs.Comparing.{compares}
use Rattle.sym_base.specs.States.{label_at, number_at, parts_at, words_at, with_cell}
use Rattle.sym_base.specs.Tests.{Truth}
use Rattle.sym_check.specs.declared.evaluate.arithmetic.Arith.{Arith}
use Rattle.sym_check.specs.declared.evaluate.pairs.Pair.{Pair}
use Rattle.sym_check.specs.declared.plan.expression.WordOf.{WordOf}
use Rattle.sym_check.specs.declared.plan.expression.WordOf.TheVariants as word
use Rattle.sym_check.specs.declared.plan.expression.LabelOf.{LabelOf}
use Rattle.sym_check.specs.declared.plan.expression.LabelOf.TheVariants as label
use Rattle.sym_check.specs.Meaning.Arithmetic.{and_then, within, calculated}
use Rattle.sym_check.specs.Meaning.FixedValues.{Environment, value_number, value_word, value_label, number, word_of, label_of, fixed_value, fixed_values}
use Rattle.sym_check.specs.Meaning.LineValues.{pair, pair_within, pair_at, term_number}
use Rattle.sym_check.specs.Meaning.Conditions.{truth, test_truth, same_word}
use Rattle.sym_check.specs.Meaning.Groups.{field_value}
use Rattle.sym_check.specs.Meaning.Updates.{or_fault, with_int, with_pushed, stored, environment, with_result, environment_after, do_step, dos_step, at_record, step, after}
use Rattle.sym_check.specs.Plan.FixedPlans.{NumPlan, FixedPlan}
use Rattle.sym_check.specs.Plan.FixedPlans as fixed
use Rattle.sym_check.specs.Plan.LinePlans.{LinePlan, TermPlan}
use Rattle.sym_check.specs.Plan.LinePlans as line
use Rattle.sym_check.specs.Plan.CondPlans.{CondPlan}
use Rattle.sym_check.specs.Plan.CondPlans as cond
use Rattle.sym_check.specs.Plan.DoPlans.{DoPlan, DosPlan}
use Rattle.sym_check.specs.Plan.DoPlans as one
use Rattle.sym_check.specs.Plan.ScriptPlans.{ScriptPlan}
use Rattle.sym_reads.specs.Naming.{NumNames, WordNames, LabelNames, FixedNames, SomeNames, LineNames, TermNames, CondNames, DoNames, DosNames}
use Rattle.sym_reads.specs.Naming as names
use Rattle.sym_reads.specs.Agreement.{AgreeOnRead, AreAlike}

-- The fields of these numbers have the same values.
abbrev AgreeOn : (ℕ → Type 0) → List Value → List Value → Type 0
AgreeOn N xs ys = (i : ℕ) → N i → field_value (slice_get xs i) ≡ field_value (slice_get ys i)

-- A field that is missing reads as one that holds 0.
number_read : (v : Option Value) → value_number v ≡ value_number (Some (field_value v))
number_read None = refl
number_read (Some v) = refl

word_read : (v : Option Value) → value_word v ≡ value_word (Some (field_value v))
word_read None = refl
word_read (Some v) = refl

label_read : (v : Option Value) → value_label v ≡ value_label (Some (field_value v))
label_read None = refl
label_read (Some v) = refl

number_in : (v w : Option Value) → field_value v ≡ field_value w → value_number v ≡ value_number w
number_in v w e = number_read v ∙ ap (λ (x : Value). value_number (Some x)) e ∙ sym (number_read w)

word_in : (v w : Option Value) → field_value v ≡ field_value w → value_word v ≡ value_word w
word_in v w e = word_read v ∙ ap (λ (x : Value). value_word (Some x)) e ∙ sym (word_read w)

label_in : (v w : Option Value) → field_value v ≡ field_value w → value_label v ≡ value_label w
label_in v w e = label_read v ∙ ap (λ (x : Value). value_label (Some x)) e ∙ sym (label_read w)

-- Two environments with the same locals and parameters.
module _ (k m : Environment) (locals : k.locals ≡ m.locals) (params : k.params ≡ m.params) where
  number_same : (n : NumPlan) → AgreeOn (λ i. NumNames i n) k.fields m.fields → number k n ≡ number m n
  number_same (fixed.Lit n) h = refl
  number_same (fixed.Field i) h = ap (λ (x : ℤ). Ok x) (number_in (slice_get k.fields i) (slice_get m.fields i) (h i names.field_number))
  number_same (fixed.Local i) h = ap (λ (vs : List Value). Ok (value_number (slice_get vs i))) locals
  number_same (fixed.Param i) h = ap (λ (vs : List Value). Ok (value_number (slice_get vs i))) params
  number_same (fixed.Neg n) h = ap (and_then (λ (x : ℤ). within (neg_ℤ x))) (number_same n (λ i t. h i (names.opposite n t)))
  number_same (fixed.Bin op l r) h =
      ap₂ (λ (a b : Result ℤ Arith). and_then (λ (x : ℤ). and_then (λ (y : ℤ). calculated op x y) b) a)
      (number_same l (λ i t. h i (names.left op l r t)))
      (number_same r (λ i t. h i (names.right op l r t)))

  word_same : (w : WordOf) → AgreeOn (λ i. WordNames i w) k.fields m.fields → word_of k w ≡ word_of m w
  word_same (word.Lit t) h = refl
  word_same (word.Field i) h = word_in (slice_get k.fields i) (slice_get m.fields i) (h i names.field_word)
  word_same (word.Local i) h = ap (λ (vs : List Value). value_word (slice_get vs i)) locals
  word_same (word.Param i) h = ap (λ (vs : List Value). value_word (slice_get vs i)) params

  label_same : (l : LabelOf) → AgreeOn (λ i. LabelNames i l) k.fields m.fields → label_of k l ≡ label_of m l
  label_same (label.Lit l) h = refl
  label_same (label.Field i) h = label_in (slice_get k.fields i) (slice_get m.fields i) (h i names.field_label)
  label_same (label.Local i) h = ap (λ (vs : List Value). value_label (slice_get vs i)) locals
  label_same (label.Param i) h = ap (λ (vs : List Value). value_label (slice_get vs i)) params

  fixed_same : (e : FixedPlan) → AgreeOn (λ i. FixedNames i e) k.fields m.fields → fixed_value k e ≡ fixed_value m e
  fixed_same (fixed.OfNum n) h = ap (and_then (λ (x : ℤ). Ok (value.Num x))) (number_same n (λ i t. h i (names.in_number n t)))
  fixed_same (fixed.OfWord w) h = ap (λ (t : List ℕ). Ok (value.Word t)) (word_same w (λ i t. h i (names.in_word w t)))
  fixed_same (fixed.OfLabel l) h = ap (λ (n : ℕ). Ok (value.Label n)) (label_same l (λ i t. h i (names.in_label l t)))

  all_same : (es : List FixedPlan) → AgreeOn (λ i. SomeNames i es) k.fields m.fields → fixed_values k es ≡ fixed_values m es
  all_same [] h = refl
  all_same (e ∷ rest) h =
      ap₂ (λ (a : Result Value Arith) (b : Result (List Value) Arith). and_then (λ (v : Value). and_then (λ (vs : List Value). Ok (v ∷ vs)) b) a)
      (fixed_same e (λ i t. h i (names.first_value e rest t)))
      (all_same rest (λ i t. h i (names.later_value e rest t)))

  pair_same : (l : LinePlan) → AgreeOn (λ i. LineNames i l) k.fields m.fields → pair k l ≡ pair m l
  pair_same (line.Cell c) h = refl
  pair_same (line.Neg l) h = ap (and_then (λ (q : Pair). pair_within q.cell (neg_ℤ q.a) (neg_ℤ q.b))) (pair_same l (λ i t. h i (names.opposite_line l t)))
  pair_same (line.Add l n) h =
      ap₂ (λ (a : Result ℤ Arith) (b : Result Pair Arith). and_then (λ (f : ℤ). and_then (λ (q : Pair). pair_within q.cell q.a (q.b +ℤ f)) b) a)
      (number_same n (λ i t. h i (names.added l n t)))
      (pair_same l (λ i t. h i (names.line_before l n t)))
  pair_same (line.Scale n l) h =
      ap₂ (λ (a : Result ℤ Arith) (b : Result Pair Arith). and_then (λ (f : ℤ). and_then (λ (q : Pair). pair_within q.cell (f *ℤ q.a) (f *ℤ q.b)) b) a)
      (number_same n (λ i t. h i (names.factor n l t)))
      (pair_same l (λ i t. h i (names.scaled n l t)))

  term_same : (t : TermPlan) (s : State) → AgreeOn (λ i. TermNames i t) k.fields m.fields → term_number k t s ≡ term_number m t s
  term_same (line.OfNum n) s h = number_same n (λ i t. h i (names.fixed_term n t))
  term_same (line.OfLine l) s h = ap (and_then (λ (q : Pair). Ok (pair_at q (number_at s q.cell)))) (pair_same l (λ i t. h i (names.line_term l t)))

  truth_same : (tests : Truth) (c : CondPlan) (s : State) → AgreeOn (λ i. CondNames i c) k.fields m.fields → truth tests k c s ≡ truth tests m c s
  truth_same tests (cond.Compared compare t n) s h =
      ap₂ (λ (a b : Result ℤ Arith). and_then (λ (x : ℤ). and_then (λ (y : ℤ). Ok (compares compare x y)) b) a)
      (term_same t s (λ i u. h i (names.left_number compare t n u)))
      (number_same n (λ i u. h i (names.right_number compare t n u)))
  truth_same tests (cond.Words v w) s h =
      ap₂ (λ (a b : List ℕ). Ok (same_word a b))
      (word_same v (λ i t. h i (names.left_word v w t)))
      (word_same w (λ i t. h i (names.right_word v w t)))
  truth_same tests (cond.CellIs c l) s h = ap (λ (n : ℕ). Ok (label_at s c == n)) (label_same l (λ i t. h i (names.label_of_cell c l t)))
  truth_same tests (cond.LabelIs l r) s h =
      ap₂ (λ (a b : ℕ). Ok (a == b))
      (label_same l (λ i t. h i (names.left_label l r t)))
      (label_same r (λ i t. h i (names.right_label l r t)))
  truth_same tests (cond.Test test c args) s h =
      ap (and_then (λ (values : List Value). Ok (tests test values (parts_at s c)))) (all_same args (λ i t. h i (names.argument test c args t)))
  truth_same tests (cond.Not c) s h = ap (and_then (λ (x : Bool). Ok (not x))) (truth_same tests c s (λ i t. h i (names.denied c t)))
  truth_same tests (cond.And c d) s h =
      ap₂ (λ (a b : Result Bool Arith). and_then (λ (x : Bool). if x then b else Ok x) a)
      (truth_same tests c s (λ i t. h i (names.left_of_and c d t)))
      (truth_same tests d s (λ i t. h i (names.right_of_and c d t)))
  truth_same tests (cond.Or c d) s h =
      ap₂ (λ (a b : Result Bool Arith). and_then (λ (x : Bool). if x then Ok x else b) a)
      (truth_same tests c s (λ i t. h i (names.left_of_or c d t)))
      (truth_same tests d s (λ i t. h i (names.right_of_or c d t)))

-- What is known after a `let` has the same fields and parameters.
result_fields : (k : Environment) (n : ℕ) (r : Result Value Arith) → (with_result k n r).fields ≡ k.fields
result_fields k n (Ok v) = refl
result_fields k n (Err e) = refl

result_params : (k : Environment) (n : ℕ) (r : Result Value Arith) → (with_result k n r).params ≡ k.params
result_params k n (Ok v) = refl
result_params k n (Err e) = refl

abbrev locals_with : ℕ → List Value → Result Value Arith → List Value
locals_with n locals (Ok v) = locals ++ (replicate (n - length locals) (value.Num (pos 0)) ++ v ∷ [])
locals_with n locals (Err e) = locals

result_locals : (k : Environment) (n : ℕ) (r : Result Value Arith) → (with_result k n r).locals ≡ locals_with n k.locals r
result_locals k n (Ok v) = refl
result_locals k n (Err e) = refl

after_fields : (k : Environment) (d : DoPlan) → (environment_after k d).fields ≡ k.fields
after_fields k (one.Let n e) = result_fields k n (fixed_value k e)
after_fields k (one.SetInt c t) = refl
after_fields k (one.SetEnum c l) = refl
after_fields k (one.CopyEnum c d) = refl
after_fields k (one.Keep c es) = refl
after_fields k (one.KeepFrom c d) = refl
after_fields k (one.PushNum c t) = refl
after_fields k (one.PushWord c w) = refl
after_fields k (one.If c a b) = refl

after_params : (k : Environment) (d : DoPlan) → (environment_after k d).params ≡ k.params
after_params k (one.Let n e) = result_params k n (fixed_value k e)
after_params k (one.SetInt c t) = refl
after_params k (one.SetEnum c l) = refl
after_params k (one.CopyEnum c d) = refl
after_params k (one.Keep c es) = refl
after_params k (one.KeepFrom c d) = refl
after_params k (one.PushNum c t) = refl
after_params k (one.PushWord c w) = refl
after_params k (one.If c a b) = refl

after_locals : (k m : Environment) (d : DoPlan) → k.locals ≡ m.locals → k.params ≡ m.params → AgreeOn (λ i. DoNames i d) k.fields m.fields → (environment_after k d).locals ≡ (environment_after m d).locals
after_locals k m (one.Let n e) locals params h =
    result_locals k n (fixed_value k e)
    ∙ ap₂ (locals_with n) locals (fixed_same k m locals params e (λ i t. h i (names.local_value n e t)))
    ∙ sym (result_locals m n (fixed_value m e))
after_locals k m (one.SetInt c t) locals params h = locals
after_locals k m (one.SetEnum c l) locals params h = locals
after_locals k m (one.CopyEnum c d) locals params h = locals
after_locals k m (one.Keep c es) locals params h = locals
after_locals k m (one.KeepFrom c d) locals params h = locals
after_locals k m (one.PushNum c t) locals params h = locals
after_locals k m (one.PushWord c w) locals params h = locals
after_locals k m (one.If c a b) locals params h = locals

-- The fields that the statements after one name have the same values after it.
agree_after : (k m : Environment) (d : DoPlan) (rest : DosPlan) → AgreeOn (λ i. DosNames i (one.Then d rest)) k.fields m.fields → AgreeOn (λ i. DosNames i rest) (environment_after k d).fields (environment_after m d).fields
agree_after k m d rest h i t =
    ap (λ (vs : List Value). field_value (slice_get vs i)) (after_fields k d)
    ∙ h i (names.later d rest t)
    ∙ sym (ap (λ (vs : List Value). field_value (slice_get vs i)) (after_fields m d))

-- What follows a result, where it is the same at every state.
follows_same : (f g : State → Result State FaultKind) → ((s : State) → f s ≡ g s) → (r : Result State FaultKind) → and_then f r ≡ and_then g r
follows_same f g h (Ok s) = h s
follows_same f g h (Err e) = refl

mutual
  do_same : (p : ScriptPlan) (d : DoPlan) (s : State) (k m : Environment) → k.locals ≡ m.locals → k.params ≡ m.params → AgreeOn (λ i. DoNames i d) k.fields m.fields → do_step p k d s ≡ do_step p m d s
  do_same p (one.Let n e) s k m locals params h =
      ap (λ (r : Result Value Arith). and_then (λ (v : Value). Ok s) (or_fault r)) (fixed_same k m locals params e (λ i t. h i (names.local_value n e t)))
  do_same p (one.SetInt c t) s k m locals params h =
      ap (λ (r : Result ℤ Arith). and_then (λ (x : ℤ). stored p c (with_int c) x s) (or_fault r)) (term_same k m locals params t s (λ i u. h i (names.assigned_number c t u)))
  do_same p (one.SetEnum c l) s k m locals params h =
      ap (λ (n : ℕ). Ok (with_cell s c (cell.Enum n))) (label_same k m locals params l (λ i t. h i (names.assigned_label c l t)))
  do_same p (one.CopyEnum c d) s k m locals params h = refl
  do_same p (one.Keep c es) s k m locals params h =
      ap (λ (r : Result (List Value) Arith). and_then (λ (parts : List Value). Ok (with_cell s c (cell.Hold parts))) (or_fault r)) (all_same k m locals params es (λ i t. h i (names.kept c es t)))
  do_same p (one.KeepFrom c d) s k m locals params h = refl
  do_same p (one.PushNum c t) s k m locals params h =
      ap (λ (r : Result ℤ Arith). and_then (λ (x : ℤ). stored p c (with_pushed c) x s) (or_fault r)) (term_same k m locals params t s (λ i u. h i (names.pushed_number c t u)))
  do_same p (one.PushWord c w) s k m locals params h =
      ap (λ (t : List ℕ). Ok (with_cell s c (cell.Words (words_at s c ++ t ∷ [])))) (word_same k m locals params w (λ i t. h i (names.pushed_word c w t)))
  do_same p (one.If c a b) s k m locals params h =
      ap (λ (r : Result Bool Arith). and_then (λ (x : Bool). if x then dos_step p k a s else dos_step p k b s) (or_fault r)) (truth_same k m locals params (test_truth p.tests) c s (λ i t. h i (names.condition c a b t)))
      ∙ ap₂ (λ (u v : Result State FaultKind). and_then (λ (x : Bool). if x then u else v) (or_fault (truth (test_truth p.tests) m c s)))
      (dos_same p a s k m locals params (λ i t. h i (names.where_true c a b t)))
      (dos_same p b s k m locals params (λ i t. h i (names.where_false c a b t)))

  dos_same : (p : ScriptPlan) (ds : DosPlan) (s : State) (k m : Environment) → k.locals ≡ m.locals → k.params ≡ m.params → AgreeOn (λ i. DosNames i ds) k.fields m.fields → dos_step p k ds s ≡ dos_step p m ds s
  dos_same p one.End s k m locals params h = refl
  dos_same p (one.Then d rest) s k m locals params h =
      ap (and_then (λ (later : State). dos_step p (environment_after k d) rest later)) (do_same p d s k m locals params (λ i t. h i (names.first d rest t)))
      ∙ follows_same (λ (later : State). dos_step p (environment_after k d) rest later) (λ (later : State). dos_step p (environment_after m d) rest later)
      (λ later. dos_same p rest later (environment_after k d) (environment_after m d)
      (after_locals k m d locals params (λ i t. h i (names.first d rest t)))
      (after_params k d ∙ params ∙ sym (after_params m d))
      (agree_after k m d rest h))
      (do_step p m d s)

pub step_same : (p : ScriptPlan) (rec other : Record) (o : Outcome) → rec.no ≡ other.no → AgreeOnRead p rec other → step p o rec ≡ step p o other
step_same p rec other (Going s) e h = ap₂ at_record e (dos_same p p.update s (environment rec []) (environment other []) refl refl h)
step_same p rec other (Ended end) e h = refl

pub after_same : (p : ScriptPlan) (records others : List Record) (o : Outcome) → AllZip (AreAlike p) records others → after p records o ≡ after p others o
after_same p [] [] o h = refl
after_same p [] (other ∷ others) o h = absurd h
after_same p (rec ∷ records) [] o h = absurd h
after_same p (rec ∷ records) (other ∷ others) o h =
    ap (after p records) (step_same p rec other o h.0.no h.0.fields)
    ∙ after_same p records others (step p o other) h.1
