-- What fixed expressions stand for: a number, a word or a label, or failed arithmetic.
use Rattle.std.specs.Prelude.{ℕ, ℤ, pos, neg_ℤ, List, [], ◌∷◌, Option, Some, None, Result, Ok, slice_get}
use Rattle.sym_base.specs.declared.values.value.Value.{Value}
use Rattle.sym_base.specs.declared.values.value.Value.TheVariants as value
use Rattle.sym_check.specs.declared.evaluate.arithmetic.Arith.{Arith}
use Rattle.sym_check.specs.declared.plan.expression.WordOf.{WordOf}
use Rattle.sym_check.specs.declared.plan.expression.WordOf.TheVariants as word
use Rattle.sym_check.specs.declared.plan.expression.LabelOf.{LabelOf}
use Rattle.sym_check.specs.declared.plan.expression.LabelOf.TheVariants as label
use Rattle.sym_check.specs.Meaning.Arithmetic.{◌>>=◌, within, calculated}
use Rattle.sym_check.specs.Plan.FixedPlans.{NumPlan, Lit, Field, Local, Param, Neg, Bin, FixedPlan, OfNum, OfWord, OfLabel}

-- The environment of an expression, what its names stand for by their numbers: the fields of a
-- record, the locals so far, and in the body of a test its parameters.
pub record Environment : Type 0 where
  pub fields : List Value
  pub locals : List Value
  pub params : List Value

-- The number of a value; 0 of any other value, and of none.
abbrev pub value_number : Option Value → ℤ
value_number None = pos 0
value_number (Some (value.Num x)) = x
value_number (Some (value.Word t)) = pos 0
value_number (Some (value.Label l)) = pos 0

-- The word of a value; the empty one of any other value, and of none.
abbrev pub value_word : Option Value → List ℕ
value_word None = []
value_word (Some (value.Num x)) = []
value_word (Some (value.Word t)) = t
value_word (Some (value.Label l)) = []

-- The label of a value; 0 of any other value, and of none.
abbrev pub value_label : Option Value → ℕ
value_label None = 0
value_label (Some (value.Num x)) = 0
value_label (Some (value.Word t)) = 0
value_label (Some (value.Label l)) = l

-- The number of a fixed expression.
abbrev pub number : Environment → NumPlan → Result ℤ Arith
number k (Lit n) = Ok n
number k (Field i) = Ok (value_number (slice_get k.fields i))
number k (Local i) = Ok (value_number (slice_get k.locals i))
number k (Param i) = Ok (value_number (slice_get k.params i))
number k (Neg n) = do
  x ← number k n
  within (neg_ℤ x)
number k (Bin op l r) = do
  x ← number k l
  y ← number k r
  calculated op x y

abbrev pub word_of : Environment → WordOf → List ℕ
word_of k (word.Lit t) = t
word_of k (word.Field i) = value_word (slice_get k.fields i)
word_of k (word.Local i) = value_word (slice_get k.locals i)
word_of k (word.Param i) = value_word (slice_get k.params i)

abbrev pub label_of : Environment → LabelOf → ℕ
label_of k (label.Lit l) = l
label_of k (label.Field i) = value_label (slice_get k.fields i)
label_of k (label.Local i) = value_label (slice_get k.locals i)
label_of k (label.Param i) = value_label (slice_get k.params i)

-- The value of a fixed expression.
abbrev pub fixed_value : Environment → FixedPlan → Result Value Arith
fixed_value k (OfNum n) = do
  x ← number k n
  Ok (value.Num x)
fixed_value k (OfWord w) = Ok (value.Word (word_of k w))
fixed_value k (OfLabel l) = Ok (value.Label (label_of k l))

-- The values of several; failed arithmetic in one is that of all.
abbrev pub fixed_values : Environment → List FixedPlan → Result (List Value) Arith
fixed_values k [] = Ok []
fixed_values k (e ∷ rest) = do
  v ← fixed_value k e
  vs ← fixed_values k rest
  Ok (v ∷ vs)
