-- What an expression of a test or of the update stands for, and its plan: one case for each rule.
use Rattle.std.specs.Prelude.{◌≡◌, ℕ, ℤ, List, [], ◌∷◌, ◌++◌, Option, Some, None}
use Rattle.sym_base.specs.declared.tree.name.Name.{Name}
use Rattle.sym_base.specs.declared.tree.compare.Compare.{Compare}
use Rattle.sym_base.specs.declared.tree.compare.Compare.TheVariants as compare
use Rattle.sym_base.specs.declared.tree.expression.BinOp.{BinOp}
use Rattle.sym_base.specs.declared.tree.expression.BinOp.TheVariants as op
use Rattle.sym_base.specs.Trees.{ExprTree, Num, Words, Named, Call, Neg, Not, Bin, ExprsTree, End, More}
use Rattle.sym_check.specs.declared.plan.expression.ArithOp.{ArithOp}
use Rattle.sym_check.specs.declared.plan.expression.ArithOp.TheVariants as arith
use Rattle.sym_check.specs.declared.plan.expression.WordOf.{WordOf}
use Rattle.sym_check.specs.declared.plan.expression.WordOf.TheVariants as word
use Rattle.sym_check.specs.declared.plan.expression.LabelOf.{LabelOf}
use Rattle.sym_check.specs.declared.plan.expression.LabelOf.TheVariants as label
use Rattle.sym_check.specs.declared.plan.script.KindPlan.{KindPlan}
use Rattle.sym_check.specs.declared.plan.script.KindPlan.TheVariants as kind
use Rattle.sym_check.specs.Plan.FixedPlans.{NumPlan, FixedPlan}
use Rattle.sym_check.specs.Plan.FixedPlans as fixed
use Rattle.sym_check.specs.Plan.LinePlans.{LinePlan, TermPlan}
use Rattle.sym_check.specs.Plan.LinePlans as line
use Rattle.sym_check.specs.Plan.CondPlans.{CondPlan}
use Rattle.sym_check.specs.Plan.CondPlans as cond
use Rattle.sym_check.specs.declared.elaborate.scope.Variable.TheVariants as var
use Rattle.sym_check.specs.declared.elaborate.scope.Variable.{Variable}
use Rattle.sym_check.specs.Rules.Scopes.{Scope, Stands}
use Rattle.sym_check.specs.declared.elaborate.scope.Meaning.TheVariants as meaning

abbrev pub num_variable : Variable → NumPlan
num_variable (var.Field i) = fixed.Field i
num_variable (var.Local i) = fixed.Local i
num_variable (var.Param i) = fixed.Param i

abbrev pub word_variable : Variable → WordOf
word_variable (var.Field i) = word.Field i
word_variable (var.Local i) = word.Local i
word_variable (var.Param i) = word.Param i

abbrev pub label_variable : Variable → LabelOf
label_variable (var.Field i) = label.Field i
label_variable (var.Local i) = label.Local i
label_variable (var.Param i) = label.Param i

-- The operators of arithmetic.
abbrev pub arith_of : BinOp → Option ArithOp
arith_of op.Or = None
arith_of op.And = None
arith_of op.Eq = None
arith_of op.Ne = None
arith_of op.Lt = None
arith_of op.Le = None
arith_of op.Gt = None
arith_of op.Ge = None
arith_of op.Is = None
arith_of op.Add = Some arith.Add
arith_of op.Sub = Some arith.Sub
arith_of op.Mul = Some arith.Mul
arith_of op.Div = Some arith.Div
arith_of op.Rem = Some arith.Rem

-- The comparisons.
abbrev pub compare_of : BinOp → Option Compare
compare_of op.Or = None
compare_of op.And = None
compare_of op.Eq = Some compare.Eq
compare_of op.Ne = Some compare.Ne
compare_of op.Lt = Some compare.Lt
compare_of op.Le = Some compare.Le
compare_of op.Gt = Some compare.Gt
compare_of op.Ge = Some compare.Ge
compare_of op.Is = None
compare_of op.Add = None
compare_of op.Sub = None
compare_of op.Mul = None
compare_of op.Div = None
compare_of op.Rem = None

-- The comparison with its sides exchanged.
abbrev pub turned : Compare → Compare
turned compare.Eq = compare.Eq
turned compare.Ne = compare.Ne
turned compare.Lt = compare.Gt
turned compare.Le = compare.Ge
turned compare.Gt = compare.Lt
turned compare.Ge = compare.Le

-- A number that names no cell.
pub data IsNum (s : Scope) : ExprTree → NumPlan → Type 0 where
  numeral : (n : ℤ) (at : ℕ) → IsNum s (Num n at) (fixed.Lit n)
  named : (x : Name) (v : Variable)
      → Stands s x (meaning.Value kind.Num v)
      → IsNum s (Named x) (num_variable v)
  negative : (e : ExprTree) (at : ℕ) (n : NumPlan) → IsNum s e n → IsNum s (Neg e at) (fixed.Neg n)
  calculated : (o : BinOp) (a : ArithOp) (l r : ExprTree) (at : ℕ) (m n : NumPlan)
      → arith_of o ≡ Some a
      → IsNum s l m
      → IsNum s r n
      → IsNum s (Bin o l r at) (fixed.Bin a m n)

pub data IsWord (s : Scope) : ExprTree → WordOf → Type 0 where
  text : (t : List ℕ) (at : ℕ) → IsWord s (Words t at) (word.Lit t)
  word_named : (x : Name) (v : Variable)
      → Stands s x (meaning.Value kind.Word v)
      → IsWord s (Named x) (word_variable v)

-- A label of the enum with this number.
pub data IsLabel (s : Scope) : ℕ → ExprTree → LabelOf → Type 0 where
  label_name : (x : Name) (enum l : ℕ)
      → Stands s x (meaning.Label enum l)
      → IsLabel s enum (Named x) (label.Lit l)
  label_named : (x : Name) (enum : ℕ) (v : Variable)
      → Stands s x (meaning.Value (kind.Label enum) v)
      → IsLabel s enum (Named x) (label_variable v)

-- A line names one integer cell, once.
pub data IsLine (s : Scope) : ExprTree → LinePlan → Type 0 where
  cell : (x : Name) (c : ℕ) → Stands s x (meaning.IntCell c) → IsLine s (Named x) (line.Cell c)
  opposite : (e : ExprTree) (at : ℕ) (k : LinePlan)
      → IsLine s e k
      → IsLine s (Neg e at) (line.Neg k)
  line_plus : (l r : ExprTree) (at : ℕ) (k : LinePlan) (n : NumPlan)
      → IsLine s l k
      → IsNum s r n
      → IsLine s (Bin op.Add l r at) (line.Add k n)
  plus_line : (l r : ExprTree) (at : ℕ) (n : NumPlan) (k : LinePlan)
      → IsNum s l n
      → IsLine s r k
      → IsLine s (Bin op.Add l r at) (line.Add k n)
  line_minus : (l r : ExprTree) (at : ℕ) (k : LinePlan) (n : NumPlan)
      → IsLine s l k
      → IsNum s r n
      → IsLine s (Bin op.Sub l r at) (line.Add k (fixed.Neg n))
  minus_line : (l r : ExprTree) (at : ℕ) (n : NumPlan) (k : LinePlan)
      → IsNum s l n
      → IsLine s r k
      → IsLine s (Bin op.Sub l r at) (line.Add (line.Neg k) n)
  line_times : (l r : ExprTree) (at : ℕ) (k : LinePlan) (n : NumPlan)
      → IsLine s l k
      → IsNum s r n
      → IsLine s (Bin op.Mul l r at) (line.Scale n k)
  times_line : (l r : ExprTree) (at : ℕ) (n : NumPlan) (k : LinePlan)
      → IsNum s l n
      → IsLine s r k
      → IsLine s (Bin op.Mul l r at) (line.Scale n k)

-- A number or a line.
pub data IsTerm (s : Scope) : ExprTree → TermPlan → Type 0 where
  fixed_term : (e : ExprTree) (n : NumPlan) → IsNum s e n → IsTerm s e (line.OfNum n)
  line_term : (e : ExprTree) (k : LinePlan) → IsLine s e k → IsTerm s e (line.OfLine k)

-- A value of this kind that names no cell.
pub data IsValue (s : Scope) : KindPlan → ExprTree → FixedPlan → Type 0 where
  num_value : (e : ExprTree) (n : NumPlan) → IsNum s e n → IsValue s kind.Num e (fixed.OfNum n)
  word_value : (e : ExprTree) (w : WordOf) → IsWord s e w → IsValue s kind.Word e (fixed.OfWord w)
  label_value : (enum : ℕ) (e : ExprTree) (l : LabelOf)
      → IsLabel s enum e l
      → IsValue s (kind.Label enum) e (fixed.OfLabel l)

-- Values of these kinds, one of each, in order.
pub data AreValues (s : Scope) : List KindPlan → ExprsTree → List FixedPlan → Type 0 where
  no_values : AreValues s [] End []
  more_values : (k : KindPlan) (ks : List KindPlan) (e : ExprTree) (es : ExprsTree) (v : FixedPlan)
      (vs : List FixedPlan)
      → IsValue s k e v
      → AreValues s ks es vs
      → AreValues s (k ∷ ks) (More e es) (v ∷ vs)

pub data IsCondition (s : Scope) : ExprTree → CondPlan → Type 0 where
  compared : (o : BinOp) (c : Compare) (l r : ExprTree) (at : ℕ) (t : TermPlan) (n : NumPlan)
      → compare_of o ≡ Some c
      → IsTerm s l t
      → IsNum s r n
      → IsCondition s (Bin o l r at) (cond.Compared c t n)
  turned_round : (o : BinOp) (c : Compare) (l r : ExprTree) (at : ℕ) (n : NumPlan) (k : LinePlan)
      → compare_of o ≡ Some c
      → IsNum s l n
      → IsLine s r k
      → IsCondition s (Bin o l r at) (cond.Compared (turned c) (line.OfLine k) n)
  same_words : (l r : ExprTree) (at : ℕ) (v w : WordOf)
      → IsWord s l v
      → IsWord s r w
      → IsCondition s (Bin op.Eq l r at) (cond.Words v w)
  other_words : (l r : ExprTree) (at : ℕ) (v w : WordOf)
      → IsWord s l v
      → IsWord s r w
      → IsCondition s (Bin op.Ne l r at) (cond.Not (cond.Words v w))
  cell_is : (x : Name) (r : ExprTree) (at c enum : ℕ) (l : LabelOf)
      → Stands s x (meaning.EnumCell c enum)
      → IsLabel s enum r l
      → IsCondition s (Bin op.Is (Named x) r at) (cond.CellIs c l)
  label_is : (l r : ExprTree) (at enum : ℕ) (m n : LabelOf)
      → IsLabel s enum l m
      → IsLabel s enum r n
      → IsCondition s (Bin op.Is l r at) (cond.LabelIs m n)
  -- The first parameters are of the kinds of the cell's parts, the others of the arguments'.
  call : (x h : Name) (es : ExprsTree) (t c : ℕ) (ks js : List KindPlan) (vs : List FixedPlan)
      → Stands s x (meaning.Test t (ks ++ js))
      → Stands s h (meaning.HoldCell c ks)
      → AreValues s js es vs
      → IsCondition s (Call x (More (Named h) es)) (cond.Test t c vs)
  negation : (e : ExprTree) (at : ℕ) (c : CondPlan)
      → IsCondition s e c
      → IsCondition s (Not e at) (cond.Not c)
  both : (l r : ExprTree) (at : ℕ) (c d : CondPlan)
      → IsCondition s l c
      → IsCondition s r d
      → IsCondition s (Bin op.And l r at) (cond.And c d)
  either : (l r : ExprTree) (at : ℕ) (c d : CondPlan)
      → IsCondition s l c
      → IsCondition s r d
      → IsCondition s (Bin op.Or l r at) (cond.Or c d)

-- What an expression may stand for. The name of an enum cell or of a hold cell is no value by
-- itself: it has a place of its own in some rules.
pub data Typed : Type 0 where
  Number : TermPlan → Typed
  Word : WordOf → Typed
  Label : ℕ → LabelOf → Typed
  EnumCell : ℕ → ℕ → Typed
  HoldCell : ℕ → List KindPlan → Typed
  Truth : CondPlan → Typed

pub data Means (s : Scope) : ExprTree → Typed → Type 0 where
  number : (e : ExprTree) (t : TermPlan) → IsTerm s e t → Means s e (Number t)
  of_word : (e : ExprTree) (w : WordOf) → IsWord s e w → Means s e (Word w)
  of_label : (e : ExprTree) (enum : ℕ) (l : LabelOf)
      → IsLabel s enum e l
      → Means s e (Label enum l)
  enum_cell : (x : Name) (c enum : ℕ)
      → Stands s x (meaning.EnumCell c enum)
      → Means s (Named x) (EnumCell c enum)
  hold_cell : (x : Name) (c : ℕ) (ks : List KindPlan)
      → Stands s x (meaning.HoldCell c ks)
      → Means s (Named x) (HoldCell c ks)
  truth : (e : ExprTree) (c : CondPlan) → IsCondition s e c → Means s e (Truth c)

abbrev pub HasMeaning : Scope → ExprTree → Type 0
HasMeaning s e = (t : Typed) × Means s e t
