-- The plan of an expression, or the first broken rule in it, by trying the rules in order.
use Rattle.std.specs.Prelude.{ℕ, ◌-◌, ◌==◌, ◌&&◌, Bool, if◌then◌else◌, List, [], ◌∷◌, length, take, drop, Option, Some, None, Result, Ok, Err}
use Rattle.std.specs.Cmp.Lexicographic.{pointwise}
use Rattle.sym_base.specs.declared.tree.compare.Compare.{Compare}
use Rattle.sym_base.specs.declared.tree.compare.Compare.TheVariants as compare
use Rattle.sym_base.specs.declared.tree.expression.BinOp.{BinOp}
use Rattle.sym_base.specs.declared.tree.expression.BinOp.TheVariants as op
use Rattle.sym_base.specs.Trees.{ExprTree, Num, Words, Named, Call, Neg, Not, Bin, ExprsTree, End, More}
use Rattle.sym_check.specs.declared.plan.expression.ArithOp.{ArithOp}
use Rattle.sym_check.specs.declared.plan.expression.ArithOp.TheVariants as arith
use Rattle.sym_check.specs.declared.plan.expression.WordOf.TheVariants as word
use Rattle.sym_check.specs.declared.plan.expression.LabelOf.TheVariants as label
use Rattle.sym_check.specs.declared.plan.script.KindPlan.{KindPlan}
use Rattle.sym_check.specs.declared.plan.script.KindPlan.TheVariants as kind
use Rattle.sym_check.specs.contracts.plan.script.KindPlanPartialEq.TheImpl as kinds
use Rattle.sym_check.specs.Meaning.Arithmetic.{◌>>=◌, and_then}
use Rattle.sym_check.specs.Plan.FixedPlans.{FixedPlan}
use Rattle.sym_check.specs.Plan.FixedPlans as fixed
use Rattle.sym_check.specs.Plan.LinePlans.{TermPlan}
use Rattle.sym_check.specs.Plan.LinePlans as line
use Rattle.sym_check.specs.Plan.CondPlans.{CondPlan}
use Rattle.sym_check.specs.Plan.CondPlans as cond
use Rattle.sym_check.specs.declared.elaborate.error.CheckErr.{CheckErr}
use Rattle.sym_check.specs.declared.elaborate.error.CheckErr.TheVariants as broken
use Rattle.sym_check.specs.declared.elaborate.scope.Variable.{Variable}
use Rattle.sym_check.specs.declared.elaborate.scope.Meaning.{Meaning}
use Rattle.sym_check.specs.Rules.Scopes.{Scope, find}
use Rattle.sym_check.specs.declared.elaborate.scope.Meaning.TheVariants as meaning
use Rattle.sym_check.specs.Rules.Typing.{num_variable, word_variable, label_variable, turned, Typed, Number, Word, Label, EnumCell, HoldCell, Truth}
use Rattle.sym_check.specs.Breaks.Expressions.{place}

abbrev pub kind_at : {A : Type 0} → ℕ → Result A CheckErr
kind_at at = Err (broken.Kind at)

abbrev pub same_kind : KindPlan → KindPlan → Bool
same_kind k other = (kinds.ghosts).eq k other

-- Cells that have no number are refused where a value is wanted.
abbrev pub no_cell : ℕ → Typed → Result Typed CheckErr
no_cell at (Number t) = Ok (Number t)
no_cell at (Word w) = Ok (Word w)
no_cell at (Label enum l) = Ok (Label enum l)
no_cell at (EnumCell c enum) = kind_at at
no_cell at (HoldCell c ks) = kind_at at
no_cell at (Truth c) = Ok (Truth c)

-- But an enum cell to the left of `is`,
abbrev pub left_of : BinOp → ℕ → Typed → Result Typed CheckErr
left_of op.Is at (EnumCell c enum) = Ok (EnumCell c enum)
left_of o at t = no_cell at t

-- and a hold cell as the first argument of a call.
abbrev pub first_of : ℕ → Typed → Result Typed CheckErr
first_of at (Number t) = Ok (Number t)
first_of at (Word w) = Ok (Word w)
first_of at (Label enum l) = Ok (Label enum l)
first_of at (EnumCell c enum) = kind_at at
first_of at (HoldCell c ks) = Ok (HoldCell c ks)
first_of at (Truth c) = Ok (Truth c)

abbrev pub variable : KindPlan → Variable → Typed
variable kind.Num v = Number (line.OfNum (num_variable v))
variable kind.Word v = Word (word_variable v)
variable (kind.Label enum) v = Label enum (label_variable v)

-- What a name stands for in an expression.
abbrev pub named : ℕ → Option Meaning → Result Typed CheckErr
named at None = Err (broken.Name at)
named at (Some meaning.Unfinished) = kind_at at
named at (Some (meaning.Enum enum)) = kind_at at
named at (Some (meaning.Label enum l)) = Ok (Label enum (label.Lit l))
named at (Some (meaning.Value k v)) = Ok (variable k v)
named at (Some (meaning.IntCell c)) = Ok (Number (line.OfLine (line.Cell c)))
named at (Some (meaning.EnumCell c enum)) = Ok (EnumCell c enum)
named at (Some (meaning.HoldCell c ks)) = Ok (HoldCell c ks)
named at (Some (meaning.NumsCell c)) = kind_at at
named at (Some (meaning.WordsCell c)) = kind_at at
named at (Some (meaning.Test t ks)) = kind_at at

pub record TestNamed : Type 0 where
  pub test : ℕ
  pub params : List KindPlan

-- The test that a call names.
abbrev pub test_named : ℕ → Option Meaning → Result TestNamed CheckErr
test_named at None = Err (broken.Name at)
test_named at (Some meaning.Unfinished) = kind_at at
test_named at (Some (meaning.Enum enum)) = kind_at at
test_named at (Some (meaning.Label enum l)) = kind_at at
test_named at (Some (meaning.Value k v)) = kind_at at
test_named at (Some (meaning.IntCell c)) = kind_at at
test_named at (Some (meaning.EnumCell c enum)) = kind_at at
test_named at (Some (meaning.HoldCell c ks)) = kind_at at
test_named at (Some (meaning.NumsCell c)) = kind_at at
test_named at (Some (meaning.WordsCell c)) = kind_at at
test_named at (Some (meaning.Test t ks)) = Ok (record { test = t; params = ks })

abbrev pub opposite : TermPlan → TermPlan
opposite (line.OfNum n) = line.OfNum (fixed.Neg n)
opposite (line.OfLine k) = line.OfLine (line.Neg k)

abbrev pub negated : ℕ → Typed → Result Typed CheckErr
negated at (Number t) = Ok (Number (opposite t))
negated at (Word w) = kind_at at
negated at (Label enum l) = kind_at at
negated at (EnumCell c enum) = kind_at at
negated at (HoldCell c ks) = kind_at at
negated at (Truth c) = kind_at at

abbrev pub condition : ℕ → Typed → Result CondPlan CheckErr
condition at (Truth c) = Ok c
condition at (Number t) = kind_at at
condition at (Word w) = kind_at at
condition at (Label enum l) = kind_at at
condition at (EnumCell c enum) = kind_at at
condition at (HoldCell c ks) = kind_at at

abbrev pub inverted : ℕ → Typed → Result Typed CheckErr
inverted at t = do
  c ← condition at t
  Ok (Truth (cond.Not c))

abbrev pub both : (CondPlan → CondPlan → CondPlan) → ℕ → Typed → Typed → Result Typed CheckErr
both make at t u = do
  c ← condition at t
  d ← condition at u
  Ok (Truth (make c d))

-- A sum, a difference or a product; a line takes a fixed number beside it.
abbrev pub added : ℕ → TermPlan → TermPlan → Result TermPlan CheckErr
added at (line.OfNum m) (line.OfNum n) = Ok (line.OfNum (fixed.Bin arith.Add m n))
added at (line.OfNum n) (line.OfLine k) = Ok (line.OfLine (line.Add k n))
added at (line.OfLine k) (line.OfNum n) = Ok (line.OfLine (line.Add k n))
added at (line.OfLine k) (line.OfLine m) = Err (broken.NotLinear at)

abbrev pub subtracted : ℕ → TermPlan → TermPlan → Result TermPlan CheckErr
subtracted at (line.OfNum m) (line.OfNum n) = Ok (line.OfNum (fixed.Bin arith.Sub m n))
subtracted at (line.OfNum n) (line.OfLine k) = Ok (line.OfLine (line.Add (line.Neg k) n))
subtracted at (line.OfLine k) (line.OfNum n) = Ok (line.OfLine (line.Add k (fixed.Neg n)))
subtracted at (line.OfLine k) (line.OfLine m) = Err (broken.NotLinear at)

abbrev pub multiplied : ℕ → TermPlan → TermPlan → Result TermPlan CheckErr
multiplied at (line.OfNum m) (line.OfNum n) = Ok (line.OfNum (fixed.Bin arith.Mul m n))
multiplied at (line.OfNum n) (line.OfLine k) = Ok (line.OfLine (line.Scale n k))
multiplied at (line.OfLine k) (line.OfNum n) = Ok (line.OfLine (line.Scale n k))
multiplied at (line.OfLine k) (line.OfLine m) = Err (broken.NotLinear at)

-- Quotients and remainders are of fixed numbers alone.
abbrev pub quotient_of : ArithOp → ℕ → TermPlan → TermPlan → Result TermPlan CheckErr
quotient_of a at (line.OfNum m) (line.OfNum n) = Ok (line.OfNum (fixed.Bin a m n))
quotient_of a at (line.OfNum n) (line.OfLine k) = Err (broken.NotLinear at)
quotient_of a at (line.OfLine k) (line.OfNum n) = Err (broken.NotLinear at)
quotient_of a at (line.OfLine k) (line.OfLine m) = Err (broken.NotLinear at)

-- A line stands to the left of its comparison in the plan.
abbrev pub compared : Compare → ℕ → TermPlan → TermPlan → Result CondPlan CheckErr
compared c at (line.OfNum m) (line.OfNum n) = Ok (cond.Compared c (line.OfNum m) n)
compared c at (line.OfNum n) (line.OfLine k) = Ok (cond.Compared (turned c) (line.OfLine k) n)
compared c at (line.OfLine k) (line.OfNum n) = Ok (cond.Compared c (line.OfLine k) n)
compared c at (line.OfLine k) (line.OfLine m) = Err (broken.NotLinear at)

abbrev pub term_of : ℕ → Typed → Result TermPlan CheckErr
term_of at (Number t) = Ok t
term_of at (Word w) = kind_at at
term_of at (Label enum l) = kind_at at
term_of at (EnumCell c enum) = kind_at at
term_of at (HoldCell c ks) = kind_at at
term_of at (Truth c) = kind_at at

abbrev pub arithmetic : (ℕ → TermPlan → TermPlan → Result TermPlan CheckErr) → ℕ → Typed → Typed
    → Result Typed CheckErr
arithmetic rule at t u = do
  x ← term_of at t
  y ← term_of at u
  z ← rule at x y
  Ok (Number z)

abbrev pub ordered : Compare → ℕ → Typed → Typed → Result Typed CheckErr
ordered c at t u = do
  x ← term_of at t
  y ← term_of at u
  z ← compared c at x y
  Ok (Truth z)

-- Two words, or two numbers.
abbrev pub equal : ℕ → Typed → Typed → Result Typed CheckErr
equal at (Word v) (Word w) = Ok (Truth (cond.Words v w))
equal at t u = ordered compare.Eq at t u

abbrev pub different : ℕ → Typed → Typed → Result Typed CheckErr
different at (Word v) (Word w) = Ok (Truth (cond.Not (cond.Words v w)))
different at t u = ordered compare.Ne at t u

-- Labels of one enum, the left one maybe that of a cell.
abbrev pub labels_joined : ℕ → Typed → Typed → Result Typed CheckErr
labels_joined at (Label enum l) (Label other m) =
    if enum == other then Ok (Truth (cond.LabelIs l m)) else kind_at at
labels_joined at (EnumCell c enum) (Label other l) =
    if enum == other then Ok (Truth (cond.CellIs c l)) else kind_at at
labels_joined at t u = kind_at at

-- What the operator makes of its operands.
abbrev pub joined : BinOp → ℕ → Typed → Typed → Result Typed CheckErr
joined op.Or at t u = both cond.Or at t u
joined op.And at t u = both cond.And at t u
joined op.Eq at t u = equal at t u
joined op.Ne at t u = different at t u
joined op.Lt at t u = ordered compare.Lt at t u
joined op.Le at t u = ordered compare.Le at t u
joined op.Gt at t u = ordered compare.Gt at t u
joined op.Ge at t u = ordered compare.Ge at t u
joined op.Is at t u = labels_joined at t u
joined op.Add at t u = arithmetic added at t u
joined op.Sub at t u = arithmetic subtracted at t u
joined op.Mul at t u = arithmetic multiplied at t u
joined op.Div at t u = arithmetic (quotient_of arith.Div) at t u
joined op.Rem at t u = arithmetic (quotient_of arith.Rem) at t u

-- What an expression stands for, with its place.
pub record Located : Type 0 where
  pub at : ℕ
  pub typed : Typed

-- The value, where it is of the kind and names no cell.
abbrev pub value_of : KindPlan → Located → Result FixedPlan CheckErr
value_of wanted a = of_kind wanted a.typed
  where
    of_kind : KindPlan → Typed → Result FixedPlan CheckErr
    of_kind kind.Num (Number (line.OfNum n)) = Ok (fixed.OfNum n)
    of_kind kind.Word (Word w) = Ok (fixed.OfWord w)
    of_kind (kind.Label enum) (Label other l) =
        if enum == other then Ok (fixed.OfLabel l) else kind_at a.at
    of_kind kind.Num (Number (line.OfLine k)) = kind_at a.at
    of_kind kind.Num (Word w) = kind_at a.at
    of_kind kind.Num (Label enum l) = kind_at a.at
    of_kind kind.Num (EnumCell c enum) = kind_at a.at
    of_kind kind.Num (HoldCell c ks) = kind_at a.at
    of_kind kind.Num (Truth c) = kind_at a.at
    of_kind kind.Word (Number t) = kind_at a.at
    of_kind kind.Word (Label enum l) = kind_at a.at
    of_kind kind.Word (EnumCell c enum) = kind_at a.at
    of_kind kind.Word (HoldCell c ks) = kind_at a.at
    of_kind kind.Word (Truth c) = kind_at a.at
    of_kind (kind.Label enum) (Number t) = kind_at a.at
    of_kind (kind.Label enum) (Word w) = kind_at a.at
    of_kind (kind.Label enum) (EnumCell c other) = kind_at a.at
    of_kind (kind.Label enum) (HoldCell c ks) = kind_at a.at
    of_kind (kind.Label enum) (Truth c) = kind_at a.at

-- As many values as kinds.
abbrev pub values_of : List KindPlan → List Located → Result (List FixedPlan) CheckErr
values_of [] located = Ok []
values_of (k ∷ ks) [] = Ok []
values_of (k ∷ ks) (a ∷ rest) = do
  v ← value_of k a
  vs ← values_of ks rest
  Ok (v ∷ vs)

pub record Arguments : Type 0 where
  pub first : Located
  pub others : List Located

-- A call whose arguments are right by themselves: their number first, then the cell, then the
-- others.
abbrev pub called_on : ℕ → TestNamed → Arguments → Typed → Result Typed CheckErr
called_on at test args (HoldCell c ks) =
    if length args.others == length test.params - length ks
    then (if pointwise same_kind ks (take (length ks) test.params)
    then (do
      vs ← values_of (drop (length ks) test.params) args.others
      Ok (Truth (cond.Test test.test c vs)))
    else kind_at args.first.at)
    else kind_at at
called_on at test args (Number t) = kind_at args.first.at
called_on at test args (Word w) = kind_at args.first.at
called_on at test args (Label enum l) = kind_at args.first.at
called_on at test args (EnumCell c enum) = kind_at args.first.at
called_on at test args (Truth c) = kind_at args.first.at

abbrev mutual
  pub infer : Scope → ExprTree → Result Typed CheckErr
  infer s (Num n at) = Ok (Number (line.OfNum (fixed.Lit n)))
  infer s (Words t at) = Ok (Word (word.Lit t))
  infer s (Named x) = named x.at (find s x.text)
  infer s (Call x es) = do
    test ← test_named x.at (find s x.text)
    args ← arguments s x.at es
    called_on x.at test args args.first.typed
  infer s (Neg e at) = do
    t ← infer s e
    u ← no_cell (place e) t
    negated at u
  infer s (Not e at) = do
    t ← infer s e
    u ← no_cell (place e) t
    inverted at u
  infer s (Bin o l r at) = do
    t ← infer s l
    u ← left_of o (place l) t
    v ← infer s r
    w ← no_cell (place r) v
    joined o at u w

  -- The arguments of a call; there is at least one.
  pub arguments : Scope → ℕ → ExprsTree → Result Arguments CheckErr
  arguments s at End = kind_at at
  arguments s at (More e es) = do
    t ← infer s e
    u ← first_of (place e) t
    others ← operands s es
    Ok (record { first = record { at = place e; typed = u }; others = others })

  -- Operands, one after the other.
  pub operands : Scope → ExprsTree → Result (List Located) CheckErr
  operands s End = Ok []
  operands s (More e es) = do
    t ← infer s e
    u ← no_cell (place e) t
    rest ← operands s es
    Ok (record { at = place e; typed = u } ∷ rest)
