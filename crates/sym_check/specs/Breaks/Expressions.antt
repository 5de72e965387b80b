-- The first broken rule in an expression, with its place: what stands before has its meaning, and
-- this has none.
use Rattle.std.specs.Prelude.{◌≡◌, ◌≢◌, ℕ, ◌+◌, ◌-◌, List, [], ◌∷◌, ◌++◌, length, take, IsSome, ◌⊎◌}
use Rattle.sym_base.specs.declared.tree.name.Name.{Name}
use Rattle.sym_base.specs.declared.tree.expression.BinOp.{BinOp}
use Rattle.sym_base.specs.declared.tree.expression.BinOp.TheVariants as op
use Rattle.sym_base.specs.Trees.{ExprTree, Num, Words, Named, Call, Neg, Not, Bin, ExprsTree, End, More}
use Rattle.sym_check.specs.declared.plan.script.KindPlan.{KindPlan}
use Rattle.sym_check.specs.Plan.FixedPlans.{FixedPlan}
use Rattle.sym_check.specs.Plan.LinePlans.{TermPlan}
use Rattle.sym_check.specs.declared.elaborate.error.CheckErr.{CheckErr}
use Rattle.sym_check.specs.declared.elaborate.error.CheckErr.TheVariants as broken
use Rattle.sym_check.specs.declared.elaborate.scope.Meaning.{Meaning}
use Rattle.sym_check.specs.Rules.Scopes.{Scope, Stands, IsFree}
use Rattle.sym_check.specs.declared.elaborate.scope.Meaning.TheVariants as meaning
use Rattle.sym_check.specs.Rules.Typing.{arith_of, compare_of, Typed, Number, Word, Label, EnumCell, HoldCell, Truth, Means, HasMeaning, IsTerm, IsValue}

-- The place of an expression: that of a leaf, of an operator, or of a call's name.
abbrev pub place : ExprTree → ℕ
place (Num n at) = at
place (Words t at) = at
place (Named x) = x.at
place (Call x es) = x.at
place (Neg e at) = at
place (Not e at) = at
place (Bin o l r at) = at

-- An operand is no name of a cell that has no number.
abbrev pub IsOperand : Typed → Type 0
IsOperand (Number t) = Unit {0}
IsOperand (Word w) = Unit {0}
IsOperand (Label enum l) = Unit {0}
IsOperand (EnumCell c enum) = ⊥
IsOperand (HoldCell c ks) = ⊥
IsOperand (Truth c) = Unit {0}

-- To the left of `is` may stand an enum cell.
abbrev pub IsLeft : BinOp → Typed → Type 0
IsLeft o (Number t) = Unit {0}
IsLeft o (Word w) = Unit {0}
IsLeft o (Label enum l) = Unit {0}
IsLeft o (EnumCell c enum) = o ≡ op.Is
IsLeft o (HoldCell c ks) = ⊥
IsLeft o (Truth c) = Unit {0}

-- The first argument of a call is a hold cell, or no cell without a number.
abbrev pub IsFirst : Typed → Type 0
IsFirst (Number t) = Unit {0}
IsFirst (Word w) = Unit {0}
IsFirst (Label enum l) = Unit {0}
IsFirst (EnumCell c enum) = ⊥
IsFirst (HoldCell c ks) = Unit {0}
IsFirst (Truth c) = Unit {0}

-- Arithmetic, or a comparison, with numbers on both sides.
pub record TakesNumbers (s : Scope) (o : BinOp) (l r : ExprTree) : Type 0 where
  pub operator : IsSome (arith_of o) ⊎ IsSome (compare_of o)
  pub left : TermPlan
  pub is_left : IsTerm s l left
  pub right : TermPlan
  pub is_right : IsTerm s r right

-- Expressions that are operands, all of them.
pub data AreOperands (s : Scope) : ExprsTree → ℕ → Type 0 where
  none : AreOperands s End 0
  more : (e : ExprTree) (es : ExprsTree) (t : Typed) (n : ℕ)
      → Means s e t
      → IsOperand t
      → AreOperands s es n
      → AreOperands s (More e es) (1 + n)

-- The first value that isn't of its kind, where each is an operand.
pub data WrongValue (s : Scope) : List KindPlan → ExprsTree → ℕ → Type 0 where
  here : (k : KindPlan) (ks : List KindPlan) (e : ExprTree) (es : ExprsTree)
      → ((v : FixedPlan) → IsValue s k e v → ⊥)
      → WrongValue s (k ∷ ks) (More e es) (place e)
  later : (k : KindPlan) (ks : List KindPlan) (e : ExprTree) (es : ExprsTree) (v : FixedPlan)
      (at : ℕ)
      → IsValue s k e v
      → WrongValue s ks es at
      → WrongValue s (k ∷ ks) (More e es) at

-- What is wrong with a call whose name and n further arguments are right by themselves. They are
-- as many as the parameters after those of the cell's parts.
pub data WrongCall (s : Scope) (x : Name) (params : List KindPlan) (n : ℕ)
    : ExprTree → ExprsTree → ℕ → Type 0 where
  no_hold_cell : (e : ExprTree) (es : ExprsTree) (t : Typed)
      → Means s e t
      → IsOperand t
      → WrongCall s x params n e es (place e)
  wrong_number : (e : ExprTree) (es : ExprsTree) (c : ℕ) (ks : List KindPlan)
      → Means s e (HoldCell c ks)
      → n ≢ length params - length ks
      → WrongCall s x params n e es x.at
  wrong_cell : (e : ExprTree) (es : ExprsTree) (c : ℕ) (ks : List KindPlan)
      → Means s e (HoldCell c ks)
      → n ≡ length params - length ks
      → ks ≢ take (length ks) params
      → WrongCall s x params n e es (place e)
  wrong_argument : (e : ExprTree) (es : ExprsTree) (c : ℕ) (ks js : List KindPlan) (at : ℕ)
      → Means s e (HoldCell c ks)
      → params ≡ ks ++ js
      → length js ≡ n
      → WrongValue s js es at
      → WrongCall s x params n e es at

mutual
  pub data Breaks (s : Scope) : ExprTree → CheckErr → Type 0 where
    unknown : (x : Name) → IsFree s x → Breaks s (Named x) (broken.Name x.at)
    no_value : (x : Name) (m : Meaning)
        → Stands s x m
        → (HasMeaning s (Named x) → ⊥)
        → Breaks s (Named x) (broken.Kind x.at)
    in_negated : (e : ExprTree) (at : ℕ) (f : CheckErr) → Breaks s e f → Breaks s (Neg e at) f
    negated_cell : (e : ExprTree) (at : ℕ) (t : Typed)
        → Means s e t
        → (IsOperand t → ⊥)
        → Breaks s (Neg e at) (broken.Kind (place e))
    not_negated : (e : ExprTree) (at : ℕ) (t : Typed)
        → Means s e t
        → IsOperand t
        → (HasMeaning s (Neg e at) → ⊥)
        → Breaks s (Neg e at) (broken.Kind at)
    in_not : (e : ExprTree) (at : ℕ) (f : CheckErr) → Breaks s e f → Breaks s (Not e at) f
    not_cell : (e : ExprTree) (at : ℕ) (t : Typed)
        → Means s e t
        → (IsOperand t → ⊥)
        → Breaks s (Not e at) (broken.Kind (place e))
    no_condition : (e : ExprTree) (at : ℕ) (t : Typed)
        → Means s e t
        → IsOperand t
        → (HasMeaning s (Not e at) → ⊥)
        → Breaks s (Not e at) (broken.Kind at)
    in_left : (o : BinOp) (l r : ExprTree) (at : ℕ) (f : CheckErr)
        → Breaks s l f
        → Breaks s (Bin o l r at) f
    left_cell : (o : BinOp) (l r : ExprTree) (at : ℕ) (t : Typed)
        → Means s l t
        → (IsLeft o t → ⊥)
        → Breaks s (Bin o l r at) (broken.Kind (place l))
    in_right : (o : BinOp) (l r : ExprTree) (at : ℕ) (t : Typed) (f : CheckErr)
        → Means s l t
        → IsLeft o t
        → Breaks s r f
        → Breaks s (Bin o l r at) f
    right_cell : (o : BinOp) (l r : ExprTree) (at : ℕ) (t u : Typed)
        → Means s l t
        → IsLeft o t
        → Means s r u
        → (IsOperand u → ⊥)
        → Breaks s (Bin o l r at) (broken.Kind (place r))
    not_linear : (o : BinOp) (l r : ExprTree) (at : ℕ)
        → TakesNumbers s o l r
        → (HasMeaning s (Bin o l r at) → ⊥)
        → Breaks s (Bin o l r at) (broken.NotLinear at)
    wrong_kinds : (o : BinOp) (l r : ExprTree) (at : ℕ) (t u : Typed)
        → Means s l t
        → IsLeft o t
        → Means s r u
        → IsOperand u
        → (TakesNumbers s o l r → ⊥)
        → (HasMeaning s (Bin o l r at) → ⊥)
        → Breaks s (Bin o l r at) (broken.Kind at)
    unknown_call : (x : Name) (es : ExprsTree)
        → IsFree s x
        → Breaks s (Call x es) (broken.Name x.at)
    no_test : (x : Name) (es : ExprsTree) (m : Meaning)
        → Stands s x m
        → ((t : ℕ) (params : List KindPlan) → m ≡ meaning.Test t params → ⊥)
        → Breaks s (Call x es) (broken.Kind x.at)
    no_arguments : (x : Name) (t : ℕ) (params : List KindPlan)
        → Stands s x (meaning.Test t params)
        → Breaks s (Call x End) (broken.Kind x.at)
    in_first : (x : Name) (e : ExprTree) (es : ExprsTree) (t : ℕ) (params : List KindPlan)
        (f : CheckErr)
        → Stands s x (meaning.Test t params)
        → Breaks s e f
        → Breaks s (Call x (More e es)) f
    first_cell : (x : Name) (e : ExprTree) (es : ExprsTree) (t : ℕ) (params : List KindPlan)
        (u : Typed)
        → Stands s x (meaning.Test t params)
        → Means s e u
        → (IsFirst u → ⊥)
        → Breaks s (Call x (More e es)) (broken.Kind (place e))
    in_others : (x : Name) (e : ExprTree) (es : ExprsTree) (t : ℕ) (params : List KindPlan)
        (u : Typed) (f : CheckErr)
        → Stands s x (meaning.Test t params)
        → Means s e u
        → IsFirst u
        → BreaksOperands s es f
        → Breaks s (Call x (More e es)) f
    wrong_call : (x : Name) (e : ExprTree) (es : ExprsTree) (t n at : ℕ) (params : List KindPlan)
        → Stands s x (meaning.Test t params)
        → AreOperands s es n
        → WrongCall s x params n e es at
        → Breaks s (Call x (More e es)) (broken.Kind at)

  -- The first broken rule inside operands, one after the other.
  pub data BreaksOperands (s : Scope) : ExprsTree → CheckErr → Type 0 where
    in_operand : (e : ExprTree) (es : ExprsTree) (f : CheckErr)
        → Breaks s e f
        → BreaksOperands s (More e es) f
    operand_cell : (e : ExprTree) (es : ExprsTree) (t : Typed)
        → Means s e t
        → (IsOperand t → ⊥)
        → BreaksOperands s (More e es) (broken.Kind (place e))
    in_rest : (e : ExprTree) (es : ExprsTree) (t : Typed) (f : CheckErr)
        → Means s e t
        → IsOperand t
        → BreaksOperands s es f
        → BreaksOperands s (More e es) f
