-- Where the function goes on: operands that are fine, and what an operator makes of fine operands.
use Rattle.std.proofs.Common.{◌≡◌, refl, ap, ℕ, Some, Ok}
use Rattle.sym_base.specs.declared.tree.compare.Compare.{Compare}
use Rattle.sym_base.specs.declared.tree.compare.Compare.TheVariants as compare
use Rattle.sym_base.specs.declared.tree.expression.BinOp.{BinOp}
use Rattle.sym_base.specs.declared.tree.expression.BinOp.TheVariants as op
use Rattle.sym_base.specs.Trees.{ExprTree, Bin}
use Rattle.sym_check.specs.declared.plan.expression.ArithOp.{ArithOp}
use Rattle.sym_check.specs.Plan.FixedPlans.{NumPlan}
use Rattle.sym_check.specs.Plan.FixedPlans as fixed
use Rattle.sym_check.specs.Plan.LinePlans.{LinePlan, TermPlan}
use Rattle.sym_check.specs.Plan.LinePlans as line
use Rattle.sym_check.specs.Plan.CondPlans.{CondPlan}
use Rattle.sym_check.specs.Plan.CondPlans as cond
use Rattle.sym_check.specs.Rules.Scopes.{Scope}
use Rattle.sym_check.specs.Rules.Typing.{arith_of, compare_of, turned, Typed, Number, Word, Label, EnumCell, HoldCell, Truth}
use Rattle.sym_check.specs.Breaks.Expressions.{place, IsOperand, IsLeft, IsFirst}
use Rattle.sym_check.specs.Elaborate.Expressions.{kind_at, no_cell, left_of, first_of, joined, infer}

-- What is an operand, and what isn't, is told apart by the function.
pub operand_passes : (at : ℕ) (t : Typed) → IsOperand t → no_cell at t ≡ Ok t
operand_passes at (Number t) h = refl
operand_passes at (Word w) h = refl
operand_passes at (Label enum l) h = refl
operand_passes at (EnumCell c enum) h = absurd h
operand_passes at (HoldCell c ks) h = absurd h
operand_passes at (Truth c) h = refl

pub no_operand : (at : ℕ) (t : Typed) → (IsOperand t → ⊥) → no_cell at t ≡ kind_at at
no_operand at (Number t) h = absurd (h tt)
no_operand at (Word w) h = absurd (h tt)
no_operand at (Label enum l) h = absurd (h tt)
no_operand at (EnumCell c enum) h = refl
no_operand at (HoldCell c ks) h = refl
no_operand at (Truth c) h = absurd (h tt)

pub first_passes : (at : ℕ) (t : Typed) → IsFirst t → first_of at t ≡ Ok t
first_passes at (Number t) h = refl
first_passes at (Word w) h = refl
first_passes at (Label enum l) h = refl
first_passes at (EnumCell c enum) h = absurd h
first_passes at (HoldCell c ks) h = refl
first_passes at (Truth c) h = refl

pub no_first : (at : ℕ) (t : Typed) → (IsFirst t → ⊥) → first_of at t ≡ kind_at at
no_first at (Number t) h = absurd (h tt)
no_first at (Word w) h = absurd (h tt)
no_first at (Label enum l) h = absurd (h tt)
no_first at (EnumCell c enum) h = refl
no_first at (HoldCell c ks) h = absurd (h tt)
no_first at (Truth c) h = absurd (h tt)

-- Only to the left of `is` an enum cell is fine.
other_left : (o : BinOp) (at : ℕ) (t : Typed) → (o ≡ op.Is → ⊥) → left_of o at t ≡ no_cell at t
other_left op.Is at t h = absurd (h refl)
other_left _ at t h = refl

pub left_passes : (o : BinOp) (at : ℕ) (t : Typed) → IsLeft o t → left_of o at t ≡ Ok t
left_passes op.Is at (EnumCell c enum) h = refl
left_passes op.Is at (Number t) h = refl
left_passes op.Is at (Word w) h = refl
left_passes op.Is at (Label enum l) h = refl
left_passes op.Is at (HoldCell c ks) h = absurd h
left_passes op.Is at (Truth c) h = refl
left_passes o at (Number t) h = refl
left_passes o at (Word w) h = refl
left_passes o at (Label enum l) h = refl
left_passes o at (EnumCell c enum) h = absurd (cc)
left_passes o at (HoldCell c ks) h = absurd h
left_passes o at (Truth c) h = refl

pub no_left : (o : BinOp) (at : ℕ) (t : Typed) → (IsLeft o t → ⊥) → left_of o at t ≡ kind_at at
no_left op.Is at (EnumCell c enum) h = absurd (h refl)
no_left op.Is at (Number t) h = absurd (h tt)
no_left op.Is at (Word w) h = absurd (h tt)
no_left op.Is at (Label enum l) h = absurd (h tt)
no_left op.Is at (HoldCell c ks) h = refl
no_left op.Is at (Truth c) h = absurd (h tt)
no_left o at (Number t) h = absurd (h tt)
no_left o at (Word w) h = absurd (h tt)
no_left o at (Label enum l) h = absurd (h tt)
no_left o at (EnumCell c enum) h = refl
no_left o at (HoldCell c ks) h = refl
no_left o at (Truth c) h = absurd (h tt)

-- The outcome with fine operands is the operator's.
pub bin_outcome : (s : Scope) (o : BinOp) (l r : ExprTree) (at : ℕ) (t u : Typed)
    → infer s l ≡ Ok t
    → IsLeft o t
    → infer s r ≡ Ok u
    → IsOperand u
    → infer s (Bin o l r at) ≡ joined o at t u
bin_outcome s o l r at t u p h q k = rw (p, left_passes o (place l) t h, q, operand_passes (place r) u k) refl

-- Arithmetic of fixed numbers.
pub joined_numbers : (o : BinOp) (a : ArithOp) (at : ℕ) (m n : NumPlan)
    → arith_of o ≡ Some a
    → joined o at (Number (line.OfNum m)) (Number (line.OfNum n)) ≡ Ok (Number (line.OfNum (fixed.Bin a m n)))
joined_numbers op.Or a at m n h = absurd (cc)
joined_numbers op.And a at m n h = absurd (cc)
joined_numbers op.Eq a at m n h = absurd (cc)
joined_numbers op.Ne a at m n h = absurd (cc)
joined_numbers op.Lt a at m n h = absurd (cc)
joined_numbers op.Le a at m n h = absurd (cc)
joined_numbers op.Gt a at m n h = absurd (cc)
joined_numbers op.Ge a at m n h = absurd (cc)
joined_numbers op.Is a at m n h = absurd (cc)
joined_numbers op.Add a at m n h = cc
joined_numbers op.Sub a at m n h = cc
joined_numbers op.Mul a at m n h = cc
joined_numbers op.Div a at m n h = cc
joined_numbers op.Rem a at m n h = cc

-- Comparisons with a fixed number on the right, or on the left of a line.
pub joined_compared : (o : BinOp) (c : Compare) (at : ℕ) (t : TermPlan) (n : NumPlan)
    → compare_of o ≡ Some c
    → joined o at (Number t) (Number (line.OfNum n)) ≡ Ok (Truth (cond.Compared c t n))
joined_compared op.Or c at t n h = absurd (cc)
joined_compared op.And c at t n h = absurd (cc)
joined_compared op.Eq c at (line.OfNum m) n h = cc
joined_compared op.Eq c at (line.OfLine k) n h = cc
joined_compared op.Ne c at (line.OfNum m) n h = cc
joined_compared op.Ne c at (line.OfLine k) n h = cc
joined_compared op.Lt c at (line.OfNum m) n h = cc
joined_compared op.Lt c at (line.OfLine k) n h = cc
joined_compared op.Le c at (line.OfNum m) n h = cc
joined_compared op.Le c at (line.OfLine k) n h = cc
joined_compared op.Gt c at (line.OfNum m) n h = cc
joined_compared op.Gt c at (line.OfLine k) n h = cc
joined_compared op.Ge c at (line.OfNum m) n h = cc
joined_compared op.Ge c at (line.OfLine k) n h = cc
joined_compared op.Is c at t n h = absurd (cc)
joined_compared op.Add c at t n h = absurd (cc)
joined_compared op.Sub c at t n h = absurd (cc)
joined_compared op.Mul c at t n h = absurd (cc)
joined_compared op.Div c at t n h = absurd (cc)
joined_compared op.Rem c at t n h = absurd (cc)

turned_by : (c d : Compare) (k : LinePlan) (n : NumPlan) → c ≡ d → Truth (cond.Compared (turned c) (line.OfLine k) n) ≡ Truth (cond.Compared (turned d) (line.OfLine k) n)
turned_by c d k n e = ap (λ (x : Compare). Truth (cond.Compared (turned x) (line.OfLine k) n)) e

pub joined_turned : (o : BinOp) (c : Compare) (at : ℕ) (n : NumPlan) (k : LinePlan)
    → compare_of o ≡ Some c
    → joined o at (Number (line.OfNum n)) (Number (line.OfLine k)) ≡ Ok (Truth (cond.Compared (turned c) (line.OfLine k) n))
joined_turned op.Or c at n k h = absurd (cc)
joined_turned op.And c at n k h = absurd (cc)
joined_turned op.Eq c at n k h = let same : compare.Eq ≡ c = cc in rw (← same) refl
joined_turned op.Ne c at n k h = let same : compare.Ne ≡ c = cc in rw (← same) refl
joined_turned op.Lt c at n k h = let same : compare.Lt ≡ c = cc in rw (← same) refl
joined_turned op.Le c at n k h = let same : compare.Le ≡ c = cc in rw (← same) refl
joined_turned op.Gt c at n k h = let same : compare.Gt ≡ c = cc in rw (← same) refl
joined_turned op.Ge c at n k h = let same : compare.Ge ≡ c = cc in rw (← same) refl
joined_turned op.Is c at n k h = absurd (cc)
joined_turned op.Add c at n k h = absurd (cc)
joined_turned op.Sub c at n k h = absurd (cc)
joined_turned op.Mul c at n k h = absurd (cc)
joined_turned op.Div c at n k h = absurd (cc)
joined_turned op.Rem c at n k h = absurd (cc)
