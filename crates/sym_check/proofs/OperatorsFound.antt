-- What an operator makes of its operands, in the words of the rules.
use Rattle.std.proofs.Common.{◌≡◌, refl, sym, subst, ℕ, Bool, true, false, ◌⊎◌, inl, inr, Some, Result, Ok, Err}
use Rattle.std.specs.Prelude.{◌==◌, if◌then◌else◌, IsSome}
use Rattle.sym_base.specs.declared.tree.compare.Compare.{Compare}
use Rattle.sym_base.specs.declared.tree.compare.Compare.TheVariants as compare
use Rattle.sym_base.specs.declared.tree.expression.BinOp.{BinOp}
use Rattle.sym_base.specs.declared.tree.expression.BinOp.TheVariants as op
use Rattle.sym_base.specs.Trees.{ExprTree, Bin}
use Rattle.sym_check.specs.declared.plan.expression.ArithOp.{ArithOp}
use Rattle.sym_check.specs.declared.plan.expression.ArithOp.TheVariants as arith_op
use Rattle.sym_check.specs.declared.plan.expression.WordOf.{WordOf}
use Rattle.sym_check.specs.declared.plan.expression.LabelOf.{LabelOf}
use Rattle.sym_check.specs.Meaning.Arithmetic.{and_then}
use Rattle.sym_check.specs.Plan.FixedPlans.{NumPlan}
use Rattle.sym_check.specs.Plan.FixedPlans as fixed
use Rattle.sym_check.specs.Plan.LinePlans.{LinePlan, TermPlan}
use Rattle.sym_check.specs.Plan.LinePlans as line
use Rattle.sym_check.specs.Plan.CondPlans.{CondPlan}
use Rattle.sym_check.specs.Plan.CondPlans as cond
use Rattle.sym_check.specs.declared.elaborate.error.CheckErr.{CheckErr}
use Rattle.sym_check.specs.declared.elaborate.error.CheckErr.TheVariants as broken
use Rattle.sym_check.specs.Rules.Scopes.{Scope}
use Rattle.sym_check.specs.Rules.Typing.{arith_of, compare_of, turned, Typed, Number, Word, Label, EnumCell, HoldCell, Truth, IsNum, IsWord, IsLabel, IsLine, IsTerm, IsCondition, Means}
use Rattle.sym_check.specs.Rules.Typing as typing
use Rattle.sym_check.specs.Breaks.Expressions.{TakesNumbers}
use Rattle.sym_check.specs.Elaborate.Expressions.{kind_at, condition, term_of, added, subtracted, multiplied, quotient_of, compared, arithmetic, ordered, equal, different, labels_joined, both, joined}
use Rattle.sym_check.proofs.SameKinds.{numbers_are_same}
use Rattle.sym_check.proofs.ExpressionsComplete.{one_meaning}

-- The meanings tell the rules that gave them.
pub is_num : (s : Scope) (e : ExprTree) (n : NumPlan) → Means s e (Number (line.OfNum n)) → IsNum s e n
is_num s e n (typing.number _ _ (typing.fixed_term _ _ h)) = h

pub is_line : (s : Scope) (e : ExprTree) (k : LinePlan) → Means s e (Number (line.OfLine k)) → IsLine s e k
is_line s e k (typing.number _ _ (typing.line_term _ _ h)) = h

pub is_term : (s : Scope) (e : ExprTree) (t : TermPlan) → Means s e (Number t) → IsTerm s e t
is_term s e t (typing.number _ _ h) = h

pub is_word : (s : Scope) (e : ExprTree) (w : WordOf) → Means s e (Word w) → IsWord s e w
is_word s e w (typing.of_word _ _ h) = h

pub is_label : (s : Scope) (e : ExprTree) (enum : ℕ) (l : LabelOf) → Means s e (Label enum l) → IsLabel s enum e l
is_label s e enum l (typing.of_label _ _ _ h) = h

pub is_condition : (s : Scope) (e : ExprTree) (c : CondPlan) → Means s e (Truth c) → IsCondition s e c
is_condition s e c (typing.truth _ _ h) = h

-- The whole has a meaning, or the operator takes two numbers and has them, or it has wrong kinds.
pub data Joins (s : Scope) (o : BinOp) (l r : ExprTree) (at : ℕ) : Result Typed CheckErr → Type 0 where
  has_meaning : (v : Typed) → Means s (Bin o l r at) v → Joins s o l r at (Ok v)
  no_line : TakesNumbers s o l r → Joins s o l r at (Err (broken.NotLinear at))
  no_kinds : (TakesNumbers s o l r → ⊥) → Joins s o l r at (Err (broken.Kind at))

fixed_joins : (s : Scope) (o : BinOp) (l r : ExprTree) (at : ℕ) (n : NumPlan) → IsNum s (Bin o l r at) n → Joins s o l r at (Ok (Number (line.OfNum n)))
fixed_joins s o l r at n h = has_meaning (Number (line.OfNum n)) (typing.number _ _ (typing.fixed_term _ n h))

line_joins : (s : Scope) (o : BinOp) (l r : ExprTree) (at : ℕ) (k : LinePlan) → IsLine s (Bin o l r at) k → Joins s o l r at (Ok (Number (line.OfLine k)))
line_joins s o l r at k h = has_meaning (Number (line.OfLine k)) (typing.number _ _ (typing.line_term _ k h))

truth_joins : (s : Scope) (o : BinOp) (l r : ExprTree) (at : ℕ) (c : CondPlan) → IsCondition s (Bin o l r at) c → Joins s o l r at (Ok (Truth c))
truth_joins s o l r at c h = has_meaning (Truth c) (typing.truth _ c h)

two_numbers : (s : Scope) (o : BinOp) (l r : ExprTree) (at : ℕ) (x y : TermPlan) → IsSome (arith_of o) ⊎ IsSome (compare_of o) → IsTerm s l x → IsTerm s r y → Joins s o l r at (Err (broken.NotLinear at))
two_numbers s o l r at x y takes h k = no_line (record { operator = takes; left = x; is_left = h; right = y; is_right = k })

-- Numbers and conditions are told apart from all else.
data NumberView : Typed → Type 0 where
  a_number : (t : TermPlan) → NumberView (Number t)
  no_number : (u : Typed) → ((at : ℕ) → term_of at u ≡ kind_at at) → ((t : TermPlan) → u ≡ Number t → ⊥) → NumberView u

number_view : (u : Typed) → NumberView u
number_view (Number t) = a_number t
number_view (Word w) = no_number (Word w) (λ at. refl) (λ t e. cc)
number_view (Label enum l) = no_number (Label enum l) (λ at. refl) (λ t e. cc)
number_view (EnumCell c enum) = no_number (EnumCell c enum) (λ at. refl) (λ t e. cc)
number_view (HoldCell c ks) = no_number (HoldCell c ks) (λ at. refl) (λ t e. cc)
number_view (Truth c) = no_number (Truth c) (λ at. refl) (λ t e. cc)

data TruthView : Typed → Type 0 where
  a_truth : (c : CondPlan) → TruthView (Truth c)
  no_truth : (u : Typed) → ((at : ℕ) → condition at u ≡ kind_at at) → TruthView u

truth_view : (u : Typed) → TruthView u
truth_view (Number t) = no_truth (Number t) (λ at. refl)
truth_view (Word w) = no_truth (Word w) (λ at. refl)
truth_view (Label enum l) = no_truth (Label enum l) (λ at. refl)
truth_view (EnumCell c enum) = no_truth (EnumCell c enum) (λ at. refl)
truth_view (HoldCell c ks) = no_truth (HoldCell c ks) (λ at. refl)
truth_view (Truth c) = a_truth c

left_no_number : (s : Scope) (o : BinOp) (l r : ExprTree) (t : Typed) → Means s l t → ((x : TermPlan) → t ≡ Number x → ⊥) → TakesNumbers s o l r → ⊥
left_no_number s o l r t h not_so takes = not_so takes.left (one_meaning s l t (Number takes.left) h (typing.number l takes.left takes.is_left))

right_no_number : (s : Scope) (o : BinOp) (l r : ExprTree) (t : Typed) → Means s r t → ((x : TermPlan) → t ≡ Number x → ⊥) → TakesNumbers s o l r → ⊥
right_no_number s o l r t h not_so takes = not_so takes.right (one_meaning s r t (Number takes.right) h (typing.number r takes.right takes.is_right))

neither : (false ≡ true) ⊎ (false ≡ true) → ⊥
neither (inl e) = cc
neither (inr e) = cc

both_joins : (s : Scope) (o : BinOp) (l r : ExprTree) (at : ℕ) (make : CondPlan → CondPlan → CondPlan) (t u : Typed)
    → ((c d : CondPlan) → IsCondition s l c → IsCondition s r d → IsCondition s (Bin o l r at) (make c d))
    → (TakesNumbers s o l r → ⊥)
    → Means s l t
    → Means s r u
    → TruthView t
    → TruthView u
    → Joins s o l r at (both make at t u)
both_joins s o l r at make _ _ rule not_so h k (a_truth c) (a_truth d) = truth_joins s o l r at (make c d) (rule c d (is_condition s l c h) (is_condition s r d k))
both_joins s o l r at make _ _ rule not_so h k (a_truth c) (no_truth u e) = rw (e at) (no_kinds not_so)
both_joins s o l r at make _ u rule not_so h k (no_truth t e) w = rw (e at) (no_kinds not_so)

arithmetic_joins : (s : Scope) (o : BinOp) (l r : ExprTree) (at : ℕ) (rule : ℕ → TermPlan → TermPlan → Result TermPlan CheckErr) (t u : Typed)
    → ((x y : TermPlan) → IsTerm s l x → IsTerm s r y → Joins s o l r at (and_then (λ (z : TermPlan). Ok (Number z)) (rule at x y)))
    → Means s l t
    → Means s r u
    → NumberView t
    → NumberView u
    → Joins s o l r at (arithmetic rule at t u)
arithmetic_joins s o l r at rule _ _ step h k (a_number x) (a_number y) = step x y (is_term s l x h) (is_term s r y k)
arithmetic_joins s o l r at rule _ _ step h k (a_number x) (no_number u e not_so) = rw (e at) (no_kinds (right_no_number s o l r u k not_so))
arithmetic_joins s o l r at rule _ u step h k (no_number t e not_so) w = rw (e at) (no_kinds (left_no_number s o l r t h not_so))

added_joins : (s : Scope) (l r : ExprTree) (at : ℕ) (x y : TermPlan) → IsTerm s l x → IsTerm s r y → Joins s op.Add l r at (and_then (λ (z : TermPlan). Ok (Number z)) (added at x y))
added_joins s l r at _ _ (typing.fixed_term _ m h) (typing.fixed_term _ n k) = fixed_joins s op.Add l r at (fixed.Bin arith_op.Add m n) (typing.calculated op.Add arith_op.Add l r at m n refl h k)
added_joins s l r at _ _ (typing.fixed_term _ n h) (typing.line_term _ k i) = line_joins s op.Add l r at (line.Add k n) (typing.plus_line l r at n k h i)
added_joins s l r at _ _ (typing.line_term _ k i) (typing.fixed_term _ n h) = line_joins s op.Add l r at (line.Add k n) (typing.line_plus l r at k n i h)
added_joins s l r at _ _ (typing.line_term _ k i) (typing.line_term _ m j) = two_numbers s op.Add l r at (line.OfLine k) (line.OfLine m) (inl refl) (typing.line_term l k i) (typing.line_term r m j)

subtracted_joins : (s : Scope) (l r : ExprTree) (at : ℕ) (x y : TermPlan) → IsTerm s l x → IsTerm s r y → Joins s op.Sub l r at (and_then (λ (z : TermPlan). Ok (Number z)) (subtracted at x y))
subtracted_joins s l r at _ _ (typing.fixed_term _ m h) (typing.fixed_term _ n k) = fixed_joins s op.Sub l r at (fixed.Bin arith_op.Sub m n) (typing.calculated op.Sub arith_op.Sub l r at m n refl h k)
subtracted_joins s l r at _ _ (typing.fixed_term _ n h) (typing.line_term _ k i) = line_joins s op.Sub l r at (line.Add (line.Neg k) n) (typing.minus_line l r at n k h i)
subtracted_joins s l r at _ _ (typing.line_term _ k i) (typing.fixed_term _ n h) = line_joins s op.Sub l r at (line.Add k (fixed.Neg n)) (typing.line_minus l r at k n i h)
subtracted_joins s l r at _ _ (typing.line_term _ k i) (typing.line_term _ m j) = two_numbers s op.Sub l r at (line.OfLine k) (line.OfLine m) (inl refl) (typing.line_term l k i) (typing.line_term r m j)

multiplied_joins : (s : Scope) (l r : ExprTree) (at : ℕ) (x y : TermPlan) → IsTerm s l x → IsTerm s r y → Joins s op.Mul l r at (and_then (λ (z : TermPlan). Ok (Number z)) (multiplied at x y))
multiplied_joins s l r at _ _ (typing.fixed_term _ m h) (typing.fixed_term _ n k) = fixed_joins s op.Mul l r at (fixed.Bin arith_op.Mul m n) (typing.calculated op.Mul arith_op.Mul l r at m n refl h k)
multiplied_joins s l r at _ _ (typing.fixed_term _ n h) (typing.line_term _ k i) = line_joins s op.Mul l r at (line.Scale n k) (typing.times_line l r at n k h i)
multiplied_joins s l r at _ _ (typing.line_term _ k i) (typing.fixed_term _ n h) = line_joins s op.Mul l r at (line.Scale n k) (typing.line_times l r at k n i h)
multiplied_joins s l r at _ _ (typing.line_term _ k i) (typing.line_term _ m j) = two_numbers s op.Mul l r at (line.OfLine k) (line.OfLine m) (inl refl) (typing.line_term l k i) (typing.line_term r m j)

quotient_joins : (s : Scope) (o : BinOp) (a : ArithOp) (l r : ExprTree) (at : ℕ) (x y : TermPlan) → arith_of o ≡ Some a → IsTerm s l x → IsTerm s r y → Joins s o l r at (and_then (λ (z : TermPlan). Ok (Number z)) (quotient_of a at x y))
quotient_joins s o a l r at _ _ is (typing.fixed_term _ m h) (typing.fixed_term _ n k) = fixed_joins s o l r at (fixed.Bin a m n) (typing.calculated o a l r at m n is h k)
quotient_joins s o a l r at _ _ is (typing.fixed_term _ n h) (typing.line_term _ k i) = two_numbers s o l r at (line.OfNum n) (line.OfLine k) (inl (rw is refl)) (typing.fixed_term l n h) (typing.line_term r k i)
quotient_joins s o a l r at _ _ is (typing.line_term _ k i) (typing.fixed_term _ n h) = two_numbers s o l r at (line.OfLine k) (line.OfNum n) (inl (rw is refl)) (typing.line_term l k i) (typing.fixed_term r n h)
quotient_joins s o a l r at _ _ is (typing.line_term _ k i) (typing.line_term _ m j) = two_numbers s o l r at (line.OfLine k) (line.OfLine m) (inl (rw is refl)) (typing.line_term l k i) (typing.line_term r m j)

compared_joins : (s : Scope) (o : BinOp) (c : Compare) (l r : ExprTree) (at : ℕ) (x y : TermPlan) → compare_of o ≡ Some c → IsTerm s l x → IsTerm s r y → Joins s o l r at (and_then (λ (z : CondPlan). Ok (Truth z)) (compared c at x y))
compared_joins s o c l r at _ _ is (typing.fixed_term _ m h) (typing.fixed_term _ n k) =
    truth_joins s o l r at (cond.Compared c (line.OfNum m) n) (typing.compared o c l r at (line.OfNum m) n is (typing.fixed_term l m h) k)
compared_joins s o c l r at _ _ is (typing.fixed_term _ n h) (typing.line_term _ k i) =
    truth_joins s o l r at (cond.Compared (turned c) (line.OfLine k) n) (typing.turned_round o c l r at n k is h i)
compared_joins s o c l r at _ _ is (typing.line_term _ k i) (typing.fixed_term _ n h) =
    truth_joins s o l r at (cond.Compared c (line.OfLine k) n) (typing.compared o c l r at (line.OfLine k) n is (typing.line_term l k i) h)
compared_joins s o c l r at _ _ is (typing.line_term _ k i) (typing.line_term _ m j) = two_numbers s o l r at (line.OfLine k) (line.OfLine m) (inr (rw is refl)) (typing.line_term l k i) (typing.line_term r m j)

ordered_by_view : (s : Scope) (o : BinOp) (c : Compare) (l r : ExprTree) (at : ℕ) (t u : Typed)
    → compare_of o ≡ Some c
    → Means s l t
    → Means s r u
    → NumberView t
    → NumberView u
    → Joins s o l r at (ordered c at t u)
ordered_by_view s o c l r at _ _ is h k (a_number x) (a_number y) = compared_joins s o c l r at x y is (is_term s l x h) (is_term s r y k)
ordered_by_view s o c l r at _ _ is h k (a_number x) (no_number u e not_so) = rw (e at) (no_kinds (right_no_number s o l r u k not_so))
ordered_by_view s o c l r at _ u is h k (no_number t e not_so) w = rw (e at) (no_kinds (left_no_number s o l r t h not_so))

ordered_joins : (s : Scope) (o : BinOp) (c : Compare) (l r : ExprTree) (at : ℕ) (t u : Typed) → compare_of o ≡ Some c → Means s l t → Means s r u → Joins s o l r at (ordered c at t u)
ordered_joins s o c l r at t u is h k = ordered_by_view s o c l r at t u is h k (number_view t) (number_view u)

equal_joins : (s : Scope) (l r : ExprTree) (at : ℕ) (t u : Typed) → Means s l t → Means s r u → Joins s op.Eq l r at (equal at t u)
equal_joins s l r at (Word v) (Word w) h k = truth_joins s op.Eq l r at (cond.Words v w) (typing.same_words l r at v w (is_word s l v h) (is_word s r w k))
equal_joins s l r at t u h k = ordered_joins s op.Eq compare.Eq l r at t u refl h k

different_joins : (s : Scope) (l r : ExprTree) (at : ℕ) (t u : Typed) → Means s l t → Means s r u → Joins s op.Ne l r at (different at t u)
different_joins s l r at (Word v) (Word w) h k = truth_joins s op.Ne l r at (cond.Not (cond.Words v w)) (typing.other_words l r at v w (is_word s l v h) (is_word s r w k))
different_joins s l r at t u h k = ordered_joins s op.Ne compare.Ne l r at t u refl h k

is_takes_none : (s : Scope) (l r : ExprTree) → TakesNumbers s op.Is l r → ⊥
is_takes_none s l r takes = neither takes.operator

label_of_same : (s : Scope) (e : ExprTree) (enum other : ℕ) (l : LabelOf) → enum ≡ other → Means s e (Label other l) → IsLabel s enum e l
label_of_same s e enum other l same h = let P : ℕ → Type 0 = λ n. IsLabel s n e l in subst P (sym same) (is_label s e other l h)

labels_by_enum : (s : Scope) (l r : ExprTree) (at enum other : ℕ) (m n : LabelOf) (b : Bool) → (enum == other) ≡ b → Means s l (Label enum m) → Means s r (Label other n)
    → Joins s op.Is l r at (if b then Ok (Truth (cond.LabelIs m n)) else kind_at at)
labels_by_enum s l r at enum other m n true e h k =
    truth_joins s op.Is l r at (cond.LabelIs m n) (typing.label_is l r at enum m n (is_label s l enum m h) (label_of_same s r enum other n (numbers_are_same enum other e) k))
labels_by_enum s l r at enum other m n false e h k = no_kinds (is_takes_none s l r)

cell_joins : (s : Scope) (l r : ExprTree) (at c enum : ℕ) (n : LabelOf) → Means s l (EnumCell c enum) → IsLabel s enum r n → Joins s op.Is l r at (Ok (Truth (cond.CellIs c n)))
cell_joins s _ r at c enum n (typing.enum_cell x _ _ st) k = truth_joins s op.Is _ r at (cond.CellIs c n) (typing.cell_is x r at c enum n st k)

cell_by_enum : (s : Scope) (l r : ExprTree) (at c enum other : ℕ) (n : LabelOf) (b : Bool) → (enum == other) ≡ b → Means s l (EnumCell c enum) → Means s r (Label other n)
    → Joins s op.Is l r at (if b then Ok (Truth (cond.CellIs c n)) else kind_at at)
cell_by_enum s l r at c enum other n true e h k = cell_joins s l r at c enum n h (label_of_same s r enum other n (numbers_are_same enum other e) k)
cell_by_enum s l r at c enum other n false e h k = no_kinds (is_takes_none s l r)

labels_join : (s : Scope) (l r : ExprTree) (at : ℕ) (t u : Typed) → Means s l t → Means s r u → Joins s op.Is l r at (labels_joined at t u)
labels_join s l r at (Label enum m) (Label other n) h k = labels_by_enum s l r at enum other m n (enum == other) refl h k
labels_join s l r at (EnumCell c enum) (Label other n) h k = cell_by_enum s l r at c enum other n (enum == other) refl h k
labels_join s l r at t u h k = no_kinds (is_takes_none s l r)

pub joins : (s : Scope) (o : BinOp) (l r : ExprTree) (at : ℕ) (t u : Typed) → Means s l t → Means s r u → Joins s o l r at (joined o at t u)
joins s op.Or l r at t u h k =
    both_joins s op.Or l r at cond.Or t u (λ c d x y. typing.either l r at c d x y) (λ (takes : TakesNumbers s op.Or l r). neither takes.operator) h k (truth_view t) (truth_view u)
joins s op.And l r at t u h k =
    both_joins s op.And l r at cond.And t u (λ c d x y. typing.both l r at c d x y) (λ (takes : TakesNumbers s op.And l r). neither takes.operator) h k (truth_view t) (truth_view u)
joins s op.Eq l r at t u h k = equal_joins s l r at t u h k
joins s op.Ne l r at t u h k = different_joins s l r at t u h k
joins s op.Lt l r at t u h k = ordered_joins s op.Lt compare.Lt l r at t u refl h k
joins s op.Le l r at t u h k = ordered_joins s op.Le compare.Le l r at t u refl h k
joins s op.Gt l r at t u h k = ordered_joins s op.Gt compare.Gt l r at t u refl h k
joins s op.Ge l r at t u h k = ordered_joins s op.Ge compare.Ge l r at t u refl h k
joins s op.Is l r at t u h k = labels_join s l r at t u h k
joins s op.Add l r at t u h k = arithmetic_joins s op.Add l r at added t u (added_joins s l r at) h k (number_view t) (number_view u)
joins s op.Sub l r at t u h k = arithmetic_joins s op.Sub l r at subtracted t u (subtracted_joins s l r at) h k (number_view t) (number_view u)
joins s op.Mul l r at t u h k = arithmetic_joins s op.Mul l r at multiplied t u (multiplied_joins s l r at) h k (number_view t) (number_view u)
joins s op.Div l r at t u h k =
    arithmetic_joins s op.Div l r at (quotient_of arith_op.Div) t u (λ x y. quotient_joins s op.Div arith_op.Div l r at x y refl) h k (number_view t) (number_view u)
joins s op.Rem l r at t u h k =
    arithmetic_joins s op.Rem l r at (quotient_of arith_op.Rem) t u (λ x y. quotient_joins s op.Rem arith_op.Rem l r at x y refl) h k (number_view t) (number_view u)
