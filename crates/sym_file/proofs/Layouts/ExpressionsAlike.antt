-- What an expression stands for doesn't depend on places.
use Rattle.std.proofs.Common.{◌≡◌, refl, ap, ℕ, suc, if◌then◌else◌, List, [], ◌∷◌, length, Option, Some, None, Result}
use Rattle.std.specs.Prelude.{◌-◌, ◌==◌, take, drop}
use Rattle.std.specs.Cmp.Lexicographic.{pointwise}
use Rattle.sym_base.specs.declared.tree.compare.Compare.{Compare}
use Rattle.sym_base.specs.declared.tree.compare.Compare.TheVariants as compare
use Rattle.sym_base.specs.declared.tree.expression.BinOp.{BinOp}
use Rattle.sym_base.specs.declared.tree.expression.BinOp.TheVariants as op
use Rattle.sym_base.specs.Trees.{ExprTree, Num, Words, Named, Call, Neg, Not, Bin, ExprsTree, End, More}
use Rattle.sym_parse.specs.Bare.{bare_expr, bare_exprs}
use Rattle.sym_check.specs.declared.elaborate.error.CheckErr.{CheckErr}
use Rattle.sym_check.specs.declared.elaborate.scope.Meaning.{Meaning}
use Rattle.sym_check.specs.declared.elaborate.scope.Meaning.TheVariants as meaning
use Rattle.sym_check.specs.declared.plan.expression.ArithOp.{ArithOp}
use Rattle.sym_check.specs.declared.plan.expression.ArithOp.TheVariants as arith
use Rattle.sym_check.specs.declared.plan.script.KindPlan.{KindPlan}
use Rattle.sym_check.specs.declared.plan.script.KindPlan.TheVariants as kind
use Rattle.sym_check.specs.Plan.CondPlans.{CondPlan}
use Rattle.sym_check.specs.Plan.CondPlans as cond
use Rattle.sym_check.specs.Plan.LinePlans.{TermPlan}
use Rattle.sym_check.specs.Plan.LinePlans as line
use Rattle.sym_check.specs.Breaks.Expressions.{place}
use Rattle.sym_check.specs.Rules.Scopes.{Scope, find}
use Rattle.sym_check.specs.Rules.Typing.{Typed, Number, Word, Label, EnumCell, HoldCell, Truth}
use Rattle.sym_check.specs.Elaborate.Expressions.{same_kind, no_cell, left_of, first_of, named, TestNamed, test_named, negated, condition, inverted, both, added, subtracted, multiplied, quotient_of, compared, term_of, arithmetic, ordered, equal, different, labels_joined, joined, Located, value_of, values_of, Arguments, called_on, infer, arguments, operands}
use Rattle.sym_file.proofs.Layouts.Alike.{Same, Alike, fine, alike, kind_alike, name_alike, linear_alike, going_on, then_alike, if_alike}

pub no_cell-alike : (a b : ℕ) (t : Typed) → Alike Same (no_cell a t) (no_cell b t)
no_cell-alike a b (Number t) = alike
no_cell-alike a b (Word w) = alike
no_cell-alike a b (Label enum l) = alike
no_cell-alike a b (EnumCell c enum) = kind_alike
no_cell-alike a b (HoldCell c ks) = kind_alike
no_cell-alike a b (Truth v) = alike

left_of-alike : (o : BinOp) (a b : ℕ) (t : Typed) → Alike Same (left_of o a t) (left_of o b t)
left_of-alike op.Is a b (Number t) = alike
left_of-alike op.Is a b (Word w) = alike
left_of-alike op.Is a b (Label enum l) = alike
left_of-alike op.Is a b (EnumCell c enum) = alike
left_of-alike op.Is a b (HoldCell c ks) = kind_alike
left_of-alike op.Is a b (Truth v) = alike
left_of-alike op.Or a b t = no_cell-alike a b t
left_of-alike op.And a b t = no_cell-alike a b t
left_of-alike op.Eq a b t = no_cell-alike a b t
left_of-alike op.Ne a b t = no_cell-alike a b t
left_of-alike op.Lt a b t = no_cell-alike a b t
left_of-alike op.Le a b t = no_cell-alike a b t
left_of-alike op.Gt a b t = no_cell-alike a b t
left_of-alike op.Ge a b t = no_cell-alike a b t
left_of-alike op.Add a b t = no_cell-alike a b t
left_of-alike op.Sub a b t = no_cell-alike a b t
left_of-alike op.Mul a b t = no_cell-alike a b t
left_of-alike op.Div a b t = no_cell-alike a b t
left_of-alike op.Rem a b t = no_cell-alike a b t

pub first_of-alike : (a b : ℕ) (t : Typed) → Alike Same (first_of a t) (first_of b t)
first_of-alike a b (Number t) = alike
first_of-alike a b (Word w) = alike
first_of-alike a b (Label enum l) = alike
first_of-alike a b (EnumCell c enum) = kind_alike
first_of-alike a b (HoldCell c ks) = alike
first_of-alike a b (Truth v) = alike

pub named-alike : (a b : ℕ) (m : Option Meaning) → Alike Same (named a m) (named b m)
named-alike a b None = name_alike
named-alike a b (Some meaning.Unfinished) = kind_alike
named-alike a b (Some (meaning.Enum enum)) = kind_alike
named-alike a b (Some (meaning.Label enum l)) = alike
named-alike a b (Some (meaning.Value k v)) = alike
named-alike a b (Some (meaning.IntCell c)) = alike
named-alike a b (Some (meaning.EnumCell c enum)) = alike
named-alike a b (Some (meaning.HoldCell c ks)) = alike
named-alike a b (Some (meaning.NumsCell c)) = kind_alike
named-alike a b (Some (meaning.WordsCell c)) = kind_alike
named-alike a b (Some (meaning.Test t ks)) = kind_alike

pub test_named-alike : (a b : ℕ) (m : Option Meaning) → Alike Same (test_named a m) (test_named b m)
test_named-alike a b None = name_alike
test_named-alike a b (Some meaning.Unfinished) = kind_alike
test_named-alike a b (Some (meaning.Enum enum)) = kind_alike
test_named-alike a b (Some (meaning.Label enum l)) = kind_alike
test_named-alike a b (Some (meaning.Value k v)) = kind_alike
test_named-alike a b (Some (meaning.IntCell c)) = kind_alike
test_named-alike a b (Some (meaning.EnumCell c enum)) = kind_alike
test_named-alike a b (Some (meaning.HoldCell c ks)) = kind_alike
test_named-alike a b (Some (meaning.NumsCell c)) = kind_alike
test_named-alike a b (Some (meaning.WordsCell c)) = kind_alike
test_named-alike a b (Some (meaning.Test t ks)) = alike

pub negated-alike : (a b : ℕ) (t : Typed) → Alike Same (negated a t) (negated b t)
negated-alike a b (Number t) = alike
negated-alike a b (Word w) = kind_alike
negated-alike a b (Label enum l) = kind_alike
negated-alike a b (EnumCell c enum) = kind_alike
negated-alike a b (HoldCell c ks) = kind_alike
negated-alike a b (Truth v) = kind_alike

pub condition-alike : (a b : ℕ) (t : Typed) → Alike Same (condition a t) (condition b t)
condition-alike a b (Number t) = kind_alike
condition-alike a b (Word w) = kind_alike
condition-alike a b (Label enum l) = kind_alike
condition-alike a b (EnumCell c enum) = kind_alike
condition-alike a b (HoldCell c ks) = kind_alike
condition-alike a b (Truth v) = alike

inverted-alike : (a b : ℕ) (t : Typed) → Alike Same (inverted a t) (inverted b t)
inverted-alike a b t = then_alike (condition-alike a b t) (λ c. alike)

both-alike : (make : CondPlan → CondPlan → CondPlan) (a b : ℕ) (t u : Typed) → Alike Same (both make a t u) (both make b t u)
both-alike make a b t u = then_alike (condition-alike a b t) (λ c. then_alike (condition-alike a b u) (λ d. alike))

added-alike : (a b : ℕ) (x y : TermPlan) → Alike Same (added a x y) (added b x y)
added-alike a b (line.OfNum m) (line.OfNum n) = alike
added-alike a b (line.OfNum m) (line.OfLine l) = alike
added-alike a b (line.OfLine k) (line.OfNum n) = alike
added-alike a b (line.OfLine k) (line.OfLine l) = linear_alike

subtracted-alike : (a b : ℕ) (x y : TermPlan) → Alike Same (subtracted a x y) (subtracted b x y)
subtracted-alike a b (line.OfNum m) (line.OfNum n) = alike
subtracted-alike a b (line.OfNum m) (line.OfLine l) = alike
subtracted-alike a b (line.OfLine k) (line.OfNum n) = alike
subtracted-alike a b (line.OfLine k) (line.OfLine l) = linear_alike

multiplied-alike : (a b : ℕ) (x y : TermPlan) → Alike Same (multiplied a x y) (multiplied b x y)
multiplied-alike a b (line.OfNum m) (line.OfNum n) = alike
multiplied-alike a b (line.OfNum m) (line.OfLine l) = alike
multiplied-alike a b (line.OfLine k) (line.OfNum n) = alike
multiplied-alike a b (line.OfLine k) (line.OfLine l) = linear_alike

quotient_of-alike : (o : ArithOp) (a b : ℕ) (x y : TermPlan) → Alike Same (quotient_of o a x y) (quotient_of o b x y)
quotient_of-alike o a b (line.OfNum m) (line.OfNum n) = alike
quotient_of-alike o a b (line.OfNum m) (line.OfLine l) = linear_alike
quotient_of-alike o a b (line.OfLine k) (line.OfNum n) = linear_alike
quotient_of-alike o a b (line.OfLine k) (line.OfLine l) = linear_alike

compared-alike : (c : Compare) (a b : ℕ) (x y : TermPlan) → Alike Same (compared c a x y) (compared c b x y)
compared-alike c a b (line.OfNum m) (line.OfNum n) = alike
compared-alike c a b (line.OfNum m) (line.OfLine l) = alike
compared-alike c a b (line.OfLine k) (line.OfNum n) = alike
compared-alike c a b (line.OfLine k) (line.OfLine l) = linear_alike

pub term_of-alike : (a b : ℕ) (t : Typed) → Alike Same (term_of a t) (term_of b t)
term_of-alike a b (Number t) = alike
term_of-alike a b (Word w) = kind_alike
term_of-alike a b (Label enum l) = kind_alike
term_of-alike a b (EnumCell c enum) = kind_alike
term_of-alike a b (HoldCell c ks) = kind_alike
term_of-alike a b (Truth v) = kind_alike

arithmetic-alike : (rule : ℕ → TermPlan → TermPlan → Result TermPlan CheckErr) (a b : ℕ)
    → ((x y : TermPlan) → Alike Same (rule a x y) (rule b x y)) → (t u : Typed) → Alike Same (arithmetic rule a t u) (arithmetic rule b t u)
arithmetic-alike rule a b h t u =
    then_alike (term_of-alike a b t) (λ x. then_alike (term_of-alike a b u) (λ y. then_alike (h x y) (λ z. alike)))

ordered-alike : (c : Compare) (a b : ℕ) (t u : Typed) → Alike Same (ordered c a t u) (ordered c b t u)
ordered-alike c a b t u =
    then_alike (term_of-alike a b t) (λ x. then_alike (term_of-alike a b u) (λ y. then_alike (compared-alike c a b x y) (λ z. alike)))

equal-alike : (a b : ℕ) (t u : Typed) → Alike Same (equal a t u) (equal b t u)
equal-alike a b (Number t) u = ordered-alike compare.Eq a b (Number t) u
equal-alike a b (Word w) (Number t) = ordered-alike compare.Eq a b (Word w) (Number t)
equal-alike a b (Word w) (Word v) = alike
equal-alike a b (Word w) (Label enum l) = ordered-alike compare.Eq a b (Word w) (Label enum l)
equal-alike a b (Word w) (EnumCell c enum) = ordered-alike compare.Eq a b (Word w) (EnumCell c enum)
equal-alike a b (Word w) (HoldCell c ks) = ordered-alike compare.Eq a b (Word w) (HoldCell c ks)
equal-alike a b (Word w) (Truth v) = ordered-alike compare.Eq a b (Word w) (Truth v)
equal-alike a b (Label enum l) u = ordered-alike compare.Eq a b (Label enum l) u
equal-alike a b (EnumCell c enum) u = ordered-alike compare.Eq a b (EnumCell c enum) u
equal-alike a b (HoldCell c ks) u = ordered-alike compare.Eq a b (HoldCell c ks) u
equal-alike a b (Truth v) u = ordered-alike compare.Eq a b (Truth v) u

different-alike : (a b : ℕ) (t u : Typed) → Alike Same (different a t u) (different b t u)
different-alike a b (Number t) u = ordered-alike compare.Ne a b (Number t) u
different-alike a b (Word w) (Number t) = ordered-alike compare.Ne a b (Word w) (Number t)
different-alike a b (Word w) (Word v) = alike
different-alike a b (Word w) (Label enum l) = ordered-alike compare.Ne a b (Word w) (Label enum l)
different-alike a b (Word w) (EnumCell c enum) = ordered-alike compare.Ne a b (Word w) (EnumCell c enum)
different-alike a b (Word w) (HoldCell c ks) = ordered-alike compare.Ne a b (Word w) (HoldCell c ks)
different-alike a b (Word w) (Truth v) = ordered-alike compare.Ne a b (Word w) (Truth v)
different-alike a b (Label enum l) u = ordered-alike compare.Ne a b (Label enum l) u
different-alike a b (EnumCell c enum) u = ordered-alike compare.Ne a b (EnumCell c enum) u
different-alike a b (HoldCell c ks) u = ordered-alike compare.Ne a b (HoldCell c ks) u
different-alike a b (Truth v) u = ordered-alike compare.Ne a b (Truth v) u

labels_joined-alike : (a b : ℕ) (t u : Typed) → Alike Same (labels_joined a t u) (labels_joined b t u)
labels_joined-alike a b (Number t) u = kind_alike
labels_joined-alike a b (Word w) u = kind_alike
labels_joined-alike a b (Label enum l) (Number t) = kind_alike
labels_joined-alike a b (Label enum l) (Word w) = kind_alike
labels_joined-alike a b (Label enum l) (Label other m) = if_alike (enum == other) alike kind_alike
labels_joined-alike a b (Label enum l) (EnumCell d other) = kind_alike
labels_joined-alike a b (Label enum l) (HoldCell d ks) = kind_alike
labels_joined-alike a b (Label enum l) (Truth v) = kind_alike
labels_joined-alike a b (EnumCell c enum) (Number t) = kind_alike
labels_joined-alike a b (EnumCell c enum) (Word w) = kind_alike
labels_joined-alike a b (EnumCell c enum) (Label other m) = if_alike (enum == other) alike kind_alike
labels_joined-alike a b (EnumCell c enum) (EnumCell d other) = kind_alike
labels_joined-alike a b (EnumCell c enum) (HoldCell d ks) = kind_alike
labels_joined-alike a b (EnumCell c enum) (Truth v) = kind_alike
labels_joined-alike a b (HoldCell c ks) u = kind_alike
labels_joined-alike a b (Truth v) u = kind_alike

joined-alike : (o : BinOp) (a b : ℕ) (t u : Typed) → Alike Same (joined o a t u) (joined o b t u)
joined-alike op.Or a b t u = both-alike cond.Or a b t u
joined-alike op.And a b t u = both-alike cond.And a b t u
joined-alike op.Eq a b t u = equal-alike a b t u
joined-alike op.Ne a b t u = different-alike a b t u
joined-alike op.Lt a b t u = ordered-alike compare.Lt a b t u
joined-alike op.Le a b t u = ordered-alike compare.Le a b t u
joined-alike op.Gt a b t u = ordered-alike compare.Gt a b t u
joined-alike op.Ge a b t u = ordered-alike compare.Ge a b t u
joined-alike op.Is a b t u = labels_joined-alike a b t u
joined-alike op.Add a b t u = arithmetic-alike added a b (added-alike a b) t u
joined-alike op.Sub a b t u = arithmetic-alike subtracted a b (subtracted-alike a b) t u
joined-alike op.Mul a b t u = arithmetic-alike multiplied a b (multiplied-alike a b) t u
joined-alike op.Div a b t u = arithmetic-alike (quotient_of arith.Div) a b (quotient_of-alike arith.Div a b) t u
joined-alike op.Rem a b t u = arithmetic-alike (quotient_of arith.Rem) a b (quotient_of-alike arith.Rem a b) t u

-- ---- operands, each with its place
abbrev located : ℕ → Typed → Located
located at t = record { at = at; typed = t }

pub data SameOperands : List Located → List Located → Type 0 where
  no_operand : SameOperands [] []
  one_more : (a b : ℕ) (t : Typed) (xs ys : List Located) → SameOperands xs ys → SameOperands (located a t ∷ xs) (located b t ∷ ys)

pub same_length : (xs ys : List Located) → SameOperands xs ys → length xs ≡ length ys
same_length _ _ no_operand = refl
same_length _ _ (one_more a b t xs ys h) = ap suc (same_length xs ys h)

value_of-alike : (wanted : KindPlan) (a b : ℕ) (t : Typed) → Alike Same (value_of wanted (located a t)) (value_of wanted (located b t))
value_of-alike kind.Num a b (Number (line.OfNum n)) = alike
value_of-alike kind.Num a b (Number (line.OfLine k)) = kind_alike
value_of-alike kind.Num a b (Word w) = kind_alike
value_of-alike kind.Num a b (Label enum l) = kind_alike
value_of-alike kind.Num a b (EnumCell c enum) = kind_alike
value_of-alike kind.Num a b (HoldCell c ks) = kind_alike
value_of-alike kind.Num a b (Truth v) = kind_alike
value_of-alike kind.Word a b (Number (line.OfNum n)) = kind_alike
value_of-alike kind.Word a b (Number (line.OfLine k)) = kind_alike
value_of-alike kind.Word a b (Word w) = alike
value_of-alike kind.Word a b (Label enum l) = kind_alike
value_of-alike kind.Word a b (EnumCell c enum) = kind_alike
value_of-alike kind.Word a b (HoldCell c ks) = kind_alike
value_of-alike kind.Word a b (Truth v) = kind_alike
value_of-alike (kind.Label of) a b (Number (line.OfNum n)) = kind_alike
value_of-alike (kind.Label of) a b (Number (line.OfLine k)) = kind_alike
value_of-alike (kind.Label of) a b (Word w) = kind_alike
value_of-alike (kind.Label of) a b (Label enum l) = if_alike (of == enum) alike kind_alike
value_of-alike (kind.Label of) a b (EnumCell c enum) = kind_alike
value_of-alike (kind.Label of) a b (HoldCell c ks) = kind_alike
value_of-alike (kind.Label of) a b (Truth v) = kind_alike

pub values_of-alike : (kinds : List KindPlan) (xs ys : List Located) → SameOperands xs ys → Alike Same (values_of kinds xs) (values_of kinds ys)
values_of-alike [] _ _ h = alike
values_of-alike (k ∷ kinds) _ _ no_operand = alike
values_of-alike (k ∷ kinds) _ _ (one_more a b t xs ys h) =
    then_alike (value_of-alike k a b t) (λ v. then_alike (values_of-alike kinds xs ys h) (λ vs. alike))

-- As many operands as wanted, in both.
pub counted_alike : {A : Type 0} {P : A → A → Type 0} {r q s t : Result A CheckErr} (xs ys : List Located) (n : ℕ) → SameOperands xs ys
    → Alike P r q → Alike P s t → Alike P (if length xs == n then r else s) (if length ys == n then q else t)
counted_alike xs ys n l h k = rw (same_length xs ys l) (if_alike (length ys == n) h k)

pub data SameArguments : Arguments → Arguments → Type 0 where
  arguments_same : (a b : ℕ) (t : Typed) (xs ys : List Located) → SameOperands xs ys
      → SameArguments (record { first = located a t; others = xs }) (record { first = located b t; others = ys })

called_by : (a b : ℕ) (test : TestNamed) (i j : ℕ) (xs ys : List Located) → SameOperands xs ys → (t u : Typed)
    → Alike Same (called_on a test (record { first = located i t; others = xs }) u) (called_on b test (record { first = located j t; others = ys }) u)
called_by a b test i j xs ys h own (Number t) = kind_alike
called_by a b test i j xs ys h own (Word w) = kind_alike
called_by a b test i j xs ys h own (Label enum l) = kind_alike
called_by a b test i j xs ys h own (EnumCell c enum) = kind_alike
called_by a b test i j xs ys h own (HoldCell c ks) =
    counted_alike xs ys (length test.params - length ks) h
    (if_alike (pointwise same_kind ks (take (length ks) test.params)) (then_alike (values_of-alike (drop (length ks) test.params) xs ys h) (λ vs. alike)) kind_alike)
    kind_alike
called_by a b test i j xs ys h own (Truth v) = kind_alike

called_on-alike : (a b : ℕ) (test : TestNamed) (args other : Arguments) → SameArguments args other
    → Alike Same (called_on a test args args.first.typed) (called_on b test other other.first.typed)
called_on-alike a b test _ _ (arguments_same i j t xs ys h) = called_by a b test i j xs ys h t t

mutual
  pub infer-alike : (s : Scope) (e : ExprTree) → Alike Same (infer s e) (infer s (bare_expr e))
  infer-alike s (Num n at) = alike
  infer-alike s (Words t at) = alike
  infer-alike s (Named x) = named-alike x.at 0 (find s x.text)
  infer-alike s (Call x es) =
      then_alike (test_named-alike x.at 0 (find s x.text)) (λ test. going_on (arguments-alike s x.at 0 es) (λ args other h. called_on-alike x.at 0 test args other h))
  infer-alike s (Neg e at) =
      then_alike (infer-alike s e) (λ t. then_alike (no_cell-alike (place e) (place (bare_expr e)) t) (λ u. negated-alike at 0 u))
  infer-alike s (Not e at) =
      then_alike (infer-alike s e) (λ t. then_alike (no_cell-alike (place e) (place (bare_expr e)) t) (λ u. inverted-alike at 0 u))
  infer-alike s (Bin o l r at) =
      then_alike (infer-alike s l) (λ t. then_alike (left_of-alike o (place l) (place (bare_expr l)) t)
      (λ u. then_alike (infer-alike s r) (λ v. then_alike (no_cell-alike (place r) (place (bare_expr r)) v) (λ w. joined-alike o at 0 u w))))

  arguments-alike : (s : Scope) (a b : ℕ) (es : ExprsTree) → Alike SameArguments (arguments s a es) (arguments s b (bare_exprs es))
  arguments-alike s a b End = kind_alike
  arguments-alike s a b (More e es) =
      then_alike (infer-alike s e) (λ t. then_alike (first_of-alike (place e) (place (bare_expr e)) t)
      (λ u. going_on (operands-alike s es) (λ xs ys h. fine (record { first = located (place e) u; others = xs }) (record { first = located (place (bare_expr e)) u; others = ys }) (arguments_same (place e) (place (bare_expr e)) u xs ys h))))

  pub operands-alike : (s : Scope) (es : ExprsTree) → Alike SameOperands (operands s es) (operands s (bare_exprs es))
  operands-alike s End = fine [] [] no_operand
  operands-alike s (More e es) =
      then_alike (infer-alike s e) (λ t. then_alike (no_cell-alike (place e) (place (bare_expr e)) t)
      (λ u. going_on (operands-alike s es) (λ xs ys h. fine (located (place e) u ∷ xs) (located (place (bare_expr e)) u ∷ ys) (one_more (place e) (place (bare_expr e)) u xs ys h))))
