-- An expression has a meaning or a first broken rule, and the function answers it.
use Rattle.std.proofs.Common.{◌≡◌, refl, sym, subst, ap, ◌∙◌, ℕ, ◌-◌, Bool, true, false, ◌⊎◌, inl, inr, List, [], ◌∷◌, ◌++◌, length, take, drop, take-append-drop, length-drop, true≢false, Option, Some, None, Result, Ok, Err}
use Rattle.std.specs.Prelude.{◌==◌, ◌≢◌}
use Rattle.std.specs.Cmp.Lexicographic.{pointwise}
use Rattle.sym_base.specs.declared.tree.name.Name.{Name}
use Rattle.sym_base.specs.declared.tree.expression.BinOp.{BinOp}
use Rattle.sym_base.specs.declared.tree.expression.BinOp.TheVariants as op
use Rattle.sym_base.specs.Trees.{ExprTree, Num, Words, Named, Call, Neg, Not, Bin, ExprsTree, End, More}
use Rattle.sym_check.specs.declared.plan.expression.WordOf.TheVariants as word
use Rattle.sym_check.specs.declared.plan.expression.LabelOf.TheVariants as label
use Rattle.sym_check.specs.declared.plan.script.KindPlan.{KindPlan}
use Rattle.sym_check.specs.declared.plan.script.KindPlan.TheVariants as kind
use Rattle.sym_check.specs.Plan.FixedPlans.{NumPlan, FixedPlan}
use Rattle.sym_check.specs.Plan.FixedPlans as fixed
use Rattle.sym_check.specs.Plan.LinePlans.{TermPlan}
use Rattle.sym_check.specs.Plan.LinePlans as line
use Rattle.sym_check.specs.Plan.CondPlans.{CondPlan}
use Rattle.sym_check.specs.Plan.CondPlans as cond
use Rattle.sym_check.specs.declared.elaborate.error.CheckErr.{CheckErr}
use Rattle.sym_check.specs.declared.elaborate.error.CheckErr.TheVariants as broken
use Rattle.sym_check.specs.declared.elaborate.scope.Variable.{Variable}
use Rattle.sym_check.specs.declared.elaborate.scope.Meaning.{Meaning}
use Rattle.sym_check.specs.declared.elaborate.scope.Meaning.TheVariants as meaning
use Rattle.sym_check.specs.Rules.Scopes.{Scope, find, Stands}
use Rattle.sym_check.specs.Rules.Typing.{num_variable, word_variable, label_variable, Typed, Number, Word, Label, EnumCell, HoldCell, Truth, Means, HasMeaning, AreValues}
use Rattle.sym_check.specs.Rules.Typing as typing
use Rattle.sym_check.specs.Breaks.Expressions.{place, IsOperand, IsLeft, IsFirst, TakesNumbers, AreOperands, WrongValue, WrongCall, Breaks, BreaksOperands}
use Rattle.sym_check.specs.Breaks.Expressions as rule
use Rattle.sym_check.specs.Elaborate.Expressions.{kind_at, same_kind, Located, test_named, called_on, joined, infer, operands}
use Rattle.sym_check.proofs.SameKinds.{same_kinds, kinds_are_same, same_number, numbers_are_same}
use Rattle.sym_check.proofs.OperandOutcomes.{operand_passes, no_operand, first_passes, no_first, left_passes, no_left, bin_outcome}
use Rattle.sym_check.proofs.CallOutcomes.{call_outcome, wrong_number_called, wrong_cell_called, right_cell_called}
use Rattle.sym_check.proofs.ExpressionsComplete.{no_meaning}
use Rattle.sym_check.proofs.OperatorsFound.{is_num, is_line, is_condition, Joins, has_meaning, no_line, no_kinds, joins}
use Rattle.sym_check.proofs.ValuesFound.{AreFound, none_found, more_found, found_operands, ValuesOutcome, values_are, value_is_wrong, values_outcome}

-- What the function answers, with the rule that says so.
pub data Outcome (s : Scope) (e : ExprTree) : Type 0 where
  means : (t : Typed) → infer s e ≡ Ok t → Means s e t → Outcome s e
  breaks : (f : CheckErr) → infer s e ≡ Err f → Breaks s e f → Outcome s e

pub data OperandsOutcome (s : Scope) (es : ExprsTree) : Type 0 where
  found : (others : List Located) → operands s es ≡ Ok others → AreFound s es others → OperandsOutcome s es
  unfound : (f : CheckErr) → operands s es ≡ Err f → BreaksOperands s es f → OperandsOutcome s es

-- What stands for something is fine at its place, or it isn't.
is_operand_or_not : (t : Typed) → IsOperand t ⊎ (IsOperand t → ⊥)
is_operand_or_not (Number t) = inl tt
is_operand_or_not (Word w) = inl tt
is_operand_or_not (Label enum l) = inl tt
is_operand_or_not (EnumCell c enum) = inr (λ i. i)
is_operand_or_not (HoldCell c ks) = inr (λ i. i)
is_operand_or_not (Truth c) = inl tt

is_first_or_not : (t : Typed) → IsFirst t ⊎ (IsFirst t → ⊥)
is_first_or_not (Number t) = inl tt
is_first_or_not (Word w) = inl tt
is_first_or_not (Label enum l) = inl tt
is_first_or_not (EnumCell c enum) = inr (λ i. i)
is_first_or_not (HoldCell c ks) = inl tt
is_first_or_not (Truth c) = inl tt

is_is : (o : BinOp) → (o ≡ op.Is) ⊎ (o ≡ op.Is → ⊥)
is_is op.Is = inl refl
is_is _ = inr (λ e. cc)

is_left_or_not : (o : BinOp) (t : Typed) → IsLeft o t ⊎ (IsLeft o t → ⊥)
is_left_or_not o (Number t) = inl tt
is_left_or_not o (Word w) = inl tt
is_left_or_not o (Label enum l) = inl tt
is_left_or_not o (EnumCell c enum) = is_is o
is_left_or_not o (HoldCell c ks) = inr (λ i. i)
is_left_or_not o (Truth c) = inl tt

-- Names.
value_named : (s : Scope) (x : Name) (k : KindPlan) (v : Variable) → find s x.text ≡ Some (meaning.Value k v) → Outcome s (Named x)
value_named s x kind.Num v p =
    means (Number (line.OfNum (num_variable v))) (rw p refl) (typing.number (Named x) _ (typing.fixed_term (Named x) _ (typing.named x v (record { found = p }))))
value_named s x kind.Word v p = means (Word (word_variable v)) (rw p refl) (typing.of_word (Named x) _ (typing.word_named x v (record { found = p })))
value_named s x (kind.Label enum) v p = means (Label enum (label_variable v)) (rw p refl) (typing.of_label (Named x) enum _ (typing.label_named x enum v (record { found = p })))

refused_name : (s : Scope) (x : Name) (m : Meaning) → find s x.text ≡ Some m → infer s (Named x) ≡ kind_at x.at → Outcome s (Named x)
refused_name s x m p q = breaks (broken.Kind x.at) q (rule.no_value x m (record { found = p }) (no_meaning s (Named x) (broken.Kind x.at) q))

named_outcome : (s : Scope) (x : Name) (o : Option Meaning) → find s x.text ≡ o → Outcome s (Named x)
named_outcome s x None p = breaks (broken.Name x.at) (rw p refl) (rule.unknown x (record { missing = p }))
named_outcome s x (Some meaning.Unfinished) p = refused_name s x meaning.Unfinished p (rw p refl)
named_outcome s x (Some (meaning.Enum enum)) p = refused_name s x (meaning.Enum enum) p (rw p refl)
named_outcome s x (Some (meaning.Label enum l)) p = means (Label enum (label.Lit l)) (rw p refl) (typing.of_label (Named x) enum _ (typing.label_name x enum l (record { found = p })))
named_outcome s x (Some (meaning.Value k v)) p = value_named s x k v p
named_outcome s x (Some (meaning.IntCell c)) p =
    means (Number (line.OfLine (line.Cell c))) (rw p refl) (typing.number (Named x) _ (typing.line_term (Named x) _ (typing.cell x c (record { found = p }))))
named_outcome s x (Some (meaning.EnumCell c enum)) p = means (EnumCell c enum) (rw p refl) (typing.enum_cell x c enum (record { found = p }))
named_outcome s x (Some (meaning.HoldCell c ks)) p = means (HoldCell c ks) (rw p refl) (typing.hold_cell x c ks (record { found = p }))
named_outcome s x (Some (meaning.NumsCell c)) p = refused_name s x (meaning.NumsCell c) p (rw p refl)
named_outcome s x (Some (meaning.WordsCell c)) p = refused_name s x (meaning.WordsCell c) p (rw p refl)
named_outcome s x (Some (meaning.Test t ks)) p = refused_name s x (meaning.Test t ks) p (rw p refl)

-- Operators of one operand.
not_negated : (s : Scope) (e : ExprTree) (at : ℕ) (t : Typed) → Means s e t → IsOperand t → infer s (Neg e at) ≡ kind_at at → Outcome s (Neg e at)
not_negated s e at t h i q = breaks (broken.Kind at) q (rule.not_negated e at t h i (no_meaning s (Neg e at) (broken.Kind at) q))

neg_of : (s : Scope) (e : ExprTree) (at : ℕ) (t : Typed) → infer s e ≡ Ok t → Means s e t → Outcome s (Neg e at)
neg_of s e at (Number (line.OfNum n)) p h =
    means (Number (line.OfNum (fixed.Neg n))) (rw p refl) (typing.number (Neg e at) _ (typing.fixed_term (Neg e at) _ (typing.negative e at n (is_num s e n h))))
neg_of s e at (Number (line.OfLine k)) p h =
    means (Number (line.OfLine (line.Neg k))) (rw p refl) (typing.number (Neg e at) _ (typing.line_term (Neg e at) _ (typing.opposite e at k (is_line s e k h))))
neg_of s e at (Word w) p h = not_negated s e at (Word w) h tt (rw p refl)
neg_of s e at (Label enum l) p h = not_negated s e at (Label enum l) h tt (rw p refl)
neg_of s e at (EnumCell c enum) p h = breaks (broken.Kind (place e)) (rw p refl) (rule.negated_cell e at (EnumCell c enum) h (λ i. i))
neg_of s e at (HoldCell c ks) p h = breaks (broken.Kind (place e)) (rw p refl) (rule.negated_cell e at (HoldCell c ks) h (λ i. i))
neg_of s e at (Truth c) p h = not_negated s e at (Truth c) h tt (rw p refl)

neg_outcome : (s : Scope) (e : ExprTree) (at : ℕ) → Outcome s e → Outcome s (Neg e at)
neg_outcome s e at (means t p h) = neg_of s e at t p h
neg_outcome s e at (breaks f p h) = breaks f (rw p refl) (rule.in_negated e at f h)

no_condition : (s : Scope) (e : ExprTree) (at : ℕ) (t : Typed) → Means s e t → IsOperand t → infer s (Not e at) ≡ kind_at at → Outcome s (Not e at)
no_condition s e at t h i q = breaks (broken.Kind at) q (rule.no_condition e at t h i (no_meaning s (Not e at) (broken.Kind at) q))

not_of : (s : Scope) (e : ExprTree) (at : ℕ) (t : Typed) → infer s e ≡ Ok t → Means s e t → Outcome s (Not e at)
not_of s e at (Number t) p h = no_condition s e at (Number t) h tt (rw p refl)
not_of s e at (Word w) p h = no_condition s e at (Word w) h tt (rw p refl)
not_of s e at (Label enum l) p h = no_condition s e at (Label enum l) h tt (rw p refl)
not_of s e at (EnumCell c enum) p h = breaks (broken.Kind (place e)) (rw p refl) (rule.not_cell e at (EnumCell c enum) h (λ i. i))
not_of s e at (HoldCell c ks) p h = breaks (broken.Kind (place e)) (rw p refl) (rule.not_cell e at (HoldCell c ks) h (λ i. i))
not_of s e at (Truth c) p h = means (Truth (cond.Not c)) (rw p refl) (typing.truth (Not e at) _ (typing.negation e at c (is_condition s e c h)))

not_outcome : (s : Scope) (e : ExprTree) (at : ℕ) → Outcome s e → Outcome s (Not e at)
not_outcome s e at (means t p h) = not_of s e at t p h
not_outcome s e at (breaks f p h) = breaks f (rw p refl) (rule.in_not e at f h)

-- Operators of two operands.
joins_outcome : (s : Scope) (o : BinOp) (l r : ExprTree) (at : ℕ) (t u : Typed) (j : Result Typed CheckErr)
    → Means s l t
    → IsLeft o t
    → Means s r u
    → IsOperand u
    → infer s (Bin o l r at) ≡ j
    → Joins s o l r at j
    → Outcome s (Bin o l r at)
joins_outcome s o l r at t u _ h i k j q (has_meaning v m) = means v q m
joins_outcome s o l r at t u _ h i k j q (no_line takes) =
    breaks (broken.NotLinear at) q (rule.not_linear o l r at takes (no_meaning s (Bin o l r at) (broken.NotLinear at) q))
joins_outcome s o l r at t u _ h i k j q (no_kinds takes_none) =
    breaks (broken.Kind at) q (rule.wrong_kinds o l r at t u h i k j takes_none (no_meaning s (Bin o l r at) (broken.Kind at) q))

right_outcome : (s : Scope) (o : BinOp) (l r : ExprTree) (at : ℕ) (t u : Typed) → infer s l ≡ Ok t → Means s l t → IsLeft o t → infer s r ≡ Ok u → Means s r u → IsOperand u ⊎ (IsOperand u → ⊥) → Outcome s (Bin o l r at)
right_outcome s o l r at t u p h i q k (inl j) = joins_outcome s o l r at t u (joined o at t u) h i k j (bin_outcome s o l r at t u p i q j) (joins s o l r at t u h k)
right_outcome s o l r at t u p h i q k (inr j) =
    breaks (broken.Kind (place r)) (rw (p, left_passes o (place l) t i, q, no_operand (place r) u j) refl) (rule.right_cell o l r at t u h i k j)

left_outcome : (s : Scope) (o : BinOp) (l r : ExprTree) (at : ℕ) (t : Typed) → infer s l ≡ Ok t → Means s l t → IsLeft o t ⊎ (IsLeft o t → ⊥) → Outcome s r → Outcome s (Bin o l r at)
left_outcome s o l r at t p h (inr i) right = breaks (broken.Kind (place l)) (rw (p, no_left o (place l) t i) refl) (rule.left_cell o l r at t h i)
left_outcome s o l r at t p h (inl i) (means u q k) = right_outcome s o l r at t u p h i q k (is_operand_or_not u)
left_outcome s o l r at t p h (inl i) (breaks f q k) = breaks f (rw (p, left_passes o (place l) t i, q) refl) (rule.in_right o l r at t f h i k)

two_outcome : (s : Scope) (o : BinOp) (l r : ExprTree) (at : ℕ) → Outcome s l → Outcome s r → Outcome s (Bin o l r at)
two_outcome s o l r at (means t p h) right = left_outcome s o l r at t p h (is_left_or_not o t) right
two_outcome s o l r at (breaks f p h) right = breaks f (rw p refl) (rule.in_left o l r at f h)

-- Calls: a call on a hold cell,
values_called : (s : Scope) (x : Name) (e : ExprTree) (es : ExprsTree) (t c : ℕ) (params ks js : List KindPlan) (others : List Located)
    → Stands s x (meaning.Test t params)
    → Means s e (HoldCell c ks)
    → infer s (Call x (More e es)) ≡ called_on x.at (record { test = t; params = params }) (record { first = record { at = place e; typed = HoldCell c ks }; others = others }) (HoldCell c ks)
    → AreFound s es others
    → params ≡ ks ++ js
    → length others ≡ length js
    → ValuesOutcome s js es others
    → Outcome s (Call x (More e es))
values_called s x e es t c params ks js others st h q a split n (value_is_wrong at p w) =
    breaks (broken.Kind at)
    (q ∙ right_cell_called x.at (record { test = t; params = params }) (record { first = record { at = place e; typed = HoldCell c ks }; others = others }) c ks js (kind_at at) split n p)
    (rule.wrong_call x e es t (length others) at params st (found_operands s es others a) (rule.wrong_argument e es c ks js at h split (sym n) w))
values_called s x e es t c params ks js others st h q a split n (values_are vs p v) =
    means (Truth (cond.Test t c vs))
    (q ∙ right_cell_called x.at (record { test = t; params = params }) (record { first = record { at = place e; typed = HoldCell c ks }; others = others }) c ks js (Ok vs) split n p)
    (called s x e es t c params ks js vs st split h v)
  where
    called : (s : Scope) (x : Name) (e : ExprTree) (es : ExprsTree) (t c : ℕ) (params ks js : List KindPlan) (vs : List FixedPlan)
        → Stands s x (meaning.Test t params)
        → params ≡ ks ++ js
        → Means s e (HoldCell c ks)
        → AreValues s js es vs
        → Means s (Call x (More e es)) (Truth (cond.Test t c vs))
    called s x _ es t c params ks js vs st split (typing.hold_cell h _ _ sh) v =
        let P : List KindPlan → Type 0 = λ ps. Stands s x (meaning.Test t ps) in
        typing.truth _ _ (typing.call x h es t c ks js vs (subst P split st) sh v)

cells_called : (s : Scope) (x : Name) (e : ExprTree) (es : ExprsTree) (t c : ℕ) (params ks : List KindPlan) (others : List Located) (b : Bool)
    → Stands s x (meaning.Test t params)
    → Means s e (HoldCell c ks)
    → infer s (Call x (More e es)) ≡ called_on x.at (record { test = t; params = params }) (record { first = record { at = place e; typed = HoldCell c ks }; others = others }) (HoldCell c ks)
    → AreFound s es others
    → length others ≡ length params - length ks
    → pointwise same_kind ks (take (length ks) params) ≡ b
    → Outcome s (Call x (More e es))
cells_called s x e es t c params ks others false st h q a n p =
    let other : ks ≢ take (length ks) params = λ same. absurd (true≢false (sym (same_kinds ks (take (length ks) params) same) ∙ p)) in
    breaks (broken.Kind (place e))
    (q ∙ wrong_cell_called x.at (record { test = t; params = params }) (record { first = record { at = place e; typed = HoldCell c ks }; others = others }) c ks n other)
    (rule.wrong_call x e es t (length others) (place e) params st (found_operands s es others a) (rule.wrong_cell e es c ks h n other))
cells_called s x e es t c params ks others true st h q a n p =
    let same : ks ≡ take (length ks) params = kinds_are_same ks (take (length ks) params) p in
    let split : params ≡ ks ++ drop (length ks) params = sym (take-append-drop (length ks) params) ∙ ap (λ (front : List KindPlan). front ++ drop (length ks) params) (sym same) in
    let many : length others ≡ length (drop (length ks) params) = n ∙ sym (length-drop (length ks) params) in
    values_called s x e es t c params ks (drop (length ks) params) others st h q a split many (values_outcome s (drop (length ks) params) es others a many)

hold_called : (s : Scope) (x : Name) (e : ExprTree) (es : ExprsTree) (t c : ℕ) (params ks : List KindPlan) (others : List Located) (b : Bool)
    → Stands s x (meaning.Test t params)
    → Means s e (HoldCell c ks)
    → infer s (Call x (More e es)) ≡ called_on x.at (record { test = t; params = params }) (record { first = record { at = place e; typed = HoldCell c ks }; others = others }) (HoldCell c ks)
    → AreFound s es others
    → (length others == length params - length ks) ≡ b
    → Outcome s (Call x (More e es))
hold_called s x e es t c params ks others true st h q a p =
    cells_called s x e es t c params ks others (pointwise same_kind ks (take (length ks) params)) st h q a (numbers_are_same (length others) (length params - length ks) p) refl
hold_called s x e es t c params ks others false st h q a p =
    let other : length others ≢ length params - length ks = λ same. absurd (true≢false (sym (same_number (length others) (length params - length ks) same) ∙ p)) in
    breaks (broken.Kind x.at)
    (q ∙ wrong_number_called x.at (record { test = t; params = params }) (record { first = record { at = place e; typed = HoldCell c ks }; others = others }) c ks other)
    (rule.wrong_call x e es t (length others) x.at params st (found_operands s es others a) (rule.wrong_number e es c ks h other))

-- and on anything else,
other_called : (s : Scope) (x : Name) (e : ExprTree) (es : ExprsTree) (t : ℕ) (params : List KindPlan) (u : Typed) (others : List Located)
    → Stands s x (meaning.Test t params)
    → Means s e u
    → IsOperand u
    → AreFound s es others
    → infer s (Call x (More e es)) ≡ kind_at (place e)
    → Outcome s (Call x (More e es))
other_called s x e es t params u others st h i a q =
    breaks (broken.Kind (place e)) q (rule.wrong_call x e es t (length others) (place e) params st (found_operands s es others a) (rule.no_hold_cell e es u h i))

first_called : (s : Scope) (x : Name) (e : ExprTree) (es : ExprsTree) (t : ℕ) (params : List KindPlan) (u : Typed) (others : List Located)
    → Stands s x (meaning.Test t params)
    → Means s e u
    → IsFirst u
    → AreFound s es others
    → infer s (Call x (More e es)) ≡ called_on x.at (record { test = t; params = params }) (record { first = record { at = place e; typed = u }; others = others }) u
    → Outcome s (Call x (More e es))
first_called s x e es t params (Number n) others st h i a q = other_called s x e es t params (Number n) others st h tt a q
first_called s x e es t params (Word w) others st h i a q = other_called s x e es t params (Word w) others st h tt a q
first_called s x e es t params (Label enum l) others st h i a q = other_called s x e es t params (Label enum l) others st h tt a q
first_called s x e es t params (EnumCell c enum) others st h i a q = absurd i
first_called s x e es t params (HoldCell c ks) others st h i a q = hold_called s x e es t c params ks others (length others == length params - length ks) st h q a refl
first_called s x e es t params (Truth c) others st h i a q = other_called s x e es t params (Truth c) others st h tt a q

-- after the rules inside the arguments,
others_called : (s : Scope) (x : Name) (e : ExprTree) (es : ExprsTree) (t : ℕ) (params : List KindPlan) (u : Typed)
    → Stands s x (meaning.Test t params)
    → infer s e ≡ Ok u
    → Means s e u
    → IsFirst u ⊎ (IsFirst u → ⊥)
    → OperandsOutcome s es
    → Outcome s (Call x (More e es))
others_called s x e es t params u st p h (inr i) others =
    breaks (broken.Kind (place e)) (rw (st.found, p, no_first (place e) u i) refl) (rule.first_cell x e es t params u st h i)
others_called s x e es t params u st p h (inl i) (found others q a) = first_called s x e es t params u others st h i a (call_outcome s x e es t params u others st p i q)
others_called s x e es t params u st p h (inl i) (unfound f q b) = breaks f (rw (st.found, p, first_passes (place e) u i, q) refl) (rule.in_others x e es t params u f st h i b)

arguments_called : (s : Scope) (x : Name) (e : ExprTree) (es : ExprsTree) (t : ℕ) (params : List KindPlan) → Stands s x (meaning.Test t params) → Outcome s e → OperandsOutcome s es → Outcome s (Call x (More e es))
arguments_called s x e es t params st (means u p h) others = others_called s x e es t params u st p h (is_first_or_not u) others
arguments_called s x e es t params st (breaks f p h) others = breaks f (rw (st.found, p) refl) (rule.in_first x e es t params f st h)

-- which come after those on the name.
unknown_called : (s : Scope) (x : Name) (es : ExprsTree) → find s x.text ≡ None → Outcome s (Call x es)
unknown_called s x es p = breaks (broken.Name x.at) (rw p refl) (rule.unknown_call x es (record { missing = p }))

no_test_called : (s : Scope) (x : Name) (es : ExprsTree) (m : Meaning) → find s x.text ≡ Some m → test_named x.at (Some m) ≡ kind_at x.at → ((t : ℕ) (params : List KindPlan) → m ≡ meaning.Test t params → ⊥) → Outcome s (Call x es)
no_test_called s x es m p q no_test = breaks (broken.Kind x.at) (rw (p, q) refl) (rule.no_test x es m (record { found = p }) no_test)

called_outcome : (s : Scope) (x : Name) (es : ExprsTree) (o : Option Meaning) → find s x.text ≡ o → ((t : ℕ) (params : List KindPlan) → Stands s x (meaning.Test t params) → Outcome s (Call x es)) → Outcome s (Call x es)
called_outcome s x es None p go = unknown_called s x es p
called_outcome s x es (Some meaning.Unfinished) p go = no_test_called s x es meaning.Unfinished p refl (λ t ps e. cc)
called_outcome s x es (Some (meaning.Enum enum)) p go = no_test_called s x es (meaning.Enum enum) p refl (λ t ps e. cc)
called_outcome s x es (Some (meaning.Label enum l)) p go = no_test_called s x es (meaning.Label enum l) p refl (λ t ps e. cc)
called_outcome s x es (Some (meaning.Value k v)) p go = no_test_called s x es (meaning.Value k v) p refl (λ t ps e. cc)
called_outcome s x es (Some (meaning.IntCell c)) p go = no_test_called s x es (meaning.IntCell c) p refl (λ t ps e. cc)
called_outcome s x es (Some (meaning.EnumCell c enum)) p go = no_test_called s x es (meaning.EnumCell c enum) p refl (λ t ps e. cc)
called_outcome s x es (Some (meaning.HoldCell c ks)) p go = no_test_called s x es (meaning.HoldCell c ks) p refl (λ t ps e. cc)
called_outcome s x es (Some (meaning.NumsCell c)) p go = no_test_called s x es (meaning.NumsCell c) p refl (λ t ps e. cc)
called_outcome s x es (Some (meaning.WordsCell c)) p go = no_test_called s x es (meaning.WordsCell c) p refl (λ t ps e. cc)
called_outcome s x es (Some (meaning.Test t ks)) p go = go t ks (record { found = p })

end_called : (s : Scope) (x : Name) (t : ℕ) (params : List KindPlan) → Stands s x (meaning.Test t params) → Outcome s (Call x End)
end_called s x t params st = breaks (broken.Kind x.at) (rw st.found refl) (rule.no_arguments x t params st)

-- Operands one after the other.
operand_then : (s : Scope) (e : ExprTree) (es : ExprsTree) (t : Typed) → infer s e ≡ Ok t → Means s e t → IsOperand t ⊎ (IsOperand t → ⊥) → OperandsOutcome s es → OperandsOutcome s (More e es)
operand_then s e es t p h (inr i) rest = unfound (broken.Kind (place e)) (rw (p, no_operand (place e) t i) refl) (rule.operand_cell e es t h i)
operand_then s e es t p h (inl i) (found others q a) =
    found (record { at = place e; typed = t } ∷ others) (rw (p, operand_passes (place e) t i, q) refl) (more_found e es t others h i a)
operand_then s e es t p h (inl i) (unfound f q b) = unfound f (rw (p, operand_passes (place e) t i, q) refl) (rule.in_rest e es t f h i b)

operands_then : (s : Scope) (e : ExprTree) (es : ExprsTree) → Outcome s e → OperandsOutcome s es → OperandsOutcome s (More e es)
operands_then s e es (means t p h) rest = operand_then s e es t p h (is_operand_or_not t) rest
operands_then s e es (breaks f p h) rest = unfound f (rw p refl) (rule.in_operand e es f h)

mutual
  pub outcome : (s : Scope) (e : ExprTree) → Outcome s e
  outcome s (Num n at) = means (Number (line.OfNum (fixed.Lit n))) refl (typing.number (Num n at) _ (typing.fixed_term (Num n at) _ (typing.numeral n at)))
  outcome s (Words t at) = means (Word (word.Lit t)) refl (typing.of_word (Words t at) _ (typing.text t at))
  outcome s (Named x) = named_outcome s x (find s x.text) refl
  outcome s (Call x End) = called_outcome s x End (find s x.text) refl (end_called s x)
  outcome s (Call x (More e es)) =
      let first : Outcome s e = outcome s e in
      let others : OperandsOutcome s es = operands_outcome s es in
      called_outcome s x (More e es) (find s x.text) refl (λ t params st. arguments_called s x e es t params st first others)
  outcome s (Neg e at) = neg_outcome s e at (outcome s e)
  outcome s (Not e at) = not_outcome s e at (outcome s e)
  outcome s (Bin o l r at) = two_outcome s o l r at (outcome s l) (outcome s r)

  pub operands_outcome : (s : Scope) (es : ExprsTree) → OperandsOutcome s es
  operands_outcome s End = found [] refl none_found
  operands_outcome s (More e es) = operands_then s e es (outcome s e) (operands_outcome s es)
