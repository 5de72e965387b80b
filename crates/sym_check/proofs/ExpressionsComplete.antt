-- What an expression stands for is what the function answers.
use Rattle.std.proofs.Common.{◌≡◌, refl, ap, ◌∙◌, ℕ, suc, List, [], ◌∷◌, ◌++◌, length, Ok, Err}
use Rattle.sym_base.specs.declared.tree.expression.BinOp.TheVariants as op
use Rattle.sym_base.specs.Trees.{ExprTree, Named, ExprsTree}
use Rattle.sym_check.specs.declared.plan.expression.WordOf.{WordOf}
use Rattle.sym_check.specs.declared.plan.expression.LabelOf.{LabelOf}
use Rattle.sym_check.specs.declared.plan.script.KindPlan.{KindPlan}
use Rattle.sym_check.specs.Plan.FixedPlans.{NumPlan, FixedPlan}
use Rattle.sym_check.specs.Plan.LinePlans.{LinePlan, TermPlan}
use Rattle.sym_check.specs.Plan.LinePlans as line
use Rattle.sym_check.specs.Plan.CondPlans.{CondPlan}
use Rattle.sym_check.specs.declared.elaborate.error.CheckErr.{CheckErr}
use Rattle.sym_check.specs.Rules.Scopes.{Scope}
use Rattle.sym_check.specs.Rules.Typing.{Typed, Number, Word, Label, EnumCell, HoldCell, Truth, IsNum, IsWord, IsLabel, IsLine, IsTerm, IsValue, AreValues, IsCondition, Means, HasMeaning}
use Rattle.sym_check.specs.Rules.Typing as typing
use Rattle.sym_check.specs.Breaks.Expressions.{place, IsOperand}
use Rattle.sym_check.specs.Elaborate.Expressions.{Located, value_of, values_of, infer, operands}
use Rattle.sym_check.proofs.SameKinds.{same_number}
use Rattle.sym_check.proofs.CallOutcomes.{call_outcome, right_cell_called}
use Rattle.sym_check.proofs.OperandOutcomes.{operand_passes, bin_outcome, joined_numbers, joined_compared, joined_turned}

pub num_inferred : (s : Scope) (e : ExprTree) (n : NumPlan) → IsNum s e n → infer s e ≡ Ok (Number (line.OfNum n))
num_inferred s _ _ (typing.numeral n at) = refl
num_inferred s _ _ (typing.named x v h) = rw h.found refl
num_inferred s _ _ (typing.negative e at n h) = rw (num_inferred s e n h) refl
num_inferred s _ _ (typing.calculated o a l r at m n is h k) =
    bin_outcome s o l r at (Number (line.OfNum m)) (Number (line.OfNum n)) (num_inferred s l m h) tt (num_inferred s r n k) tt ∙ joined_numbers o a at m n is

pub word_inferred : (s : Scope) (e : ExprTree) (w : WordOf) → IsWord s e w → infer s e ≡ Ok (Word w)
word_inferred s _ _ (typing.text t at) = refl
word_inferred s _ _ (typing.word_named x v h) = rw h.found refl

pub label_inferred : (s : Scope) (enum : ℕ) (e : ExprTree) (l : LabelOf) → IsLabel s enum e l → infer s e ≡ Ok (Label enum l)
label_inferred s _ _ _ (typing.label_name x enum l h) = rw h.found refl
label_inferred s _ _ _ (typing.label_named x enum v h) = rw h.found refl

pub line_inferred : (s : Scope) (e : ExprTree) (k : LinePlan) → IsLine s e k → infer s e ≡ Ok (Number (line.OfLine k))
line_inferred s _ _ (typing.cell x c h) = rw h.found refl
line_inferred s _ _ (typing.opposite e at k h) = rw (line_inferred s e k h) refl
line_inferred s _ _ (typing.line_plus l r at k n h i) = bin_outcome s op.Add l r at (Number (line.OfLine k)) (Number (line.OfNum n)) (line_inferred s l k h) tt (num_inferred s r n i) tt
line_inferred s _ _ (typing.plus_line l r at n k h i) = bin_outcome s op.Add l r at (Number (line.OfNum n)) (Number (line.OfLine k)) (num_inferred s l n h) tt (line_inferred s r k i) tt
line_inferred s _ _ (typing.line_minus l r at k n h i) = bin_outcome s op.Sub l r at (Number (line.OfLine k)) (Number (line.OfNum n)) (line_inferred s l k h) tt (num_inferred s r n i) tt
line_inferred s _ _ (typing.minus_line l r at n k h i) = bin_outcome s op.Sub l r at (Number (line.OfNum n)) (Number (line.OfLine k)) (num_inferred s l n h) tt (line_inferred s r k i) tt
line_inferred s _ _ (typing.line_times l r at k n h i) = bin_outcome s op.Mul l r at (Number (line.OfLine k)) (Number (line.OfNum n)) (line_inferred s l k h) tt (num_inferred s r n i) tt
line_inferred s _ _ (typing.times_line l r at n k h i) = bin_outcome s op.Mul l r at (Number (line.OfNum n)) (Number (line.OfLine k)) (num_inferred s l n h) tt (line_inferred s r k i) tt

pub term_inferred : (s : Scope) (e : ExprTree) (t : TermPlan) → IsTerm s e t → infer s e ≡ Ok (Number t)
term_inferred s _ _ (typing.fixed_term e n h) = num_inferred s e n h
term_inferred s _ _ (typing.line_term e k h) = line_inferred s e k h

-- A value of a kind is an operand that is of this kind.
pub record ValueInferred (s : Scope) (k : KindPlan) (e : ExprTree) (v : FixedPlan) : Type 0 where
  pub typed : Typed
  pub inferred : infer s e ≡ Ok typed
  pub is_operand : IsOperand typed
  pub is_value : value_of k (record { at = place e; typed = typed }) ≡ Ok v

pub value_inferred : (s : Scope) (k : KindPlan) (e : ExprTree) (v : FixedPlan) → IsValue s k e v → ValueInferred s k e v
value_inferred s _ _ _ (typing.num_value e n h) = record { typed = Number (line.OfNum n); inferred = num_inferred s e n h; is_operand = tt; is_value = refl }
value_inferred s _ _ _ (typing.word_value e w h) = record { typed = Word w; inferred = word_inferred s e w h; is_operand = tt; is_value = refl }
value_inferred s _ _ _ (typing.label_value enum e l h) = record { typed = Label enum l; inferred = label_inferred s enum e l h; is_operand = tt; is_value = rw (same_number enum enum refl) refl }

-- Values are as many operands of these kinds.
pub record ValuesInferred (s : Scope) (ks : List KindPlan) (es : ExprsTree) (vs : List FixedPlan) : Type 0 where
  pub located : List Located
  pub inferred : operands s es ≡ Ok located
  pub many : length located ≡ length ks
  pub are_values : values_of ks located ≡ Ok vs

pub values_inferred : (s : Scope) (ks : List KindPlan) (es : ExprsTree) (vs : List FixedPlan) → AreValues s ks es vs → ValuesInferred s ks es vs
values_inferred s _ _ _ typing.no_values = record { located = []; inferred = refl; many = refl; are_values = refl }
values_inferred s _ _ _ (typing.more_values k ks e es v vs h i) =
    let first : ValueInferred s k e v = value_inferred s k e v h in
    let rest : ValuesInferred s ks es vs = values_inferred s ks es vs i in
    record {
      located = record { at = place e; typed = first.typed } ∷ rest.located;
      inferred = rw (first.inferred, operand_passes (place e) first.typed first.is_operand, rest.inferred) refl;
      many = ap suc rest.many;
      are_values = rw (first.is_value, rest.are_values) refl;
    }

pub condition_inferred : (s : Scope) (e : ExprTree) (c : CondPlan) → IsCondition s e c → infer s e ≡ Ok (Truth c)
condition_inferred s _ _ (typing.compared o c l r at t n is h k) =
    bin_outcome s o l r at (Number t) (Number (line.OfNum n)) (term_inferred s l t h) tt (num_inferred s r n k) tt ∙ joined_compared o c at t n is
condition_inferred s _ _ (typing.turned_round o c l r at n k is h i) =
    bin_outcome s o l r at (Number (line.OfNum n)) (Number (line.OfLine k)) (num_inferred s l n h) tt (line_inferred s r k i) tt ∙ joined_turned o c at n k is
condition_inferred s _ _ (typing.same_words l r at v w h k) = bin_outcome s op.Eq l r at (Word v) (Word w) (word_inferred s l v h) tt (word_inferred s r w k) tt
condition_inferred s _ _ (typing.other_words l r at v w h k) = bin_outcome s op.Ne l r at (Word v) (Word w) (word_inferred s l v h) tt (word_inferred s r w k) tt
condition_inferred s _ _ (typing.cell_is x r at c enum l h k) =
    bin_outcome s op.Is (Named x) r at (EnumCell c enum) (Label enum l) (rw h.found refl) refl (label_inferred s enum r l k) tt ∙ rw (same_number enum enum refl) refl
condition_inferred s _ _ (typing.label_is l r at enum m n h k) =
    bin_outcome s op.Is l r at (Label enum m) (Label enum n) (label_inferred s enum l m h) tt (label_inferred s enum r n k) tt ∙ rw (same_number enum enum refl) refl
condition_inferred s _ _ (typing.call x h es t c ks js vs st sh a) =
    let found : ValuesInferred s js es vs = values_inferred s js es vs a in
    call_outcome s x (Named h) es t (ks ++ js) (HoldCell c ks) found.located st (rw sh.found refl) tt found.inferred
    ∙ right_cell_called x.at (record { test = t; params = ks ++ js }) (record { first = record { at = h.at; typed = HoldCell c ks }; others = found.located }) c ks js (Ok vs) refl found.many found.are_values
condition_inferred s _ _ (typing.negation e at c h) = rw (condition_inferred s e c h) refl
condition_inferred s _ _ (typing.both l r at c d h k) = bin_outcome s op.And l r at (Truth c) (Truth d) (condition_inferred s l c h) tt (condition_inferred s r d k) tt
condition_inferred s _ _ (typing.either l r at c d h k) = bin_outcome s op.Or l r at (Truth c) (Truth d) (condition_inferred s l c h) tt (condition_inferred s r d k) tt

pub means_inferred : (s : Scope) (e : ExprTree) (t : Typed) → Means s e t → infer s e ≡ Ok t
means_inferred s _ _ (typing.number e t h) = term_inferred s e t h
means_inferred s _ _ (typing.of_word e w h) = word_inferred s e w h
means_inferred s _ _ (typing.of_label e enum l h) = label_inferred s enum e l h
means_inferred s _ _ (typing.enum_cell x c enum h) = rw h.found refl
means_inferred s _ _ (typing.hold_cell x c ks h) = rw h.found refl
means_inferred s _ _ (typing.truth e c h) = condition_inferred s e c h

-- So an expression stands for one thing at most, and for nothing where the function refuses it.
pub one_meaning : (s : Scope) (e : ExprTree) (t u : Typed) → Means s e t → Means s e u → t ≡ u
one_meaning s e t u h k =
    let p : infer s e ≡ Ok t = means_inferred s e t h in
    let q : infer s e ≡ Ok u = means_inferred s e u k in
    cc

pub no_meaning : (s : Scope) (e : ExprTree) (f : CheckErr) → infer s e ≡ Err f → HasMeaning s e → ⊥
no_meaning s e f p m = let q : infer s e ≡ Ok m.0 = means_inferred s e m.0 m.1 in cc
