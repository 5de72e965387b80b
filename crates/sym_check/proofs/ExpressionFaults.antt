-- The first broken rule in an expression is what the function answers.
use Rattle.std.proofs.Common.{◌≡◌, refl, sym, ap, ◌∙◌, ℕ, List, Some, Result, Ok, Err}
use Rattle.sym_base.specs.declared.tree.name.Name.{Name}
use Rattle.sym_base.specs.declared.tree.expression.BinOp.{BinOp}
use Rattle.sym_base.specs.Trees.{ExprTree, Named, Call, Neg, Not, Bin, ExprsTree, More}
use Rattle.sym_check.specs.declared.plan.script.KindPlan.{KindPlan}
use Rattle.sym_check.specs.declared.elaborate.error.CheckErr.{CheckErr}
use Rattle.sym_check.specs.declared.elaborate.error.CheckErr.TheVariants as broken
use Rattle.sym_check.specs.declared.elaborate.scope.Meaning.{Meaning}
use Rattle.sym_check.specs.declared.elaborate.scope.Meaning.TheVariants as meaning
use Rattle.sym_check.specs.Rules.Scopes.{Scope, Stands}
use Rattle.sym_check.specs.Rules.Typing.{Typed, Number, Word, Label, EnumCell, HoldCell, Truth, Means, HasMeaning}
use Rattle.sym_check.specs.Rules.Typing as typing
use Rattle.sym_check.specs.Breaks.Expressions.{place, IsOperand, IsLeft, IsFirst, TakesNumbers, AreOperands, WrongCall, Breaks, BreaksOperands}
use Rattle.sym_check.specs.Breaks.Expressions as rule
use Rattle.sym_check.specs.Elaborate.Expressions.{kind_at, TestNamed, Arguments, test_named, negated, inverted, called_on, joined, infer, operands}
use Rattle.sym_check.proofs.OperandOutcomes.{operand_passes, no_operand, first_passes, no_first, left_passes, no_left, bin_outcome}
use Rattle.sym_check.proofs.CallOutcomes.{call_outcome, wrong_number_called, wrong_cell_called, right_cell_called}
use Rattle.sym_check.proofs.ExpressionsComplete.{means_inferred}
use Rattle.sym_check.proofs.OperatorsFound.{Joins, has_meaning, no_line, no_kinds, joins}
use Rattle.sym_check.proofs.ValuesFound.{OperandsFound, operands_found, found_inferred, wrong_values_inferred}
use Rattle.sym_check.proofs.ExpressionsFound.{Outcome, means, breaks, outcome}

-- A name that stands for something, but for no value.
named_fault : (s : Scope) (x : Name) (m : Meaning) (f : CheckErr) → Stands s x m → Breaks s (Named x) f → f ≡ broken.Kind x.at
named_fault s x m _ st (rule.unknown _ free) = let found = st.found in let missing = free.missing in cc
named_fault s x m _ st (rule.no_value _ other _ no_meaning) = refl

named_refused : (s : Scope) (x : Name) (m : Meaning) → Stands s x m → (HasMeaning s (Named x) → ⊥) → Outcome s (Named x) → infer s (Named x) ≡ kind_at x.at
named_refused s x m st no_meaning (means t p h) = absurd (no_meaning (t, h))
named_refused s x m st no_meaning (breaks f p b) = p ∙ ap Err (named_fault s x m f st b)

-- The operators of one operand have one fault.
negated_fault : (at : ℕ) (t : Typed) (f : CheckErr) → negated at t ≡ Err f → f ≡ broken.Kind at
negated_fault at (Number t) f e = absurd (cc)
negated_fault at t f e = cc

inverted_fault : (at : ℕ) (t : Typed) (f : CheckErr) → inverted at t ≡ Err f → f ≡ broken.Kind at
inverted_fault at (Truth c) f e = absurd (cc)
inverted_fault at t f e = cc

neg_is : (s : Scope) (e : ExprTree) (at : ℕ) (t : Typed) → infer s e ≡ Ok t → IsOperand t → infer s (Neg e at) ≡ negated at t
neg_is s e at t p i = rw (p, operand_passes (place e) t i) refl

not_is : (s : Scope) (e : ExprTree) (at : ℕ) (t : Typed) → infer s e ≡ Ok t → IsOperand t → infer s (Not e at) ≡ inverted at t
not_is s e at t p i = rw (p, operand_passes (place e) t i) refl

only_fault : (s : Scope) (e : ExprTree) (r : Result Typed CheckErr) (g : CheckErr) → infer s e ≡ r → ((f : CheckErr) → r ≡ Err f → f ≡ g) → (HasMeaning s e → ⊥) → Outcome s e → infer s e ≡ Err g
only_fault s e r g q faults no_meaning (means t p h) = absurd (no_meaning (t, h))
only_fault s e r g q faults no_meaning (breaks f p h) = p ∙ ap Err (faults f (sym q ∙ p))

-- The operators of two operands.
no_line_inferred : (s : Scope) (o : BinOp) (l r : ExprTree) (at : ℕ) (j : Result Typed CheckErr) → TakesNumbers s o l r → (HasMeaning s (Bin o l r at) → ⊥) → Joins s o l r at j → j ≡ Err (broken.NotLinear at)
no_line_inferred s o l r at _ takes no_meaning (has_meaning v m) = absurd (no_meaning (v, m))
no_line_inferred s o l r at _ takes no_meaning (no_line other) = refl
no_line_inferred s o l r at _ takes no_meaning (no_kinds takes_none) = absurd (takes_none takes)

no_kinds_inferred : (s : Scope) (o : BinOp) (l r : ExprTree) (at : ℕ) (j : Result Typed CheckErr) → (TakesNumbers s o l r → ⊥) → (HasMeaning s (Bin o l r at) → ⊥) → Joins s o l r at j → j ≡ kind_at at
no_kinds_inferred s o l r at _ takes_none no_meaning (has_meaning v m) = absurd (no_meaning (v, m))
no_kinds_inferred s o l r at _ takes_none no_meaning (no_line takes) = absurd (takes_none takes)
no_kinds_inferred s o l r at _ takes_none no_meaning (no_kinds other) = refl

-- Calls.
no_test_named : (at : ℕ) (m : Meaning) → ((t : ℕ) (params : List KindPlan) → m ≡ meaning.Test t params → ⊥) → test_named at (Some m) ≡ kind_at at
no_test_named at (meaning.Test t params) no_test = absurd (no_test t params refl)
no_test_named at _ no_test = refl

operand_is_first : (u : Typed) → IsOperand u → IsFirst u
operand_is_first (Number t) i = tt
operand_is_first (Word w) i = tt
operand_is_first (Label enum l) i = tt
operand_is_first (EnumCell c enum) i = absurd i
operand_is_first (HoldCell c ks) i = absurd i
operand_is_first (Truth c) i = tt

called_on_operand : (at : ℕ) (test : TestNamed) (args : Arguments) (u : Typed) → IsOperand u → called_on at test args u ≡ kind_at args.first.at
called_on_operand at test args (HoldCell c ks) i = absurd i
called_on_operand at test args u i = refl

wrong_call_inferred : (s : Scope) (x : Name) (e : ExprTree) (es : ExprsTree) (t n at : ℕ) (params : List KindPlan)
    → Stands s x (meaning.Test t params)
    → OperandsFound s es n
    → WrongCall s x params n e es at
    → infer s (Call x (More e es)) ≡ kind_at at
wrong_call_inferred s x _ _ t n _ params st others (rule.no_hold_cell e es u h i) =
    call_outcome s x e es t params u others.located st (means_inferred s e u h) (operand_is_first u i) (found_inferred s es others.located others.found)
    ∙ called_on_operand x.at (record { test = t; params = params }) (record { first = record { at = place e; typed = u }; others = others.located }) u i
wrong_call_inferred s x _ _ t n _ params st others (rule.wrong_number e es c ks h differs) =
    call_outcome s x e es t params (HoldCell c ks) others.located st (means_inferred s e (HoldCell c ks) h) tt (found_inferred s es others.located others.found)
    ∙ wrong_number_called x.at (record { test = t; params = params }) (record { first = record { at = place e; typed = HoldCell c ks }; others = others.located }) c ks (λ same. differs (sym others.many ∙ same))
wrong_call_inferred s x _ _ t n _ params st others (rule.wrong_cell e es c ks h same differs) =
    call_outcome s x e es t params (HoldCell c ks) others.located st (means_inferred s e (HoldCell c ks) h) tt (found_inferred s es others.located others.found)
    ∙ wrong_cell_called x.at (record { test = t; params = params }) (record { first = record { at = place e; typed = HoldCell c ks }; others = others.located }) c ks (others.many ∙ same) differs
wrong_call_inferred s x _ _ t n _ params st others (rule.wrong_argument e es c ks js at h split many w) =
    call_outcome s x e es t params (HoldCell c ks) others.located st (means_inferred s e (HoldCell c ks) h) tt (found_inferred s es others.located others.found)
    ∙ right_cell_called x.at (record { test = t; params = params }) (record { first = record { at = place e; typed = HoldCell c ks }; others = others.located }) c ks js (kind_at at) split (others.many ∙ sym many) (wrong_values_inferred s js es at others.located others.found w)

mutual
  pub breaks_inferred : (s : Scope) (e : ExprTree) (f : CheckErr) → Breaks s e f → infer s e ≡ Err f
  breaks_inferred s _ _ (rule.unknown x free) = rw free.missing refl
  breaks_inferred s _ _ (rule.no_value x m st no_meaning) = named_refused s x m st no_meaning (outcome s (Named x))
  breaks_inferred s _ _ (rule.in_negated e at f b) = rw (breaks_inferred s e f b) refl
  breaks_inferred s _ _ (rule.negated_cell e at t h i) = rw (means_inferred s e t h, no_operand (place e) t i) refl
  breaks_inferred s _ _ (rule.not_negated e at t h i no_meaning) =
      only_fault s (Neg e at) (negated at t) (broken.Kind at) (neg_is s e at t (means_inferred s e t h) i) (negated_fault at t) no_meaning (outcome s (Neg e at))
  breaks_inferred s _ _ (rule.in_not e at f b) = rw (breaks_inferred s e f b) refl
  breaks_inferred s _ _ (rule.not_cell e at t h i) = rw (means_inferred s e t h, no_operand (place e) t i) refl
  breaks_inferred s _ _ (rule.no_condition e at t h i no_meaning) =
      only_fault s (Not e at) (inverted at t) (broken.Kind at) (not_is s e at t (means_inferred s e t h) i) (inverted_fault at t) no_meaning (outcome s (Not e at))
  breaks_inferred s _ _ (rule.in_left o l r at f b) = rw (breaks_inferred s l f b) refl
  breaks_inferred s _ _ (rule.left_cell o l r at t h i) = rw (means_inferred s l t h, no_left o (place l) t i) refl
  breaks_inferred s _ _ (rule.in_right o l r at t f h i b) = rw (means_inferred s l t h, left_passes o (place l) t i, breaks_inferred s r f b) refl
  breaks_inferred s _ _ (rule.right_cell o l r at t u h i k j) = rw (means_inferred s l t h, left_passes o (place l) t i, means_inferred s r u k, no_operand (place r) u j) refl
  breaks_inferred s _ _ (rule.not_linear o l r at takes no_meaning) =
      let h : Means s l (Number takes.left) = typing.number l takes.left takes.is_left in
      let k : Means s r (Number takes.right) = typing.number r takes.right takes.is_right in
      bin_outcome s o l r at (Number takes.left) (Number takes.right) (means_inferred s l _ h) tt (means_inferred s r _ k) tt
      ∙ no_line_inferred s o l r at (joined o at (Number takes.left) (Number takes.right)) takes no_meaning (joins s o l r at (Number takes.left) (Number takes.right) h k)
  breaks_inferred s _ _ (rule.wrong_kinds o l r at t u h i k j takes_none no_meaning) =
      bin_outcome s o l r at t u (means_inferred s l t h) i (means_inferred s r u k) j
      ∙ no_kinds_inferred s o l r at (joined o at t u) takes_none no_meaning (joins s o l r at t u h k)
  breaks_inferred s _ _ (rule.unknown_call x es free) = rw free.missing refl
  breaks_inferred s _ _ (rule.no_test x es m st no_test) = rw (st.found, no_test_named x.at m no_test) refl
  breaks_inferred s _ _ (rule.no_arguments x t params st) = rw st.found refl
  breaks_inferred s _ _ (rule.in_first x e es t params f st b) = rw (st.found, breaks_inferred s e f b) refl
  breaks_inferred s _ _ (rule.first_cell x e es t params u st h i) = rw (st.found, means_inferred s e u h, no_first (place e) u i) refl
  breaks_inferred s _ _ (rule.in_others x e es t params u f st h i b) = rw (st.found, means_inferred s e u h, first_passes (place e) u i, breaks_operands_inferred s es f b) refl
  breaks_inferred s _ _ (rule.wrong_call x e es t n at params st a w) = wrong_call_inferred s x e es t n at params st (operands_found s es n a) w

  pub breaks_operands_inferred : (s : Scope) (es : ExprsTree) (f : CheckErr) → BreaksOperands s es f → operands s es ≡ Err f
  breaks_operands_inferred s _ _ (rule.in_operand e es f b) = rw (breaks_inferred s e f b) refl
  breaks_operands_inferred s _ _ (rule.operand_cell e es t h i) = rw (means_inferred s e t h, no_operand (place e) t i) refl
  breaks_operands_inferred s _ _ (rule.in_rest e es t f h i b) = rw (means_inferred s e t h, operand_passes (place e) t i, breaks_operands_inferred s es f b) refl
