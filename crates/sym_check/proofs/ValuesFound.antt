-- Operands one after the other, and values of kinds among them.
use Rattle.std.proofs.Common.{◌≡◌, refl, sym, subst, ap, ◌∙◌, ℕ, suc, one-add, Bool, true, false, List, [], ◌∷◌, length, Ok, Err}
use Rattle.std.specs.Prelude.{◌==◌}
use Rattle.sym_base.specs.Trees.{ExprTree, ExprsTree, End, More}
use Rattle.sym_check.specs.declared.plan.expression.LabelOf.{LabelOf}
use Rattle.sym_check.specs.declared.plan.script.KindPlan.{KindPlan}
use Rattle.sym_check.specs.declared.plan.script.KindPlan.TheVariants as kind
use Rattle.sym_check.specs.Plan.FixedPlans.{FixedPlan}
use Rattle.sym_check.specs.Plan.FixedPlans as fixed
use Rattle.sym_check.specs.Plan.LinePlans as line
use Rattle.sym_check.specs.declared.elaborate.error.CheckErr.{CheckErr}
use Rattle.sym_check.specs.Rules.Scopes.{Scope}
use Rattle.sym_check.specs.Rules.Typing.{Typed, Number, Word, Label, EnumCell, HoldCell, Truth, IsLabel, IsValue, AreValues, Means}
use Rattle.sym_check.specs.Rules.Typing as typing
use Rattle.sym_check.specs.Breaks.Expressions.{place, IsOperand, AreOperands, WrongValue, BreaksOperands}
use Rattle.sym_check.specs.Breaks.Expressions as rule
use Rattle.sym_check.specs.Elaborate.Expressions.{kind_at, Located, value_of, values_of, infer, operands}
use Rattle.sym_check.proofs.SameKinds.{numbers_are_same}
use Rattle.sym_check.proofs.OperandOutcomes.{operand_passes}
use Rattle.sym_check.proofs.ExpressionsComplete.{ValueInferred, value_inferred, means_inferred}
use Rattle.sym_check.proofs.OperatorsFound.{is_num, is_word, is_label}

-- What operands stand for, each with its place.
pub data AreFound (s : Scope) : ExprsTree → List Located → Type 0 where
  none_found : AreFound s End []
  more_found : (e : ExprTree) (es : ExprsTree) (t : Typed) (others : List Located)
      → Means s e t
      → IsOperand t
      → AreFound s es others
      → AreFound s (More e es) (record { at = place e; typed = t } ∷ others)

pub found_inferred : (s : Scope) (es : ExprsTree) (found : List Located) → AreFound s es found → operands s es ≡ Ok found
found_inferred s _ _ none_found = refl
found_inferred s _ _ (more_found e es t others h i k) = rw (means_inferred s e t h, operand_passes (place e) t i, found_inferred s es others k) refl

pub found_operands : (s : Scope) (es : ExprsTree) (found : List Located) → AreFound s es found → AreOperands s es (length found)
found_operands s _ _ none_found = rule.none
found_operands s _ _ (more_found e es t others h i k) =
    let P : ℕ → Type 0 = AreOperands s (More e es) in
    subst P (one-add (length others)) (rule.more e es t (length others) h i (found_operands s es others k))

pub record OperandsFound (s : Scope) (es : ExprsTree) (n : ℕ) : Type 0 where
  pub located : List Located
  pub found : AreFound s es located
  pub many : length located ≡ n

pub operands_found : (s : Scope) (es : ExprsTree) (n : ℕ) → AreOperands s es n → OperandsFound s es n
operands_found s _ _ rule.none = record { located = []; found = none_found; many = refl }
operands_found s _ _ (rule.more e es t n h i k) =
    let rest : OperandsFound s es n = operands_found s es n k in
    record { located = record { at = place e; typed = t } ∷ rest.located; found = more_found e es t rest.located h i rest.found; many = ap suc rest.many ∙ sym (one-add n) }

-- What stands for something is a value of the kind, or has none.
pub data ValueOutcome (s : Scope) (k : KindPlan) (e : ExprTree) (t : Typed) : Type 0 where
  a_value : (v : FixedPlan) → value_of k (record { at = place e; typed = t }) ≡ Ok v → IsValue s k e v → ValueOutcome s k e t
  wrong_value : value_of k (record { at = place e; typed = t }) ≡ kind_at (place e) → ((v : FixedPlan) → IsValue s k e v → ⊥) → ValueOutcome s k e t

refused_value : (s : Scope) (k : KindPlan) (e : ExprTree) (t : Typed) (f : CheckErr) → Means s e t → value_of k (record { at = place e; typed = t }) ≡ Err f → (v : FixedPlan) → IsValue s k e v → ⊥
refused_value s k e t f h p v i =
    let r : ValueInferred s k e v = value_inferred s k e v i in
    let q : infer s e ≡ Ok t = means_inferred s e t h in
    let same : r.typed ≡ t = cc (r.inferred, q) in
    let P : Typed → Type 0 = λ u. value_of k (record { at = place e; typed = u }) ≡ Ok v in
    let both : value_of k (record { at = place e; typed = t }) ≡ Ok v = subst P same r.is_value in
    cc (p, both)

value_refused : (s : Scope) (k : KindPlan) (e : ExprTree) (t : Typed) → Means s e t → value_of k (record { at = place e; typed = t }) ≡ kind_at (place e) → ValueOutcome s k e t
value_refused s k e t h p = wrong_value p (refused_value s k e t _ h p)

label_by_enum : (s : Scope) (e : ExprTree) (enum other : ℕ) (l : LabelOf) (b : Bool) → (enum == other) ≡ b → Means s e (Label other l) → ValueOutcome s (kind.Label enum) e (Label other l)
label_by_enum s e enum other l true p h =
    let P : ℕ → Type 0 = λ n. IsLabel s n e l in
    a_value (fixed.OfLabel l) (rw p refl) (typing.label_value enum e l (subst P (sym (numbers_are_same enum other p)) (is_label s e other l h)))
label_by_enum s e enum other l false p h = value_refused s (kind.Label enum) e (Label other l) h (rw p refl)

pub value_outcome : (s : Scope) (k : KindPlan) (e : ExprTree) (t : Typed) → Means s e t → ValueOutcome s k e t
value_outcome s kind.Num e (Number (line.OfNum n)) h = a_value (fixed.OfNum n) refl (typing.num_value e n (is_num s e n h))
value_outcome s kind.Word e (Word w) h = a_value (fixed.OfWord w) refl (typing.word_value e w (is_word s e w h))
value_outcome s (kind.Label enum) e (Label other l) h = label_by_enum s e enum other l (enum == other) refl h
value_outcome s k e t h = value_refused s k e t h refl

-- Values of kinds, or the first that isn't one.
pub data ValuesOutcome (s : Scope) (ks : List KindPlan) (es : ExprsTree) (found : List Located) : Type 0 where
  values_are : (vs : List FixedPlan) → values_of ks found ≡ Ok vs → AreValues s ks es vs → ValuesOutcome s ks es found
  value_is_wrong : (at : ℕ) → values_of ks found ≡ kind_at at → WrongValue s ks es at → ValuesOutcome s ks es found

values_step : (s : Scope) (k : KindPlan) (ks : List KindPlan) (e : ExprTree) (es : ExprsTree) (t : Typed) (others : List Located) → ValueOutcome s k e t → ValuesOutcome s ks es others
    → ValuesOutcome s (k ∷ ks) (More e es) (record { at = place e; typed = t } ∷ others)
values_step s k ks e es t others (wrong_value p no_v) rest = value_is_wrong (place e) (rw p refl) (rule.here k ks e es no_v)
values_step s k ks e es t others (a_value v p h) (values_are vs q i) = values_are (v ∷ vs) (rw (p, q) refl) (typing.more_values k ks e es v vs h i)
values_step s k ks e es t others (a_value v p h) (value_is_wrong at q i) = value_is_wrong at (rw (p, q) refl) (rule.later k ks e es v at h i)

pub values_outcome : (s : Scope) (ks : List KindPlan) (es : ExprsTree) (found : List Located) → AreFound s es found → length found ≡ length ks → ValuesOutcome s ks es found
values_outcome s [] _ _ none_found n = values_are [] refl typing.no_values
values_outcome s (k ∷ ks) _ _ none_found n = absurd (cc)
values_outcome s [] _ _ (more_found e es t others h i j) n = absurd (cc)
values_outcome s (k ∷ ks) _ _ (more_found e es t others h i j) n =
    let rest : length others ≡ length ks = cc in
    values_step s k ks e es t others (value_outcome s k e t h) (values_outcome s ks es others j rest)

-- The first wrong value is where the function stops.
wrong_first : (s : Scope) (k : KindPlan) (ks : List KindPlan) (e : ExprTree) (t : Typed) (others : List Located) → ValueOutcome s k e t → ((v : FixedPlan) → IsValue s k e v → ⊥)
    → values_of (k ∷ ks) (record { at = place e; typed = t } ∷ others) ≡ kind_at (place e)
wrong_first s k ks e t others (a_value v p h) no_v = absurd (no_v v h)
wrong_first s k ks e t others (wrong_value p h) no_v = rw p refl

right_first : (s : Scope) (k : KindPlan) (ks : List KindPlan) (e : ExprTree) (t : Typed) (others : List Located) (v : FixedPlan) (at : ℕ) → ValueInferred s k e v → infer s e ≡ Ok t → values_of ks others ≡ kind_at at
    → values_of (k ∷ ks) (record { at = place e; typed = t } ∷ others) ≡ kind_at at
right_first s k ks e t others v at r p q =
    let same : r.typed ≡ t = cc (r.inferred, p) in
    let P : Typed → Type 0 = λ u. value_of k (record { at = place e; typed = u }) ≡ Ok v in
    rw (subst P same r.is_value, q) refl

pub wrong_values_inferred : (s : Scope) (ks : List KindPlan) (es : ExprsTree) (at : ℕ) (found : List Located) → AreFound s es found → WrongValue s ks es at → values_of ks found ≡ kind_at at
wrong_values_inferred s ks _ at _ none_found w = elim w [ ]
wrong_values_inferred s _ _ _ _ (more_found e es t others h i j) (rule.here k ks _ _ no_v) = wrong_first s k ks e t others (value_outcome s k e t h) no_v
wrong_values_inferred s _ _ _ _ (more_found e es t others h i j) (rule.later k ks _ _ v at a w) =
    right_first s k ks e t others v at (value_inferred s k e v a) (means_inferred s e t h) (wrong_values_inferred s ks es at others j w)
