-- The rules and the function agree on expressions: what an expression stands for is what the
-- function answers, and so is the first broken rule in it.
use Rattle.std.proofs.Common.{◌≡◌, subst, ℕ, ◌⊎◌, inl, inr, List, length, Ok, Err}
use Rattle.sym_base.specs.Trees.{ExprTree, ExprsTree}
use Rattle.sym_check.specs.declared.elaborate.error.CheckErr.{CheckErr}
use Rattle.sym_check.specs.Plan.CondPlans.{CondPlan}
use Rattle.sym_check.specs.Rules.Scopes.{Scope}
use Rattle.sym_check.specs.Rules.Typing.{Typed, Truth, Means, HasMeaning, IsCondition}
use Rattle.sym_check.specs.Breaks.Expressions.{AreOperands, Breaks, BreaksOperands}
use Rattle.sym_check.specs.Elaborate.Expressions.{Located, infer, operands}
use Rattle.sym_check.proofs.Agreements.{Agrees}
use Rattle.sym_check.proofs.ExpressionsComplete as complete
use Rattle.sym_check.proofs.OperatorsFound.{is_condition}
use Rattle.sym_check.proofs.ValuesFound.{found_inferred, found_operands, operands_found, OperandsFound}
use Rattle.sym_check.proofs.ExpressionsFound.{Outcome, means, breaks, outcome, OperandsOutcome, found, unfound, operands_outcome}
use Rattle.sym_check.proofs.ExpressionFaults as faults

pub means_inferred : (s : Scope) (e : ExprTree) (t : Typed) → Means s e t → infer s e ≡ Ok t
means_inferred = complete.means_inferred

pub breaks_inferred : (s : Scope) (e : ExprTree) (f : CheckErr) → Breaks s e f → infer s e ≡ Err f
breaks_inferred = faults.breaks_inferred

meaning_of : (s : Scope) (e : ExprTree) (t : Typed) → infer s e ≡ Ok t → Outcome s e → Means s e t
meaning_of s e t p (means u q h) = let P : Typed → Type 0 = Means s e in let same : u ≡ t = cc in subst P same h
meaning_of s e t p (breaks f q b) = absurd (cc)

pub inferred_means : (s : Scope) (e : ExprTree) (t : Typed) → infer s e ≡ Ok t → Means s e t
inferred_means s e t p = meaning_of s e t p (outcome s e)

fault_of : (s : Scope) (e : ExprTree) (f : CheckErr) → infer s e ≡ Err f → Outcome s e → Breaks s e f
fault_of s e f p (means t q h) = absurd (cc)
fault_of s e f p (breaks g q b) = let P : CheckErr → Type 0 = Breaks s e in let same : g ≡ f = cc in subst P same b

pub inferred_breaks : (s : Scope) (e : ExprTree) (f : CheckErr) → infer s e ≡ Err f → Breaks s e f
inferred_breaks s e f p = fault_of s e f p (outcome s e)

pub infer_agrees : (s : Scope) (e : ExprTree) → Agrees (Means s e) (Breaks s e) (infer s e)
infer_agrees s e = record {
  complete = means_inferred s e;
  sound = inferred_means s e;
  finds = breaks_inferred s e;
  breaks = inferred_breaks s e;
}

pub condition_inferred : (s : Scope) (e : ExprTree) (c : CondPlan) → IsCondition s e c → infer s e ≡ Ok (Truth c)
condition_inferred = complete.condition_inferred

pub inferred_condition : (s : Scope) (e : ExprTree) (c : CondPlan) → infer s e ≡ Ok (Truth c) → IsCondition s e c
inferred_condition s e c p = is_condition s e c (inferred_means s e (Truth c) p)

-- So an expression has a meaning or a first broken rule,
pub always : (s : Scope) (e : ExprTree) → HasMeaning s e ⊎ ((f : CheckErr) × Breaks s e f)
always s e = go (outcome s e)
  where
    go : Outcome s e → HasMeaning s e ⊎ ((f : CheckErr) × Breaks s e f)
    go (means t p h) = inl (t, h)
    go (breaks f p b) = inr (f, b)

-- one at most, and never both.
pub one_meaning : (s : Scope) (e : ExprTree) (t u : Typed) → Means s e t → Means s e u → t ≡ u
one_meaning = complete.one_meaning

pub one_fault : (s : Scope) (e : ExprTree) (f g : CheckErr) → Breaks s e f → Breaks s e g → f ≡ g
one_fault s e f g h k =
    let p : infer s e ≡ Err f = breaks_inferred s e f h in
    let q : infer s e ≡ Err g = breaks_inferred s e g k in
    cc

pub never_both : (s : Scope) (e : ExprTree) (t : Typed) (f : CheckErr) → Means s e t → Breaks s e f → ⊥
never_both s e t f h k =
    let p : infer s e ≡ Ok t = means_inferred s e t h in
    let q : infer s e ≡ Err f = breaks_inferred s e f k in
    cc

-- The same of operands, one after the other.
pub inferred_operands : (s : Scope) (es : ExprsTree) (located : List Located) → operands s es ≡ Ok located → AreOperands s es (length located)
inferred_operands s es located p = go (operands_outcome s es)
  where
    go : OperandsOutcome s es → AreOperands s es (length located)
    go (found others q a) = let P : List Located → Type 0 = λ ls. AreOperands s es (length ls) in let same : others ≡ located = cc in subst P same (found_operands s es others a)
    go (unfound f q b) = absurd (cc)

pub record OperandsInferred (s : Scope) (es : ExprsTree) (n : ℕ) : Type 0 where
  pub located : List Located
  pub inferred : operands s es ≡ Ok located
  pub many : length located ≡ n

pub operands_inferred : (s : Scope) (es : ExprsTree) (n : ℕ) → AreOperands s es n → OperandsInferred s es n
operands_inferred s es n a =
    let r : OperandsFound s es n = operands_found s es n a in
    record { located = r.located; inferred = found_inferred s es r.located r.found; many = r.many }

pub breaks_operands_inferred : (s : Scope) (es : ExprsTree) (f : CheckErr) → BreaksOperands s es f → operands s es ≡ Err f
breaks_operands_inferred = faults.breaks_operands_inferred

pub inferred_breaks_operands : (s : Scope) (es : ExprsTree) (f : CheckErr) → operands s es ≡ Err f → BreaksOperands s es f
inferred_breaks_operands s es f p = go (operands_outcome s es)
  where
    go : OperandsOutcome s es → BreaksOperands s es f
    go (found others q a) = absurd (cc)
    go (unfound g q b) = let P : CheckErr → Type 0 = BreaksOperands s es in let same : g ≡ f = cc in subst P same b
