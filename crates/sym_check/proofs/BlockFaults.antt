-- The first broken rule in a statement is what the function answers.
use Rattle.std.proofs.Common.{◌≡◌, refl, sym, ap, ◌∙◌, ℕ, Bool, true, false, List, length, Option, Some, None, Result, Ok, Err}
use Rattle.std.specs.Prelude.{◌≢◌, ◌==◌, ◌&&◌, not, if◌then◌else◌}
use Rattle.std.specs.Cmp.Lexicographic.{pointwise}
use Rattle.sym_base.specs.declared.tree.name.Name.{Name}
use Rattle.sym_base.specs.Trees.{ExprTree, ExprsTree, StmtTree, Set, Push, Keep, KeepFrom, StmtsTree}
use Rattle.sym_check.specs.declared.plan.script.KindPlan.{KindPlan}
use Rattle.sym_check.specs.declared.plan.script.KindPlan.TheVariants as kind
use Rattle.sym_check.specs.Meaning.Arithmetic.{and_then}
use Rattle.sym_check.specs.Plan.FixedPlans.{FixedPlan}
use Rattle.sym_check.specs.Plan.FixedPlans as fixed
use Rattle.sym_check.specs.Plan.LinePlans as line
use Rattle.sym_check.specs.Plan.CondPlans.{CondPlan}
use Rattle.sym_check.specs.Plan.DoPlans.{DoPlan}
use Rattle.sym_check.specs.Plan.DoPlans as plan
use Rattle.sym_check.specs.declared.elaborate.error.CheckErr.{CheckErr}
use Rattle.sym_check.specs.declared.elaborate.error.CheckErr.TheVariants as broken
use Rattle.sym_check.specs.declared.elaborate.scope.Meaning.{Meaning}
use Rattle.sym_check.specs.declared.elaborate.scope.Meaning.TheVariants as meaning
use Rattle.sym_check.specs.Rules.Scopes.{Scope, find, Stands}
use Rattle.sym_check.specs.Rules.Typing.{Typed, Number, Word, Label, EnumCell, HoldCell, Truth, Means, IsValue, IsCondition}
use Rattle.sym_check.specs.Rules.Typing as typing
use Rattle.sym_check.specs.Breaks.Expressions.{place, WrongValue}
use Rattle.sym_check.specs.Elaborate.Expressions.{kind_at, same_kind, infer, operands, condition}
use Rattle.sym_check.specs.Breaks.Statements.{IsAssignedCell, IsPushedCell, IsKeptCell, BreaksName, Names, HasNoPlan, BreaksStmt, BreaksBlock}
use Rattle.sym_check.specs.Breaks.Statements as rule
use Rattle.sym_check.specs.Elaborate.Statements.{unless_taken, let_value, Target, ToInt, ToEnum, ToNums, ToWords, assigned, pushed, Kept, kept, placed_in, kept_from, PlannedDo, statement, block}
use Rattle.sym_check.proofs.SameKinds.{same_number, other_number}
use Rattle.sym_check.proofs.ExpressionsComplete.{means_inferred, condition_inferred}
use Rattle.sym_check.proofs.OperatorsFound.{is_num, is_word, is_label, is_condition}
use Rattle.sym_check.proofs.ValuesFound.{OperandsFound, operands_found, found_inferred, wrong_values_inferred}
use Rattle.sym_check.proofs.ExpressionFaults.{breaks_inferred, breaks_operands_inferred}
use Rattle.sym_check.proofs.BlocksComplete.{block_planned, stmt_planned}
use Rattle.sym_check.proofs.BlocksFound.{StmtOutcome, planned, unplanned, stmt_outcome}

-- Names that are taken, first in the script and then in the scope.
taken : {A : Type 0} (at : ℕ) (o : Option Meaning) (m : Meaning) (next : Result A CheckErr) → unless_taken at o (unless_taken at (Some m) next) ≡ Err (broken.Twice at)
taken at None m next = refl
taken at (Some other) m next = refl

no_let_value : (s : Scope) (e : ExprTree) (t : Typed) → Means s e t → ((k : KindPlan) (v : FixedPlan) → IsValue s k e v → ⊥) → let_value (place e) t ≡ kind_at (place e)
no_let_value s e (Number (line.OfNum n)) h none = absurd (none kind.Num (fixed.OfNum n) (typing.num_value e n (is_num s e n h)))
no_let_value s e (Number (line.OfLine k)) h none = refl
no_let_value s e (Word w) h none = absurd (none kind.Word (fixed.OfWord w) (typing.word_value e w (is_word s e w h)))
no_let_value s e (Label enum l) h none = absurd (none (kind.Label enum) (fixed.OfLabel l) (typing.label_value enum e l (is_label s e enum l h)))
no_let_value s e (EnumCell c enum) h none = refl
no_let_value s e (HoldCell c ks) h none = refl
no_let_value s e (Truth c) h none = refl

-- The names of cells.
not_assigned : (at : ℕ) (m : Meaning) → (IsAssignedCell m → ⊥) → assigned at (Some m) ≡ kind_at at
not_assigned at (meaning.IntCell c) none = absurd (none tt)
not_assigned at (meaning.EnumCell c enum) none = absurd (none tt)
not_assigned at _ none = refl

set_name_inferred : (s : Scope) (x : Name) (f : CheckErr) → BreaksName s IsAssignedCell x f → assigned x.at (find s x.text) ≡ Err f
set_name_inferred s x _ (rule.unknown free) = rw free.missing refl
set_name_inferred s x _ (rule.wrong_cell m st none) = rw (st.found, not_assigned x.at m none) refl

assigned_to : (at : ℕ) (m : Meaning) → IsAssignedCell m → (t : Target) × (assigned at (Some m) ≡ Ok t)
assigned_to at (meaning.IntCell c) i = (ToInt c, refl)
assigned_to at (meaning.EnumCell c enum) i = (ToEnum c enum, refl)
assigned_to at _ i = absurd i

not_pushed : (at : ℕ) (m : Meaning) → (IsPushedCell m → ⊥) → pushed at (Some m) ≡ kind_at at
not_pushed at (meaning.NumsCell c) none = absurd (none tt)
not_pushed at (meaning.WordsCell c) none = absurd (none tt)
not_pushed at _ none = refl

push_name_inferred : (s : Scope) (x : Name) (f : CheckErr) → BreaksName s IsPushedCell x f → pushed x.at (find s x.text) ≡ Err f
push_name_inferred s x _ (rule.unknown free) = rw free.missing refl
push_name_inferred s x _ (rule.wrong_cell m st none) = rw (st.found, not_pushed x.at m none) refl

pushed_to : (at : ℕ) (m : Meaning) → IsPushedCell m → (t : Target) × (pushed at (Some m) ≡ Ok t)
pushed_to at (meaning.NumsCell c) i = (ToNums c, refl)
pushed_to at (meaning.WordsCell c) i = (ToWords c, refl)
pushed_to at _ i = absurd i

not_kept : (at : ℕ) (m : Meaning) → (IsKeptCell m → ⊥) → kept at (Some m) ≡ kind_at at
not_kept at (meaning.HoldCell c ks) none = absurd (none tt)
not_kept at _ none = refl

keep_name_inferred : (s : Scope) (x : Name) (f : CheckErr) → BreaksName s IsKeptCell x f → kept x.at (find s x.text) ≡ Err f
keep_name_inferred s x _ (rule.unknown free) = rw free.missing refl
keep_name_inferred s x _ (rule.wrong_cell m st none) = rw (st.found, not_kept x.at m none) refl

kept_by : (at : ℕ) (m : Meaning) → IsKeptCell m → (k : Kept) × (kept at (Some m) ≡ Ok k)
kept_by at (meaning.HoldCell c ks) i = (record { cell = c; kinds = ks }, refl)
kept_by at _ i = absurd i

-- What is stored has one fault, and so has what is kept from another cell.
choice_fault : (at : ℕ) (p : DoPlan) (f : CheckErr) (b : Bool) → (if b then Ok p else kind_at at) ≡ Err f → f ≡ broken.Kind at
choice_fault at p f true e = absurd (cc)
choice_fault at p f false e = cc

placed_fault : (at : ℕ) (target : Target) (t : Typed) (f : CheckErr) → placed_in at target t ≡ Err f → f ≡ broken.Kind at
placed_fault at (ToInt c) (Number t) f e = absurd (cc)
placed_fault at (ToEnum c enum) (Label other l) f e = choice_fault at (plan.SetEnum c l) f (enum == other) e
placed_fault at (ToEnum c enum) (EnumCell d other) f e = choice_fault at (plan.CopyEnum c d) f ((enum == other) && not (c == d)) e
placed_fault at (ToNums c) (Number t) f e = absurd (cc)
placed_fault at (ToWords c) (Word w) f e = absurd (cc)
placed_fault at target t f e = cc

kept_fault : (at : ℕ) (k from : Kept) (f : CheckErr) → kept_from at k from ≡ Err f → f ≡ broken.Kind at
kept_fault at k from f e = choice_fault at (plan.KeepFrom k.cell from.cell) f (pointwise same_kind k.kinds from.kinds && not (k.cell == from.cell)) e

only_fault : (hidden s : Scope) (n : ℕ) (d : StmtTree) (g : CheckErr) → ((f : CheckErr) → statement hidden s n d ≡ Err f → f ≡ g) → HasNoPlan hidden s n d → StmtOutcome hidden s n d → statement hidden s n d ≡ Err g
only_fault hidden s n d g faults none (planned r p h) = absurd (none r.plan r.scope r.next h)
only_fault hidden s n d g faults none (unplanned f p h) = p ∙ ap Err (faults f p)

-- A fault after the last step isn't made there.
made_fault : {A B : Type 0} (make : A → B) (r : Result A CheckErr) (f : CheckErr) → and_then (λ (a : A). Ok (make a)) r ≡ Err f → r ≡ Err f
made_fault make (Ok a) f e = absurd (cc)
made_fault make (Err g) f e = cc

here : Scope → ℕ → DoPlan → PlannedDo
here s n d = record { plan = d; scope = s; next = n }

set_is : (hidden s : Scope) (n : ℕ) (x : Name) (e : ExprTree) (t : Typed) (names : Names s IsAssignedCell x) → Means s e t → (target : Target) × (statement hidden s n (Set x e) ≡ and_then (λ (d : DoPlan). Ok (here s n d)) (placed_in (place e) target t))
unfolding here
set_is hidden s n x e t names h =
    let to : (target : Target) × (assigned x.at (Some names.meaning) ≡ Ok target) = assigned_to x.at names.meaning names.is_wanted in
    (to.0, rw (names.stands.found, to.1, means_inferred s e t h) refl)

push_is : (hidden s : Scope) (n : ℕ) (x : Name) (e : ExprTree) (t : Typed) (names : Names s IsPushedCell x) → Means s e t → (target : Target) × (statement hidden s n (Push x e) ≡ and_then (λ (d : DoPlan). Ok (here s n d)) (placed_in (place e) target t))
unfolding here
push_is hidden s n x e t names h =
    let to : (target : Target) × (pushed x.at (Some names.meaning) ≡ Ok target) = pushed_to x.at names.meaning names.is_wanted in
    (to.0, rw (names.stands.found, to.1, means_inferred s e t h) refl)

from_is : (hidden s : Scope) (n : ℕ) (x y : Name) (names : Names s IsKeptCell x) (others : Names s IsKeptCell y)
    → (k : Kept) × (from : Kept) × (statement hidden s n (KeepFrom x y) ≡ and_then (λ (d : DoPlan). Ok (here s n d)) (kept_from y.at k from))
unfolding here
from_is hidden s n x y names others =
    let k : (k : Kept) × (kept x.at (Some names.meaning) ≡ Ok k) = kept_by x.at names.meaning names.is_wanted in
    let from : (k : Kept) × (kept y.at (Some others.meaning) ≡ Ok k) = kept_by y.at others.meaning others.is_wanted in
    (k.0, from.0, rw (names.stands.found, k.1, others.stands.found, from.1) refl)

placed_fault_here : (hidden s : Scope) (n : ℕ) (d : StmtTree) (at : ℕ) (t : Typed) (f : CheckErr) → (target : Target) × (statement hidden s n d ≡ and_then (λ (p : DoPlan). Ok (here s n p)) (placed_in at target t)) → statement hidden s n d ≡ Err f → f ≡ broken.Kind at
placed_fault_here hidden s n d at t f q e = placed_fault at q.0 t f (made_fault (here s n) (placed_in at q.0 t) f (sym q.1 ∙ e))

kept_fault_here : (hidden s : Scope) (n : ℕ) (d : StmtTree) (at : ℕ) (f : CheckErr) → (k : Kept) × (from : Kept) × (statement hidden s n d ≡ and_then (λ (p : DoPlan). Ok (here s n p)) (kept_from at k from)) → statement hidden s n d ≡ Err f → f ≡ broken.Kind at
kept_fault_here hidden s n d at f q e = kept_fault at q.0 q.1 f (made_fault (here s n) (kept_from at q.0 q.1) f (sym q.2 ∙ e))

-- Values that are kept.
wrong_number_kept : (hidden s : Scope) (n : ℕ) (x : Name) (es : ExprsTree) (c count : ℕ) (ks : List KindPlan) → Stands s x (meaning.HoldCell c ks) → OperandsFound s es count → count ≢ length ks → statement hidden s n (Keep x es) ≡ kind_at x.at
wrong_number_kept hidden s n x es c count ks st r differs =
    let other : length r.located ≢ length ks = λ same. differs (sym r.many ∙ same) in
    rw (st.found, found_inferred s es r.located r.found, other_number (length r.located) (length ks) other) refl

wrong_value_kept : (hidden s : Scope) (n : ℕ) (x : Name) (es : ExprsTree) (c at : ℕ) (ks : List KindPlan) → Stands s x (meaning.HoldCell c ks) → OperandsFound s es (length ks) → WrongValue s ks es at → statement hidden s n (Keep x es) ≡ kind_at at
wrong_value_kept hidden s n x es c at ks st r w =
    rw (st.found, found_inferred s es r.located r.found, same_number (length r.located) (length ks) r.many, wrong_values_inferred s ks es at r.located r.found w) refl

no_condition_inferred : (s : Scope) (e : ExprTree) (t : Typed) → Means s e t → ((c : CondPlan) → IsCondition s e c → ⊥) → condition (place e) t ≡ kind_at (place e)
no_condition_inferred s e (Truth c) h none = absurd (none c (is_condition s e c h))
no_condition_inferred s e t h none = refl

in_kept : (hidden s : Scope) (n : ℕ) (x : Name) (es : ExprsTree) (f : CheckErr) → Names s IsKeptCell x → operands s es ≡ Err f → statement hidden s n (Keep x es) ≡ Err f
in_kept hidden s n x es f names q =
    let k : (k : Kept) × (kept x.at (Some names.meaning) ≡ Ok k) = kept_by x.at names.meaning names.is_wanted in
    rw (names.stands.found, k.1, q) refl

from_name_kept : (hidden s : Scope) (n : ℕ) (x y : Name) (f : CheckErr) → Names s IsKeptCell x → kept y.at (find s y.text) ≡ Err f → statement hidden s n (KeepFrom x y) ≡ Err f
from_name_kept hidden s n x y f names q =
    let k : (k : Kept) × (kept x.at (Some names.meaning) ≡ Ok k) = kept_by x.at names.meaning names.is_wanted in
    rw (names.stands.found, k.1, q) refl

in_assigned : (hidden s : Scope) (n : ℕ) (x : Name) (e : ExprTree) (f : CheckErr) → Names s IsAssignedCell x → infer s e ≡ Err f → statement hidden s n (Set x e) ≡ Err f
in_assigned hidden s n x e f names q =
    let to : (target : Target) × (assigned x.at (Some names.meaning) ≡ Ok target) = assigned_to x.at names.meaning names.is_wanted in
    rw (names.stands.found, to.1, q) refl

in_pushed : (hidden s : Scope) (n : ℕ) (x : Name) (e : ExprTree) (f : CheckErr) → Names s IsPushedCell x → infer s e ≡ Err f → statement hidden s n (Push x e) ≡ Err f
in_pushed hidden s n x e f names q =
    let to : (target : Target) × (pushed x.at (Some names.meaning) ≡ Ok target) = pushed_to x.at names.meaning names.is_wanted in
    rw (names.stands.found, to.1, q) refl

mutual
  pub breaks_stmt_planned : (hidden s : Scope) (n : ℕ) (d : StmtTree) (f : CheckErr) → BreaksStmt hidden s n d f → statement hidden s n d ≡ Err f
  breaks_stmt_planned hidden _ _ _ _ (rule.let_hidden s n x e m st) = rw st.found refl
  breaks_stmt_planned hidden _ _ _ _ (rule.let_taken s n x e m st) = rw (st.found, taken x.at (find hidden x.text) m) refl
  breaks_stmt_planned hidden _ _ _ _ (rule.in_let s n x e f there free b) = rw (there.missing, free.missing, breaks_inferred s e f b) refl
  breaks_stmt_planned hidden _ _ _ _ (rule.no_value s n x e t there free h none) = rw (there.missing, free.missing, means_inferred s e t h, no_let_value s e t h none) refl
  breaks_stmt_planned hidden _ _ _ _ (rule.set_name s n x e f b) = rw (set_name_inferred s x f b) refl
  breaks_stmt_planned hidden _ _ _ _ (rule.in_set s n x e f names b) = in_assigned hidden s n x e f names (breaks_inferred s e f b)
  breaks_stmt_planned hidden _ _ _ _ (rule.not_assigned s n x e t names h none) =
      only_fault hidden s n (Set x e) (broken.Kind (place e)) (λ f q. placed_fault_here hidden s n (Set x e) (place e) t f (set_is hidden s n x e t names h) q) none (stmt_outcome hidden s n (Set x e))
  breaks_stmt_planned hidden _ _ _ _ (rule.push_name s n x e f b) = rw (push_name_inferred s x f b) refl
  breaks_stmt_planned hidden _ _ _ _ (rule.in_push s n x e f names b) = in_pushed hidden s n x e f names (breaks_inferred s e f b)
  breaks_stmt_planned hidden _ _ _ _ (rule.not_pushed s n x e t names h none) =
      only_fault hidden s n (Push x e) (broken.Kind (place e)) (λ f q. placed_fault_here hidden s n (Push x e) (place e) t f (push_is hidden s n x e t names h) q) none (stmt_outcome hidden s n (Push x e))
  breaks_stmt_planned hidden _ _ _ _ (rule.keep_name s n x es f b) = rw (keep_name_inferred s x f b) refl
  breaks_stmt_planned hidden _ _ _ _ (rule.in_keep s n x es f names b) = in_kept hidden s n x es f names (breaks_operands_inferred s es f b)
  breaks_stmt_planned hidden _ _ _ _ (rule.wrong_number s n x es c count ks st a differs) = wrong_number_kept hidden s n x es c count ks st (operands_found s es count a) differs
  breaks_stmt_planned hidden _ _ _ _ (rule.wrong_value s n x es c at ks st a w) = wrong_value_kept hidden s n x es c at ks st (operands_found s es (length ks) a) w
  breaks_stmt_planned hidden _ _ _ _ (rule.keep_from_name s n x y f b) = rw (keep_name_inferred s x f b) refl
  breaks_stmt_planned hidden _ _ _ _ (rule.from_name s n x y f names b) = from_name_kept hidden s n x y f names (keep_name_inferred s y f b)
  breaks_stmt_planned hidden _ _ _ _ (rule.not_kept s n x y names others none) =
      only_fault hidden s n (KeepFrom x y) (broken.Kind y.at) (λ f q. kept_fault_here hidden s n (KeepFrom x y) y.at f (from_is hidden s n x y names others) q) none (stmt_outcome hidden s n (KeepFrom x y))
  breaks_stmt_planned hidden _ _ _ _ (rule.in_if s n e a b f i) = rw (breaks_inferred s e f i) refl
  breaks_stmt_planned hidden _ _ _ _ (rule.no_condition s n e a b t h none) = rw (means_inferred s e t h, no_condition_inferred s e t h none) refl
  breaks_stmt_planned hidden _ _ _ _ (rule.in_then s n e a b c f h i) = rw (condition_inferred s e c h, breaks_block_planned hidden s n a f i) refl
  breaks_stmt_planned hidden _ _ _ _ (rule.in_else s n m e a b c ds f h i j) = rw (condition_inferred s e c h, block_planned hidden s n a ds m i, breaks_block_planned hidden s m b f j) refl

  pub breaks_block_planned : (hidden s : Scope) (n : ℕ) (b : StmtsTree) (f : CheckErr) → BreaksBlock hidden s n b f → block hidden s n b ≡ Err f
  breaks_block_planned hidden _ _ _ _ (rule.in_statement s n first rest f i) = rw (breaks_stmt_planned hidden s n first f i) refl
  breaks_block_planned hidden _ _ _ _ (rule.in_rest s later n m first rest d f h i) = rw (stmt_planned hidden s n first d later m h, breaks_block_planned hidden later m rest f i) refl
