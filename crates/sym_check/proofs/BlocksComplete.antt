-- The plan of a statement is what the function answers.
use Rattle.std.proofs.Common.{◌≡◌, refl, ℕ, length, Ok, Err}
use Rattle.sym_base.specs.Trees.{ExprTree, StmtTree, StmtsTree}
use Rattle.sym_check.specs.declared.plan.script.KindPlan.{KindPlan}
use Rattle.sym_check.specs.Plan.FixedPlans.{FixedPlan}
use Rattle.sym_check.specs.Plan.LinePlans as line
use Rattle.sym_check.specs.Plan.DoPlans.{DoPlan, DosPlan}
use Rattle.sym_check.specs.declared.elaborate.error.CheckErr.{CheckErr}
use Rattle.sym_check.specs.Rules.Scopes.{Scope}
use Rattle.sym_check.specs.Rules.Typing.{Typed, Number, Word, Label, EnumCell, HoldCell, Truth, IsValue}
use Rattle.sym_check.specs.Rules.Typing as typing
use Rattle.sym_check.specs.Breaks.Expressions.{place}
use Rattle.sym_check.specs.Elaborate.Expressions.{infer}
use Rattle.sym_check.specs.Rules.Statements.{local_entry, IsStmt, IsBlock}
use Rattle.sym_check.specs.Rules.Statements as rule
use Rattle.sym_check.specs.Breaks.Statements.{HasNoPlan}
use Rattle.sym_check.specs.Elaborate.Statements.{let_value, statement, block}
use Rattle.sym_check.proofs.SameKinds.{same_kinds, same_number, other_number}
use Rattle.sym_check.proofs.ExpressionsComplete.{num_inferred, word_inferred, label_inferred, term_inferred, condition_inferred, ValuesInferred, values_inferred}

-- A value of a local.
pub record LetInferred (s : Scope) (k : KindPlan) (e : ExprTree) (v : FixedPlan) : Type 0 where
  pub typed : Typed
  pub inferred : infer s e ≡ Ok typed
  pub is_value : let_value (place e) typed ≡ Ok (record { kind = k; value = v })

pub let_inferred : (s : Scope) (k : KindPlan) (e : ExprTree) (v : FixedPlan) → IsValue s k e v → LetInferred s k e v
let_inferred s _ _ _ (typing.num_value e n h) = record { typed = Number (line.OfNum n); inferred = num_inferred s e n h; is_value = refl }
let_inferred s _ _ _ (typing.word_value e w h) = record { typed = Word w; inferred = word_inferred s e w h; is_value = refl }
let_inferred s _ _ _ (typing.label_value enum e l h) = record { typed = Label enum l; inferred = label_inferred s enum e l h; is_value = refl }

mutual
  pub stmt_planned : (hidden s : Scope) (n : ℕ) (d : StmtTree) (p : DoPlan) (later : Scope) (m : ℕ) → IsStmt hidden s n d p later m → statement hidden s n d ≡ Ok (record { plan = p; scope = later; next = m })
  stmt_planned hidden _ _ _ _ _ _ (rule.let_value s n x e k v free_there free_here h) =
      let found : LetInferred s k e v = let_inferred s k e v h in
      rw (free_there.missing, free_here.missing, found.inferred, found.is_value) refl
  stmt_planned hidden _ _ _ _ _ _ (rule.set_int s n x e c t st h) = rw (st.found, term_inferred s e t h) refl
  stmt_planned hidden _ _ _ _ _ _ (rule.set_enum s n x e c enum l st h) = rw (st.found, label_inferred s enum e l h, same_number enum enum refl) refl
  stmt_planned hidden _ _ _ _ _ _ (rule.copy_enum s n x y c d enum sx sy differs) = rw (sx.found, sy.found, same_number enum enum refl, other_number c d differs) refl
  stmt_planned hidden _ _ _ _ _ _ (rule.push_num s n x e c t st h) = rw (st.found, term_inferred s e t h) refl
  stmt_planned hidden _ _ _ _ _ _ (rule.push_word s n x e c w st h) = rw (st.found, word_inferred s e w h) refl
  stmt_planned hidden _ _ _ _ _ _ (rule.keep s n x es c ks vs st h) =
      let found : ValuesInferred s ks es vs = values_inferred s ks es vs h in
      rw (st.found, found.inferred, same_number (length found.located) (length ks) found.many, found.are_values) refl
  stmt_planned hidden _ _ _ _ _ _ (rule.keep_from s n x y c d ks sx sy differs) = rw (sx.found, sy.found, same_kinds ks ks refl, other_number c d differs) refl
  stmt_planned hidden _ _ _ _ _ _ (rule.branch s n m later e a b c left right h i j) =
      rw (condition_inferred s e c h, block_planned hidden s n a left m i, block_planned hidden s m b right later j) refl

  pub block_planned : (hidden s : Scope) (n : ℕ) (b : StmtsTree) (p : DosPlan) (m : ℕ) → IsBlock hidden s n b p m → block hidden s n b ≡ Ok (record { plan = p; next = m })
  block_planned hidden _ _ _ _ _ (rule.finished s n) = refl
  block_planned hidden _ _ _ _ _ (rule.followed s t n m later first rest d ds h i) = rw (stmt_planned hidden s n first d t m h, block_planned hidden t m rest ds later i) refl

-- So a statement that the function refuses has no plan.
pub no_plan : (hidden s : Scope) (n : ℕ) (d : StmtTree) (f : CheckErr) → statement hidden s n d ≡ Err f → HasNoPlan hidden s n d
no_plan hidden s n d f p plan later m h =
    let q : statement hidden s n d ≡ Ok (record { plan = plan; scope = later; next = m }) = stmt_planned hidden s n d plan later m h in
    cc
