-- Statements of the update, and their plan: one case for each rule. A scope grows by the locals of
-- its block and ends with it; locals are numbered in the order of the text.
use Rattle.std.specs.Prelude.{◌≡◌, ◌≢◌, ℕ, ◌+◌, List, [], ◌∷◌, ◌++◌}
use Rattle.sym_base.specs.declared.tree.name.Name.{Name}
use Rattle.sym_base.specs.Trees.{ExprTree, Named, ExprsTree, StmtTree, Let, Set, Push, Keep, KeepFrom, If, StmtsTree, Done, Then}
use Rattle.sym_check.specs.declared.plan.expression.WordOf.{WordOf}
use Rattle.sym_check.specs.declared.plan.expression.LabelOf.{LabelOf}
use Rattle.sym_check.specs.declared.plan.script.KindPlan.{KindPlan}
use Rattle.sym_check.specs.Plan.FixedPlans.{FixedPlan}
use Rattle.sym_check.specs.Plan.LinePlans.{TermPlan}
use Rattle.sym_check.specs.Plan.CondPlans.{CondPlan}
use Rattle.sym_check.specs.Plan.DoPlans.{DoPlan, DosPlan}
use Rattle.sym_check.specs.Plan.DoPlans as plan
use Rattle.sym_check.specs.declared.elaborate.scope.Variable.TheVariants as var
use Rattle.sym_check.specs.declared.elaborate.scope.Entry.{Entry}
use Rattle.sym_check.specs.Rules.Scopes.{Scope, entry, Stands, IsFree}
use Rattle.sym_check.specs.declared.elaborate.scope.Meaning.TheVariants as meaning
use Rattle.sym_check.specs.Rules.Typing.{IsTerm, IsWord, IsLabel, IsValue, AreValues, IsCondition}

-- The entry of a local with this number.
abbrev pub local_entry : Name → ℕ → KindPlan → Entry
local_entry x n k = entry x (meaning.Value k (var.Local n))

-- `hidden` are the names of the script that aren't visible in the update, but are taken.
mutual
  pub data IsStmt (hidden : Scope) : Scope → ℕ → StmtTree → DoPlan → Scope → ℕ → Type 0 where
    let_value : (s : Scope) (n : ℕ) (x : Name) (e : ExprTree) (k : KindPlan) (v : FixedPlan)
        → IsFree hidden x
        → IsFree s x
        → IsValue s k e v
        → IsStmt hidden s n (Let x e) (plan.Let n v) (s ++ local_entry x n k ∷ []) (n + 1)
    set_int : (s : Scope) (n : ℕ) (x : Name) (e : ExprTree) (c : ℕ) (t : TermPlan)
        → Stands s x (meaning.IntCell c)
        → IsTerm s e t
        → IsStmt hidden s n (Set x e) (plan.SetInt c t) s n
    set_enum : (s : Scope) (n : ℕ) (x : Name) (e : ExprTree) (c enum : ℕ) (l : LabelOf)
        → Stands s x (meaning.EnumCell c enum)
        → IsLabel s enum e l
        → IsStmt hidden s n (Set x e) (plan.SetEnum c l) s n
    copy_enum : (s : Scope) (n : ℕ) (x y : Name) (c d enum : ℕ)
        → Stands s x (meaning.EnumCell c enum)
        → Stands s y (meaning.EnumCell d enum)
        → c ≢ d
        → IsStmt hidden s n (Set x (Named y)) (plan.CopyEnum c d) s n
    push_num : (s : Scope) (n : ℕ) (x : Name) (e : ExprTree) (c : ℕ) (t : TermPlan)
        → Stands s x (meaning.NumsCell c)
        → IsTerm s e t
        → IsStmt hidden s n (Push x e) (plan.PushNum c t) s n
    push_word : (s : Scope) (n : ℕ) (x : Name) (e : ExprTree) (c : ℕ) (w : WordOf)
        → Stands s x (meaning.WordsCell c)
        → IsWord s e w
        → IsStmt hidden s n (Push x e) (plan.PushWord c w) s n
    keep : (s : Scope) (n : ℕ) (x : Name) (es : ExprsTree) (c : ℕ) (ks : List KindPlan)
        (vs : List FixedPlan)
        → Stands s x (meaning.HoldCell c ks)
        → AreValues s ks es vs
        → IsStmt hidden s n (Keep x es) (plan.Keep c vs) s n
    keep_from : (s : Scope) (n : ℕ) (x y : Name) (c d : ℕ) (ks : List KindPlan)
        → Stands s x (meaning.HoldCell c ks)
        → Stands s y (meaning.HoldCell d ks)
        → c ≢ d
        → IsStmt hidden s n (KeepFrom x y) (plan.KeepFrom c d) s n
    branch : (s : Scope) (n m later : ℕ) (e : ExprTree) (a b : StmtsTree) (c : CondPlan)
        (left right : DosPlan)
        → IsCondition s e c
        → IsBlock hidden s n a left m
        → IsBlock hidden s m b right later
        → IsStmt hidden s n (If e a b) (plan.If c left right) s later

  -- The number after the block is that of the next local in the text.
  pub data IsBlock (hidden : Scope) : Scope → ℕ → StmtsTree → DosPlan → ℕ → Type 0 where
    finished : (s : Scope) (n : ℕ) → IsBlock hidden s n Done plan.End n
    followed : (s t : Scope) (n m later : ℕ) (first : StmtTree) (rest : StmtsTree) (d : DoPlan)
        (ds : DosPlan)
        → IsStmt hidden s n first d t m
        → IsBlock hidden t m rest ds later
        → IsBlock hidden s n (Then first rest) (plan.Then d ds) later
