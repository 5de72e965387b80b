-- The first broken rule in statements, with its place. A statement's names come first, then its
-- operands, and then the rule on the whole.
use Rattle.std.specs.Prelude.{◌≡◌, ◌≢◌, ℕ, List, [], ◌∷◌, length}
use Rattle.sym_base.specs.declared.tree.name.Name.{Name}
use Rattle.sym_base.specs.Trees.{ExprTree, ExprsTree, StmtTree, Let, Set, Push, Keep, KeepFrom, If, StmtsTree, Then}
use Rattle.sym_check.specs.declared.plan.script.KindPlan.{KindPlan}
use Rattle.sym_check.specs.Plan.FixedPlans.{FixedPlan}
use Rattle.sym_check.specs.Plan.CondPlans.{CondPlan}
use Rattle.sym_check.specs.Plan.DoPlans.{DoPlan, DosPlan}
use Rattle.sym_check.specs.declared.elaborate.error.CheckErr.{CheckErr}
use Rattle.sym_check.specs.declared.elaborate.error.CheckErr.TheVariants as broken
use Rattle.sym_check.specs.declared.elaborate.scope.Meaning.{Meaning}
use Rattle.sym_check.specs.Rules.Scopes.{Scope, Stands, IsFree}
use Rattle.sym_check.specs.declared.elaborate.scope.Meaning.TheVariants as meaning
use Rattle.sym_check.specs.Rules.Typing.{Typed, Means, IsValue, IsCondition}
use Rattle.sym_check.specs.Breaks.Expressions.{place, AreOperands, WrongValue, Breaks, BreaksOperands}
use Rattle.sym_check.specs.Rules.Statements.{IsStmt, IsBlock}

-- Cells that are assigned to.
abbrev pub IsAssignedCell : Meaning → Type 0
IsAssignedCell meaning.Unfinished = ⊥
IsAssignedCell (meaning.Enum enum) = ⊥
IsAssignedCell (meaning.Label enum l) = ⊥
IsAssignedCell (meaning.Value k v) = ⊥
IsAssignedCell (meaning.IntCell c) = Unit {0}
IsAssignedCell (meaning.EnumCell c enum) = Unit {0}
IsAssignedCell (meaning.HoldCell c ks) = ⊥
IsAssignedCell (meaning.NumsCell c) = ⊥
IsAssignedCell (meaning.WordsCell c) = ⊥
IsAssignedCell (meaning.Test t ks) = ⊥

-- Cells that are pushed to.
abbrev pub IsPushedCell : Meaning → Type 0
IsPushedCell meaning.Unfinished = ⊥
IsPushedCell (meaning.Enum enum) = ⊥
IsPushedCell (meaning.Label enum l) = ⊥
IsPushedCell (meaning.Value k v) = ⊥
IsPushedCell (meaning.IntCell c) = ⊥
IsPushedCell (meaning.EnumCell c enum) = ⊥
IsPushedCell (meaning.HoldCell c ks) = ⊥
IsPushedCell (meaning.NumsCell c) = Unit {0}
IsPushedCell (meaning.WordsCell c) = Unit {0}
IsPushedCell (meaning.Test t ks) = ⊥

-- Cells that are kept.
abbrev pub IsKeptCell : Meaning → Type 0
IsKeptCell meaning.Unfinished = ⊥
IsKeptCell (meaning.Enum enum) = ⊥
IsKeptCell (meaning.Label enum l) = ⊥
IsKeptCell (meaning.Value k v) = ⊥
IsKeptCell (meaning.IntCell c) = ⊥
IsKeptCell (meaning.EnumCell c enum) = ⊥
IsKeptCell (meaning.HoldCell c ks) = Unit {0}
IsKeptCell (meaning.NumsCell c) = ⊥
IsKeptCell (meaning.WordsCell c) = ⊥
IsKeptCell (meaning.Test t ks) = ⊥

-- A name that is to stand for one of these cells, and doesn't.
pub data BreaksName (s : Scope) (wanted : Meaning → Type 0) (x : Name) : CheckErr → Type 0 where
  unknown : IsFree s x → BreaksName s wanted x (broken.Name x.at)
  wrong_cell : (m : Meaning)
      → Stands s x m
      → (wanted m → ⊥)
      → BreaksName s wanted x (broken.Kind x.at)

-- A name that does.
pub record Names (s : Scope) (wanted : Meaning → Type 0) (x : Name) : Type 0 where
  pub meaning : Meaning
  pub stands : Stands s x meaning
  pub is_wanted : wanted meaning

-- The statement has no plan here.
abbrev pub HasNoPlan : Scope → Scope → ℕ → StmtTree → Type 0
HasNoPlan hidden s n d = (p : DoPlan) (later : Scope) (m : ℕ) → IsStmt hidden s n d p later m → ⊥

mutual
  pub data BreaksStmt (hidden : Scope) : Scope → ℕ → StmtTree → CheckErr → Type 0 where
    let_hidden : (s : Scope) (n : ℕ) (x : Name) (e : ExprTree) (m : Meaning)
        → Stands hidden x m
        → BreaksStmt hidden s n (Let x e) (broken.Twice x.at)
    let_taken : (s : Scope) (n : ℕ) (x : Name) (e : ExprTree) (m : Meaning)
        → Stands s x m
        → BreaksStmt hidden s n (Let x e) (broken.Twice x.at)
    in_let : (s : Scope) (n : ℕ) (x : Name) (e : ExprTree) (f : CheckErr)
        → IsFree hidden x
        → IsFree s x
        → Breaks s e f
        → BreaksStmt hidden s n (Let x e) f
    no_value : (s : Scope) (n : ℕ) (x : Name) (e : ExprTree) (t : Typed)
        → IsFree hidden x
        → IsFree s x
        → Means s e t
        → ((k : KindPlan) (v : FixedPlan) → IsValue s k e v → ⊥)
        → BreaksStmt hidden s n (Let x e) (broken.Kind (place e))
    set_name : (s : Scope) (n : ℕ) (x : Name) (e : ExprTree) (f : CheckErr)
        → BreaksName s IsAssignedCell x f
        → BreaksStmt hidden s n (Set x e) f
    in_set : (s : Scope) (n : ℕ) (x : Name) (e : ExprTree) (f : CheckErr)
        → Names s IsAssignedCell x
        → Breaks s e f
        → BreaksStmt hidden s n (Set x e) f
    not_assigned : (s : Scope) (n : ℕ) (x : Name) (e : ExprTree) (t : Typed)
        → Names s IsAssignedCell x
        → Means s e t
        → HasNoPlan hidden s n (Set x e)
        → BreaksStmt hidden s n (Set x e) (broken.Kind (place e))
    push_name : (s : Scope) (n : ℕ) (x : Name) (e : ExprTree) (f : CheckErr)
        → BreaksName s IsPushedCell x f
        → BreaksStmt hidden s n (Push x e) f
    in_push : (s : Scope) (n : ℕ) (x : Name) (e : ExprTree) (f : CheckErr)
        → Names s IsPushedCell x
        → Breaks s e f
        → BreaksStmt hidden s n (Push x e) f
    not_pushed : (s : Scope) (n : ℕ) (x : Name) (e : ExprTree) (t : Typed)
        → Names s IsPushedCell x
        → Means s e t
        → HasNoPlan hidden s n (Push x e)
        → BreaksStmt hidden s n (Push x e) (broken.Kind (place e))
    keep_name : (s : Scope) (n : ℕ) (x : Name) (es : ExprsTree) (f : CheckErr)
        → BreaksName s IsKeptCell x f
        → BreaksStmt hidden s n (Keep x es) f
    in_keep : (s : Scope) (n : ℕ) (x : Name) (es : ExprsTree) (f : CheckErr)
        → Names s IsKeptCell x
        → BreaksOperands s es f
        → BreaksStmt hidden s n (Keep x es) f
    wrong_number : (s : Scope) (n : ℕ) (x : Name) (es : ExprsTree) (c count : ℕ)
        (ks : List KindPlan)
        → Stands s x (meaning.HoldCell c ks)
        → AreOperands s es count
        → count ≢ length ks
        → BreaksStmt hidden s n (Keep x es) (broken.Kind x.at)
    wrong_value : (s : Scope) (n : ℕ) (x : Name) (es : ExprsTree) (c at : ℕ) (ks : List KindPlan)
        → Stands s x (meaning.HoldCell c ks)
        → AreOperands s es (length ks)
        → WrongValue s ks es at
        → BreaksStmt hidden s n (Keep x es) (broken.Kind at)
    keep_from_name : (s : Scope) (n : ℕ) (x y : Name) (f : CheckErr)
        → BreaksName s IsKeptCell x f
        → BreaksStmt hidden s n (KeepFrom x y) f
    from_name : (s : Scope) (n : ℕ) (x y : Name) (f : CheckErr)
        → Names s IsKeptCell x
        → BreaksName s IsKeptCell y f
        → BreaksStmt hidden s n (KeepFrom x y) f
    not_kept : (s : Scope) (n : ℕ) (x y : Name)
        → Names s IsKeptCell x
        → Names s IsKeptCell y
        → HasNoPlan hidden s n (KeepFrom x y)
        → BreaksStmt hidden s n (KeepFrom x y) (broken.Kind y.at)
    in_if : (s : Scope) (n : ℕ) (e : ExprTree) (a b : StmtsTree) (f : CheckErr)
        → Breaks s e f
        → BreaksStmt hidden s n (If e a b) f
    no_condition : (s : Scope) (n : ℕ) (e : ExprTree) (a b : StmtsTree) (t : Typed)
        → Means s e t
        → ((c : CondPlan) → IsCondition s e c → ⊥)
        → BreaksStmt hidden s n (If e a b) (broken.Kind (place e))
    in_then : (s : Scope) (n : ℕ) (e : ExprTree) (a b : StmtsTree) (c : CondPlan) (f : CheckErr)
        → IsCondition s e c
        → BreaksBlock hidden s n a f
        → BreaksStmt hidden s n (If e a b) f
    in_else : (s : Scope) (n m : ℕ) (e : ExprTree) (a b : StmtsTree) (c : CondPlan) (ds : DosPlan)
        (f : CheckErr)
        → IsCondition s e c
        → IsBlock hidden s n a ds m
        → BreaksBlock hidden s m b f
        → BreaksStmt hidden s n (If e a b) f

  pub data BreaksBlock (hidden : Scope) : Scope → ℕ → StmtsTree → CheckErr → Type 0 where
    in_statement : (s : Scope) (n : ℕ) (first : StmtTree) (rest : StmtsTree) (f : CheckErr)
        → BreaksStmt hidden s n first f
        → BreaksBlock hidden s n (Then first rest) f
    in_rest : (s later : Scope) (n m : ℕ) (first : StmtTree) (rest : StmtsTree) (d : DoPlan)
        (f : CheckErr)
        → IsStmt hidden s n first d later m
        → BreaksBlock hidden later m rest f
        → BreaksBlock hidden s n (Then first rest) f
