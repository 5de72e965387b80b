-- The first broken rule in columns, with its place.
use Rattle.std.specs.Prelude.{◌≡◌, ℕ, pos, ◌<◌, true, List, [], ◌∷◌, length, Some, ◌⊎◌}
use Rattle.sym_base.specs.declared.tree.name.Name.{Name}
use Rattle.sym_base.specs.declared.tree.expression.BinOp.{BinOp}
use Rattle.sym_base.specs.Trees.{ColumnTree, ExprTree, Num, Named, Call, Neg, Not, Bin, ExprsTree, End, More}
use Rattle.sym_check.specs.declared.plan.script.KindPlan.{KindPlan}
use Rattle.sym_check.specs.declared.plan.show.ShowFn.{ShowFn}
use Rattle.sym_check.specs.Meaning.Columns.{ShownAs}
use Rattle.sym_check.specs.Plan.ShowPlans.{ShowPlan}
use Rattle.sym_check.specs.declared.elaborate.error.CheckErr.{CheckErr}
use Rattle.sym_check.specs.declared.elaborate.error.CheckErr.TheVariants as broken
use Rattle.sym_check.specs.declared.elaborate.scope.Meaning.{Meaning}
use Rattle.sym_check.specs.Rules.Scopes.{Scope, Stands, IsFree}
use Rattle.sym_check.specs.declared.elaborate.scope.Meaning.TheVariants as meaning
use Rattle.sym_check.specs.Rules.Reports.{list_function, is_part, IsShown}

-- The expression gives something.
abbrev pub GivesSomething : Scope → ExprTree → Type 0
GivesSomething s e = (gives : ShownAs) × (p : ShowPlan) × IsShown s e gives p

-- It does, or it is the name of a hold cell, which a function may take.
pub data IsSeen (s : Scope) : ExprTree → Type 0 where
  gives : (e : ExprTree) → GivesSomething s e → IsSeen s e
  hold : (x : Name) (c : ℕ) (ks : List KindPlan)
      → Stands s x (meaning.HoldCell c ks)
      → IsSeen s (Named x)

pub data AreSeen (s : Scope) : ExprsTree → Type 0 where
  none : AreSeen s End
  more : (e : ExprTree) (es : ExprsTree) → IsSeen s e → AreSeen s es → AreSeen s (More e es)

-- The name of a report function.
pub data IsFunction (x : Name) : Type 0 where
  of_lists : (f : ShowFn) → list_function x.text ≡ Some f → IsFunction x
  of_parts : is_part x.text ≡ true → IsFunction x

-- A part by its number, which is none of the cell's.
pub record IsOutside (s : Scope) (f h : Name) (k : ℕ) : Type 0 where
  pub is_part : is_part f.text ≡ true
  pub cell : ℕ
  pub kinds : List KindPlan
  pub stands : Stands s h (meaning.HoldCell cell kinds)
  pub outside : (k ≡ 0) ⊎ (length kinds < k)

mutual
  pub data BreaksShown (s : Scope) : ExprTree → CheckErr → Type 0 where
    unknown : (x : Name) → IsFree s x → BreaksShown s (Named x) (broken.Name x.at)
    in_negated : (e : ExprTree) (at : ℕ) (f : CheckErr)
        → BreaksShown s e f
        → BreaksShown s (Neg e at) f
    not_negated : (e : ExprTree) (at : ℕ)
        → IsSeen s e
        → (GivesSomething s (Neg e at) → ⊥)
        → BreaksShown s (Neg e at) (broken.Kind at)
    in_not : (e : ExprTree) (at : ℕ) (f : CheckErr) → BreaksShown s e f → BreaksShown s (Not e at) f
    no_condition : (e : ExprTree) (at : ℕ) → IsSeen s e → BreaksShown s (Not e at) (broken.Kind at)
    in_left : (o : BinOp) (l r : ExprTree) (at : ℕ) (f : CheckErr)
        → BreaksShown s l f
        → BreaksShown s (Bin o l r at) f
    in_right : (o : BinOp) (l r : ExprTree) (at : ℕ) (f : CheckErr)
        → IsSeen s l
        → BreaksShown s r f
        → BreaksShown s (Bin o l r at) f
    wrong_kinds : (o : BinOp) (l r : ExprTree) (at : ℕ)
        → IsSeen s l
        → IsSeen s r
        → (GivesSomething s (Bin o l r at) → ⊥)
        → BreaksShown s (Bin o l r at) (broken.Kind at)
    no_function : (x : Name) (es : ExprsTree)
        → (IsFunction x → ⊥)
        → BreaksShown s (Call x es) (broken.Name x.at)
    in_argument : (x : Name) (es : ExprsTree) (f : CheckErr)
        → IsFunction x
        → BreakShown s es f
        → BreaksShown s (Call x es) f
    no_part : (x h : Name) (k at : ℕ)
        → IsOutside s x h k
        → BreaksShown s (Call x (More (Named h) (More (Num (pos k) at) End))) (broken.Range at)
    wrong_arguments : (x : Name) (es : ExprsTree)
        → IsFunction x
        → AreSeen s es
        → (GivesSomething s (Call x es) → ⊥)
        → ((h : Name) (k at : ℕ) → es ≡ More (Named h) (More (Num (pos k) at) End)
        → IsOutside s x h k → ⊥)
        → BreaksShown s (Call x es) (broken.Kind x.at)

  -- Arguments, one after the other.
  pub data BreakShown (s : Scope) : ExprsTree → CheckErr → Type 0 where
    in_first : (e : ExprTree) (es : ExprsTree) (f : CheckErr)
        → BreaksShown s e f
        → BreakShown s (More e es) f
    in_others : (e : ExprTree) (es : ExprsTree) (f : CheckErr)
        → IsSeen s e
        → BreakShown s es f
        → BreakShown s (More e es) f

pub data BreaksColumn (s columns : Scope) (n : ℕ) : ColumnTree → CheckErr → Type 0 where
  column_taken : (d : ColumnTree) (m : Meaning)
      → Stands columns d.name m
      → BreaksColumn s columns n d (broken.Twice d.name.at)
  in_value : (d : ColumnTree) (f : CheckErr)
      → IsFree columns d.name
      → BreaksShown s d.value f
      → BreaksColumn s columns n d f
  whole_cell : (d : ColumnTree) (x : Name) (c : ℕ) (ks : List KindPlan)
      → IsFree columns d.name
      → d.value ≡ Named x
      → Stands s x (meaning.HoldCell c ks)
      → BreaksColumn s columns n d (broken.Kind x.at)
