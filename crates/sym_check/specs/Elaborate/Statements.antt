-- The plan of statements, or the first broken rule in them, by trying the rules in order.
use Rattle.std.specs.Prelude.{ℕ, ◌+◌, ◌==◌, ◌&&◌, not, if◌then◌else◌, List, [], ◌∷◌, ◌++◌, length, Option, Some, None, Result, Ok, Err}
use Rattle.std.specs.Cmp.Lexicographic.{pointwise}
use Rattle.sym_base.specs.Trees.{StmtTree, Let, Set, Push, Keep, KeepFrom, If, StmtsTree, Done, Then}
use Rattle.sym_check.specs.declared.plan.script.KindPlan.{KindPlan}
use Rattle.sym_check.specs.declared.plan.script.KindPlan.TheVariants as kind
use Rattle.sym_check.specs.Meaning.Arithmetic.{◌>>=◌, and_then}
use Rattle.sym_check.specs.Plan.FixedPlans.{FixedPlan}
use Rattle.sym_check.specs.Plan.FixedPlans as fixed
use Rattle.sym_check.specs.Plan.LinePlans as line
use Rattle.sym_check.specs.Plan.DoPlans.{DoPlan, DosPlan}
use Rattle.sym_check.specs.Plan.DoPlans as plan
use Rattle.sym_check.specs.declared.elaborate.error.CheckErr.{CheckErr}
use Rattle.sym_check.specs.declared.elaborate.error.CheckErr.TheVariants as broken
use Rattle.sym_check.specs.declared.elaborate.scope.Meaning.{Meaning}
use Rattle.sym_check.specs.Rules.Scopes.{Scope, find}
use Rattle.sym_check.specs.declared.elaborate.scope.Meaning.TheVariants as meaning
use Rattle.sym_check.specs.Rules.Typing.{Typed, Number, Word, Label, EnumCell, HoldCell, Truth}
use Rattle.sym_check.specs.Breaks.Expressions.{place}
use Rattle.sym_check.specs.Elaborate.Expressions.{kind_at, same_kind, Located, values_of, condition, infer, operands}
use Rattle.sym_check.specs.Rules.Statements.{local_entry}

-- Goes on where a name isn't taken.
abbrev pub unless_taken : {A : Type 0} → ℕ → Option Meaning → Result A CheckErr → Result A CheckErr
unless_taken at None next = next
unless_taken at (Some m) next = Err (broken.Twice at)

-- A value that a local may have.
pub record LetValue : Type 0 where
  pub kind : KindPlan
  pub value : FixedPlan

abbrev pub let_value : ℕ → Typed → Result LetValue CheckErr
let_value at (Number (line.OfNum n)) = Ok (record { kind = kind.Num; value = fixed.OfNum n })
let_value at (Number (line.OfLine k)) = kind_at at
let_value at (Word w) = Ok (record { kind = kind.Word; value = fixed.OfWord w })
let_value at (Label enum l) = Ok (record { kind = kind.Label enum; value = fixed.OfLabel l })
let_value at (EnumCell c enum) = kind_at at
let_value at (HoldCell c ks) = kind_at at
let_value at (Truth c) = kind_at at

-- What is assigned or pushed to.
pub data Target : Type 0 where
  ToInt : ℕ → Target
  ToEnum : ℕ → ℕ → Target
  ToNums : ℕ → Target
  ToWords : ℕ → Target

-- The cell that an assignment names.
abbrev pub assigned : ℕ → Option Meaning → Result Target CheckErr
assigned at None = Err (broken.Name at)
assigned at (Some meaning.Unfinished) = kind_at at
assigned at (Some (meaning.Enum enum)) = kind_at at
assigned at (Some (meaning.Label enum l)) = kind_at at
assigned at (Some (meaning.Value k v)) = kind_at at
assigned at (Some (meaning.IntCell c)) = Ok (ToInt c)
assigned at (Some (meaning.EnumCell c enum)) = Ok (ToEnum c enum)
assigned at (Some (meaning.HoldCell c ks)) = kind_at at
assigned at (Some (meaning.NumsCell c)) = kind_at at
assigned at (Some (meaning.WordsCell c)) = kind_at at
assigned at (Some (meaning.Test t ks)) = kind_at at

-- The cell that a push names.
abbrev pub pushed : ℕ → Option Meaning → Result Target CheckErr
pushed at None = Err (broken.Name at)
pushed at (Some meaning.Unfinished) = kind_at at
pushed at (Some (meaning.Enum enum)) = kind_at at
pushed at (Some (meaning.Label enum l)) = kind_at at
pushed at (Some (meaning.Value k v)) = kind_at at
pushed at (Some (meaning.IntCell c)) = kind_at at
pushed at (Some (meaning.EnumCell c enum)) = kind_at at
pushed at (Some (meaning.HoldCell c ks)) = kind_at at
pushed at (Some (meaning.NumsCell c)) = Ok (ToNums c)
pushed at (Some (meaning.WordsCell c)) = Ok (ToWords c)
pushed at (Some (meaning.Test t ks)) = kind_at at

pub record Kept : Type 0 where
  pub cell : ℕ
  pub kinds : List KindPlan

-- The cell that a `keep` names.
abbrev pub kept : ℕ → Option Meaning → Result Kept CheckErr
kept at None = Err (broken.Name at)
kept at (Some meaning.Unfinished) = kind_at at
kept at (Some (meaning.Enum enum)) = kind_at at
kept at (Some (meaning.Label enum l)) = kind_at at
kept at (Some (meaning.Value k v)) = kind_at at
kept at (Some (meaning.IntCell c)) = kind_at at
kept at (Some (meaning.EnumCell c enum)) = kind_at at
kept at (Some (meaning.HoldCell c ks)) = Ok (record { cell = c; kinds = ks })
kept at (Some (meaning.NumsCell c)) = kind_at at
kept at (Some (meaning.WordsCell c)) = kind_at at
kept at (Some (meaning.Test t ks)) = kind_at at

-- What is stored in the target; another enum cell is copied.
abbrev pub placed_in : ℕ → Target → Typed → Result DoPlan CheckErr
placed_in at (ToInt c) (Number t) = Ok (plan.SetInt c t)
placed_in at (ToEnum c enum) (Label other l) =
    if enum == other then Ok (plan.SetEnum c l) else kind_at at
placed_in at (ToEnum c enum) (EnumCell d other) =
    if (enum == other) && not (c == d) then Ok (plan.CopyEnum c d) else kind_at at
placed_in at (ToNums c) (Number t) = Ok (plan.PushNum c t)
placed_in at (ToWords c) (Word w) = Ok (plan.PushWord c w)
placed_in at (ToInt c) (Word w) = kind_at at
placed_in at (ToInt c) (Label enum l) = kind_at at
placed_in at (ToInt c) (EnumCell d enum) = kind_at at
placed_in at (ToInt c) (HoldCell d ks) = kind_at at
placed_in at (ToInt c) (Truth b) = kind_at at
placed_in at (ToEnum c enum) (Number t) = kind_at at
placed_in at (ToEnum c enum) (Word w) = kind_at at
placed_in at (ToEnum c enum) (HoldCell d ks) = kind_at at
placed_in at (ToEnum c enum) (Truth b) = kind_at at
placed_in at (ToNums c) (Word w) = kind_at at
placed_in at (ToNums c) (Label enum l) = kind_at at
placed_in at (ToNums c) (EnumCell d enum) = kind_at at
placed_in at (ToNums c) (HoldCell d ks) = kind_at at
placed_in at (ToNums c) (Truth b) = kind_at at
placed_in at (ToWords c) (Number t) = kind_at at
placed_in at (ToWords c) (Label enum l) = kind_at at
placed_in at (ToWords c) (EnumCell d enum) = kind_at at
placed_in at (ToWords c) (HoldCell d ks) = kind_at at
placed_in at (ToWords c) (Truth b) = kind_at at

-- As many values as parts, else the place is that of the cell's name.
abbrev pub kept_values : ℕ → Kept → List Located → Result DoPlan CheckErr
kept_values at k found =
    if length found == length k.kinds
    then (do
      vs ← values_of k.kinds found
      Ok (plan.Keep k.cell vs))
    else kind_at at

abbrev pub kept_from : ℕ → Kept → Kept → Result DoPlan CheckErr
kept_from at k from =
    if pointwise same_kind k.kinds from.kinds && not (k.cell == from.cell)
    then Ok (plan.KeepFrom k.cell from.cell)
    else kind_at at

-- A statement's plan, with the scope and the number of the next local after it.
pub record PlannedDo : Type 0 where
  pub plan : DoPlan
  pub scope : Scope
  pub next : ℕ

pub record PlannedDos : Type 0 where
  pub plan : DosPlan
  pub next : ℕ

abbrev mutual
  pub statement : Scope → Scope → ℕ → StmtTree → Result PlannedDo CheckErr
  statement hidden s n (Let x e) =
      unless_taken x.at (find hidden x.text) (unless_taken x.at (find s x.text) (do
        t ← infer s e
        v ← let_value (place e) t
        Ok (record {
          plan = plan.Let n v.value;
          scope = s ++ local_entry x n v.kind ∷ [];
          next = n + 1;
        })))
  statement hidden s n (Set x e) = do
    target ← assigned x.at (find s x.text)
    t ← infer s e
    d ← placed_in (place e) target t
    Ok (record { plan = d; scope = s; next = n })
  statement hidden s n (Push x e) = do
    target ← pushed x.at (find s x.text)
    t ← infer s e
    d ← placed_in (place e) target t
    Ok (record { plan = d; scope = s; next = n })
  statement hidden s n (Keep x es) = do
    k ← kept x.at (find s x.text)
    found ← operands s es
    d ← kept_values x.at k found
    Ok (record { plan = d; scope = s; next = n })
  statement hidden s n (KeepFrom x y) = do
    k ← kept x.at (find s x.text)
    from ← kept y.at (find s y.text)
    d ← kept_from y.at k from
    Ok (record { plan = d; scope = s; next = n })
  statement hidden s n (If e a b) = do
    t ← infer s e
    c ← condition (place e) t
    left ← block hidden s n a
    right ← block hidden s left.next b
    Ok (record { plan = plan.If c left.plan right.plan; scope = s; next = right.next })

  pub block : Scope → Scope → ℕ → StmtsTree → Result PlannedDos CheckErr
  block hidden s n Done = Ok (record { plan = plan.End; next = n })
  block hidden s n (Then first rest) = do
    d ← statement hidden s n first
    ds ← block hidden d.scope d.next rest
    Ok (record { plan = plan.Then d.plan ds.plan; next = ds.next })
