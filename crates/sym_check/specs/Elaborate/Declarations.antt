-- The plan of declarations, or the first broken rule in them, by trying the rules in order.
use Rattle.std.specs.Prelude.{ℕ, int_le, ◌+◌, ◌==◌, ◌&&◌, if◌then◌else◌, List, [], ◌∷◌, ◌++◌, Option, Some, None, Result, Ok, Err}
use Rattle.std.specs.List.{list_any}
use Rattle.std.specs.Option.{unwrap_or}
use Rattle.sym_base.specs.declared.tree.name.Name.{Name}
use Rattle.sym_base.specs.declared.tree.declaration.EnumDecl.{EnumDecl}
use Rattle.sym_base.specs.declared.tree.declaration.FieldDecl.{FieldDecl}
use Rattle.sym_base.specs.declared.tree.declaration.KindRef.{KindRef}
use Rattle.sym_base.specs.declared.tree.declaration.KindRef.TheVariants as ref
use Rattle.sym_base.specs.declared.tree.declaration.Literal.{Literal}
use Rattle.sym_base.specs.declared.tree.declaration.Literal.TheVariants as literal
use Rattle.sym_base.specs.declared.tree.declaration.Part.{Part}
use Rattle.sym_base.specs.declared.tree.declaration.CellDecl.{CellDecl}
use Rattle.sym_base.specs.declared.tree.declaration.CellDecl.TheVariants as cell
use Rattle.sym_base.specs.declared.tree.declaration.StateDecl.{StateDecl}
use Rattle.sym_base.specs.declared.tree.declaration.Param.{Param}
use Rattle.sym_base.specs.declared.values.value.Value.{Value}
use Rattle.sym_base.specs.declared.values.value.Value.TheVariants as value
use Rattle.sym_base.specs.Trees.{TestTree}
use Rattle.sym_check.specs.declared.plan.script.EnumPlan.{EnumPlan}
use Rattle.sym_check.specs.declared.plan.script.KindPlan.{KindPlan}
use Rattle.sym_check.specs.declared.plan.script.KindPlan.TheVariants as kind
use Rattle.sym_check.specs.declared.plan.script.FieldPlan.{FieldPlan}
use Rattle.sym_check.specs.declared.plan.script.CellPlan.{CellPlan}
use Rattle.sym_check.specs.declared.plan.script.CellPlan.TheVariants as plan
use Rattle.sym_check.specs.Meaning.Arithmetic.{◌>>=◌, and_then}
use Rattle.sym_check.specs.Plan.ScriptPlans.{TestOf}
use Rattle.sym_check.specs.declared.elaborate.error.CheckErr.{CheckErr}
use Rattle.sym_check.specs.declared.elaborate.error.CheckErr.TheVariants as broken
use Rattle.sym_check.specs.Meaning.Conditions.{same_word}
use Rattle.sym_check.specs.declared.elaborate.scope.Variable.TheVariants as var
use Rattle.sym_check.specs.declared.elaborate.scope.Meaning.{Meaning}
use Rattle.sym_check.specs.Rules.Scopes.{Scope, entry, find, in_tests}
use Rattle.sym_check.specs.declared.elaborate.scope.Meaning.TheVariants as meaning
use Rattle.sym_check.specs.Breaks.Expressions.{place}
use Rattle.sym_check.specs.Elaborate.Expressions.{kind_at, condition, infer}
use Rattle.sym_check.specs.Elaborate.Statements.{unless_taken}
use Rattle.sym_check.specs.Rules.InOrder.{Planned, each}
use Rattle.sym_check.specs.Rules.Declarations.{unfinished}

-- The enum that a name stands for.
abbrev pub enum_named : ℕ → Option Meaning → Result ℕ CheckErr
enum_named at None = Err (broken.Name at)
enum_named at (Some meaning.Unfinished) = kind_at at
enum_named at (Some (meaning.Enum enum)) = Ok enum
enum_named at (Some (meaning.Label enum l)) = kind_at at
enum_named at (Some (meaning.Value k v)) = kind_at at
enum_named at (Some (meaning.IntCell c)) = kind_at at
enum_named at (Some (meaning.EnumCell c enum)) = kind_at at
enum_named at (Some (meaning.HoldCell c ks)) = kind_at at
enum_named at (Some (meaning.NumsCell c)) = kind_at at
enum_named at (Some (meaning.WordsCell c)) = kind_at at
enum_named at (Some (meaning.Test t ks)) = kind_at at

-- The label of an enum that a name stands for.
abbrev pub label_named : ℕ → ℕ → Option Meaning → Result ℕ CheckErr
label_named wanted at None = Err (broken.Name at)
label_named wanted at (Some meaning.Unfinished) = kind_at at
label_named wanted at (Some (meaning.Enum enum)) = kind_at at
label_named wanted at (Some (meaning.Label enum l)) = if enum == wanted then Ok l else kind_at at
label_named wanted at (Some (meaning.Value k v)) = kind_at at
label_named wanted at (Some (meaning.IntCell c)) = kind_at at
label_named wanted at (Some (meaning.EnumCell c enum)) = kind_at at
label_named wanted at (Some (meaning.HoldCell c ks)) = kind_at at
label_named wanted at (Some (meaning.NumsCell c)) = kind_at at
label_named wanted at (Some (meaning.WordsCell c)) = kind_at at
label_named wanted at (Some (meaning.Test t ks)) = kind_at at

-- The field that a name stands for.
abbrev pub field_named : ℕ → Option Meaning → Result ℕ CheckErr
field_named at None = Err (broken.Name at)
field_named at (Some meaning.Unfinished) = kind_at at
field_named at (Some (meaning.Enum enum)) = kind_at at
field_named at (Some (meaning.Label enum l)) = kind_at at
field_named at (Some (meaning.Value k (var.Field n))) = Ok n
field_named at (Some (meaning.Value k (var.Local n))) = kind_at at
field_named at (Some (meaning.Value k (var.Param n))) = kind_at at
field_named at (Some (meaning.IntCell c)) = kind_at at
field_named at (Some (meaning.EnumCell c enum)) = kind_at at
field_named at (Some (meaning.HoldCell c ks)) = kind_at at
field_named at (Some (meaning.NumsCell c)) = kind_at at
field_named at (Some (meaning.WordsCell c)) = kind_at at
field_named at (Some (meaning.Test t ks)) = kind_at at

abbrev pub kind_of : Scope → KindRef → Result KindPlan CheckErr
kind_of s ref.Num = Ok kind.Num
kind_of s ref.Word = Ok kind.Word
kind_of s (ref.Named x) = do
  enum ← enum_named x.at (find s x.text)
  Ok (kind.Label enum)

-- No label, though its name may stand for something.
abbrev pub no_label : {A : Type 0} → ℕ → Option Meaning → Result A CheckErr
no_label at None = Err (broken.Name at)
no_label at (Some m) = kind_at at

abbrev pub literal_of : Scope → KindPlan → Literal → Result Value CheckErr
literal_of s kind.Num (literal.Num n at) = Ok (value.Num n)
literal_of s kind.Num (literal.Text t at) = kind_at at
literal_of s kind.Num (literal.Named x) = no_label x.at (find s x.text)
literal_of s kind.Word (literal.Num n at) = kind_at at
literal_of s kind.Word (literal.Text t at) = Ok (value.Word t)
literal_of s kind.Word (literal.Named x) = no_label x.at (find s x.text)
literal_of s (kind.Label enum) (literal.Num n at) = kind_at at
literal_of s (kind.Label enum) (literal.Text t at) = kind_at at
literal_of s (kind.Label enum) (literal.Named x) = do
  l ← label_named enum x.at (find s x.text)
  Ok (value.Label l)

abbrev pub default_of : Scope → KindPlan → Option Literal → Result (Option Value) CheckErr
default_of s k None = Ok None
default_of s k (Some l) = do
  v ← literal_of s k l
  Ok (Some v)

abbrev pub label_decl : ℕ → Scope → ℕ → Name → Result (Planned (List ℕ)) CheckErr
label_decl enum s n x =
    unless_taken x.at (find s x.text) (Ok (record {
      plan = x.text;
      scope = s ++ entry x (meaning.Label enum n) ∷ [];
    }))

abbrev pub enum_decl : Scope → ℕ → EnumDecl → Result (Planned EnumPlan) CheckErr
enum_decl s n d =
    unless_taken d.name.at (find s d.name.text) (do
      labels ← each (label_decl n) (s ++ entry d.name (meaning.Enum n) ∷ []) 0 d.labels
      Ok (record { plan = record { labels = labels.plan }; scope = labels.scope }))

abbrev pub field_decl : Scope → ℕ → FieldDecl → Result (Planned FieldPlan) CheckErr
field_decl s n d =
    unless_taken d.name.at (find s d.name.text) (do
      k ← kind_of (unfinished s d.name) d.kind
      empty ← default_of (unfinished s d.name) k d.default
      Ok (record {
        plan = record { header = unwrap_or d.header d.name.text; kind = k; default = empty };
        scope = s ++ entry d.name (meaning.Value k (var.Field n)) ∷ [];
      }))

-- A field of the group line; `named` are the earlier names of the line.
abbrev pub group_field : Scope → Scope → ℕ → Name → Result (Planned ℕ) CheckErr
group_field s named i x =
    unless_taken x.at (find named x.text) (do
      n ← field_named x.at (find s x.text)
      Ok (record { plan = n; scope = unfinished named x }))

abbrev pub group_of : Scope → List Name → Result (List ℕ) CheckErr
group_of s group = do
  fields ← each (group_field s) [] 0 group
  Ok fields.plan

pub record PlannedParts : Type 0 where
  pub kinds : List KindPlan
  pub firsts : List Value

abbrev pub parts_of : Scope → List Part → Result PlannedParts CheckErr
parts_of s [] = Ok (record { kinds = []; firsts = [] })
parts_of s (d ∷ rest) = do
  k ← kind_of s d.kind
  v ← literal_of s k d.first
  parts ← parts_of s rest
  Ok (record { kinds = k ∷ parts.kinds; firsts = v ∷ parts.firsts })

pub record PlannedCell : Type 0 where
  pub plan : CellPlan
  pub meaning : Meaning

-- The place is that of the state's name.
abbrev pub cell_of : Scope → ℕ → ℕ → CellDecl → Result PlannedCell CheckErr
cell_of s n at (cell.Int lo hi first clamp) =
    if int_le lo first && int_le first hi
    then Ok (record { plan = plan.Int lo hi first clamp; meaning = meaning.IntCell n })
    else Err (broken.Range at)
cell_of s n at (cell.Nums lo hi clamp) =
    if int_le lo hi
    then Ok (record { plan = plan.Nums lo hi clamp; meaning = meaning.NumsCell n })
    else Err (broken.Range at)
cell_of s n at cell.Words = Ok (record { plan = plan.Words; meaning = meaning.WordsCell n })
cell_of s n at (cell.Hold parts) = do
  p ← parts_of s parts
  Ok (record { plan = plan.Hold p.kinds p.firsts; meaning = meaning.HoldCell n p.kinds })
cell_of s n at (cell.Enum of first) = do
  enum ← enum_named of.at (find s of.text)
  l ← label_named enum first.at (find s first.text)
  Ok (record { plan = plan.Enum enum l; meaning = meaning.EnumCell n enum })

abbrev pub state_decl : Scope → ℕ → StateDecl → Result (Planned CellPlan) CheckErr
state_decl s n d =
    unless_taken d.name.at (find s d.name.text) (do
      c ← cell_of (unfinished s d.name) n d.name.at d.cell
      Ok (record { plan = c.plan; scope = s ++ entry d.name c.meaning ∷ [] }))

abbrev pub unless_named : {A : Type 0} → List (List ℕ) → Name → Result A CheckErr
    → Result A CheckErr
unless_named names x next =
    if list_any (same_word x.text) names then Err (broken.Twice x.at) else next

abbrev pub param_decl : List (List ℕ) → Scope → Scope → ℕ → Param
    → Result (Planned KindPlan) CheckErr
param_decl names s params n d =
    unless_named names d.name (unless_taken d.name.at (find params d.name.text) (do
      k ← kind_of s d.kind
      Ok (record {
        plan = k;
        scope = params ++ entry d.name (meaning.Value k (var.Param n)) ∷ [];
      })))

abbrev pub test_decl : List (List ℕ) → Scope → ℕ → TestTree → Result (Planned TestOf) CheckErr
test_decl names s n d =
    unless_taken d.name.at (find s d.name.text) (do
      params ← each (param_decl names (unfinished s d.name)) [] 0 d.params
      t ← infer (in_tests s ++ params.scope) d.body
      c ← condition (place d.body) t
      Ok (record {
        plan = record { params = params.plan; body = c };
        scope = s ++ entry d.name (meaning.Test n params.plan) ∷ [];
      }))
