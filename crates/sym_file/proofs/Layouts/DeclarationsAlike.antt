-- The plans of declarations don't depend on places.
use Rattle.std.proofs.Common.{ℕ, List, [], ◌∷◌, ◌++◌, map, Option, Some, None, Result}
use Rattle.std.specs.Prelude.{int_le, ◌==◌, ◌&&◌}
use Rattle.std.specs.List.{list_any}
use Rattle.std.specs.Option.{option_map}
use Rattle.sym_base.specs.declared.tree.name.Name.{Name}
use Rattle.sym_base.specs.declared.tree.declaration.EnumDecl.{EnumDecl}
use Rattle.sym_base.specs.declared.tree.declaration.FieldDecl.{FieldDecl}
use Rattle.sym_base.specs.declared.tree.declaration.KindRef.{KindRef}
use Rattle.sym_base.specs.declared.tree.declaration.KindRef.TheVariants as ref
use Rattle.sym_base.specs.declared.tree.declaration.Literal.{Literal}
use Rattle.sym_base.specs.declared.tree.declaration.Literal.TheVariants as literal
use Rattle.sym_base.specs.declared.tree.declaration.Part.{Part}
use Rattle.sym_base.specs.declared.tree.declaration.CellDecl.{CellDecl}
use Rattle.sym_base.specs.declared.tree.declaration.CellDecl.TheVariants as cell
use Rattle.sym_base.specs.declared.tree.declaration.StateDecl.{StateDecl}
use Rattle.sym_base.specs.declared.tree.declaration.Param.{Param}
use Rattle.sym_base.specs.Trees.{TestTree}
use Rattle.sym_parse.specs.Bare.{bare_name, bare_expr, bare_kind, bare_literal, bare_enum, bare_field, bare_part, bare_cell, bare_state, bare_param, bare_test}
use Rattle.sym_check.specs.declared.elaborate.error.CheckErr.{CheckErr}
use Rattle.sym_check.specs.declared.elaborate.scope.Meaning.{Meaning}
use Rattle.sym_check.specs.declared.elaborate.scope.Meaning.TheVariants as meaning
use Rattle.sym_check.specs.declared.elaborate.scope.Variable.TheVariants as var
use Rattle.sym_check.specs.declared.plan.script.KindPlan.{KindPlan}
use Rattle.sym_check.specs.declared.plan.script.KindPlan.TheVariants as kind
use Rattle.sym_check.specs.Meaning.Conditions.{same_word}
use Rattle.sym_check.specs.Breaks.Expressions.{place}
use Rattle.sym_check.specs.Rules.Declarations.{unfinished}
use Rattle.sym_check.specs.Rules.Scopes.{Scope, entry, find, in_tests}
use Rattle.sym_check.specs.Elaborate.Declarations.{enum_named, label_named, field_named, kind_of, no_label, literal_of, default_of, label_decl, enum_decl, field_decl, group_field, group_of, parts_of, cell_of, state_decl, unless_named, param_decl, test_decl}
use Rattle.sym_file.proofs.Layouts.Alike.{Same, Alike, alike, kind_alike, name_alike, twice_alike, range_alike, then_alike, if_alike, unless_taken-alike, each-alike}
use Rattle.sym_file.proofs.Layouts.ExpressionsAlike.{condition-alike, infer-alike}

enum_named-alike : (a b : ℕ) (m : Option Meaning) → Alike Same (enum_named a m) (enum_named b m)
enum_named-alike a b None = name_alike
enum_named-alike a b (Some meaning.Unfinished) = kind_alike
enum_named-alike a b (Some (meaning.Enum enum)) = alike
enum_named-alike a b (Some (meaning.Label enum l)) = kind_alike
enum_named-alike a b (Some (meaning.Value k v)) = kind_alike
enum_named-alike a b (Some (meaning.IntCell c)) = kind_alike
enum_named-alike a b (Some (meaning.EnumCell c enum)) = kind_alike
enum_named-alike a b (Some (meaning.HoldCell c ks)) = kind_alike
enum_named-alike a b (Some (meaning.NumsCell c)) = kind_alike
enum_named-alike a b (Some (meaning.WordsCell c)) = kind_alike
enum_named-alike a b (Some (meaning.Test t ks)) = kind_alike

label_named-alike : (wanted : ℕ) (a b : ℕ) (m : Option Meaning) → Alike Same (label_named wanted a m) (label_named wanted b m)
label_named-alike wanted a b None = name_alike
label_named-alike wanted a b (Some meaning.Unfinished) = kind_alike
label_named-alike wanted a b (Some (meaning.Enum enum)) = kind_alike
label_named-alike wanted a b (Some (meaning.Label enum l)) = if_alike (enum == wanted) alike kind_alike
label_named-alike wanted a b (Some (meaning.Value k v)) = kind_alike
label_named-alike wanted a b (Some (meaning.IntCell c)) = kind_alike
label_named-alike wanted a b (Some (meaning.EnumCell c enum)) = kind_alike
label_named-alike wanted a b (Some (meaning.HoldCell c ks)) = kind_alike
label_named-alike wanted a b (Some (meaning.NumsCell c)) = kind_alike
label_named-alike wanted a b (Some (meaning.WordsCell c)) = kind_alike
label_named-alike wanted a b (Some (meaning.Test t ks)) = kind_alike

field_named-alike : (a b : ℕ) (m : Option Meaning) → Alike Same (field_named a m) (field_named b m)
field_named-alike a b None = name_alike
field_named-alike a b (Some meaning.Unfinished) = kind_alike
field_named-alike a b (Some (meaning.Enum enum)) = kind_alike
field_named-alike a b (Some (meaning.Label enum l)) = kind_alike
field_named-alike a b (Some (meaning.Value k (var.Field n))) = alike
field_named-alike a b (Some (meaning.Value k (var.Local n))) = kind_alike
field_named-alike a b (Some (meaning.Value k (var.Param n))) = kind_alike
field_named-alike a b (Some (meaning.IntCell c)) = kind_alike
field_named-alike a b (Some (meaning.EnumCell c enum)) = kind_alike
field_named-alike a b (Some (meaning.HoldCell c ks)) = kind_alike
field_named-alike a b (Some (meaning.NumsCell c)) = kind_alike
field_named-alike a b (Some (meaning.WordsCell c)) = kind_alike
field_named-alike a b (Some (meaning.Test t ks)) = kind_alike

kind_of-alike : (s : Scope) (k : KindRef) → Alike Same (kind_of s k) (kind_of s (bare_kind k))
kind_of-alike s ref.Num = alike
kind_of-alike s ref.Word = alike
kind_of-alike s (ref.Named x) = then_alike (enum_named-alike x.at 0 (find s x.text)) (λ enum. alike)

no_label-alike : {A : Type 0} {P : A → A → Type 0} (a b : ℕ) (m : Option Meaning) → Alike P (no_label a m) (no_label b m)
no_label-alike a b None = name_alike
no_label-alike a b (Some m) = kind_alike

literal_of-alike : (s : Scope) (k : KindPlan) (l : Literal) → Alike Same (literal_of s k l) (literal_of s k (bare_literal l))
literal_of-alike s kind.Num (literal.Num n at) = alike
literal_of-alike s kind.Num (literal.Text t at) = kind_alike
literal_of-alike s kind.Num (literal.Named x) = no_label-alike x.at 0 (find s x.text)
literal_of-alike s kind.Word (literal.Num n at) = kind_alike
literal_of-alike s kind.Word (literal.Text t at) = alike
literal_of-alike s kind.Word (literal.Named x) = no_label-alike x.at 0 (find s x.text)
literal_of-alike s (kind.Label enum) (literal.Num n at) = kind_alike
literal_of-alike s (kind.Label enum) (literal.Text t at) = kind_alike
literal_of-alike s (kind.Label enum) (literal.Named x) = then_alike (label_named-alike enum x.at 0 (find s x.text)) (λ l. alike)

default_of-alike : (s : Scope) (k : KindPlan) (d : Option Literal) → Alike Same (default_of s k d) (default_of s k (option_map bare_literal d))
default_of-alike s k None = alike
default_of-alike s k (Some l) = then_alike (literal_of-alike s k l) (λ v. alike)

label_decl-alike : (enum : ℕ) (s : Scope) (n : ℕ) (x : Name) → Alike Same (label_decl enum s n x) (label_decl enum s n (bare_name x))
label_decl-alike enum s n x = unless_taken-alike x.at 0 (find s x.text) alike

pub enum_decl-alike : (s : Scope) (n : ℕ) (d : EnumDecl) → Alike Same (enum_decl s n d) (enum_decl s n (bare_enum d))
enum_decl-alike s n d =
    unless_taken-alike d.name.at 0 (find s d.name.text)
    (then_alike (each-alike bare_name (label_decl n) (label_decl n) (label_decl-alike n) (s ++ entry d.name (meaning.Enum n) ∷ []) 0 d.labels) (λ labels. alike))

pub field_decl-alike : (s : Scope) (n : ℕ) (d : FieldDecl) → Alike Same (field_decl s n d) (field_decl s n (bare_field d))
field_decl-alike s n d =
    unless_taken-alike d.name.at 0 (find s d.name.text)
    (then_alike (kind_of-alike (unfinished s d.name) d.kind) (λ k. then_alike (default_of-alike (unfinished s d.name) k d.default) (λ empty. alike)))

group_field-alike : (s named : Scope) (i : ℕ) (x : Name) → Alike Same (group_field s named i x) (group_field s named i (bare_name x))
group_field-alike s named i x =
    unless_taken-alike x.at 0 (find named x.text) (then_alike (field_named-alike x.at 0 (find s x.text)) (λ n. alike))

pub group_of-alike : (s : Scope) (group : List Name) → Alike Same (group_of s group) (group_of s (map bare_name group))
group_of-alike s group = then_alike (each-alike bare_name (group_field s) (group_field s) (group_field-alike s) [] 0 group) (λ fields. alike)

parts_of-alike : (s : Scope) (parts : List Part) → Alike Same (parts_of s parts) (parts_of s (map bare_part parts))
parts_of-alike s [] = alike
parts_of-alike s (d ∷ rest) =
    then_alike (kind_of-alike s d.kind) (λ k. then_alike (literal_of-alike s k d.first) (λ v. then_alike (parts_of-alike s rest) (λ parts. alike)))

cell_of-alike : (s : Scope) (n a b : ℕ) (c : CellDecl) → Alike Same (cell_of s n a c) (cell_of s n b (bare_cell c))
cell_of-alike s n a b (cell.Int lo hi first clamp) = if_alike (int_le lo first && int_le first hi) alike range_alike
cell_of-alike s n a b (cell.Nums lo hi clamp) = if_alike (int_le lo hi) alike range_alike
cell_of-alike s n a b cell.Words = alike
cell_of-alike s n a b (cell.Hold parts) = then_alike (parts_of-alike s parts) (λ p. alike)
cell_of-alike s n a b (cell.Enum of first) =
    then_alike (enum_named-alike of.at 0 (find s of.text)) (λ enum. then_alike (label_named-alike enum first.at 0 (find s first.text)) (λ l. alike))

pub state_decl-alike : (s : Scope) (n : ℕ) (d : StateDecl) → Alike Same (state_decl s n d) (state_decl s n (bare_state d))
state_decl-alike s n d =
    unless_taken-alike d.name.at 0 (find s d.name.text) (then_alike (cell_of-alike (unfinished s d.name) n d.name.at 0 d.cell) (λ c. alike))

unless_named-alike : {A : Type 0} {P : A → A → Type 0} {r q : Result A CheckErr} (names : List (List ℕ)) (x : Name)
    → Alike P r q → Alike P (unless_named names x r) (unless_named names (bare_name x) q)
unless_named-alike names x h = if_alike (list_any (same_word x.text) names) twice_alike h

param_decl-alike : (names : List (List ℕ)) (s params : Scope) (n : ℕ) (d : Param)
    → Alike Same (param_decl names s params n d) (param_decl names s params n (bare_param d))
param_decl-alike names s params n d =
    unless_named-alike names d.name (unless_taken-alike d.name.at 0 (find params d.name.text) (then_alike (kind_of-alike s d.kind) (λ k. alike)))

pub test_decl-alike : (names : List (List ℕ)) (s : Scope) (n : ℕ) (d : TestTree) → Alike Same (test_decl names s n d) (test_decl names s n (bare_test d))
test_decl-alike names s n d =
    unless_taken-alike d.name.at 0 (find s d.name.text)
    (then_alike (each-alike bare_param (param_decl names (unfinished s d.name)) (param_decl names (unfinished s d.name)) (param_decl-alike names (unfinished s d.name)) [] 0 d.params)
    (λ params. then_alike (infer-alike (in_tests s ++ params.scope) d.body)
    (λ t. then_alike (condition-alike (place d.body) (place (bare_expr d.body)) t) (λ c. alike))))
