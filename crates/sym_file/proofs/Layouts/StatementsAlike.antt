-- The plan of statements doesn't depend on places.
use Rattle.std.proofs.Common.{ℕ, List, length, Option, Some, None}
use Rattle.std.specs.Prelude.{◌==◌, ◌&&◌, not}
use Rattle.std.specs.Cmp.Lexicographic.{pointwise}
use Rattle.sym_base.specs.Trees.{StmtTree, Let, Set, Push, Keep, KeepFrom, If, StmtsTree, Done, Then}
use Rattle.sym_parse.specs.Bare.{bare_expr, bare_stmt, bare_stmts}
use Rattle.sym_check.specs.declared.elaborate.scope.Meaning.{Meaning}
use Rattle.sym_check.specs.declared.elaborate.scope.Meaning.TheVariants as meaning
use Rattle.sym_check.specs.Plan.LinePlans as line
use Rattle.sym_check.specs.Breaks.Expressions.{place}
use Rattle.sym_check.specs.Rules.Scopes.{Scope, find}
use Rattle.sym_check.specs.Rules.Typing.{Typed, Number, Word, Label, EnumCell, HoldCell, Truth}
use Rattle.sym_check.specs.Elaborate.Expressions.{same_kind, Located}
use Rattle.sym_check.specs.Elaborate.Statements.{let_value, Target, ToInt, ToEnum, ToNums, ToWords, assigned, pushed, Kept, kept, placed_in, kept_values, kept_from, statement, block}
use Rattle.sym_file.proofs.Layouts.Alike.{Same, Alike, alike, kind_alike, name_alike, going_on, then_alike, if_alike, unless_taken-alike}
use Rattle.sym_file.proofs.Layouts.ExpressionsAlike.{SameOperands, values_of-alike, counted_alike, condition-alike, infer-alike, operands-alike}

pub let_value-alike : (a b : ℕ) (t : Typed) → Alike Same (let_value a t) (let_value b t)
let_value-alike a b (Number (line.OfNum n)) = alike
let_value-alike a b (Number (line.OfLine k)) = kind_alike
let_value-alike a b (Word w) = alike
let_value-alike a b (Label enum l) = alike
let_value-alike a b (EnumCell c enum) = kind_alike
let_value-alike a b (HoldCell c ks) = kind_alike
let_value-alike a b (Truth v) = kind_alike

pub assigned-alike : (a b : ℕ) (m : Option Meaning) → Alike Same (assigned a m) (assigned b m)
assigned-alike a b None = name_alike
assigned-alike a b (Some meaning.Unfinished) = kind_alike
assigned-alike a b (Some (meaning.Enum enum)) = kind_alike
assigned-alike a b (Some (meaning.Label enum l)) = kind_alike
assigned-alike a b (Some (meaning.Value k v)) = kind_alike
assigned-alike a b (Some (meaning.IntCell c)) = alike
assigned-alike a b (Some (meaning.EnumCell c enum)) = alike
assigned-alike a b (Some (meaning.HoldCell c ks)) = kind_alike
assigned-alike a b (Some (meaning.NumsCell c)) = kind_alike
assigned-alike a b (Some (meaning.WordsCell c)) = kind_alike
assigned-alike a b (Some (meaning.Test t ks)) = kind_alike

pub pushed-alike : (a b : ℕ) (m : Option Meaning) → Alike Same (pushed a m) (pushed b m)
pushed-alike a b None = name_alike
pushed-alike a b (Some meaning.Unfinished) = kind_alike
pushed-alike a b (Some (meaning.Enum enum)) = kind_alike
pushed-alike a b (Some (meaning.Label enum l)) = kind_alike
pushed-alike a b (Some (meaning.Value k v)) = kind_alike
pushed-alike a b (Some (meaning.IntCell c)) = kind_alike
pushed-alike a b (Some (meaning.EnumCell c enum)) = kind_alike
pushed-alike a b (Some (meaning.HoldCell c ks)) = kind_alike
pushed-alike a b (Some (meaning.NumsCell c)) = alike
pushed-alike a b (Some (meaning.WordsCell c)) = alike
pushed-alike a b (Some (meaning.Test t ks)) = kind_alike

pub kept-alike : (a b : ℕ) (m : Option Meaning) → Alike Same (kept a m) (kept b m)
kept-alike a b None = name_alike
kept-alike a b (Some meaning.Unfinished) = kind_alike
kept-alike a b (Some (meaning.Enum enum)) = kind_alike
kept-alike a b (Some (meaning.Label enum l)) = kind_alike
kept-alike a b (Some (meaning.Value k v)) = kind_alike
kept-alike a b (Some (meaning.IntCell c)) = kind_alike
kept-alike a b (Some (meaning.EnumCell c enum)) = kind_alike
kept-alike a b (Some (meaning.HoldCell c ks)) = alike
kept-alike a b (Some (meaning.NumsCell c)) = kind_alike
kept-alike a b (Some (meaning.WordsCell c)) = kind_alike
kept-alike a b (Some (meaning.Test t ks)) = kind_alike

placed_in-alike : (a b : ℕ) (to : Target) (t : Typed) → Alike Same (placed_in a to t) (placed_in b to t)
placed_in-alike a b (ToInt c) (Number t) = alike
placed_in-alike a b (ToInt c) (Word w) = kind_alike
placed_in-alike a b (ToInt c) (Label enum l) = kind_alike
placed_in-alike a b (ToInt c) (EnumCell d enum) = kind_alike
placed_in-alike a b (ToInt c) (HoldCell d ks) = kind_alike
placed_in-alike a b (ToInt c) (Truth v) = kind_alike
placed_in-alike a b (ToEnum c of) (Number t) = kind_alike
placed_in-alike a b (ToEnum c of) (Word w) = kind_alike
placed_in-alike a b (ToEnum c of) (Label enum l) = if_alike (of == enum) alike kind_alike
placed_in-alike a b (ToEnum c of) (EnumCell d enum) = if_alike ((of == enum) && not (c == d)) alike kind_alike
placed_in-alike a b (ToEnum c of) (HoldCell d ks) = kind_alike
placed_in-alike a b (ToEnum c of) (Truth v) = kind_alike
placed_in-alike a b (ToNums c) (Number t) = alike
placed_in-alike a b (ToNums c) (Word w) = kind_alike
placed_in-alike a b (ToNums c) (Label enum l) = kind_alike
placed_in-alike a b (ToNums c) (EnumCell d enum) = kind_alike
placed_in-alike a b (ToNums c) (HoldCell d ks) = kind_alike
placed_in-alike a b (ToNums c) (Truth v) = kind_alike
placed_in-alike a b (ToWords c) (Number t) = kind_alike
placed_in-alike a b (ToWords c) (Word w) = alike
placed_in-alike a b (ToWords c) (Label enum l) = kind_alike
placed_in-alike a b (ToWords c) (EnumCell d enum) = kind_alike
placed_in-alike a b (ToWords c) (HoldCell d ks) = kind_alike
placed_in-alike a b (ToWords c) (Truth v) = kind_alike

kept_values-alike : (a b : ℕ) (k : Kept) (xs ys : List Located) → SameOperands xs ys → Alike Same (kept_values a k xs) (kept_values b k ys)
kept_values-alike a b k xs ys h = counted_alike xs ys (length k.kinds) h (then_alike (values_of-alike k.kinds xs ys h) (λ vs. alike)) kind_alike

kept_from-alike : (a b : ℕ) (k from : Kept) → Alike Same (kept_from a k from) (kept_from b k from)
kept_from-alike a b k from = if_alike (pointwise same_kind k.kinds from.kinds && not (k.cell == from.cell)) alike kind_alike

mutual
  statement-alike : (hidden s : Scope) (n : ℕ) (d : StmtTree) → Alike Same (statement hidden s n d) (statement hidden s n (bare_stmt d))
  statement-alike hidden s n (Let x e) =
      unless_taken-alike x.at 0 (find hidden x.text) (unless_taken-alike x.at 0 (find s x.text)
      (then_alike (infer-alike s e) (λ t. then_alike (let_value-alike (place e) (place (bare_expr e)) t) (λ v. alike))))
  statement-alike hidden s n (Set x e) =
      then_alike (assigned-alike x.at 0 (find s x.text)) (λ to. then_alike (infer-alike s e)
      (λ t. then_alike (placed_in-alike (place e) (place (bare_expr e)) to t) (λ d. alike)))
  statement-alike hidden s n (Push x e) =
      then_alike (pushed-alike x.at 0 (find s x.text)) (λ to. then_alike (infer-alike s e)
      (λ t. then_alike (placed_in-alike (place e) (place (bare_expr e)) to t) (λ d. alike)))
  statement-alike hidden s n (Keep x es) =
      then_alike (kept-alike x.at 0 (find s x.text)) (λ k. going_on (operands-alike s es)
      (λ xs ys h. then_alike (kept_values-alike x.at 0 k xs ys h) (λ d. alike)))
  statement-alike hidden s n (KeepFrom x y) =
      then_alike (kept-alike x.at 0 (find s x.text)) (λ k. then_alike (kept-alike y.at 0 (find s y.text))
      (λ from. then_alike (kept_from-alike y.at 0 k from) (λ d. alike)))
  statement-alike hidden s n (If e one other) =
      then_alike (infer-alike s e) (λ t. then_alike (condition-alike (place e) (place (bare_expr e)) t)
      (λ c. then_alike (block-alike hidden s n one) (λ left. then_alike (block-alike hidden s left.next other) (λ right. alike))))

  pub block-alike : (hidden s : Scope) (n : ℕ) (ds : StmtsTree) → Alike Same (block hidden s n ds) (block hidden s n (bare_stmts ds))
  block-alike hidden s n Done = alike
  block-alike hidden s n (Then first rest) =
      then_alike (statement-alike hidden s n first) (λ d. then_alike (block-alike hidden d.scope d.next rest) (λ ds. alike))
