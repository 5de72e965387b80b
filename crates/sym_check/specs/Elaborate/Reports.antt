-- The plan of columns, or the first broken rule in them, by trying the rules in order.
use Rattle.std.specs.Prelude.{ℕ, ℤ, pos, negsuc, ◌-◌, ◌==◌, ◌||◌, is_some, if◌then◌else◌, List, [], ◌∷◌, ◌++◌, Option, Some, None, slice_get, Result, Ok, Err}
use Rattle.sym_base.specs.Trees.{ColumnTree, ExprTree, Num, Words, Named, Call, Neg, Not, Bin, ExprsTree, End, More}
use Rattle.sym_check.specs.declared.plan.expression.ArithOp.{ArithOp}
use Rattle.sym_check.specs.declared.plan.script.KindPlan.{KindPlan}
use Rattle.sym_check.specs.declared.plan.script.KindPlan.TheVariants as kind
use Rattle.sym_check.specs.declared.plan.show.ShowFn.{ShowFn}
use Rattle.sym_check.specs.declared.plan.show.ShowFn.TheVariants as show_fn
use Rattle.sym_check.specs.Meaning.Arithmetic.{◌>>=◌, and_then}
use Rattle.sym_check.specs.Plan.ShowPlans.{ShowPlan}
use Rattle.sym_check.specs.Plan.ShowPlans as show
use Rattle.sym_check.specs.Plan.ScriptPlans.{ColumnOf}
use Rattle.sym_check.specs.declared.elaborate.error.CheckErr.{CheckErr}
use Rattle.sym_check.specs.declared.elaborate.error.CheckErr.TheVariants as broken
use Rattle.sym_check.specs.declared.elaborate.scope.Meaning.{Meaning}
use Rattle.sym_check.specs.Rules.Scopes.{Scope, entry, find}
use Rattle.sym_check.specs.declared.elaborate.scope.Meaning.TheVariants as meaning
use Rattle.sym_check.specs.Rules.Typing.{arith_of}
use Rattle.sym_check.specs.Breaks.Expressions.{place}
use Rattle.sym_check.specs.Elaborate.Expressions.{kind_at}
use Rattle.sym_check.specs.Elaborate.Statements.{unless_taken}
use Rattle.sym_check.specs.Rules.InOrder.{Planned}
use Rattle.sym_check.specs.Rules.Reports.{list_function, is_part}

-- What a report expression comes to: a number that stands there, a calculated number, a word, a
-- list of numbers or of words, or a hold cell, which has no value as a whole.
pub data Seen : Type 0 where
  Numeral : ℤ → ℕ → Seen
  Number : ShowPlan → Seen
  Word : ShowPlan → Seen
  NumList : ℕ → Seen
  WordList : ℕ → Seen
  Parts : ℕ → List KindPlan → Seen

-- What the name of a cell stands for in the report.
abbrev pub seen : ℕ → Option Meaning → Result Seen CheckErr
seen at None = Err (broken.Name at)
seen at (Some meaning.Unfinished) = kind_at at
seen at (Some (meaning.Enum enum)) = kind_at at
seen at (Some (meaning.Label enum l)) = kind_at at
seen at (Some (meaning.Value k v)) = kind_at at
seen at (Some (meaning.IntCell c)) = Ok (Number (show.Cell c))
seen at (Some (meaning.EnumCell c enum)) = Ok (Word (show.Cell c))
seen at (Some (meaning.HoldCell c ks)) = Ok (Parts c ks)
seen at (Some (meaning.NumsCell c)) = Ok (NumList c)
seen at (Some (meaning.WordsCell c)) = Ok (WordList c)
seen at (Some (meaning.Test t ks)) = kind_at at

abbrev pub shown_number : ℕ → Seen → Result ShowPlan CheckErr
shown_number at (Numeral n place) = Ok (show.Num n)
shown_number at (Number p) = Ok p
shown_number at (Word p) = kind_at at
shown_number at (NumList c) = kind_at at
shown_number at (WordList c) = kind_at at
shown_number at (Parts c ks) = kind_at at

-- A column's whole value; the place is that of the expression.
abbrev pub shown : ℕ → Seen → Result ShowPlan CheckErr
shown at (Numeral n place) = Ok (show.Num n)
shown at (Number p) = Ok p
shown at (Word p) = Ok p
shown at (NumList c) = Ok (show.Cell c)
shown at (WordList c) = Ok (show.Cell c)
shown at (Parts c ks) = kind_at at

abbrev pub calculated_by : ℕ → Option ArithOp → Seen → Seen → Result Seen CheckErr
calculated_by at None l r = kind_at at
calculated_by at (Some a) l r = do
  p ← shown_number at l
  q ← shown_number at r
  Ok (Number (show.Bin a p q))

abbrev pub part_seen : KindPlan → ShowPlan → Seen
part_seen kind.Num p = Number p
part_seen kind.Word p = Word p
part_seen (kind.Label enum) p = Word p

-- The part with a number that counts from 1; `place` is that number's.
abbrev pub part_at : ℕ → ℕ → List KindPlan → ℕ → Result Seen CheckErr
part_at place c ks k = found (slice_get ks (k - 1))
  where
    found : Option KindPlan → Result Seen CheckErr
    found None = Err (broken.Range place)
    found (Some of) = if k == 0 then Err (broken.Range place) else Ok (part_seen of (show.Part c k))

-- A number of an expression has no sign of its own.
abbrev pub part_by : ℕ → ℕ → ℕ → List KindPlan → ℤ → Result Seen CheckErr
part_by at place c ks (pos k) = part_at place c ks k
part_by at place c ks (negsuc k) = kind_at at

-- The first or the last word of a list of words, or their number.
abbrev pub of_word_list : ℕ → ShowFn → ℕ → Result Seen CheckErr
of_word_list at show_fn.Count c = Ok (Number (show.Call show_fn.Count c))
of_word_list at show_fn.First c = Ok (Word (show.Call show_fn.First c))
of_word_list at show_fn.Last c = Ok (Word (show.Call show_fn.Last c))
of_word_list at show_fn.Sum c = kind_at at
of_word_list at show_fn.Min c = kind_at at
of_word_list at show_fn.Max c = kind_at at

abbrev pub of_list : ℕ → ShowFn → List Seen → Result Seen CheckErr
of_list at f [] = kind_at at
of_list at f (Numeral n place ∷ rest) = kind_at at
of_list at f (Number p ∷ rest) = kind_at at
of_list at f (Word p ∷ rest) = kind_at at
of_list at f (NumList c ∷ []) = Ok (Number (show.Call f c))
of_list at f (NumList c ∷ other ∷ rest) = kind_at at
of_list at f (WordList c ∷ []) = of_word_list at f c
of_list at f (WordList c ∷ other ∷ rest) = kind_at at
of_list at f (Parts c ks ∷ rest) = kind_at at

abbrev pub of_parts : ℕ → List Seen → Result Seen CheckErr
of_parts at (Parts c ks ∷ Numeral n place ∷ []) = part_by at place c ks n
of_parts at _ = kind_at at

-- The function whose name this is, of what its arguments come to.
abbrev pub applied : ℕ → Option ShowFn → List Seen → Result Seen CheckErr
applied at (Some f) found = of_list at f found
applied at None found = of_parts at found

abbrev mutual
  pub see : Scope → ExprTree → Result Seen CheckErr
  see s (Num n at) = Ok (Numeral n at)
  see s (Words t at) = Ok (Word (show.Text t))
  see s (Named x) = seen x.at (find s x.text)
  see s (Call x es) =
      if is_some (list_function x.text) || is_part x.text
      then (do
        found ← see_all s es
        applied x.at (list_function x.text) found)
      else Err (broken.Name x.at)
  see s (Neg e at) = do
    t ← see s e
    p ← shown_number at t
    Ok (Number (show.Neg p))
  see s (Not e at) = do
    t ← see s e
    kind_at at
  see s (Bin o l r at) = do
    t ← see s l
    u ← see s r
    calculated_by at (arith_of o) t u

  pub see_all : Scope → ExprsTree → Result (List Seen) CheckErr
  see_all s End = Ok []
  see_all s (More e es) = do
    t ← see s e
    rest ← see_all s es
    Ok (t ∷ rest)

abbrev pub column_decl : Scope → Scope → ℕ → ColumnTree → Result (Planned ColumnOf) CheckErr
column_decl s columns n d =
    unless_taken d.name.at (find columns d.name.text) (do
      t ← see s d.value
      p ← shown (place d.value) t
      Ok (record {
        plan = record { name = d.name.text; value = p };
        scope = columns ++ entry d.name meaning.Unfinished ∷ [];
      }))
