-- The columns of the report don't depend on places.
use Rattle.std.proofs.Common.{◌≡◌, refl, ℕ, List, [], ◌∷◌, Option, Some, None, Ok}
use Rattle.std.specs.Prelude.{ℤ, pos, negsuc, ◌-◌, ◌==◌, ◌||◌, is_some, slice_get}
use Rattle.sym_base.specs.Trees.{ColumnTree, ExprTree, Num, Words, Named, Call, Neg, Not, Bin, ExprsTree, End, More}
use Rattle.sym_parse.specs.Bare.{bare_expr, bare_exprs, bare_column}
use Rattle.sym_check.specs.declared.elaborate.scope.Meaning.{Meaning}
use Rattle.sym_check.specs.declared.elaborate.scope.Meaning.TheVariants as meaning
use Rattle.sym_check.specs.declared.plan.expression.ArithOp.{ArithOp}
use Rattle.sym_check.specs.declared.plan.script.KindPlan.{KindPlan}
use Rattle.sym_check.specs.declared.plan.show.ShowFn.{ShowFn}
use Rattle.sym_check.specs.declared.plan.show.ShowFn.TheVariants as show_fn
use Rattle.sym_check.specs.Breaks.Expressions.{place}
use Rattle.sym_check.specs.Rules.Reports.{list_function, is_part}
use Rattle.sym_check.specs.Rules.Scopes.{Scope, find}
use Rattle.sym_check.specs.Rules.Typing.{arith_of}
use Rattle.sym_check.specs.Elaborate.Reports.{Seen, Numeral, Number, Word, NumList, WordList, Parts, seen, shown_number, shown, calculated_by, part_at, part_by, of_word_list, of_list, of_parts, applied, see, see_all, column_decl}
use Rattle.sym_file.proofs.Layouts.Alike.{Same, Alike, fine, alike, kind_alike, name_alike, range_alike, going_on, then_alike, if_alike, unless_taken-alike}

-- A number that stands there has a place of its own.
pub data SameSeen : Seen → Seen → Type 0 where
  numeral : (n : ℤ) (i j : ℕ) → SameSeen (Numeral n i) (Numeral n j)
  seen_same : (t : Seen) → SameSeen t t

pub data SameAll : List Seen → List Seen → Type 0 where
  none_seen : SameAll [] []
  more_seen : (t u : Seen) (ts us : List Seen) → SameSeen t u → SameAll ts us → SameAll (t ∷ ts) (u ∷ us)

alike_seen : {t : Seen} → Alike SameSeen (Ok t) (Ok t)
alike_seen {t} = fine t t (seen_same t)

seen-alike : (a b : ℕ) (m : Option Meaning) → Alike SameSeen (seen a m) (seen b m)
seen-alike a b None = name_alike
seen-alike a b (Some meaning.Unfinished) = kind_alike
seen-alike a b (Some (meaning.Enum enum)) = kind_alike
seen-alike a b (Some (meaning.Label enum l)) = kind_alike
seen-alike a b (Some (meaning.Value k v)) = kind_alike
seen-alike a b (Some (meaning.IntCell c)) = alike_seen
seen-alike a b (Some (meaning.EnumCell c enum)) = alike_seen
seen-alike a b (Some (meaning.HoldCell c ks)) = alike_seen
seen-alike a b (Some (meaning.NumsCell c)) = alike_seen
seen-alike a b (Some (meaning.WordsCell c)) = alike_seen
seen-alike a b (Some (meaning.Test t ks)) = kind_alike

shown_number-alike : (a b : ℕ) (t u : Seen) → SameSeen t u → Alike Same (shown_number a t) (shown_number b u)
shown_number-alike a b _ _ (numeral n i j) = alike
shown_number-alike a b _ _ (seen_same (Numeral n i)) = alike
shown_number-alike a b _ _ (seen_same (Number p)) = alike
shown_number-alike a b _ _ (seen_same (Word p)) = kind_alike
shown_number-alike a b _ _ (seen_same (NumList c)) = kind_alike
shown_number-alike a b _ _ (seen_same (WordList c)) = kind_alike
shown_number-alike a b _ _ (seen_same (Parts c ks)) = kind_alike

shown-alike : (a b : ℕ) (t u : Seen) → SameSeen t u → Alike Same (shown a t) (shown b u)
shown-alike a b _ _ (numeral n i j) = alike
shown-alike a b _ _ (seen_same (Numeral n i)) = alike
shown-alike a b _ _ (seen_same (Number p)) = alike
shown-alike a b _ _ (seen_same (Word p)) = alike
shown-alike a b _ _ (seen_same (NumList c)) = alike
shown-alike a b _ _ (seen_same (WordList c)) = alike
shown-alike a b _ _ (seen_same (Parts c ks)) = kind_alike

calculated_by-alike : (a b : ℕ) (o : Option ArithOp) (l m r q : Seen) → SameSeen l m → SameSeen r q → Alike SameSeen (calculated_by a o l r) (calculated_by b o m q)
calculated_by-alike a b None l m r q h k = kind_alike
calculated_by-alike a b (Some o) l m r q h k = then_alike (shown_number-alike a b l m h) (λ x. then_alike (shown_number-alike a b r q k) (λ y. alike_seen))

part_at-alike : (a b c : ℕ) (ks : List KindPlan) (k : ℕ) → Alike SameSeen (part_at a c ks k) (part_at b c ks k)
part_at-alike a b c ks k = go (slice_get ks (k - 1)) refl
  where
    go : (o : Option KindPlan) → slice_get ks (k - 1) ≡ o → Alike SameSeen (part_at a c ks k) (part_at b c ks k)
    go None e = rw (e, part_at) range_alike
    go (Some of) e = rw (e, part_at) (if_alike (k == 0) range_alike alike_seen)

part_by-alike : (a b i j c : ℕ) (ks : List KindPlan) (n : ℤ) → Alike SameSeen (part_by a i c ks n) (part_by b j c ks n)
part_by-alike a b i j c ks (pos k) = part_at-alike i j c ks k
part_by-alike a b i j c ks (negsuc k) = kind_alike

of_word_list-alike : (a b : ℕ) (f : ShowFn) (c : ℕ) → Alike SameSeen (of_word_list a f c) (of_word_list b f c)
of_word_list-alike a b show_fn.Count c = alike_seen
of_word_list-alike a b show_fn.First c = alike_seen
of_word_list-alike a b show_fn.Last c = alike_seen
of_word_list-alike a b show_fn.Sum c = kind_alike
of_word_list-alike a b show_fn.Min c = kind_alike
of_word_list-alike a b show_fn.Max c = kind_alike

of_list-alike : (a b : ℕ) (f : ShowFn) (ts us : List Seen) → SameAll ts us → Alike SameSeen (of_list a f ts) (of_list b f us)
of_list-alike a b f _ _ none_seen = kind_alike
of_list-alike a b f _ _ (more_seen _ _ ts us (numeral n i j) h) = kind_alike
of_list-alike a b f _ _ (more_seen _ _ ts us (seen_same (Numeral n i)) h) = kind_alike
of_list-alike a b f _ _ (more_seen _ _ ts us (seen_same (Number p)) h) = kind_alike
of_list-alike a b f _ _ (more_seen _ _ ts us (seen_same (Word p)) h) = kind_alike
of_list-alike a b f _ _ (more_seen _ _ _ _ (seen_same (NumList c)) none_seen) = alike_seen
of_list-alike a b f _ _ (more_seen _ _ _ _ (seen_same (NumList c)) (more_seen t u ts us k h)) = kind_alike
of_list-alike a b f _ _ (more_seen _ _ _ _ (seen_same (WordList c)) none_seen) = of_word_list-alike a b f c
of_list-alike a b f _ _ (more_seen _ _ _ _ (seen_same (WordList c)) (more_seen t u ts us k h)) = kind_alike
of_list-alike a b f _ _ (more_seen _ _ ts us (seen_same (Parts c ks)) h) = kind_alike

of_parts-alike : (a b : ℕ) (ts us : List Seen) → SameAll ts us → Alike SameSeen (of_parts a ts) (of_parts b us)
of_parts-alike a b _ _ none_seen = kind_alike
of_parts-alike a b _ _ (more_seen _ _ ts us (numeral m x y) h) = kind_alike
of_parts-alike a b _ _ (more_seen _ _ ts us (seen_same (Numeral m x)) h) = kind_alike
of_parts-alike a b _ _ (more_seen _ _ ts us (seen_same (Number q)) h) = kind_alike
of_parts-alike a b _ _ (more_seen _ _ ts us (seen_same (Word q)) h) = kind_alike
of_parts-alike a b _ _ (more_seen _ _ ts us (seen_same (NumList d)) h) = kind_alike
of_parts-alike a b _ _ (more_seen _ _ ts us (seen_same (WordList d)) h) = kind_alike
of_parts-alike a b _ _ (more_seen _ _ _ _ (seen_same (Parts c ks)) none_seen) = kind_alike
of_parts-alike a b _ _ (more_seen _ _ _ _ (seen_same (Parts c ks)) (more_seen _ _ _ _ (numeral n i j) none_seen)) = part_by-alike a b i j c ks n
of_parts-alike a b _ _ (more_seen _ _ _ _ (seen_same (Parts c ks)) (more_seen _ _ _ _ (numeral n i j) (more_seen v w vs ws k h))) = kind_alike
of_parts-alike a b _ _ (more_seen _ _ _ _ (seen_same (Parts c ks)) (more_seen _ _ _ _ (seen_same (Numeral n i)) none_seen)) = part_by-alike a b i i c ks n
of_parts-alike a b _ _ (more_seen _ _ _ _ (seen_same (Parts c ks)) (more_seen _ _ _ _ (seen_same (Numeral n i)) (more_seen v w vs ws k h))) = kind_alike
of_parts-alike a b _ _ (more_seen _ _ _ _ (seen_same (Parts c ks)) (more_seen _ _ _ _ (seen_same (Number p)) none_seen)) = kind_alike
of_parts-alike a b _ _ (more_seen _ _ _ _ (seen_same (Parts c ks)) (more_seen _ _ _ _ (seen_same (Number p)) (more_seen v w vs ws k h))) = kind_alike
of_parts-alike a b _ _ (more_seen _ _ _ _ (seen_same (Parts c ks)) (more_seen _ _ _ _ (seen_same (Word p)) none_seen)) = kind_alike
of_parts-alike a b _ _ (more_seen _ _ _ _ (seen_same (Parts c ks)) (more_seen _ _ _ _ (seen_same (Word p)) (more_seen v w vs ws k h))) = kind_alike
of_parts-alike a b _ _ (more_seen _ _ _ _ (seen_same (Parts c ks)) (more_seen _ _ _ _ (seen_same (NumList d)) none_seen)) = kind_alike
of_parts-alike a b _ _ (more_seen _ _ _ _ (seen_same (Parts c ks)) (more_seen _ _ _ _ (seen_same (NumList d)) (more_seen v w vs ws k h))) = kind_alike
of_parts-alike a b _ _ (more_seen _ _ _ _ (seen_same (Parts c ks)) (more_seen _ _ _ _ (seen_same (WordList d)) none_seen)) = kind_alike
of_parts-alike a b _ _ (more_seen _ _ _ _ (seen_same (Parts c ks)) (more_seen _ _ _ _ (seen_same (WordList d)) (more_seen v w vs ws k h))) = kind_alike
of_parts-alike a b _ _ (more_seen _ _ _ _ (seen_same (Parts c ks)) (more_seen _ _ _ _ (seen_same (Parts e ls)) none_seen)) = kind_alike
of_parts-alike a b _ _ (more_seen _ _ _ _ (seen_same (Parts c ks)) (more_seen _ _ _ _ (seen_same (Parts e ls)) (more_seen v w vs ws k h))) = kind_alike

applied-alike : (a b : ℕ) (f : Option ShowFn) (ts us : List Seen) → SameAll ts us → Alike SameSeen (applied a f ts) (applied b f us)
applied-alike a b (Some f) ts us h = of_list-alike a b f ts us h
applied-alike a b None ts us h = of_parts-alike a b ts us h

mutual
  pub see-alike : (s : Scope) (e : ExprTree) → Alike SameSeen (see s e) (see s (bare_expr e))
  see-alike s (Num n at) = fine (Numeral n at) (Numeral n 0) (numeral n at 0)
  see-alike s (Words t at) = alike_seen
  see-alike s (Named x) = seen-alike x.at 0 (find s x.text)
  see-alike s (Call x es) =
      if_alike (is_some (list_function x.text) || is_part x.text)
      (going_on (see_all-alike s es) (λ ts us h. applied-alike x.at 0 (list_function x.text) ts us h))
      name_alike
  see-alike s (Neg e at) =
      going_on (see-alike s e) (λ t u h. then_alike (shown_number-alike at 0 t u h) (λ p. alike_seen))
  see-alike s (Not e at) = going_on (see-alike s e) (λ t u h. kind_alike)
  see-alike s (Bin o l r at) =
      going_on (see-alike s l) (λ t u h. going_on (see-alike s r) (λ v w k. calculated_by-alike at 0 (arith_of o) t u v w h k))

  see_all-alike : (s : Scope) (es : ExprsTree) → Alike SameAll (see_all s es) (see_all s (bare_exprs es))
  see_all-alike s End = fine [] [] none_seen
  see_all-alike s (More e es) =
      going_on (see-alike s e) (λ t u h. going_on (see_all-alike s es) (λ ts us k. fine (t ∷ ts) (u ∷ us) (more_seen t u ts us h k)))

pub column_decl-alike : (s columns : Scope) (n : ℕ) (d : ColumnTree) → Alike Same (column_decl s columns n d) (column_decl s columns n (bare_column d))
column_decl-alike s columns n d =
    unless_taken-alike d.name.at 0 (find columns d.name.text)
    (going_on (see-alike s d.value) (λ t u h. then_alike (shown-alike (place d.value) (place (bare_expr d.value)) t u h) (λ p. alike)))
