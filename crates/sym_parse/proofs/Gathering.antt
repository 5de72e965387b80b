-- Values that are gathered one by one are those that are read.
use Rattle.std.proofs.Common.{◌≡◌, ℕ, zero, suc, ◌-◌, ◌<◌, true, false, List, [], ◌∷◌, ◌++◌, length, Ok, Err, refl, ap, sym, ◌∙◌, arith}
use Rattle.sym_base.specs.Trees.{ExprTree, ExprsTree, End, More, exprs_before}
use Rattle.sym_base.proofs.ExprLists.{before-last}
use Rattle.sym_lex.specs.declared.symbol.Symbol.TheVariants.{Comma}
use Rattle.sym_parse.specs.declared.stop.Stop.{Stop}
use Rattle.sym_parse.specs.Parsing.Expressions.{values, values_from, further}
use Rattle.sym_parse.specs.Steps.{Input, Parsed, Parser, and_then, passed, sees_sign}
use Rattle.sym_parse.proofs.Lists.{and_then_same}

-- These expressions, before those that are read next.
abbrev pub gathered : List ExprTree → ExprsTree → Input → Parsed ExprsTree
gathered xs rest j = Ok (exprs_before xs rest, j)

then_then : {A B C : Type 0} (o : Parsed A) (f : A → Parser B) (g : B → Parser C) → and_then (and_then o f) g ≡ and_then o (λ x i. and_then (f x i) g)
then_then (Ok p) f g = refl
then_then (Err stop) f g = refl

module _ (item : Parser ExprTree) where
  pub values-begin : (i j : Input) (x : ExprTree) → item i ≡ Ok (x, j) → values item i ≡ and_then (further item (values_from item (length i.rest)) j) (gathered (x ∷ []))
  unfolding values values_from
  values-begin i j x e = rw e refl

  pub values-refused : (i : Input) (stop : Stop) → item i ≡ Err stop → values item i ≡ Err stop
  unfolding values values_from
  values-refused i stop e = rw e refl

  pub gathering-ends : (n : ℕ) (xs : List ExprTree) (j : Input) → sees_sign Comma j ≡ false → and_then (further item (values_from item n) j) (gathered xs) ≡ Ok (exprs_before xs End, j)
  gathering-ends n xs j e = rw e refl

  pub gathering-goes : (n : ℕ) (xs : List ExprTree) (y : ExprTree) (j k : Input) → 0 < n → sees_sign Comma j ≡ true → item (passed j) ≡ Ok (y, k) →
      and_then (further item (values_from item n) j) (gathered xs) ≡ and_then (further item (values_from item (n - 1)) k) (gathered (xs ++ y ∷ []))
  unfolding values_from
  gathering-goes zero xs y j k some e f = absurd (omega arith)
  gathering-goes (suc n) xs y j k some e f =
      let m : suc n - 1 ≡ n = omega arith in
      let one : and_then (further item (values_from item (suc n)) j) (gathered xs) ≡ and_then (and_then (further item (values_from item n) k) (λ rest i. Ok (More y rest, i))) (gathered xs) = rw (e, f) refl in
      let all : and_then (further item (values_from item n) k) (λ rest i. and_then (Ok (More y rest, i)) (gathered xs)) ≡ and_then (further item (values_from item n) k) (gathered (xs ++ y ∷ [])) =
      and_then_same (further item (values_from item n) k) (λ rest i. and_then (Ok (More y rest, i)) (gathered xs)) (gathered (xs ++ y ∷ [])) (λ rest i. ap (λ (t : ExprsTree). Ok (t, i)) (sym (before-last xs y rest))) in
      one ∙ then_then (further item (values_from item n) k) (λ rest i. Ok (More y rest, i)) (gathered xs) ∙ all ∙ ap (λ (t : ℕ). and_then (further item (values_from item t) k) (gathered (xs ++ y ∷ []))) (sym m)

  pub gathering-stops : (n : ℕ) (xs : List ExprTree) (stop : Stop) (j : Input) → 0 < n → sees_sign Comma j ≡ true → item (passed j) ≡ Err stop → and_then (further item (values_from item n) j) (gathered xs) ≡ Err stop
  unfolding values_from
  gathering-stops zero xs stop j some e f = absurd (omega arith)
  gathering-stops (suc n) xs stop j some e f = rw (e, f) refl
