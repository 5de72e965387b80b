-- What arguments of the report's calls come to, one after the other.
use Rattle.std.proofs.Common.{◌≡◌, ap, sym, refl, List, [], ◌∷◌, ◌++◌, append_assoc}
use Rattle.std.specs.Prelude.{Result, Ok, Err}
use Rattle.sym_base.specs.Trees.{ExprTree, ExprsTree, More}
use Rattle.sym_check.specs.declared.elaborate.error.CheckErr.{CheckErr}
use Rattle.sym_check.specs.Meaning.Arithmetic.{and_then}
use Rattle.sym_check.specs.Elaborate.Reports.{Seen, see, see_all}
use Rattle.sym_check.specs.Rules.Scopes.{Scope}
use Rattle.sym_check.proofs.Done.{before_all}

then_all : (xs : List Seen) (t : Seen) (o : Result (List Seen) CheckErr) → before_all xs (and_then (λ rest. Ok (t ∷ rest)) o) ≡ before_all (xs ++ t ∷ []) o
then_all xs t (Ok ys) = ap (λ all. Ok all) (sym (append_assoc xs (t ∷ []) ys))
then_all xs t (Err e) = refl

pub one_more_seen : (s : Scope) (e : ExprTree) (es : ExprsTree) (t : Seen) (xs : List Seen) → see s e ≡ Ok t → before_all xs (see_all s (More e es)) ≡ before_all (xs ++ t ∷ []) (see_all s es)
one_more_seen s e es t xs h = rw h (then_all xs t (see_all s es))
