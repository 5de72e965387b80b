-- Lists of expressions that are gathered one by one.
use Rattle.std.proofs.Common.{◌≡◌, List, [], ◌∷◌, ◌++◌, refl, ap}
use Rattle.sym_base.specs.Trees.{ExprTree, ExprsTree, More, exprs_before}

pub before-last : (xs : List ExprTree) (x : ExprTree) (rest : ExprsTree) → exprs_before (xs ++ x ∷ []) rest ≡ exprs_before xs (More x rest)
before-last [] x rest = refl
before-last (y ∷ xs) x rest = ap (More y) (before-last xs x rest)
