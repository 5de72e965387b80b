-- What limits count is the same for trees that are the same, places aside.
use Rattle.std.proofs.Common.{◌≡◌, ℕ, ◌+◌, ◌≤◌, Bool, true, ◌&&◌, nat_le, List, map, length, refl, sym, ◌∙◌, ap, arith}
use Rattle.std.proofs.lemmas.List.{length-map}
use Rattle.sym_base.specs.Limits.{max_operands}
use Rattle.sym_base.specs.Sizes.{operand_count, operands_count, stmt_count, stmts_count}
use Rattle.sym_base.specs.Trees.{ExprTree, Num, Words, Named, Call, Neg, Not, Bin, ExprsTree, End, More, StmtTree, Let, Set, Push, Keep, KeepFrom, If, StmtsTree, Done, Then}
use Rattle.sym_parse.specs.Bare.{bare_expr, bare_exprs, bare_stmt, bare_stmts}

mutual
  operands : (e : ExprTree) → operand_count (bare_expr e) ≡ operand_count e
  operands (Num n at) = refl
  operands (Words bytes at) = refl
  operands (Named n) = refl
  operands (Call n es) = ap (λ k. 1 + k) (all-operands es)
  operands (Neg e at) = operands e
  operands (Not e at) = operands e
  operands (Bin b l r at) = ap (λ k. k + operand_count (bare_expr r)) (operands l) ∙ ap (λ k. operand_count l + k) (operands r)

  all-operands : (es : ExprsTree) → operands_count (bare_exprs es) ≡ operands_count es
  all-operands End = refl
  all-operands (More first rest) = ap (λ k. k + operands_count (bare_exprs rest)) (operands first) ∙ ap (λ k. operand_count first + k) (all-operands rest)

-- Whether each expression keeps the number of operands.
abbrev pub are_short : ExprsTree → Bool
are_short End = true
are_short (More first rest) = nat_le (operand_count first) max_operands && are_short rest

short : (es : ExprsTree) → are_short (bare_exprs es) ≡ are_short es
short End = refl
short (More first rest) =
    ap (λ n. nat_le n max_operands && are_short (bare_exprs rest)) (operands first)
    ∙ ap (λ t. nat_le (operand_count first) max_operands && t) (short rest)

mutual
  count : (s : StmtTree) → stmt_count (bare_stmt s) ≡ stmt_count s
  count (Let n e) = refl
  count (Set n e) = refl
  count (Push n e) = refl
  count (Keep n es) = refl
  count (KeepFrom n m) = refl
  count (If e a b) = ap (λ k. 1 + k + stmts_count (bare_stmts b)) (counts a) ∙ ap (λ k. 1 + stmts_count a + k) (counts b)

  counts : (ss : StmtsTree) → stmts_count (bare_stmts ss) ≡ stmts_count ss
  counts Done = refl
  counts (Then s rest) = ap (λ k. k + stmts_count (bare_stmts rest)) (count s) ∙ ap (λ k. stmt_count s + k) (counts rest)

-- A number that is equal is at most the same.
at_most : (m n k : ℕ) → m ≡ n → n ≤ k → m ≤ k
at_most m n k e h = omega (arith, e)

pub few-operands : (d e : ExprTree) (most : ℕ) → bare_expr d ≡ bare_expr e → operand_count e ≤ most → operand_count d ≤ most
few-operands d e most same h = at_most (operand_count d) (operand_count e) most (sym (operands d) ∙ ap operand_count same ∙ operands e) h

pub all-short : (ds es : ExprsTree) → bare_exprs ds ≡ bare_exprs es → are_short es ≡ true → are_short ds ≡ true
all-short ds es same h = sym (short ds) ∙ ap are_short same ∙ short es ∙ h

pub few-statements : (ds ss : StmtsTree) (most : ℕ) → bare_stmts ds ≡ bare_stmts ss → stmts_count ss ≤ most → stmts_count ds ≤ most
few-statements ds ss most same h = at_most (stmts_count ds) (stmts_count ss) most (sym (counts ds) ∙ ap stmts_count same ∙ counts ss) h

pub few-items : {A B : Type 0} (bare : A → B) (ds xs : List A) (most : ℕ) → map bare ds ≡ map bare xs → length xs ≤ most → length ds ≤ most
few-items bare ds xs most same h = at_most (length ds) (length xs) most (sym (length-map ds bare) ∙ ap length same ∙ length-map xs bare) h
