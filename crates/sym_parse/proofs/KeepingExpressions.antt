-- Expressions are read the same up to a token, whatever follows it, and up to where a limit is passed.
use Rattle.std.proofs.Common.{◌≡◌, ℕ, zero, suc, ◌<◌, ◌≤◌, Bool, true, false, if◌then◌else◌, List, [], ◌∷◌, length, Option, Some, None, Ok, refl, subst, arith}
use Rattle.sym_base.specs.declared.tree.name.Name.{Name}
use Rattle.sym_base.specs.declared.tree.expression.BinOp.{BinOp}
use Rattle.sym_base.specs.Trees.{ExprTree, ExprsTree, Num, Words, Named, Call, Neg, Not, Bin, End, More}
use Rattle.sym_lex.specs.declared.keyword.Keyword.TheVariants as keyword
use Rattle.sym_lex.specs.declared.symbol.Symbol.TheVariants as symbol
use Rattle.sym_parse.specs.declared.error.LimitKind.{LimitKind}
use Rattle.sym_parse.specs.declared.error.LimitKind.TheVariants as limit
use Rattle.sym_parse.specs.Lexemes.{Terminal, Lexeme}
use Rattle.sym_parse.specs.Syntax.Expressions.{Line, Whole, Negation, Signed, or_op, and_op, compare_op, sum_op, product_op}
use Rattle.sym_parse.specs.Steps.{Input, Parsed, Parser, and_then, ◌>>=◌, pure, next, place, passed, sees_sign, name}
use Rattle.sym_parse.specs.Parsing.Expressions.{op_in, chain, chain_from, chain_turn, values, values_from, further, call, call_or_name, number_leaf, text_leaf, named, parens, primary, minus, unary, product, sum, relation, relation_turn, not_line, negation, conjunction, expr, line, lines, expression}
use Rattle.sym_parse.specs.Sentences.{IsNoEarlier as Less}
use Rattle.sym_parse.proofs.Keeping.{AtMost, at-most-self, at-most-before, here-small, bump-small, Small, Along, Agrees, Keeps, then-less, level, then-agrees, then-keeps, then-small, choose-small, choose-keeps, view-keeps, pure-small, pure-keeps, refuse-small, refuse-keeps, next-even, place-even, sees-word-even, sees-sign-even, sees-name-even, sees-number-even, sees-text-even, here-keeps, bump-keeps, sign-keeps, name-keeps, number-keeps, text-keeps, opened-keeps, one-operand-keeps, from-operands-keeps, bumped, shorter, sign-left}

-- What ended Ok kept the bound.
pub ok-less : {A : Type 0} (n : ℕ) (o : Parsed A) (x : A) (i : Input) → Less n o → o ≡ Ok (x, i) → length i.rest ≤ n
ok-less n o x i l e = subst (λ (r : Parsed _). Less n r) e l

-- ---- chains

op-left-in : (ops : Terminal → Option BinOp) (ls : List Lexeme) (st op : ℕ) (b : BinOp) → op_in ops (next (record { rest = ls; statements = st; operands = op })) ≡ Some b → 0 < length ls
unfolding next
op-left-in ops [] st op b e = cc
op-left-in ops (l ∷ ls) st op b e = omega arith

op-left : (ops : Terminal → Option BinOp) (i : Input) (b : BinOp) → op_in ops (next i) ≡ Some b → 0 < length i.rest
op-left ops i b e = op-left-in ops i.rest i.statements i.operands b e

module _ (ops : Terminal → Option BinOp) (p : Parser ExprTree) (small : Small p) where
  turn-small : (more : ExprTree → Parser ExprTree) → ((left : ExprTree) → Small (more left)) → (left : ExprTree) (o : Option BinOp) → Small (chain_turn ops p more left o)
  turn-small more each left None = pure-small left
  turn-small more each left (Some b) = then-small here-small (λ at. then-small bump-small (λ u. then-small small (λ right. each (Bin b left right at))))

  chain-from-small : (n : ℕ) (left : ExprTree) → Small (chain_from ops p n left)
  unfolding chain_from
  chain-from-small zero left = pure-small left
  chain-from-small (suc n) left = record { goes = λ i. (turn-small (chain_from ops p n) (chain-from-small n) left (op_in ops (next i))).goes i }

  chain-small : Small (chain ops p)
  unfolding chain
  chain-small = then-small small (λ left. record { goes = λ i. (chain-from-small (suc (length i.rest)) left).goes i })

module _ {K : LimitKind → Type 0} (ops : Terminal → Option BinOp) (p q : Parser ExprTree) (item : Keeps K p q) where
  turn-agrees : (n m : ℕ) (left : ExprTree) (us vs : List Lexeme) (floor : ℕ) (i j : Input) →
      ((x : ExprTree) (k l : Input) → Along us vs floor k l → length k.rest < n → length l.rest < m → Agrees K us vs floor (chain_from ops p n x k) (chain_from ops q m x l)) →
      Along us vs floor i j → length i.rest < suc n → length j.rest < suc m → (o : Option BinOp) → op_in ops (next i) ≡ o →
      Agrees K us vs floor (chain_turn ops p (chain_from ops p n) left o i) (chain_turn ops q (chain_from ops q m) left o j)
  turn-agrees n m left us vs floor i j goes a h k None e = λ above. record { input = j; reads = refl; along = a }
  turn-agrees n m left us vs floor i j goes a h k (Some b) e =
      let some : 0 < length i.rest = op-left ops i b e in
      let took = shorter i some in
      let f : ExprTree → Parser ExprTree = λ right. chain_from ops p n (Bin b left right (place i)) in
      let g : ExprTree → Parser ExprTree = λ right. chain_from ops q m (Bin b left right (place i)) in
      let low : (x : ExprTree) → Small (f x) = λ right. chain-from-small ops p item.low n (Bin b left right (place i)) in
      let high : (x : ExprTree) → Small (g x) = λ right. chain-from-small ops q item.high m (Bin b left right (place i)) in
      let agree : Agrees K us vs floor (and_then (p (passed i)) f) (and_then (q (passed j)) g) =
      bumped K us vs floor i j (and_then (p (passed i)) f) (and_then (q (passed j)) g) a (then-less (length (passed i).rest) (p (passed i)) f (item.low.goes (passed i)) low)
      (λ c. then-agrees K us vs floor f g low high (p (passed i)) (q (passed j)) (item.agrees us vs floor (passed i) (passed j) c)
      (λ right k' l' t d.
      let s = ok-less (length (passed i).rest) (p (passed i)) right k' (item.low.goes (passed i)) t in
      goes (Bin b left right (place i)) k' l' d (omega (arith, s, took, h)) (omega (arith, s, took, h, k, level us vs floor i j a, level us vs floor k' l' d)))) in
      subst (λ (at : ℕ). Agrees K us vs floor (and_then (p (passed i)) f) (and_then (q (passed j)) (λ right. chain_from ops q m (Bin b left right at)))) (place-even us vs floor i j a) agree

  chain-from-agrees : (n m : ℕ) (left : ExprTree) (us vs : List Lexeme) (floor : ℕ) (i j : Input) → Along us vs floor i j → length i.rest < n → length j.rest < m →
      Agrees K us vs floor (chain_from ops p n left i) (chain_from ops q m left j)
  unfolding chain_from
  chain-from-agrees zero m left us vs floor i j a h k = absurd (omega (arith, h))
  chain-from-agrees (suc n) zero left us vs floor i j a h k = absurd (omega (arith, k))
  chain-from-agrees (suc n) (suc m) left us vs floor i j a h k =
      subst (λ (o : Option Terminal). Agrees K us vs floor (chain_turn ops p (chain_from ops p n) left (op_in ops (next i)) i) (chain_turn ops q (chain_from ops q m) left (op_in ops o) j)) (next-even us vs floor i j a)
      (turn-agrees n m left us vs floor i j (λ x k' l' b s t. chain-from-agrees n m x us vs floor k' l' b s t) a h k (op_in ops (next i)) refl)

  pub chain-keeps : Keeps K (chain ops p) (chain ops q)
  unfolding chain
  chain-keeps = then-keeps item (λ first. record {
    low = record { goes = λ i. (chain-from-small ops p item.low (suc (length i.rest)) first).goes i };
    high = record { goes = λ i. (chain-from-small ops q item.high (suc (length i.rest)) first).goes i };
    agrees = λ us vs floor i j a. chain-from-agrees (suc (length i.rest)) (suc (length j.rest)) first us vs floor i j a (omega arith) (omega arith);
  })

-- ---- values

module _ (p : Parser ExprTree) (small : Small p) where
  further-small : (more : Parser ExprsTree) → Small more → Small (further p more)
  further-small more s = choose-small (sees_sign symbol.Comma) (then-small bump-small (λ u. s)) (pure-small End)

  values-from-small : (n : ℕ) → Small (values_from p n)
  unfolding values_from
  values-from-small zero = refuse-small {A = ExprsTree}
  values-from-small (suc n) = then-small small (λ x. then-small (further-small (values_from p n) (values-from-small n)) (λ rest. pure-small (More x rest)))

  pub values-small : Small (values p)
  unfolding values
  values-small = record { goes = λ i. (values-from-small (suc (length i.rest))).goes i }

module _ (K : LimitKind → Type 0) where
  pub if-agrees-where : {A : Type 0} (us vs : List Lexeme) (floor : ℕ) (b c : Bool) (o p r s : Parsed A) → b ≡ c → (b ≡ true → Agrees K us vs floor o r) → Agrees K us vs floor p s →
      Agrees K us vs floor (if b then o else p) (if c then r else s)
  if-agrees-where us vs floor true true o p r s e f g = f refl
  if-agrees-where us vs floor true false o p r s e f g = cc
  if-agrees-where us vs floor false true o p r s e f g = cc
  if-agrees-where us vs floor false false o p r s e f g = g

module _ {K : LimitKind → Type 0} (p q : Parser ExprTree) (item : Keeps K p q) where
  further-agrees : (n m : ℕ) (us vs : List Lexeme) (floor : ℕ) (i j : Input) →
      ((k l : Input) → Along us vs floor k l → length k.rest < n → length l.rest < m → Agrees K us vs floor (values_from p n k) (values_from q m l)) →
      Along us vs floor i j → length i.rest ≤ n → length j.rest ≤ m → Agrees K us vs floor (further p (values_from p n) i) (further q (values_from q m) j)
  further-agrees n m us vs floor i j goes a h k =
      if-agrees-where K us vs floor (sees_sign symbol.Comma i) (sees_sign symbol.Comma j) (values_from p n (passed i)) (Ok (End, i)) (values_from q m (passed j)) (Ok (End, j)) (sees-sign-even symbol.Comma us vs floor i j a)
      (λ seen.
      let took = shorter i (sign-left symbol.Comma i seen) in
      bumped K us vs floor i j (values_from p n (passed i)) (values_from q m (passed j)) a ((values-from-small p item.low n).goes (passed i))
      (λ c. goes (passed i) (passed j) c (omega (arith, took, h)) (omega (arith, took, h, k, level us vs floor i j a, level us vs floor (passed i) (passed j) c))))
      (λ above. record { input = j; reads = refl; along = a })

  values-from-agrees : (n m : ℕ) (us vs : List Lexeme) (floor : ℕ) (i j : Input) → Along us vs floor i j → length i.rest < n → length j.rest < m →
      Agrees K us vs floor (values_from p n i) (values_from q m j)
  unfolding values_from
  values-from-agrees zero m us vs floor i j a h k = absurd (omega (arith, h))
  values-from-agrees (suc n) zero us vs floor i j a h k = absurd (omega (arith, k))
  values-from-agrees (suc n) (suc m) us vs floor i j a h k =
      let f : ExprTree → Parser ExprsTree = λ x. further p (values_from p n) >>= (λ rest. pure (More x rest)) in
      let g : ExprTree → Parser ExprsTree = λ x. further q (values_from q m) >>= (λ rest. pure (More x rest)) in
      let low : (x : ExprTree) → Small (f x) = λ x. then-small (further-small p item.low (values_from p n) (values-from-small p item.low n)) (λ rest. pure-small (More x rest)) in
      let high : (x : ExprTree) → Small (g x) = λ x. then-small (further-small q item.high (values_from q m) (values-from-small q item.high m)) (λ rest. pure-small (More x rest)) in
      then-agrees K us vs floor f g low high (p i) (q j) (item.agrees us vs floor i j a)
      (λ x k' l' t d.
      let s = ok-less (length i.rest) (p i) x k' (item.low.goes i) t in
      let inner = further-agrees n m us vs floor k' l' (λ y z b u v. values-from-agrees n m us vs floor y z b u v) d (omega (arith, s, h)) (omega (arith, s, h, k, level us vs floor i j a, level us vs floor k' l' d)) in
      then-agrees K us vs floor (λ rest. pure (More x rest)) (λ rest. pure (More x rest)) (λ rest. pure-small (More x rest)) (λ rest. pure-small (More x rest))
      (further p (values_from p n) k') (further q (values_from q m) l') inner
      (λ rest y z u b. (pure-keeps {K = K} (More x rest)).agrees us vs floor y z b))

  pub values-keeps : Keeps K (values p) (values q)
  unfolding values
  values-keeps = record {
    low = values-small p item.low;
    high = values-small q item.high;
    agrees = λ us vs floor i j a. values-from-agrees (suc (length i.rest)) (suc (length j.rest)) us vs floor i j a (omega arith) (omega arith);
  }

-- ---- the lines

module _ {K : LimitKind → Type 0} (m n : LimitKind → ℕ) (wider : (k : LimitKind) → AtMost (K k) (m k) (n k)) (r s : ℕ) (rooms : AtMost (K limit.Depth) r s) (deeper other : Line → Parser ExprTree)
    (deep : 0 < r → (x : Line) → Keeps K (deeper x) (other x)) (small : (x : Line) → Small (other x)) where
  call-keeps : (name : Name) → Keeps K (call m r deeper name) (call n s other name)
  unfolding call
  call-keeps name = opened-keeps r s rooms
      (λ some. then-keeps (values-keeps (deeper Whole) (other Whole) (deep some Whole)) (λ es. then-keeps (sign-keeps symbol.CloseParen) (λ u. pure-keeps (Call name es))))
      (then-small (values-small (other Whole) (small Whole)) (λ es. then-small (sign-keeps {K = K} symbol.CloseParen).high (λ u. pure-small (Call name es))))

  call-or-name-keeps : (name : Name) → Keeps K (call_or_name m r deeper name) (call_or_name n s other name)
  unfolding call_or_name
  call-or-name-keeps name = choose-keeps (sees-sign-even symbol.OpenParen) (call-keeps name) (pure-keeps (Named name))

  number-leaf-keeps : Keeps K (number_leaf m r deeper) (number_leaf n s other)
  unfolding number_leaf
  number-leaf-keeps = then-keeps (one-operand-keeps (m limit.Operands) (n limit.Operands) (wider limit.Operands)) (λ u. then-keeps here-keeps (λ at. then-keeps number-keeps (λ value. pure-keeps (Num value at))))

  text-leaf-keeps : Keeps K (text_leaf m r deeper) (text_leaf n s other)
  unfolding text_leaf
  text-leaf-keeps = then-keeps (one-operand-keeps (m limit.Operands) (n limit.Operands) (wider limit.Operands)) (λ u. then-keeps here-keeps (λ at. then-keeps text-keeps (λ value. pure-keeps (Words value at))))

  named-keeps : Keeps K (named m r deeper) (named n s other)
  unfolding named
  named-keeps = then-keeps (one-operand-keeps (m limit.Operands) (n limit.Operands) (wider limit.Operands)) (λ u. then-keeps name-keeps call-or-name-keeps)

  parens-keeps : Keeps K (parens m r deeper) (parens n s other)
  unfolding parens
  parens-keeps = opened-keeps r s rooms
      (λ some. then-keeps (deep some Whole) (λ e. then-keeps (sign-keeps symbol.CloseParen) (λ u. pure-keeps e)))
      (then-small (small Whole) (λ e. then-small (sign-keeps {K = K} symbol.CloseParen).high (λ u. pure-small e)))

  primary-keeps : Keeps K (primary m r deeper) (primary n s other)
  unfolding primary
  primary-keeps = choose-keeps sees-number-even number-leaf-keeps (choose-keeps sees-text-even text-leaf-keeps (choose-keeps sees-name-even named-keeps (choose-keeps (sees-sign-even symbol.OpenParen) parens-keeps refuse-keeps)))

  minus-keeps : Keeps K (minus m r deeper) (minus n s other)
  unfolding minus
  minus-keeps = then-keeps here-keeps (λ at. opened-keeps r s rooms
      (λ some. then-keeps (deep some Signed) (λ e. pure-keeps (Neg e at)))
      (then-small (small Signed) (λ e. pure-small (Neg e at))))

  unary-keeps : Keeps K (unary m r deeper) (unary n s other)
  unfolding unary
  unary-keeps = choose-keeps (sees-sign-even symbol.Minus) minus-keeps primary-keeps

  product-keeps : Keeps K (product m r deeper) (product n s other)
  unfolding product
  product-keeps = chain-keeps product_op (unary m r deeper) (unary n s other) unary-keeps

  sum-keeps : Keeps K (sum m r deeper) (sum n s other)
  unfolding sum
  sum-keeps = chain-keeps sum_op (product m r deeper) (product n s other) product-keeps

  relation-turn-keeps : (left : ExprTree) (o : Option BinOp) → Keeps K (relation_turn m r deeper left o) (relation_turn n s other left o)
  relation-turn-keeps left None = pure-keeps left
  relation-turn-keeps left (Some b) = then-keeps here-keeps (λ at. then-keeps bump-keeps (λ u. then-keeps sum-keeps (λ right. pure-keeps (Bin b left right at))))

  relation-keeps : Keeps K (relation m r deeper) (relation n s other)
  unfolding relation
  relation-keeps = then-keeps sum-keeps (λ left.
      view-keeps next (λ o. relation_turn m r deeper left (op_in compare_op o)) (λ o. relation_turn n s other left (op_in compare_op o)) next-even (λ o. relation-turn-keeps left (op_in compare_op o)))

  not-keeps : Keeps K (not_line m r deeper) (not_line n s other)
  unfolding not_line
  not-keeps = then-keeps here-keeps (λ at. opened-keeps r s rooms
      (λ some. then-keeps (deep some Negation) (λ e. pure-keeps (Not e at)))
      (then-small (small Negation) (λ e. pure-small (Not e at))))

  negation-keeps : Keeps K (negation m r deeper) (negation n s other)
  unfolding negation
  negation-keeps = choose-keeps (sees-word-even keyword.Not) not-keeps relation-keeps

  conjunction-keeps : Keeps K (conjunction m r deeper) (conjunction n s other)
  unfolding conjunction
  conjunction-keeps = chain-keeps and_op (negation m r deeper) (negation n s other) negation-keeps

  pub expr-keeps : Keeps K (expr m r deeper) (expr n s other)
  unfolding expr
  expr-keeps = chain-keeps or_op (conjunction m r deeper) (conjunction n s other) conjunction-keeps

  line-keeps : (x : Line) → Keeps K (line m r deeper x) (line n s other x)
  line-keeps Whole = expr-keeps
  line-keeps Negation = negation-keeps
  line-keeps Signed = unary-keeps

module _ {K : LimitKind → Type 0} where
  -- The lines with one set of numbers.
  pub lines-self : (n : LimitKind → ℕ) (s : ℕ) → ((x : Line) → Small (lines n s x)) × (0 < s → (x : Line) → Keeps K (lines n s x) (lines n s x))
  unfolding lines
  lines-self n zero = (λ x. refuse-small {A = ExprTree}, λ some. absurd (omega (arith, some)))
  lines-self n (suc s) =
      let inner = lines-self n s in
      let each : (x : Line) → Keeps K (line n s (lines n s) x) (line n s (lines n s) x) = line-keeps n n (λ k. at-most-self (n k)) s s (at-most-self s) (lines n s) (lines n s) inner.1 inner.0 in
      (λ x. (each x).high, λ some. each)

module _ {K : LimitKind → Type 0} (m n : LimitKind → ℕ) (wider : (k : LimitKind) → AtMost (K k) (m k) (n k)) where
  small-lines : (s : ℕ) (x : Line) → Small (lines n s x)
  small-lines s x = (lines-self {K = K} n s).0 x

  lines-keep : (r s : ℕ) → AtMost (K limit.Depth) r s → 0 < r → (x : Line) → Keeps K (lines m r x) (lines n s x)
  unfolding lines
  lines-keep zero s h some = absurd (omega (arith, some))
  lines-keep (suc r) zero h some = absurd (omega (arith, h.less))
  lines-keep (suc r) (suc s) h some = line-keeps m n wider r s (at-most-before r s h) (lines m r) (lines n s) (lines-keep r s (at-most-before r s h)) (small-lines s)

  pub expression-keeps : (r s : ℕ) → AtMost (K limit.Depth) r s → Keeps K (expression m r) (expression n s)
  unfolding expression
  expression-keeps r s h = then-keeps (from-operands-keeps (expr-keeps m n wider r s h (lines m r) (lines n s) (lines-keep r s h) (small-lines s))) (λ e. from-operands-keeps (pure-keeps e))
