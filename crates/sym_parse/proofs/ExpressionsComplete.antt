-- An expression is read where it stands, if the token after it binds no tighter.
use Rattle.std.proofs.Common.{◌≡◌, ℕ, zero, suc, ◌+◌, ◌<◌, ◌≤◌, Bool, true, false, if◌then◌else◌, ◌==◌, ℤ, List, [], ◌∷◌, ◌++◌, length, Option, Some, None, refl, ap, sym, ◌∙◌, arith, append_assoc, length-append}
use Rattle.std.proofs.lemmas.Bool.{eqb-true}
use Rattle.std.proofs.lemmas.List.{append-nil}
use Rattle.sym_base.specs.declared.tree.expression.BinOp.{BinOp}
use Rattle.sym_base.specs.Precedence.{op_level, or_level, and_level, relation_level, sum_level, product_level}
use Rattle.sym_base.specs.Sizes.{operand_count}
use Rattle.sym_base.specs.Trees.{ExprTree, ExprsTree, Num, Words, Neg, Not, Bin}
use Rattle.sym_lex.specs.declared.keyword.Keyword.TheVariants as keyword
use Rattle.sym_lex.specs.declared.symbol.Symbol.TheVariants as symbol
use Rattle.sym_parse.specs.declared.error.LimitKind.{LimitKind}
use Rattle.sym_parse.specs.declared.error.LimitKind.TheVariants as limit
use Rattle.sym_parse.specs.Lexemes.{Terminal, Name, Number, Str, Sign, Lexeme}
use Rattle.sym_parse.specs.Steps.{Parser, ◌>>=◌, ◌>>◌, pure, number, text, opening, bump, next, next_of, sign_of, word_of, is_this_sign, is_this_word, sees_sign}
use Rattle.sym_parse.specs.Syntax.Expressions as syntax
use Rattle.sym_parse.specs.Syntax.Expressions.{Line, Whole, Negation, Signed, IsGrouped, IsValues, IsPrimary, IsUnary, IsProduct, IsSum, IsRelation, IsNegation, IsConjunction, IsExpression, IsLine, Within, IsExprWithin, op_of, of_level, product_op, compare_op}
use Rattle.sym_parse.specs.Parsing.Expressions.{op_in, chain, chain_from, chain_turn, values, values_from, call, call_or_name, number_leaf, text_leaf, named, parens, primary, minus, unary, product, sum, relation, relation_turn, not_line, negation, conjunction, expr, line, lines, expression}
use Rattle.sym_parse.proofs.Taking.{is-sign}
use Rattle.sym_parse.proofs.Recognizing.{Counting, Operands, Statements, counted}
use Rattle.sym_parse.proofs.RecognizingExpressions.{weight, weights, weights-one, weights-more}
use Rattle.sym_parse.proofs.Reading.{Reads, Finds, word-found, sign-found, word-is, sign-is, name-is, number-is, text-is, pure-reads, then-reads, last-reads, yes-reads, no-reads, view-reads, turns-reads, of-lexemes, from-count, to-count, sign-then, name-then, number-then, text-then, bump-then, opening-then, here-then, operand-then}

-- ---- how tightly a token binds after an expression

abbrev binding : Option BinOp → ℕ
binding None = 0
binding (Some b) = suc (op_level b)

-- An operator binds as its line, and the parenthesis of a call tightest.
abbrev pub tight : Option Terminal → ℕ
tight None = 0
tight (Some t) = if is_this_sign symbol.OpenParen (sign_of (Some t)) then 9 else binding (op_of t)

pub loose : (l : Lexeme) {t : Terminal} → l.terminal ≡ t → tight (Some t) ≡ 0 → tight (Some l.terminal) < 1
loose l {t} e f = let g : tight (Some l.terminal) ≡ 0 = ap (λ (m : Terminal). tight (Some m)) e ∙ f in omega (arith, g)

no-paren : (o : Option Terminal) → tight o < 9 → is_this_sign symbol.OpenParen (sign_of o) ≡ false
no-paren None h = refl
no-paren (Some t) h = by-test (is_this_sign symbol.OpenParen (sign_of (Some t))) h
  where
    by-test : (p : Bool) → (if p then 9 else binding (op_of t)) < 9 → p ≡ false
    by-test true h = absurd (omega (arith, h))
    by-test false h = refl

-- The operators of a line.
abbrev pub operators : ℕ → Terminal → Option BinOp
operators level t = of_level level (op_of t)

pub of-level : (level : ℕ) (o : Option BinOp) (b : BinOp) → of_level level o ≡ Some b → (o ≡ Some b) × (op_level b ≡ level)
of-level level None b e = cc
of-level level (Some c) b e = by-test (op_level c == level) refl e
  where
    by-test : (t : Bool) → (op_level c == level) ≡ t → (if t then Some c else None) ≡ Some b → (Some c ≡ Some b) × (op_level b ≡ level)
    by-test true f g = let same : c ≡ b = cc in (g, ap op_level (sym same) ∙ eqb-true (op_level c) level f)
    by-test false f g = cc

operator-tight : (level : ℕ) (t : Terminal) (b : BinOp) → operators level t ≡ Some b → tight (Some t) ≡ suc level
operator-tight level t b e = by-test (is_this_sign symbol.OpenParen (sign_of (Some t))) refl
  where
    by-test : (p : Bool) → is_this_sign symbol.OpenParen (sign_of (Some t)) ≡ p → (if p then 9 else binding (op_of t)) ≡ suc level
    by-test true f = let both : None ≡ Some b = sym (ap op_of (is-sign symbol.OpenParen t f)) ∙ (of-level level (op_of t) b e).0 in cc
    by-test false f = let o = of-level level (op_of t) b e in ap binding o.0 ∙ ap suc o.1

-- A token that binds less than a line is none of its operators.
loose-none : (level : ℕ) (o : Option Terminal) → tight o < suc level → op_in (operators level) o ≡ None
loose-none level None h = refl
loose-none level (Some t) h = by-answer (operators level t) refl
  where
    by-answer : (r : Option BinOp) → operators level t ≡ r → r ≡ None
    by-answer None e = refl
    by-answer (Some b) e = absurd (omega (arith, h, operator-tight level t b e))

-- What such lexemes are is read, if the token after them binds less than this.
abbrev pub Complete : ℕ → Parser ExprTree → (List Lexeme → ExprTree → Type 0) → ℕ → Type 0
Complete most p P level =
    (ls rest : List Lexeme) (k : ℕ) (e : ExprTree) → P ls e → tight (next_of rest) < level → k + operand_count e ≤ most → Reads Operands p ls rest k (k + operand_count e) e

-- ---- chains and values

module _ (most level inner : ℕ) (tighter : suc level < inner) (P : List Lexeme → ExprTree → Type 0) (item : Parser ExprTree) (reads : Complete most item P inner) where
  turn-reads : (turns : ℕ) (b : BinOp) (l : Lexeme) (xs ys rest : List Lexeme) (k n : ℕ) (left right x : ExprTree) → operators level l.terminal ≡ Some b → P xs right → tight (next_of (ys ++ rest)) < inner →
      k + operand_count right ≤ most → length (l ∷ ((xs ++ ys) ++ rest)) < turns →
      ((more : ℕ) → length (ys ++ rest) < more → Reads Operands (chain_from (operators level) item more (Bin b left right l.at)) ys rest (k + operand_count right) n x) →
      Reads Operands (chain_from (operators level) item turns left) (l ∷ (xs ++ ys)) rest k n x
  unfolding chain_from next
  turn-reads zero b l xs ys rest k n left right x o p t few enough goes = absurd (omega (arith, enough))
  turn-reads (suc turns) b l xs ys rest k n left right x o p t few enough goes =
      view-reads (λ i. op_in (operators level) (next i)) (chain_turn (operators level) item (chain_from (operators level) item turns) left) {b = Some b} (record { finds = λ st op. o })
      (here-then (λ at. bump >> (item >>= (λ e. chain_from (operators level) item turns (Bin b left e at)))) (bump-then (then-reads (λ e. chain_from (operators level) item turns (Bin b left e l.at)) (reads xs (ys ++ rest) k right p t few) (goes turns (omega (arith, enough, length-append (xs ++ ys) rest, length-append xs ys, length-append ys rest))))))

  turn-ends : (turns : ℕ) (rest : List Lexeme) (k : ℕ) (e : ExprTree) → tight (next_of rest) < suc level → Reads Operands (chain_from (operators level) item turns e) [] rest k k e
  unfolding chain_from next
  turn-ends zero rest k e t = pure-reads
  turn-ends (suc turns) rest k e t = view-reads (λ i. op_in (operators level) (next i)) (chain_turn (operators level) item (chain_from (operators level) item turns) e) {b = None} (record { finds = λ st op. loose-none level (next_of rest) t }) pure-reads

  -- After a group the chain goes on, with turns to spare.
  group-reads : (xs ys rest : List Lexeme) (k n : ℕ) (e x : ExprTree) → IsGrouped (operators level) P xs e → tight (next_of (ys ++ rest)) < inner → k + operand_count e ≤ most →
      ((turns : ℕ) → length (ys ++ rest) < turns → Reads Operands (chain_from (operators level) item turns e) ys rest (k + operand_count e) n x) → Reads Operands (chain (operators level) item) (xs ++ ys) rest k n x
  unfolding chain
  group-reads xs ys rest k n e x (syntax.one p) t few goes =
      then-reads _ (reads xs (ys ++ rest) k e p t few) (turns-reads (λ turns. chain_from (operators level) item turns e) (goes (suc (length (ys ++ rest))) (omega arith)))
  group-reads _ ys rest k n _ x (syntax.more {xs} {ys = zs} {left} {right} b l g o p) t few goes =
      of-lexemes (append_assoc xs (l ∷ zs) ys) (group-reads xs (l ∷ (zs ++ ys)) rest k n left x g (omega (arith, operator-tight level l.terminal b o, tighter)) (omega (arith, few)) (λ turns enough.
      turn-reads turns b l zs ys rest (k + operand_count left) n left right x o p t (omega (arith, few)) enough (λ more m. from-count (goes more m) (omega arith))))

  pub chain-reads : Complete most (chain (operators level) item) (IsGrouped (operators level) P) (suc level)
  chain-reads ls rest k e g t few =
      of-lexemes (sym (append-nil ls)) (group-reads ls [] rest k (k + operand_count e) e e g (omega (arith, t, tighter)) few (λ turns enough. turn-ends turns rest (k + operand_count e) e t))

module _ (w : Counting) (most : LimitKind → ℕ) (P : List Lexeme → ExprTree → Type 0) (item : Parser ExprTree)
    (reads : (ls rest : List Lexeme) (k : ℕ) (e : ExprTree) → P ls e → tight (next_of rest) < 1 → k + weight w e ≤ most (counted w) → Reads w item ls rest k (k + weight w e) e) where
  values-from-read : (turns : ℕ) (ls rest : List Lexeme) (k : ℕ) (es : ExprsTree) → IsValues P ls es → tight (next_of rest) < 1 → Finds (sees_sign symbol.Comma) rest false → k + weights w es ≤ most (counted w) → length (ls ++ rest) < turns →
      Reads w (values_from item turns) ls rest k (k + weights w es) es
  unfolding values_from
  values-from-read zero ls rest k es v t no-comma few enough = absurd (omega (arith, enough))
  values-from-read (suc turns) ls rest k _ (syntax.one {e = x} p) t no-comma few enough =
      let same = weights-one w x (weight w x) refl in
      to-count (last-reads _ (reads ls rest k x p t (omega (arith, few, same))) (last-reads _ (no-reads _ no-comma pure-reads) pure-reads)) (omega (arith, same))
  values-from-read (suc turns) _ rest k _ (syntax.more {xs} {ys} {e = x} {rest = es} comma p is v) t no-comma few enough =
      let same = weights-more w x es (weight w x) (weights w es) refl refl in
      let shorter : length (ys ++ rest) < turns = omega (arith, enough, length-append (xs ++ comma ∷ ys) rest, length-append xs (comma ∷ ys), length-append ys rest) in
      to-count (then-reads _ (reads xs (comma ∷ (ys ++ rest)) k x p (loose comma is refl) (omega (arith, few, same)))
      (last-reads _ (yes-reads _ (sign-is is symbol.Comma refl) (bump-then (values-from-read turns ys rest (k + weight w x) es v t no-comma (omega (arith, few, same)) shorter))) pure-reads)) (omega (arith, same))

  pub values-read : (ls rest : List Lexeme) (k : ℕ) (es : ExprsTree) → IsValues P ls es → tight (next_of rest) < 1 → Finds (sees_sign symbol.Comma) rest false → k + weights w es ≤ most (counted w) →
      Reads w (values item) ls rest k (k + weights w es) es
  unfolding values
  values-read ls rest k es v t no-comma few = turns-reads (values_from item) (values-from-read (suc (length (ls ++ rest))) ls rest k es v t no-comma few (omega arith))

-- ---- the lines

abbrev level_of : Line → ℕ
level_of Whole = 1
level_of Negation = 4
level_of Signed = 9

module _ (most : LimitKind → ℕ) (room : ℕ) (deeper : Line → Parser ExprTree) (D : Line → List Lexeme → ExprTree → Type 0) (below : (x : Line) → Complete (most limit.Operands) (deeper x) (D x) (level_of x))
    (some : (x : Line) (ls : List Lexeme) (e : ExprTree) → D x ls e → 0 < room) where
  abbrev CompleteHere : Parser ExprTree → (List Lexeme → ExprTree → Type 0) → ℕ → Type 0
  CompleteHere = Complete (most limit.Operands)

  some-values : (ls : List Lexeme) (es : ExprsTree) → IsValues (D Whole) ls es → 0 < room
  some-values ls _ (syntax.one {e} p) = some Whole ls e p
  some-values _ _ (syntax.more {xs} {e} comma p is v) = some Whole xs e p

  primary-reads : CompleteHere (primary most room deeper) (IsPrimary D) 9
  unfolding primary number_leaf text_leaf named call_or_name call parens
  primary-reads _ rest k _ (syntax.number l is) t few = yes-reads _ (number-is is refl) (operand-then (omega (arith, few)) (here-then (λ at. number >>= (λ n. pure (Num n at))) (number-then _ is pure-reads)))
  primary-reads _ rest k _ (syntax.text l is) t few = no-reads _ (number-is is refl) (yes-reads _ (text-is is refl) (operand-then (omega (arith, few)) (here-then (λ at. text >>= (λ t. pure (Words t at))) (text-then _ is pure-reads))))
  primary-reads _ rest k _ (syntax.name l is) t few =
      no-reads _ (number-is is.text refl) (no-reads _ (text-is is.text refl) (yes-reads _ (name-is is.text refl) (operand-then (omega (arith, few)) (name-then _ is (no-reads _ (sign-found symbol.OpenParen rest (no-paren (next_of rest) t)) pure-reads)))))
  primary-reads _ rest k _ (syntax.call {n} {xs} {es} l begin end is b v z) t few =
      no-reads _ (number-is is.text refl) (no-reads _ (text-is is.text refl) (yes-reads _ (name-is is.text refl) (operand-then (omega (arith, few)) (name-then _ is (yes-reads _ (sign-is b symbol.OpenParen refl) (opening-then (some-values xs es v)
      (to-count (then-reads _ (values-read Operands most (D Whole) (deeper Whole) (below Whole) xs (end ∷ rest) (k + 1) es v (loose end z refl) (sign-is z symbol.Comma refl) (omega (arith, few))) (sign-then z pure-reads)) (omega arith))))))))
  primary-reads _ rest k _ (syntax.parens {xs} {e} begin end b d z) t few =
      no-reads _ (number-is b refl) (no-reads _ (text-is b refl) (no-reads _ (name-is b refl) (yes-reads _ (sign-is b symbol.OpenParen refl) (opening-then (some Whole xs e d) (then-reads _ (below Whole xs (end ∷ rest) k e d (loose end z refl) few) (sign-then z pure-reads))))))

  -- A question about the next token finds before a primary what it finds before each token that begins
  -- one.
  primary-finds : {B : Type 0} (view : Option Terminal → B) (b : B) → ((n : ℤ) → view (Some (Number n)) ≡ b) → ((s : List ℕ) → view (Some (Str s)) ≡ b) → ((s : List ℕ) → view (Some (Name s)) ≡ b) → view (Some (Sign symbol.OpenParen)) ≡ b →
      (ls rest : List Lexeme) (e : ExprTree) → IsPrimary D ls e → view (next_of (ls ++ rest)) ≡ b
  primary-finds view b on-number on-text on-name on-paren _ rest _ (syntax.number {n} l is) = ap (λ (t : Terminal). view (Some t)) is ∙ on-number n
  primary-finds view b on-number on-text on-name on-paren _ rest _ (syntax.text {t = s} l is) = ap (λ (t : Terminal). view (Some t)) is ∙ on-text s
  primary-finds view b on-number on-text on-name on-paren _ rest _ (syntax.name {n} l is) = ap (λ (t : Terminal). view (Some t)) is.text ∙ on-name n.text
  primary-finds view b on-number on-text on-name on-paren _ rest _ (syntax.call {n} l begin end is o v z) = ap (λ (t : Terminal). view (Some t)) is.text ∙ on-name n.text
  primary-finds view b on-number on-text on-name on-paren _ rest _ (syntax.parens begin end o d z) = ap (λ (t : Terminal). view (Some t)) o ∙ on-paren

  unary-reads : CompleteHere (unary most room deeper) (IsUnary D) 9
  unfolding unary minus
  unary-reads _ rest k _ (syntax.minus {xs} {e} l is d) t few = yes-reads _ (sign-is is symbol.Minus refl) (here-then (λ at. opening room >> (deeper Signed >>= (λ x. pure (Neg x at)))) (opening-then (some Signed xs e d) (last-reads _ (below Signed xs rest k e d t few) pure-reads)))
  unary-reads ls rest k e (syntax.plain p) t few =
      no-reads _ (sign-found symbol.Minus (ls ++ rest) (primary-finds (λ o. is_this_sign symbol.Minus (sign_of o)) false (λ n. refl) (λ s. refl) (λ s. refl) refl ls rest e p)) (primary-reads ls rest k e p t few)

  product-reads : CompleteHere (product most room deeper) (IsProduct D) 6
  unfolding product
  product-reads = chain-reads (most limit.Operands) product_level 9 (omega arith) (IsUnary D) (unary most room deeper) unary-reads

  sum-reads : CompleteHere (sum most room deeper) (IsSum D) 5
  unfolding sum
  sum-reads = chain-reads (most limit.Operands) sum_level 6 (omega arith) (IsProduct D) (product most room deeper) product-reads

  relation-reads : CompleteHere (relation most room deeper) (IsRelation D) 4
  unfolding relation next
  relation-reads ls rest k e (syntax.alone p) t few =
      last-reads _ (sum-reads ls rest k e p (omega (arith, t)) few) (view-reads (λ i. op_in compare_op (next i)) (relation_turn most room deeper e) {b = None} (record { finds = λ st op. loose-none relation_level (next_of rest) t }) pure-reads)
  relation-reads _ rest k _ (syntax.compared {xs} {ys} {left} {right} b l p o q) t few =
      to-count (then-reads _ (sum-reads xs (l ∷ (ys ++ rest)) k left p (omega (arith, operator-tight relation_level l.terminal b o)) (omega (arith, few)))
      (view-reads (λ i. op_in compare_op (next i)) (relation_turn most room deeper left) {b = Some b} (record { finds = λ st op. o })
      (here-then (λ at. bump >> (sum most room deeper >>= (λ e. pure (Bin b left e at)))) (bump-then (last-reads _ (sum-reads ys rest (k + operand_count left) right q (omega (arith, t)) (omega (arith, few))) pure-reads))))) (omega arith)

  -- No relation begins with `not`.
  abbrev no-not : (ls rest : List Lexeme) → Type 0
  no-not ls rest = is_this_word keyword.Not (word_of (next_of (ls ++ rest))) ≡ false

  unary-no-not : (ls rest : List Lexeme) (e : ExprTree) → IsUnary D ls e → no-not ls rest
  unary-no-not _ rest _ (syntax.minus l is d) = ap (λ (t : Terminal). is_this_word keyword.Not (word_of (Some t))) is
  unary-no-not ls rest e (syntax.plain p) = primary-finds (λ o. is_this_word keyword.Not (word_of o)) false (λ n. refl) (λ s. refl) (λ s. refl) refl ls rest e p

  grouped-no-not : (ops : Terminal → Option BinOp) (P : List Lexeme → ExprTree → Type 0) → ((ls rest : List Lexeme) (e : ExprTree) → P ls e → no-not ls rest) → (ls rest : List Lexeme) (e : ExprTree) → IsGrouped ops P ls e → no-not ls rest
  grouped-no-not ops P none ls rest e (syntax.one p) = none ls rest e p
  grouped-no-not ops P none _ rest _ (syntax.more {xs} {ys} {left} b l g o p) =
      ap (λ (m : List Lexeme). is_this_word keyword.Not (word_of (next_of m))) (append_assoc xs (l ∷ ys) rest) ∙ grouped-no-not ops P none xs (l ∷ (ys ++ rest)) left g

  sum-no-not : (ls rest : List Lexeme) (e : ExprTree) → IsSum D ls e → no-not ls rest
  sum-no-not = grouped-no-not (operators sum_level) (IsProduct D) (grouped-no-not product_op (IsUnary D) unary-no-not)

  relation-no-not : (ls rest : List Lexeme) (e : ExprTree) → IsRelation D ls e → no-not ls rest
  relation-no-not ls rest e (syntax.alone p) = sum-no-not ls rest e p
  relation-no-not _ rest _ (syntax.compared {xs} {ys} {left} b l p o q) =
      ap (λ (m : List Lexeme). is_this_word keyword.Not (word_of (next_of m))) (append_assoc xs (l ∷ ys) rest) ∙ sum-no-not xs (l ∷ (ys ++ rest)) left p

  negation-reads : CompleteHere (negation most room deeper) (IsNegation D) 4
  unfolding negation not_line
  negation-reads _ rest k _ (syntax.not {xs} {e} l is d) t few = yes-reads _ (word-is is keyword.Not refl) (here-then (λ at. opening room >> (deeper Negation >>= (λ x. pure (Not x at)))) (opening-then (some Negation xs e d) (last-reads _ (below Negation xs rest k e d t few) pure-reads)))
  negation-reads ls rest k e (syntax.plain p) t few = no-reads _ (word-found keyword.Not (ls ++ rest) (relation-no-not ls rest e p)) (relation-reads ls rest k e p t few)

  conjunction-reads : CompleteHere (conjunction most room deeper) (IsConjunction D) 2
  unfolding conjunction
  conjunction-reads = chain-reads (most limit.Operands) and_level 4 (omega arith) (IsNegation D) (negation most room deeper) negation-reads

  expr-reads : CompleteHere (expr most room deeper) (IsExpression D) 1
  unfolding expr
  expr-reads = chain-reads (most limit.Operands) or_level 2 (omega arith) (IsConjunction D) (conjunction most room deeper) conjunction-reads

  line-reads : (x : Line) → CompleteHere (line most room deeper x) (IsLine D x) (level_of x)
  line-reads Whole = expr-reads
  line-reads Negation = negation-reads
  line-reads Signed = unary-reads

module _ (most : LimitKind → ℕ) where
  some-within : (room : ℕ) (x : Line) (ls : List Lexeme) (e : ExprTree) → Within room x ls e → 0 < room
  unfolding Within
  some-within zero x ls e d = absurd d
  some-within (suc room) x ls e d = omega arith

  lines-read : (room : ℕ) (x : Line) → Complete (most limit.Operands) (lines most room x) (Within room x) (level_of x)
  unfolding lines Within
  lines-read zero x ls rest k e d t few = absurd d
  lines-read (suc room) x ls rest k e d t few = line-reads most room (lines most room) (Within room) (lines-read room) (some-within room) x ls rest k e d t few

  -- A whole expression is read, if the token after it binds nothing.
  pub expression-reads : (room : ℕ) (ls rest : List Lexeme) (k : ℕ) (e : ExprTree) → IsExprWithin most room ls e → tight (next_of rest) < 1 → Reads Statements (expression most room) ls rest k k e
  unfolding expression Within
  expression-reads room ls rest k e is t =
      let r = expr-reads most room (lines most room) (Within room) (lines-read room) (some-within room) ls rest 0 e is.whole t (omega (arith, is.few)) in
      record { reads = λ other. rw (r.reads k) refl }
