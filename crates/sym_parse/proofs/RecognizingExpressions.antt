-- What is read as an expression is one, and the tokens before the place where reading it stops begin
-- one. Its operands are counted.
use Rattle.std.proofs.Common.{◌≡◌, ℕ, zero, suc, ◌+◌, ◌-◌, ◌<◌, ◌≤◌, true, List, [], ◌∷◌, ◌++◌, Option, Some, None, Ok, Err, refl, sym, subst, arith, append_assoc}
use Rattle.std.proofs.lemmas.List.{append-nil}
use Rattle.sym_base.specs.declared.tree.name.Name.{Name as NameRecord}
use Rattle.sym_base.specs.declared.tree.expression.BinOp.{BinOp}
use Rattle.sym_base.specs.Trees.{ExprTree, ExprsTree, Num, Words, Named, Call, Neg, Not, Bin, End, More}
use Rattle.sym_base.specs.Precedence.{or_level, and_level, relation_level, sum_level, product_level}
use Rattle.sym_base.specs.Sizes.{operand_count, operands_count}
use Rattle.sym_lex.specs.declared.keyword.Keyword.TheVariants as keyword
use Rattle.sym_lex.specs.declared.symbol.Symbol.TheVariants as symbol
use Rattle.sym_parse.specs.declared.error.LimitKind.{LimitKind}
use Rattle.sym_parse.specs.declared.error.LimitKind.TheVariants as limit
use Rattle.sym_parse.specs.Beginnings as begins
use Rattle.sym_parse.specs.Beginnings.{Begins}
use Rattle.sym_parse.specs.Lexemes.{Terminal, Lexeme, Name, Number, Str, Word, Sign, IsName, IsSign, IsKeyword}
use Rattle.sym_parse.specs.Steps.{Input, Parsed, Parser, and_then, next, sees_word, sees_sign, sees_name, sees_number, sees_text}
use Rattle.sym_parse.specs.Syntax.Expressions as syntax
use Rattle.sym_parse.specs.Syntax.Expressions.{Line, Whole, Negation, Signed, IsGrouped, IsValues, IsPrimary, IsUnary, IsProduct, IsSum, IsRelation, IsNegation, IsConjunction, IsExpression, IsLine, Within, IsExprWithin, product_op, sum_op, compare_op, and_op, or_op}
use Rattle.sym_parse.specs.Parsing.Expressions.{op_in, chain, chain_from, chain_turn, values, values_from, further, call, call_or_name, number_leaf, text_leaf, named, parens, primary, minus, unary, product, sum, relation, relation_turn, not_line, negation, conjunction, expr, line, lines, expression}
use Rattle.sym_parse.proofs.Taking.{sees-a-name, sees-a-number, sees-a-text, word-seen, sign-seen, sign-token, name-token, number-token, text-token, operator-seen}
use Rattle.sym_parse.proofs.Wanting.{wanted, raised, raised-self, comma, begins-as, operand-after, sign-opens, word-opens, operator-opens}
use Rattle.sym_parse.proofs.Recognizing.{Numbers, Meaning, Counting, Operands, Statements, Nothing, none, Says, Speaks, Exists, Any, StandsAt, Recognizes, starts-one, counted, exists-as, exists-one, as-line, Shift, unchanged, by-numbers, uncounted-line, exists-sized, stops-sized, then-line, last-line, token-line, seen-says, pure-line, refuse-line, choose-says, choose-line, view-line, turns-line, here-says, here-line, opened-says, operand-line}

-- ---- values

-- What an expression counts for.
abbrev pub weight : Counting → ExprTree → ℕ
weight Operands e = operand_count e
weight Statements e = 0
weight Nothing e = 0

abbrev pub weights : Counting → ExprsTree → ℕ
weights Operands es = operands_count es
weights Statements es = 0
weights Nothing es = 0

pub weights-one : (w : Counting) (e : ExprTree) (c : ℕ) → c ≡ weight w e → c + 0 ≡ weights w (More e End)
weights-one Operands e c h = omega (arith, h)
weights-one Statements e c h = omega (arith, h)
weights-one Nothing e c h = omega (arith, h)

pub weights-more : (w : Counting) (e : ExprTree) (es : ExprsTree) (c d : ℕ) → c ≡ weight w e → d ≡ weights w es → c + d ≡ weights w (More e es)
weights-more Operands e es c d h k = omega (arith, h, k)
weights-more Statements e es c d h k = omega (arith, h, k)
weights-more Nothing e es c d h k = omega (arith, h, k)

-- Such an expression, and what it counts for.
abbrev pub Counted : Counting → (Numbers → List Lexeme → ExprTree → Type 0) → Meaning ExprTree
Counted w P n ls c e = P n ls e × (c ≡ weight w e)

module _ (w : Counting) (m : Numbers) (need : ℕ) (P : Numbers → List Lexeme → ExprTree → Type 0) (item : Parser ExprTree) (each : Recognizes w m need Any item (Counted w P)) (wants : (l : Lexeme) → IsSign symbol.Comma l → need ≤ wanted l (counted w)) where
  abbrev Values : Meaning ExprsTree
  Values n ls c es = IsValues (P n) ls es × (c ≡ weights w es)

  -- What follows a value.
  abbrev Further : ExprTree → List Lexeme → ℕ → Meaning ExprsTree
  Further x xs c n ys d es = Counted w P n xs c x → Values n (xs ++ ys) (c + d) (More x es)

  further-line : (more : Parser ExprsTree) → Recognizes w m need Any more Values → (x : ExprTree) (xs : List Lexeme) (c : ℕ) → Recognizes w m 0 Any (further item more) (Further x xs c)
  further-line more goes x xs c =
      choose-says (seen-says (sign-seen symbol.Comma) wants (λ l. as-line w m Values _ (λ n ls d es f v comma is. (syntax.more l is.0 comma v.0, weights-more w x es c d is.1 v.1)) goes))
      (pure-line End (λ n f is. (subst (λ (ls : List Lexeme). IsValues (P n) ls (More x End)) (sym (append-nil xs)) (syntax.one is.0), weights-one w x c is.1)))

  values-some : Exists m none need Values
  values-some =
      let e = each.some in
      record { tokens = e.tokens; count = e.count; value = More e.value End; few = e.few; means = λ n f. let is = e.means n f in (syntax.one is.0, omega (arith, weights-one w e.value e.count is.1)) }

  values-from-line : (k : ℕ) → Recognizes w m need Any (values_from item k) Values
  unfolding values_from
  values-from-line zero = refuse-line values-some
  values-from-line (suc k) = then-line each (λ x xs c. then-line (further-line (values_from item k) (values-from-line k) x xs c) (λ es ys d.
      pure-line _ (λ n f further is. let v = further is in (subst (λ (ls : List Lexeme). IsValues (P n) (xs ++ ls) (More x es)) (sym (append-nil ys)) v.0, omega (arith, v.1)))))

  pub values-line : Recognizes w m need Any (values item) Values
  unfolding values
  values-line = turns-line (values_from item) values-from-line

-- ---- chains

module _ (m : Numbers) (P : Numbers → List Lexeme → ExprTree → Type 0) (item : Parser ExprTree) (each : Recognizes Operands m 1 Any item (Counted Operands P)) (ops : Terminal → Option BinOp)
    (wants : (b : BinOp) (l : Lexeme) → ops l.terminal ≡ Some b → 1 ≤ wanted l limit.Operands) where
  abbrev Group : Numbers → List Lexeme → ExprTree → Type 0
  Group n ls e = IsGrouped ops (P n) ls e

  -- What follows a group.
  abbrev After : ExprTree → List Lexeme → ℕ → Meaning ExprTree
  After left xs c n ys d e = Counted Operands Group n xs c left → Counted Operands Group n (xs ++ ys) (c + d) e

  group-ends : {Seen : Input → Type 0} (left : ExprTree) (xs : List Lexeme) (c : ℕ) → Recognizes Operands m 0 Seen (λ i. Ok (left, i)) (After left xs c)
  group-ends left xs c = pure-line left (λ n f g. (subst (λ (ls : List Lexeme). Group n ls left) (sym (append-nil xs)) g.0, omega (arith, g.1)))

  turn-says : (more : ExprTree → Parser ExprTree) → ((x : ExprTree) (xs : List Lexeme) (c : ℕ) → Recognizes Operands m 0 Any (more x) (After x xs c)) → (left : ExprTree) (xs : List Lexeme) (c : ℕ)
      (o : Option BinOp) (i : Input) → op_in ops (next i) ≡ o → Says Operands m 0 (After left xs c) i (chain_turn ops item more left o i)
  turn-says more goes left xs c None i e = (group-ends {Seen = Any} left xs c).speaks.says i tt
  turn-says more goes left xs c (Some b) i e =
      let turn : Speaks Operands m 0 (λ j. op_in ops (next j) ≡ Some b) (chain_turn ops item more left (Some b)) (After left xs c) =
      here-says (group-ends {Seen = Any} left xs c).some (λ at. seen-says (operator-seen ops b i e) (wants b) (λ l. then-line each (λ right ys d.
      as-line Operands m (After (Bin b left right at) (xs ++ l ∷ ys) (c + d)) _
      (λ n zs t x f after is op first g.
      let whole : Group n (xs ++ l ∷ ys) (Bin b left right at) = subst (λ (p : ℕ). Group n (xs ++ l ∷ ys) (Bin b left right p)) (sym (first l (ys ++ zs) refl)) (syntax.more b l g.0 op is.0) in
      let all = after (whole, omega (arith, g.1, is.1)) in
      (subst (λ (ls : List Lexeme). Group n ls x) (append_assoc xs (l ∷ ys) zs) all.0, omega (arith, all.1)))
      (goes (Bin b left right at) (xs ++ l ∷ ys) (c + d))))) in
      turn.says i e

  chain-from-line : (k : ℕ) (left : ExprTree) (xs : List Lexeme) (c : ℕ) → Recognizes Operands m 0 Any (chain_from ops item k left) (After left xs c)
  unfolding chain_from
  chain-from-line zero left xs c = group-ends left xs c
  chain-from-line (suc k) left xs c = view-line (λ i. op_in ops (next i)) (chain_turn ops item (chain_from ops item k) left) (group-ends {Seen = Any} left xs c).some (turn-says (chain_from ops item k) (chain-from-line k) left xs c)

  pub chain-line : Recognizes Operands m 1 Any (chain ops item) (Counted Operands Group)
  unfolding chain
  chain-line = then-line each (λ x xs c. as-line Operands m (After x xs c) _ (λ n ls d e f g is. g (syntax.one is.0, is.1)) (turns-line (λ k. chain_from ops item k x) (λ k. chain-from-line k x xs c)))

-- ---- the lines

module _ (m : Numbers) (deeper : Line → Parser ExprTree) (D : Numbers → Line → List Lexeme → ExprTree → Type 0)
    (below : 0 < m.room → (x : Line) → Recognizes Operands m 1 Any (deeper x) (Counted Operands (λ n. D n x))) (deep : (x : Line) → Exists m (raised limit.Depth) 1 (Counted Operands (λ n. D n x))) where
  abbrev Primary : Meaning ExprTree
  Primary = Counted Operands (λ n. IsPrimary (D n))

  -- A name alone is an expression of each line.
  one-leaf : Exists m none 0 (λ n ls c e. Primary n ls (suc c) e)
  one-leaf =
      let l : Lexeme = record { terminal = Name (120 ∷ []); at = 0 } in
      record { tokens = l ∷ []; count = 0; value = Named (record { text = 120 ∷ []; at = 0 }); few = omega arith; means = λ n f. (syntax.name l (record { text = refl; place = refl }), refl) }

  one-name : Exists m none 1 Primary
  one-name = exists-one m 0 Primary one-leaf

  one-unary : Exists m none 1 (Counted Operands (λ n. IsUnary (D n)))
  one-unary = exists-as Operands m Primary _ (λ n ls c e f is. (syntax.plain is.0, is.1)) none 1 one-name

  one-negation : Exists m none 1 (Counted Operands (λ n. IsNegation (D n)))
  one-negation = exists-as Operands m Primary _ (λ n ls c e f is. (syntax.plain (syntax.alone (syntax.one (syntax.one (syntax.plain is.0)))), is.1)) none 1 one-name

  -- Where a level is opened, a name can stand in it.
  call-starts : (x : NameRecord) (l begin : Lexeme) → Exists m (raised limit.Depth) 1 (λ n ls c e. IsSign symbol.OpenParen begin → IsName x l → Primary n (l ∷ begin ∷ ls) (suc c) e)
  call-starts x l begin =
      let e = deep Whole in
      let end : Lexeme = record { terminal = Sign symbol.CloseParen; at = 0 } in
      record { tokens = e.tokens ++ end ∷ []; count = e.count; value = Call x (More e.value End); few = e.few; means = λ n f o is. let v = e.means n f in (syntax.call l begin end is o (syntax.one v.0) refl, omega (arith, v.1)) }

  parens-starts : (begin : Lexeme) → Exists m (raised limit.Depth) 1 (λ n ls c e. IsSign symbol.OpenParen begin → Primary n (begin ∷ ls) c e)
  parens-starts begin =
      let e = deep Whole in
      let end : Lexeme = record { terminal = Sign symbol.CloseParen; at = 0 } in
      record { tokens = e.tokens ++ end ∷ []; count = e.count; value = e.value; few = e.few; means = λ n f o. let v = e.means n f in (syntax.parens begin end o v.0 refl, v.1) }

  minus-starts : (at : ℕ) (l : Lexeme) → Exists m (raised limit.Depth) 1 (λ n ls c e. IsSign symbol.Minus l → StandsAt at (l ∷ ls) → Counted Operands (λ k. IsUnary (D k)) n (l ∷ ls) c e)
  minus-starts at l = let e = deep Signed in record { tokens = e.tokens; count = e.count; value = Neg e.value l.at; few = e.few; means = λ n f o first. let v = e.means n f in (syntax.minus l o v.0, v.1) }

  not-starts : (at : ℕ) (l : Lexeme) → Exists m (raised limit.Depth) 1 (λ n ls c e. IsKeyword keyword.Not l → StandsAt at (l ∷ ls) → Counted Operands (λ k. IsNegation (D k)) n (l ∷ ls) c e)
  not-starts at l = let e = deep Negation in record { tokens = e.tokens; count = e.count; value = Not e.value l.at; few = e.few; means = λ n f o first. let v = e.means n f in (syntax.not l o v.0, v.1) }

  begins-paren : (l : Lexeme) → IsSign symbol.OpenParen l → Begins limit.Depth l.terminal
  begins-paren l e = begins-as limit.Depth l.terminal (Sign symbol.OpenParen) e begins.paren_level

  paren-opens : (l : Lexeme) → IsSign symbol.OpenParen l → 1 ≤ wanted l limit.Operands
  paren-opens l e = sign-opens symbol.OpenParen l e refl

  call-says : (x : NameRecord) (l : Lexeme) → Speaks Operands m 0 (λ i. sees_sign symbol.OpenParen i ≡ true) (call m.most m.room deeper x) (λ n ls c e. IsName x l → Primary n (l ∷ ls) (suc c) e)
  unfolding call
  call-says x l =
      opened-says m.room (sign-seen symbol.OpenParen) begins-paren paren-opens (call-starts x l)
      (λ some begin. then-line (values-line Operands m 1 (λ n. D n Whole) (deeper Whole) (below some Whole) (λ k e. sign-opens symbol.Comma k e refl)) (λ es xs c. token-line (sign-token symbol.CloseParen) (λ u end.
      pure-line _ (λ n f z v o is. (syntax.call l begin end is o v.0 z, omega (arith, v.1))))))

  number-line : Recognizes Operands m 1 (λ i. sees_number i ≡ true) (number_leaf m.most m.room deeper) Primary
  unfolding number_leaf
  number-line =
      operand-line (λ i h. starts-one limit.Operands (sees-a-number i h) (λ x l is. begins-as limit.Operands l.terminal (Number x) is (begins.number x)) (λ x l. Num x l.at) (λ x l n is. (syntax.number l is, refl)))
      (here-line one-leaf (λ at. token-line number-token (λ x l. pure-line _ (λ n f is first. (subst (λ (a : ℕ). IsPrimary (D n) (l ∷ []) (Num x a)) (sym (first l [] refl)) (syntax.number l is), refl)))))

  text-line : Recognizes Operands m 1 (λ i. sees_text i ≡ true) (text_leaf m.most m.room deeper) Primary
  unfolding text_leaf
  text-line =
      operand-line (λ i h. starts-one limit.Operands (sees-a-text i h) (λ t l is. begins-as limit.Operands l.terminal (Str t) is (begins.text t)) (λ t l. Words t l.at) (λ t l n is. (syntax.text l is, refl)))
      (here-line one-leaf (λ at. token-line text-token (λ t l. pure-line _ (λ n f is first. (subst (λ (a : ℕ). IsPrimary (D n) (l ∷ []) (Words t a)) (sym (first l [] refl)) (syntax.text l is), refl)))))

  named-line : Recognizes Operands m 1 (λ i. sees_name i ≡ true) (named m.most m.room deeper) Primary
  unfolding named call_or_name
  named-line =
      operand-line (λ i h. starts-one limit.Operands (sees-a-name i h) (λ x l is. begins-as limit.Operands l.terminal (Name x.text) is.text (begins.name x.text)) (λ x l. Named x) (λ x l n is. (syntax.name l is, refl)))
      (token-line name-token (λ x l. choose-says (call-says x l) (pure-line (Named x) (λ n f is. (syntax.name l is, refl)))))

  parens-says : Speaks Operands m 1 (λ i. sees_sign symbol.OpenParen i ≡ true) (parens m.most m.room deeper) Primary
  unfolding parens
  parens-says = opened-says m.room (sign-seen symbol.OpenParen) begins-paren paren-opens parens-starts (λ some begin. then-line (below some Whole) (λ e xs c. token-line (sign-token symbol.CloseParen) (λ u end.
      pure-line _ (λ n f z is o. (syntax.parens begin end o is.0 z, omega (arith, is.1))))))

  primary-line : Recognizes Operands m 1 Any (primary m.most m.room deeper) Primary
  unfolding primary
  primary-line = choose-line number-line (choose-line text-line (choose-line named-line (choose-says parens-says (refuse-line one-name))))

  minus-says : Speaks Operands m 1 (λ i. sees_sign symbol.Minus i ≡ true) (minus m.most m.room deeper) (Counted Operands (λ n. IsUnary (D n)))
  unfolding minus
  minus-says = here-says one-unary (λ at. opened-says m.room (sign-seen symbol.Minus) (λ l e. begins-as limit.Depth l.terminal (Sign symbol.Minus) e begins.minus_level) (λ l e. sign-opens symbol.Minus l e refl) (minus-starts at) (λ some l.
      last-line (λ e. Neg e at) (below some Signed)
      (λ n xs c e is o first. (subst (λ (a : ℕ). IsUnary (D n) (l ∷ xs) (Neg e a)) (sym (first l xs refl)) (syntax.minus l o is.0), is.1))))

  unary-line : Recognizes Operands m 1 Any (unary m.most m.room deeper) (Counted Operands (λ n. IsUnary (D n)))
  unfolding unary
  unary-line = choose-says minus-says (as-line Operands m Primary _ (λ n ls c e f is. (syntax.plain is.0, is.1)) primary-line)

  product-line : Recognizes Operands m 1 Any (product m.most m.room deeper) (Counted Operands (λ n. IsProduct (D n)))
  unfolding product
  product-line = chain-line m (λ n. IsUnary (D n)) (unary m.most m.room deeper) unary-line product_op (λ b l e. operator-opens product_level l b e)

  sum-line : Recognizes Operands m 1 Any (sum m.most m.room deeper) (Counted Operands (λ n. IsSum (D n)))
  unfolding sum
  sum-line = chain-line m (λ n. IsProduct (D n)) (product m.most m.room deeper) product-line sum_op (λ b l e. operator-opens sum_level l b e)

  abbrev Relation : ExprTree → List Lexeme → ℕ → Meaning ExprTree
  Relation left xs c n ys d e = Counted Operands (λ k. IsSum (D k)) n xs c left → Counted Operands (λ k. IsRelation (D k)) n (xs ++ ys) (c + d) e

  relation-ends : {Seen : Input → Type 0} (left : ExprTree) (xs : List Lexeme) (c : ℕ) → Recognizes Operands m 0 Seen (λ i. Ok (left, i)) (Relation left xs c)
  relation-ends left xs c = pure-line left (λ n f is. (subst (λ (ls : List Lexeme). IsRelation (D n) ls left) (sym (append-nil xs)) (syntax.alone is.0), omega (arith, is.1)))

  relation-says : (left : ExprTree) (xs : List Lexeme) (c : ℕ) (o : Option BinOp) (i : Input) → op_in compare_op (next i) ≡ o → Says Operands m 0 (Relation left xs c) i (relation_turn m.most m.room deeper left o i)
  relation-says left xs c None i e = (relation-ends {Seen = Any} left xs c).speaks.says i tt
  relation-says left xs c (Some b) i e =
      let turn : Speaks Operands m 0 (λ j. op_in compare_op (next j) ≡ Some b) (relation_turn m.most m.room deeper left (Some b)) (Relation left xs c) =
      here-says (relation-ends {Seen = Any} left xs c).some (λ at. seen-says (operator-seen compare_op b i e) (λ l f. operator-opens relation_level l b f) (λ l. last-line (λ right. Bin b left right at) sum-line
      (λ n ys d right is op first g. (subst (λ (a : ℕ). IsRelation (D n) (xs ++ l ∷ ys) (Bin b left right a)) (sym (first l ys refl)) (syntax.compared b l g.0 op is.0), omega (arith, g.1, is.1))))) in
      turn.says i e

  relation-line : Recognizes Operands m 1 Any (relation m.most m.room deeper) (Counted Operands (λ n. IsRelation (D n)))
  unfolding relation
  relation-line = then-line sum-line (λ left xs c. view-line (λ i. op_in compare_op (next i)) (relation_turn m.most m.room deeper left) (relation-ends {Seen = Any} left xs c).some (relation-says left xs c))

  not-says : Speaks Operands m 1 (λ i. sees_word keyword.Not i ≡ true) (not_line m.most m.room deeper) (Counted Operands (λ n. IsNegation (D n)))
  unfolding not_line
  not-says = here-says one-negation (λ at. opened-says m.room (word-seen keyword.Not) (λ l e. begins-as limit.Depth l.terminal (Word keyword.Not) e begins.not_level) (λ l e. word-opens keyword.Not l e refl) (not-starts at) (λ some l.
      last-line (λ e. Not e at) (below some Negation)
      (λ n xs c e is o first. (subst (λ (a : ℕ). IsNegation (D n) (l ∷ xs) (Not e a)) (sym (first l xs refl)) (syntax.not l o is.0), is.1))))

  negation-line : Recognizes Operands m 1 Any (negation m.most m.room deeper) (Counted Operands (λ n. IsNegation (D n)))
  unfolding negation
  negation-line = choose-says not-says (as-line Operands m (Counted Operands (λ n. IsRelation (D n))) _ (λ n ls c e f is. (syntax.plain is.0, is.1)) relation-line)

  conjunction-line : Recognizes Operands m 1 Any (conjunction m.most m.room deeper) (Counted Operands (λ n. IsConjunction (D n)))
  unfolding conjunction
  conjunction-line = chain-line m (λ n. IsNegation (D n)) (negation m.most m.room deeper) negation-line and_op (λ b l e. operator-opens and_level l b e)

  pub expr-line : Recognizes Operands m 1 Any (expr m.most m.room deeper) (Counted Operands (λ n. IsExpression (D n)))
  unfolding expr
  expr-line = chain-line m (λ n. IsConjunction (D n)) (conjunction m.most m.room deeper) conjunction-line or_op (λ b l e. operator-opens or_level l b e)

  each-line : (x : Line) → Recognizes Operands m 1 Any (line m.most m.room deeper x) (Counted Operands (λ n. IsLine (D n) x))
  each-line Whole = expr-line
  each-line Negation = negation-line
  each-line Signed = unary-line

-- ---- levels, and whole expressions

-- Inside a level that was opened.
abbrev pub inside : (most : LimitKind → ℕ) (room : ℕ) → Shift (record { most = most; room = suc room }) (record { most = most; room = room })
inside most room = record {
  other = λ n. record n { room = n.room - 1 };
  same = λ k. refl;
  wide = λ extra n f. record { wide = f.wide; deep = omega (arith, f.deep); one = f.one };
}

within-more : (room : ℕ) (x : Line) (ls : List Lexeme) (e : ExprTree) → 0 < room → IsLine (Within (room - 1)) x ls e → Within room x ls e
unfolding Within
within-more zero x ls e h is = absurd (omega (arith, h))
within-more (suc room) x ls e h is = let same : suc room - 1 ≡ room = omega arith in subst (λ (r : ℕ). IsLine (Within r) x ls e) same is

-- A name alone is an expression of each line, where one level more is free.
deep-name : (m : Numbers) (x : Line) → Exists m (raised limit.Depth) 1 (Counted Operands (λ n. Within n.room x))
deep-name m x =
    let l : Lexeme = record { terminal = Name (120 ∷ []); at = 0 } in
    let e : ExprTree = Named (record { text = 120 ∷ []; at = 0 }) in
    record {
      tokens = l ∷ [];
      count = 1;
      value = e;
      few = omega arith;
      means = λ n f. (within-more n.room x (l ∷ []) e (omega (arith, f.deep, raised-self limit.Depth)) (name-line (Within (n.room - 1)) x l (record { text = refl; place = refl })), refl);
    }
  where
    name-line : (D : Line → List Lexeme → ExprTree → Type 0) (y : Line) (l : Lexeme) → IsName (record { text = 120 ∷ []; at = 0 }) l → IsLine D y (l ∷ []) (Named (record { text = 120 ∷ []; at = 0 }))
    name-line D Whole l is = syntax.one (syntax.one (syntax.plain (syntax.alone (syntax.one (syntax.one (syntax.plain (syntax.name l is)))))))
    name-line D Negation l is = syntax.plain (syntax.alone (syntax.one (syntax.one (syntax.plain (syntax.name l is)))))
    name-line D Signed l is = syntax.plain (syntax.name l is)

module _ (most : LimitKind → ℕ) where
  lines-line : (room : ℕ) → 0 < room → (x : Line) → Recognizes Operands (record { most = most; room = room }) 1 Any (lines most room x) (Counted Operands (λ n. Within n.room x))
  unfolding lines
  lines-line zero some x = absurd (omega (arith, some))
  lines-line (suc room) some x =
      let m : Numbers = record { most = most; room = suc room } in
      let k : Numbers = record { most = most; room = room } in
      as-line Operands m _ (Counted Operands (λ n. Within n.room x)) (λ n ls c e f is. (within-more n.room x ls e (omega (arith, f.deep)) is.0, is.1))
      (by-numbers Operands m k (Counted Operands (λ n. IsLine (Within n.room) x)) (inside most room) (each-line k (lines most room) (λ n. Within n.room) (lines-line room) (deep-name k) x))

module _ (m : Numbers) where
  abbrev Expression : Meaning ExprTree
  Expression = Counted Statements (λ n. IsExprWithin n.most n.room)

  abbrev CountedExpression : Meaning ExprTree
  CountedExpression = Counted Operands (λ n. IsExpression (Within n.room))

  abbrev IsWhole : Numbers → List Lexeme → ExprTree → Type 0
  IsWhole n = IsExprWithin n.most n.room

  whole : (n : Numbers) (ls : List Lexeme) (c : ℕ) (e : ExprTree) → CountedExpression n ls c e → c ≤ n.most limit.Operands → IsWhole n ls e
  unfolding Within
  whole n ls c e is few = record { whole = is.0; few = omega (arith, is.1, few) }

  -- The operands of an expression are counted from 0, and none counts after it.
  says-whole : (i : Input) (o : Parsed ExprTree) → Exists m none 1 CountedExpression → Says Operands m 1 CountedExpression (record i { operands = 0 }) o → Says Statements m 0 Expression i (and_then o (λ e j. Ok (e, record j { operands = 0 })))
  says-whole i (Ok read) some t =
      let c = t.counts in
      record {
        taken = t.taken;
        count = 0;
        splits = t.splits;
        counts = record { more = omega (arith, c.same); few = λ h. omega (arith, c.same, h); same = refl };
        means = λ n f. let is = t.means n f in (whole n t.taken t.count read.0 is (omega (arith, c.more, c.few (omega arith), f.wide limit.Operands)), refl);
      }
  says-whole i (Err stopped) some s = stops-sized Operands Statements m m CountedExpression IsWhole (unchanged m) whole 1 (record i { operands = 0 }) i comma (omega arith) (operand-after comma refl) refl refl some stopped s

  pub expression-line : Recognizes Statements m 0 Any (expression m.most m.room) Expression
  unfolding expression
  expression-line =
      let inner = expr-line m (lines m.most m.room) (λ n. Within n.room) (lines-line m.most m.room) (deep-name m) in
      record {
        some = exists-sized Operands Statements m m CountedExpression IsWhole (unchanged m) whole 1 (omega arith) inner.some;
        speaks = record { says = λ i h. says-whole i (expr m.most m.room (lines m.most m.room) (record i { operands = 0 })) inner.some (inner.speaks.says (record i { operands = 0 }) tt) };
      }

-- Where as many levels are free as a script may open.
abbrev pub fresh : Numbers → Numbers
fresh n = record n { room = n.most limit.Depth }

abbrev pub from_fresh : (m : Numbers) → Shift m (fresh m)
from_fresh m = record {
  other = fresh;
  same = λ k. refl;
  wide = λ extra n f. record { wide = f.wide; deep = f.wide limit.Depth; one = f.one };
}

pub value-line : (m : Numbers) → Recognizes Nothing m 0 Any (expression m.most (m.most limit.Depth)) (λ n ls c e. IsExprWithin n.most (n.most limit.Depth) ls e)
value-line m = uncounted-line Statements m _ (λ n. IsExprWithin n.most (n.most limit.Depth)) (λ n ls c e is. is.0) (by-numbers Statements m (fresh m) (Expression (fresh m)) (from_fresh m) (expression-line (fresh m)))
