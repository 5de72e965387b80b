-- An expression that is read from the tokens of a text is lawful.
use Rattle.std.proofs.Common.{◌≡◌, ◌≢◌, ℕ, zero, suc, ℤ, ◌+◌, ◌≤◌, max, Bool, true, false, ◌&&◌, nat_lt, nat_le, if◌then◌else◌, List, [], ◌∷◌, ◌++◌, length, refl, ap, sym, ◌∙◌, subst, arith}
use Rattle.std.proofs.lemmas.Bool.Decides.{nat_tests}
use Rattle.std.specs.List.{list_all}
use Rattle.sym_base.specs.declared.tree.name.Name.{Name as NameRecord}
use Rattle.sym_base.specs.declared.tree.expression.BinOp.{BinOp}
use Rattle.sym_base.specs.declared.tree.expression.BinOp.TheVariants as op
use Rattle.sym_base.specs.Lawful.{has_lawful_leaves, have_lawful_leaves, has_some, is_lawful_text, is_unsigned, is_lawful_expr, are_lawful_exprs}
use Rattle.sym_base.specs.Limits.{max_operands}
use Rattle.sym_base.specs.Names.{is_name}
use Rattle.sym_base.specs.Precedence.{expr_level, op_level, left_level, right_level}
use Rattle.sym_base.specs.Sizes.{expr_depth, exprs_depth, operand_depth, operand_count}
use Rattle.sym_base.specs.Trees.{ExprTree, ExprsTree, Bin}
use Rattle.sym_lex.specs.declared.token.Token.{Token}
use Rattle.sym_lex.specs.declared.token.TokenKind.{TokenKind}
use Rattle.sym_lex.specs.declared.token.TokenKind.TheVariants as kind
use Rattle.sym_lex.specs.Terminals.{are_sound, is_sound, suits_kind, terminal_of, token_bytes}
use Rattle.sym_parse.specs.Lexemes.{Terminal, Name, Number, Str, Word, Sign, Lexeme, lexeme_of, lexemes_of, IsName, IsNumeral, IsText}
use Rattle.sym_parse.specs.Limits.{most}
use Rattle.sym_parse.specs.Syntax.Expressions as syntax
use Rattle.sym_parse.specs.Syntax.Expressions.{Line, Whole, Negation, Signed, IsGrouped, IsValues, IsPrimary, IsUnary, IsProduct, IsSum, IsRelation, IsNegation, IsConjunction, IsExpression, IsLine, Within, IsExprWithin, op_of}
use Rattle.sym_parse.proofs.ExpressionsComplete.{operators, of-level}
use Rattle.sym_parse.proofs.Letters.{both}

-- ---- tokens

abbrev terminal_suits : Terminal → Bool
terminal_suits (Name text) = is_name text
terminal_suits (Number n) = is_unsigned n
terminal_suits (Str text) = is_lawful_text text
terminal_suits (Word k) = true
terminal_suits (Sign s) = true

abbrev pub suits : Lexeme → Bool
suits l = terminal_suits l.terminal

-- Every name, number and text among the lexemes is lawful.
abbrev pub AllSuit : List Lexeme → Type 0
AllSuit ls = list_all suits ls ≡ true

pub join : (a b : Bool) → a ≡ true → b ≡ true → (a && b) ≡ true
join true b p q = q
join false b p q = p

kind-suits : (bytes : List ℕ) (k : TokenKind) → suits_kind bytes k ≡ terminal_suits (terminal_of bytes k)
kind-suits bytes kind.Name = refl
kind-suits bytes (kind.Number n) = refl
kind-suits bytes (kind.Str text) = refl
kind-suits bytes (kind.Word k) = refl
kind-suits bytes (kind.Sign s) = refl

pub lexemes-suit : (source : List ℕ) (tokens : List Token) → are_sound source tokens ≡ true → AllSuit (lexemes_of source tokens)
lexemes-suit source [] h = refl
lexemes-suit source (t ∷ tokens) h =
    let p = both (is_sound source t) (are_sound source tokens) h in
    let q = both (nat_lt t.at t.end && nat_le t.end (length source)) (suits_kind (token_bytes source t) t.kind) p.0 in
    join (suits (lexeme_of source t)) (list_all suits (lexemes_of source tokens)) (sym (kind-suits (token_bytes source t) t.kind) ∙ q.1) (lexemes-suit source tokens p.1)

pub apart : (xs ys : List Lexeme) → AllSuit (xs ++ ys) → AllSuit xs × AllSuit ys
apart [] ys h = (refl, h)
apart (l ∷ xs) ys h =
    let p = both (suits l) (list_all suits (xs ++ ys)) h in
    let q = apart xs ys p.1 in
    (join (suits l) (list_all suits xs) p.0 q.0, q.1)

pub first-suits : (l : Lexeme) (ls : List Lexeme) → AllSuit (l ∷ ls) → suits l ≡ true
first-suits l ls h = (both (suits l) (list_all suits ls) h).0

pub rest-suits : (l : Lexeme) (ls : List Lexeme) → AllSuit (l ∷ ls) → AllSuit ls
rest-suits l ls h = (both (suits l) (list_all suits ls) h).1

pub name-lawful : (l : Lexeme) (n : NameRecord) → IsName n l → suits l ≡ true → is_name n.text ≡ true
name-lawful l n is h = ap terminal_suits (sym is.text) ∙ h

pub number-lawful : (l : Lexeme) (n : ℤ) → IsNumeral n l → suits l ≡ true → is_unsigned n ≡ true
number-lawful l n is h = ap terminal_suits (sym is) ∙ h

pub text-lawful : (l : Lexeme) (t : List ℕ) → IsText t l → suits l ≡ true → is_lawful_text t ≡ true
text-lawful l t is h = ap terminal_suits (sym is) ∙ h

-- ---- expressions

-- Leaves are lawful, and the depth keeps within so many levels where a line of this level is wanted.
pub record Good (wanted room : ℕ) (e : ExprTree) : Type 0 where
  pub leaves : has_lawful_leaves e ≡ true
  pub fits : operand_depth wanted e (expr_depth e) ≤ room

pub record AllGood (room : ℕ) (es : ExprsTree) : Type 0 where
  pub some : has_some es ≡ true
  pub leaves : have_lawful_leaves es ≡ true
  pub fits : exprs_depth es ≤ room

picked : (b : Bool) (d : ℕ) → d ≤ (if b then d + 1 else d)
picked true d = omega arith
picked false d = omega arith

looser : (m n level d : ℕ) → m ≤ n → (if nat_lt level m then d + 1 else d) ≤ (if nat_lt level n then d + 1 else d)
looser m n level d h = grind (arith, nat_tests)

-- Where less is wanted, no more parentheses are needed.
weaker : (m n room : ℕ) (e : ExprTree) → m ≤ n → Good n room e → Good m room e
weaker m n room e h g = record { leaves = g.leaves; fits = omega (arith, g.fits, looser m n (expr_level e) (expr_depth e) h) }

-- Without parentheses the depth is no more.
pub bare : (wanted room : ℕ) (e : ExprTree) → Good wanted room e → expr_depth e ≤ room
bare wanted room e g = omega (arith, g.fits, picked (nat_lt (expr_level e) wanted) (expr_depth e))

-- One level of parentheses suffices.
parenthesized : (wanted room : ℕ) (e : ExprTree) → expr_depth e + 1 ≤ room → operand_depth wanted e (expr_depth e) ≤ room
parenthesized wanted room e h = omega (arith, one_more (nat_lt (expr_level e) wanted) (expr_depth e))
  where
    one_more : (b : Bool) (d : ℕ) → (if b then d + 1 else d) ≤ d + 1
    one_more true d = omega arith
    one_more false d = omega arith

abbrev Holds : (List Lexeme → ExprTree → Type 0) → ℕ → ℕ → Type 0
Holds P wanted room = (ls : List Lexeme) (e : ExprTree) → AllSuit ls → P ls e → Good wanted room e

-- What operators take on each side. Relations don't group.
sides : (b : BinOp) → op_level b ≢ 3 → (left_level b ≡ op_level b) × (right_level b ≡ op_level b + 1)
sides op.Eq h = absurd (h refl)
sides op.Ne h = absurd (h refl)
sides op.Lt h = absurd (h refl)
sides op.Le h = absurd (h refl)
sides op.Gt h = absurd (h refl)
sides op.Ge h = absurd (h refl)
sides op.Is h = absurd (h refl)
sides _ h = (refl, refl)

relation-sides : (b : BinOp) → op_level b ≡ 3 → (left_level b ≡ 4) × (right_level b ≡ 4)
relation-sides op.Eq e = (refl, refl)
relation-sides op.Ne e = (refl, refl)
relation-sides op.Lt e = (refl, refl)
relation-sides op.Le e = (refl, refl)
relation-sides op.Gt e = (refl, refl)
relation-sides op.Ge e = (refl, refl)
relation-sides op.Is e = (refl, refl)
relation-sides _ e = absurd (omega (arith, e))

-- Two operands that fit, and the operator between them.
between : (b : BinOp) (left right : ExprTree) (place level wanted_left wanted_right wanted room : ℕ) →
    op_level b ≡ level → left_level b ≡ wanted_left → right_level b ≡ wanted_right → wanted ≤ level →
    Good wanted_left room left → Good wanted_right room right → Good wanted room (Bin b left right place)
between b left right place level wl wr wanted room o l r h g k =
    let gl : operand_depth (left_level b) left (expr_depth left) ≤ room = subst (λ (m : ℕ). operand_depth m left (expr_depth left) ≤ room) (sym l) g.fits in
    let gr : operand_depth (right_level b) right (expr_depth right) ≤ room = subst (λ (m : ℕ). operand_depth m right (expr_depth right) ≤ room) (sym r) k.fits in
    let none : nat_lt (op_level b) wanted ≡ false = grind (arith, nat_tests) in
    let both_fit : max (operand_depth (left_level b) left (expr_depth left)) (operand_depth (right_level b) right (expr_depth right)) ≤ room = omega arith in
    record {
      leaves = join (has_lawful_leaves left) (has_lawful_leaves right) g.leaves k.leaves;
      fits = subst (λ (t : Bool). (if t then expr_depth (Bin b left right place) + 1 else expr_depth (Bin b left right place)) ≤ room) (sym none) both_fit;
    }

module _ (P : List Lexeme → ExprTree → Type 0) (level room : ℕ) (groups : level ≢ 3) (item : Holds P (level + 1) room) where
  grouped-holds : Holds (IsGrouped (operators level) P) level room
  grouped-holds ls e s (syntax.one p) = weaker level (level + 1) room e (omega arith) (item ls e s p)
  grouped-holds _ _ s (syntax.more {xs} {ys} {left} {right} b l g o p) =
      let t = apart xs (l ∷ ys) s in
      let own = (of-level level (op_of l.terminal) b o).1 in
      let side = sides b (λ e. groups (sym own ∙ e)) in
      between b left right l.at level level (level + 1) level room own (side.0 ∙ own) (side.1 ∙ ap (λ (n : ℕ). n + 1) own) (omega arith)
      (grouped-holds xs left t.0 g) (item ys right (rest-suits l ys t.1) p)

module _ (P : List Lexeme → ExprTree → Type 0) (room : ℕ) (item : (ls : List Lexeme) (e : ExprTree) → AllSuit ls → P ls e → Good 0 room e) where
  pub values-hold : (ls : List Lexeme) (es : ExprsTree) → AllSuit ls → IsValues P ls es → AllGood room es
  values-hold ls _ s (syntax.one {xs} {e} p) =
      let g = item ls e s p in
      record { some = refl; leaves = join (has_lawful_leaves e) true g.leaves refl; fits = omega (arith, bare 0 room e g) }
  values-hold _ _ s (syntax.more {xs} {ys} {e} {rest} comma p c v) =
      let t = apart xs (comma ∷ ys) s in
      let g = item xs e t.0 p in
      let k = values-hold ys rest (rest-suits comma ys t.1) v in
      record { some = refl; leaves = join (has_lawful_leaves e) (have_lawful_leaves rest) g.leaves k.leaves; fits = omega (arith, bare 0 room e g, k.fits) }

-- The level that each line is wanted at.
abbrev wanted_of : Line → ℕ
wanted_of Whole = 0
wanted_of Negation = 2
wanted_of Signed = 6

-- One level deeper there is one level less.
module _ (room : ℕ) (D : Line → List Lexeme → ExprTree → Type 0)
    (below : (x : Line) (ls : List Lexeme) (e : ExprTree) → AllSuit ls → D x ls e → (r : ℕ) × (r + 1 ≤ room) × Good (wanted_of x) r e)
    (some : (ls : List Lexeme) (es : ExprsTree) → AllSuit ls → IsValues (D Whole) ls es → (r : ℕ) × (r + 1 ≤ room) × AllGood r es) where
  primary-holds : Holds (IsPrimary D) 7 room
  primary-holds _ _ s (syntax.number {n} l is) = record { leaves = number-lawful l n is (first-suits l [] s); fits = omega arith }
  primary-holds _ _ s (syntax.text {t} l is) = record { leaves = text-lawful l t is (first-suits l [] s); fits = omega arith }
  primary-holds _ _ s (syntax.name {n} l is) = record { leaves = name-lawful l n is (first-suits l [] s); fits = omega arith }
  primary-holds _ _ s (syntax.call {n} {xs} {es} l begin end is b v z) =
      let inside = rest-suits begin (xs ++ end ∷ []) (rest-suits l (begin ∷ (xs ++ end ∷ [])) s) in
      let t = apart xs (end ∷ []) inside in
      let g = some xs es t.0 v in
      let name = name-lawful l n is (first-suits l (begin ∷ (xs ++ end ∷ [])) s) in
      record { leaves = join (is_name n.text && has_some es) (have_lawful_leaves es) (join (is_name n.text) (has_some es) name g.2.some) g.2.leaves; fits = omega (arith, g.1, g.2.fits) }
  primary-holds _ _ s (syntax.parens {xs} {e} begin end b d z) =
      let t = apart xs (end ∷ []) (rest-suits begin (xs ++ end ∷ []) s) in
      let g = below Whole xs e t.0 d in
      record { leaves = g.2.leaves; fits = parenthesized 7 room e (omega (arith, g.1, bare 0 g.0 e g.2)) }

  unary-holds : Holds (IsUnary D) 6 room
  unary-holds _ _ s (syntax.minus {xs} {e} l is d) =
      let g = below Signed xs e (rest-suits l xs s) d in
      record { leaves = g.2.leaves; fits = omega (arith, g.1, g.2.fits) }
  unary-holds ls e s (syntax.plain p) = weaker 6 7 room e (omega arith) (primary-holds ls e s p)

  product-holds : Holds (IsProduct D) 5 room
  product-holds = grouped-holds (IsUnary D) 5 room (λ e. omega (arith, e)) unary-holds

  sum-holds : Holds (IsSum D) 4 room
  sum-holds = grouped-holds (IsProduct D) 4 room (λ e. omega (arith, e)) product-holds

  relation-holds : Holds (IsRelation D) 3 room
  relation-holds ls e s (syntax.alone p) = weaker 3 4 room e (omega arith) (sum-holds ls e s p)
  relation-holds _ _ s (syntax.compared {xs} {ys} {left} {right} b l p o q) =
      let t = apart xs (l ∷ ys) s in
      let own = (of-level 3 (op_of l.terminal) b o).1 in
      let side = relation-sides b own in
      between b left right l.at 3 4 4 3 room own side.0 side.1 (omega arith) (sum-holds xs left t.0 p) (sum-holds ys right (rest-suits l ys t.1) q)

  negation-holds : Holds (IsNegation D) 2 room
  negation-holds _ _ s (syntax.not {xs} {e} l is d) =
      let g = below Negation xs e (rest-suits l xs s) d in
      record { leaves = g.2.leaves; fits = omega (arith, g.1, g.2.fits) }
  negation-holds ls e s (syntax.plain p) = weaker 2 3 room e (omega arith) (relation-holds ls e s p)

  conjunction-holds : Holds (IsConjunction D) 1 room
  conjunction-holds = grouped-holds (IsNegation D) 1 room (λ e. omega (arith, e)) negation-holds

  expression-holds : Holds (IsExpression D) 0 room
  expression-holds = grouped-holds (IsConjunction D) 0 room (λ e. omega (arith, e)) conjunction-holds

  line-holds : (x : Line) → Holds (IsLine D x) (wanted_of x) room
  line-holds Whole ls e s p = expression-holds ls e s p
  line-holds Negation ls e s p = negation-holds ls e s p
  line-holds Signed ls e s p = unary-holds ls e s p

abbrev Below : ℕ → Type 0
Below room = (x : Line) (ls : List Lexeme) (e : ExprTree) → AllSuit ls → Within room x ls e → (r : ℕ) × (r + 1 ≤ room) × Good (wanted_of x) r e

values-below : (room : ℕ) → Below room → (ls : List Lexeme) (es : ExprsTree) → AllSuit ls → IsValues (Within room Whole) ls es → (r : ℕ) × (r + 1 ≤ room) × AllGood r es
values-below zero below ls _ s (syntax.one {xs} {e} p) = let b = below Whole ls e s p in absurd (omega (arith, b.1))
values-below zero below _ _ s (syntax.more {xs} {ys} {e} {rest} comma p c v) = let b = below Whole xs e (apart xs (comma ∷ ys) s).0 p in absurd (omega (arith, b.1))
values-below (suc room) below ls es s v =
    (room, omega arith, values-hold (Within (suc room) Whole) room (λ xs e t p. let b = below Whole xs e t p in raised b.0 room e (omega (arith, b.1)) b.2) ls es s v)
  where
    raised : (r room : ℕ) (e : ExprTree) → r ≤ room → Good 0 r e → Good 0 room e
    raised r room e h g = record { leaves = g.leaves; fits = omega (arith, g.fits) }

within-holds : (room : ℕ) → Below room
unfolding Within
within-holds zero x ls e s p = absurd p
within-holds (suc room) x ls e s p = (room, omega arith, line-holds room (Within room) (within-holds room) (values-below room (within-holds room)) x ls e s p)

-- A whole expression within the limits.
pub record Lawful (room : ℕ) (e : ExprTree) : Type 0 where
  pub lawful : is_lawful_expr e ≡ true
  pub fits : expr_depth e ≤ room

pub expr-lawful : (room : ℕ) (ls : List Lexeme) (e : ExprTree) → AllSuit ls → IsExprWithin most room ls e → Lawful room e
expr-lawful room ls e s is =
    let b = within-holds (suc room) Whole ls e s is.whole in
    let few : nat_le (operand_count e) max_operands ≡ true = grind (arith, nat_tests, is.few) in
    record { lawful = join (has_lawful_leaves e) (nat_le (operand_count e) max_operands) b.2.leaves few; fits = omega (arith, b.1, bare 0 b.0 e b.2) }

pub record AllLawful (room : ℕ) (es : ExprsTree) : Type 0 where
  pub some : has_some es ≡ true
  pub lawful : are_lawful_exprs es ≡ true
  pub fits : exprs_depth es ≤ room

pub exprs-lawful : (room : ℕ) (ls : List Lexeme) (es : ExprsTree) → AllSuit ls → IsValues (IsExprWithin most room) ls es → AllLawful room es
exprs-lawful room ls _ s (syntax.one {xs} {e} p) =
    let g = expr-lawful room ls e s p in
    record { some = refl; lawful = join (is_lawful_expr e) true g.lawful refl; fits = omega (arith, g.fits) }
exprs-lawful room _ _ s (syntax.more {xs} {ys} {e} {rest} comma p c v) =
    let t = apart xs (comma ∷ ys) s in
    let g = expr-lawful room xs e t.0 p in
    let k = exprs-lawful room ys rest (rest-suits comma ys t.1) v in
    record { some = refl; lawful = join (is_lawful_expr e) (are_lawful_exprs rest) g.lawful k.lawful; fits = omega (arith, g.fits, k.fits) }
