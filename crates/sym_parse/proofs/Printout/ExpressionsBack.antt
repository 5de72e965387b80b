-- The pieces of an expression read as that expression, places aside.
use Rattle.std.proofs.Common.{◌≡◌, ℕ, zero, suc, ◌+◌, ◌≤◌, Bool, true, false, ◌&&◌, nat_le, if◌then◌else◌, List, [], ◌∷◌, ◌++◌, refl, sym, ◌∙◌, ap, subst, arith}
use Rattle.std.proofs.lemmas.Bool.Decides.{nat_tests}
use Rattle.std.proofs.lemmas.List.{append-nil}
use Rattle.sym_base.specs.declared.tree.expression.BinOp.{BinOp}
use Rattle.sym_base.specs.declared.tree.expression.BinOp.TheVariants as op
use Rattle.sym_base.specs.Lawful.{has_lawful_leaves, have_lawful_leaves, has_some, is_lawful_name}
use Rattle.sym_base.specs.Precedence.{expr_level, op_level, left_level, right_level, needs_parentheses, not_level, sign_level}
use Rattle.sym_base.specs.Sizes.{expr_depth, exprs_depth, operand_depth}
use Rattle.sym_base.specs.Trees.{ExprTree, Num, Words, Named, Call, Neg, Not, Bin, ExprsTree, End, More}
use Rattle.sym_lex.specs.declared.keyword.Keyword.TheVariants as keyword
use Rattle.sym_lex.specs.declared.symbol.Symbol.TheVariants as symbol
use Rattle.sym_lex.specs.Terminals.{Name, Number, Str, Word, Sign}
use Rattle.sym_parse.specs.Bare.{bare_name, bare_expr, bare_exprs}
use Rattle.sym_parse.specs.Lexemes.{Lexeme}
use Rattle.sym_parse.specs.Syntax.Expressions.{Line, Whole, IsGrouped, IsValues, IsPrimary, IsUnary, IsProduct, IsSum, IsRelation, IsNegation, IsConjunction, IsExpression, Within}
use Rattle.sym_parse.specs.Printed.{Piece, Token, Space, sign, op_terminal, enclosed, operand, expr, exprs, further_exprs}
use Rattle.sym_parse.proofs.Printout.Pieces.{lexemes}
use Rattle.sym_parse.proofs.Printout.Placing.{in_turn}

-- Lexemes that read as something which is x, places aside.
pub record Like {A B : Type 0} (Reads : List Lexeme → A → Type 0) (bare : A → B) (ls : List Lexeme) (x : A) : Type 0 where
  pub tree : A
  pub reads : Reads ls tree
  pub same : bare tree ≡ bare x

pub by_test : {P : Type 0} (t : Bool) → (t ≡ true → P) → (t ≡ false → P) → P
by_test true yes_case no_case = yes_case refl
by_test false yes_case no_case = no_case refl

pub both : (a b : Bool) → (a && b) ≡ true → (a ≡ true) × (b ≡ true)
both true true h = (refl, refl)
both true false h = (refl, h)
both false b h = cc

abbrev pub Deeper : Type 1
Deeper = Line → List Lexeme → ExprTree → Type 0

-- The lines of the grammar by their levels.
abbrev pub IsAt : ℕ → Deeper → List Lexeme → ExprTree → Type 0
IsAt zero D = IsExpression D
IsAt (suc zero) D = IsConjunction D
IsAt (suc (suc zero)) D = IsNegation D
IsAt (suc (suc (suc zero))) D = IsRelation D
IsAt (suc (suc (suc (suc zero)))) D = IsSum D
IsAt (suc (suc (suc (suc (suc zero))))) D = IsProduct D
IsAt (suc (suc (suc (suc (suc (suc zero)))))) D = IsUnary D
IsAt (suc (suc (suc (suc (suc (suc (suc n))))))) D = IsPrimary D

-- What stands in a line stands in the one before it.
lifted : (n : ℕ) (D : Deeper) (ls : List Lexeme) (e : ExprTree) → IsAt (suc n) D ls e → IsAt n D ls e
lifted zero D ls e h = IsGrouped.one h
lifted (suc zero) D ls e h = IsGrouped.one h
lifted (suc (suc zero)) D ls e h = IsNegation.plain h
lifted (suc (suc (suc zero))) D ls e h = IsRelation.alone h
lifted (suc (suc (suc (suc zero)))) D ls e h = IsGrouped.one h
lifted (suc (suc (suc (suc (suc zero))))) D ls e h = IsGrouped.one h
lifted (suc (suc (suc (suc (suc (suc zero)))))) D ls e h = IsUnary.plain h
lifted (suc (suc (suc (suc (suc (suc (suc n))))))) D ls e h = h

pub lowered : (m n : ℕ) (D : Deeper) (ls : List Lexeme) (e : ExprTree) → n ≤ m → IsAt m D ls e → IsAt n D ls e
lowered zero n D ls e h p = let same : 0 ≡ n = omega arith in subst (λ k. IsAt k D ls e) same p
lowered (suc m) n D ls e h p =
    by_test (nat_le n m)
    (λ t. let lower : n ≤ m = grind (arith, nat_tests) in lowered m n D ls e lower (lifted m D ls e p))
    (λ f. let same : suc m ≡ n = grind (arith, nat_tests) in subst (λ k. IsAt k D ls e) same p)

-- An operator between its operands.
grouped : (b : BinOp) (D : Deeper) (xs ys : List Lexeme) (left right : ExprTree) (at : ℕ) → IsAt (left_level b) D xs left → IsAt (right_level b) D ys right →
    IsAt (op_level b) D (xs ++ record { terminal = op_terminal b; at = at } ∷ ys) (Bin b left right at)
grouped op.Or D xs ys left right at p q = IsGrouped.more op.Or _ p refl q
grouped op.And D xs ys left right at p q = IsGrouped.more op.And _ p refl q
grouped op.Eq D xs ys left right at p q = IsRelation.compared op.Eq _ p refl q
grouped op.Ne D xs ys left right at p q = IsRelation.compared op.Ne _ p refl q
grouped op.Lt D xs ys left right at p q = IsRelation.compared op.Lt _ p refl q
grouped op.Le D xs ys left right at p q = IsRelation.compared op.Le _ p refl q
grouped op.Gt D xs ys left right at p q = IsRelation.compared op.Gt _ p refl q
grouped op.Ge D xs ys left right at p q = IsRelation.compared op.Ge _ p refl q
grouped op.Is D xs ys left right at p q = IsRelation.compared op.Is _ p refl q
grouped op.Add D xs ys left right at p q = IsGrouped.more op.Add _ p refl q
grouped op.Sub D xs ys left right at p q = IsGrouped.more op.Sub _ p refl q
grouped op.Mul D xs ys left right at p q = IsGrouped.more op.Mul _ p refl q
grouped op.Div D xs ys left right at p q = IsGrouped.more op.Div _ p refl q
grouped op.Rem D xs ys left right at p q = IsGrouped.more op.Rem _ p refl q

left-small : (b : BinOp) → left_level b ≤ 7
left-small op.Or = omega arith
left-small _ = omega arith

right-small : (b : BinOp) → right_level b ≤ 7
right-small op.Or = omega arith
right-small _ = omega arith

module _ (place : ℕ → ℕ) where
  abbrev pub ReadsAt : ℕ → ℕ → List Lexeme → ExprTree → Type 0
  ReadsAt level room = Like (IsAt level (Within room)) bare_expr

  -- What is known of an expression's own pieces.
  abbrev Own : ExprTree → Type 0
  Own e = (room k : ℕ) → expr_depth e ≤ room → ReadsAt (expr_level e) room (lexemes place k (expr e)) e

  enclosed-reads : (level : ℕ) (e : ExprTree) (room k : ℕ) → level ≤ 7 → expr_depth e + 1 ≤ room → Own e →
      ReadsAt level room (lexemes place k (enclosed true (expr e))) e
  unfolding Within
  enclosed-reads level e zero k small h own = absurd (let no : ⊥ = omega arith in no)
  enclosed-reads level e (suc room) k small h own =
      in_turn place (k + 1) (expr e) (sign symbol.CloseParen ∷ [])
      (λ ls. ReadsAt level (suc room) (record { terminal = Sign symbol.OpenParen; at = place k } ∷ ls) e)
      (λ j. let inside = own room (k + 1) (omega arith) in
      record {
        tree = inside.tree;
        reads = lowered 7 level (Within (suc room)) _ _ small
            (IsPrimary.parens (record { terminal = Sign symbol.OpenParen; at = place k }) (record { terminal = Sign symbol.CloseParen; at = place j }) refl
            (lowered (expr_level e) 0 (Within room) _ _ (omega arith) inside.reads) refl);
        same = inside.same;
      })

  -- An operand where this level is wanted.
  operand-reads : (level : ℕ) (e : ExprTree) (room k : ℕ) → level ≤ 7 → operand_depth level e (expr_depth e) ≤ room → Own e →
      ReadsAt level room (lexemes place k (operand level e (expr e))) e
  operand-reads level e room k small h own =
      let P : Bool → Type 0 = λ t. (if t then expr_depth e + 1 else expr_depth e) ≤ room → (t ≡ false → level ≤ expr_level e) → ReadsAt level room (lexemes place k (enclosed t (expr e))) e in
      let cases : (t : Bool) → P t =
      elim [
        | true ↦ λ d l. enclosed-reads level e room k small d own
        | false ↦ λ d l. let inside = own room k d in record { tree = inside.tree; reads = lowered (expr_level e) level (Within room) _ _ (l refl) inside.reads; same = inside.same }
      ] in
      cases (needs_parentheses level e) h (λ f. grind (arith, nat_tests))

  -- A whole expression.
  pub whole-reads : (e : ExprTree) (room k : ℕ) → expr_depth e ≤ room → Own e → ReadsAt 0 room (lexemes place k (expr e)) e
  whole-reads e room k h own =
      let inside = own room k h in
      record { tree = inside.tree; reads = lowered (expr_level e) 0 (Within room) _ _ (omega arith) inside.reads; same = inside.same }

  abbrev pub ReadsValues : ℕ → List Lexeme → ExprsTree → Type 0
  ReadsValues room = Like (IsValues (Within (suc room) Whole)) bare_exprs

  pub as-whole : (room : ℕ) (ls : List Lexeme) (e : ExprTree) → IsAt 0 (Within room) ls e → Within (suc room) Whole ls e
  unfolding Within
  as-whole room ls e h = h

  values-step : (first : ExprTree) (rest : ExprsTree) (room k : ℕ) → ((i : ℕ) → ReadsAt 0 room (lexemes place i (expr first)) first) →
      ((i : ℕ) → has_some rest ≡ true → ReadsValues room (lexemes place i (exprs rest)) rest) →
      ReadsValues room (lexemes place k (expr first ++ further_exprs rest)) (More first rest)
  values-step first End room k p q =
      let one = p k in
      let R : List Piece → Type 0 = λ ps. ReadsValues room (lexemes place k ps) (More first End) in
      subst R (sym (append-nil (expr first)))
      (record { tree = More one.tree End; reads = IsValues.one (as-whole room (lexemes place k (expr first)) one.tree one.reads); same = ap (λ e. More e End) one.same })
  values-step first (More second rest) room k p q =
      in_turn place k (expr first) (sign symbol.Comma ∷ Space ∷ (expr second ++ further_exprs rest))
      (λ ls. ReadsValues room ls (More first (More second rest)))
      (λ j. let one = p k in
      let others = q (j + 1) refl in
      record {
        tree = More one.tree others.tree;
        reads = IsValues.more (record { terminal = Sign symbol.Comma; at = place j }) (as-whole room (lexemes place k (expr first)) one.tree one.reads) refl others.reads;
        same = ap (λ e. More e (bare_exprs others.tree)) one.same ∙ ap (λ es. More (bare_expr first) es) others.same;
      })

  mutual
    unfolding Within

    pub expr-reads : (e : ExprTree) → has_lawful_leaves e ≡ true → Own e
    expr-reads (Num n at) l room k h =
        record { tree = Num n (place k); reads = IsPrimary.number (record { terminal = Number n; at = place k }) refl; same = refl }
    expr-reads (Words bytes at) l room k h =
        record { tree = Words bytes (place k); reads = IsPrimary.text (record { terminal = Str bytes; at = place k }) refl; same = refl }
    expr-reads (Named n) l room k h =
        record {
          tree = Named (record { text = n.text; at = place k });
          reads = IsPrimary.name (record { terminal = Name n.text; at = place k }) (record { text = refl; place = refl });
          same = refl;
        }
    expr-reads (Call n arguments) l zero k h = absurd (let no : ⊥ = omega arith in no)
    expr-reads (Call n arguments) l (suc room) k h =
        let parts = both (is_lawful_name n && has_some arguments) (have_lawful_leaves arguments) l in
        let some = (both (is_lawful_name n) (has_some arguments) parts.0).1 in
        in_turn place (k + 1 + 1) (exprs arguments) (sign symbol.CloseParen ∷ [])
        (λ ls. ReadsAt 7 (suc room) (record { terminal = Name n.text; at = place k } ∷ record { terminal = Sign symbol.OpenParen; at = place (k + 1) } ∷ ls) (Call n arguments))
        (λ j. let inside = values-reads arguments parts.1 some room (k + 1 + 1) (omega arith) in
        record {
          tree = Call (record { text = n.text; at = place k }) inside.tree;
          reads = IsPrimary.call (record { terminal = Name n.text; at = place k }) (record { terminal = Sign symbol.OpenParen; at = place (k + 1) }) (record { terminal = Sign symbol.CloseParen; at = place j })
              (record { text = refl; place = refl }) refl inside.reads refl;
          same = ap (λ es. Call (bare_name n) es) inside.same;
        })
    expr-reads (Neg e at) l zero k h = absurd (let no : ⊥ = omega arith in no)
    expr-reads (Neg e at) l (suc room) k h =
        let inside = operand-reads sign_level e room (k + 1) (omega arith) (omega arith) (expr-reads e l) in
        record {
          tree = Neg inside.tree (place k);
          reads = IsUnary.minus (record { terminal = Sign symbol.Minus; at = place k }) refl inside.reads;
          same = ap (λ t. Neg t 0) inside.same;
        }
    expr-reads (Not e at) l zero k h = absurd (let no : ⊥ = omega arith in no)
    expr-reads (Not e at) l (suc room) k h =
        let inside = operand-reads not_level e room (k + 1) (omega arith) (omega arith) (expr-reads e l) in
        record {
          tree = Not inside.tree (place k);
          reads = IsNegation.not (record { terminal = Word keyword.Not; at = place k }) refl inside.reads;
          same = ap (λ t. Not t 0) inside.same;
        }
    expr-reads (Bin b left right at) l room k h =
        let parts = both (has_lawful_leaves left) (has_lawful_leaves right) l in
        in_turn place k (operand (left_level b) left (expr left)) (Space ∷ Token (op_terminal b) ∷ Space ∷ operand (right_level b) right (expr right))
        (λ ls. ReadsAt (op_level b) room ls (Bin b left right at))
        (λ j. let p = operand-reads (left_level b) left room k (left-small b) (omega arith) (expr-reads left parts.0) in
        let q = operand-reads (right_level b) right room (j + 1) (right-small b) (omega arith) (expr-reads right parts.1) in
        record {
          tree = Bin b p.tree q.tree (place j);
          reads = grouped b (Within room) _ _ p.tree q.tree (place j) p.reads q.reads;
          same = ap (λ t. Bin b t (bare_expr q.tree) 0) p.same ∙ ap (λ t. Bin b (bare_expr left) t 0) q.same;
        })

    pub values-reads : (es : ExprsTree) → have_lawful_leaves es ≡ true → has_some es ≡ true → (room k : ℕ) → exprs_depth es ≤ room →
        ReadsValues room (lexemes place k (exprs es)) es
    values-reads End l s room k h = cc
    values-reads (More first rest) l s room k h =
        let parts = both (has_lawful_leaves first) (have_lawful_leaves rest) l in
        values-step first rest room k
        (λ i. whole-reads first room i (omega arith) (expr-reads first parts.0))
        (λ i t. values-reads rest parts.1 t room i (omega arith))
