-- The pieces of statements read as those statements, places aside.
use Rattle.std.proofs.Common.{◌≡◌, ℕ, zero, suc, ◌+◌, ◌≤◌, Bool, true, false, ◌&&◌, nat_le, if◌then◌else◌, List, [], ◌∷◌, ◌++◌, refl, sym, ◌∙◌, ap, arith}
use Rattle.std.proofs.lemmas.Bool.Decides.{nat_tests}
use Rattle.sym_base.specs.Lawful.{has_lawful_leaves, have_lawful_leaves, has_some, is_lawful_name, is_lawful_expr, are_lawful_exprs, is_lawful_stmt, are_lawful_stmts}
use Rattle.sym_base.specs.Limits.{max_operands}
use Rattle.sym_base.specs.Sizes.{expr_depth, operand_count, stmt_depth, stmts_depth}
use Rattle.sym_base.specs.Trees.{ExprTree, ExprsTree, End, More, StmtTree, Let, Set, Push, Keep, KeepFrom, If, StmtsTree, Done, Then}
use Rattle.sym_lex.specs.declared.keyword.Keyword.TheVariants as keyword
use Rattle.sym_lex.specs.declared.symbol.Symbol.TheVariants as symbol
use Rattle.sym_parse.specs.Bare.{bare_name, bare_expr, bare_stmt, bare_stmts}
use Rattle.sym_parse.specs.Lexemes.{Lexeme}
use Rattle.sym_parse.specs.Limits.{most}
use Rattle.sym_parse.specs.Syntax.Expressions.{IsExprWithin, IsValues, Whole, Within}
use Rattle.sym_parse.specs.Syntax.Statements.{IsStatement, AreStatements, IsBlock, IsElse, IsIf, IsIfWithin, IsBlockWithin}
use Rattle.sym_parse.specs.Printed.{is_if, is_empty, Piece, Space, Break, Indent, sign, expr, exprs, block, stmt, else_of, stmts}
use Rattle.sym_parse.proofs.Printout.Pieces.{lexemes}
use Rattle.sym_parse.proofs.Printout.Unplaced.{all-short, are_short, few-operands}
use Rattle.sym_parse.proofs.Printout.Placing.{in_turn, key, mark, named, placed_name}
use Rattle.sym_parse.proofs.Printout.ExpressionsBack.{Like, as-whole, both, whole-reads, expr-reads, values-reads}

pub leaves-of : (e : ExprTree) → is_lawful_expr e ≡ true → has_lawful_leaves e ≡ true
leaves-of e h = (both (has_lawful_leaves e) (nat_le (operand_count e) max_operands) h).0

pub all-leaves-of : (es : ExprsTree) → are_lawful_exprs es ≡ true → have_lawful_leaves es ≡ true
all-leaves-of End h = refl
all-leaves-of (More first rest) h =
    let parts = both (is_lawful_expr first) (are_lawful_exprs rest) h in
    rw (leaves-of first parts.0) (all-leaves-of rest parts.1)

pub within : (n most : ℕ) → nat_le n most ≡ true → n ≤ most
within n most h = grind (arith, nat_tests)

few-of : (e : ExprTree) → is_lawful_expr e ≡ true → operand_count e ≤ max_operands
few-of e h = within (operand_count e) max_operands (both (has_lawful_leaves e) (nat_le (operand_count e) max_operands) h).1

short-of : (es : ExprsTree) → are_lawful_exprs es ≡ true → are_short es ≡ true
short-of End h = refl
short-of (More first rest) h =
    let parts = both (is_lawful_expr first) (are_lawful_exprs rest) h in
    let few = (both (has_lawful_leaves first) (nat_le (operand_count first) max_operands) parts.0).1 in
    rw few (short-of rest parts.1)

empty-is : (ss : StmtsTree) → is_empty ss ≡ true → ss ≡ Done
empty-is Done h = refl
empty-is (Then first rest) h = cc

if-same : (e e' : ExprTree) (then_list then_list' else_list else_list' : StmtsTree) → bare_expr e ≡ bare_expr e' → bare_stmts then_list ≡ bare_stmts then_list' → bare_stmts else_list ≡ bare_stmts else_list' →
    bare_stmt (If e then_list else_list) ≡ bare_stmt (If e' then_list' else_list')
if-same e e' then_list then_list' else_list else_list' p q r = cc

module _ (place : ℕ → ℕ) where
  abbrev ReadsStmt : ℕ → List Lexeme → StmtTree → Type 0
  ReadsStmt free = Like (IsStatement most free (IsIfWithin most free)) bare_stmt

  abbrev ReadsIf : ℕ → List Lexeme → StmtTree → Type 0
  ReadsIf free = Like (IsIfWithin most free) bare_stmt

  abbrev ReadsStmts : ℕ → List Lexeme → StmtsTree → Type 0
  ReadsStmts free = Like (AreStatements most free (IsIfWithin most free)) bare_stmts

  abbrev ReadsBlock : ℕ → List Lexeme → StmtsTree → Type 0
  ReadsBlock free = Like (IsBlockWithin most free) bare_stmts

  abbrev ReadsElse : ℕ → List Lexeme → StmtsTree → Type 0
  ReadsElse free = Like (IsElse most free (IsIfWithin most free)) bare_stmts

  -- A statement, and an `if` as such.
  record OneStmt (free : ℕ) (ls : List Lexeme) (s : StmtTree) : Type 0 where
    statement : ReadsStmt free ls s
    branch : is_if s ≡ true → ReadsIf free ls s

  an-if : (free : ℕ) (ls : List Lexeme) (s : StmtTree) → ReadsIf free ls s → OneStmt free ls s
  an-if free ls s here = record {
    statement = record { tree = here.tree; reads = IsStatement.branch here.reads; same = here.same };
    branch = λ f. here;
  }

  -- An expression of a statement.
  pub value-reads : (e : ExprTree) (free k : ℕ) → is_lawful_expr e ≡ true → expr_depth e ≤ free → Like (IsExprWithin most free) bare_expr (lexemes place k (expr e)) e
  value-reads e free k l h =
      let inside = whole-reads place e free k h (expr-reads place e (leaves-of e l)) in
      record {
        tree = inside.tree;
        reads = record {
          whole = as-whole place free (lexemes place k (expr e)) inside.tree inside.reads;
          few = few-operands inside.tree e max_operands inside.same (few-of e l);
        };
        same = inside.same;
      }

  all-within : (free : ℕ) (ls : List Lexeme) (es : ExprsTree) → IsValues (Within (suc free) Whole) ls es → are_short es ≡ true → IsValues (IsExprWithin most free) ls es
  all-within free _ _ (IsValues.one {xs} {e} p) h =
      IsValues.one (record { whole = p; few = within (operand_count e) max_operands (both (nat_le (operand_count e) max_operands) true h).0 })
  all-within free _ _ (IsValues.more {xs} {ys} {e} {rest} comma p c q) h =
      let parts = both (nat_le (operand_count e) max_operands) (are_short rest) h in
      IsValues.more comma (record { whole = p; few = within (operand_count e) max_operands parts.0 }) c (all-within free ys rest q parts.1)

  pub block-reads : (blocks free k : ℕ) (lines : List Piece) (ss : StmtsTree) → ((i : ℕ) → ReadsStmts free (lexemes place i lines) ss) →
      ReadsBlock free (lexemes place k (block blocks lines)) ss
  block-reads blocks free k lines ss own =
      in_turn place (k + 1) lines (Indent blocks ∷ sign symbol.CloseBrace ∷ [])
      (λ ls. ReadsBlock free (mark place k symbol.OpenBrace ∷ ls) ss)
      (λ j. let inside = own (k + 1) in
      record { tree = inside.tree; reads = IsBlock.block (mark place k symbol.OpenBrace) (mark place j symbol.CloseBrace) refl inside.reads refl; same = inside.same })

  lines-reads : (blocks free k : ℕ) (first : StmtTree) (rest : StmtsTree) → OneStmt free (lexemes place k (stmt blocks first)) first →
      ((i : ℕ) → ReadsStmts free (lexemes place i (stmts blocks rest)) rest) →
      ReadsStmts free (lexemes place k (stmts blocks (Then first rest))) (Then first rest)
  lines-reads blocks free k first rest one more =
      in_turn place k (stmt blocks first) (Break ∷ stmts blocks rest) (λ ls. ReadsStmts free ls (Then first rest))
      (λ j. let p = one.statement in
      let q = more j in
      record {
        tree = Then p.tree q.tree;
        reads = AreStatements.more p.reads q.reads;
        same = ap (λ s. Then s (bare_stmts q.tree)) p.same ∙ ap (λ ss. Then (bare_stmt first) ss) q.same;
      })

  else-step : (blocks free k : ℕ) (first : StmtTree) (rest : StmtsTree) →
      ((b i : ℕ) → OneStmt free (lexemes place i (stmt b first)) first) →
      ((i : ℕ) → ReadsStmts free (lexemes place i (stmts (blocks + 1) rest)) rest) →
      ReadsElse free (lexemes place k (else_of blocks (Then first rest))) (Then first rest)
  else-step blocks free k first rest one more =
      let A : List Piece = stmt blocks first in
      let B : List Piece = block blocks (stmts (blocks + 1) (Then first rest)) in
      let P : Bool → Type 0 = λ t. (t ≡ true → (is_if first ≡ true) × (is_empty rest ≡ true)) → ReadsElse free (key place k keyword.Else ∷ lexemes place (k + 1) (if t then A else B)) (Then first rest) in
      let cases : (t : Bool) → P t =
      elim [
        | true ↦ λ h. let s = (one blocks (k + 1)).branch (h refl).0 in
            record {
              tree = Then s.tree Done;
              reads = IsElse.else_if (key place k keyword.Else) refl s.reads;
              same = ap (λ t. Then t Done) s.same ∙ ap (λ r. Then (bare_stmt first) (bare_stmts r)) (sym (empty-is rest (h refl).1));
            }
        | false ↦ λ h. let inside = block-reads blocks free (k + 1) (stmts (blocks + 1) (Then first rest)) (Then first rest)
            (λ i. lines-reads (blocks + 1) free i first rest (one (blocks + 1) i) more) in
            record { tree = inside.tree; reads = IsElse.block (key place k keyword.Else) refl inside.reads; same = inside.same }
      ] in
      cases (is_if first && is_empty rest) (λ h. both (is_if first) (is_empty rest) h)

  mutual
    unfolding IsIfWithin

    stmt-reads : (s : StmtTree) → is_lawful_stmt s ≡ true → (blocks free k : ℕ) → stmt_depth s ≤ free → OneStmt free (lexemes place k (stmt blocks s)) s
    stmt-reads (Let n value) l blocks free k h =
        let parts = both (is_lawful_name n) (is_lawful_expr value) l in
        record {
          statement = in_turn place (k + 1 + 1 + 1) (expr value) (sign symbol.Semicolon ∷ [])
              (λ ls. ReadsStmt free (key place k keyword.Let ∷ named place (k + 1) n ∷ mark place (k + 1 + 1) symbol.Assign ∷ ls) (Let n value))
              (λ j. let inside = value-reads value free (k + 1 + 1 + 1) parts.1 h in
              record {
                tree = Let (placed_name place (k + 1) n) inside.tree;
                reads = IsStatement.binding (key place k keyword.Let) (named place (k + 1) n) (mark place (k + 1 + 1) symbol.Assign) (mark place j symbol.Semicolon)
                    refl (record { text = refl; place = refl }) refl inside.reads refl;
                same = ap (λ e. Let (bare_name n) e) inside.same;
              });
          branch = λ f. cc;
        }
    stmt-reads (Set n value) l blocks free k h =
        let parts = both (is_lawful_name n) (is_lawful_expr value) l in
        record {
          statement = in_turn place (k + 1 + 1) (expr value) (sign symbol.Semicolon ∷ [])
              (λ ls. ReadsStmt free (named place k n ∷ mark place (k + 1) symbol.Assign ∷ ls) (Set n value))
              (λ j. let inside = value-reads value free (k + 1 + 1) parts.1 h in
              record {
                tree = Set (placed_name place k n) inside.tree;
                reads = IsStatement.assignment (named place k n) (mark place (k + 1) symbol.Assign) (mark place j symbol.Semicolon)
                    (record { text = refl; place = refl }) refl inside.reads refl;
                same = ap (λ e. Set (bare_name n) e) inside.same;
              });
          branch = λ f. cc;
        }
    stmt-reads (Push n value) l blocks free k h =
        let parts = both (is_lawful_name n) (is_lawful_expr value) l in
        record {
          statement = in_turn place (k + 1 + 1) (expr value) (sign symbol.Semicolon ∷ [])
              (λ ls. ReadsStmt free (key place k keyword.Push ∷ named place (k + 1) n ∷ ls) (Push n value))
              (λ j. let inside = value-reads value free (k + 1 + 1) parts.1 h in
              record {
                tree = Push (placed_name place (k + 1) n) inside.tree;
                reads = IsStatement.push (key place k keyword.Push) (named place (k + 1) n) (mark place j symbol.Semicolon)
                    refl (record { text = refl; place = refl }) inside.reads refl;
                same = ap (λ e. Push (bare_name n) e) inside.same;
              });
          branch = λ f. cc;
        }
    stmt-reads (Keep n values) l blocks free k h =
        let parts = both (is_lawful_name n && has_some values) (are_lawful_exprs values) l in
        let some = (both (is_lawful_name n) (has_some values) parts.0).1 in
        record {
          statement = in_turn place (k + 1 + 1 + 1) (exprs values) (sign symbol.CloseParen ∷ sign symbol.Semicolon ∷ [])
              (λ ls. ReadsStmt free (key place k keyword.Keep ∷ named place (k + 1) n ∷ mark place (k + 1 + 1) symbol.OpenParen ∷ ls) (Keep n values))
              (λ j. let inside = values-reads place values (all-leaves-of values parts.1) some free (k + 1 + 1 + 1) h in
              record {
                tree = Keep (placed_name place (k + 1) n) inside.tree;
                reads = IsStatement.keep (key place k keyword.Keep) (named place (k + 1) n) (mark place (k + 1 + 1) symbol.OpenParen) (mark place j symbol.CloseParen) (mark place (j + 1) symbol.Semicolon)
                    refl (record { text = refl; place = refl }) refl (all-within free (lexemes place (k + 1 + 1 + 1) (exprs values)) inside.tree inside.reads (all-short inside.tree values inside.same (short-of values parts.1))) refl refl;
                same = ap (λ es. Keep (bare_name n) es) inside.same;
              });
          branch = λ f. cc;
        }
    stmt-reads (KeepFrom n source) l blocks free k h =
        record {
          statement = record {
            tree = KeepFrom (placed_name place (k + 1) n) (placed_name place (k + 1 + 1 + 1) source);
            reads = IsStatement.keep_from (key place k keyword.Keep) (named place (k + 1) n) (key place (k + 1 + 1) keyword.From) (named place (k + 1 + 1 + 1) source) (mark place (k + 1 + 1 + 1 + 1) symbol.Semicolon)
                refl (record { text = refl; place = refl }) refl (record { text = refl; place = refl }) refl;
            same = refl;
          };
          branch = λ f. cc;
        }
    stmt-reads (If condition then_list else_list) l blocks zero k h = absurd (let no : ⊥ = omega arith in no)
    stmt-reads (If condition then_list else_list) l blocks (suc free) k h =
        let parts = both (is_lawful_expr condition && are_lawful_stmts then_list) (are_lawful_stmts else_list) l in
        let front = both (is_lawful_expr condition) (are_lawful_stmts then_list) parts.0 in
        let A : List Piece = block blocks (stmts (blocks + 1) then_list) in
        an-if (suc free) (lexemes place k (stmt blocks (If condition then_list else_list))) (If condition then_list else_list)
        (in_turn place (k + 1) (expr condition) (Space ∷ (A ++ else_of blocks else_list))
        (λ ls. ReadsIf (suc free) (key place k keyword.If ∷ ls) (If condition then_list else_list))
        (λ j. in_turn place j A (else_of blocks else_list)
        (λ ls. ReadsIf (suc free) (key place k keyword.If ∷ (lexemes place (k + 1) (expr condition) ++ ls)) (If condition then_list else_list))
        (λ i. let x = value-reads condition free (k + 1) front.0 (omega arith) in
        let y = block-reads blocks free j (stmts (blocks + 1) then_list) then_list (λ m. stmts-reads then_list front.1 (blocks + 1) free m (omega arith)) in
        let z = else-reads else_list parts.1 blocks free i (omega arith) in
        record {
          tree = If x.tree y.tree z.tree;
          reads = IsIf.branch {e = x.tree} {then = y.tree} {otherwise = z.tree} (key place k keyword.If) refl x.reads y.reads z.reads;
          same = if-same x.tree condition y.tree then_list z.tree else_list x.same y.same z.same;
        })))

    else-reads : (ss : StmtsTree) → are_lawful_stmts ss ≡ true → (blocks free k : ℕ) → stmts_depth ss ≤ free → ReadsElse free (lexemes place k (else_of blocks ss)) ss
    else-reads Done l blocks free k h = record { tree = Done; reads = IsElse.none; same = refl }
    else-reads (Then first rest) l blocks free k h =
        let parts = both (is_lawful_stmt first) (are_lawful_stmts rest) l in
        else-step blocks free k first rest
        (λ b i. stmt-reads first parts.0 b free i (omega arith))
        (λ i. stmts-reads rest parts.1 (blocks + 1) free i (omega arith))

    pub stmts-reads : (ss : StmtsTree) → are_lawful_stmts ss ≡ true → (blocks free k : ℕ) → stmts_depth ss ≤ free → ReadsStmts free (lexemes place k (stmts blocks ss)) ss
    stmts-reads Done l blocks free k h = record { tree = Done; reads = AreStatements.none; same = refl }
    stmts-reads (Then first rest) l blocks free k h =
        let parts = both (is_lawful_stmt first) (are_lawful_stmts rest) l in
        lines-reads blocks free k first rest (stmt-reads first parts.0 blocks free k (omega arith))
        (λ i. stmts-reads rest parts.1 blocks free i (omega arith))
