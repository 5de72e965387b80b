-- Statements are read where they stand.
use Rattle.std.proofs.Common.{◌≡◌, ℕ, zero, suc, ◌+◌, ◌<◌, ◌≤◌, true, false, ◌||◌, List, ◌∷◌, ◌++◌, length, Some, refl, sym, subst, arith, length-append}
use Rattle.sym_base.specs.Trees.{ExprTree, ExprsTree, StmtTree, StmtsTree, If}
use Rattle.sym_base.specs.Sizes.{stmt_count, stmts_count}
use Rattle.sym_lex.specs.declared.keyword.Keyword.TheVariants as keyword
use Rattle.sym_lex.specs.declared.symbol.Symbol.TheVariants as symbol
use Rattle.sym_parse.specs.declared.error.LimitKind.{LimitKind}
use Rattle.sym_parse.specs.declared.error.LimitKind.TheVariants as limit
use Rattle.sym_parse.specs.Lexemes.{Terminal, Lexeme, IsKeyword}
use Rattle.sym_parse.specs.Steps.{Parser, next_of, word_of, name_of, is_there, is_this_word, sees_word, sees_sign, next, sees_name}
use Rattle.sym_parse.specs.Syntax.Expressions.{IsExprWithin, IsValues}
use Rattle.sym_parse.specs.Syntax.Statements as syntax
use Rattle.sym_parse.specs.Syntax.Statements.{IsStatement, AreStatements, IsBlock, IsElse, IsIfWithin}
use Rattle.sym_parse.specs.Syntax.Scripts.{IsUpdate}
use Rattle.sym_parse.specs.Syntax.Scripts as scripts
use Rattle.sym_parse.specs.Parsing.Expressions.{expression, values}
use Rattle.sym_parse.specs.Parsing.Statements.{begins_statement, binding, assignment, push, kept_values, kept_cell, keep, simple, statement, statements_from, statements, block, otherwise, else_part, branches, if_statement, update}
use Rattle.sym_parse.proofs.Recognizing.{Statements}
use Rattle.sym_parse.proofs.Reading.{Reads, Finds, word-is, sign-is, finds-front, pure-reads, then-reads, last-reads, yes-reads, no-reads, turns-reads, to-count, word-then, sign-then, name-then, bump-then, opening-then, statement-then}
use Rattle.sym_parse.proofs.ExpressionsComplete.{tight, loose, values-read, expression-reads}

-- No `else` stands next.
abbrev pub NoElse : List Lexeme → Type 0
NoElse ls = Finds (sees_word keyword.Else) ls false

-- An `if` statement begins with its word.
abbrev pub StartsIf : List Lexeme → Type 0
StartsIf ls = (l : Lexeme) × (xs : List Lexeme) × (ls ≡ l ∷ xs) × IsKeyword keyword.If l

module _ (most : LimitKind → ℕ) (room : ℕ) (if_here : Parser StmtTree) (IsIfHere : List Lexeme → StmtTree → Type 0)
    (inner : (ls rest : List Lexeme) (k : ℕ) (s : StmtTree) → IsIfHere ls s → NoElse rest → k + stmt_count s ≤ most limit.Statements → Reads Statements if_here ls rest k (k + stmt_count s) s)
    (starts : (ls : List Lexeme) (s : StmtTree) → IsIfHere ls s → StartsIf ls) where
  expression-here : (ls rest : List Lexeme) (k : ℕ) (e : ExprTree) → IsExprWithin most room ls e → tight (next_of rest) < 1 → Reads Statements (expression most room) ls rest k k e
  expression-here = expression-reads most room

  kept-reads : (ls rest : List Lexeme) (k : ℕ) (es : ExprsTree) → IsValues (IsExprWithin most room) ls es → tight (next_of rest) < 1 → Finds (sees_sign symbol.Comma) rest false → k ≤ most limit.Statements →
      Reads Statements (values (expression most room)) ls rest k k es
  kept-reads ls rest k es v t no-comma few =
      to-count (values-read Statements most (IsExprWithin most room) (expression most room) (λ xs more n e p loose-here m. to-count (expression-here xs more n e p loose-here) (omega arith)) ls rest k es v t no-comma (omega (arith, few))) (omega arith)

  if-finds : (ls rest : List Lexeme) (s : StmtTree) → IsIfHere ls s → Finds (sees_word keyword.If) (ls ++ rest) true
  if-finds ls rest s p = let f = starts ls s p in subst (λ (m : List Lexeme). Finds (sees_word keyword.If) (m ++ rest) true) (sym f.2) (word-is f.3 _ refl)

  statement-reads : (ls rest : List Lexeme) (k : ℕ) (s : StmtTree) → IsStatement most room IsIfHere ls s → NoElse rest → k + stmt_count s ≤ most limit.Statements → Reads Statements (statement most room if_here) ls rest k (k + stmt_count s) s
  unfolding statement simple binding assignment push keep kept_values kept_cell
  statement-reads _ rest k _ (syntax.binding w l equals end a b c d z) o few =
      no-reads _ (word-is a _ refl) (statement-then (omega (arith, few)) (yes-reads _ (word-is a _ refl) (word-then a (name-then _ b (sign-then c (then-reads _ (expression-here _ _ (k + 1) _ d (loose end z refl)) (sign-then z pure-reads)))))))
  statement-reads _ rest k _ (syntax.assignment l equals end b c d z) o few =
      no-reads _ (word-is b.text _ refl) (statement-then (omega (arith, few)) (no-reads _ (word-is b.text _ refl) (no-reads _ (word-is b.text _ refl) (no-reads _ (word-is b.text _ refl)
      (name-then _ b (sign-then c (then-reads _ (expression-here _ _ (k + 1) _ d (loose end z refl)) (sign-then z pure-reads))))))))
  statement-reads _ rest k _ (syntax.push w l end a b d z) o few =
      no-reads _ (word-is a _ refl) (statement-then (omega (arith, few)) (no-reads _ (word-is a _ refl) (yes-reads _ (word-is a _ refl)
      (word-then a (name-then _ b (then-reads _ (expression-here _ _ (k + 1) _ d (loose end z refl)) (sign-then z pure-reads)))))))
  statement-reads _ rest k _ (syntax.keep w l begin close end a b c v d z) o few =
      no-reads _ (word-is a _ refl) (statement-then (omega (arith, few)) (no-reads _ (word-is a _ refl) (no-reads _ (word-is a _ refl) (yes-reads _ (word-is a _ refl) (word-then a (name-then _ b (yes-reads _ (sign-is c symbol.OpenParen refl)
      (sign-then c (then-reads _ (kept-reads _ _ (k + 1) _ v (loose close d refl) (sign-is d symbol.Comma refl) (omega (arith, few))) (sign-then d (sign-then z pure-reads)))))))))))
  statement-reads _ rest k _ (syntax.keep_from w l from m end a b c d z) o few =
      no-reads _ (word-is a _ refl) (statement-then (omega (arith, few)) (no-reads _ (word-is a _ refl) (no-reads _ (word-is a _ refl) (yes-reads _ (word-is a _ refl) (word-then a (name-then _ b (no-reads _ (sign-is c symbol.OpenParen refl)
      (word-then c (name-then _ d (sign-then z pure-reads))))))))))
  statement-reads ls rest k s (syntax.branch p) o few = yes-reads _ (if-finds ls rest s p) (inner ls rest k s p o few)

  -- A statement begins as one, and with no `else`.
  record First (ls : List Lexeme) : Type 0 where
    some : 0 < length ls
    no_else : (rest : List Lexeme) → NoElse (ls ++ rest)
    begins : (rest : List Lexeme) → Finds begins_statement (ls ++ rest) true

  begins-as : {l : Lexeme} {ls : List Lexeme} {t : Terminal} → l.terminal ≡ t → Finds begins_statement (l ∷ ls)
      (is_there (name_of (Some t)) || (is_this_word keyword.Let (word_of (Some t)) || (is_this_word keyword.Push (word_of (Some t)) || (is_this_word keyword.Keep (word_of (Some t)) || is_this_word keyword.If (word_of (Some t))))))
  unfolding begins_statement sees_name sees_word next
  begins-as e = record { finds = λ st op. rw e refl }

  first-of : (ls : List Lexeme) (s : StmtTree) → IsStatement most room IsIfHere ls s → First ls
  first-of _ _ (syntax.binding w l equals end a b c d z) = record { some = omega arith; no_else = λ rest. word-is a _ refl; begins = λ rest. begins-as a }
  first-of _ _ (syntax.assignment l equals end b c d z) = record { some = omega arith; no_else = λ rest. word-is b.text _ refl; begins = λ rest. begins-as b.text }
  first-of _ _ (syntax.push w l end a b d z) = record { some = omega arith; no_else = λ rest. word-is a _ refl; begins = λ rest. begins-as a }
  first-of _ _ (syntax.keep w l begin close end a b c v d z) = record { some = omega arith; no_else = λ rest. word-is a _ refl; begins = λ rest. begins-as a }
  first-of _ _ (syntax.keep_from w l from m end a b c d z) = record { some = omega arith; no_else = λ rest. word-is a _ refl; begins = λ rest. begins-as a }
  first-of ls s (syntax.branch p) =
      let f = starts ls s p in
      subst First (sym f.2) (record { some = omega arith; no_else = λ rest. word-is f.3 _ refl; begins = λ rest. begins-as f.3 })

  statements-no-else : (ls rest : List Lexeme) (ss : StmtsTree) → AreStatements most room IsIfHere ls ss → NoElse rest → NoElse (ls ++ rest)
  statements-no-else _ rest _ syntax.none o = o
  statements-no-else _ rest _ (syntax.more {xs} {ys} {s} p q) o = finds-front xs ys rest ((first-of xs s p).no_else (ys ++ rest))

  statements-from-read : (turns : ℕ) (ls rest : List Lexeme) (k : ℕ) (ss : StmtsTree) → AreStatements most room IsIfHere ls ss → NoElse rest → Finds begins_statement rest false → k + stmts_count ss ≤ most limit.Statements → length (ls ++ rest) < turns →
      Reads Statements (statements_from most room if_here turns) ls rest k (k + stmts_count ss) ss
  unfolding statements_from
  statements-from-read zero ls rest k ss p o b few enough = absurd (omega (arith, enough))
  statements-from-read (suc turns) _ rest k _ syntax.none o b few enough = to-count (no-reads _ b pure-reads) (omega arith)
  statements-from-read (suc turns) _ rest k _ (syntax.more {xs} {ys} {s} {rest = ss} p q) o b few enough =
      let f = first-of xs s p in
      let shorter : length (ys ++ rest) < turns = omega (arith, enough, f.some, length-append (xs ++ ys) rest, length-append xs ys, length-append ys rest) in
      to-count (yes-reads _ (finds-front xs ys rest (f.begins (ys ++ rest))) (then-reads _ (statement-reads xs (ys ++ rest) k s p (statements-no-else ys rest ss q o) (omega (arith, few)))
      (last-reads _ (statements-from-read turns ys rest (k + stmt_count s) ss q o b (omega (arith, few)) shorter) pure-reads))) (omega arith)

  pub block-reads : (ls rest : List Lexeme) (k : ℕ) (ss : StmtsTree) → IsBlock most room IsIfHere ls ss → k + stmts_count ss ≤ most limit.Statements → Reads Statements (block most room if_here) ls rest k (k + stmts_count ss) ss
  unfolding block statements
  block-reads _ rest k _ (syntax.block {xs} {ss} begin end a p z) few =
      sign-then a (then-reads _ (turns-reads (statements_from most room if_here) (statements-from-read (suc (length (xs ++ end ∷ rest))) xs (end ∷ rest) k ss p (word-is z _ refl) (begins-as z) few (omega arith))) (sign-then z pure-reads))

  block-loose : (ls more rest : List Lexeme) (ss : StmtsTree) → IsBlock most room IsIfHere ls ss → tight (next_of ((ls ++ more) ++ rest)) < 1
  block-loose _ more rest _ (syntax.block begin end a p z) = loose begin a refl

  block-no-if : (ls rest : List Lexeme) (ss : StmtsTree) → IsBlock most room IsIfHere ls ss → Finds (sees_word keyword.If) (ls ++ rest) false
  block-no-if _ rest _ (syntax.block begin end a p z) = word-is a _ refl

  else-reads : (ls rest : List Lexeme) (k : ℕ) (ss : StmtsTree) → IsElse most room IsIfHere ls ss → NoElse rest → k + stmts_count ss ≤ most limit.Statements → Reads Statements (else_part most room if_here) ls rest k (k + stmts_count ss) ss
  unfolding else_part otherwise
  else-reads _ rest k _ syntax.none o few = to-count (no-reads _ o pure-reads) (omega arith)
  else-reads _ rest k ss (syntax.block {xs} w is p) o few = yes-reads _ (word-is is _ refl) (bump-then {q = otherwise most room if_here} (no-reads _ (block-no-if xs rest ss p) (block-reads xs rest k ss p few)))
  else-reads _ rest k _ (syntax.else_if {xs} {s} w is p) o few =
      to-count (yes-reads _ (word-is is _ refl) (bump-then {q = otherwise most room if_here} (yes-reads _ (if-finds xs rest s p) (last-reads _ (inner xs rest k s p o (omega (arith, few))) pure-reads)))) (omega arith)

  -- After the `if`, which was counted.
  branches-read : (xs ys zs rest : List Lexeme) (k : ℕ) (e : ExprTree) (a b : StmtsTree) → IsExprWithin most room xs e → IsBlock most room IsIfHere ys a → IsElse most room IsIfHere zs b → NoElse rest → k + stmts_count a + stmts_count b ≤ most limit.Statements →
      Reads Statements (branches most room if_here) (xs ++ (ys ++ zs)) rest k (k + stmts_count a + stmts_count b) (If e a b)
  unfolding branches
  branches-read xs ys zs rest k e a b p q r o few =
      then-reads _ (expression-here xs ((ys ++ zs) ++ rest) k e p (block-loose ys zs rest a q)) (then-reads _ (block-reads ys (zs ++ rest) k a q (omega (arith, few))) (last-reads _ (else-reads zs rest (k + stmts_count a) b r o few) pure-reads))

module _ (most : LimitKind → ℕ) where
  if-starts : (room : ℕ) (ls : List Lexeme) (s : StmtTree) → IsIfWithin most room ls s → StartsIf ls
  unfolding IsIfWithin
  if-starts zero ls s p = absurd p
  if-starts (suc room) _ _ (syntax.branch {xs} {ys} {zs} w is p q r) = (w, xs ++ (ys ++ zs), refl, is)

  if-reads : (room : ℕ) (ls rest : List Lexeme) (k : ℕ) (s : StmtTree) → IsIfWithin most room ls s → NoElse rest → k + stmt_count s ≤ most limit.Statements → Reads Statements (if_statement most room) ls rest k (k + stmt_count s) s
  unfolding if_statement IsIfWithin
  if-reads zero ls rest k s p o few = absurd p
  if-reads (suc room) _ rest k _ (syntax.branch {xs} {ys} {zs} {e} {then = a} {otherwise = b} w is p q r) o few =
      to-count (statement-then (omega (arith, few)) (opening-then (omega arith) (branches-read most room (if_statement most room) (IsIfWithin most room) (if-reads room) (if-starts room) xs ys zs rest (k + 1) e a b p q r o (omega (arith, few))))) (omega arith)

  pub update-reads : (ls rest : List Lexeme) (k : ℕ) (ss : StmtsTree) → IsUpdate most ls ss → Reads Statements (update most) ls rest k (stmts_count ss) ss
  unfolding update
  update-reads _ rest k _ (scripts.update {xs} {ss} w is p few) =
      let depth = most limit.Depth in
      let inside : Reads Statements (block most depth (if_statement most depth)) xs rest 0 (stmts_count ss) ss =
      to-count (block-reads most depth (if_statement most depth) (IsIfWithin most depth) (if-reads depth) (if-starts depth) xs rest 0 ss p (omega (arith, few))) (omega arith) in
      word-then is (record { reads = λ other. inside.reads other })
