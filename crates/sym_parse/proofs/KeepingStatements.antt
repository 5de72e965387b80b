-- Statements are read the same up to a token, whatever follows it, and up to where a limit is passed.
use Rattle.std.proofs.Common.{◌≡◌, ℕ, zero, suc, ◌<◌, true, List, ◌++◌, length, length-append, Ok, refl, ap, subst, arith}
use Rattle.sym_base.specs.declared.tree.name.Name.{Name}
use Rattle.sym_base.specs.Trees.{StmtTree, StmtsTree, Let, Set, Push, Keep, KeepFrom, If, Done, Then}
use Rattle.sym_lex.specs.declared.keyword.Keyword.TheVariants as keyword
use Rattle.sym_lex.specs.declared.symbol.Symbol.TheVariants as symbol
use Rattle.sym_parse.specs.declared.error.LimitKind.{LimitKind}
use Rattle.sym_parse.specs.declared.error.LimitKind.TheVariants as limit
use Rattle.sym_parse.specs.Lexemes.{Lexeme}
use Rattle.sym_parse.specs.Steps.{Input, Parser, and_then, ◌>>=◌, pure, name}
use Rattle.sym_parse.specs.Parsing.Expressions.{expression}
use Rattle.sym_parse.specs.Parsing.Statements.{begins_statement, binding, assignment, push, kept_values, kept_cell, keep, simple, statement, statements_from, statements, block, otherwise, else_part, branches, if_statement, update}
use Rattle.sym_parse.proofs.Keeping.{AtMost, at-most-self, at-most-before, Small, Along, Agrees, Keeps, Even, level, then-agrees, then-keeps, then-small, choose-small, choose-keeps, pure-small, pure-keeps, refuse-small, refuse-keeps, sees-word-even, sees-sign-even, sees-name-even, bump-keeps, word-keeps, sign-keeps, name-keeps, opened-keeps, one-statement-keeps, from-statements-keeps}
use Rattle.sym_parse.proofs.KeepingExpressions.{if-agrees-where, values-keeps, expression-keeps}
use Rattle.sym_parse.specs.Syntax.Statements as syntax
use Rattle.sym_parse.specs.Syntax.Statements.{IsStatement, IsIf, IsIfWithin}
use Rattle.sym_parse.proofs.Recognizing.{Numbers, Took, Says, Statements}
use Rattle.sym_parse.proofs.RecognizingStatements.{Statement, one-says, if-says}

-- A statement takes a token.
if-some : (most : LimitKind → ℕ) (room : ℕ) (ls : List Lexeme) (x : StmtTree) → IsIfWithin most room ls x → 0 < length ls
unfolding IsIfWithin
if-some most zero ls x is = absurd is
if-some most (suc room) _ _ (syntax.branch w a b c d) = omega arith

statement-some : (most : LimitKind → ℕ) (room : ℕ) (ls : List Lexeme) (x : StmtTree) → IsStatement most room (IsIfWithin most room) ls x → 0 < length ls
statement-some most room _ _ (syntax.binding w l equals end a b c d e) = omega arith
statement-some most room _ _ (syntax.assignment l equals end a b c d) = omega arith
statement-some most room _ _ (syntax.push w l end a b c d) = omega arith
statement-some most room _ _ (syntax.keep w l begin close end a b c d e f) = omega arith
statement-some most room _ _ (syntax.keep_from w l from m end a b c d e) = omega arith
statement-some most room ls x (syntax.branch is) = if-some most room ls x is

statement-takes : (most : LimitKind → ℕ) (room : ℕ) (i j : Input) (x : StmtTree) → begins_statement i ≡ true → statement most room (if_statement most room) i ≡ Ok (x, j) → length j.rest < length i.rest
statement-takes most room i j x h e =
    let m : Numbers = record { most = most; room = room } in
    let n : Numbers = record { most = λ k. suc (most k); room = room } in
    let if-line = if-says most room in
    let t : Took Statements m (Statement m (if_statement most room) (λ n. IsIfWithin n.most n.room) if-line) i x j =
    subst (λ o. Says Statements m 0 (Statement m (if_statement most room) (λ n. IsIfWithin n.most n.room) if-line) i o) e ((one-says m (if_statement most room) (λ n. IsIfWithin n.most n.room) if-line).says i h) in
    let some = statement-some n.most room t.taken x (t.means n (record { wide = λ k. omega arith; deep = omega arith; one = λ k. omega arith })).0 in
    let all : length i.rest ≡ length (t.taken ++ j.rest) = ap length t.splits in
    omega (arith, some, all, length-append t.taken j.rest)

begins-statement-even : Even begins_statement
unfolding begins_statement
begins-statement-even us vs floor i j a =
    rw (sees-name-even us vs floor i j a, sees-word-even keyword.Let us vs floor i j a, sees-word-even keyword.Push us vs floor i j a, sees-word-even keyword.Keep us vs floor i j a, sees-word-even keyword.If us vs floor i j a) refl

module _ {K : LimitKind → Type 0} where
  kept-cell-keeps : (n : Name) → Keeps K (kept_cell n) (kept_cell n)
  unfolding kept_cell
  kept-cell-keeps n = then-keeps (word-keeps keyword.From) (λ u. then-keeps name-keeps (λ source. then-keeps (sign-keeps symbol.Semicolon) (λ v. pure-keeps (KeepFrom n source))))

module _ {K : LimitKind → Type 0} (m n : LimitKind → ℕ) (wider : (k : LimitKind) → AtMost (K k) (m k) (n k)) (r s : ℕ) (rooms : AtMost (K limit.Depth) r s) (here other : Parser StmtTree) (deep : Keeps K here other) where
  value-keeps : Keeps K (expression m r) (expression n s)
  value-keeps = expression-keeps m n wider r s rooms

  binding-keeps : Keeps K (binding m r here) (binding n s other)
  unfolding binding
  binding-keeps = then-keeps (word-keeps keyword.Let) (λ u. then-keeps name-keeps (λ name. then-keeps (sign-keeps symbol.Assign) (λ v.
      then-keeps value-keeps (λ e. then-keeps (sign-keeps symbol.Semicolon) (λ w. pure-keeps (Let name e))))))

  assignment-keeps : Keeps K (assignment m r here) (assignment n s other)
  unfolding assignment
  assignment-keeps = then-keeps name-keeps (λ name. then-keeps (sign-keeps symbol.Assign) (λ v.
      then-keeps value-keeps (λ e. then-keeps (sign-keeps symbol.Semicolon) (λ w. pure-keeps (Set name e)))))

  push-keeps : Keeps K (push m r here) (push n s other)
  unfolding push
  push-keeps = then-keeps (word-keeps keyword.Push) (λ u. then-keeps name-keeps (λ name.
      then-keeps value-keeps (λ e. then-keeps (sign-keeps symbol.Semicolon) (λ w. pure-keeps (Push name e)))))

  kept-values-keeps : (name : Name) → Keeps K (kept_values m r here name) (kept_values n s other name)
  unfolding kept_values
  kept-values-keeps name = then-keeps (sign-keeps symbol.OpenParen) (λ u. then-keeps (values-keeps (expression m r) (expression n s) value-keeps) (λ es.
      then-keeps (sign-keeps symbol.CloseParen) (λ v. then-keeps (sign-keeps symbol.Semicolon) (λ w. pure-keeps (Keep name es)))))

  keep-keeps : Keeps K (keep m r here) (keep n s other)
  unfolding keep
  keep-keeps = then-keeps (word-keeps keyword.Keep) (λ u. then-keeps name-keeps (λ name. choose-keeps (sees-sign-even symbol.OpenParen) (kept-values-keeps name) (kept-cell-keeps name)))

  simple-keeps : Keeps K (simple m r here) (simple n s other)
  unfolding simple
  simple-keeps = choose-keeps (sees-word-even keyword.Let) binding-keeps (choose-keeps (sees-word-even keyword.Push) push-keeps (choose-keeps (sees-word-even keyword.Keep) keep-keeps assignment-keeps))

  statement-keeps : Keeps K (statement m r here) (statement n s other)
  unfolding statement
  statement-keeps = choose-keeps (sees-word-even keyword.If) deep (then-keeps (one-statement-keeps (m limit.Statements) (n limit.Statements) (wider limit.Statements)) (λ u. simple-keeps))

-- Statements never go back.
module _ (most : LimitKind → ℕ) (room : ℕ) (here : Parser StmtTree) (small : Small (statement most room here)) where
  statements-from-small : (n : ℕ) → Small (statements_from most room here n)
  unfolding statements_from
  statements-from-small zero = pure-small Done
  statements-from-small (suc n) = choose-small begins_statement (then-small small (λ first. then-small (statements-from-small n) (λ rest. pure-small (Then first rest)))) (pure-small Done)

module _ {K : LimitKind → Type 0} (m n : LimitKind → ℕ) (wider : (k : LimitKind) → AtMost (K k) (m k) (n k)) (r s : ℕ) (rooms : AtMost (K limit.Depth) r s) (here other : Parser StmtTree) (deep : Keeps K here other)
    (takes : (i j : Input) (x : StmtTree) → begins_statement i ≡ true → statement m r here i ≡ Ok (x, j) → length j.rest < length i.rest) where
  each : Keeps K (statement m r here) (statement n s other)
  each = statement-keeps m n wider r s rooms here other deep

  statements-from-agrees : (a b : ℕ) (us vs : List Lexeme) (floor : ℕ) (i j : Input) → Along us vs floor i j → length i.rest < a → length j.rest < b →
      Agrees K us vs floor (statements_from m r here a i) (statements_from n s other b j)
  unfolding statements_from
  statements-from-agrees zero b us vs floor i j c h k = absurd (omega (arith, h))
  statements-from-agrees (suc a) zero us vs floor i j c h k = absurd (omega (arith, k))
  statements-from-agrees (suc a) (suc b) us vs floor i j c h k =
      let f : StmtTree → Parser StmtsTree = λ first. statements_from m r here a >>= (λ rest. pure (Then first rest)) in
      let g : StmtTree → Parser StmtsTree = λ first. statements_from n s other b >>= (λ rest. pure (Then first rest)) in
      let low : (x : StmtTree) → Small (f x) = λ x. then-small (statements-from-small m r here each.low a) (λ rest. pure-small (Then x rest)) in
      let high : (x : StmtTree) → Small (g x) = λ x. then-small (statements-from-small n s other each.high b) (λ rest. pure-small (Then x rest)) in
      if-agrees-where K us vs floor (begins_statement i) (begins_statement j) (and_then (statement m r here i) f) (Ok (Done, i)) (and_then (statement n s other j) g) (Ok (Done, j)) (begins-statement-even us vs floor i j c)
      (λ seen. then-agrees K us vs floor f g low high (statement m r here i) (statement n s other j) (each.agrees us vs floor i j c)
      (λ x y z t d.
      let fewer = takes i y x seen t in
      let inner = statements-from-agrees a b us vs floor y z d (omega (arith, fewer, h)) (omega (arith, fewer, h, k, level us vs floor i j c, level us vs floor y z d)) in
      then-agrees K us vs floor (λ rest. pure (Then x rest)) (λ rest. pure (Then x rest)) (λ rest. pure-small (Then x rest)) (λ rest. pure-small (Then x rest))
      (statements_from m r here a y) (statements_from n s other b z) inner
      (λ rest u v w e. (pure-keeps {K = K} (Then x rest)).agrees us vs floor u v e)))
      (λ above. record { input = j; reads = refl; along = c })

  statements-keeps : Keeps K (statements m r here) (statements n s other)
  unfolding statements
  statements-keeps = record {
    low = record { goes = λ i. (statements-from-small m r here each.low (suc (length i.rest))).goes i };
    high = record { goes = λ i. (statements-from-small n s other each.high (suc (length i.rest))).goes i };
    agrees = λ us vs floor i j a. statements-from-agrees (suc (length i.rest)) (suc (length j.rest)) us vs floor i j a (omega arith) (omega arith);
  }

  pub block-keeps : Keeps K (block m r here) (block n s other)
  unfolding block
  block-keeps = then-keeps (sign-keeps symbol.OpenBrace) (λ u. then-keeps statements-keeps (λ ss. then-keeps (sign-keeps symbol.CloseBrace) (λ v. pure-keeps ss)))

  otherwise-keeps : Keeps K (otherwise m r here) (otherwise n s other)
  unfolding otherwise
  otherwise-keeps = choose-keeps (sees-word-even keyword.If) (then-keeps deep (λ x. pure-keeps (Then x Done))) block-keeps

  else-keeps : Keeps K (else_part m r here) (else_part n s other)
  unfolding else_part
  else-keeps = choose-keeps (sees-word-even keyword.Else) (then-keeps bump-keeps (λ u. otherwise-keeps)) (pure-keeps Done)

  branches-keeps : Keeps K (branches m r here) (branches n s other)
  unfolding branches
  branches-keeps = then-keeps (expression-keeps m n wider r s rooms) (λ e. then-keeps block-keeps (λ body. then-keeps else-keeps (λ rest. pure-keeps (If e body rest))))

module _ {K : LimitKind → Type 0} where
  -- An `if` with one set of numbers.
  if-self : (n : LimitKind → ℕ) (s : ℕ) → Keeps K (if_statement n s) (if_statement n s)
  unfolding if_statement
  if-self n zero = then-keeps (one-statement-keeps (n limit.Statements) (n limit.Statements) (at-most-self (n limit.Statements))) (λ u. opened-keeps zero zero (at-most-self 0) (λ some. refuse-keeps) (refuse-small {A = StmtTree}))
  if-self n (suc s) =
      let inner : Keeps K (branches n s (if_statement n s)) (branches n s (if_statement n s)) =
      branches-keeps n n (λ k. at-most-self (n k)) s s (at-most-self s) (if_statement n s) (if_statement n s) (if-self n s) (statement-takes n s) in
      then-keeps (one-statement-keeps (n limit.Statements) (n limit.Statements) (at-most-self (n limit.Statements))) (λ u. opened-keeps (suc s) (suc s) (at-most-self (suc s)) (λ some. inner) inner.high)

module _ {K : LimitKind → Type 0} (m n : LimitKind → ℕ) (wider : (k : LimitKind) → AtMost (K k) (m k) (n k)) where
  if-keeps : (r s : ℕ) → AtMost (K limit.Depth) r s → Keeps K (if_statement m r) (if_statement n s)
  unfolding if_statement
  if-keeps zero zero h = then-keeps (one-statement-keeps (m limit.Statements) (n limit.Statements) (wider limit.Statements)) (λ u. opened-keeps zero zero h (λ some. refuse-keeps) (refuse-small {A = StmtTree}))
  if-keeps zero (suc s) h =
      let inner : Keeps K (branches n s (if_statement n s)) (branches n s (if_statement n s)) =
      branches-keeps n n (λ k. at-most-self (n k)) s s (at-most-self s) (if_statement n s) (if_statement n s) (if-self n s) (statement-takes n s) in
      then-keeps (one-statement-keeps (m limit.Statements) (n limit.Statements) (wider limit.Statements)) (λ u. opened-keeps zero (suc s) h (λ some. absurd (omega (arith, some))) inner.high)
  if-keeps (suc r) zero h = absurd (omega (arith, h.less))
  if-keeps (suc r) (suc s) h =
      let inner : Keeps K (branches m r (if_statement m r)) (branches n s (if_statement n s)) =
      branches-keeps m n wider r s (at-most-before r s h) (if_statement m r) (if_statement n s) (if-keeps r s (at-most-before r s h)) (statement-takes m r) in
      then-keeps (one-statement-keeps (m limit.Statements) (n limit.Statements) (wider limit.Statements)) (λ u. opened-keeps (suc r) (suc s) h (λ some. inner) inner.high)

  pub update-keeps : Keeps K (update m) (update n)
  unfolding update
  update-keeps = then-keeps (word-keeps keyword.Update) (λ u. from-statements-keeps
      (block-keeps m n wider (m limit.Depth) (n limit.Depth) (wider limit.Depth) (if_statement m (m limit.Depth)) (if_statement n (n limit.Depth)) (if-keeps (m limit.Depth) (n limit.Depth) (wider limit.Depth)) (statement-takes m (m limit.Depth))))
