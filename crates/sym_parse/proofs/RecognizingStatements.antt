-- What is read as statements is that, and the tokens before the place where reading them stops begin
-- some. They are counted.
use Rattle.std.proofs.Common.{◌≡◌, ℕ, zero, suc, ◌+◌, ◌-◌, ◌<◌, ◌≤◌, Bool, true, false, ◌||◌, List, [], ◌∷◌, ◌++◌, Ok, Err, refl, subst, arith}
use Rattle.sym_base.specs.declared.tree.name.Name.{Name as NameRecord}
use Rattle.sym_base.specs.Trees.{StmtTree, StmtsTree, If, Done, Then}
use Rattle.sym_base.specs.Sizes.{stmt_count, stmts_count}
use Rattle.sym_lex.specs.declared.keyword.Keyword.TheVariants as keyword
use Rattle.sym_lex.specs.declared.symbol.Symbol.TheVariants as symbol
use Rattle.sym_parse.specs.declared.error.LimitKind.{LimitKind}
use Rattle.sym_parse.specs.declared.error.LimitKind.TheVariants as limit
use Rattle.sym_parse.specs.declared.stop.Stop.TheVariants as stop
use Rattle.sym_parse.specs.Beginnings as begins
use Rattle.sym_parse.specs.Beginnings.{Begins}
use Rattle.sym_parse.specs.Lexemes.{Lexeme, Name, Word, Sign, IsKeyword, IsName}
use Rattle.sym_parse.specs.Steps.{Input, Parsed, Parser, next, passed, sees_word, sees_sign, sees_name, sign, name}
use Rattle.sym_parse.specs.Syntax.Expressions.{IsExprWithin}
use Rattle.sym_parse.specs.Syntax.Statements as syntax
use Rattle.sym_parse.specs.Syntax.Statements.{IsStatement, AreStatements, IsBlock, IsElse, IsIf, IsIfWithin, IsBlockWithin}
use Rattle.sym_parse.specs.Syntax.Scripts as scripts
use Rattle.sym_parse.specs.Syntax.Scripts.{IsUpdate}
use Rattle.sym_parse.specs.Parsing.Expressions.{expression}
use Rattle.sym_parse.specs.Parsing.Statements.{begins_statement, binding, assignment, push, kept_values, kept_cell, keep, simple, statement, statements_from, statements, block, otherwise, else_part, branches, if_statement, update}
use Rattle.sym_parse.proofs.Taking.{sees-one, sees-a-name, word-seen, word-token, sign-token, name-token}
use Rattle.sym_parse.proofs.Wanting.{raised, comma, begins-as}
use Rattle.sym_parse.proofs.Recognizing.{Numbers, Fits, none, Meaning, Statements, Nothing, Says, Speaks, Exists, Any, Recognizes, Starts, starts-alone, says-as, as-line, by-numbers, exists-sized, stops-sized, then-says, then-line, last-says, last-line, token-line, opened-says, pure-line, either-says, choose-says, choose-line, seen-line, turns-line, statement-says}
use Rattle.sym_parse.proofs.Reading.{at, word-is, word-goes, name-goes}
use Rattle.sym_parse.proofs.RecognizingExpressions.{expression-line, values-line, inside, fresh, from_fresh}

module _ (m : Numbers) (if_here : Parser StmtTree) (IsIfHere : Numbers → List Lexeme → StmtTree → Type 0)
    (inner : Speaks Statements m 0 (λ i. sees_word keyword.If i ≡ true) if_here (λ n ls c s. IsIfHere n ls s × (c ≡ stmt_count s))) where
  abbrev pub Statement : Meaning StmtTree
  Statement n ls c s = IsStatement n.most n.room (IsIfHere n) ls s × (c ≡ stmt_count s)

  -- A statement that was counted already.
  abbrev Simple : Meaning StmtTree
  Simple n ls c s = Statement n ls (suc c) s

  binding-line : Recognizes Statements m 0 Any (binding m.most m.room if_here) Simple
  unfolding binding
  binding-line = token-line (word-token keyword.Let) (λ u k. token-line name-token (λ x l. token-line (sign-token symbol.Assign) (λ v equals. then-line (expression-line m) (λ e xs c.
      token-line (sign-token symbol.Semicolon) (λ y end. pure-line _ (λ n f z p is name is-let. (syntax.binding k l equals end is-let name is p.0 z, omega (arith, p.1))))))))

  assignment-line : Recognizes Statements m 0 Any (assignment m.most m.room if_here) Simple
  unfolding assignment
  assignment-line = token-line name-token (λ x l. token-line (sign-token symbol.Assign) (λ v equals. then-line (expression-line m) (λ e xs c.
      token-line (sign-token symbol.Semicolon) (λ y end. pure-line _ (λ n f z p is name. (syntax.assignment l equals end name is p.0 z, omega (arith, p.1)))))))

  push-line : Recognizes Statements m 0 Any (push m.most m.room if_here) Simple
  unfolding push
  push-line = token-line (word-token keyword.Push) (λ u k. token-line name-token (λ x l. then-line (expression-line m) (λ e xs c.
      token-line (sign-token symbol.Semicolon) (λ y end. pure-line _ (λ n f z p name is. (syntax.push k l end is name p.0 z, omega (arith, p.1)))))))

  -- `keep NAME` was taken before.
  abbrev Kept : NameRecord → Lexeme → Lexeme → Meaning StmtTree
  Kept x k l n ls c s = IsName x l → IsKeyword keyword.Keep k → Simple n (k ∷ l ∷ ls) c s

  kept-values-line : (x : NameRecord) (k l : Lexeme) → Recognizes Statements m 0 Any (kept_values m.most m.room if_here x) (Kept x k l)
  unfolding kept_values
  kept-values-line x k l = token-line (sign-token symbol.OpenParen) (λ u begin. then-line (values-line Statements m 0 (λ n. IsExprWithin n.most n.room) (expression m.most m.room) (expression-line m) (λ l e. omega arith)) (λ es xs c.
      token-line (sign-token symbol.CloseParen) (λ v close. token-line (sign-token symbol.Semicolon) (λ y end.
      pure-line _ (λ n f z d p o name is. (syntax.keep k l begin close end is name o p.0 d z, omega (arith, p.1)))))))

  kept-cell-line : (x : NameRecord) (k l : Lexeme) → Recognizes Statements m 0 Any (kept_cell x) (Kept x k l)
  unfolding kept_cell
  kept-cell-line x k l = token-line (word-token keyword.From) (λ u from. token-line name-token (λ y source. token-line (sign-token symbol.Semicolon) (λ v end.
      pure-line _ (λ n f z p o name is. (syntax.keep_from k l from source end is name o p z, refl)))))

  keep-line : Recognizes Statements m 0 Any (keep m.most m.room if_here) Simple
  unfolding keep
  keep-line = token-line (word-token keyword.Keep) (λ u k. token-line name-token (λ x l. choose-line (seen-line (kept-values-line x k l)) (kept-cell-line x k l)))

  simple-line : Recognizes Statements m 0 Any (simple m.most m.room if_here) Simple
  unfolding simple
  simple-line = choose-line (seen-line binding-line) (choose-line (seen-line push-line) (choose-line (seen-line keep-line) assignment-line))

  let-alone : (u : Unit {0}) (l : Lexeme) (st op : ℕ) → IsKeyword keyword.Let l → simple m.most m.room if_here (at (l ∷ []) st op) ≡ Err (stop.Expected 0)
  unfolding simple binding name next
  let-alone u l st op is = rw ((word-is {l = l} {ls = []} is keyword.Let refl).finds st op, word-goes l [] st op keyword.Let is) refl

  push-alone : (u : Unit {0}) (l : Lexeme) (st op : ℕ) → IsKeyword keyword.Push l → simple m.most m.room if_here (at (l ∷ []) st op) ≡ Err (stop.Expected 0)
  unfolding simple push name next
  push-alone u l st op is = rw ((word-is {l = l} {ls = []} is keyword.Let refl).finds st op, (word-is {l = l} {ls = []} is keyword.Push refl).finds st op, word-goes l [] st op keyword.Push is) refl

  keep-alone : (u : Unit {0}) (l : Lexeme) (st op : ℕ) → IsKeyword keyword.Keep l → simple m.most m.room if_here (at (l ∷ []) st op) ≡ Err (stop.Expected 0)
  unfolding simple keep name next
  keep-alone u l st op is =
      rw ((word-is {l = l} {ls = []} is keyword.Let refl).finds st op, (word-is {l = l} {ls = []} is keyword.Push refl).finds st op, (word-is {l = l} {ls = []} is keyword.Keep refl).finds st op, word-goes l [] st op keyword.Keep is) refl

  name-alone : (x : NameRecord) (l : Lexeme) (st op : ℕ) → IsName x l → simple m.most m.room if_here (at (l ∷ []) st op) ≡ Err (stop.Expected 0)
  unfolding simple assignment sign sees_sign next
  name-alone x l st op is =
      rw ((word-is {l = l} {ls = []} is.text keyword.Let refl).finds st op, (word-is {l = l} {ls = []} is.text keyword.Push refl).finds st op, (word-is {l = l} {ls = []} is.text keyword.Keep refl).finds st op, name-goes l [] st op x is) refl

  -- What begins a statement other than an `if`.
  simple-starts : (i : Input) → begins_statement i ≡ true → sees_word keyword.If i ≡ false → Starts Statements m Simple i limit.Statements
  unfolding begins_statement
  simple-starts i h other = by-token (sees_name i) (sees_word keyword.Let i) (sees_word keyword.Push i) (sees_word keyword.Keep i) (sees_word keyword.If i) refl refl refl refl other h
    where
      by-token : (a b c d e : Bool) → sees_name i ≡ a → sees_word keyword.Let i ≡ b → sees_word keyword.Push i ≡ c → sees_word keyword.Keep i ≡ d → e ≡ false → a || (b || (c || (d || e))) ≡ true → Starts Statements m Simple i limit.Statements
      by-token true b c d e f g p q r h = starts-alone limit.Statements simple-line (λ x l is. begins-as limit.Statements l.terminal (Name x.text) is.text (begins.assignment x.text)) name-alone (sees-a-name i f)
      by-token false true c d e f g p q r h = starts-alone limit.Statements simple-line (λ u l is. begins-as limit.Statements l.terminal (Word keyword.Let) is begins.binding) let-alone (sees-one (word-seen keyword.Let) i g)
      by-token false false true d e f g p q r h = starts-alone limit.Statements simple-line (λ u l is. begins-as limit.Statements l.terminal (Word keyword.Push) is begins.push) push-alone (sees-one (word-seen keyword.Push) i p)
      by-token false false false true e f g p q r h = starts-alone limit.Statements simple-line (λ u l is. begins-as limit.Statements l.terminal (Word keyword.Keep) is begins.keep) keep-alone (sees-one (word-seen keyword.Keep) i q)
      by-token false false false false true f g p q r h = cc
      by-token false false false false false f g p q r h = cc

  pub one-says : Speaks Statements m 0 (λ i. begins_statement i ≡ true) (statement m.most m.room if_here) Statement
  unfolding statement
  one-says = either-says (record { says = λ i h. says-as Statements m _ Statement (λ n ls c s f is. (syntax.branch is.0, is.1)) i 0 (if_here i) (inner.says i h) }) (statement-says (λ i h. simple-starts i h.0 h.1) (λ i h. tt) simple-line.speaks)

  abbrev Several : Meaning StmtsTree
  Several n ls c ss = AreStatements n.most n.room (IsIfHere n) ls ss × (c ≡ stmts_count ss)

  statements-from-line : (k : ℕ) → Recognizes Statements m 0 Any (statements_from m.most m.room if_here k) Several
  unfolding statements_from
  statements-from-line zero = pure-line Done (λ n f. (syntax.none, refl))
  statements-from-line (suc k) = choose-says
      (then-says one-says (λ s xs c. last-line (λ rest. Then s rest) (statements-from-line k) (λ n ys d ss rest is. (syntax.more is.0 rest.0, omega (arith, is.1, rest.1)))))
      (pure-line Done (λ n f. (syntax.none, refl)))

  statements-line : Recognizes Statements m 0 Any (statements m.most m.room if_here) Several
  unfolding statements
  statements-line = turns-line (statements_from m.most m.room if_here) statements-from-line

  abbrev Block : Meaning StmtsTree
  Block n ls c ss = IsBlock n.most n.room (IsIfHere n) ls ss × (c ≡ stmts_count ss)

  pub block-line : Recognizes Statements m 0 Any (block m.most m.room if_here) Block
  unfolding block
  block-line = token-line (sign-token symbol.OpenBrace) (λ u begin. then-line statements-line (λ ss xs c. token-line (sign-token symbol.CloseBrace) (λ v end.
      pure-line ss (λ n f z is o. (syntax.block begin end o is.0 z, omega (arith, is.1))))))

  abbrev Else : Meaning StmtsTree
  Else n ls c ss = IsElse n.most n.room (IsIfHere n) ls ss × (c ≡ stmts_count ss)

  otherwise-line : (k : Lexeme) → Recognizes Statements m 0 Any (otherwise m.most m.room if_here) (λ n ls c ss. IsKeyword keyword.Else k → Else n (k ∷ ls) c ss)
  unfolding otherwise
  otherwise-line k = choose-says
      (last-says (λ s. Then s Done) inner (λ n ls c s is e. (syntax.else_if k e is.0, omega (arith, is.1))))
      (as-line Statements m Block _ (λ n ls c ss f is e. (syntax.block k e is.0, is.1)) block-line)

  else-line : Recognizes Statements m 0 Any (else_part m.most m.room if_here) Else
  unfolding else_part
  else-line = choose-line (token-line (word-seen keyword.Else) (λ u k. otherwise-line k)) (pure-line Done (λ n f. (syntax.none, refl)))

  -- After the `if`, which was counted.
  pub branches-line : (k : Lexeme) → Recognizes Statements m 0 Any (branches m.most m.room if_here) (λ n ls c s. IsKeyword keyword.If k → IsIf n.most n.room (IsIfHere n) (k ∷ ls) s × (suc c ≡ stmt_count s))
  unfolding branches
  branches-line k = then-line (expression-line m) (λ e xs c. then-line block-line (λ ss ys d. last-line (λ rest. If e ss rest) else-line
      (λ n zs t rest r b is if. (syntax.branch k if is.0 b.0 r.0, omega (arith, is.1, b.1, r.1)))))

-- ---- levels

within-if : (most : LimitKind → ℕ) (room : ℕ) (ls : List Lexeme) (s : StmtTree) → 0 < room → IsIf most (room - 1) (IsIfWithin most (room - 1)) ls s → IsIfWithin most room ls s
unfolding IsIfWithin
within-if most zero ls s h is = absurd (omega (arith, h))
within-if most (suc room) ls s h is = let same : suc room - 1 ≡ room = omega arith in subst (λ (r : ℕ). IsIf most r (IsIfWithin most r) ls s) same is

-- Counting a statement leaves the next token.
still-if : (i : Input) → sees_word keyword.If i ≡ true → sees_word keyword.If (record i { statements = i.statements + 1 }) ≡ true
unfolding sees_word next
still-if i e = e

abbrev IfHere : Meaning StmtTree
IfHere n ls c s = IsIfWithin n.most n.room ls s × (c ≡ stmt_count s)

-- An `if` without statements, which was counted before.
empty-if : (m : Numbers) (extra : LimitKind → ℕ) → 1 ≤ extra limit.Depth → (k : Lexeme) → Exists m extra 0 (λ n ls c s. IsKeyword keyword.If k → IfHere n (k ∷ ls) (suc c) s)
empty-if m extra deep k =
    let e = (expression-line m).some in
    let begin : Lexeme = record { terminal = Sign symbol.OpenBrace; at = 0 } in
    let end : Lexeme = record { terminal = Sign symbol.CloseBrace; at = 0 } in
    record {
      tokens = e.tokens ++ begin ∷ end ∷ [];
      count = 0;
      value = If e.value Done Done;
      few = omega arith;
      means = λ n f if.
          let inner : Numbers = record n { room = n.room - 1 } in
          let fits : Fits m inner = record { wide = λ w. omega (arith, f.wide w); deep = omega (arith, f.deep, deep); one = f.one } in
          let all : IsIf n.most (n.room - 1) (IsIfWithin n.most (n.room - 1)) (k ∷ (e.tokens ++ begin ∷ end ∷ [])) (If e.value Done Done) = syntax.branch k if (e.means inner fits).0 (syntax.block begin end refl syntax.none refl) syntax.none in
          (within-if n.most n.room (k ∷ (e.tokens ++ begin ∷ end ∷ [])) (If e.value Done Done) (omega (arith, f.deep, deep)) all, refl);
    }

if-begins : (m : Numbers) (i : Input) → sees_word keyword.If i ≡ true → Starts Statements m (λ n ls c s. IfHere n ls (suc c) s) i limit.Statements
if-begins m i h =
    let t = (sees-one (word-seen keyword.If) i h).step in
    let e = empty-if m (raised limit.Statements) (omega arith) t.lexeme in
    record {
      token = t.lexeme;
      rest = (passed i).rest;
      splits = t.splits;
      begins = begins-as limit.Statements t.lexeme.terminal (Word keyword.If) t.is begins.branch;
      tokens = e.tokens;
      count = e.count;
      value = e.value;
      few = λ few. omega (arith, few, e.few);
      means = λ n f. e.means n f t.is;
    }

if-level : (l : Lexeme) → IsKeyword keyword.If l → Begins limit.Depth l.terminal
if-level l e = begins-as limit.Depth l.terminal (Word keyword.If) e begins.if_level

module _ (most : LimitKind → ℕ) where
  pub if-says : (room : ℕ) → Speaks Statements (record { most = most; room = room }) 0 (λ i. sees_word keyword.If i ≡ true) (if_statement most room) IfHere
  unfolding if_statement
  if-says zero =
      let m : Numbers = record { most = most; room = 0 } in
      statement-says (if-begins m) still-if (opened-says 0 (word-seen keyword.If) if-level (λ l e. omega arith) (empty-if m (raised limit.Depth) (omega arith)) (λ some. absurd (omega (arith, some))))
  if-says (suc room) =
      let m : Numbers = record { most = most; room = suc room } in
      let k : Numbers = record { most = most; room = room } in
      statement-says (if-begins m) still-if (opened-says (suc room) (word-seen keyword.If) if-level (λ l e. omega arith) (empty-if m (raised limit.Depth) (omega arith))
      (λ some l. as-line Statements m _ _ (λ n ls c s f is if. let b = is if in (within-if n.most n.room (l ∷ ls) s (omega (arith, f.deep)) b.0, b.1))
      (by-numbers Statements m k _ (inside most room) (branches-line k (if_statement most room) (λ n. IsIfWithin n.most n.room) (if-says room) l))))

-- ---- the update

module _ (m : Numbers) where
  abbrev Body : Meaning StmtsTree
  Body n ls c ss = IsBlockWithin n.most n.room ls ss × (c ≡ stmts_count ss)

  abbrev IsBody : Numbers → List Lexeme → StmtsTree → Type 0
  IsBody n ls ss = IsBlockWithin n.most (n.most limit.Depth) ls ss × (stmts_count ss ≤ n.most limit.Statements)

  whole : (n : Numbers) (ls : List Lexeme) (c : ℕ) (ss : StmtsTree) → Body (fresh n) ls c ss → c ≤ n.most limit.Statements → IsBody n ls ss
  whole n ls c ss is few = (is.0, omega (arith, is.1, few))

  -- The statements of an update are counted from 0.
  says-whole : (i : Input) (o : Parsed StmtsTree) → Exists (fresh m) none 0 Body → Says Statements (fresh m) 0 Body (record i { statements = 0 }) o → Says Nothing m 0 (λ n ls c ss. IsBody n ls ss × (c ≡ 0)) i o
  says-whole i (Ok read) some t =
      let c = t.counts in
      record {
        taken = t.taken;
        count = 0;
        splits = t.splits;
        counts = record { more = refl; few = λ h. h; same = refl };
        means = λ n f. let is = t.means (fresh n) ((from_fresh m).wide none n f) in (whole n t.taken t.count read.0 is (omega (arith, c.more, c.few (omega arith), f.wide limit.Statements)), refl);
      }
  says-whole i (Err stopped) some s = stops-sized Statements Nothing (fresh m) m Body IsBody (from_fresh m) whole 0 (record i { statements = 0 }) i comma (omega arith) (omega arith) refl refl some stopped s

  pub update-line : Recognizes Nothing m 0 Any (update m.most) (λ n ls c ss. IsUpdate n.most ls ss)
  unfolding update
  update-line =
      let inner = block-line (fresh m) (if_statement m.most (m.most limit.Depth)) (λ n. IsIfWithin n.most n.room) (if-says m.most (m.most limit.Depth)) in
      let body : Recognizes Nothing m 0 Any (λ i. block m.most (m.most limit.Depth) (if_statement m.most (m.most limit.Depth)) (record i { statements = 0 })) (λ n ls c ss. IsBody n ls ss × (c ≡ 0)) =
      record {
        some = exists-sized Statements Nothing (fresh m) m Body IsBody (from_fresh m) whole 0 (omega arith) inner.some;
        speaks = record { says = λ i h. says-whole i (block m.most (m.most limit.Depth) (if_statement m.most (m.most limit.Depth)) (record i { statements = 0 })) inner.some (inner.speaks.says (record i { statements = 0 }) tt) };
      } in
      token-line (word-token keyword.Update) (λ u k. as-line Nothing m _ _ (λ n ls c ss f is w. scripts.update k w is.0.0 is.0.1) body)
