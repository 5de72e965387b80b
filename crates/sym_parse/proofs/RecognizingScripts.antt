-- What is read as a script is one, and the tokens before the place where reading it stops begin one.
use Rattle.std.proofs.Common.{◌≡◌, ℕ, ◌+◌, ◌<◌, ◌≤◌, List, [], ◌∷◌, ◌++◌, Ok, Err, refl, ap, sym, ◌∙◌, subst, arith}
use Rattle.std.proofs.lemmas.List.{append-nil}
use Rattle.sym_base.specs.Trees.{ScriptTree}
use Rattle.sym_lex.specs.declared.keyword.Keyword.TheVariants as keyword
use Rattle.sym_lex.specs.declared.symbol.Symbol.TheVariants as symbol
use Rattle.sym_parse.specs.declared.error.LimitKind.{LimitKind}
use Rattle.sym_parse.specs.declared.error.LimitKind.TheVariants as limit
use Rattle.sym_parse.specs.declared.stop.Stop.TheVariants as stop
use Rattle.sym_parse.specs.Lexemes.{Lexeme}
use Rattle.sym_parse.specs.Steps.{Input, Parsed, Parser, and_then, ◌>>=◌, pure, next, is_done, done, sees_word, sees_name}
use Rattle.sym_parse.specs.Syntax.Declarations.{AreAtMost, AreSome, IsEnum, IsField, IsState, IsTest, IsColumn}
use Rattle.sym_parse.specs.Syntax.Scripts as syntax
use Rattle.sym_parse.specs.Syntax.Scripts.{IsReport, IsScript}
use Rattle.sym_parse.specs.Parsing.Declarations.{enum_decl, field, group, state, test_decl, column}
use Rattle.sym_parse.specs.Parsing.Statements.{update}
use Rattle.sym_parse.specs.Beginnings.{Begins}
use Rattle.sym_parse.specs.Places.{BeginBy}
use Rattle.sym_parse.specs.Parsing.Scripts.{enums, fields, states, tests, columns, report, script, start}
use Rattle.sym_parse.proofs.Taking.{word-token, sign-token}
use Rattle.sym_parse.proofs.Wanting.{wanted, final, raised}
use Rattle.sym_parse.proofs.Recognizing.{Numbers, GoesOn, Meaning, Says, Nothing, Any, Recognizes, fits-self, then-line, last-line, token-line, pure-line, choose-line, refuse-line, any-line, some-line}
use Rattle.sym_parse.proofs.RecognizingStatements.{update-line}
use Rattle.sym_parse.proofs.RecognizingDeclarations.{enum-line, enum-starts, field-line, field-starts, group-line, state-line, state-starts, test-line, test-starts, column-line, column-starts}

module _ (m : Numbers) (some : (k : LimitKind) → 1 ≤ m.most k) where
  enums-line : Recognizes Nothing m 0 Any (enums m.most) (λ n ls c x. AreAtMost (n.most limit.Enums) (IsEnum n.most) ls x)
  unfolding enums
  enums-line = any-line m limit.Enums (sees_word keyword.Enum) (enum_decl m.most) (λ n. IsEnum n.most) (enum-line m some) (enum-starts m some)

  fields-line : Recognizes Nothing m 0 Any (fields m.most) (λ n ls c x. AreSome (n.most limit.Fields) IsField ls x)
  unfolding fields
  fields-line = some-line m limit.Fields (sees_word keyword.Field) field (λ n. IsField) field-line field-starts (some limit.Fields)

  states-line : Recognizes Nothing m 0 Any (states m.most) (λ n ls c x. AreSome (n.most limit.Cells) (IsState n.most) ls x)
  unfolding states
  states-line = some-line m limit.Cells (sees_word keyword.State) (state m.most) (λ n. IsState n.most) (state-line m some) (state-starts m some) (some limit.Cells)

  tests-line : Recognizes Nothing m 0 Any (tests m.most) (λ n ls c x. AreAtMost (n.most limit.Tests) (IsTest n.most) ls x)
  unfolding tests
  tests-line = any-line m limit.Tests (sees_word keyword.Test) (test_decl m.most) (λ n. IsTest n.most) (test-line m some) (test-starts m some)

  columns-line : Recognizes Nothing m 0 Any (columns m.most) (λ n ls c x. AreSome (n.most limit.Columns) (IsColumn n.most) ls x)
  unfolding columns
  columns-line = some-line m limit.Columns sees_name (column m.most) (λ n. IsColumn n.most) (column-line m some) (column-starts m some) (some limit.Columns)

  report-line : Recognizes Nothing m 0 Any (report m.most) (λ n ls c x. IsReport n.most ls x)
  unfolding report
  report-line = token-line (word-token keyword.Report) (λ u k. token-line (sign-token symbol.OpenBrace) (λ v begin. then-line columns-line (λ cs xs c. token-line (sign-token symbol.CloseBrace) (λ y end.
      pure-line cs (λ n f z p o is. syntax.report k begin end is o p z)))))

  -- Nothing of a script follows its report.
  done-line : Recognizes Nothing m 0 Any done (λ n ls c x. ls ≡ [])
  unfolding done
  done-line = let end = pure-line {w = Nothing} {m = m} {Seen = Any} {R = λ n ls c x. ls ≡ []} tt (λ n f. refl) in choose-line {test = is_done} (pure-line tt (λ n f. refl)) (refuse-line end.some)

  script-line : Recognizes Nothing m 0 Any (script m.most) (λ n ls c x. IsScript n.most ls x)
  unfolding script
  script-line = then-line enums-line (λ es xs1 c1. then-line fields-line (λ fs xs2 c2. then-line (group-line m some) (λ gs xs3 c3. then-line states-line (λ ss xs4 c4. then-line tests-line (λ ts xs5 c5.
      then-line (update-line m) (λ us xs6 c6. then-line report-line (λ cs xs7 c7. last-line _ done-line (λ n ls c u d r q p s g f e.
      subst (λ (more : List Lexeme). IsScript n.most (xs1 ++ (xs2 ++ (xs3 ++ (xs4 ++ (xs5 ++ (xs6 ++ more))))))
      (record { enums = es; fields = fs; group = gs; states = ss; tests = ts; update = us; columns = cs })) (sym (ap (λ (more : List Lexeme). xs7 ++ more) d ∙ append-nil xs7)) (syntax.script e f g s p q r)))))))))

-- ---- a script ends where its tokens do

abbrev EndsAt : {A : Type 0} → Parsed A → Type 0
EndsAt (Ok read) = read.1.rest ≡ []
EndsAt (Err stopped) = Unit {0}

ends-then : {A B : Type 0} (o : Parsed A) (f : A → Parser B) → ((x : A) (j : Input) → EndsAt (f x j)) → EndsAt (and_then o f)
ends-then (Ok read) f h = h read.0 read.1
ends-then (Err stopped) f h = tt

ends-done : {A : Type 0} (i : Input) (x : A) → EndsAt ((done >>= (λ u. pure x)) i)
unfolding done is_done next
ends-done i x = at-end i.rest i.statements i.operands
  where
    at-end : (ls : List Lexeme) (st op : ℕ) → EndsAt (and_then (done (record { rest = ls; statements = st; operands = op })) (λ u. pure x))
    at-end [] st op = refl
    at-end (l ∷ ls) st op = tt

script-ends : (m : LimitKind → ℕ) (i : Input) → EndsAt (script m i)
unfolding script
script-ends m i = ends-then (enums m i) _ (λ es i1. ends-then (fields m i1) _ (λ fs i2. ends-then (group m i2) _ (λ g i3. ends-then (states m i3) _ (λ ss i4. ends-then (tests m i4) _ (λ ts i5.
    ends-then (update m i5) _ (λ us i6. ends-then (report m i6) _ (λ cs i7. ends-done i7 _)))))))

-- ---- whole lists of lexemes

-- Limits that are wider than others by so much.
abbrev pub By : (LimitKind → ℕ) → (LimitKind → ℕ) → (LimitKind → ℕ) → Type 0
By most extra limits = (k : LimitKind) → limits k ≡ most k + extra k

module _ (most : LimitKind → ℕ) (one : (k : LimitKind) → 1 ≤ most k) where
  abbrev Whole : Numbers
  Whole = record { most = most; room = 0 }

  abbrev Script : Meaning ScriptTree
  Script n ls c x = IsScript n.most ls x

  said : (ls : List Lexeme) (o : Parsed ScriptTree) → script most (start ls) ≡ o → Says Nothing Whole 0 Script (start ls) o × EndsAt o
  said ls o e =
      (subst (λ (r : Parsed ScriptTree). Says Nothing Whole 0 Script (start ls) r) e ((script-line Whole one).speaks.says (start ls) tt), subst (λ (r : Parsed ScriptTree). EndsAt r) e (script-ends most (start ls)))

  pub script-found : (ls : List Lexeme) (j : Input) (s : ScriptTree) → script most (start ls) ≡ Ok (s, j) → IsScript most ls s
  script-found ls j s e =
      let all = said ls (Ok (s, j)) e in
      let t = all.0 in
      subst (λ (xs : List Lexeme). IsScript most xs s) (sym (t.splits ∙ ap (λ (xs : List Lexeme). t.taken ++ xs) all.1 ∙ append-nil t.taken)) (t.means Whole (fits-self Whole one))

  begins-by : (ls : List Lexeme) (extra : LimitKind → ℕ) → GoesOn Nothing Whole Script (start ls) extra → BeginBy (By most extra) ls
  begins-by ls extra g =
      let n : Numbers = record { most = λ k. most k + extra k; room = extra limit.Depth } in
      record { limits = n.most; such = λ k. refl; rest = g.tokens; tree = g.value; script = g.means n (record { wide = λ k. omega arith; deep = omega arith; one = λ k. omega (arith, one k) }) }

  -- Tokens at whose end reading stops begin a script, with one more of what the last of them wants.
  pub unexpected-begins : (ls : List Lexeme) (d : Lexeme) → script most (start ls) ≡ Err (stop.Expected 0) → BeginBy (By most (wanted (final d ls))) ls
  unexpected-begins ls d e = begins-by ls (wanted (final d ls)) ((said ls (Err (stop.Expected 0)) e).0 refl d (omega arith))

  -- A token that passes a limit begins a thing of its kind, and with it a script begins by one more.
  pub passed-begins : (ls : List Lexeme) (d : Lexeme) (which : LimitKind) → script most (start ls) ≡ Err (stop.Limit 1 which) → Begins which (final d ls).terminal × BeginBy (By most (raised which)) ls
  passed-begins ls d which e = let p = (said ls (Err (stop.Limit 1 which)) e).0.1 refl in (p.begins d, begins-by ls (raised which) p.goes_on)

  -- Where a limit is passed there is a token.
  pub passed-there : (ls : List Lexeme) (left : ℕ) (which : LimitKind) → script most (start ls) ≡ Err (stop.Limit left which) → 0 < left
  passed-there ls left which e = (said ls (Err (stop.Limit left which)) e).0.0
