-- What is read as a declaration is one, and the tokens before the place where reading it stops begin
-- one.
use Rattle.std.proofs.Common.{◌≡◌, ℕ, ◌≤◌, ℤ, neg_ℤ, Bool, true, false, ◌||◌, List, [], ◌∷◌, None, Some, Err, refl, subst, sym}
use Rattle.sym_base.specs.declared.tree.name.Name.{Name as NameRecord}
use Rattle.sym_base.specs.declared.tree.declaration.Literal.TheVariants as literal
use Rattle.sym_base.specs.declared.tree.declaration.CellDecl.TheVariants as cell
use Rattle.sym_lex.specs.declared.keyword.Keyword.TheVariants as keyword
use Rattle.sym_lex.specs.declared.symbol.Symbol.TheVariants as symbol
use Rattle.sym_parse.specs.declared.error.LimitKind.{LimitKind}
use Rattle.sym_parse.specs.declared.error.LimitKind.TheVariants as limit
use Rattle.sym_parse.specs.declared.stop.Stop.TheVariants as stop
use Rattle.sym_parse.specs.Beginnings as begins
use Rattle.sym_parse.specs.Beginnings.{Begins}
use Rattle.sym_parse.specs.Lexemes.{Lexeme, Name, Word, IsName, IsSign, IsKeyword}
use Rattle.sym_parse.specs.Steps.{Input, next, sees_word, sees_sign, sees_name, sign, name, passed}
use Rattle.sym_parse.specs.Syntax.Declarations as syntax
use Rattle.sym_parse.specs.Syntax.Declarations.{AreSeparated, IsOneName, IsNum, IsLiteral, IsKind, IsEnum, IsHeader, IsDefault, IsField, IsGroup, IsRange, IsPart, IsClamp, IsCell, IsState, IsParam, IsTest, IsColumn}
use Rattle.sym_parse.specs.Parsing.Declarations.{num, literal_value, begins_kind, kind_ref, header, default_value, field, group, range, clamp, part, param, names, enum_decl, parts, int_cell, nums_cell, hold_cell, label_cell, cell_decl, state, params, test_decl, column}
use Rattle.sym_parse.proofs.Taking.{sees-one, sees-a-name, word-seen, sign-seen, word-token, sign-token, name-token, number-token, text-token}
use Rattle.sym_parse.proofs.Reading.{at, word-is, word-goes, name-goes}
use Rattle.sym_parse.proofs.RecognizingExpressions.{value-line}
use Rattle.sym_parse.proofs.Wanting.{wanted, item-after, begins-as}
use Rattle.sym_parse.proofs.Recognizing.{Numbers, Any, Nothing, Recognizes, Starts, starts-one, starts-alone, then-line, last-line, token-line, alone-line, pure-line, choose-line, seen-line, here-line, StandsAt, list-line}

-- A kind alone, where a part could follow.
name-alone : (x : NameRecord) (l : Lexeme) (st op : ℕ) → IsName x l → part (at (l ∷ []) st op) ≡ Err (stop.Expected 0)
unfolding part kind_ref sign sees_sign next
name-alone x l st op is = rw ((word-is {l = l} {ls = []} is.text keyword.Num refl).finds st op, (word-is {l = l} {ls = []} is.text keyword.Word refl).finds st op, name-goes l [] st op x is) refl

num-alone : (u : Unit {0}) (l : Lexeme) (st op : ℕ) → IsKeyword keyword.Num l → part (at (l ∷ []) st op) ≡ Err (stop.Expected 0)
unfolding part kind_ref sign sees_sign next passed
num-alone u l st op is = rw ((word-is {l = l} {ls = []} is keyword.Num refl).finds st op) refl

word-alone : (u : Unit {0}) (l : Lexeme) (st op : ℕ) → IsKeyword keyword.Word l → part (at (l ∷ []) st op) ≡ Err (stop.Expected 0)
unfolding part kind_ref sign sees_sign next passed
word-alone u l st op is = rw ((word-is {l = l} {ls = []} is keyword.Num refl).finds st op, (word-is {l = l} {ls = []} is keyword.Word refl).finds st op) refl

module _ {m : Numbers} where
  one-name-line : Recognizes Nothing m 0 Any name (λ n ls c x. IsOneName ls x)
  one-name-line = alone-line name-token (λ x l n is. syntax.name l is)

  one-name-starts : (which : LimitKind) → ((text : List ℕ) → Begins which (Name text)) → (i : Input) → sees_name i ≡ true → Starts Nothing m (λ n ls c x. IsOneName ls x) i which
  one-name-starts which begins i h = starts-one which (sees-a-name i h) (λ x l is. begins-as which l.terminal (Name x.text) is.text (begins x.text)) (λ x l. x) (λ x l n is. syntax.name l is)

  num-line : Recognizes Nothing m 0 Any num (λ n ls c x. IsNum ls x)
  unfolding num
  num-line = choose-line (token-line (sign-seen symbol.Minus) (λ u s. token-line number-token (λ x l. pure-line _ (λ n f is minus. syntax.minus s l minus is))))
      (alone-line number-token (λ x l n is. syntax.plain l is))

  literal-line : Recognizes Nothing m 0 Any literal_value (λ n ls c x. IsLiteral ls x)
  unfolding literal_value
  literal-line =
      let named = token-line {w = Nothing} {m = m} {Seen = Any} {R = λ n ls c x. IsLiteral ls x} name-token (λ x l. pure-line (literal.Named x) (λ n f is. syntax.name l is)) in
      choose-line (here-line named.some (λ at. token-line text-token (λ t l. pure-line _ (λ n f is first. subst (λ (a : ℕ). IsLiteral (l ∷ []) (literal.Text t a)) (sym (first l [] refl)) (syntax.text l is)))))
      (choose-line (token-line name-token (λ x l. pure-line _ (λ n f is. syntax.name l is)))
      (here-line named.some (λ at. last-line (λ x. literal.Num x at) num-line (λ n xs c x is first. placed-num at xs x is first))))
    where
      placed-num : (at : ℕ) (xs : List Lexeme) (x : ℤ) → IsNum xs x → StandsAt at xs → IsLiteral xs (literal.Num x at)
      placed-num at _ x (syntax.plain l is) first = subst (λ (a : ℕ). IsLiteral (l ∷ []) (literal.Num x a)) (sym (first l [] refl)) (syntax.num l (syntax.plain l is))
      placed-num at _ _ (syntax.minus {n} s l minus is) first = subst (λ (a : ℕ). IsLiteral (s ∷ l ∷ []) (literal.Num (neg_ℤ n) a)) (sym (first s (l ∷ []) refl)) (syntax.num s (syntax.minus s l minus is))

  kind-line : Recognizes Nothing m 0 Any kind_ref (λ n ls c x. IsKind ls x)
  unfolding kind_ref
  kind-line = choose-line (token-line (word-seen keyword.Num) (λ u l. pure-line _ (λ n f is. syntax.num l is)))
      (choose-line (token-line (word-seen keyword.Word) (λ u l. pure-line _ (λ n f is. syntax.word l is)))
      (token-line name-token (λ x l. pure-line _ (λ n f is. syntax.name l is))))

  header-line : Recognizes Nothing m 0 Any header (λ n ls c x. IsHeader ls x)
  unfolding header
  header-line = choose-line (token-line (word-seen keyword.From) (λ u k. token-line text-token (λ t l. pure-line _ (λ n f is from. syntax.from k l from is)))) (pure-line None (λ n f. syntax.none))

  default-line : Recognizes Nothing m 0 Any default_value (λ n ls c x. IsDefault ls x)
  unfolding default_value
  default-line = choose-line (token-line (word-seen keyword.Else) (λ u k. last-line Some literal-line (λ n xs c v is given. syntax.given k given is)))
      (pure-line None (λ n f. syntax.none))

  pub field-line : Recognizes Nothing m 0 Any field (λ n ls c x. IsField ls x)
  unfolding field
  field-line = token-line (word-token keyword.Field) (λ u k. token-line name-token (λ x l. then-line header-line (λ h hs a. token-line (sign-token symbol.Colon) (λ v colon.
      then-line kind-line (λ t ks b. then-line default-line (λ d ds c. token-line (sign-token symbol.Semicolon) (λ y end.
      pure-line _ (λ n f z dp kp is hp name field. syntax.declared k l colon end field name hp is kp dp z))))))))

  pub field-starts : (i : Input) → sees_word keyword.Field i ≡ true → Starts Nothing m (λ n ls c x. IsField ls x) i limit.Fields
  unfolding field name next
  field-starts i h = starts-alone limit.Fields field-line (λ u l is. begins-as limit.Fields l.terminal (Word keyword.Field) is begins.field) (λ u l st op is. rw (word-goes l [] st op keyword.Field is) refl) (sees-one (word-seen keyword.Field) i h)

  clamp-line : Recognizes Nothing m 0 Any clamp (λ n ls c x. IsClamp ls x)
  unfolding clamp
  clamp-line = choose-line (token-line (word-seen keyword.Clamp) (λ u k. pure-line true (λ n f is. syntax.clamp k is))) (pure-line false (λ n f. syntax.none))

  range-line : Recognizes Nothing m 0 Any range (λ n ls c x. IsRange ls x)
  unfolding range
  range-line = token-line (sign-token symbol.OpenBracket) (λ u begin. then-line num-line (λ lo xs a. token-line (sign-token symbol.DotDot) (λ v dots.
      then-line num-line (λ hi ys b. token-line (sign-token symbol.CloseBracket) (λ y end. pure-line _ (λ n f z q is p o. syntax.range begin dots end o p is q z))))))

  part-line : Recognizes Nothing m 0 Any part (λ n ls c x. IsPart ls x)
  unfolding part
  part-line = then-line kind-line (λ t ks a. token-line (sign-token symbol.Assign) (λ u equals.
      last-line (λ v. record { kind = t; first = v }) literal-line (λ n xs b v vp is kp. syntax.part equals kp is vp)))

  param-line : Recognizes Nothing m 0 Any param (λ n ls c x. IsParam ls x)
  unfolding param
  param-line = token-line name-token (λ x l. token-line (sign-token symbol.Colon) (λ u colon.
      last-line (λ t. record { name = x; kind = t }) kind-line (λ n ks a t kp is name. syntax.param l colon name is kp)))

  param-starts : (i : Input) → sees_name i ≡ true → Starts Nothing m (λ n ls c x. IsParam ls x) i limit.Parameters
  unfolding param sign sees_sign next
  param-starts i h = starts-alone limit.Parameters param-line (λ x l is. begins-as limit.Parameters l.terminal (Name x.text) is.text (begins.parameter x.text)) (λ x l st op is. rw (name-goes l [] st op x is) refl) (sees-a-name i h)

  part-starts : (i : Input) → begins_kind i ≡ true → Starts Nothing m (λ n ls c x. IsPart ls x) i limit.Parts
  unfolding begins_kind
  part-starts i h = by-kind (sees_name i) (sees_word keyword.Num i) (sees_word keyword.Word i) refl refl refl h
    where
      by-kind : (a b c : Bool) → sees_name i ≡ a → sees_word keyword.Num i ≡ b → sees_word keyword.Word i ≡ c → a || (b || c) ≡ true → Starts Nothing m (λ n ls c x. IsPart ls x) i limit.Parts
      by-kind true b c e f g h = starts-alone limit.Parts part-line (λ x l is. begins-as limit.Parts l.terminal (Name x.text) is.text (begins.label_part x.text)) name-alone (sees-a-name i e)
      by-kind false true c e f g h = starts-alone limit.Parts part-line (λ u l is. begins-as limit.Parts l.terminal (Word keyword.Num) is begins.num_part) num-alone (sees-one (word-seen keyword.Num) i f)
      by-kind false false true e f g h = starts-alone limit.Parts part-line (λ u l is. begins-as limit.Parts l.terminal (Word keyword.Word) is begins.word_part) word-alone (sees-one (word-seen keyword.Word) i g)
      by-kind false false false e f g h = cc

-- ---- declarations

module _ (m : Numbers) (some : (k : LimitKind) → 1 ≤ m.most k) where
  names-line : (which : LimitKind) → ((text : List ℕ) → Begins which (Name text)) → ((l : Lexeme) → IsSign symbol.Comma l → 1 ≤ wanted l which) → Recognizes Nothing m 0 Any (names m.most which) (λ n ls c x. AreSeparated (n.most which) IsOneName ls x)
  unfolding names
  names-line which begins wants = list-line m which sees_name name (λ n. IsOneName) one-name-line (one-name-starts which begins) (some which) wants

  pub enum-line : Recognizes Nothing m 0 Any (enum_decl m.most) (λ n ls c x. IsEnum n.most ls x)
  unfolding enum_decl
  enum-line = token-line (word-token keyword.Enum) (λ u k. token-line name-token (λ x l. token-line (sign-token symbol.OpenBrace) (λ v begin.
      then-line (names-line limit.Labels begins.label (λ l e. item-after l e)) (λ ls xs a. token-line (sign-token symbol.CloseBrace) (λ y end. pure-line _ (λ n f z p o name is. syntax.declared k l begin end is name o p z))))))

  pub enum-starts : (i : Input) → sees_word keyword.Enum i ≡ true → Starts Nothing m (λ n ls c x. IsEnum n.most ls x) i limit.Enums
  unfolding enum_decl name next
  enum-starts i h = starts-alone limit.Enums enum-line (λ u l is. begins-as limit.Enums l.terminal (Word keyword.Enum) is begins.enum) (λ u l st op is. rw (word-goes l [] st op keyword.Enum is) refl) (sees-one (word-seen keyword.Enum) i h)

  pub group-line : Recognizes Nothing m 0 Any (group m.most) (λ n ls c x. IsGroup n.most ls x)
  unfolding group
  group-line = choose-line (token-line (word-seen keyword.Group) (λ u k. then-line (names-line limit.GroupFields begins.group_field (λ l e. item-after l e)) (λ ns xs a. token-line (sign-token symbol.Semicolon) (λ y end.
      pure-line ns (λ n f z p is. syntax.group k end is p z))))) (pure-line [] (λ n f. syntax.none))

  int-line : Recognizes Nothing m 0 Any (int_cell m.most) (λ n ls c x. IsCell n.most ls x)
  unfolding int_cell
  int-line = token-line (word-token keyword.Int) (λ u k. then-line range-line (λ r xs a. token-line (sign-token symbol.Assign) (λ v equals. then-line num-line (λ first ys b.
      last-line (λ t. cell.Int r.0 r.1 first t) clamp-line (λ n zs c t cp p is rp int. syntax.int k equals int rp is p cp)))))

  nums-line : Recognizes Nothing m 0 Any (nums_cell m.most) (λ n ls c x. IsCell n.most ls x)
  unfolding nums_cell
  nums-line = token-line (word-token keyword.Nums) (λ u k. then-line range-line (λ r xs a.
      last-line (λ t. cell.Nums r.0 r.1 t) clamp-line (λ n zs c t cp rp is. syntax.nums k is rp cp)))

  parts-line : Recognizes Nothing m 0 Any (parts m.most) (λ n ls c x. AreSeparated (n.most limit.Parts) IsPart ls x)
  unfolding parts
  parts-line = list-line m limit.Parts begins_kind part (λ n. IsPart) part-line part-starts (some limit.Parts) (λ l e. item-after l e)

  hold-line : Recognizes Nothing m 0 Any (hold_cell m.most) (λ n ls c x. IsCell n.most ls x)
  unfolding hold_cell
  hold-line = token-line (word-token keyword.Hold) (λ u k. token-line (sign-token symbol.OpenParen) (λ v begin. then-line parts-line (λ ps xs a. token-line (sign-token symbol.CloseParen) (λ y end.
      pure-line _ (λ n f z p o is. syntax.hold k begin end is o p z)))))

  label-line : Recognizes Nothing m 0 Any (label_cell m.most) (λ n ls c x. IsCell n.most ls x)
  unfolding label_cell
  label-line = token-line name-token (λ x l. token-line (sign-token symbol.Assign) (λ u equals. token-line name-token (λ y k. pure-line _ (λ n f label is enum. syntax.label l equals k enum is label))))

  cell-line : Recognizes Nothing m 0 Any (cell_decl m.most) (λ n ls c x. IsCell n.most ls x)
  unfolding cell_decl
  cell-line = choose-line (seen-line int-line) (choose-line (seen-line nums-line)
      (choose-line (token-line (word-seen keyword.Words) (λ u k. pure-line cell.Words (λ n f is. syntax.words k is))) (choose-line (seen-line hold-line) label-line)))

  pub state-line : Recognizes Nothing m 0 Any (state m.most) (λ n ls c x. IsState n.most ls x)
  unfolding state
  state-line = token-line (word-token keyword.State) (λ u k. token-line name-token (λ x l. token-line (sign-token symbol.Colon) (λ v colon. then-line cell-line (λ t xs a.
      token-line (sign-token symbol.Semicolon) (λ y end. pure-line _ (λ n f z p is name state. syntax.declared k l colon end state name is p z))))))

  pub state-starts : (i : Input) → sees_word keyword.State i ≡ true → Starts Nothing m (λ n ls c x. IsState n.most ls x) i limit.Cells
  unfolding state name next
  state-starts i h = starts-alone limit.Cells state-line (λ u l is. begins-as limit.Cells l.terminal (Word keyword.State) is begins.cell) (λ u l st op is. rw (word-goes l [] st op keyword.State is) refl) (sees-one (word-seen keyword.State) i h)

  params-line : Recognizes Nothing m 0 Any (params m.most) (λ n ls c x. AreSeparated (n.most limit.Parameters) IsParam ls x)
  unfolding params
  params-line = list-line m limit.Parameters sees_name param (λ n. IsParam) param-line param-starts (some limit.Parameters) (λ l e. item-after l e)

  pub test-line : Recognizes Nothing m 0 Any (test_decl m.most) (λ n ls c x. IsTest n.most ls x)
  unfolding test_decl
  test-line = token-line (word-token keyword.Test) (λ u k. token-line name-token (λ x l. token-line (sign-token symbol.OpenParen) (λ v begin. then-line params-line (λ ps xs a.
      token-line (sign-token symbol.CloseParen) (λ y close. token-line (sign-token symbol.Assign) (λ t equals. then-line (value-line m) (λ e ys b. token-line (sign-token symbol.Semicolon) (λ s end.
      pure-line _ (λ n f z q is d p o name test. syntax.declared k l begin close equals end test name o p d is q z)))))))))

  pub test-starts : (i : Input) → sees_word keyword.Test i ≡ true → Starts Nothing m (λ n ls c x. IsTest n.most ls x) i limit.Tests
  unfolding test_decl name next
  test-starts i h = starts-alone limit.Tests test-line (λ u l is. begins-as limit.Tests l.terminal (Word keyword.Test) is begins.test) (λ u l st op is. rw (word-goes l [] st op keyword.Test is) refl) (sees-one (word-seen keyword.Test) i h)

  pub column-line : Recognizes Nothing m 0 Any (column m.most) (λ n ls c x. IsColumn n.most ls x)
  unfolding column
  column-line = token-line name-token (λ x l. token-line (sign-token symbol.Assign) (λ u equals. then-line (value-line m) (λ e xs a. token-line (sign-token symbol.Semicolon) (λ y end.
      pure-line _ (λ n f z p is name. syntax.column l equals end name is p z)))))

  pub column-starts : (i : Input) → sees_name i ≡ true → Starts Nothing m (λ n ls c x. IsColumn n.most ls x) i limit.Columns
  unfolding column sign sees_sign next
  column-starts i h = starts-alone limit.Columns column-line (λ x l is. begins-as limit.Columns l.terminal (Name x.text) is.text (begins.column x.text)) (λ x l st op is. rw (name-goes l [] st op x is) refl) (sees-a-name i h)
