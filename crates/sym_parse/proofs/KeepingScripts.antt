-- Declarations and scripts are read the same up to a token, whatever follows it, and up to where a
-- limit is passed.
use Rattle.std.proofs.Common.{◌≡◌, ℕ, ◌-◌, neg_ℤ, Bool, true, false, ◌||◌, List, [], ◌∷◌, length, Option, Some, None, Err, refl, arith}
use Rattle.sym_base.specs.declared.tree.declaration.Literal.TheVariants as literal
use Rattle.sym_base.specs.declared.tree.declaration.KindRef.TheVariants as kind
use Rattle.sym_base.specs.declared.tree.declaration.CellDecl.TheVariants as cell
use Rattle.sym_lex.specs.declared.keyword.Keyword.TheVariants as keyword
use Rattle.sym_lex.specs.declared.symbol.Symbol.TheVariants as symbol
use Rattle.sym_parse.specs.declared.error.LimitKind.{LimitKind}
use Rattle.sym_parse.specs.declared.error.LimitKind.TheVariants as limit
use Rattle.sym_parse.specs.declared.stop.Stop.TheVariants as stop
use Rattle.sym_parse.specs.Steps.{Input, next, place, name_of, is_there, named, sees_word, sees_name, name}
use Rattle.sym_parse.specs.Parsing.Expressions.{expression}
use Rattle.sym_parse.specs.Parsing.Declarations.{num, literal_value, begins_kind, kind_ref, header, default_value, field, group, range, clamp, part, param, names, enum_decl, parts, int_cell, nums_cell, hold_cell, label_cell, cell_decl, state, params, test_decl, column}
use Rattle.sym_parse.specs.Parsing.Scripts.{enums, fields, states, tests, columns, report, script}
use Rattle.sym_parse.proofs.Keeping.{AtMost, Keeps, Even, then-keeps, choose-keeps, pure-keeps, sees-word-even, sees-sign-even, sees-name-even, sees-text-even, here-keeps, bump-keeps, word-keeps, sign-keeps, name-keeps, number-keeps, text-keeps, done-keeps, repeated-keeps, separated-keeps}
use Rattle.sym_parse.proofs.KeepingExpressions.{expression-keeps}
use Rattle.sym_parse.proofs.KeepingStatements.{update-keeps}

module _ {K : LimitKind → Type 0} where
  num-keeps : Keeps K num num
  unfolding num
  num-keeps = choose-keeps (sees-sign-even symbol.Minus) (then-keeps bump-keeps (λ u. then-keeps number-keeps (λ n. pure-keeps (neg_ℤ n)))) number-keeps

  literal-keeps : Keeps K literal_value literal_value
  unfolding literal_value
  literal-keeps = choose-keeps sees-text-even (then-keeps here-keeps (λ at. then-keeps text-keeps (λ t. pure-keeps (literal.Text t at))))
      (choose-keeps sees-name-even (then-keeps name-keeps (λ n. pure-keeps (literal.Named n)))
      (then-keeps here-keeps (λ at. then-keeps num-keeps (λ n. pure-keeps (literal.Num n at)))))

begins-kind-even : Even begins_kind
unfolding begins_kind
begins-kind-even us vs floor i j a = rw (sees-name-even us vs floor i j a, sees-word-even keyword.Num us vs floor i j a, sees-word-even keyword.Word us vs floor i j a) refl

module _ {K : LimitKind → Type 0} where
  kind-keeps : Keeps K kind_ref kind_ref
  unfolding kind_ref
  kind-keeps = choose-keeps (sees-word-even keyword.Num) (then-keeps bump-keeps (λ u. pure-keeps kind.Num))
      (choose-keeps (sees-word-even keyword.Word) (then-keeps bump-keeps (λ u. pure-keeps kind.Word))
      (then-keeps name-keeps (λ n. pure-keeps (kind.Named n))))

  header-keeps : Keeps K header header
  unfolding header
  header-keeps = choose-keeps (sees-word-even keyword.From) (then-keeps bump-keeps (λ u. then-keeps text-keeps (λ t. pure-keeps (Some t)))) (pure-keeps None)

  default-keeps : Keeps K default_value default_value
  unfolding default_value
  default-keeps = choose-keeps (sees-word-even keyword.Else) (then-keeps bump-keeps (λ u. then-keeps literal-keeps (λ v. pure-keeps (Some v)))) (pure-keeps None)

  field-keeps : Keeps K field field
  unfolding field
  field-keeps = then-keeps (word-keeps keyword.Field) (λ u. then-keeps name-keeps (λ n. then-keeps header-keeps (λ h. then-keeps (sign-keeps symbol.Colon) (λ v.
      then-keeps kind-keeps (λ k. then-keeps default-keeps (λ d. then-keeps (sign-keeps symbol.Semicolon) (λ w. pure-keeps (record { name = n; header = h; kind = k; default = d }))))))))

  clamp-keeps : Keeps K clamp clamp
  unfolding clamp
  clamp-keeps = choose-keeps (sees-word-even keyword.Clamp) (then-keeps bump-keeps (λ u. pure-keeps true)) (pure-keeps false)

  range-keeps : Keeps K range range
  unfolding range
  range-keeps = then-keeps (sign-keeps symbol.OpenBracket) (λ u. then-keeps num-keeps (λ lo. then-keeps (sign-keeps symbol.DotDot) (λ v.
      then-keeps num-keeps (λ hi. then-keeps (sign-keeps symbol.CloseBracket) (λ w. pure-keeps (lo, hi))))))

  part-keeps : Keeps K part part
  unfolding part
  part-keeps = then-keeps kind-keeps (λ k. then-keeps (sign-keeps symbol.Assign) (λ u. then-keeps literal-keeps (λ v. pure-keeps (record { kind = k; first = v }))))

  param-keeps : Keeps K param param
  unfolding param
  param-keeps = then-keeps name-keeps (λ n. then-keeps (sign-keeps symbol.Colon) (λ u. then-keeps kind-keeps (λ k. pure-keeps (record { name = n; kind = k }))))

-- ---- what begins no item

name-none-by : (i : Input) (n : ℕ) (o : Option (List ℕ)) → is_there o ≡ false → named n o i ≡ Err (stop.Expected (length i.rest))
name-none-by i n None e = refl
name-none-by i n (Some t) e = cc

name-none : (i : Input) → sees_name i ≡ false → name i ≡ Err (stop.Expected (length i.rest))
unfolding name sees_name
name-none i e = name-none-by i (place i) (name_of (next i)) e

param-none : (i : Input) → sees_name i ≡ false → param i ≡ Err (stop.Expected (length i.rest))
unfolding param
param-none i e = rw (name-none i e) refl

part-none-by : (i : Input) (a b c : Bool) → sees_name i ≡ a → sees_word keyword.Num i ≡ b → sees_word keyword.Word i ≡ c → a || (b || c) ≡ false → part i ≡ Err (stop.Expected (length i.rest))
unfolding part kind_ref
part-none-by i false false false e f g h = rw (f, g, name-none i e) refl
part-none-by i true b c e f g h = cc
part-none-by i false true c e f g h = cc
part-none-by i false false true e f g h = cc

part-none : (i : Input) → begins_kind i ≡ false → part i ≡ Err (stop.Expected (length i.rest))
unfolding begins_kind
part-none i e = part-none-by i (sees_name i) (sees_word keyword.Num i) (sees_word keyword.Word i) refl refl refl e

-- ---- with numbers

module _ {K : LimitKind → Type 0} (m n : LimitKind → ℕ) (wider : (k : LimitKind) → AtMost (K k) (m k) (n k)) where
  less-one : (k : LimitKind) → AtMost (K k) (m k - 1) (n k - 1)
  less-one k = let h = wider k in record { less = omega (arith, h.less); equal = λ s. omega (arith, h.equal s) }

  names-keeps : (which : LimitKind) → Keeps K (names m which) (names n which)
  unfolding names
  names-keeps which = then-keeps name-keeps (λ x. separated-keeps which sees_name sees-name-even name name name-keeps name-none (m which - 1) (n which - 1) (less-one which) (x ∷ []))

  group-keeps : Keeps K (group m) (group n)
  unfolding group
  group-keeps = choose-keeps (sees-word-even keyword.Group) (then-keeps bump-keeps (λ u. then-keeps (names-keeps limit.GroupFields) (λ ns. then-keeps (sign-keeps symbol.Semicolon) (λ v. pure-keeps ns)))) (pure-keeps [])

  enum-keeps : Keeps K (enum_decl m) (enum_decl n)
  unfolding enum_decl
  enum-keeps = then-keeps (word-keeps keyword.Enum) (λ u. then-keeps name-keeps (λ x. then-keeps (sign-keeps symbol.OpenBrace) (λ v.
      then-keeps (names-keeps limit.Labels) (λ ls. then-keeps (sign-keeps symbol.CloseBrace) (λ w. pure-keeps (record { name = x; labels = ls }))))))

  parts-keeps : Keeps K (parts m) (parts n)
  unfolding parts
  parts-keeps = then-keeps part-keeps (λ x. separated-keeps limit.Parts begins_kind begins-kind-even part part part-keeps part-none (m limit.Parts - 1) (n limit.Parts - 1) (less-one limit.Parts) (x ∷ []))

  int-keeps : Keeps K (int_cell m) (int_cell n)
  unfolding int_cell
  int-keeps = then-keeps (word-keeps keyword.Int) (λ u. then-keeps range-keeps (λ r. then-keeps (sign-keeps symbol.Assign) (λ v. then-keeps num-keeps (λ first. then-keeps clamp-keeps (λ c. pure-keeps (cell.Int r.0 r.1 first c))))))

  nums-keeps : Keeps K (nums_cell m) (nums_cell n)
  unfolding nums_cell
  nums-keeps = then-keeps (word-keeps keyword.Nums) (λ u. then-keeps range-keeps (λ r. then-keeps clamp-keeps (λ c. pure-keeps (cell.Nums r.0 r.1 c))))

  hold-keeps : Keeps K (hold_cell m) (hold_cell n)
  unfolding hold_cell
  hold-keeps = then-keeps (word-keeps keyword.Hold) (λ u. then-keeps (sign-keeps symbol.OpenParen) (λ v. then-keeps parts-keeps (λ ps. then-keeps (sign-keeps symbol.CloseParen) (λ w. pure-keeps (cell.Hold ps)))))

  label-keeps : Keeps K (label_cell m) (label_cell n)
  unfolding label_cell
  label-keeps = then-keeps name-keeps (λ of. then-keeps (sign-keeps symbol.Assign) (λ u. then-keeps name-keeps (λ first. pure-keeps (cell.Enum of first))))

  cell-keeps : Keeps K (cell_decl m) (cell_decl n)
  unfolding cell_decl
  cell-keeps = choose-keeps (sees-word-even keyword.Int) int-keeps (choose-keeps (sees-word-even keyword.Nums) nums-keeps
      (choose-keeps (sees-word-even keyword.Words) (then-keeps bump-keeps (λ u. pure-keeps cell.Words)) (choose-keeps (sees-word-even keyword.Hold) hold-keeps label-keeps)))

  state-keeps : Keeps K (state m) (state n)
  unfolding state
  state-keeps = then-keeps (word-keeps keyword.State) (λ u. then-keeps name-keeps (λ x. then-keeps (sign-keeps symbol.Colon) (λ v.
      then-keeps cell-keeps (λ c. then-keeps (sign-keeps symbol.Semicolon) (λ w. pure-keeps (record { name = x; cell = c }))))))

  params-keeps : Keeps K (params m) (params n)
  unfolding params
  params-keeps = then-keeps param-keeps (λ x. separated-keeps limit.Parameters sees_name sees-name-even param param param-keeps param-none (m limit.Parameters - 1) (n limit.Parameters - 1) (less-one limit.Parameters) (x ∷ []))

  value-keeps : Keeps K (expression m (m limit.Depth)) (expression n (n limit.Depth))
  value-keeps = expression-keeps m n wider (m limit.Depth) (n limit.Depth) (wider limit.Depth)

  test-keeps : Keeps K (test_decl m) (test_decl n)
  unfolding test_decl
  test-keeps = then-keeps (word-keeps keyword.Test) (λ u. then-keeps name-keeps (λ x. then-keeps (sign-keeps symbol.OpenParen) (λ v. then-keeps params-keeps (λ ps.
      then-keeps (sign-keeps symbol.CloseParen) (λ w. then-keeps (sign-keeps symbol.Assign) (λ y. then-keeps value-keeps (λ e. then-keeps (sign-keeps symbol.Semicolon) (λ z.
      pure-keeps (record { name = x; params = ps; body = e })))))))))

  column-keeps : Keeps K (column m) (column n)
  unfolding column
  column-keeps = then-keeps name-keeps (λ x. then-keeps (sign-keeps symbol.Assign) (λ u. then-keeps value-keeps (λ e. then-keeps (sign-keeps symbol.Semicolon) (λ v. pure-keeps (record { name = x; value = e })))))

  enums-keeps : Keeps K (enums m) (enums n)
  unfolding enums
  enums-keeps = repeated-keeps limit.Enums (sees_word keyword.Enum) (sees-word-even keyword.Enum) (enum_decl m) (enum_decl n) enum-keeps (m limit.Enums) (n limit.Enums) (wider limit.Enums) []

  fields-keeps : Keeps K (fields m) (fields n)
  unfolding fields
  fields-keeps = then-keeps field-keeps (λ x. repeated-keeps limit.Fields (sees_word keyword.Field) (sees-word-even keyword.Field) field field field-keeps (m limit.Fields - 1) (n limit.Fields - 1) (less-one limit.Fields) (x ∷ []))

  states-keeps : Keeps K (states m) (states n)
  unfolding states
  states-keeps = then-keeps state-keeps (λ x. repeated-keeps limit.Cells (sees_word keyword.State) (sees-word-even keyword.State) (state m) (state n) state-keeps (m limit.Cells - 1) (n limit.Cells - 1) (less-one limit.Cells) (x ∷ []))

  tests-keeps : Keeps K (tests m) (tests n)
  unfolding tests
  tests-keeps = repeated-keeps limit.Tests (sees_word keyword.Test) (sees-word-even keyword.Test) (test_decl m) (test_decl n) test-keeps (m limit.Tests) (n limit.Tests) (wider limit.Tests) []

  columns-keeps : Keeps K (columns m) (columns n)
  unfolding columns
  columns-keeps = then-keeps column-keeps (λ x. repeated-keeps limit.Columns sees_name sees-name-even (column m) (column n) column-keeps (m limit.Columns - 1) (n limit.Columns - 1) (less-one limit.Columns) (x ∷ []))

  report-keeps : Keeps K (report m) (report n)
  unfolding report
  report-keeps = then-keeps (word-keeps keyword.Report) (λ u. then-keeps (sign-keeps symbol.OpenBrace) (λ v. then-keeps columns-keeps (λ cs. then-keeps (sign-keeps symbol.CloseBrace) (λ w. pure-keeps cs))))

  pub script-keeps : Keeps K (script m) (script n)
  unfolding script
  script-keeps = then-keeps enums-keeps (λ es. then-keeps fields-keeps (λ fs. then-keeps group-keeps (λ g. then-keeps states-keeps (λ ss. then-keeps tests-keeps (λ ts.
      then-keeps (update-keeps m n wider) (λ u. then-keeps report-keeps (λ cs. then-keeps done-keeps (λ w.
      pure-keeps (record { enums = es; fields = fs; group = g; states = ss; tests = ts; update = u; columns = cs })))))))))
