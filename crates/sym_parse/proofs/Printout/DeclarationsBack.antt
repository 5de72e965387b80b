-- The pieces of declarations, and of a whole script, read as those, places aside.
use Rattle.std.proofs.Common.{◌≡◌, ℕ, suc, ◌+◌, ◌≤◌, ◌<◌, ℤ, pos, negsuc, Bool, true, false, ◌&&◌, nat_le, List, [], ◌∷◌, ◌++◌, map, length, Option, None, Some, refl, sym, ◌∙◌, ap, subst, arith}
use Rattle.std.proofs.lemmas.Bool.Decides.{nat_tests}
use Rattle.std.proofs.lemmas.List.{append-nil}
use Rattle.std.specs.List.{flat_map, list_all}
use Rattle.std.specs.Option.{option_map}
use Rattle.sym_base.specs.declared.tree.name.Name.{Name as NameRecord}
use Rattle.sym_base.specs.declared.tree.declaration.EnumDecl.{EnumDecl}
use Rattle.sym_base.specs.declared.tree.declaration.FieldDecl.{FieldDecl}
use Rattle.sym_base.specs.declared.tree.declaration.KindRef.{KindRef}
use Rattle.sym_base.specs.declared.tree.declaration.KindRef.TheVariants as kind
use Rattle.sym_base.specs.declared.tree.declaration.Literal.{Literal}
use Rattle.sym_base.specs.declared.tree.declaration.Literal.TheVariants as literal
use Rattle.sym_base.specs.declared.tree.declaration.Part.{Part}
use Rattle.sym_base.specs.declared.tree.declaration.CellDecl.{CellDecl}
use Rattle.sym_base.specs.declared.tree.declaration.CellDecl.TheVariants as cell
use Rattle.sym_base.specs.declared.tree.declaration.StateDecl.{StateDecl}
use Rattle.sym_base.specs.declared.tree.declaration.Param.{Param}
use Rattle.sym_base.specs.Lawful.{IsLawful, is_between, is_lawful_name, is_lawful_enum, is_lawful_field, is_lawful_state, is_lawful_cell, is_lawful_part, is_lawful_param, is_lawful_test, is_lawful_column, is_lawful_expr}
use Rattle.sym_base.specs.Limits.{max_labels, max_group_fields, max_parts, max_parameters, max_depth, max_enums, max_tests, max_statements, max_fields, max_cells, max_columns}
use Rattle.sym_base.specs.Sizes.{expr_depth}
use Rattle.sym_base.specs.Trees.{ScriptTree, TestTree, ColumnTree, StmtsTree}
use Rattle.sym_lex.specs.declared.keyword.Keyword.TheVariants as keyword
use Rattle.sym_lex.specs.declared.symbol.Symbol.TheVariants as symbol
use Rattle.sym_lex.specs.Terminals.{Number, Str}
use Rattle.sym_parse.specs.Bare.{bare_name, bare_expr, bare_kind, bare_literal, bare_enum, bare_field, bare_part, bare_cell, bare_state, bare_param, bare_test, bare_column, bare_stmts, bare_script}
use Rattle.sym_parse.specs.Lexemes.{Lexeme}
use Rattle.sym_parse.specs.Limits.{most}
use Rattle.sym_parse.specs.Syntax.Declarations.{AreItems, AreAtMost, AreFurther, AreSome, AreSeparated, IsOneName, IsNum, IsLiteral, IsKind, IsEnum, IsHeader, IsDefault, IsField, IsGroup, IsRange, IsClamp, IsPart, IsCell, IsState, IsParam, IsTest, IsColumn}
use Rattle.sym_parse.specs.Syntax.Scripts.{IsUpdate, IsReport, IsScript}
use Rattle.sym_parse.specs.Printed.{Piece, Space, Break, sign, expr, further, listed, one_name, num, kind_of, literal_of, enum_of, header_of, default_of, field_of, group_of, range, clamp_of, part_of, cell_of, state_of, param_of, test_of, column_of, block, stmts, update_of, report_of, script}
use Rattle.sym_parse.proofs.Printout.Pieces.{lexemes}
use Rattle.sym_parse.proofs.Printout.Unplaced.{few-items, few-statements}
use Rattle.sym_parse.proofs.Printout.Placing.{in_turn, key, mark, named, placed_name}
use Rattle.sym_parse.proofs.Printout.ExpressionsBack.{Like, both}
use Rattle.sym_parse.proofs.Printout.StatementsBack.{value-reads, block-reads, stmts-reads, within}

some-of : (least most n : ℕ) → is_between (suc least) most n ≡ true → 0 < n
some-of least most n h = let t = (both (nat_le (suc least) n) (nat_le n most) h).0 in grind (arith, nat_tests)

bounded : (least most n : ℕ) → is_between least most n ≡ true → n ≤ most
bounded least most n h = within n most (both (nat_le least n) (nat_le n most) h).1

some-few : (most n : ℕ) → 0 < n → n ≤ most → is_between 1 most n ≡ true
some-few most n some few =
    let least : nat_le 1 n ≡ true = grind (arith, nat_tests) in
    let largest : nat_le n most ≡ true = grind (arith, nat_tests) in
    rw (least, largest) refl

-- A script whose parts are equal.
script-same : {es es' : List EnumDecl} {fs fs' : List FieldDecl} {g g' : List NameRecord} {ss ss' : List StateDecl} {ts ts' : List TestTree} {u u' : StmtsTree} {cs cs' : List ColumnTree} →
    es ≡ es' → fs ≡ fs' → g ≡ g' → ss ≡ ss' → ts ≡ ts' → u ≡ u' → cs ≡ cs' →
    (let x : ScriptTree = record { enums = es; fields = fs; group = g; states = ss; tests = ts; update = u; columns = cs } in x)
    ≡ record { enums = es'; fields = fs'; group = g'; states = ss'; tests = ts'; update = u'; columns = cs' }
script-same a b c d e f g = cc

module _ (place : ℕ → ℕ) where
  -- ---- lists

  module _ {A B : Type 0} (pieces : A → List Piece) (Item : List Lexeme → A → Type 0) (bare : A → B) (lawful : A → Bool)
      (own : (a : A) → lawful a ≡ true → (k : ℕ) → Like Item bare (lexemes place k (pieces a)) a) where
    further-reads : (xs : List A) → list_all lawful xs ≡ true → (k : ℕ) → Like (AreFurther Item) (map bare) (lexemes place k (further pieces xs)) xs
    further-reads [] h k = record { tree = []; reads = AreFurther.none; same = refl }
    further-reads (x ∷ xs) h k =
        let parts = both (lawful x) (list_all lawful xs) h in
        in_turn place (k + 1) (pieces x) (further pieces xs)
        (λ ls. Like (AreFurther Item) (map bare) (mark place k symbol.Comma ∷ ls) (x ∷ xs))
        (λ j. let p = own x parts.0 (k + 1) in
        let q = further-reads xs parts.1 j in
        record {
          tree = p.tree ∷ q.tree;
          reads = AreFurther.more (mark place k symbol.Comma) refl p.reads q.reads;
          same = ap (λ b. b ∷ map bare q.tree) p.same ∙ ap (λ bs. bare x ∷ bs) q.same;
        })

    pub separated-reads : (most : ℕ) (xs : List A) → list_all lawful xs ≡ true → is_between 1 most (length xs) ≡ true → (k : ℕ) → Like (AreSeparated most Item) (map bare) (lexemes place k (listed pieces xs)) xs
    separated-reads most [] h n k = absurd (let m : 0 < 0 = some-of 0 most 0 n in let no : ⊥ = omega arith in no)
    separated-reads most (x ∷ xs) h n k =
        let parts = both (lawful x) (list_all lawful xs) h in
        in_turn place k (pieces x) (further pieces xs)
        (λ ls. Like (AreSeparated most Item) (map bare) ls (x ∷ xs))
        (λ j. let p = own x parts.0 k in
        let q = further-reads xs parts.1 j in
        let same : map bare (p.tree ∷ q.tree) ≡ map bare (x ∷ xs) = ap (λ b. b ∷ map bare q.tree) p.same ∙ ap (λ bs. bare x ∷ bs) q.same in
        record {
          tree = p.tree ∷ q.tree;
          reads = AreSeparated.some p.reads q.reads (few-items bare (p.tree ∷ q.tree) (x ∷ xs) most same (bounded 1 most (length (x ∷ xs)) n));
          same = same;
        })

    pub all-read : (xs : List A) → list_all lawful xs ≡ true → (k : ℕ) → Like (AreItems Item) (map bare) (lexemes place k (flat_map pieces xs)) xs
    all-read [] h k = record { tree = []; reads = AreItems.none; same = refl }
    all-read (x ∷ xs) h k =
        let parts = both (lawful x) (list_all lawful xs) h in
        in_turn place k (pieces x) (flat_map pieces xs)
        (λ ls. Like (AreItems Item) (map bare) ls (x ∷ xs))
        (λ j. let p = own x parts.0 k in
        let q = all-read xs parts.1 j in
        record {
          tree = p.tree ∷ q.tree;
          reads = AreItems.more p.reads q.reads;
          same = ap (λ b. b ∷ map bare q.tree) p.same ∙ ap (λ bs. bare x ∷ bs) q.same;
        })

    pub some-read : (most : ℕ) (xs : List A) → list_all lawful xs ≡ true → is_between 1 most (length xs) ≡ true → (k : ℕ) → Like (AreSome most Item) (map bare) (lexemes place k (flat_map pieces xs)) xs
    some-read most [] h n k = absurd (let m : 0 < 0 = some-of 0 most 0 n in let no : ⊥ = omega arith in no)
    some-read most (x ∷ xs) h n k =
        let parts = both (lawful x) (list_all lawful xs) h in
        in_turn place k (pieces x) (flat_map pieces xs)
        (λ ls. Like (AreSome most Item) (map bare) ls (x ∷ xs))
        (λ j. let p = own x parts.0 k in
        let q = all-read xs parts.1 j in
        let same : map bare (p.tree ∷ q.tree) ≡ map bare (x ∷ xs) = ap (λ b. b ∷ map bare q.tree) p.same ∙ ap (λ bs. bare x ∷ bs) q.same in
        record {
          tree = p.tree ∷ q.tree;
          reads = AreSome.some p.reads q.reads (few-items bare (p.tree ∷ q.tree) (x ∷ xs) most same (bounded 1 most (length (x ∷ xs)) n));
          same = same;
        })

    pub few-read : (most : ℕ) (xs : List A) → list_all lawful xs ≡ true → length xs ≤ most → (k : ℕ) → Like (AreAtMost most Item) (map bare) (lexemes place k (flat_map pieces xs)) xs
    few-read most xs h n k =
        let p = all-read xs h k in
        record { tree = p.tree; reads = AreAtMost.any p.reads (few-items bare p.tree xs most p.same n); same = p.same }

  -- ---- declarations

  name-reads : (n : NameRecord) → is_lawful_name n ≡ true → (k : ℕ) → Like IsOneName bare_name (lexemes place k (one_name n)) n
  name-reads n h k = record { tree = placed_name place k n; reads = IsOneName.name (named place k n) (record { text = refl; place = refl }); same = refl }

  num-reads : (n : ℤ) (k : ℕ) → IsNum (lexemes place k (num n)) n
  num-reads (pos n) k = IsNum.plain (record { terminal = Number (pos n); at = place k }) refl
  num-reads (negsuc n) k = IsNum.minus (mark place k symbol.Minus) (record { terminal = Number (pos (suc n)); at = place (k + 1) }) refl refl

  literal-reads : (v : Literal) (k : ℕ) → Like IsLiteral bare_literal (lexemes place k (literal_of v)) v
  literal-reads (literal.Num (pos n) at) k =
      record { tree = literal.Num (pos n) (place k); reads = IsLiteral.num (record { terminal = Number (pos n); at = place k }) (num-reads (pos n) k); same = refl }
  literal-reads (literal.Num (negsuc n) at) k =
      record { tree = literal.Num (negsuc n) (place k); reads = IsLiteral.num (mark place k symbol.Minus) (num-reads (negsuc n) k); same = refl }
  literal-reads (literal.Text bytes at) k =
      record { tree = literal.Text bytes (place k); reads = IsLiteral.text (record { terminal = Str bytes; at = place k }) refl; same = refl }
  literal-reads (literal.Named n) k =
      record { tree = literal.Named (placed_name place k n); reads = IsLiteral.name (named place k n) (record { text = refl; place = refl }); same = refl }

  kind-reads : (v : KindRef) (k : ℕ) → Like IsKind bare_kind (lexemes place k (kind_of v)) v
  kind-reads kind.Num k = record { tree = kind.Num; reads = IsKind.num (key place k keyword.Num) refl; same = refl }
  kind-reads kind.Word k = record { tree = kind.Word; reads = IsKind.word (key place k keyword.Word) refl; same = refl }
  kind-reads (kind.Named n) k = record { tree = kind.Named (placed_name place k n); reads = IsKind.name (named place k n) (record { text = refl; place = refl }); same = refl }

  enum-reads : (d : EnumDecl) → is_lawful_enum d ≡ true → (k : ℕ) → Like (IsEnum most) bare_enum (lexemes place k (enum_of d)) d
  enum-reads d h k =
      let parts = both (is_lawful_name d.name && is_between 1 max_labels (length d.labels)) (list_all is_lawful_name d.labels) h in
      let some = (both (is_lawful_name d.name) (is_between 1 max_labels (length d.labels)) parts.0).1 in
      in_turn place (k + 1 + 1 + 1) (listed one_name d.labels) (Space ∷ sign symbol.CloseBrace ∷ Break ∷ [])
      (λ ls. Like (IsEnum most) bare_enum (key place k keyword.Enum ∷ named place (k + 1) d.name ∷ mark place (k + 1 + 1) symbol.OpenBrace ∷ ls) d)
      (λ j. let labels = separated-reads one_name IsOneName bare_name is_lawful_name name-reads max_labels d.labels parts.1 some (k + 1 + 1 + 1) in
      record {
        tree = record { name = placed_name place (k + 1) d.name; labels = labels.tree };
        reads = IsEnum.declared (key place k keyword.Enum) (named place (k + 1) d.name) (mark place (k + 1 + 1) symbol.OpenBrace) (mark place j symbol.CloseBrace)
            refl (record { text = refl; place = refl }) refl labels.reads refl;
        same = ap (λ ls. let e : EnumDecl = record { name = bare_name d.name; labels = ls } in e) labels.same;
      })

  header-reads : (v : Option (List ℕ)) (k : ℕ) → IsHeader (lexemes place k (header_of v)) v
  header-reads None k = IsHeader.none
  header-reads (Some bytes) k = IsHeader.from (key place k keyword.From) (record { terminal = Str bytes; at = place (k + 1) }) refl refl

  default-reads : (v : Option Literal) (k : ℕ) → Like IsDefault (option_map bare_literal) (lexemes place k (default_of v)) v
  default-reads None k = record { tree = None; reads = IsDefault.none; same = refl }
  default-reads (Some v) k =
      let inside = literal-reads v (k + 1) in
      record { tree = Some inside.tree; reads = IsDefault.given (key place k keyword.Else) refl inside.reads; same = ap Some inside.same }

  field-reads : (d : FieldDecl) → is_lawful_field d ≡ true → (k : ℕ) → Like IsField bare_field (lexemes place k (field_of d)) d
  field-reads d h k =
      let T : List Piece = default_of d.default ++ sign symbol.Semicolon ∷ Break ∷ [] in
      in_turn place (k + 1 + 1) (header_of d.header) (sign symbol.Colon ∷ Space ∷ (kind_of d.kind ++ T))
      (λ ls. Like IsField bare_field (key place k keyword.Field ∷ named place (k + 1) d.name ∷ ls) d)
      (λ j. in_turn place (j + 1) (kind_of d.kind) T
      (λ ls. Like IsField bare_field (key place k keyword.Field ∷ named place (k + 1) d.name ∷ (lexemes place (k + 1 + 1) (header_of d.header) ++ mark place j symbol.Colon ∷ ls)) d)
      (λ i. in_turn place i (default_of d.default) (sign symbol.Semicolon ∷ Break ∷ [])
      (λ ls. Like IsField bare_field (key place k keyword.Field ∷ named place (k + 1) d.name ∷ (lexemes place (k + 1 + 1) (header_of d.header) ++ mark place j symbol.Colon ∷ (lexemes place (j + 1) (kind_of d.kind) ++ ls))) d)
      (λ m. let x = kind-reads d.kind (j + 1) in
      let y = default-reads d.default i in
      record {
        tree = record { name = placed_name place (k + 1) d.name; header = d.header; kind = x.tree; default = y.tree };
        reads = IsField.declared (key place k keyword.Field) (named place (k + 1) d.name) (mark place j symbol.Colon) (mark place m symbol.Semicolon)
            refl (record { text = refl; place = refl }) (header-reads d.header (k + 1 + 1)) refl x.reads y.reads refl;
        same = ap (λ v. let e : FieldDecl = record { name = bare_name d.name; header = d.header; kind = v; default = option_map bare_literal y.tree } in e) x.same
            ∙ ap (λ v. let e : FieldDecl = record { name = bare_name d.name; header = d.header; kind = bare_kind d.kind; default = v } in e) y.same;
      })))

  group-reads : (ns : List NameRecord) → list_all is_lawful_name ns ≡ true → length ns ≤ max_group_fields → (k : ℕ) → Like (IsGroup most) (map bare_name) (lexemes place k (group_of ns)) ns
  group-reads [] h few k = record { tree = []; reads = IsGroup.none; same = refl }
  group-reads (n ∷ ns) h few k =
      in_turn place (k + 1) (listed one_name (n ∷ ns)) (sign symbol.Semicolon ∷ Break ∷ [])
      (λ ls. Like (IsGroup most) (map bare_name) (key place k keyword.Group ∷ ls) (n ∷ ns))
      (λ j. let names = separated-reads one_name IsOneName bare_name is_lawful_name name-reads max_group_fields (n ∷ ns) h (some-few max_group_fields (length (n ∷ ns)) (omega arith) few) (k + 1) in
      record {
        tree = names.tree;
        reads = IsGroup.group (key place k keyword.Group) (mark place j symbol.Semicolon) refl names.reads refl;
        same = names.same;
      })

  range-reads : (lo hi : ℤ) (k : ℕ) → IsRange (lexemes place k (range lo hi)) (lo, hi)
  unfolding range
  range-reads lo hi k =
      in_turn place (k + 1) (num lo) (sign symbol.DotDot ∷ (num hi ++ sign symbol.CloseBracket ∷ []))
      (λ ls. IsRange (mark place k symbol.OpenBracket ∷ ls) (lo, hi))
      (λ j. in_turn place (j + 1) (num hi) (sign symbol.CloseBracket ∷ [])
      (λ ls. IsRange (mark place k symbol.OpenBracket ∷ (lexemes place (k + 1) (num lo) ++ mark place j symbol.DotDot ∷ ls)) (lo, hi))
      (λ i. IsRange.range (mark place k symbol.OpenBracket) (mark place j symbol.DotDot) (mark place i symbol.CloseBracket)
      refl (num-reads lo (k + 1)) refl (num-reads hi (j + 1)) refl))

  clamp-reads : (clamp : Bool) (k : ℕ) → IsClamp (lexemes place k (clamp_of clamp)) clamp
  unfolding clamp_of
  clamp-reads true k = IsClamp.clamp (key place k keyword.Clamp) refl
  clamp-reads false k = IsClamp.none

  part-reads : (d : Part) → is_lawful_part d ≡ true → (k : ℕ) → Like IsPart bare_part (lexemes place k (part_of d)) d
  part-reads d h k =
      in_turn place k (kind_of d.kind) (Space ∷ sign symbol.Assign ∷ Space ∷ literal_of d.first)
      (λ ls. Like IsPart bare_part ls d)
      (λ j. let x = kind-reads d.kind k in
      let y = literal-reads d.first (j + 1) in
      record {
        tree = record { kind = x.tree; first = y.tree };
        reads = IsPart.part (mark place j symbol.Assign) x.reads refl y.reads;
        same = ap (λ v. let e : Part = record { kind = v; first = bare_literal y.tree } in e) x.same
            ∙ ap (λ v. let e : Part = record { kind = bare_kind d.kind; first = v } in e) y.same;
      })

  cell-reads : (c : CellDecl) → is_lawful_cell c ≡ true → (k : ℕ) → Like (IsCell most) bare_cell (lexemes place k (cell_of c)) c
  cell-reads (cell.Int lo hi first clamp) h k =
      in_turn place (k + 1) (range lo hi) (Space ∷ sign symbol.Assign ∷ Space ∷ (num first ++ clamp_of clamp))
      (λ ls. Like (IsCell most) bare_cell (key place k keyword.Int ∷ ls) (cell.Int lo hi first clamp))
      (λ j. in_turn place (j + 1) (num first) (clamp_of clamp)
      (λ ls. Like (IsCell most) bare_cell (key place k keyword.Int ∷ (lexemes place (k + 1) (range lo hi) ++ mark place j symbol.Assign ∷ ls)) (cell.Int lo hi first clamp))
      (λ i. record {
        tree = cell.Int lo hi first clamp;
        reads = IsCell.int (key place k keyword.Int) (mark place j symbol.Assign) refl (range-reads lo hi (k + 1)) refl (num-reads first (j + 1)) (clamp-reads clamp i);
        same = refl;
      }))
  cell-reads (cell.Nums lo hi clamp) h k =
      in_turn place (k + 1) (range lo hi) (clamp_of clamp)
      (λ ls. Like (IsCell most) bare_cell (key place k keyword.Nums ∷ ls) (cell.Nums lo hi clamp))
      (λ j. record { tree = cell.Nums lo hi clamp; reads = IsCell.nums (key place k keyword.Nums) refl (range-reads lo hi (k + 1)) (clamp-reads clamp j); same = refl })
  cell-reads cell.Words h k = record { tree = cell.Words; reads = IsCell.words (key place k keyword.Words) refl; same = refl }
  cell-reads (cell.Hold parts) h k =
      let facts = both (is_between 1 max_parts (length parts)) (list_all is_lawful_part parts) h in
      in_turn place (k + 1 + 1) (listed part_of parts) (sign symbol.CloseParen ∷ [])
      (λ ls. Like (IsCell most) bare_cell (key place k keyword.Hold ∷ mark place (k + 1) symbol.OpenParen ∷ ls) (cell.Hold parts))
      (λ j. let inside = separated-reads part_of IsPart bare_part is_lawful_part part-reads max_parts parts facts.1 facts.0 (k + 1 + 1) in
      record {
        tree = cell.Hold inside.tree;
        reads = IsCell.hold (key place k keyword.Hold) (mark place (k + 1) symbol.OpenParen) (mark place j symbol.CloseParen) refl refl inside.reads refl;
        same = ap cell.Hold inside.same;
      })
  cell-reads (cell.Enum of first) h k = record {
    tree = cell.Enum (placed_name place k of) (placed_name place (k + 1 + 1) first);
    reads = IsCell.label (named place k of) (mark place (k + 1) symbol.Assign) (named place (k + 1 + 1) first) (record { text = refl; place = refl }) refl (record { text = refl; place = refl });
    same = refl;
  }

  state-reads : (d : StateDecl) → is_lawful_state d ≡ true → (k : ℕ) → Like (IsState most) bare_state (lexemes place k (state_of d)) d
  state-reads d h k =
      in_turn place (k + 1 + 1 + 1) (cell_of d.cell) (sign symbol.Semicolon ∷ Break ∷ [])
      (λ ls. Like (IsState most) bare_state (key place k keyword.State ∷ named place (k + 1) d.name ∷ mark place (k + 1 + 1) symbol.Colon ∷ ls) d)
      (λ j. let inside = cell-reads d.cell (both (is_lawful_name d.name) (is_lawful_cell d.cell) h).1 (k + 1 + 1 + 1) in
      record {
        tree = record { name = placed_name place (k + 1) d.name; cell = inside.tree };
        reads = IsState.declared (key place k keyword.State) (named place (k + 1) d.name) (mark place (k + 1 + 1) symbol.Colon) (mark place j symbol.Semicolon)
            refl (record { text = refl; place = refl }) refl inside.reads refl;
        same = ap (λ v. let e : StateDecl = record { name = bare_name d.name; cell = v } in e) inside.same;
      })

  param-reads : (d : Param) → is_lawful_param d ≡ true → (k : ℕ) → Like IsParam bare_param (lexemes place k (param_of d)) d
  param-reads d h k =
      let inside = kind-reads d.kind (k + 1 + 1) in
      record {
        tree = record { name = placed_name place k d.name; kind = inside.tree };
        reads = IsParam.param (named place k d.name) (mark place (k + 1) symbol.Colon) (record { text = refl; place = refl }) refl inside.reads;
        same = ap (λ v. let e : Param = record { name = bare_name d.name; kind = v } in e) inside.same;
      }

  test-reads : (d : TestTree) → is_lawful_test d ≡ true → (k : ℕ) → Like (IsTest most) bare_test (lexemes place k (test_of d)) d
  test-reads d h k =
      let deep = both (is_lawful_name d.name && is_between 1 max_parameters (length d.params) && list_all is_lawful_param d.params && is_lawful_expr d.body) (nat_le (expr_depth d.body) max_depth) h in
      let valued = both (is_lawful_name d.name && is_between 1 max_parameters (length d.params) && list_all is_lawful_param d.params) (is_lawful_expr d.body) deep.0 in
      let listing = both (is_lawful_name d.name && is_between 1 max_parameters (length d.params)) (list_all is_lawful_param d.params) valued.0 in
      let some = (both (is_lawful_name d.name) (is_between 1 max_parameters (length d.params)) listing.0).1 in
      let T : List Piece = expr d.body ++ sign symbol.Semicolon ∷ Break ∷ [] in
      in_turn place (k + 1 + 1 + 1) (listed param_of d.params) (sign symbol.CloseParen ∷ Space ∷ sign symbol.Assign ∷ Space ∷ T)
      (λ ls. Like (IsTest most) bare_test (key place k keyword.Test ∷ named place (k + 1) d.name ∷ mark place (k + 1 + 1) symbol.OpenParen ∷ ls) d)
      (λ j. in_turn place (j + 1 + 1) (expr d.body) (sign symbol.Semicolon ∷ Break ∷ [])
      (λ ls. Like (IsTest most) bare_test (key place k keyword.Test ∷ named place (k + 1) d.name ∷ mark place (k + 1 + 1) symbol.OpenParen ∷ (lexemes place (k + 1 + 1 + 1) (listed param_of d.params) ++ mark place j symbol.CloseParen ∷ mark place (j + 1) symbol.Assign ∷ ls)) d)
      (λ i. let x = separated-reads param_of IsParam bare_param is_lawful_param param-reads max_parameters d.params listing.1 some (k + 1 + 1 + 1) in
      let y = value-reads place d.body max_depth (j + 1 + 1) valued.1 (within (expr_depth d.body) max_depth deep.1) in
      record {
        tree = record { name = placed_name place (k + 1) d.name; params = x.tree; body = y.tree };
        reads = IsTest.declared (key place k keyword.Test) (named place (k + 1) d.name) (mark place (k + 1 + 1) symbol.OpenParen) (mark place j symbol.CloseParen) (mark place (j + 1) symbol.Assign) (mark place i symbol.Semicolon)
            refl (record { text = refl; place = refl }) refl x.reads refl refl y.reads refl;
        same = ap (λ v. let e : TestTree = record { name = bare_name d.name; params = v; body = bare_expr y.tree } in e) x.same
            ∙ ap (λ v. let e : TestTree = record { name = bare_name d.name; params = map bare_param d.params; body = v } in e) y.same;
      }))

  column-reads : (d : ColumnTree) → is_lawful_column d ≡ true → (k : ℕ) → Like (IsColumn most) bare_column (lexemes place k (column_of d)) d
  column-reads d h k =
      let deep = both (is_lawful_name d.name && is_lawful_expr d.value) (nat_le (expr_depth d.value) max_depth) h in
      let valued = both (is_lawful_name d.name) (is_lawful_expr d.value) deep.0 in
      in_turn place (k + 1 + 1) (expr d.value) (sign symbol.Semicolon ∷ Break ∷ [])
      (λ ls. Like (IsColumn most) bare_column (named place k d.name ∷ mark place (k + 1) symbol.Assign ∷ ls) d)
      (λ j. let inside = value-reads place d.value max_depth (k + 1 + 1) valued.1 (within (expr_depth d.value) max_depth deep.1) in
      record {
        tree = record { name = placed_name place k d.name; value = inside.tree };
        reads = IsColumn.column (named place k d.name) (mark place (k + 1) symbol.Assign) (mark place j symbol.Semicolon) (record { text = refl; place = refl }) refl inside.reads refl;
        same = ap (λ v. let e : ColumnTree = record { name = bare_name d.name; value = v } in e) inside.same;
      })

  -- ---- the script

  update-reads : (s : ScriptTree) → IsLawful s → (k : ℕ) → Like (IsUpdate most) bare_stmts (lexemes place k (update_of s.update)) s.update
  update-reads s h k =
      in_turn place (k + 1) (block 0 (stmts 1 s.update)) (Break ∷ [])
      (λ ls. Like (IsUpdate most) bare_stmts (key place k keyword.Update ∷ ls) s.update)
      (λ j. let inside = block-reads place 0 max_depth (k + 1) (stmts 1 s.update) s.update (λ i. stmts-reads place s.update h.statements 1 max_depth i h.depth) in
      record {
        tree = inside.tree;
        reads = subst (λ ls. IsUpdate most (key place k keyword.Update ∷ ls) inside.tree) (sym (append-nil (lexemes place (k + 1) (block 0 (stmts 1 s.update)))))
            (IsUpdate.update (key place k keyword.Update) refl inside.reads (few-statements inside.tree s.update max_statements inside.same h.statement_count));
        same = inside.same;
      })

  report-reads : (s : ScriptTree) → IsLawful s → (k : ℕ) → Like (IsReport most) (map bare_column) (lexemes place k (report_of s.columns)) s.columns
  report-reads s h k =
      in_turn place (k + 1 + 1) (flat_map column_of s.columns) (sign symbol.CloseBrace ∷ Break ∷ [])
      (λ ls. Like (IsReport most) (map bare_column) (key place k keyword.Report ∷ mark place (k + 1) symbol.OpenBrace ∷ ls) s.columns)
      (λ j. let inside = some-read column_of (IsColumn most) bare_column is_lawful_column column-reads max_columns s.columns h.columns h.column_count (k + 1 + 1) in
      record {
        tree = inside.tree;
        reads = IsReport.report (key place k keyword.Report) (mark place (k + 1) symbol.OpenBrace) (mark place j symbol.CloseBrace) refl refl inside.reads refl;
        same = inside.same;
      })

  pub script-reads : (s : ScriptTree) → IsLawful s → Like (IsScript most) bare_script (lexemes place 0 (script s)) s
  unfolding script
  script-reads s h =
      let E : List Piece = flat_map enum_of s.enums in
      let F : List Piece = flat_map field_of s.fields in
      let G : List Piece = group_of s.group in
      let S : List Piece = flat_map state_of s.states in
      let T : List Piece = flat_map test_of s.tests in
      let U : List Piece = update_of s.update in
      let R : List Piece = report_of s.columns in
      let P : List Lexeme → Type 0 = λ ls. Like (IsScript most) bare_script ls s in
      in_turn place 0 E (F ++ (G ++ (S ++ (T ++ (U ++ R))))) P
      (λ a. in_turn place a F (G ++ (S ++ (T ++ (U ++ R)))) (λ ls. P (lexemes place 0 E ++ ls))
      (λ b. in_turn place b G (S ++ (T ++ (U ++ R))) (λ ls. P (lexemes place 0 E ++ (lexemes place a F ++ ls)))
      (λ c. in_turn place c S (T ++ (U ++ R)) (λ ls. P (lexemes place 0 E ++ (lexemes place a F ++ (lexemes place b G ++ ls))))
      (λ d. in_turn place d T (U ++ R) (λ ls. P (lexemes place 0 E ++ (lexemes place a F ++ (lexemes place b G ++ (lexemes place c S ++ ls)))))
      (λ e. in_turn place e U R (λ ls. P (lexemes place 0 E ++ (lexemes place a F ++ (lexemes place b G ++ (lexemes place c S ++ (lexemes place d T ++ ls))))))
      (λ f.
      let es = few-read enum_of (IsEnum most) bare_enum is_lawful_enum enum-reads max_enums s.enums h.enums h.enum_count 0 in
      let fs = some-read field_of IsField bare_field is_lawful_field field-reads max_fields s.fields h.fields h.field_count a in
      let gs = group-reads s.group h.group h.group_count b in
      let ss = some-read state_of (IsState most) bare_state is_lawful_state state-reads max_cells s.states h.cells h.cell_count c in
      let ts = few-read test_of (IsTest most) bare_test is_lawful_test test-reads max_tests s.tests h.tests h.test_count d in
      let us = update-reads s h e in
      let rs = report-reads s h f in
      record {
        tree = record { enums = es.tree; fields = fs.tree; group = gs.tree; states = ss.tree; tests = ts.tree; update = us.tree; columns = rs.tree };
        reads = IsScript.script es.reads fs.reads gs.reads ss.reads ts.reads us.reads rs.reads;
        same = script-same es.same fs.same gs.same ss.same ts.same us.same rs.same;
      }))))))
