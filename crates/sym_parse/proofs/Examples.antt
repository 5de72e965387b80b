-- What some texts are read as, and how a script is printed.
use Rattle.std.proofs.Common.{◌≡◌, ℕ, zero, suc, pos, List, [], ◌∷◌, ◌++◌, true, None, codes, Ok, Err, refl, lit<}
use Rattle.std.proofs.lemmas.Fmt.{decimal_digit}
use Rattle.sym_base.specs.declared.tree.expression.BinOp.TheVariants as op
use Rattle.sym_base.specs.declared.tree.declaration.KindRef.TheVariants as kind
use Rattle.sym_base.specs.declared.tree.declaration.CellDecl.TheVariants as cell
use Rattle.sym_base.specs.Trees.{ScriptTree, Num, Named, Bin, Set, Done, Then}
use Rattle.sym_lex.specs.declared.error.LexFault.TheVariants.{BadNumber}
use Rattle.sym_lex.specs.Keywords.{keyword_of, keywords}
use Rattle.sym_lex.specs.Lexing.{lexed_from}
use Rattle.sym_lex.specs.Symbols.{symbol_of, symbols}
use Rattle.sym_parse.specs.declared.error.LimitKind.TheVariants.{Enums, Labels, Fields, Cells, Tests, Parameters, Parts, Statements, Depth, Operands, Columns, GroupFields}
use Rattle.sym_parse.specs.declared.error.ParseErr.TheVariants.{Lex, Expected, Limit}
use Rattle.sym_parse.specs.Answers.{parsed}
use Rattle.sym_parse.specs.Parsing.Declarations.{num, literal_value, kind_ref, begins_kind, header, default_value, field, group, range, clamp, names, enum_decl, part, parts, param, params, int_cell, hold_cell, cell_decl, state, test_decl, column}
use Rattle.sym_parse.specs.Parsing.Expressions.{chain, chain_from, call_or_name, number_leaf, named, parens, primary, unary, product, sum, relation, negation, conjunction, expr, lines, expression}
use Rattle.sym_parse.specs.Parsing.Scripts.{enums, fields, states, tests, columns, report, script}
use Rattle.sym_parse.specs.Parsing.Statements.{begins_statement, assignment, simple, statement, statements, statements_from, block, update}
use Rattle.sym_parse.specs.Places.{IsUnexpected, IsPassed}
use Rattle.sym_parse.proofs.Refusing.{text-unexpected, text-passed}
use Rattle.sym_parse.specs.Printed as form
use Rattle.sym_parse.specs.Printed.{script_text}
use Rattle.sym_parse.specs.Steps.{next, place, passed, sees_word, sees_sign, sees_name, sees_number, sees_text, is_done, word, sign, name, number, done, one_statement, one_operand, opening, repeated, separated}

-- A script begins with a field at the latest.
no_bytes : parsed [] ≡ Err (Expected 0)
unfolding parsed lexed_from next sees_word word repeated enums fields field script
no_bytes = refl

-- After a field's name stands its header or a `:`.
no_colon : parsed (codes "field x num;") ≡ Err (Expected 8)
unfolding parsed lexed_from keyword_of keywords symbol_of symbols next place passed sees_word sees_sign word sign name repeated header field enums fields script
no_colon = refl

-- A lexical fault is answered before the place at which the tokens stop.
no_number : parsed (codes "field x num; 12x") ≡ Err (Lex (BadNumber 13))
unfolding parsed lexed_from keyword_of keywords symbol_of symbols
no_number = refl

-- After a name that begins a statement stands a `=`.
no_assign : parsed (codes "field x: num; state n: int [0..3] = 0; update { n 1; } report { n = n; }") ≡ Err (Expected 50)
unfolding parsed lexed_from keyword_of keywords symbol_of symbols next place passed sees_word sees_sign sees_name word sign name number repeated header kind_ref default_value num range clamp int_cell cell_decl field group state enums fields states tests one_statement begins_statement assignment simple statement statements_from statements block update script
no_assign = refl

-- At these places, and before none, no sentence goes on.
no_bytes_there : IsUnexpected [] 0
no_bytes_there = text-unexpected [] 0 no_bytes

no_colon_there : IsUnexpected (codes "field x num;") 8
no_colon_there = text-unexpected (codes "field x num;") 8 no_colon

no_assign_there : IsUnexpected (codes "field x: num; state n: int [0..3] = 0; update { n 1; } report { n = n; }") 50
no_assign_there = text-unexpected (codes "field x: num; state n: int [0..3] = 0; update { n 1; } report { n = n; }") 50 no_assign

-- A hold cell has at most four parts.
fifth_part : parsed (codes "field x: num; state n: hold(num = 0, num = 0, num = 0, num = 0, num = 0);") ≡ Err (Limit 64 Parts)
unfolding parsed lexed_from keyword_of keywords symbol_of symbols next place passed sees_word sees_sign sees_name sees_text word sign name number repeated separated header kind_ref begins_kind default_value num literal_value part parts hold_cell cell_decl field group state enums fields states script
fifth_part = refl

-- A group line has at most three fields.
fourth_group_field : parsed (codes "field a: num; group a, a, a, a;") ≡ Err (Limit 29 GroupFields)
unfolding parsed lexed_from keyword_of keywords symbol_of symbols next place passed sees_word sees_sign sees_name word sign name repeated separated header kind_ref default_value field names group enums fields script
fourth_group_field = refl

-- At these places their limits are passed.
fifth_part_there : IsPassed (codes "field x: num; state n: hold(num = 0, num = 0, num = 0, num = 0, num = 0);") 64 Parts
fifth_part_there = text-passed (codes "field x: num; state n: hold(num = 0, num = 0, num = 0, num = 0, num = 0);") 64 Parts fifth_part

fourth_group_field_there : IsPassed (codes "field a: num; group a, a, a, a;") 29 GroupFields
fourth_group_field_there = text-passed (codes "field a: num; group a, a, a, a;") 29 GroupFields fourth_group_field

-- ---- a limit of each kind

-- A text so many times.
abbrev many : ℕ → List ℕ → List ℕ
many zero text = []
many (suc n) text = text ++ many n text

-- At most 16 enums stand in a script.
seventeenth_enum : IsPassed (many 16 (codes "enum a{b}") ++ codes "enum") 144 Enums
unfolding parsed lexed_from keyword_of keywords symbol_of symbols next place passed sees_word sees_sign sees_name sees_number sees_text is_done word sign name number done one_statement one_operand opening repeated separated chain chain_from call_or_name number_leaf named parens primary unary product sum relation negation conjunction expr lines expression header kind_ref begins_kind default_value num range clamp literal_value part param params parts hold_cell cell_decl field names enum_decl group state test_decl column enums fields states tests columns report begins_statement assignment simple statement statements_from statements block update script
seventeenth_enum = text-passed (many 16 (codes "enum a{b}") ++ codes "enum") 144 Enums refl

-- An enum has at most 32 labels.
another_label : IsPassed (codes "enum a{b" ++ many 32 (codes ",b")) 71 Labels
unfolding parsed lexed_from keyword_of keywords symbol_of symbols next place passed sees_word sees_sign sees_name sees_number sees_text is_done word sign name number done one_statement one_operand opening repeated separated chain chain_from call_or_name number_leaf named parens primary unary product sum relation negation conjunction expr lines expression header kind_ref begins_kind default_value num range clamp literal_value part param params parts hold_cell cell_decl field names enum_decl group state test_decl column enums fields states tests columns report begins_statement assignment simple statement statements_from statements block update script
another_label = text-passed (codes "enum a{b" ++ many 32 (codes ",b")) 71 Labels refl

-- At most 32 fields stand in a script.
another_field : IsPassed (many 32 (codes "field a:num;") ++ codes "field") 384 Fields
unfolding parsed lexed_from keyword_of keywords symbol_of symbols next place passed sees_word sees_sign sees_name sees_number sees_text is_done word sign name number done one_statement one_operand opening repeated separated chain chain_from call_or_name number_leaf named parens primary unary product sum relation negation conjunction expr lines expression header kind_ref begins_kind default_value num range clamp literal_value part param params parts hold_cell cell_decl field names enum_decl group state test_decl column enums fields states tests columns report begins_statement assignment simple statement statements_from statements block update script
another_field = text-passed (many 32 (codes "field a:num;") ++ codes "field") 384 Fields refl

-- At most 32 cells stand in a script.
another_cell : IsPassed (codes "field a:num;" ++ (many 32 (codes "state b:words;") ++ codes "state")) 460 Cells
unfolding parsed lexed_from keyword_of keywords symbol_of symbols next place passed sees_word sees_sign sees_name sees_number sees_text is_done word sign name number done one_statement one_operand opening repeated separated chain chain_from call_or_name number_leaf named parens primary unary product sum relation negation conjunction expr lines expression header kind_ref begins_kind default_value num range clamp literal_value part param params parts hold_cell cell_decl field names enum_decl group state test_decl column enums fields states tests columns report begins_statement assignment simple statement statements_from statements block update script
another_cell = text-passed (codes "field a:num;" ++ (many 32 (codes "state b:words;") ++ codes "state")) 460 Cells refl

-- At most 32 tests stand in a script.
another_test : IsPassed (codes "field a:num;state b:words;" ++ (many 32 (codes "test c(d:num)=1;") ++ codes "test")) 538 Tests
unfolding parsed lexed_from keyword_of keywords symbol_of symbols next place passed sees_word sees_sign sees_name sees_number sees_text is_done word sign name number done one_statement one_operand opening repeated separated chain chain_from call_or_name number_leaf named parens primary unary product sum relation negation conjunction expr lines expression header kind_ref begins_kind default_value num range clamp literal_value part param params parts hold_cell cell_decl field names enum_decl group state test_decl column enums fields states tests columns report begins_statement assignment simple statement statements_from statements block update script
another_test = text-passed (codes "field a:num;state b:words;" ++ (many 32 (codes "test c(d:num)=1;") ++ codes "test")) 538 Tests refl

-- A test has at most 8 parameters.
ninth_parameter : IsPassed (codes "field a:num;state b:words;test c(" ++ (many 8 (codes "d:num,") ++ codes "d")) 81 Parameters
unfolding parsed lexed_from keyword_of keywords symbol_of symbols next place passed sees_word sees_sign sees_name sees_number sees_text is_done word sign name number done one_statement one_operand opening repeated separated chain chain_from call_or_name number_leaf named parens primary unary product sum relation negation conjunction expr lines expression header kind_ref begins_kind default_value num range clamp literal_value part param params parts hold_cell cell_decl field names enum_decl group state test_decl column enums fields states tests columns report begins_statement assignment simple statement statements_from statements block update script
ninth_parameter = text-passed (codes "field a:num;state b:words;test c(" ++ (many 8 (codes "d:num,") ++ codes "d")) 81 Parameters refl

-- An update has at most 512 statements.
another_statement : IsPassed (codes "field a:num;state b:words;update{" ++ (many 512 (codes "b=1;") ++ codes "b")) 2081 Statements
unfolding parsed lexed_from keyword_of keywords symbol_of symbols next place passed sees_word sees_sign sees_name sees_number sees_text is_done word sign name number done one_statement one_operand opening repeated separated chain chain_from call_or_name number_leaf named parens primary unary product sum relation negation conjunction expr lines expression header kind_ref begins_kind default_value num range clamp literal_value part param params parts hold_cell cell_decl field names enum_decl group state test_decl column enums fields states tests columns report begins_statement assignment simple statement statements_from statements block update script
another_statement = text-passed (codes "field a:num;state b:words;update{" ++ (many 512 (codes "b=1;") ++ codes "b")) 2081 Statements refl

-- At most 64 levels are open at once.
another_level : IsPassed (codes "field a:num;state b:words;test c(d:num)=" ++ many 65 (codes "(")) 104 Depth
unfolding parsed lexed_from keyword_of keywords symbol_of symbols next place passed sees_word sees_sign sees_name sees_number sees_text is_done word sign name number done one_statement one_operand opening repeated separated chain chain_from call_or_name number_leaf named parens primary unary product sum relation negation conjunction expr lines expression header kind_ref begins_kind default_value num range clamp literal_value part param params parts hold_cell cell_decl field names enum_decl group state test_decl column enums fields states tests columns report begins_statement assignment simple statement statements_from statements block update script
another_level = text-passed (codes "field a:num;state b:words;test c(d:num)=" ++ many 65 (codes "(")) 104 Depth refl

-- An expression has at most 256 operands.
another_operand : IsPassed (codes "field a:num;state b:words;test c(d:num)=1" ++ many 256 (codes "+1")) 552 Operands
unfolding parsed lexed_from keyword_of keywords symbol_of symbols next place passed sees_word sees_sign sees_name sees_number sees_text is_done word sign name number done one_statement one_operand opening repeated separated chain chain_from call_or_name number_leaf named parens primary unary product sum relation negation conjunction expr lines expression header kind_ref begins_kind default_value num range clamp literal_value part param params parts hold_cell cell_decl field names enum_decl group state test_decl column enums fields states tests columns report begins_statement assignment simple statement statements_from statements block update script
another_operand = text-passed (codes "field a:num;state b:words;test c(d:num)=1" ++ many 256 (codes "+1")) 552 Operands refl

-- A report has at most 32 columns.
another_column : IsPassed (codes "field a:num;state b:words;update{}report{" ++ (many 32 (codes "e=1;") ++ codes "e")) 169 Columns
unfolding parsed lexed_from keyword_of keywords symbol_of symbols next place passed sees_word sees_sign sees_name sees_number sees_text is_done word sign name number done one_statement one_operand opening repeated separated chain chain_from call_or_name number_leaf named parens primary unary product sum relation negation conjunction expr lines expression header kind_ref begins_kind default_value num range clamp literal_value part param params parts hold_cell cell_decl field names enum_decl group state test_decl column enums fields states tests columns report begins_statement assignment simple statement statements_from statements block update script
another_column = text-passed (codes "field a:num;state b:words;update{}report{" ++ (many 32 (codes "e=1;") ++ codes "e")) 169 Columns refl

-- ---- a counter of each x: its cell goes up by one at each record, to 3 at most

abbrev counter : ScriptTree
counter = record {
  enums = [];
  fields = record { name = record { text = codes "x"; at = 6 }; header = None; kind = kind.Num; default = None } ∷ [];
  group = record { text = codes "x"; at = 20 } ∷ [];
  states = record { name = record { text = codes "n"; at = 29 }; cell = cell.Int (pos 0) (pos 3) (pos 0) true } ∷ [];
  tests = [];
  update = Then (Set (record { text = codes "n"; at = 65 }) (Bin op.Add (Named (record { text = codes "n"; at = 69 })) (Num (pos 1) 73) 71)) Done;
  columns = record { name = record { text = codes "n"; at = 89 }; value = Named (record { text = codes "n"; at = 93 }) } ∷ [];
}

abbrev counter_text : List ℕ
counter_text = codes "field x: num;\ngroup x;\nstate n: int [0..3] = 0 clamp;\nupdate {\n  n = n + 1;\n}\nreport {\n  n = n;\n}\n"

printed : script_text counter ≡ counter_text
unfolding script_text form.script form.range form.clamp_of
printed = rw (decimal_digit 0 (lit< tt), decimal_digit 1 (lit< tt), decimal_digit 3 (lit< tt)) refl

read : parsed counter_text ≡ Ok counter
unfolding parsed lexed_from keyword_of keywords symbol_of symbols next place passed sees_word sees_sign sees_name sees_number sees_text is_done word sign name number done one_statement one_operand repeated separated chain chain_from call_or_name number_leaf named primary unary product sum relation negation conjunction expr expression header kind_ref default_value num range clamp int_cell cell_decl field names group state column enums fields states tests columns report begins_statement assignment simple statement statements_from statements block update script
read = refl
