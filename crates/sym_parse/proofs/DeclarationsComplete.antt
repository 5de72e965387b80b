-- Declarations are read where they stand.
use Rattle.std.proofs.Common.{ℕ, ℤ, Bool, false, List, ◌∷◌, ◌++◌, Option, refl}
use Rattle.sym_base.specs.declared.tree.name.Name.{Name as NameRecord}
use Rattle.sym_base.specs.declared.tree.declaration.Literal.{Literal}
use Rattle.sym_base.specs.declared.tree.declaration.Literal.TheVariants as literal
use Rattle.sym_base.specs.declared.tree.declaration.CellDecl.{CellDecl}
use Rattle.sym_lex.specs.declared.keyword.Keyword.TheVariants as keyword
use Rattle.sym_lex.specs.declared.symbol.Symbol.TheVariants as symbol
use Rattle.sym_parse.specs.declared.error.LimitKind.{LimitKind}
use Rattle.sym_parse.specs.declared.error.LimitKind.TheVariants as limit
use Rattle.sym_parse.specs.Lexemes.{Lexeme}
use Rattle.sym_parse.specs.Steps.{◌>>=◌, pure, text, sees_word, sees_sign, sees_name, sees_text, name}
use Rattle.sym_parse.specs.Syntax.Declarations as syntax
use Rattle.sym_parse.specs.Syntax.Declarations.{AreSeparated, IsOneName, IsNum, IsLiteral, IsKind, IsEnum, IsHeader, IsDefault, IsField, IsGroup, IsRange, IsPart, IsClamp, IsCell, IsState, IsParam, IsTest, IsColumn}
use Rattle.sym_parse.specs.Parsing.Declarations.{num, literal_value, kind_ref, header, default_value, field, group, range, clamp, part, param, names, enum_decl, parts, int_cell, nums_cell, hold_cell, label_cell, cell_decl, state, params, test_decl, column}
use Rattle.sym_parse.proofs.Recognizing.{Statements}
use Rattle.sym_parse.proofs.Reading.{Reads, Complete, Finds, word-is, sign-is, name-is, text-is, pure-reads, then-reads, last-reads, yes-reads, no-reads, word-then, sign-then, name-then, number-then, text-then, bump-then, here-then, name-reads, number-reads, separated-reads}
use Rattle.sym_parse.proofs.ExpressionsComplete.{loose, expression-reads}

-- ---- parts of declarations

one-name-reads : Complete name IsOneName
one-name-reads _ rest k _ (syntax.name l is) = name-reads is

num-reads : Complete num IsNum
unfolding num
num-reads _ rest k _ (syntax.plain l is) = no-reads _ (sign-is is _ refl) (number-reads is)
num-reads _ rest k _ (syntax.minus s l minus is) = yes-reads _ (sign-is minus _ refl) (bump-then (number-then _ is pure-reads))

-- A number begins with a digit or a minus.
num-finds : (ls rest : List Lexeme) (n : ℤ) → IsNum ls n → Finds sees_text (ls ++ rest) false × Finds sees_name (ls ++ rest) false
num-finds _ rest _ (syntax.plain l is) = (text-is is refl, name-is is refl)
num-finds _ rest _ (syntax.minus s l minus is) = (text-is minus refl, name-is minus refl)

literal-reads : Complete literal_value IsLiteral
unfolding literal_value
literal-reads _ rest k _ (syntax.num {xs} {n} l p) = let f = num-finds (l ∷ xs) rest n p in no-reads _ f.0 (no-reads _ f.1 (here-then (λ at. num >>= (λ x. pure (literal.Num x at))) (last-reads _ (num-reads (l ∷ xs) rest k n p) pure-reads)))
literal-reads _ rest k _ (syntax.text l is) = yes-reads _ (text-is is refl) (here-then (λ at. text >>= (λ t. pure (literal.Text t at))) (text-then _ is pure-reads))
literal-reads _ rest k _ (syntax.name l is) = no-reads _ (text-is is.text refl) (yes-reads _ (name-is is.text refl) (name-then _ is pure-reads))

kind-reads : Complete kind_ref IsKind
unfolding kind_ref
kind-reads _ rest k _ (syntax.num l is) = yes-reads _ (word-is is _ refl) (bump-then pure-reads)
kind-reads _ rest k _ (syntax.word l is) = no-reads _ (word-is is _ refl) (yes-reads _ (word-is is _ refl) (bump-then pure-reads))
kind-reads _ rest k _ (syntax.name l is) = no-reads _ (word-is is.text _ refl) (no-reads _ (word-is is.text _ refl) (name-then _ is pure-reads))

header-reads : (ls rest : List Lexeme) (k : ℕ) (h : Option (List ℕ)) → IsHeader ls h → Finds (sees_word keyword.From) rest false → Reads Statements header ls rest k k h
unfolding header
header-reads _ rest k _ syntax.none e = no-reads _ e pure-reads
header-reads _ rest k _ (syntax.from w l a b) e = yes-reads _ (word-is a _ refl) (bump-then (text-then _ b pure-reads))

default-reads : (ls rest : List Lexeme) (k : ℕ) (d : Option Literal) → IsDefault ls d → Finds (sees_word keyword.Else) rest false → Reads Statements default_value ls rest k k d
unfolding default_value
default-reads _ rest k _ syntax.none e = no-reads _ e pure-reads
default-reads _ rest k _ (syntax.given {xs} {v} w a p) e = yes-reads _ (word-is a _ refl) (bump-then (last-reads _ (literal-reads xs rest k v p) pure-reads))

clamp-reads : (ls rest : List Lexeme) (k : ℕ) (c : Bool) → IsClamp ls c → Finds (sees_word keyword.Clamp) rest false → Reads Statements clamp ls rest k k c
unfolding clamp
clamp-reads _ rest k _ syntax.none e = no-reads _ e pure-reads
clamp-reads _ rest k _ (syntax.clamp w a) e = yes-reads _ (word-is a _ refl) (bump-then pure-reads)

pub field-reads : Complete field IsField
unfolding field
field-reads _ rest k _ (syntax.declared w l colon end a b hp c kp dp z) =
    word-then a (name-then _ b (then-reads _ (header-reads _ _ k _ hp (word-is c _ refl)) (sign-then c (then-reads _ (kind-reads _ _ k _ kp) (then-reads _ (default-reads _ _ k _ dp (word-is z _ refl)) (sign-then z pure-reads))))))

range-reads : Complete range IsRange
unfolding range
range-reads _ rest k _ (syntax.range begin dots end a p b q z) = sign-then a (then-reads _ (num-reads _ _ k _ p) (sign-then b (then-reads _ (num-reads _ _ k _ q) (sign-then z pure-reads))))

part-reads : Complete part IsPart
unfolding part
part-reads _ rest k _ (syntax.part equals p a q) = then-reads _ (kind-reads _ _ k _ p) (sign-then a (last-reads _ (literal-reads _ _ k _ q) pure-reads))

param-reads : Complete param IsParam
unfolding param
param-reads _ rest k _ (syntax.param l colon a b p) = name-then _ a (sign-then b (last-reads _ (kind-reads _ _ k _ p) pure-reads))

-- ---- declarations

module _ (most : LimitKind → ℕ) where
  names-read : (which : LimitKind) (ls rest : List Lexeme) (k : ℕ) (ns : List NameRecord) → AreSeparated (most which) IsOneName ls ns → Finds (sees_sign symbol.Comma) rest false → Reads Statements (names most which) ls rest k k ns
  unfolding names
  names-read which = separated-reads _ _ one-name-reads

  pub enum-reads : Complete (enum_decl most) (IsEnum most)
  unfolding enum_decl
  enum-reads _ rest k _ (syntax.declared w l begin end a b c p z) = word-then a (name-then _ b (sign-then c (then-reads _ (names-read limit.Labels _ _ k _ p (sign-is z _ refl)) (sign-then z pure-reads))))

  pub group-reads : (ls rest : List Lexeme) (k : ℕ) (g : List NameRecord) → IsGroup most ls g → Finds (sees_word keyword.Group) rest false → Reads Statements (group most) ls rest k k g
  unfolding group
  group-reads _ rest k _ syntax.none e = no-reads _ e pure-reads
  group-reads _ rest k _ (syntax.group w end a p z) e = yes-reads _ (word-is a _ refl) (bump-then (then-reads _ (names-read limit.GroupFields _ _ k _ p (sign-is z _ refl)) (sign-then z pure-reads)))

  cell-reads : (ls rest : List Lexeme) (k : ℕ) (c : CellDecl) → IsCell most ls c → Finds (sees_word keyword.Clamp) rest false → Reads Statements (cell_decl most) ls rest k k c
  unfolding cell_decl int_cell nums_cell hold_cell parts label_cell
  cell-reads _ rest k _ (syntax.int w equals a p b q m) e =
      yes-reads _ (word-is a _ refl) (word-then a (then-reads _ (range-reads _ _ k _ p) (sign-then b (then-reads _ (num-reads _ _ k _ q) (last-reads _ (clamp-reads _ _ k _ m e) pure-reads)))))
  cell-reads _ rest k _ (syntax.nums w a p m) e =
      no-reads _ (word-is a _ refl) (yes-reads _ (word-is a _ refl) (word-then a (then-reads _ (range-reads _ _ k _ p) (last-reads _ (clamp-reads _ _ k _ m e) pure-reads))))
  cell-reads _ rest k _ (syntax.words w a) e = no-reads _ (word-is a _ refl) (no-reads _ (word-is a _ refl) (yes-reads _ (word-is a _ refl) (bump-then pure-reads)))
  cell-reads _ rest k _ (syntax.hold w begin end a b p z) e =
      no-reads _ (word-is a _ refl) (no-reads _ (word-is a _ refl) (no-reads _ (word-is a _ refl) (yes-reads _ (word-is a _ refl)
      (word-then a (sign-then b (then-reads _ (separated-reads _ _ part-reads _ _ k _ p (sign-is z _ refl)) (sign-then z pure-reads)))))))
  cell-reads _ rest k _ (syntax.label l equals m a b c) e =
      no-reads _ (word-is a.text _ refl) (no-reads _ (word-is a.text _ refl) (no-reads _ (word-is a.text _ refl) (no-reads _ (word-is a.text _ refl) (name-then _ a (sign-then b (name-then _ c pure-reads))))))

  pub state-reads : Complete (state most) (IsState most)
  unfolding state
  state-reads _ rest k _ (syntax.declared w l colon end a b d p z) = word-then a (name-then _ b (sign-then d (then-reads _ (cell-reads _ _ k _ p (word-is z _ refl)) (sign-then z pure-reads))))

  pub test-reads : Complete (test_decl most) (IsTest most)
  unfolding test_decl params
  test-reads _ rest k _ (syntax.declared w l begin close equals end a b c p d e q z) =
      word-then a (name-then _ b (sign-then c (then-reads _ (separated-reads _ _ param-reads _ _ k _ p (sign-is d _ refl)) (sign-then d (sign-then e
      (then-reads _ (expression-reads most (most limit.Depth) _ _ k _ q (loose end z refl)) (sign-then z pure-reads)))))))

  pub column-reads : Complete (column most) (IsColumn most)
  unfolding column
  column-reads _ rest k _ (syntax.column l equals end a b p z) = name-then _ a (sign-then b (then-reads _ (expression-reads most (most limit.Depth) _ _ k _ p (loose end z refl)) (sign-then z pure-reads)))
