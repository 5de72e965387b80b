-- The steps that every line of the grammar is read by. A parser takes the first tokens, and
-- gives what they say, or stops at the first token at which it can't go on.
use Rattle.std.specs.Prelude.{◌≡◌, ◌≢◌, ℕ, zero, suc, ◌+◌, ℤ, Bool, true, false, nat_lt, if◌then◌else◌, List, [], ◌∷◌, ◌++◌, length, Option, Some, None, Result, Ok, Err}
use Rattle.sym_base.specs.declared.tree.name.Name.{Name as NameRecord}
use Rattle.sym_lex.specs.declared.keyword.Keyword.{Keyword}
use Rattle.sym_lex.specs.declared.symbol.Symbol.{Symbol}
use Rattle.sym_lex.specs.declared.symbol.Symbol.TheVariants as symbol
use Rattle.sym_lex.specs.contracts.keyword.KeywordPartialEq.TheImpl as same_keyword
use Rattle.sym_lex.specs.contracts.symbol.SymbolPartialEq.TheImpl as same_symbol
use Rattle.sym_parse.specs.declared.stop.Stop.{Stop}
use Rattle.sym_parse.specs.declared.stop.Stop.TheVariants.{Expected, Limit, NoMemory}
use Rattle.sym_parse.specs.declared.error.LimitKind.{LimitKind}
use Rattle.sym_parse.specs.declared.error.LimitKind.TheVariants as limit
use Rattle.sym_parse.specs.Lexemes.{Terminal, Name, Number, Str, Word, Sign, Lexeme}

-- What a parser reads from: the tokens that are left, the statements of the update that were begun,
-- and the operands of the expression that is being read.
pub record Input : Type 0 where
  pub rest : List Lexeme
  pub statements : ℕ
  pub operands : ℕ

abbrev pub Parsed : Type 0 → Type 0
Parsed A = Result (A × Input) Stop

abbrev pub Parser : Type 0 → Type 0
Parser A = Input → Parsed A

abbrev pub and_then : {A B : Type 0} → Parsed A → (A → Parser B) → Parsed B
and_then (Ok p) f = f p.0 p.1
and_then (Err stop) f = Err stop

infixl 10 ◌>>=◌
abbrev pub ◌>>=◌ : {A B : Type 0} → Parser A → (A → Parser B) → Parser B
p >>= f = λ i. and_then (p i) f

infixl 10 ◌>>◌
abbrev pub ◌>>◌ : {A B : Type 0} → Parser A → Parser B → Parser B
p >> q = p >>= (λ _. q)

abbrev pub pure : {A : Type 0} → A → Parser A
pure a = λ i. Ok (a, i)

-- One of two, by a test of the next token.
abbrev pub choose : {A : Type 0} → (Input → Bool) → Parser A → Parser A → Parser A
choose test p q = λ i. if test i then p i else q i

-- Nothing can go on with the next token.
abbrev pub refuse : {A : Type 0} → Parser A
refuse = λ i. Err (Expected (length i.rest))

-- The next token begins a thing that passes its number.
abbrev pub full : {A : Type 0} → LimitKind → Parser A
full which = λ i. Err (Limit (length i.rest) which)

-- ---- the next token

abbrev pub next_of : List Lexeme → Option Terminal
next_of [] = None
next_of (l ∷ rest) = Some l.terminal

abbrev pub after_first : List Lexeme → List Lexeme
after_first [] = []
after_first (l ∷ rest) = rest

abbrev pub place_of : List Lexeme → ℕ
place_of [] = 0
place_of (l ∷ rest) = l.at

unfoldable pub next : Input → Option Terminal
next i = next_of i.rest

-- The place of the next token.
unfoldable pub place : Input → ℕ
place i = place_of i.rest

abbrev pub here : Parser ℕ
here = λ i. Ok (place i, i)

-- Past the next token.
unfoldable pub passed : Input → Input
passed i = record i { rest = after_first i.rest }

abbrev pub bump : Parser (Unit {0})
bump = λ i. Ok (tt, passed i)

abbrev pub word_of : Option Terminal → Option Keyword
word_of (Some (Word k)) = Some k
word_of (Some (Name text)) = None
word_of (Some (Number n)) = None
word_of (Some (Str text)) = None
word_of (Some (Sign s)) = None
word_of None = None

abbrev pub sign_of : Option Terminal → Option Symbol
sign_of (Some (Sign s)) = Some s
sign_of (Some (Name text)) = None
sign_of (Some (Number n)) = None
sign_of (Some (Str text)) = None
sign_of (Some (Word k)) = None
sign_of None = None

abbrev pub name_of : Option Terminal → Option (List ℕ)
name_of (Some (Name text)) = Some text
name_of (Some (Number n)) = None
name_of (Some (Str text)) = None
name_of (Some (Word k)) = None
name_of (Some (Sign s)) = None
name_of None = None

abbrev pub number_of : Option Terminal → Option ℤ
number_of (Some (Number n)) = Some n
number_of (Some (Name text)) = None
number_of (Some (Str text)) = None
number_of (Some (Word k)) = None
number_of (Some (Sign s)) = None
number_of None = None

abbrev pub text_of : Option Terminal → Option (List ℕ)
text_of (Some (Str text)) = Some text
text_of (Some (Name text)) = None
text_of (Some (Number n)) = None
text_of (Some (Word k)) = None
text_of (Some (Sign s)) = None
text_of None = None

abbrev pub is_this_word : Keyword → Option Keyword → Bool
is_this_word k None = false
is_this_word k (Some other) = (same_keyword.ghosts).eq other k

abbrev pub is_this_sign : Symbol → Option Symbol → Bool
is_this_sign s None = false
is_this_sign s (Some other) = (same_symbol.ghosts).eq other s

abbrev pub is_there : {A : Type 0} → Option A → Bool
is_there None = false
is_there (Some x) = true

-- ---- tests of the next token

unfoldable pub sees_word : Keyword → Input → Bool
sees_word k i = is_this_word k (word_of (next i))

unfoldable pub sees_sign : Symbol → Input → Bool
sees_sign s i = is_this_sign s (sign_of (next i))

unfoldable pub sees_name : Input → Bool
sees_name i = is_there (name_of (next i))

unfoldable pub sees_number : Input → Bool
sees_number i = is_there (number_of (next i))

unfoldable pub sees_text : Input → Bool
sees_text i = is_there (text_of (next i))

unfoldable pub is_done : Input → Bool
is_done i = if is_there (next i) then false else true

-- ---- one token: it is taken where it stands next, and else nothing can go on

unfoldable pub word : Keyword → Parser (Unit {0})
word k = choose (sees_word k) bump refuse

unfoldable pub sign : Symbol → Parser (Unit {0})
sign s = choose (sees_sign s) bump refuse

abbrev pub named : ℕ → Option (List ℕ) → Parser NameRecord
named at None = refuse
named at (Some text) = bump >> pure (record { text = text; at = at })

unfoldable pub name : Parser NameRecord
name = λ i. named (place i) (name_of (next i)) i

abbrev pub taken : {A : Type 0} → Option A → Parser A
taken None = refuse
taken (Some x) = bump >> pure x

-- A number without a sign.
unfoldable pub number : Parser ℤ
number = λ i. taken (number_of (next i)) i

unfoldable pub text : Parser (List ℕ)
text = λ i. taken (text_of (next i)) i

-- No token is left.
unfoldable pub done : Parser (Unit {0})
done = choose is_done (pure tt) refuse

-- ---- what is counted

-- The next token opens a level, of which so many are free. It is taken.
unfoldable pub opening : ℕ → Parser (Unit {0})
opening zero = full limit.Depth
opening (suc room) = bump

-- The next token begins a statement.
unfoldable pub one_statement : ℕ → Parser (Unit {0})
one_statement most = λ i.
    if nat_lt i.statements most then Ok (tt, record i { statements = i.statements + 1 })
    else Err (Limit (length i.rest) limit.Statements)

-- The next token is an operand.
unfoldable pub one_operand : ℕ → Parser (Unit {0})
one_operand most = λ i.
    if nat_lt i.operands most then Ok (tt, record i { operands = i.operands + 1 })
    else Err (Limit (length i.rest) limit.Operands)

-- One more of a kind may stand next, where fewer than the most were found. The test says whether
-- the next token begins one.
unfoldable pub one_more : ℕ → ℕ → LimitKind → Bool → Parser (Unit {0})
one_more found most which begins = λ i.
    if nat_lt found most then Ok (tt, i)
    else (if begins then Err (Limit (length i.rest) which) else Err (Expected (length i.rest)))

-- ---- lists

module _ {A : Type 0} (which : LimitKind) (begins : Input → Bool) (item : Parser A) where
  -- Item after item, as long as the next token begins one. So many are free.
  unfoldable pub repeated : ℕ → List A → Parser (List A)
  repeated zero found = choose begins (full which) (pure found)
  repeated (suc free) found =
      choose begins (item >>= (λ x. repeated free (found ++ x ∷ []))) (pure found)

  -- Further items, each after a comma.
  unfoldable pub separated : ℕ → List A → Parser (List A)
  separated zero found =
      choose (sees_sign symbol.Comma) (bump >> choose begins (full which) refuse) (pure found)
  separated (suc free) found =
      choose (sees_sign symbol.Comma) (bump >> (item >>= (λ x. separated free (found ++ x ∷ []))))
      (pure found)

-- ---- what a function that parses ensures: the parser's outcome, unless it is `NoMemory`

abbrev pub Parses : {A B : Type 0} → (A → B) → Parsed B → Result A Stop → Input → Type 0
Parses view outcome (Ok a) new = outcome ≡ Ok (view a, new)
Parses view outcome (Err stop) new = stop ≢ NoMemory → outcome ≡ Err stop
