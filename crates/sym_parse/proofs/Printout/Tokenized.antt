-- The printed text lexes to the tokens of its pieces.
use Rattle.std.proofs.Common.{◌≡◌, ℕ, zero, suc, ◌*◌, ◌≤◌, ◌<◌, ◌^◌, pos, negsuc, Bool, true, false, not, ◌&&◌, ◌||◌, List, [], ◌∷◌, ◌++◌, map, length, replicate, Ok, decimal, refl, sym, ◌∙◌, ap, subst, arith, rules}
use Rattle.std.proofs.lemmas.Bool.Decides.{nat_tests}
use Rattle.std.proofs.lemmas.Int.{ints}
use Rattle.std.proofs.lemmas.List.{append-nil}
use Rattle.std.proofs.lemmas.Fmt.{decimal_nonempty, digits_decimal, digits_value-decimal}
use Rattle.std.proofs.lemmas.Str.Parse.{IsNumeralModel, numerals_by_value}
use Rattle.std.specs.List.{list_all}
use Rattle.std.specs.Str.Parse.{digits_value}
use Rattle.std.specs.Char.{is_ascii_digit}
use Rattle.sym_base.specs.Lawful.{is_unsigned}
use Rattle.sym_base.specs.Limits.{num_max}
use Rattle.sym_base.specs.Names.{is_name_part, starts_name}
use Rattle.sym_lex.specs.declared.token.Token.{Token as TokenRecord}
use Rattle.sym_lex.specs.declared.symbol.Symbol.{Symbol}
use Rattle.sym_lex.specs.declared.symbol.Symbol.TheVariants as symbol
use Rattle.sym_lex.specs.Letters.{begins, is_blank}
use Rattle.sym_lex.specs.Rules.{Reads}
use Rattle.sym_lex.specs.Spelling.{Spells}
use Rattle.sym_lex.specs.Symbols.{symbol_text}
use Rattle.sym_lex.specs.Terminals.{Terminal, Name, Number, Str, Word, Sign, terminal, terminals}
use Rattle.sym_lex.proofs.Spelling.{Anything, EndsName, EndsNumber, AfterSymbol, may_grow, is_equals, nothing-spells, spells-both, spells-before, blanks-spell, name-spells, keyword-spells, number-spells, text-spells, sign-spells, whole-spells}
use Rattle.sym_parse.specs.Lexemes.{Lexeme, lexemes_of}
use Rattle.sym_parse.specs.Printed.{Piece, Token, Space, Break, Indent, terminal_text, text}
use Rattle.sym_parse.proofs.Printout.Pieces.{terminals_of, lexemes}
use Rattle.sym_parse.proofs.Printout.Placing.{placed, places}
use Rattle.sym_parse.proofs.Printout.Separated.{is_soft, starts_blank, parted, is_sound, fits}
use Rattle.sym_parse.proofs.Printout.ExpressionsBack.{both}

-- ---- numbers

record Digits (digits : List ℕ) (n : ℕ) : Type 0 where
  starts : begins is_ascii_digit digits ≡ true
  each : list_all is_ascii_digit digits ≡ true
  value : digits_value 10 digits ≡ n

own : IsNumeralModel (λ ds. list_all is_ascii_digit ds ≡ true) (digits_value 10)
own = numerals_by_value _ (search rules)

begins-first : (p : ℕ → Bool) (xs : List ℕ) → 0 < length xs → list_all p xs ≡ true → begins p xs ≡ true
begins-first p [] n h = absurd (let no : ⊥ = omega arith in no)
begins-first p (x ∷ xs) n h = (both (p x) (list_all p xs) h).0

decimal-digits : (n : ℕ) → n ≤ num_max → Digits (decimal n) n
decimal-digits n h =
    let small : n < 2 ^ 64 = omega arith in
    let each = digits_decimal own n small in
    record {
      starts = begins-first is_ascii_digit (decimal n) (decimal_nonempty n small) each;
      each = each;
      value = digits_value-decimal own n small;
    }

small-number : (n : ℕ) → is_unsigned (pos n) ≡ true → n ≤ num_max
unfolding is_unsigned
small-number n h = grind (arith, ints, nat_tests)

no-sign : (n : ℕ) → is_unsigned (negsuc n) ≡ true → ⊥
unfolding is_unsigned
no-sign n h = cc

-- What may follow each token.
abbrev Follows : Terminal → List ℕ → Type 0
Follows (Name bytes) = EndsName
Follows (Number n) = EndsNumber
Follows (Str bytes) = Anything
Follows (Word k) = EndsName
Follows (Sign s) = AfterSymbol s

terminal-spells : (t : Terminal) → is_sound t ≡ true → Spells (Follows t) (terminal_text t) (t ∷ [])
terminal-spells (Name bytes) h = name-spells bytes h
terminal-spells (Number (pos n)) h =
    let small : n ≤ num_max = small-number n h in
    let d = decimal-digits n small in
    let bound : digits_value 10 (decimal n) ≤ num_max = subst (λ k. k ≤ num_max) (sym d.value) small in
    subst (λ k. Spells EndsNumber (decimal n) (Number (pos k) ∷ [])) d.value (number-spells (decimal n) d.starts d.each bound)
terminal-spells (Number (negsuc n)) h = absurd (no-sign n h)
terminal-spells (Str bytes) h = text-spells bytes h
terminal-spells (Word k) h = keyword-spells k
terminal-spells (Sign s) h = sign-spells s

-- ---- what follows

symbol-no-name : (s : Symbol) (rest : List ℕ) → begins is_name_part (symbol_text s ++ rest) ≡ false
symbol-no-name symbol.Comma rest = refl
symbol-no-name _ rest = refl

symbol-no-digit : (s : Symbol) (rest : List ℕ) → begins is_ascii_digit (symbol_text s ++ rest) ≡ false
symbol-no-digit symbol.Comma rest = refl
symbol-no-digit _ rest = refl

symbol-no-start : (s : Symbol) (rest : List ℕ) → starts_name (symbol_text s ++ rest) ≡ false
symbol-no-start symbol.Comma rest = refl
symbol-no-start _ rest = refl

ends-name : (ps : List Piece) → is_soft ps ≡ true → EndsName (text ps)
ends-name [] h = refl
ends-name (Token (Name bytes) ∷ rest) h = cc
ends-name (Token (Number n) ∷ rest) h = cc
ends-name (Token (Str bytes) ∷ rest) h = cc
ends-name (Token (Word k) ∷ rest) h = cc
ends-name (Token (Sign s) ∷ rest) h = symbol-no-name s (text rest)
ends-name (Space ∷ rest) h = refl
ends-name (Break ∷ rest) h = refl
ends-name (Indent n ∷ rest) h = cc

ends-number : (ps : List Piece) → is_soft ps ≡ true → EndsNumber (text ps)
ends-number [] h = (refl, refl)
ends-number (Token (Name bytes) ∷ rest) h = absurd (let no : ⊥ = cc in no)
ends-number (Token (Number n) ∷ rest) h = absurd (let no : ⊥ = cc in no)
ends-number (Token (Str bytes) ∷ rest) h = absurd (let no : ⊥ = cc in no)
ends-number (Token (Word k) ∷ rest) h = absurd (let no : ⊥ = cc in no)
ends-number (Token (Sign s) ∷ rest) h = (symbol-no-digit s (text rest), symbol-no-start s (text rest))
ends-number (Space ∷ rest) h = (refl, refl)
ends-number (Break ∷ rest) h = (refl, refl)
ends-number (Indent n ∷ rest) h = absurd (let no : ⊥ = cc in no)

no-equals : (ps : List Piece) → starts_blank ps ≡ true → begins is_equals (text ps) ≡ false
no-equals [] h = refl
no-equals (Token t ∷ rest) h = cc
no-equals (Space ∷ rest) h = refl
no-equals (Break ∷ rest) h = refl
no-equals (Indent n ∷ rest) h = cc

grown : (grows blank equals : Bool) → (not grows || blank) ≡ true → (blank ≡ true → equals ≡ false) → (grows && equals) ≡ false
grown true true equals h k = k refl
grown true false equals h k = cc
grown false blank equals h k = refl

follows : (t : Terminal) (ps : List Piece) → parted t ps ≡ true → Follows t (text ps)
follows (Name bytes) ps h = ends-name ps h
follows (Number n) ps h = ends-number ps h
follows (Str bytes) ps h = tt
follows (Word k) ps h = ends-name ps h
follows (Sign s) ps h = grown (may_grow s) (starts_blank ps) (begins is_equals (text ps)) h (no-equals ps)

-- ---- all pieces

-- Nothing more follows.
abbrev Nothing : List ℕ → Type 0
Nothing rest = rest ≡ []

spaces : (n : ℕ) → list_all is_blank (replicate n 32) ≡ true
spaces zero = refl
spaces (suc n) = spaces n

pieces-spell : (ps : List Piece) → fits ps ≡ true → Spells Nothing (text ps) (terminals_of ps)
pieces-spell [] h = spells-before Anything Nothing [] [] (λ rest e. tt) nothing-spells
pieces-spell (Token t ∷ ps) h =
    let parts = both (is_sound t) (parted t ps && fits ps) h in
    let others = both (parted t ps) (fits ps) parts.1 in
    spells-both (Follows t) Nothing (terminal_text t) (text ps) (t ∷ []) (terminals_of ps) (terminal-spells t parts.0) (pieces-spell ps others.1)
    (λ rest e. subst (Follows t) (sym (append-nil (text ps)) ∙ ap (λ xs. text ps ++ xs) (sym e)) (follows t ps others.0))
pieces-spell (Space ∷ ps) h =
    spells-both Anything Nothing (32 ∷ []) (text ps) [] (terminals_of ps) (blanks-spell (32 ∷ []) refl) (pieces-spell ps h) (λ rest e. tt)
pieces-spell (Break ∷ ps) h =
    spells-both Anything Nothing (10 ∷ []) (text ps) [] (terminals_of ps) (blanks-spell (10 ∷ []) refl) (pieces-spell ps h) (λ rest e. tt)
pieces-spell (Indent n ∷ ps) h =
    spells-both Anything Nothing (replicate (2 * n) 32) (text ps) [] (terminals_of ps) (blanks-spell (replicate (2 * n) 32) (spaces (2 * n))) (pieces-spell ps h) (λ rest e. tt)

-- The text's tokens, whose lexemes are the pieces' at some places.
pub record Lexed (ps : List Piece) : Type 0 where
  pub tokens : List TokenRecord
  pub reads : Reads 0 (text ps) (Ok tokens)
  pub place : ℕ → ℕ
  pub same : lexemes place 0 ps ≡ lexemes_of (text ps) tokens

lexeme-terminals : (bytes : List ℕ) (tokens : List TokenRecord) → map (λ l. l.terminal) (lexemes_of bytes tokens) ≡ terminals bytes tokens
lexeme-terminals bytes [] = refl
lexeme-terminals bytes (t ∷ tokens) = ap (λ rest. terminal bytes t ∷ rest) (lexeme-terminals bytes tokens)

pub lexed : (ps : List Piece) → fits ps ≡ true → Lexed ps
lexed ps h =
    let w = whole-spells Nothing (text ps) (terminals_of ps) (pieces-spell ps h) refl in
    let ls : List Lexeme = lexemes_of (text ps) w.0 in
    record {
      tokens = w.0;
      reads = w.2;
      place = places ls;
      same = placed ls ps (lexeme-terminals (text ps) w.0 ∙ w.1);
    }
