-- How texts that are put together of tokens read.
use Rattle.std.proofs.Common.{◌≡◌, ◌==◌, ℕ, pos, ◌+◌, ◌≤◌, Bool, true, false, not, ◌&&◌, nat_eq, nat_le, List, [], ◌∷◌, ◌++◌, length, map, Some, Ok, Err, refl, sym, ap, subst, ◌∙◌, arith, append_assoc, length-append}
use Rattle.std.proofs.lemmas.List.{append-nil}
use Rattle.std.proofs.lemmas.Str.{IsUtf8-from_is_utf8}
use Rattle.std.specs.List.{list_all, starts_with}
use Rattle.std.specs.Str.{is_utf8}
use Rattle.std.specs.Str.Parse.{digits_value}
use Rattle.std.specs.Char.{is_ascii_digit}
use Rattle.sym_base.specs.Lawful.{is_lawful_text}
use Rattle.sym_base.specs.Limits.{max_name_bytes, num_max}
use Rattle.sym_base.specs.Names.{is_keyword, is_name, is_name_part, starts_name}
use Rattle.sym_lex.specs.declared.token.Token.{Token}
use Rattle.sym_lex.specs.declared.token.TokenKind.{TokenKind}
use Rattle.sym_lex.specs.declared.token.TokenKind.TheVariants as kind
use Rattle.sym_lex.specs.declared.keyword.Keyword.{Keyword}
use Rattle.sym_lex.specs.declared.keyword.Keyword.TheVariants as keyword
use Rattle.sym_lex.specs.declared.symbol.Symbol.{Symbol}
use Rattle.sym_lex.specs.declared.symbol.Symbol.TheVariants as symbol
use Rattle.sym_lex.specs.Keywords.{keyword_text}
use Rattle.sym_lex.specs.Letters.{begins, is_blank, is_in_line}
use Rattle.sym_lex.specs.Quoting.{quoted}
use Rattle.sym_lex.specs.Rules.{IsToken, name, word, number, string, sign, LexResult, placed, with_token, Reads, ended, blank, token}
use Rattle.sym_lex.specs.Spelling.{Spells, SpellsBetween, with_tokens}
use Rattle.sym_lex.specs.Symbols.{symbol_of, symbol_text, symbols}
use Rattle.sym_lex.specs.Terminals.{Terminal, Name, Number, Str, Word, Sign, terminal, terminal_of, terminals}
use Rattle.std.proofs.lemmas.Bool.Decides.{nat_tests}
use Rattle.sym_lex.proofs.Bytes.{at_most, both, denied}
use Rattle.sym_lex.proofs.Callers.{bytes-between}
use Rattle.sym_lex.proofs.Signs.{symbol-longest}
use Rattle.sym_lex.proofs.Words.{no-keyword}

-- Bytes after which anything may stand.
abbrev pub Anything : List ℕ → Type 0
Anything rest = Unit {0}

nothing-more : (r : LexResult) → with_tokens [] r ≡ r
nothing-more (Ok tokens) = refl
nothing-more (Err f) = refl

one-more : (t : Token) (r : LexResult) → with_tokens (t ∷ []) r ≡ with_token t r
one-more t (Ok tokens) = refl
one-more t (Err f) = refl

both-more : (ts us : List Token) (r : LexResult) → with_tokens (ts ++ us) r ≡ with_tokens ts (with_tokens us r)
both-more ts us (Ok tokens) = ap Ok (append_assoc ts us tokens)
both-more ts us (Err f) = refl

map-both : {A B : Type 0} (f : A → B) (xs ys : List A) → map f (xs ++ ys) ≡ map f xs ++ map f ys
map-both f [] ys = refl
map-both f (x ∷ xs) ys = ap (λ zs. f x ∷ zs) (map-both f xs ys)

-- No bytes spell no token.
pub nothing-spells : Spells Anything [] []
nothing-spells before rest r f h = record {
  tokens = [];
  same = refl;
  reads = let place : length before + 0 ≡ length before = omega arith in subst (Reads (length before) rest) (sym (nothing-more r)) (subst (λ n. Reads n rest r) place h);
}

joined-between : (before a b rest : List ℕ) (ts us : List Terminal) (r : LexResult) (second : SpellsBetween (before ++ a) b rest us r) → SpellsBetween before a (b ++ rest) ts (with_tokens second.tokens r) → SpellsBetween before (a ++ b) rest (ts ++ us) r
joined-between before a b rest ts us r second first =
    let whole : before ++ ((a ++ b) ++ rest) ≡ before ++ (a ++ (b ++ rest)) = ap (λ (t : List ℕ). before ++ t) (append_assoc a b rest) in
    record {
      tokens = first.tokens ++ second.tokens;
      same =
          ap (λ (t : List ℕ). terminals t (first.tokens ++ second.tokens)) whole
          ∙ map-both (terminal (before ++ (a ++ (b ++ rest)))) first.tokens second.tokens
          ∙ ap (λ (xs : List Terminal). xs ++ terminals (before ++ (a ++ (b ++ rest))) second.tokens) first.same
          ∙ ap (λ (xs : List Terminal). ts ++ xs) (ap (λ (t : List ℕ). terminals t second.tokens) (sym (append_assoc before a (b ++ rest))) ∙ second.same);
      reads =
          subst (λ t. Reads (length before) t (with_tokens (first.tokens ++ second.tokens) r)) (sym (append_assoc a b rest))
          (subst (Reads (length before) (a ++ (b ++ rest))) (sym (both-more first.tokens second.tokens r)) first.reads);
    }

placed-between : (P : List ℕ → Type 0) (before a b rest : List ℕ) (ts us : List Terminal) (r : LexResult) → Spells P a ts → P (b ++ rest) → SpellsBetween (before ++ a) b rest us r → SpellsBetween before (a ++ b) rest (ts ++ us) r
placed-between P before a b rest ts us r p follows second =
    joined-between before a b rest ts us r second
    (p before (b ++ rest) (with_tokens second.tokens r) follows (subst (λ n. Reads n (b ++ rest) (with_tokens second.tokens r)) (length-append before a) second.reads))

-- Bytes after bytes spell the tokens of both.
pub spells-both : (P Q : List ℕ → Type 0) (a b : List ℕ) (ts us : List Terminal) → Spells P a ts → Spells Q b us → ((rest : List ℕ) → Q rest → P (b ++ rest)) → Spells Q (a ++ b) (ts ++ us)
spells-both P Q a b ts us p q follows before rest r f h =
    let place : length before + length (a ++ b) ≡ length (before ++ a) + length b = omega (arith, length-append a b, length-append before a) in
    placed-between P before a b rest ts us r p (follows rest f) (q (before ++ a) rest r f (subst (λ n. Reads n rest r) place h))

-- Where fewer bytes may follow.
pub spells-before : (P Q : List ℕ → Type 0) (bytes : List ℕ) (ts : List Terminal) → ((rest : List ℕ) → Q rest → P rest) → Spells P bytes ts → Spells Q bytes ts
spells-before P Q bytes ts w h before rest r f reads = h before rest r (w rest f) reads

-- A blank spells no token.
pub blank-spells : (b : ℕ) → is_blank b ≡ true → Spells Anything (b ∷ []) []
blank-spells b e before rest r f h = record {
  tokens = [];
  same = refl;
  reads = subst (Reads (length before) (b ∷ rest)) (sym (nothing-more r)) (blank (length before) b rest r e h);
}

-- A token spells itself, with its bytes where it is a name.
pub token-spells : (P : List ℕ → Type 0) (bytes : List ℕ) (k : TokenKind) → ((rest : List ℕ) → P rest → IsToken bytes rest k) → Spells P bytes (terminal_of bytes k ∷ [])
token-spells P bytes k is before rest r f h =
    let t : Token = placed k (length before) bytes in
    record {
      tokens = t ∷ [];
      same = ap (λ (b : List ℕ). terminal_of b k ∷ []) (bytes-between before bytes rest (length before) refl);
      reads = subst (Reads (length before) (bytes ++ rest)) (sym (one-more t r)) (token (length before) bytes rest k r (is rest f) h);
    }

-- What may follow a name or a keyword: no more bytes of a name.
abbrev pub EndsName : List ℕ → Type 0
EndsName rest = begins is_name_part rest ≡ false

-- What may follow a number: no more digits, and no name at once.
abbrev pub EndsNumber : List ℕ → Type 0
EndsNumber rest = (begins is_ascii_digit rest ≡ false) × (starts_name rest ≡ false)

-- What may follow a symbol: nothing with which it begins a longer one.
abbrev pub EndsSymbol : Symbol → List ℕ → Type 0
EndsSymbol s rest =
    (other : Symbol) → starts_with nat_eq (symbol_text s ++ rest) (symbol_text other) ≡ true
    → length (symbol_text other) ≤ length (symbol_text s)

record IsNameText (text : List ℕ) : Type 0 where
  starts : starts_name text ≡ true
  each : list_all is_name_part text ≡ true
  few : length text ≤ max_name_bytes
  other : is_keyword text ≡ false

name-parts : (text : List ℕ) → is_name text ≡ true → IsNameText text
unfolding is_name
name-parts text h =
    let a = both (starts_name text && list_all is_name_part text && nat_le (length text) max_name_bytes) (not (is_keyword text)) h in
    let b = both (starts_name text && list_all is_name_part text) (nat_le (length text) max_name_bytes) a.0 in
    let c = both (starts_name text) (list_all is_name_part text) b.0 in
    record {
      starts = c.0;
      each = c.1;
      few = at_most (length text) max_name_bytes b.1;
      other = denied (is_keyword text) a.1;
    }

-- A name of a lawful script spells itself.
pub name-spells : (text : List ℕ) → is_name text ≡ true → Spells EndsName text (Name text ∷ [])
name-spells text h =
    let n = name-parts text h in
    token-spells EndsName text kind.Name (λ rest ends. name (record { starts = n.starts; run = record { each = n.each; ends = ends } }) n.few (no-keyword text n.other))

keyword-starts : (k : Keyword) → starts_name (keyword_text k) ≡ true
keyword-starts keyword.Enum = refl
keyword-starts keyword.Field = refl
keyword-starts keyword.From = refl
keyword-starts keyword.Num = refl
keyword-starts keyword.Word = refl
keyword-starts keyword.Else = refl
keyword-starts keyword.Group = refl
keyword-starts keyword.State = refl
keyword-starts keyword.Int = refl
keyword-starts keyword.Nums = refl
keyword-starts keyword.Words = refl
keyword-starts keyword.Hold = refl
keyword-starts keyword.Test = refl
keyword-starts keyword.Update = refl
keyword-starts keyword.Report = refl
keyword-starts keyword.Let = refl
keyword-starts keyword.Push = refl
keyword-starts keyword.Keep = refl
keyword-starts keyword.If = refl
keyword-starts keyword.And = refl
keyword-starts keyword.Or = refl
keyword-starts keyword.Not = refl
keyword-starts keyword.Is = refl
keyword-starts keyword.Clamp = refl

keyword-each : (k : Keyword) → list_all is_name_part (keyword_text k) ≡ true
keyword-each keyword.Enum = refl
keyword-each keyword.Field = refl
keyword-each keyword.From = refl
keyword-each keyword.Num = refl
keyword-each keyword.Word = refl
keyword-each keyword.Else = refl
keyword-each keyword.Group = refl
keyword-each keyword.State = refl
keyword-each keyword.Int = refl
keyword-each keyword.Nums = refl
keyword-each keyword.Words = refl
keyword-each keyword.Hold = refl
keyword-each keyword.Test = refl
keyword-each keyword.Update = refl
keyword-each keyword.Report = refl
keyword-each keyword.Let = refl
keyword-each keyword.Push = refl
keyword-each keyword.Keep = refl
keyword-each keyword.If = refl
keyword-each keyword.And = refl
keyword-each keyword.Or = refl
keyword-each keyword.Not = refl
keyword-each keyword.Is = refl
keyword-each keyword.Clamp = refl

pub keyword-spells : (k : Keyword) → Spells EndsName (keyword_text k) (Word k ∷ [])
keyword-spells k =
    token-spells EndsName (keyword_text k) (kind.Word k) (λ rest ends. word k (record { starts = keyword-starts k; run = record { each = keyword-each k; ends = ends } }) refl)

-- Digits spell the number that they write.
pub number-spells : (digits : List ℕ) → begins is_ascii_digit digits ≡ true → list_all is_ascii_digit digits ≡ true → digits_value 10 digits ≤ num_max →
    Spells EndsNumber digits (Number (pos (digits_value 10 digits)) ∷ [])
number-spells digits some each small =
    token-spells EndsNumber digits (kind.Number (pos (digits_value 10 digits)))
    (λ rest ends. number (record { starts = some; run = record { each = each; ends = ends.0 } }) small ends.1)

-- A text between quotes spells the text.
pub text-spells : (text : List ℕ) → is_lawful_text text ≡ true → Spells Anything (quoted text) (Str text ∷ [])
unfolding is_lawful_text
text-spells text h =
    let parts = both (list_all is_in_line text) (is_utf8 text) h in
    token-spells Anything (quoted text) (kind.Str text) (λ rest f. string text refl parts.0 (IsUtf8-from_is_utf8 text parts.1))

pub symbol-spells : (s : Symbol) → Spells (EndsSymbol s) (symbol_text s) (Sign s ∷ [])
symbol-spells s =
    token-spells (EndsSymbol s) (symbol_text s) (kind.Sign s) (λ rest ends. sign s (record { spelled = refl; longest = ends }))

-- `=`, `<` and `>`, which an `=` makes longer.
abbrev pub may_grow : Symbol → Bool
may_grow symbol.OpenBrace = false
may_grow symbol.CloseBrace = false
may_grow symbol.OpenParen = false
may_grow symbol.CloseParen = false
may_grow symbol.OpenBracket = false
may_grow symbol.CloseBracket = false
may_grow symbol.Comma = false
may_grow symbol.Colon = false
may_grow symbol.Semicolon = false
may_grow symbol.Assign = true
may_grow symbol.Equal = false
may_grow symbol.NotEqual = false
may_grow symbol.Less = true
may_grow symbol.LessEqual = false
may_grow symbol.Greater = true
may_grow symbol.GreaterEqual = false
may_grow symbol.Plus = false
may_grow symbol.Minus = false
may_grow symbol.Star = false
may_grow symbol.Slash = false
may_grow symbol.Percent = false
may_grow symbol.DotDot = false

abbrev pub is_equals : ℕ → Bool
is_equals b = b == 61

other-byte : (b : ℕ) → is_equals b ≡ false → nat_eq 61 b ≡ false
other-byte b h = grind (arith, nat_tests)

symbol-there : (s : Symbol) (rest : List ℕ) → (may_grow s && begins is_equals rest) ≡ false → symbol_of (symbol_text s ++ rest) ≡ Some s
unfolding symbol_of symbols
symbol-there symbol.OpenBrace rest h = refl
symbol-there symbol.CloseBrace rest h = refl
symbol-there symbol.OpenParen rest h = refl
symbol-there symbol.CloseParen rest h = refl
symbol-there symbol.OpenBracket rest h = refl
symbol-there symbol.CloseBracket rest h = refl
symbol-there symbol.Comma rest h = refl
symbol-there symbol.Colon rest h = refl
symbol-there symbol.Semicolon rest h = refl
symbol-there symbol.Assign [] h = refl
symbol-there symbol.Assign (b ∷ rest) h = let e : nat_eq 61 b ≡ false = other-byte b h in rw e refl
symbol-there symbol.Equal rest h = refl
symbol-there symbol.NotEqual rest h = refl
symbol-there symbol.Less [] h = refl
symbol-there symbol.Less (b ∷ rest) h = let e : nat_eq 61 b ≡ false = other-byte b h in rw e refl
symbol-there symbol.LessEqual rest h = refl
symbol-there symbol.Greater [] h = refl
symbol-there symbol.Greater (b ∷ rest) h = let e : nat_eq 61 b ≡ false = other-byte b h in rw e refl
symbol-there symbol.GreaterEqual rest h = refl
symbol-there symbol.Plus rest h = refl
symbol-there symbol.Minus rest h = refl
symbol-there symbol.Star rest h = refl
symbol-there symbol.Slash rest h = refl
symbol-there symbol.Percent rest h = refl
symbol-there symbol.DotDot rest h = refl

-- A symbol ends before anything but an `=`; all but three end before an `=` too.
pub symbol-ends : (s : Symbol) (rest : List ℕ) → (may_grow s && begins is_equals rest) ≡ false → EndsSymbol s rest
symbol-ends s rest h other e = symbol-longest (symbol_text s ++ rest) s other (symbol-there s rest h) e

-- What a symbol spells, by the first byte that follows it.
abbrev pub AfterSymbol : Symbol → List ℕ → Type 0
AfterSymbol s rest = (may_grow s && begins is_equals rest) ≡ false

pub sign-spells : (s : Symbol) → Spells (AfterSymbol s) (symbol_text s) (Sign s ∷ [])
sign-spells s = spells-before (EndsSymbol s) (AfterSymbol s) (symbol_text s) (Sign s ∷ []) (symbol-ends s) (symbol-spells s)

-- Blanks spell no token.
pub blanks-spell : (bytes : List ℕ) → list_all is_blank bytes ≡ true → Spells Anything bytes []
blanks-spell [] h = nothing-spells
blanks-spell (b ∷ bytes) h =
    let parts = both (is_blank b) (list_all is_blank bytes) h in
    spells-both Anything Anything (b ∷ []) bytes [] [] (blank-spells b parts.0) (blanks-spell bytes parts.1) (λ rest f. tt)

-- A whole text that spells these terminals reads as tokens that are these.
pub whole-spells : (P : List ℕ → Type 0) (bytes : List ℕ) (ts : List Terminal) → Spells P bytes ts → P [] → (tokens : List Token) × (terminals bytes tokens ≡ ts) × Reads 0 bytes (Ok tokens)
whole-spells P bytes ts h f =
    let place : length bytes ≡ 0 + length bytes = omega arith in
    let s : SpellsBetween [] bytes [] ts (Ok []) = h [] [] (Ok []) f (subst (λ n. Reads n [] (Ok [])) place (ended (length bytes))) in
    let all : bytes ++ [] ≡ bytes = append-nil bytes in
    (s.tokens, ap (λ (t : List ℕ). terminals t s.tokens) (sym all) ∙ s.same, subst (λ t. Reads 0 t (Ok s.tokens)) all (subst (Reads 0 (bytes ++ [])) (ap Ok (append-nil s.tokens)) s.reads))
