-- Symbols by their texts.
use Rattle.std.proofs.Common.{◌≡◌, ◌==◌, ℕ, ◌<◌, ◌≤◌, true, false, nat_eq, nat_lt, List, [], ◌∷◌, ◌++◌, length, drop, get_or, Some, None, refl, sym, ap, ◌∙◌, arith}
use Rattle.std.proofs.lemmas.Option.{same_Some}
use Rattle.std.proofs.lemmas.Bool.Decides.{nat_tests, Decides-eqb}
use Rattle.std.proofs.lemmas.Slice.Eq.{starts_is}
use Rattle.std.specs.List.{find, starts_with}
use Rattle.sym_lex.specs.declared.symbol.Symbol.{Symbol}
use Rattle.sym_lex.specs.declared.symbol.Symbol.TheVariants as symbol
use Rattle.sym_base.specs.Names.{starts_name}
use Rattle.sym_lex.specs.Letters.{begins, is_blank, is_hash, is_quote}
use Rattle.std.specs.Char.{is_ascii_digit}
use Rattle.sym_lex.specs.Symbols.{symbol_of, symbol_text, symbols, symbols_beginning}
use Rattle.sym_lex.proofs.Bytes.{both, by_test}
use Rattle.sym_lex.proofs.Words.{find-filtered, find-none, find-passes}

pub symbol-long : (s : Symbol) → 0 < length (symbol_text s)
symbol-long s = elim s as (λ s. 0 < length (symbol_text s)) [
  | symbol.OpenBrace ↦ omega arith
  | symbol.CloseBrace ↦ omega arith
  | symbol.OpenParen ↦ omega arith
  | symbol.CloseParen ↦ omega arith
  | symbol.OpenBracket ↦ omega arith
  | symbol.CloseBracket ↦ omega arith
  | symbol.Comma ↦ omega arith
  | symbol.Colon ↦ omega arith
  | symbol.Semicolon ↦ omega arith
  | symbol.Assign ↦ omega arith
  | symbol.Equal ↦ omega arith
  | symbol.NotEqual ↦ omega arith
  | symbol.Less ↦ omega arith
  | symbol.LessEqual ↦ omega arith
  | symbol.Greater ↦ omega arith
  | symbol.GreaterEqual ↦ omega arith
  | symbol.Plus ↦ omega arith
  | symbol.Minus ↦ omega arith
  | symbol.Star ↦ omega arith
  | symbol.Slash ↦ omega arith
  | symbol.Percent ↦ omega arith
  | symbol.DotDot ↦ omega arith
]

-- The first byte of a symbol belongs to nothing else.
pub record IsSign (s : Symbol) (rest : List ℕ) : Type 0 where
  pub no_blank : begins is_blank (symbol_text s ++ rest) ≡ false
  pub no_hash : begins is_hash (symbol_text s ++ rest) ≡ false
  pub no_name : starts_name (symbol_text s ++ rest) ≡ false
  pub no_digit : begins is_ascii_digit (symbol_text s ++ rest) ≡ false
  pub no_quote : begins is_quote (symbol_text s ++ rest) ≡ false

pub sign-first : (s : Symbol) (rest : List ℕ) → IsSign s rest
sign-first symbol.OpenBrace rest = record { no_blank = refl; no_hash = refl; no_name = refl; no_digit = refl; no_quote = refl }
sign-first symbol.CloseBrace rest = record { no_blank = refl; no_hash = refl; no_name = refl; no_digit = refl; no_quote = refl }
sign-first symbol.OpenParen rest = record { no_blank = refl; no_hash = refl; no_name = refl; no_digit = refl; no_quote = refl }
sign-first symbol.CloseParen rest = record { no_blank = refl; no_hash = refl; no_name = refl; no_digit = refl; no_quote = refl }
sign-first symbol.OpenBracket rest = record { no_blank = refl; no_hash = refl; no_name = refl; no_digit = refl; no_quote = refl }
sign-first symbol.CloseBracket rest = record { no_blank = refl; no_hash = refl; no_name = refl; no_digit = refl; no_quote = refl }
sign-first symbol.Comma rest = record { no_blank = refl; no_hash = refl; no_name = refl; no_digit = refl; no_quote = refl }
sign-first symbol.Colon rest = record { no_blank = refl; no_hash = refl; no_name = refl; no_digit = refl; no_quote = refl }
sign-first symbol.Semicolon rest = record { no_blank = refl; no_hash = refl; no_name = refl; no_digit = refl; no_quote = refl }
sign-first symbol.Assign rest = record { no_blank = refl; no_hash = refl; no_name = refl; no_digit = refl; no_quote = refl }
sign-first symbol.Equal rest = record { no_blank = refl; no_hash = refl; no_name = refl; no_digit = refl; no_quote = refl }
sign-first symbol.NotEqual rest = record { no_blank = refl; no_hash = refl; no_name = refl; no_digit = refl; no_quote = refl }
sign-first symbol.Less rest = record { no_blank = refl; no_hash = refl; no_name = refl; no_digit = refl; no_quote = refl }
sign-first symbol.LessEqual rest = record { no_blank = refl; no_hash = refl; no_name = refl; no_digit = refl; no_quote = refl }
sign-first symbol.Greater rest = record { no_blank = refl; no_hash = refl; no_name = refl; no_digit = refl; no_quote = refl }
sign-first symbol.GreaterEqual rest = record { no_blank = refl; no_hash = refl; no_name = refl; no_digit = refl; no_quote = refl }
sign-first symbol.Plus rest = record { no_blank = refl; no_hash = refl; no_name = refl; no_digit = refl; no_quote = refl }
sign-first symbol.Minus rest = record { no_blank = refl; no_hash = refl; no_name = refl; no_digit = refl; no_quote = refl }
sign-first symbol.Star rest = record { no_blank = refl; no_hash = refl; no_name = refl; no_digit = refl; no_quote = refl }
sign-first symbol.Slash rest = record { no_blank = refl; no_hash = refl; no_name = refl; no_digit = refl; no_quote = refl }
sign-first symbol.Percent rest = record { no_blank = refl; no_hash = refl; no_name = refl; no_digit = refl; no_quote = refl }
sign-first symbol.DotDot rest = record { no_blank = refl; no_hash = refl; no_name = refl; no_digit = refl; no_quote = refl }

abbrev pub IsLongest : Symbol → List ℕ → Type 0
IsLongest s text = (other : Symbol) → starts_with nat_eq text (symbol_text other) ≡ true → length (symbol_text other) ≤ length (symbol_text s)

pub symbol-own : (s : Symbol) (rest : List ℕ) → IsLongest s (symbol_text s ++ rest) → symbol_of (symbol_text s ++ rest) ≡ Some s
unfolding symbol_of symbols
symbol-own symbol.OpenBrace rest h = refl
symbol-own symbol.CloseBrace rest h = refl
symbol-own symbol.OpenParen rest h = refl
symbol-own symbol.CloseParen rest h = refl
symbol-own symbol.OpenBracket rest h = refl
symbol-own symbol.CloseBracket rest h = refl
symbol-own symbol.Comma rest h = refl
symbol-own symbol.Colon rest h = refl
symbol-own symbol.Semicolon rest h = refl
symbol-own symbol.Assign [] h = refl
symbol-own symbol.Assign (b ∷ rest) h = by_test (nat_eq 61 b) (λ e. absurd (let l = h symbol.Equal (rw e refl) in omega (arith, l))) (λ e. rw e refl)
symbol-own symbol.Equal rest h = refl
symbol-own symbol.NotEqual rest h = refl
symbol-own symbol.Less [] h = refl
symbol-own symbol.Less (b ∷ rest) h = by_test (nat_eq 61 b) (λ e. absurd (let l = h symbol.LessEqual (rw e refl) in omega (arith, l))) (λ e. rw e refl)
symbol-own symbol.LessEqual rest h = refl
symbol-own symbol.Greater [] h = refl
symbol-own symbol.Greater (b ∷ rest) h = by_test (nat_eq 61 b) (λ e. absurd (let l = h symbol.GreaterEqual (rw e refl) in omega (arith, l))) (λ e. rw e refl)
symbol-own symbol.GreaterEqual rest h = refl
symbol-own symbol.Plus rest h = refl
symbol-own symbol.Minus rest h = refl
symbol-own symbol.Star rest h = refl
symbol-own symbol.Slash rest h = refl
symbol-own symbol.Percent rest h = refl
symbol-own symbol.DotDot rest h = refl

-- A symbol of two bytes that begins a text is the one that is found there.
two-own : (s : Symbol) (rest : List ℕ) → 1 < length (symbol_text s) → symbol_of (symbol_text s ++ rest) ≡ Some s
unfolding symbol_of symbols
two-own symbol.OpenBrace rest h = absurd (omega arith)
two-own symbol.CloseBrace rest h = absurd (omega arith)
two-own symbol.OpenParen rest h = absurd (omega arith)
two-own symbol.CloseParen rest h = absurd (omega arith)
two-own symbol.OpenBracket rest h = absurd (omega arith)
two-own symbol.CloseBracket rest h = absurd (omega arith)
two-own symbol.Comma rest h = absurd (omega arith)
two-own symbol.Colon rest h = absurd (omega arith)
two-own symbol.Semicolon rest h = absurd (omega arith)
two-own symbol.Assign rest h = absurd (omega arith)
two-own symbol.Equal rest h = refl
two-own symbol.NotEqual rest h = refl
two-own symbol.Less rest h = absurd (omega arith)
two-own symbol.LessEqual rest h = refl
two-own symbol.Greater rest h = absurd (omega arith)
two-own symbol.GreaterEqual rest h = refl
two-own symbol.Plus rest h = absurd (omega arith)
two-own symbol.Minus rest h = absurd (omega arith)
two-own symbol.Star rest h = absurd (omega arith)
two-own symbol.Slash rest h = absurd (omega arith)
two-own symbol.Percent rest h = absurd (omega arith)
two-own symbol.DotDot rest h = refl

pub begins-with : (text : List ℕ) (s : Symbol) → starts_with nat_eq text (symbol_text s) ≡ true → text ≡ symbol_text s ++ drop (length (symbol_text s)) text
begins-with text s h = (starts_is Decides-eqb text (symbol_text s) (starts_with nat_eq text (symbol_text s)) refl).0 h

pub symbol-found : (text : List ℕ) (s : Symbol) → symbol_of text ≡ Some s → starts_with nat_eq text (symbol_text s) ≡ true
unfolding symbol_of
symbol-found text s e = find-passes (λ s. starts_with nat_eq text (symbol_text s)) symbols s e

pub symbol-longest : (text : List ℕ) (s other : Symbol) → symbol_of text ≡ Some s → starts_with nat_eq text (symbol_text other) ≡ true → length (symbol_text other) ≤ length (symbol_text s)
symbol-longest text s other e h = by_test (nat_lt 1 (length (symbol_text other)))
    (λ t.
    let long : 1 < length (symbol_text other) = grind (arith, nat_tests) in
    let found : symbol_of text ≡ Some other = ap symbol_of (begins-with text other h) ∙ two-own other (drop (length (symbol_text other)) text) long in
    let same : other ≡ s = same_Some other s (sym found ∙ e) in
    omega (arith, ap (λ x. length (symbol_text x)) same))
    (λ t. let few : length (symbol_text other) ≤ 1 = grind (arith, nat_tests) in omega (arith, symbol-long s))

-- Where no symbol is found, none begins.
pub symbol-one : (s : Symbol) (rest : List ℕ) → ((t : Symbol) → symbol_of (symbol_text s ++ rest) ≡ Some t → ⊥) → ⊥
unfolding symbol_of symbols
symbol-one symbol.OpenBrace rest h = h symbol.OpenBrace refl
symbol-one symbol.CloseBrace rest h = h symbol.CloseBrace refl
symbol-one symbol.OpenParen rest h = h symbol.OpenParen refl
symbol-one symbol.CloseParen rest h = h symbol.CloseParen refl
symbol-one symbol.OpenBracket rest h = h symbol.OpenBracket refl
symbol-one symbol.CloseBracket rest h = h symbol.CloseBracket refl
symbol-one symbol.Comma rest h = h symbol.Comma refl
symbol-one symbol.Colon rest h = h symbol.Colon refl
symbol-one symbol.Semicolon rest h = h symbol.Semicolon refl
symbol-one symbol.Assign [] h = h symbol.Assign refl
symbol-one symbol.Assign (b ∷ rest) h = by_test (nat_eq 61 b) (λ e. h symbol.Equal (rw e refl)) (λ e. h symbol.Assign (rw e refl))
symbol-one symbol.Equal rest h = h symbol.Equal refl
symbol-one symbol.NotEqual rest h = h symbol.NotEqual refl
symbol-one symbol.Less [] h = h symbol.Less refl
symbol-one symbol.Less (b ∷ rest) h = by_test (nat_eq 61 b) (λ e. h symbol.LessEqual (rw e refl)) (λ e. h symbol.Less (rw e refl))
symbol-one symbol.LessEqual rest h = h symbol.LessEqual refl
symbol-one symbol.Greater [] h = h symbol.Greater refl
symbol-one symbol.Greater (b ∷ rest) h = by_test (nat_eq 61 b) (λ e. h symbol.GreaterEqual (rw e refl)) (λ e. h symbol.Greater (rw e refl))
symbol-one symbol.GreaterEqual rest h = h symbol.GreaterEqual refl
symbol-one symbol.Plus rest h = h symbol.Plus refl
symbol-one symbol.Minus rest h = h symbol.Minus refl
symbol-one symbol.Star rest h = h symbol.Star refl
symbol-one symbol.Slash rest h = h symbol.Slash refl
symbol-one symbol.Percent rest h = h symbol.Percent refl
symbol-one symbol.DotDot rest h = h symbol.DotDot refl

pub symbol-none : (text : List ℕ) (s : Symbol) → symbol_of text ≡ None → starts_with nat_eq text (symbol_text s) ≡ false
symbol-none text s e = by_test (starts_with nat_eq text (symbol_text s))
    (λ t. absurd (symbol-one s (drop (length (symbol_text s)) text) (λ o f. let g : symbol_of text ≡ Some o = ap symbol_of (begins-with text s t) ∙ f in cc)))
    (λ t. t)

pub symbol-no : (text : List ℕ) → ((s : Symbol) → starts_with nat_eq text (symbol_text s) ≡ false) → symbol_of text ≡ None
unfolding symbol_of
symbol-no text h = find-none (λ s. starts_with nat_eq text (symbol_text s)) symbols h

-- Only symbols of the text's first byte can begin the text.
starts-first : (b : ℕ) (rest t : List ℕ) → 0 < length t → starts_with nat_eq (b ∷ rest) t ≡ true → begins (λ first. first == b) t ≡ true
starts-first b rest [] h e = absurd (omega arith)
starts-first b rest (x ∷ t) h e = (both (x == b) (starts_with nat_eq rest t) e).0

pub symbol_by_first : (text : List ℕ) → 0 < length text → find (λ s. starts_with nat_eq text (symbol_text s)) (symbols_beginning (get_or text 0 0)) ≡ symbol_of text
unfolding symbol_of
symbol_by_first [] h = absurd (omega arith)
symbol_by_first (b ∷ rest) h =
    find-filtered (λ s. starts_with nat_eq (b ∷ rest) (symbol_text s)) (λ s. begins (λ first. first == b) (symbol_text s)) symbols
    (λ s t. starts-first b rest (symbol_text s) (symbol-long s) t)

pub symbol_by_nothing : (text : List ℕ) → length text ≡ 0 → symbol_of text ≡ None
unfolding symbol_of symbols
symbol_by_nothing [] h = refl
symbol_by_nothing (b ∷ rest) h = absurd (omega arith)
