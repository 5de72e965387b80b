-- The tokens of one or two bytes. The list is this project's profile.
use Rattle.std.specs.Prelude.{ℕ, ◌==◌, nat_eq, List, [], ◌∷◌, Option, codes}
use Rattle.std.specs.List.{filter, find, starts_with}
use Rattle.sym_lex.specs.declared.symbol.Symbol.{Symbol}
use Rattle.sym_lex.specs.declared.symbol.Symbol.TheVariants as symbol
use Rattle.sym_lex.specs.Letters.{begins}

-- A symbol as it is written.
abbrev pub symbol_text : Symbol → List ℕ
symbol_text symbol.OpenBrace = codes "{"
symbol_text symbol.CloseBrace = codes "}"
symbol_text symbol.OpenParen = codes "("
symbol_text symbol.CloseParen = codes ")"
symbol_text symbol.OpenBracket = codes "["
symbol_text symbol.CloseBracket = codes "]"
symbol_text symbol.Comma = codes ","
symbol_text symbol.Colon = codes ":"
symbol_text symbol.Semicolon = codes ";"
symbol_text symbol.Assign = codes "="
symbol_text symbol.Equal = codes "=="
symbol_text symbol.NotEqual = codes "!="
symbol_text symbol.Less = codes "<"
symbol_text symbol.LessEqual = codes "<="
symbol_text symbol.Greater = codes ">"
symbol_text symbol.GreaterEqual = codes ">="
symbol_text symbol.Plus = codes "+"
symbol_text symbol.Minus = codes "-"
symbol_text symbol.Star = codes "*"
symbol_text symbol.Slash = codes "/"
symbol_text symbol.Percent = codes "%"
symbol_text symbol.DotDot = codes ".."

-- All symbols, those of two bytes before those of one.
unfoldable pub symbols : List Symbol
symbols =
    symbol.Equal ∷ symbol.NotEqual ∷ symbol.LessEqual ∷ symbol.GreaterEqual ∷ symbol.DotDot
    ∷ symbol.OpenBrace ∷ symbol.CloseBrace ∷ symbol.OpenParen ∷ symbol.CloseParen
    ∷ symbol.OpenBracket ∷ symbol.CloseBracket ∷ symbol.Comma ∷ symbol.Colon ∷ symbol.Semicolon
    ∷ symbol.Assign ∷ symbol.Less ∷ symbol.Greater ∷ symbol.Plus ∷ symbol.Minus ∷ symbol.Star
    ∷ symbol.Slash ∷ symbol.Percent ∷ []

-- The symbols that begin with this byte, those of two bytes before those of one.
abbrev pub symbols_beginning : ℕ → List Symbol
symbols_beginning b = filter (λ s. begins (λ first. first == b) (symbol_text s)) symbols

-- The longest symbol with which the text begins.
unfoldable pub symbol_of : List ℕ → Option Symbol
symbol_of text = find (λ s. starts_with nat_eq text (symbol_text s)) symbols
