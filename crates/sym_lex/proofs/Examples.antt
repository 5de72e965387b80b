-- What some texts read as.
use Rattle.std.proofs.Common.{◌≡◌, pos, [], ◌∷◌, codes, false, Some, Ok, Err, refl}
use Rattle.sym_lex.specs.declared.error.LexFault.TheVariants.{BadByte, BadNumber, BadText}
use Rattle.sym_lex.specs.declared.token.TokenKind.TheVariants as kind
use Rattle.sym_lex.specs.declared.keyword.Keyword.TheVariants as keyword
use Rattle.sym_lex.specs.declared.symbol.Symbol.TheVariants as symbol
use Rattle.sym_lex.specs.Keywords.{keyword_of, keywords}
use Rattle.sym_lex.specs.Lexing.{body_of, lexed, lexed_from}
use Rattle.sym_lex.specs.Symbols.{symbol_of, symbols}

-- Three tokens: the longest symbol is taken, and a number has no point.
range : lexed (codes "1..3") ≡ Ok (
    record { kind = kind.Number (pos 1); at = 0; end = 1 }
    ∷ record { kind = kind.Sign symbol.DotDot; at = 1; end = 3 }
    ∷ record { kind = kind.Number (pos 3); at = 3; end = 4 } ∷ [])
unfolding lexed_from symbol_of symbols
range = refl

-- A keyword and a name, and a comment that ends the text.
words : lexed (codes "is iss#") ≡ Ok (
    record { kind = kind.Word keyword.Is; at = 0; end = 2 }
    ∷ record { kind = kind.Name; at = 3; end = 6 } ∷ [])
unfolding lexed_from keyword_of keywords
words = refl

-- `a\""` after a quote: the first quote belongs to the text, the second closes it.
text : body_of false (97 ∷ 92 ∷ 34 ∷ 34 ∷ []) ≡ Some (record { text = 97 ∷ 34 ∷ []; size = 4 })
unfolding body_of
text = refl

-- Faults: a letter after digits, a point alone, a text left open, a `!` alone.
joined : lexed (codes "7 12x") ≡ Err (BadNumber 2)
unfolding lexed_from
joined = refl

point : lexed (codes "1.5") ≡ Err (BadByte 1)
unfolding lexed_from symbol_of symbols
point = refl

left_open : lexed (97 ∷ 32 ∷ 34 ∷ 97 ∷ 10 ∷ 34 ∷ []) ≡ Err (BadText 2)
unfolding lexed_from body_of keyword_of keywords
left_open = refl
