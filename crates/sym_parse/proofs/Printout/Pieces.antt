-- The tokens of pieces, and their lexemes.
use Rattle.std.proofs.Common.{ℕ, ◌+◌, List, [], ◌∷◌}
use Rattle.sym_lex.specs.Terminals.{Terminal}
use Rattle.sym_parse.specs.Lexemes.{Lexeme}
use Rattle.sym_parse.specs.Printed.{Piece, Token, Space, Break, Indent}

-- The tokens among pieces.
abbrev pub terminals_of : List Piece → List Terminal
terminals_of [] = []
terminals_of (Token t ∷ rest) = t ∷ terminals_of rest
terminals_of (Space ∷ rest) = terminals_of rest
terminals_of (Break ∷ rest) = terminals_of rest
terminals_of (Indent n ∷ rest) = terminals_of rest

-- The lexemes of pieces, from the k-th of the whole on, by the places of them all.
abbrev pub lexemes : (ℕ → ℕ) → ℕ → List Piece → List Lexeme
lexemes place k [] = []
lexemes place k (Token t ∷ rest) = record { terminal = t; at = place k } ∷ lexemes place (k + 1) rest
lexemes place k (Space ∷ rest) = lexemes place k rest
lexemes place k (Break ∷ rest) = lexemes place k rest
lexemes place k (Indent n ∷ rest) = lexemes place k rest
