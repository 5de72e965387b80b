-- Lexemes of pieces, wherever they stand.
use Rattle.std.proofs.Common.{◌≡◌, ℕ, zero, suc, ◌+◌, List, [], ◌∷◌, ◌++◌, map, get_or, drop, refl, sym, ◌∙◌, ap, subst, arith}
use Rattle.sym_base.specs.declared.tree.name.Name.{Name as NameRecord}
use Rattle.sym_lex.specs.declared.keyword.Keyword.{Keyword}
use Rattle.sym_lex.specs.declared.symbol.Symbol.{Symbol}
use Rattle.sym_lex.specs.Terminals.{Name, Word, Sign}
use Rattle.sym_parse.specs.Lexemes.{Lexeme}
use Rattle.sym_parse.specs.Printed.{Piece, Token, Space, Break, Indent}
use Rattle.sym_parse.proofs.Printout.Pieces.{lexemes, terminals_of}

-- How many tokens there are among pieces.
abbrev count : List Piece → ℕ
count [] = 0
count (Token t ∷ rest) = suc (count rest)
count (Space ∷ rest) = count rest
count (Break ∷ rest) = count rest
count (Indent n ∷ rest) = count rest

lexemes-append : (place : ℕ → ℕ) (k : ℕ) (a b : List Piece) → lexemes place k (a ++ b) ≡ lexemes place k a ++ lexemes place (k + count a) b
lexemes-append place k [] b = ap (λ n. lexemes place n b) (omega arith)
lexemes-append place k (Token t ∷ rest) b =
    let next : (k + 1) + count rest ≡ k + suc (count rest) = omega arith in
    ap (λ ls. record { terminal = t; at = place k } ∷ ls)
    (lexemes-append place (k + 1) rest b ∙ ap (λ n. lexemes place (k + 1) rest ++ lexemes place n b) next)
lexemes-append place k (Space ∷ rest) b = lexemes-append place k rest b
lexemes-append place k (Break ∷ rest) b = lexemes-append place k rest b
lexemes-append place k (Indent n ∷ rest) b = lexemes-append place k rest b

-- What holds of the lexemes of two lists of pieces, one after the other.
pub in_turn : (place : ℕ → ℕ) (k : ℕ) (a b : List Piece) (R : List Lexeme → Type 0) → ((j : ℕ) → R (lexemes place k a ++ lexemes place j b)) → R (lexemes place k (a ++ b))
in_turn place k a b R h = subst R (sym (lexemes-append place k a b)) (h (k + count a))

-- The places of lexemes, by their number.
abbrev pub places : List Lexeme → ℕ → ℕ
places [] k = 0
places (l ∷ rest) zero = l.at
places (l ∷ rest) (suc k) = places rest k

-- What is left of the lexemes after the first k.
places-drop : (all : List Lexeme) (k : ℕ) (l : Lexeme) (rest : List Lexeme) → drop k all ≡ l ∷ rest → (places all k ≡ l.at) × (drop (suc k) all ≡ rest)
places-drop [] zero l rest h = cc
places-drop [] (suc k) l rest h = cc
places-drop (m ∷ all) zero l rest h = (ap (λ ls. places ls 0) h, ap (drop 1) h)
places-drop (m ∷ all) (suc k) l rest h = places-drop all k l rest h

first-is : {A : Type 0} {x y : A} {xs ys : List A} → x ∷ xs ≡ y ∷ ys → (x ≡ y) × (xs ≡ ys)
first-is {A} {x} {y} {xs} {ys} h = (ap (λ (l : List A). get_or l 0 x) h, ap (drop 1) h)

-- Lexemes of these tokens are the pieces' lexemes, at their places.
placed-from : (all : List Lexeme) (k : ℕ) (ps : List Piece) (ls : List Lexeme) → drop k all ≡ ls → map (λ l. l.terminal) ls ≡ terminals_of ps → lexemes (places all) k ps ≡ ls
placed-from all k [] [] d h = refl
placed-from all k [] (l ∷ rest) d h = cc
placed-from all k (Token t ∷ ps) [] d h = cc
placed-from all k (Token t ∷ ps) (l ∷ rest) d h =
    let split = first-is h in
    let there = places-drop all k l rest d in
    let next : k + 1 ≡ suc k = omega arith in
    let more : lexemes (places all) (k + 1) ps ≡ rest = placed-from all (k + 1) ps rest (ap (λ n. drop n all) next ∙ there.1) split.1 in
    ap (λ ls. record { terminal = t; at = places all k } ∷ ls) more
    ∙ ap (λ n. record { terminal = t; at = n } ∷ rest) there.0
    ∙ ap (λ s. record { terminal = s; at = l.at } ∷ rest) (sym split.0)
placed-from all k (Space ∷ ps) ls d h = placed-from all k ps ls d h
placed-from all k (Break ∷ ps) ls d h = placed-from all k ps ls d h
placed-from all k (Indent n ∷ ps) ls d h = placed-from all k ps ls d h

pub placed : (ls : List Lexeme) (ps : List Piece) → map (λ l. l.terminal) ls ≡ terminals_of ps → lexemes (places ls) 0 ps ≡ ls
placed ls ps h = placed-from ls 0 ps ls refl h

-- The k-th lexeme, where it is a keyword, a symbol or a name.
abbrev pub key : (ℕ → ℕ) → ℕ → Keyword → Lexeme
key place k w = record { terminal = Word w; at = place k }

abbrev pub mark : (ℕ → ℕ) → ℕ → Symbol → Lexeme
mark place k s = record { terminal = Sign s; at = place k }

abbrev pub named : (ℕ → ℕ) → ℕ → NameRecord → Lexeme
named place k n = record { terminal = Name n.text; at = place k }

abbrev pub placed_name : (ℕ → ℕ) → ℕ → NameRecord → NameRecord
placed_name place k n = record { text = n.text; at = place k }
