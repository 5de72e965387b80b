-- Appending item after item.
use Rattle.std.proofs.Common.{◌≡◌, ℕ, ◌+◌, ◌*◌, ◌<◌, ℤ, pos, negsuc, Bool, true, false, cond, if◌then◌else◌, List, [], ◌∷◌, ◌++◌, map, length, get_or, drop, replicate, codes, refl, sym, ◌∙◌, ap, append_assoc, arith}
use Rattle.std.specs.Fmt.{signed_decimal}
use Rattle.std.specs.List.{flat_map}
use Rattle.std.proofs.lemmas.List.{append-nil, drop_more, replicate-append-replicate}
use Rattle.std.proofs.lemmas.List.Concat.{flat_map-append}
use Rattle.sym_lex.specs.declared.symbol.Symbol.TheVariants as symbol
use Rattle.sym_lex.specs.Letters.{is_escaped}
use Rattle.sym_lex.specs.Quoting.{escaped}
use Rattle.sym_parse.specs.Printed.{Piece, piece_text, text, sign, indent, enclosed, num}

-- The text of pieces before pieces.
pub text_append : (a b : List Piece) → text (a ++ b) ≡ text a ++ text b
text_append a b = flat_map-append piece_text a b

pub enclosed_text : (b : Bool) (ps : List Piece) → text (enclosed b ps) ≡ (if b then codes "(" else []) ++ (text ps ++ (if b then codes ")" else []))
enclosed_text true ps = ap (λ t. 40 ∷ t) (text_append ps (sign symbol.CloseParen ∷ []))
enclosed_text false ps = sym (append-nil (text ps))

pub num_text : (n : ℤ) → text (num n) ≡ signed_decimal n
num_text (pos n) = append-nil (signed_decimal (pos n))
num_text (negsuc n) = append-nil (signed_decimal (negsuc n))

-- An item appended, and what is left.
pub appended_more : {A : Type 0} (pieces : A → List Piece) (xs : List A) (i : ℕ) (d : A) (before all : List ℕ) → i < length xs
    → before ++ text (flat_map pieces (drop i xs)) ≡ all
    → before ++ text (pieces (get_or xs i d)) ++ text (flat_map pieces (drop (i + 1) xs)) ≡ all
appended_more pieces xs i d before all h e =
    append_assoc before (text (pieces (get_or xs i d))) (text (flat_map pieces (drop (i + 1) xs)))
    ∙ ap (λ rest. before ++ rest) (sym (text_append (pieces (get_or xs i d)) (flat_map pieces (drop (i + 1) xs))))
    ∙ ap (λ rest. before ++ text (flat_map pieces rest)) (sym (drop_more xs i d h)) ∙ e

escaped_first : (b : ℕ) (rest : List ℕ) → escaped (b ∷ rest) ≡ escaped (b ∷ []) ++ escaped rest
escaped_first b rest =
    elim (is_escaped b) as (λ t. cond t (92 ∷ b ∷ escaped rest) (b ∷ escaped rest) ≡ cond t (92 ∷ b ∷ []) (b ∷ []) ++ escaped rest)
    [ true ↦ refl | false ↦ refl ]

pub escaped_more : (xs : List ℕ) (i d : ℕ) (before all : List ℕ) → i < length xs
    → before ++ escaped (drop i xs) ≡ all
    → before ++ escaped (get_or xs i d ∷ []) ++ escaped (drop (i + 1) xs) ≡ all
escaped_more xs i d before all h e =
    append_assoc before (escaped (get_or xs i d ∷ [])) (escaped (drop (i + 1) xs))
    ∙ ap (λ rest. before ++ rest) (sym (escaped_first (get_or xs i d) (drop (i + 1) xs)))
    ∙ ap (λ rest. before ++ escaped rest) (sym (drop_more xs i d h)) ∙ e

pub indent_more : (n : ℕ) → indent n ++ (32 ∷ 32 ∷ []) ≡ indent (n + 1)
indent_more n = replicate-append-replicate (2 * n) 2 32 ∙ ap (λ k. replicate k 32) (omega arith)

pub flat_map_map : {A B C : Type 0} (f : B → List C) (g : A → B) (xs : List A) → flat_map f (map g xs) ≡ flat_map (λ x. f (g x)) xs
flat_map_map f g [] = refl
flat_map_map f g (x ∷ xs) = ap (λ rest. f (g x) ++ rest) (flat_map_map f g xs)
