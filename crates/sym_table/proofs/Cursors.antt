-- The rows of chunks, read one after the other.
use Rattle.std.proofs.Common.{◌≡◌, ◌∙◌, ◌<◌, Bor, refl, sym, ap, ap₂, arith, ℕ, suc, ◌+◌, Bool, true, false, not, List, [], ◌∷◌, ◌++◌, append_assoc, drop, length, map, get_or, Option, Some, None, option_map, Ok}
use Rattle.std.specs.List.{All, concat, flat_map}
use Rattle.std.proofs.Math.Seq.{drop-cons}
use Rattle.std.proofs.lemmas.List.{append-nil, length-append, map-append}
use Rattle.std.proofs.lemmas.List.Elements.{All-push, All-same}
use Rattle.sym_rows.specs.Rows.{IsPiece, rows_of}
use Rattle.sym_table.specs.ChunkRecords.{all_rows}
use Rattle.sym_table.specs.RawRows.{IsRaw}
use Rattle.sym_table.specs.Reading.{Reads, Row}
use Rattle.sym_table.specs.declared.chunk.Chunk.{Chunk}

-- The bytes of pieces.
abbrev pub bytes_of : List (Bor (List ℕ)) → List (List ℕ)
bytes_of pieces = map (λ piece. piece.now) pieces

concat_push : (pieces : List (List ℕ)) (x : List ℕ) → concat (pieces ++ x ∷ []) ≡ concat pieces ++ x
concat_push [] x = append-nil x
concat_push (p ∷ pieces) x = ap (λ ys. p ++ ys) (concat_push pieces x) ∙ sym (append_assoc p (concat pieces) x)

rows_push : (pieces : List (List ℕ)) (x : List ℕ) → flat_map rows_of (pieces ++ x ∷ []) ≡ flat_map rows_of pieces ++ rows_of x
rows_push [] x = append-nil (rows_of x)
rows_push (p ∷ pieces) x = ap (λ (ys : List Row). rows_of p ++ ys) (rows_push pieces x) ∙ sym (append_assoc (rows_of p) (flat_map rows_of pieces) (rows_of x))

pub next_rows : (chunks : List Chunk) (i : ℕ) (cut : Chunk) → i < length chunks → cut ≡ get_or chunks i cut
    → all_rows (drop i chunks) ≡ cut.rows ++ all_rows (drop (i + 1) chunks)
next_rows chunks i cut h is =
    let next : suc i ≡ i + 1 = omega arith in
    ap all_rows (drop-cons chunks i cut h ∙ ap₂ (λ (x : Chunk) n. x ∷ drop n chunks) (sym is) next)

-- The pieces of the chunks so far.
pub record AreCollected (pieces : List (List ℕ)) (size : ℕ) (rest all : List Row) : Type 0 where
  pub pieces_are : All IsPiece pieces
  pub size_is : size ≡ length (concat pieces)
  pub rows_are : flat_map rows_of pieces ++ rest ≡ all

pub collected : (old new : List (Bor (List ℕ))) (x : Bor (List ℕ)) (size sum : ℕ) (chunks : List Chunk) (i : ℕ) (cut : Chunk) → new ≡ old ++ x ∷ []
    → sum ≡ size + length x.now → i < length chunks → cut ≡ get_or chunks i cut → IsRaw x.now cut.rows
    → AreCollected (bytes_of old) size (all_rows (drop i chunks)) (all_rows chunks)
    → AreCollected (bytes_of new) sum (all_rows (drop (i + 1) chunks)) (all_rows chunks)
collected old new x size sum chunks i cut e more h is raw so =
    let pushed : bytes_of new ≡ bytes_of old ++ x.now ∷ [] = ap bytes_of e ∙ map-append (λ (piece : Bor (List ℕ)). piece.now) old (x ∷ []) in
    let rest = all_rows (drop (i + 1) chunks) in
    record {
      pieces_are = All-same IsPiece _ _ pushed (All-push IsPiece (bytes_of old) x.now so.pieces_are raw.piece);
      size_is =
          more
          ∙ ap (λ n. n + length x.now) so.size_is
          ∙ sym (length-append (concat (bytes_of old)) x.now)
          ∙ ap length (sym (concat_push (bytes_of old) x.now) ∙ ap concat (sym pushed));
      rows_are =
          ap (λ (ys : List Row). ys ++ rest) (ap (flat_map rows_of) pushed ∙ rows_push (bytes_of old) x.now)
          ∙ append_assoc (flat_map rows_of (bytes_of old)) (rows_of x.now) rest
          ∙ ap (λ (ys : List Row). flat_map rows_of (bytes_of old) ++ ys) (ap (λ (ys : List Row). ys ++ rest) raw.rows_are ∙ sym (next_rows chunks i cut h is))
          ∙ so.rows_are;
    }

pub none_left : (listed rows all : List Row) (over : Option (List Row)) → over ≡ Some rows → rows ≡ [] → listed ++ [] ≡ all
    → option_map (λ more. listed ++ more) over ≡ Some all
none_left listed rows all over e n whole = rw e (ap Some (ap (λ (ys : List Row). listed ++ ys) n ∙ whole))

pub took_row : (old new : Option (List Row)) (row : Row) (found : Bool) → found ≡ true → Reads old new row (Ok found) → Reads old new row (Ok true)
took_row old new row true n h = h
took_row old new row false n h = cc n

-- The rows that are left, twice.
pub same_left : (x : Option (List Row)) (left more : List Row) → x ≡ Some left → x ≡ Some more → left ≡ more
same_left x left more e f = cc
