-- A cursor that stands within the rows of a chunk.
use Rattle.std.proofs.Common.{◌≡◌, ◌∙◌, ◌≤◌, ◌<◌, refl, sym, ap, arith, ℕ, zero, suc, ◌+◌, Bool, true, false, Ok, get_or, List, [], ◌∷◌, ◌++◌, drop, length, Option, Some, slice_get}
use Rattle.std.proofs.lemmas.List.{drop_all}
use Rattle.sym_table.specs.ChunkRecords.{all_rows}
use Rattle.sym_table.specs.Reading.{HasNext, Passes, Reads, Row}
use Rattle.sym_table.specs.declared.chunk.Chunk.{Chunk}
use Rattle.sym_table.proofs.Cursors.{next_rows, took_row}

-- The next row is the one at the index, and those after it are left.
pub record IsNextRow (rows rest left : List Row) (i : ℕ) (row : Row) : Type 0 where
  pub there : slice_get rows i ≡ Some row
  pub left_is : left ≡ drop (i + 1) rows ++ rest

first_row : (rows rest left : List Row) (row : Row) → 0 < length rows → row ∷ left ≡ rows ++ rest → IsNextRow rows rest left 0 row
first_row [] rest left row h e = absurd (omega (arith, h))
first_row (r ∷ rows) rest left row h e =
    let same : r ≡ row = cc e in
    let after : left ≡ rows ++ rest = cc e in
    record { there = ap Some same; left_is = after }

next_row : (rows rest left : List Row) (i : ℕ) (row : Row) → i < length rows → row ∷ left ≡ drop i rows ++ rest → IsNextRow rows rest left i row
next_row rows rest left zero row h e = first_row rows rest left row h e
next_row [] rest left (suc i) row h e = absurd (omega (arith, h))
next_row (r ∷ rows) rest left (suc i) row h e =
    let later = next_row rows rest left i row (omega (arith, h)) e in
    let step : suc i + 1 ≡ suc (i + 1) = omega arith in
    record { there = later.there; left_is = later.left_is ∙ ap (λ n. drop n (r ∷ rows) ++ rest) (sym step) }

pub row_next : (cursor : Option (List Row)) (rows rest left : List Row) (i : ℕ) (row : Row) → i < length rows → cursor ≡ Some (drop i rows ++ rest) → cursor ≡ Some (row ∷ left)
    → IsNextRow rows rest left i row
row_next cursor rows rest left i row h now read = let same : row ∷ left ≡ drop i rows ++ rest = cc in next_row rows rest left i row h same

no_row : (rows rest : List Row) (i : ℕ) → i < length rows → drop i rows ++ rest ≡ [] → ⊥
no_row [] rest i h e = omega (arith, h)
no_row (r ∷ rows) rest zero h e = cc e
no_row (r ∷ rows) rest (suc i) h e = no_row rows rest i (omega (arith, h)) e

-- A row is there as long as the chunk has one.
pub row_there : (cursor : Option (List Row)) (rows rest : List Row) (i : ℕ) → i < length rows → cursor ≡ Some (drop i rows ++ rest) → cursor ≡ Some [] → ⊥
row_there cursor rows rest i h now read = let none : drop i rows ++ rest ≡ [] = cc in no_row rows rest i h none

-- The row at the index is read, and those after it are left.
pub record IsRead (rows rest : List Row) (i : ℕ) (row : Row) (new : Option (List Row)) : Type 0 where
  pub there : slice_get rows i ≡ Some row
  pub left_is : new ≡ Some (drop (i + 1) rows ++ rest)

-- What a read within the rows of a chunk finds.
pub row_read : (old new : Option (List Row)) (rows rest : List Row) (i : ℕ) (row seen : Row) (found : Bool) → i < length rows → old ≡ Some (drop i rows ++ rest) → found ≡ true
    → seen ≡ row → Reads old new row (Ok found) → IsRead rows rest i seen new
row_read old new rows rest i row seen found h now is same read =
    let took = took_row old new row found is read in
    let next = row_next old rows rest took.0 i row h now took.1 in
    record {
      there = next.there ∙ ap Some (sym same);
      left_is = took.2 ∙ ap Some next.left_is;
    }

pub no_end : (old new : Option (List Row)) (rows rest : List Row) (i : ℕ) (row : Row) (found : Bool) → i < length rows → old ≡ Some (drop i rows ++ rest) → found ≡ false
    → Reads old new row (Ok found) → ⊥
no_end old new rows rest i row true h now is read = cc is
no_end old new rows rest i row false h now is read = row_there old rows rest i h now read.0

-- All rows of the chunk are read.
cancelled : (xs ys zs : List Row) → xs ++ ys ≡ xs ++ zs → ys ≡ zs
cancelled [] ys zs e = e
cancelled (x ∷ xs) ys zs e = cancelled xs ys zs (cc e)

pub all_passed : (old new : Option (List Row)) (rows rest : List Row) (i : ℕ) → length rows ≤ i → old ≡ Some (rows ++ rest) → new ≡ Some (drop i rows ++ rest) → Passes rows old new
all_passed old new rows rest i past had left = λ (other : List Row) (e : old ≡ Some (rows ++ other)).
    let same : rows ++ rest ≡ rows ++ other = cc in
    left ∙ ap (λ (xs : List Row). Some (xs ++ rest)) (drop_all i rows past) ∙ ap Some (cancelled rows rest other same)

-- The rows of one chunk, and those of chunks in order.
pub one_chunk : (cursor : Option (List Row)) (chunks : List Chunk) (cut : Chunk) → cursor ≡ Some (all_rows chunks) → chunks ≡ cut ∷ [] → HasNext cut.rows cursor
one_chunk cursor chunks cut e is = ([], e ∙ ap (λ (cuts : List Chunk). Some (all_rows cuts)) is)

pub next_chunk : (cursor : Option (List Row)) (chunks : List Chunk) (i : ℕ) (cut : Chunk) → i < length chunks → cut ≡ get_or chunks i cut → cursor ≡ Some (all_rows (drop i chunks))
    → cursor ≡ Some (cut.rows ++ all_rows (drop (i + 1) chunks))
next_chunk cursor chunks i cut h is e = e ∙ ap Some (next_rows chunks i cut h is)
