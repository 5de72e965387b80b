-- Rows, chunks and rounds that are shown as other ones.
use Rattle.std.proofs.Common.{◌≡◌, ◌∙◌, refl, sym, ap, subst, ℕ, ◌+◌, List, [], ◌∷◌, ◌++◌, All, length, map, replicate, arith}
use Rattle.std.proofs.lemmas.List.{length-map, replicate-append-replicate}
use Rattle.std.proofs.lemmas.List.Elements.{All-map}
use Rattle.sym_check.specs.declared.plan.script.FieldPlan.{FieldPlan}
use Rattle.sym_table.specs.declared.chunk.Chunk.{Chunk}
use Rattle.sym_table.specs.declared.header.Header.{Header}
use Rattle.sym_table.specs.ChunkRecords.{RunOn}
use Rattle.sym_table.specs.Reading.{Row}
use Rattle.sym_table.specs.Rows.{FitsChunk}
use Rattle.sym_files.specs.Rounds.{IsRound, shown_chunk, shown_chunks}
use Rattle.sym_workers_tests.specs.Showing.{row_b, shows_b}

-- One row more.
pub more_rows : (n : ℕ) → replicate n row_b ++ row_b ∷ [] ≡ replicate (n + 1) row_b
more_rows n = replicate-append-replicate n 1 row_b

-- As many rows as there are, each the one that is shown.
pub rows_shown : (rows : List Row) → replicate (length rows) row_b ≡ map shows_b rows
rows_shown [] = refl
rows_shown (row ∷ rows) = ap (λ more. row_b ∷ more) (rows_shown rows)

abbrev chunk_of : ℕ → Header → List Row → Chunk
chunk_of first_no header rows = record { first_no = first_no; header = header; rows = rows }

-- A chunk with another's number and header, and as many rows, each the one that is shown.
pub chunk_shown : (cut : Chunk) (header : Header) (rows : List Row) (count : ℕ) → header ≡ cut.header → count ≡ length cut.rows → rows ≡ replicate count row_b
    → chunk_of cut.first_no header rows ≡ shown_chunk shows_b cut
chunk_shown cut header rows count same many are =
    ap (λ h. chunk_of cut.first_no h rows) same
    ∙ ap (chunk_of cut.first_no cut.header) (are ∙ ap (λ n. replicate n row_b) many ∙ rows_shown cut.rows)

run_on_shown : (f : Row → Row) (n : ℕ) (cuts : List Chunk) → RunOn n cuts → RunOn n (shown_chunks f cuts)
run_on_shown f n [] numbers = tt
run_on_shown f n (cut ∷ cuts) numbers =
    let P : ℕ → Type 0 = λ k. RunOn (n + k) (shown_chunks f cuts) in
    (numbers.0, subst P (sym (length-map cut.rows f)) (run_on_shown f (n + length cut.rows) cuts numbers.1))

fits_shown : (f : Row → Row) (fields : List FieldPlan) (cut : Chunk) → FitsChunk fields cut → FitsChunk fields (shown_chunk f cut)
fits_shown f fields cut fits = record {
  header = fits.header;
  number = fits.number;
  few = omega (arith, fits.few, length-map cut.rows f);
}

-- A round is one however its rows are shown.
pub round_shown : (f : Row → Row) (fields : List FieldPlan) (cuts : List Chunk) → IsRound fields cuts → IsRound fields (shown_chunks f cuts)
round_shown f fields cuts is =
    let count : length (shown_chunks f cuts) ≡ length cuts = length-map cuts (shown_chunk f) in
    record {
      some = omega (arith, is.some, count);
      most = omega (arith, is.most, count);
      fit = All-map (FitsChunk fields) (shown_chunk f) cuts (λ k d near. fits_shown f fields _ (is.fit k d near));
      first = is.first;
      numbers = run_on_shown f is.first cuts is.numbers;
    }
