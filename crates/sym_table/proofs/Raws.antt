-- Rows that are kept as bytes, and a file's bytes that are left.
use Rattle.std.proofs.Common.{◌≡◌, ◌≤◌, ◌<◌, ◌∙◌, refl, sym, ap, subst, arith, ℕ, zero, suc, ◌+◌, ◌-◌, Bool, true, false, List, [], ◌∷◌, ◌++◌, append-nil, drop, take, length, Option, Some, Ok, Result}
use Rattle.std.proofs.lemmas.List.{drop_all, length-drop, take_all}
use Rattle.sym_base.specs.declared.values.memory.NoMemory.{NoMemory}
use Rattle.sym_check.specs.declared.plan.script.FieldPlan.{FieldPlan}
use Rattle.sym_rows.specs.Pieces.{IsNextPiece, IsQuoted, between}
use Rattle.sym_rows.specs.Rows.{BeginsLine, EndsInQuotes, IsPiece, rows_of}
use Rattle.sym_rows.specs.declared.search.Piece.{Piece}
use Rattle.sym_rows.proofs.Parts.{closed_outside, no_rows, rows_closed}
use Rattle.sym_table.specs.Cutting.{AreTaken, HeadsBy, Opens}
use Rattle.sym_table.specs.RawRows.{AreRaw, IsClosed, source_rows}
use Rattle.sym_table.specs.Reading.{Reads, Row}
use Rattle.sym_table.specs.declared.header.Header.{Header}

pub no_raw : (raw : List ℕ) → raw ≡ [] → AreRaw raw 0
no_raw raw e = rw e (record { piece = record { begins = tt; ends = tt }; counted = sym (ap length no_rows) })

pub nothing_there : (raw : List ℕ) (rows : List Row) → raw ≡ [] → rows ≡ [] → rows_of raw ++ rows ≡ []
nothing_there raw rows e n = rw (e, n) (append-nil (rows_of []) ∙ no_rows)

-- Bytes that are closed by a quote.
closed_begins : (bytes : List ℕ) → EndsInQuotes bytes → BeginsLine bytes → BeginsLine (bytes ++ 34 ∷ [])
closed_begins [] e h = cc e
closed_begins (b ∷ rest) e h = h

closed : (bytes : List ℕ) → EndsInQuotes bytes → BeginsLine bytes → IsClosed bytes (bytes ++ 34 ∷ [])
closed bytes e h = record {
  piece = record { begins = closed_begins bytes e h; ends = closed_outside bytes e };
  rows = rows_closed bytes e;
}

in_quotes : (quoted : Bool) (bytes : List ℕ) → quoted ≡ true → IsQuoted quoted bytes → EndsInQuotes bytes
in_quotes true bytes e h = h
in_quotes false bytes e h = cc e

pub closed_by_quote : (quoted : Bool) (bytes cleared more raw : List ℕ) → quoted ≡ true → IsQuoted quoted bytes → BeginsLine bytes
    → cleared ≡ [] → more ≡ cleared ++ bytes → raw ≡ more ++ 34 ∷ [] → IsClosed bytes raw
closed_by_quote quoted bytes cleared more raw e h begins c m r =
    let whole : raw ≡ bytes ++ 34 ∷ [] = r ∙ ap (λ (xs : List ℕ). xs ++ 34 ∷ []) (m ∙ ap (λ (xs : List ℕ). xs ++ bytes) c) in
    subst (IsClosed bytes) (sym whole) (closed bytes (in_quotes quoted bytes e h) begins)

pub all_closed : (bytes raw : List ℕ) (rows : List Row) → rows ≡ [] → IsClosed bytes raw → rows_of raw ++ rows ≡ rows_of bytes
all_closed bytes raw rows n so = rw n (append-nil (rows_of raw) ∙ so.rows)

pub begins_take : (n : ℕ) (bytes : List ℕ) → BeginsLine bytes → BeginsLine (take n bytes)
begins_take zero bytes h = tt
begins_take (suc n) [] h = tt
begins_take (suc n) (b ∷ rest) h = h

-- The rows after the first one.
one_dropped : (xs ys : List Row) (n : ℕ) → n ≡ length xs → n ≤ 1 → (n < 1 → ys ≡ []) → drop 1 (xs ++ ys) ≡ ys
one_dropped [] ys n e most none = let nothing : ys ≡ [] = none (omega (arith, e)) in rw nothing refl
one_dropped (x ∷ []) ys n e most none = refl
one_dropped (x ∷ y ∷ more) ys n e most none = absurd (omega (arith, e, most))

pub first_left : (bytes : List ℕ) (found : Piece) → IsNextPiece bytes 0 1 found → rows_of (drop found.end bytes) ≡ drop 1 (rows_of bytes)
first_left bytes found so =
    let piece = between bytes 0 found.end in
    sym (
    ap (drop 1) so.rows
    ∙ one_dropped (rows_of piece) (rows_of (drop found.end bytes)) found.rows so.counted so.most
    (λ (less : found.rows < 1). ap rows_of (drop_all found.end bytes (omega (arith, so.full less))) ∙ no_rows))

-- The rows of a piece are taken.
pub piece_taken : (bytes : List ℕ) (at count : ℕ) (found : Piece) (by : Bool) (reader old : Option (List Row)) (rows : List Row) → by ≡ false
    → source_rows by reader (drop at bytes) ≡ old → IsNextPiece bytes at count found → rows ≡ rows_of (between bytes at found.end)
    → AreTaken count old (source_rows by reader (drop found.end bytes)) rows
piece_taken bytes at count found by reader old rows e view so is =
    let was : Some (rows_of (drop at bytes)) ≡ old = rw e at view in
    let size : found.rows ≡ length rows = so.counted ∙ ap length (sym is) in
    record {
      rest = rows_of (drop found.end bytes);
      had = sym was ∙ ap Some (so.rows ∙ ap (λ (xs : List Row). xs ++ rows_of (drop found.end bytes)) (sym is));
      has = rw e refl;
      most = let most = so.most in omega (arith, size);
      full = λ (less : length rows < count). ap rows_of (drop_all found.end bytes (omega (arith, so.full (omega (arith, size, less))))) ∙ no_rows;
    }

pub reads_from : (by : Bool) (reader now old new next : Option (List Row)) (bytes : List ℕ) (row : Row) (result : Result Bool NoMemory) → by ≡ false
    → source_rows by reader bytes ≡ now → old ≡ Some (rows_of bytes) → next ≡ new → Reads old new row result → Reads now next row result
reads_from by reader now old new next bytes row result e view is n h =
    let was : Some (rows_of bytes) ≡ now = rw e at view in
    subst (λ (o : Option (List Row)). Reads o next row result) (is ∙ was) (subst (λ (o : Option (List Row)). Reads old o row result) (sym n) h)

-- What opening a file leaves.
pub heads_rest : (fields : List FieldPlan) (rows : List Row) (new : Option (List Row)) (h : Header) → HeadsBy fields rows new (Ok h) → new ≡ Some (drop 1 rows)
heads_rest fields [] new h e = e
heads_rest fields (header ∷ rest) new h e = e.2

opens_by : (fields : List FieldPlan) (rows : List Row) (new : Option (List Row)) (h : Header) (n chunk : ℕ) → HeadsBy fields rows new (Ok h)
    → Opens fields rows (Ok (record { left = new; header = h; next_no = n; chunk = chunk }))
opens_by fields [] new h n chunk e = e
opens_by fields (header ∷ rest) new h n chunk e = e

pub opened : (fields named : List FieldPlan) (rows all : List Row) (new left : Option (List Row)) (h : Header) (n chunk : ℕ) → named ≡ fields → all ≡ rows → left ≡ new → HeadsBy fields rows new (Ok h)
    → Opens named all (Ok (record { left = left; header = h; next_no = n; chunk = chunk }))
opened fields named rows all new left h n chunk f e l so = rw (f, e, l) (opens_by fields rows new h n chunk so)

-- The bytes from a place on.
pub slice_to_end : (bytes : List ℕ) (at : ℕ) → take (length bytes - at) (drop at bytes) ≡ drop at bytes
slice_to_end bytes at = let size = length-drop at bytes in take_all (length bytes - at) (drop at bytes) (omega (arith, size))
