-- Where pieces end.
use Rattle.std.proofs.Common.{◌≡◌, ◌≤◌, ◌<◌, ◌∙◌, refl, sym, ap, ap₂, subst, arith, ℕ, ◌+◌, ◌-◌, not, Bool, true, false, List, [], ◌∷◌, ◌++◌, length, take, drop, get_or}
use Rattle.std.proofs.lemmas.List.{append-nil, drop_all}
use Rattle.sym_rows.specs.Pieces.{IsNextPiece, IsQuoted, between}
use Rattle.sym_rows.specs.Places.{is_between, is_quoted, next_step, one_if, place_after, row_ends}
use Rattle.sym_rows.specs.Rows.{BeginsLine, EndsOutside, Row, is_line_end, rows_of}
use Rattle.sym_rows.specs.declared.place.Place.{Place}
use Rattle.sym_rows.specs.declared.place.Place.TheVariants as place
use Rattle.sym_rows.specs.declared.search.Piece.{Piece}
use Rattle.sym_rows.proofs.Parts.{no_rows, rows_cut_before_line}
use Rattle.sym_rows.proofs.Slices.{all_at, byte_at, rest_at, slice_more}
use Rattle.sym_rows.proofs.Walks.{ends_in_quotes, ends_outside, ends_push, ends_there, place_push, rows_counted}

-- Reading stands at a place of the bytes, and so many rows have ended.
pub record IsAt (bytes : List ℕ) (from at rows : ℕ) (p : Place) : Type 0 where
  pub low : from ≤ at
  pub high : at ≤ length bytes
  pub counted : rows ≡ row_ends place.Between (between bytes from at)
  pub stands : p ≡ place_after place.Between (between bytes from at)

-- A byte more.
pub record IsOn (bytes : List ℕ) (from at rows : ℕ) (p : Place) (ends : Bool) : Type 0 where
  pub counted : rows + one_if ends ≡ row_ends place.Between (between bytes from (at + 1))
  pub stands : p ≡ place_after place.Between (between bytes from (at + 1))

pub one_on : (bytes : List ℕ) (from at rows : ℕ) (p : Place) → at < length bytes → IsAt bytes from at rows p
    → IsOn bytes from at rows (next_step p (get_or bytes at 0)).at (next_step p (get_or bytes at 0)).ends
one_on bytes from at rows p h so =
    let more = slice_more bytes from at so.low h in
    let c = get_or bytes at 0 in
    let piece = between bytes from at in
    record {
      counted =
          ap₂ (λ x q. x + one_if (next_step q c).ends) so.counted so.stands
          ∙ sym (ap (row_ends place.Between) more ∙ ends_push piece c place.Between);
      stands =
          ap (λ q. (next_step q c).at) so.stands
          ∙ sym (ap (place_after place.Between) more ∙ place_push piece c place.Between);
    }

line_at : (bytes : List ℕ) (at : ℕ) → at < length bytes → is_line_end (get_or bytes at 0) ≡ true → BeginsLine (drop at bytes)
line_at bytes at h e = subst BeginsLine (sym (byte_at bytes at h)) e

size_of : (piece : List ℕ) (rows : ℕ) (p : Place) → rows ≡ row_ends place.Between piece → p ≡ place_after place.Between piece → rows + one_if (not (is_between p)) ≡ length (rows_of piece)
size_of piece rows p counted stands =
    ap₂ (λ x q. x + one_if (not (is_between q))) counted stands ∙ sym (rows_counted piece)

-- The piece ends before a byte that ends a row.
pub ends_before : (bytes : List ℕ) (from at rows count : ℕ) (p : Place) → at < length bytes → IsAt bytes from at rows p → rows + 1 ≡ count
    → (next_step p (get_or bytes at 0)).ends ≡ true → IsNextPiece bytes from count (record { end = at; rows = rows + 1; quoted = false })
ends_before bytes from at rows count p h so e ends =
    let there = ends_there p (get_or bytes at 0) ends in
    let piece = between bytes from at in
    let outside : EndsOutside piece = ends_outside piece (ap is_quoted (sym so.stands) ∙ there.outside) in
    let begins = line_at bytes at h there.line in
    let one : one_if (not (is_between p)) ≡ 1 = ap (λ b. one_if (not b)) there.begun in
    record {
      low = so.low;
      high = so.high;
      rows = ap rows_of (sym (rest_at bytes from at so.low)) ∙ rows_cut_before_line piece (drop at bytes) outside begins;
      counted = ap (λ n. rows + n) (sym one) ∙ size_of piece rows p so.counted so.stands;
      most = omega (arith, e);
      full = λ less. absurd (omega (arith, e, less));
      begins = begins;
      quoted = outside;
      last = λ none. cc none;
    }

quoted_so : (piece : List ℕ) (quoted : Bool) → is_quoted (place_after place.Between piece) ≡ quoted → IsQuoted quoted piece
quoted_so piece true e = ends_in_quotes piece e
quoted_so piece false e = ends_outside piece e

one_small : (b : Bool) → one_if b ≤ 1
one_small true = omega arith
one_small false = omega arith

-- The piece has all bytes that are left.
pub ends_last : (bytes : List ℕ) (from at rows count begun : ℕ) (p : Place) (quoted : Bool) → length bytes ≤ at → IsAt bytes from at rows p → rows < count
    → begun ≡ one_if (not (is_between p)) → quoted ≡ is_quoted p → IsNextPiece bytes from count (record { end = at; rows = rows + begun; quoted = quoted })
ends_last bytes from at rows count begun p quoted past so few is_begun is_open =
    let piece = between bytes from at in
    let high = so.high in
    let end : at ≡ length bytes = omega (arith, high, past) in
    let none : drop at bytes ≡ [] = drop_all at bytes past in
    let small = one_small (not (is_between p)) in
    record {
      low = so.low;
      high = so.high;
      rows =
          ap rows_of (sym (rest_at bytes from at so.low) ∙ ap (λ (ys : List ℕ). piece ++ ys) none ∙ append-nil piece)
          ∙ sym (append-nil (rows_of piece))
          ∙ ap (λ (ys : List Row). rows_of piece ++ ys) (sym no_rows ∙ ap rows_of (sym none));
      counted = ap (λ n. rows + n) is_begun ∙ size_of piece rows p so.counted so.stands;
      most = omega (arith, few, small, is_begun);
      full = λ less. end;
      begins = subst BeginsLine (sym none) tt;
      quoted = quoted_so piece quoted (ap is_quoted (sym so.stands) ∙ sym is_open);
      last = λ is. end;
    }
