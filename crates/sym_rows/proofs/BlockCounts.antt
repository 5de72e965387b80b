-- Counting in a block.
use Rattle.std.proofs.Common.{◌≡◌, ◌≤◌, ◌<◌, ◌∙◌, refl, sym, ap, ap₂, cond, subst, if◌then◌else◌, arith, ℕ, suc, ◌+◌, ◌-◌, ◌==◌, ◌&&◌, not, Bool, true, false, List, [], ◌∷◌, ◌++◌, length, take, drop, get_or}
use Rattle.std.proofs.lemmas.List.{get_or-drop, get_or-take, take_more}
use Rattle.sym_rows.specs.Pieces.{AreEnds, between}
use Rattle.sym_rows.specs.Places.{goes, next_step, one_if, place_after, place_of, row_ends, start}
use Rattle.sym_rows.specs.Rows.{is_line_end}
use Rattle.sym_rows.specs.declared.blocks.Ends.{Ends}
use Rattle.sym_rows.specs.declared.place.Place.{Place}
use Rattle.sym_rows.specs.declared.place.Place.TheVariants as place
use Rattle.sym_rows.specs.declared.place.Step.{Step}
use Rattle.sym_rows.proofs.Slices.{byte_at, one_byte, slices}
use Rattle.sym_rows.proofs.Walks.{ends_append, ends_push, place_append, place_push, plain_after}

pub one_small : (b : Bool) → one_if b ≤ 1
one_small true = omega arith
one_small false = omega arith

none_there : (b : Bool) → one_if b ≡ 0 → b ≡ false
none_there true e = cc e
none_there false e = refl

-- One byte more of those after the first.
body_more : (window : List ℕ) (i : ℕ) → i + 1 < length window → take (i + 1) (drop 1 window) ≡ take i (drop 1 window) ++ get_or window (i + 1) 0 ∷ []
body_more [] i h = absurd (omega (arith, h))
body_more (b ∷ rest) i h =
    let next : i + 1 ≡ suc i = omega arith in
    let same : get_or (b ∷ rest) (i + 1) 0 ≡ get_or rest i 0 = ap (λ n. get_or (b ∷ rest) n 0) next in
    take_more rest i 0 (omega (arith, h)) ∙ ap (λ x. take i rest ++ x ∷ []) (sym same)

-- One byte more is counted.
pub record Counted (window : List ℕ) (i rows quotes : ℕ) : Type 0 where
  pub counted : quotes ≡ 0 → rows ≡ row_ends (place_of (get_or window 0 0)) (take i (drop 1 window))
  pub stands : quotes ≡ 0 → place_of (get_or window i 0) ≡ place_after (place_of (get_or window 0 0)) (take i (drop 1 window))

pub counted_more : (window : List ℕ) (i rows quotes one quote : ℕ) → i + 1 < length window → Counted window i rows quotes
    → one ≡ one_if (is_line_end (get_or window (i + 1) 0) && not (is_line_end (get_or window i 0)))
    → quote ≡ one_if (get_or window (i + 1) 0 == 34)
    → Counted window (i + 1) (rows + one) (quotes + quote)
counted_more window i rows quotes one quote h so is_one is_quote =
    let first = place_of (get_or window 0 0) in
    let body = take i (drop 1 window) in
    let c = get_or window (i + 1) 0 in
    record {
      counted = λ (none : quotes + quote ≡ 0).
          let q : quotes ≡ 0 = omega (arith, none) in
          let n : quote ≡ 0 = omega (arith, none) in
          let plain = plain_after (get_or window i 0) c (none_there (c == 34) (sym is_quote ∙ n)) in
          let pushed = ends_push body c first in
          let same : one_if (next_step (place_after first body) c).ends ≡ one =
          ap (λ p. one_if (next_step p c).ends) (sym (so.stands q)) ∙ ap one_if plain.ends_is ∙ sym is_one in
          ap₂ (λ x y. x + y) (so.counted q) (sym same) ∙ sym pushed ∙ ap (row_ends first) (sym (body_more window i h));
      stands = λ (none : quotes + quote ≡ 0).
          let q : quotes ≡ 0 = omega (arith, none) in
          let n : quote ≡ 0 = omega (arith, none) in
          let plain = plain_after (get_or window i 0) c (none_there (c == 34) (sym is_quote ∙ n)) in
          sym plain.at_is ∙ ap (λ p. (next_step p c).at) (so.stands q) ∙ sym (place_push body c first) ∙ ap (place_after first) (sym (body_more window i h));
    }

-- A block more is passed over.
pub record Reached (bytes : List ℕ) (from last rows : ℕ) : Type 0 where
  pub counted : rows ≡ row_ends place.Between (between bytes from (last + 1))
  pub stands : place_of (get_or bytes last 0) ≡ place_after place.Between (between bytes from (last + 1))

window_body : (bytes : List ℕ) (last : ℕ) → last < length bytes → drop 1 (take 129 (drop last bytes)) ≡ between bytes (last + 1) (last + 128 + 1)
window_body bytes last h =
    let size : last + 128 + 1 - (last + 1) ≡ 128 = omega arith in
    ap (λ (xs : List ℕ). drop 1 (take 129 xs)) (byte_at bytes last h)
    ∙ ap (λ n. take n (drop (last + 1) bytes)) (sym size)

window_byte : (bytes : List ℕ) (last i : ℕ) (window : List ℕ) → i < 129 → window ≡ take 129 (drop last bytes) → get_or window i 0 ≡ get_or bytes (last + i) 0
window_byte bytes last i window h is =
    ap (λ (w : List ℕ). get_or w i 0) is ∙ get_or-take 129 (drop last bytes) i 0 h ∙ get_or-drop last bytes i 0

pub block_passed : (bytes : List ℕ) (from last rows : ℕ) (window : List ℕ) (found : Ends) → from ≤ last → last + 128 < length bytes
    → window ≡ take 129 (drop last bytes) → AreEnds window found → found.quoted ≡ false
    → Reached bytes from last rows → Reached bytes from (last + 128) (rows + found.rows)
block_passed bytes from last rows window found low high is ends none so =
    let first : get_or window 0 0 ≡ get_or bytes last 0 = window_byte bytes last 0 window (omega arith) is ∙ ap (λ n. get_or bytes n 0) (omega arith) in
    let end : get_or window 128 0 ≡ get_or bytes (last + 128) 0 = window_byte bytes last 128 window (omega arith) is in
    let all = slices bytes from (last + 1) (last + 128 + 1) (omega arith) (omega arith) in
    let body : drop 1 window ≡ between bytes (last + 1) (last + 128 + 1) = ap (drop 1) is ∙ window_body bytes last (omega arith) in
    let here : place_of (get_or window 0 0) ≡ place_after place.Between (between bytes from (last + 1)) = ap place_of first ∙ so.stands in
    record {
      counted =
          ap₂ (λ x y. x + y) so.counted (ends.rows none ∙ ap₂ (λ p xs. row_ends p xs) here body)
          ∙ sym (ap (row_ends place.Between) all ∙ ends_append (between bytes from (last + 1)) (between bytes (last + 1) (last + 128 + 1)) place.Between);
      stands =
          ap place_of (sym end)
          ∙ ends.stands none
          ∙ ap₂ (λ p xs. place_after p xs) here body
          ∙ sym (ap (place_after place.Between) all ∙ place_append (between bytes from (last + 1)) (between bytes (last + 1) (last + 128 + 1)) place.Between);
    }

-- The first byte is passed over.
pub first_passed : (bytes : List ℕ) (from : ℕ) → from < length bytes → is_line_end (get_or bytes from 0) ≡ true → Reached bytes from from 0
first_passed bytes from h e =
    let one = one_byte bytes from h in
    record {
      counted = sym (ap (row_ends place.Between) one ∙ first_ends (get_or bytes from 0) e);
      stands = first_stands (get_or bytes from 0) e ∙ sym (ap (place_after place.Between) one);
    }
  where
    first_ends : (c : ℕ) → is_line_end c ≡ true → row_ends place.Between (c ∷ []) ≡ 0
    first_ends c e = rw e refl

    first_bits : (end comma : Bool) (t : Step) → end ≡ true
        → (if end then place.Between else if comma then place.Start else place.Inside) ≡ (if end then goes place.Between false else t).at
    first_bits true comma t e = refl
    first_bits false comma t e = cc e

    first_stands : (c : ℕ) → is_line_end c ≡ true → place_of c ≡ place_after place.Between (c ∷ [])
    first_stands c e = first_bits (is_line_end c) (c == 44) (start c) e
