-- Bytes from one place up to another.
use Rattle.std.proofs.Common.{◌≡◌, ◌≤◌, ◌<◌, ◌∙◌, refl, sym, ap, ap₂, arith, ℕ, suc, ◌+◌, ◌-◌, List, [], ◌∷◌, ◌++◌, length, take, drop, get_or}
use Rattle.std.proofs.Math.Seq.{drop-cons, take-add}
use Rattle.std.proofs.lemmas.List.{append-nil, drop-drop, drop_all, take-append-drop}
use Rattle.sym_rows.specs.Pieces.{between}

-- The bytes up to the place, and those from it on.
pub rest_at : (bytes : List ℕ) (from end : ℕ) → from ≤ end → between bytes from end ++ drop end bytes ≡ drop from bytes
rest_at bytes from end h =
    let sum : from + (end - from) ≡ end = omega arith in
    let rest : drop (end - from) (drop from bytes) ≡ drop end bytes = drop-drop (end - from) from bytes ∙ ap (λ n. drop n bytes) sum in
    ap (λ (ys : List ℕ). between bytes from end ++ ys) (sym rest) ∙ take-append-drop (end - from) (drop from bytes)

pub all_at : (bytes : List ℕ) (from : ℕ) → from ≤ length bytes → between bytes from (length bytes) ≡ drop from bytes
all_at bytes from h =
    sym (append-nil (between bytes from (length bytes)))
    ∙ ap (λ (ys : List ℕ). between bytes from (length bytes) ++ ys) (sym (drop_all (length bytes) bytes (omega arith)))
    ∙ rest_at bytes from (length bytes) h

pub byte_at : (bytes : List ℕ) (at : ℕ) → at < length bytes → drop at bytes ≡ get_or bytes at 0 ∷ drop (at + 1) bytes
byte_at bytes at h = let next : suc at ≡ at + 1 = omega arith in drop-cons bytes at 0 h ∙ ap (λ n. get_or bytes at 0 ∷ drop n bytes) next

-- Those up to one place, and from there up to another.
pub slices : (bytes : List ℕ) (from mid end : ℕ) → from ≤ mid → mid ≤ end → between bytes from end ≡ between bytes from mid ++ between bytes mid end
slices bytes from mid end low high =
    let sum : end - from ≡ (mid - from) + (end - mid) = omega arith in
    let place : from + (mid - from) ≡ mid = omega arith in
    ap (λ n. take n (drop from bytes)) sum
    ∙ take-add (mid - from) (end - mid) (drop from bytes)
    ∙ ap (λ (ys : List ℕ). between bytes from mid ++ take (end - mid) ys) (drop-drop (mid - from) from bytes ∙ ap (λ n. drop n bytes) place)

pub one_byte : (bytes : List ℕ) (at : ℕ) → at < length bytes → between bytes at (at + 1) ≡ get_or bytes at 0 ∷ []
one_byte bytes at h =
    let one : at + 1 - at ≡ 1 = omega arith in
    ap (λ n. take n (drop at bytes)) one ∙ ap (take 1) (byte_at bytes at h)

-- One byte more.
pub slice_more : (bytes : List ℕ) (from next : ℕ) → from ≤ next → next < length bytes
    → between bytes from (next + 1) ≡ between bytes from next ++ get_or bytes next 0 ∷ []
slice_more bytes from next low h =
    slices bytes from next (next + 1) low (omega arith) ∙ ap (λ (ys : List ℕ). between bytes from next ++ ys) (one_byte bytes next h)
