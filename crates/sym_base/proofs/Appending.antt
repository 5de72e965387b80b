-- Appending to a sink, piece by piece.
use Rattle.std.proofs.Common.{◌≡◌, ℕ, ◌+◌, ◌-◌, ◌≤◌, List, ◌++◌, length, take, drop, refl, ap, append_assoc, arith, length-drop}
use Rattle.std.specs.Prelude.{Option, Some, None}
use Rattle.std.proofs.Math.Seq.{take-add}
use Rattle.std.proofs.lemmas.List.{take_all}
use Rattle.sym_base.specs.Transfers.{appended}

-- Two pieces, one behind the other, are one piece.
pub appended-appended : (before : Option (List ℕ)) (x y : List ℕ) → appended (appended before x) y ≡ appended before (x ++ y)
appended-appended None x y = refl
appended-appended (Some written) x y = ap Some (append_assoc written x y)

-- A slice from a place on, without its bounds.
pub rest_of : (s : List ℕ) (i : ℕ) → i ≤ length s → take (length s - i) (drop i s) ≡ drop i s
rest_of s i h = take_all (length s - i) (drop i s) (omega (arith, length-drop i s))

-- The next bytes behind the first ones.
pub appended-next : (before mid after : Option (List ℕ)) (s : List ℕ) (i k : ℕ) → i ≤ length s → mid ≡ appended before (take i s) → after ≡ appended mid (take k (take (length s - i) (drop i s))) → after ≡ appended before (take (i + k) s)
appended-next before mid after s i k h p q = rw (q, rest_of s i h, p, appended-appended, ← take-add i k s) refl
