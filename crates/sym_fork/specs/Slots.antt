-- Results of calls at indices, by threads that take the next index each.
use Rattle.std.specs.Prelude.{ℕ, ◌<◌, Option, IfSome, List, length, slice_index_or}
use Rattle.std.specs.Fn.{FnReturns}
use denote.Param.Members.{Shared}

-- The result is one that a call with this index gives, on some thread.
pub record IsGiven {F X : Type 0} (g : Shared F (ℕ × (ℕ × Unit {0})) X) (f : F) (i : ℕ) (x : X) : Type 0 where
  pub thread : ℕ
  pub call : FnReturns g f (thread, (i, tt)) x

-- Each of so many results is one that a call with its index gives.
abbrev pub AreGiven : {F X : Type 0} → Shared F (ℕ × (ℕ × Unit {0})) X → F → ℕ → List X → Type 0
AreGiven {F} {X} g f count results = (i : ℕ) (d : X) → i < count → IsGiven g f i (slice_index_or results i d)

-- Each slot is empty, or has what fits its index.
abbrev pub AreSlots : {X : Type 0} → (ℕ → X → Type 0) → List (Option X) → Type 0
AreSlots {X} Fits slots = (i : ℕ) (d : Option X) → i < length slots → IfSome (slice_index_or slots i d) (Fits i)
