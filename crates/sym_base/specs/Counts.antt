-- Counts of 64 bits, which never fall and stand still at the end of their type.
use Rattle.std.specs.Prelude.{ℕ, ◌+◌, ◌-◌, ◌^◌, ◌≤◌, min}

-- The count after one more event.
abbrev pub counted : ℕ → ℕ
counted count = min (count + 1) (2 ^ 64 - 1)

-- At least one event was counted: the count is larger than before, or at the end of its type.
abbrev pub Rose : ℕ → ℕ → Type 0
Rose before now = counted before ≤ now
