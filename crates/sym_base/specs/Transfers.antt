-- Bytes that move: read from a named file into a buffer, or appended to a sink.
use Rattle.std.specs.Prelude.{◌≡◌, ℕ, ◌≤◌, List, ◌++◌, length, take, drop, Option, Some, None, ◌⊎◌}

-- A read put count bytes of a file, from a place of it on, to the start of a buffer and left
-- the rest of the buffer. It read nothing only where the buffer is empty or the file has ended.
pub record ReadsAt (bytes : List ℕ) (place count : ℕ) (before after : List ℕ) : Type 0 where
  pub within : count ≤ length (drop place bytes)
  pub filled : after ≡ take count (drop place bytes) ++ drop count before
  pub ends : count ≡ 0 → (length before ≡ 0) ⊎ (length bytes ≤ place)

-- What a sink holds after some bytes are appended. Content that isn't visible
-- stays so.
abbrev pub appended : Option (List ℕ) → List ℕ → Option (List ℕ)
appended None bytes = None
appended (Some written) bytes = Some (written ++ bytes)

-- The first bytes of these, any number of them, were appended.
abbrev pub AppendsPrefix : Option (List ℕ) → Option (List ℕ) → List ℕ → Type 0
AppendsPrefix before after bytes = (count : ℕ) × (after ≡ appended before (take count bytes))
