-- What a call wrote to a sink: what the sink tells, and its counts, before and after.
use Rattle.std.specs.Prelude.{◌≡◌, ℕ, ◌≤◌, List, Option, ◌⊎◌}
use Rattle.sym_base.specs.Counts.{Rose}
use Rattle.sym_base.specs.Transfers.{appended, AppendsPrefix}

-- A sink before and after a call: the bytes written, where it tells them, and the counts of the
-- writes that failed and of those that found its own memory full.
pub record Sunk : Type 0 where
  pub written : Option (List ℕ)
  pub written_after : Option (List ℕ)
  pub faults : ℕ
  pub faults_after : ℕ
  pub short : ℕ
  pub short_after : ℕ

-- The same of a sink of any type, by what the type says of its values.
abbrev pub sunk : {S : Type 0} → (S → Option (List ℕ)) → (S → ℕ) → (S → ℕ) → S → S → Sunk
sunk written faults short before after = record {
  written = written before;
  written_after = written after;
  faults = faults before;
  faults_after = faults after;
  short = short before;
  short_after = short after;
}

-- The whole text was appended.
abbrev pub Has : Sunk → List ℕ → Type 0
Has sink text = sink.written_after ≡ appended sink.written text

-- The first bytes of the text, any number of them, were appended.
abbrev pub HasPrefix : Sunk → List ℕ → Type 0
HasPrefix sink text = AppendsPrefix sink.written sink.written_after text

-- A write failed.
abbrev pub Failed : Sunk → Type 0
Failed sink = Rose sink.faults sink.faults_after

-- A write found the sink's own memory full.
abbrev pub Short : Sunk → Type 0
Short sink = Rose sink.short sink.short_after

-- The whole text was appended, or a prefix of it and a write failed or found no memory.
abbrev pub Tells : Sunk → List ℕ → Type 0
Tells sink text = Has sink text ⊎ (HasPrefix sink text × (Failed sink ⊎ Short sink))

-- No count fell.
pub record Later (sink : Sunk) : Type 0 where
  pub faults : sink.faults ≤ sink.faults_after
  pub short : sink.short ≤ sink.short_after
