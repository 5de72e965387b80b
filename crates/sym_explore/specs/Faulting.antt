-- The records at which the faults of paths came.
use Rattle.std.specs.Prelude.{◌≡◌, ℕ, List}
use Rattle.std.specs.List.{Any}
use Rattle.sym_base.specs.declared.values.record.Record.{Record}
use Rattle.sym_path.specs.Composing.{HaveFaultsAmong}
use Rattle.sym_path.specs.declared.path.PathEnd.{PathEnd}
use Rattle.sym_path.specs.declared.path.PathEnd.TheVariants.{Next, Ended}
use Rattle.sym_path.specs.declared.path.Path.{Path}
use Rattle.sym_path.specs.Standing.{EndsAmong}

-- One of the records has this number.
abbrev pub HasNumber : ℕ → List Record → Type 0
HasNumber n records = Any (λ (rec : Record). rec.no ≡ n) records

-- A path and other paths, before and after: whatever the records are, if one of them has this number
-- and the faults before came at them, so did those after.
abbrev pub FaultsCameAt : ℕ → Path → List Path → Path → List Path → Type 0
FaultsCameAt n old before path after = (records : List Record) → HasNumber n records →
    EndsAmong records old.end → HaveFaultsAmong records before →
    EndsAmong records path.end × HaveFaultsAmong records after

-- Both ends go on, or are the same fault.
abbrev pub EndsSo : PathEnd → PathEnd → Type 0
EndsSo (Next fs) (Next gs) = Unit {0}
EndsSo (Next fs) (Ended b) = ⊥
EndsSo (Ended a) (Next gs) = ⊥
EndsSo (Ended a) (Ended b) = b ≡ a
