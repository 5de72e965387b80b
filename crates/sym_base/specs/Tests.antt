-- What the tests of a script answer.
use Rattle.std.specs.Prelude.{ℕ, Bool, List}
use Rattle.sym_base.specs.declared.values.value.Value.{Value}

-- What each test answers, by its number, for arguments and the parts of a hold cell.
abbrev pub Truth : Type 0
Truth = ℕ → List Value → List Value → Bool
