-- What observers were told of.
use Rattle.std.specs.Prelude.{List, ◌++◌, Option}
use Rattle.std.specs.Option.{option_map}
use Rattle.sym_watch.specs.declared.partial.Partial.{Partial}

-- The partials that an observer was told of, in order; None where contracts don't see them.
abbrev pub Log : Type 0
Log = Option (List Partial)

-- A log after it was told of these too.
abbrev pub grown : List Partial → Log → Log
grown more log = option_map (λ (l : List Partial). l ++ more) log
