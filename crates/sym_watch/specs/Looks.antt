-- What a look shows.
use Rattle.std.specs.Prelude.{Option, Some, None}
use Rattle.sym_watch.specs.declared.partial.Partial.{Partial}
use Rattle.sym_watch.specs.declared.look.Looked.{Looked}
use Rattle.sym_watch.specs.declared.look.Looked.TheVariants.{Nothing, Seen}

-- The partial that a look shows, if it shows one.
abbrev pub shown : Looked → Option Partial
shown Nothing = None
shown (Seen partial) = Some partial
