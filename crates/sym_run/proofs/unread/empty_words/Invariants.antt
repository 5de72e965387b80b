-- The words so far that have no mark are empty.
use Rattle.std.proofs.Common.{◌≡◌, take}
use Rattle.sym_run.specs.Unread.{read_alone}
use Rattle.sym_run.proofs.unread.empty_words.Given as goal

abbrev pub invariant-values : goal.invariant-values
invariant-values l = l.values ≡ read_alone (take l.index l.marks) l.fn.values
