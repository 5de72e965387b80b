-- The texts so far are short.
use Rattle.std.proofs.Common.{◌≤◌, length}
use Rattle.std.specs.List.{All}
use Rattle.sym_base.specs.declared.limits.TheConstants as limit
use Rattle.sym_file_tests.proofs.together.texts_of.Given as goal

abbrev pub invariant-parts : goal.invariant-parts
invariant-parts l = All (λ text. length text.items ≤ limit.FILE_MAX) l.texts.items
