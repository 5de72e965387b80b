-- The literals so far are appended, each after a space.
use Rattle.std.proofs.Common.{◌++◌, codes}
use Rattle.sym_file.specs.Stored.{IsStoredLiteral}
use Rattle.sym_file.specs.Texts.{literal_text}
use Rattle.sym_pred.specs.Literals.{literals}
use Rattle.sym_file.proofs.Appending.{AreAppended}
use Rattle.sym_file.proofs.writer.put_literals.Given as goal

abbrev pub invariant-literals : goal.invariant-literals
invariant-literals l = AreAppended (λ item. codes " " ++ literal_text item) IsStoredLiteral (literals l.facts) l.index l.fn.out.items l.out.items
