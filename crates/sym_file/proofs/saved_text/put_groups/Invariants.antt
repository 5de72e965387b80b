-- The groups so far are appended.
use Rattle.sym_file.specs.Stored.{IsStoredGroup}
use Rattle.sym_file.specs.Texts.{group_text}
use Rattle.sym_file.proofs.Appending.{AreAppended}
use Rattle.sym_file.proofs.saved_text.put_groups.Given as goal

abbrev pub invariant-groups : goal.invariant-groups
invariant-groups l = AreAppended group_text IsStoredGroup l.groups l.index l.fn.out.items l.out.items
