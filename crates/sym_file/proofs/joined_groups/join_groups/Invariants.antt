-- The groups that were read are lawful and distinct, have been joined, and are marked.
use Rattle.sym_check.specs.Checking.CheckedScripts.{checked_plan}
use Rattle.sym_file.proofs.JoinedTexts.{IsJoining}
use Rattle.sym_file.proofs.joined_groups.join_groups.Given as goal

abbrev pub invariant-groups : goal.invariant-groups
invariant-groups l = IsJoining (checked_plan l.joiner.checked.now) l.head.first l.head.next l.head.count l.joiner.limit l.bytes l.fn.groups l.counter l.rest l.groups l.marks.items
