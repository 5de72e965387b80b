-- The groups that were read are lawful and distinct, have led the totals on, and are marked.
use Rattle.sym_check.specs.Checking.CheckedScripts.{checked_plan}
use Rattle.sym_run.specs.Applying.{AreValid}
use Rattle.sym_file.proofs.TakenTexts.{IsLeading}
use Rattle.sym_file.proofs.led_groups.lead_groups.Given as goal

abbrev pub invariant-groups : goal.invariant-groups
invariant-groups l = record {
  valid : AreValid (checked_plan l.checked) l.groups;
  leading : IsLeading (checked_plan l.checked) l.head.first l.head.next l.head.count l.bytes l.fn.groups l.index l.rest l.groups l.marks.items;
}
