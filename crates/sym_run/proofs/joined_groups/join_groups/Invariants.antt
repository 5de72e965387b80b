use Rattle.sym_check.specs.Checking.CheckedScripts.{checked_plan}
use Rattle.sym_plain.specs.Pairs.{HaveDistinctKeys}
use Rattle.sym_run.proofs.Stepping.{IsJoining}
use Rattle.sym_run.proofs.joined_groups.join_groups.Given as goal

abbrev pub invariant-groups : goal.invariant-groups
invariant-groups l = record {
  joining : IsJoining (checked_plan l.fn.checked) l.limit l.fn.left l.fn.right l.key-iterator l.map.entries;
  distinct : HaveDistinctKeys l.map.entries;
}
