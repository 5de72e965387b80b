use Rattle.sym_plain.specs.Pairs.{HaveDistinctKeys}
use Rattle.sym_run.proofs.ClosingGroups.{IsTakingOut}
use Rattle.sym_run.proofs.closed_groups.take_all_out.Given as goal

abbrev pub invariant-groups : goal.invariant-groups
invariant-groups l = record {
  out : IsTakingOut l.fn.right l.key-iterator l.fn.map.entries l.map.entries l.joining.items;
  distinct : HaveDistinctKeys l.map.entries;
}
