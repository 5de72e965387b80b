use Rattle.std.proofs.Common.{◌≡◌}
use Rattle.std.specs.List.{All}
use Rattle.std.specs.Vec.Iter.{into_iter_items}
use Rattle.sym_plain.specs.Pairs.{HaveDistinctKeys}
use Rattle.sym_run.specs.Closing.{WasJoined, put_joined}
use Rattle.sym_run.proofs.closed_groups.put_all.Given as goal

abbrev pub invariant-groups : goal.invariant-groups
invariant-groups l = record {
  joined : All WasJoined (into_iter_items l.one-iterator) → All WasJoined l.fn.joining.items;
  puts : put_joined (into_iter_items l.one-iterator) l.map.entries ≡ put_joined l.fn.joining.items l.fn.map.entries;
  distinct : HaveDistinctKeys l.map.entries;
}
