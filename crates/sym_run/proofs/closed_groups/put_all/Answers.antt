use Rattle.std.specs.Vec.Iter.{into_iter_items}
use Rattle.sym_run.proofs.ClosingGroups.{joined_on, puts_on}
use Rattle.sym_run.proofs.closed_groups.put_all.Goals as goal

pub groups-preserved-in_ok-insert : goal.groups-preserved-in_ok-insert
groups-preserved-in_ok-insert c =
    let joining = c.args.joining.items in
    let items = into_iter_items c.groups.one-iterator in
    let rest = into_iter_items c.next.new.self in
    record {
      joined = joined_on joining items rest c.in-Some.one c.in-Some.ensures.steps.0 c.in_ok-joined.was c.groups.invariant.joined;
      puts = puts_on joining items rest c.in-Some.one c.args.map.now.entries c.groups.map.entries c.insert.new.self.entries c.in-Some.ensures.steps.0 c.in_ok-insert.ensures.entries c.groups.invariant.distinct
          c.groups.invariant.puts;
      distinct = c.in_ok-insert.ensures.unique;
    }

pub groups-preserved : goal.groups-preserved
groups-preserved c =
    let joining = c.args.joining.items in
    let items = into_iter_items c.groups.one-iterator in
    let rest = into_iter_items c.next.new.self in
    record {
      joined = joined_on joining items rest c.in-Some.one c.in-Some.ensures.steps.0 c.in_ok-joined.was c.groups.invariant.joined;
      puts = puts_on joining items rest c.in-Some.one c.args.map.now.entries c.groups.map.entries c.insert.new.self.entries c.in-Some.ensures.steps.0 c.in_ok-insert.ensures.entries c.groups.invariant.distinct
          c.groups.invariant.puts;
      distinct = c.in_ok-insert.ensures.unique;
    }
