-- The rounds so far are taken and told of, and the next one is cut off; the script, the path limit and what is
-- shown are as they were.
use Rattle.std.proofs.Common.{◌≡◌, ◌+◌, List, length}
use Rattle.sym_base.specs.declared.values.record.Record.{Record}
use Rattle.sym_check.specs.Checking.CheckedScripts.{checked_plan}
use Rattle.sym_files.specs.Rounds.{stands_by}
use Rattle.sym_files.specs.Taking.{full_round, rows_left, rows_of}
use Rattle.sym_files.specs.Telling.{tells_by}
use Rattle.sym_files.specs.Telling as point
use Rattle.sym_files.proofs.ToldRows.{IsToldAhead}
use Rattle.sym_files.proofs.Walks.{IsAhead}
use Rattle.sym_files.proofs.one_file.take_rounds.Given as goal

abbrev pub invariant-rounds : goal.invariant-rounds
invariant-rounds g l =
    let p = checked_plan l.fn.work.checked in
    let old = l.fn.cutter in
    record {
      checked : checked_plan l.work.checked ≡ p;
      limit : l.work.limit ≡ l.fn.work.limit;
      shown : g.W.Way.shown l.rounds ≡ g.W.Way.shown l.fn.rounds;
      ahead : IsAhead (stands_by g.W.Way.stands p l.fn.work.limit) p old.header (g.W.Way.shown l.fn.rounds) old.next_no (rows_left old) l.fn.rounds l.rounds l.cutter l.work.chunks;
      told :
          (start : _) (before : List (List Record))
          → g.W.Way.told start l.fn.rounds p point.between before
          → IsToldAhead (tells_by g.W.Way.told p start) p old.header (g.W.Way.shown l.fn.rounds) (full_round old.chunk) old.next_no (rows_left old) before l.rounds l.cutter l.work.chunks;
    }

abbrev pub decreases-rounds : goal.decreases-rounds
decreases-rounds g l = length (rows_of l.work.chunks) + length (rows_left l.cutter)
