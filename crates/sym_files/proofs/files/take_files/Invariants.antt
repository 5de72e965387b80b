-- The files so far are taken and told of; the numbers stay small, and the store is as it was.
use Rattle.std.proofs.Common.{◌≡◌, ◌≤◌, ◌+◌, ◌*◌, ℕ, List, [], map}
use Rattle.std.specs.String.{string_bytes}
use Rattle.sym_check.specs.Checking.CheckedScripts.{checked_plan}
use Rattle.sym_files.specs.FileRecords.{rules_of}
use Rattle.sym_files.specs.Rounds.{stands_by}
use Rattle.sym_files.specs.FileRounds.{named_files}
use Rattle.sym_files.specs.Telling.{tells_by}
use Rattle.sym_files.specs.Telling as point
use Rattle.sym_files.proofs.FileByFile.{IsPassing}
use Rattle.sym_files.proofs.ToldFiles.{IsToldFiles}
use Rattle.sym_files.proofs.files.take_files.Given as goal

abbrev pub invariant-files : goal.invariant-files
invariant-files g l =
    let p = checked_plan l.checked in
    record {
      passing : IsPassing (stands_by g.W.Way.stands p l.log.options.now.limit) p (rules_of l.log.options.now.max_bytes (g.W.Way.shown l.fn.rounds)) (g.F.Store.holds l.fn.files)
          (map string_bytes l.log.names.now) l.log.first l.file l.course.next_no l.fn.rounds l.rounds;
      told :
          (start : _) → g.W.Way.told start l.fn.rounds p point.between []
          → IsToldFiles (tells_by g.W.Way.told p start)
          (named_files p (rules_of l.log.options.now.max_bytes (g.W.Way.shown l.fn.rounds)) l.log.options.now.chunk (g.F.Store.holds l.fn.files) (map string_bytes l.log.names.now) l.log.first)
          l.file l.course.next_no l.rounds;
      few : l.course.next_no ≤ l.log.first + l.file * 268435456;
      chunk : l.course.chunk ≡ l.log.options.now.chunk;
      checked : checked_plan l.work.checked ≡ p;
      limit : l.work.limit ≡ l.log.options.now.limit;
      shown : g.W.Way.shown l.rounds ≡ g.W.Way.shown l.fn.rounds;
      same : g.F.Store.holds l.files ≡ g.F.Store.holds l.fn.files;
      later : (other : List ℕ) → g.F.Store.faults l.fn.files other ≤ g.F.Store.faults l.files other;
    }
