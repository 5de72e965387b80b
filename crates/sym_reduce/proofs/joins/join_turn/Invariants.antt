-- The texts so far are joined.
use Rattle.std.proofs.Common.{◌≤◌, ℕ, length, map, take}
use Rattle.std.specs.List.{All}
use Rattle.sym_check.specs.Checking.CheckedScripts.{checked_plan}
use Rattle.sym_file.specs.SavedTexts.{printed}
use Rattle.sym_reduce.specs.Joining.{AreFilesJoined, CanGoOn}
use Rattle.sym_reduce.proofs.joins.join_turn.Given as goal

abbrev pub invariant-texts : goal.invariant-texts
invariant-texts l =
    let p = checked_plan l.checked in
    record {
      joining : (max : ℕ) → All (λ text. length text.items ≤ max) l.texts →
          AreFilesJoined (printed l.checked) p max l.limit (take l.file (map (λ text. text.items) l.texts)) l.joined;
      able : CanGoOn p l.joined;
    }
