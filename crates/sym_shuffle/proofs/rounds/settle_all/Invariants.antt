-- The first parts are settled, whatever chunks they are of.
use Rattle.std.proofs.Common.{Bool, List}
use Rattle.std.specs.Vec.Iter.{into_iter_items}
use Rattle.sym_check.specs.Checking.CheckedScripts.{checked_plan}
use Rattle.sym_table.specs.declared.chunk.Chunk.{Chunk}
use Rattle.sym_shuffle.specs.Parts.{AreDealt}
use Rattle.sym_shuffle.proofs.SettlingParts.{IsSettling}
use Rattle.sym_shuffle.proofs.rounds.settle_all.Given as goal

abbrev pub invariant-dealt : goal.invariant-dealt
invariant-dealt l =
    let p = checked_plan l.fn.checked in
    (marks : List Bool) (chunks : List Chunk) → AreDealt p marks l.fn.groups chunks l.fn.dealt.items
    → IsSettling p marks chunks l.fn.groups l.groups l.batches.items (into_iter_items l.one-iterator)
