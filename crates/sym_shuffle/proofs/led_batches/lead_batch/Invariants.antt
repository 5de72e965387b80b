-- The records so far have made their steps, and the values of the others are left.
use Rattle.std.proofs.Common.{List, drop}
use Rattle.sym_base.specs.declared.values.record.Record.{Record}
use Rattle.sym_base.specs.declared.values.value.Key.{Key}
use Rattle.sym_check.specs.Checking.CheckedScripts.{checked_plan}
use Rattle.sym_shuffle.specs.Settled.{Holds}
use Rattle.sym_shuffle.specs.Shuffling.{AreBlankBeside}
use Rattle.sym_shuffle.proofs.RecordsInTurn.{AreLeft}
use Rattle.sym_shuffle.proofs.led_batches.lead_batch.Given as goal

abbrev pub invariant-records : goal.invariant-records
invariant-records l =
    let p = checked_plan l.script.checked.now in
    (keys : List Key) (records : List Record) → Holds p l.script.marks.now keys records l.batch →
    AreBlankBeside p l.script.marks.now l.fn.stepper.rec.fields → record {
      blank : AreBlankBeside p l.script.marks.now l.stepper.rec.fields;
      left : AreLeft p l.script.marks.now l.start records l.batch.places.items (drop l.next l.batch.values) l.index l.fn.outcomes l.outcomes;
    }
