-- The batches so far have been led.
use Rattle.std.proofs.Common.{◌≡◌, List, drop}
use Rattle.std.specs.List.{AllZip}
use Rattle.sym_base.specs.declared.values.record.Record.{Record}
use Rattle.sym_base.specs.declared.values.value.Key.{Key}
use Rattle.sym_check.specs.Checking.CheckedScripts.{checked_plan}
use Rattle.sym_shuffle.specs.Settled.{Holds, led_all}
use Rattle.sym_shuffle.specs.Shuffling.{AreBlankBeside}
use Rattle.sym_shuffle.proofs.led_batches.lead_part.Given as goal

abbrev pub invariant-batches : goal.invariant-batches
invariant-batches l =
    let p = checked_plan l.script.checked.now in
    (keys : List Key) (records : List (List Record)) → AllZip (Holds p l.script.marks.now keys) records l.batches → record {
      blank : AreBlankBeside p l.script.marks.now l.stepper.rec.fields;
      steps : led_all p l.start (drop l.batch-index l.batches) (drop l.batch-index records) l.outcomes ≡ led_all p l.start l.batches records l.fn.outcomes;
    }
