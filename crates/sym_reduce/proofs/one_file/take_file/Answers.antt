use Rattle.std.proofs.Common.{arith, inr}
use Rattle.sym_check.specs.Checking.CheckedScripts.{checked_plan}
use Rattle.sym_reduce.specs.Reducing as fault
use Rattle.sym_reduce.proofs.Led.{gap_within}
use Rattle.sym_reduce.proofs.one_file.take_file.Goals as goal

pub returns-in-Ok-Done-clause-takes : goal.returns-in-Ok-Done-clause-takes
returns-in-Ok-Done-clause-takes c =
    let t = rw c.in-Ok-Done.field-0-is at c.in-Ok-Done.ensures.taken in
    (t.saved, record { file = record { is = t.text.is; stored = t.text.stored }; follows = t.follows; led = t.led }, t.next_is)

pub returns-in-Ok-Apart-clause-takes : goal.returns-in-Ok-Apart-clause-takes
returns-in-Ok-Apart-clause-takes c =
    let t = rw c.in-Ok-Apart.field-0-is at c.in-Ok-Apart.ensures.taken in
    inr (fault.apart t.saved (record { is = t.text.is; stored = t.text.stored }) t.apart)

pub overflow_add-result : goal.overflow_add-result
overflow_add-result c =
    let t = rw c.in-Ok-Gap.field-0-is at c.in-Ok-Gap.ensures.taken in
    let within = gap_within (checked_plan c.args.checked.now) 0 t.saved.groups c.args.totals c.in-Ok-Gap.group t.gap in
    let few = t.text.stored.groups.many in
    omega (arith, within, few)

pub returns-in-Ok-Gap-clause-takes : goal.returns-in-Ok-Gap-clause-takes
returns-in-Ok-Gap-clause-takes c =
    let t = rw c.in-Ok-Gap.field-0-is at c.in-Ok-Gap.ensures.taken in
    inr (fault.gap t.saved c.in-Ok-Gap.group (record { is = t.text.is; stored = t.text.stored }) t.follows t.gap)

pub returns-in-Err-OtherScript-clause-takes : goal.returns-in-Err-OtherScript-clause-takes
returns-in-Err-OtherScript-clause-takes c =
    inr (fault.other_script (rw c.in-Err-OtherScript.field-0-is at c.in-Err-OtherScript.ensures.taken))

pub returns-in-Err-Malformed-clause-takes : goal.returns-in-Err-Malformed-clause-takes
returns-in-Err-Malformed-clause-takes c =
    inr (fault.malformed (rw c.in-Err-Malformed.field-0-is at c.in-Err-Malformed.ensures.taken))
