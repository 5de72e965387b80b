use Rattle.std.proofs.Common.{inr}
use Rattle.sym_reduce.specs.Joining as joins
use Rattle.sym_reduce.proofs.joins.next_run.Goals as goal

pub returns-in-Ok-Done-clause-joins : goal.returns-in-Ok-Done-clause-joins
returns-in-Ok-Done-clause-joins c =
    let t = rw c.in-Ok-Done.field-0-is at c.in-Ok-Done.ensures.joined in
    record { saved = t.saved; is = record { is = t.text.is; stored = t.text.stored }; follows = t.follows; joins = t.joins }

pub returns-in-Ok-Apart-clause-joins : goal.returns-in-Ok-Apart-clause-joins
returns-in-Ok-Apart-clause-joins c =
    let t = rw c.in-Ok-Apart.field-0-is at c.in-Ok-Apart.ensures.joined in
    inr (joins.apart t.saved (record { is = t.text.is; stored = t.text.stored }) t.apart)

pub returns-in-Err-OtherScript-clause-joins : goal.returns-in-Err-OtherScript-clause-joins
returns-in-Err-OtherScript-clause-joins c = inr (joins.other_script (rw c.in-Err-OtherScript.field-0-is at c.in-Err-OtherScript.ensures.joined))

pub returns-in-Err-Malformed-clause-joins : goal.returns-in-Err-Malformed-clause-joins
returns-in-Err-Malformed-clause-joins c = inr (joins.malformed (rw c.in-Err-Malformed.field-0-is at c.in-Err-Malformed.ensures.joined))
