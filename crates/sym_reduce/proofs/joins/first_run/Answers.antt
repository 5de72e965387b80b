use Rattle.std.proofs.Common.{None, inr, refl}
use Rattle.sym_check.specs.Checking.CheckedScripts.{checked_plan}
use Rattle.sym_file.specs.SavedTexts.{printed}
use Rattle.sym_reduce.specs.Joining as joins
use Rattle.sym_reduce.specs.declared.error.ReduceErr.TheVariants as reduce_err
use Rattle.sym_reduce.proofs.JoiningFiles.{faulty_after, lawful_joinable}
use Rattle.sym_reduce.proofs.joins.first_run.Goals as goal

pub returns-in-Ok-clause-joins : goal.returns-in-Ok-clause-joins
returns-in-Ok-clause-joins c = λ limit. record {
  saved = c.in-Ok.saved;
  is = record { is = c.in-Ok.ensures.read; stored = c.in-Ok.ensures.stored };
  follows = tt;
  joins = refl;
}

pub returns-in-Ok-clause-joinable : goal.returns-in-Ok-clause-joinable
returns-in-Ok-clause-joinable c = lawful_joinable (checked_plan c.args.checked.now) c.in-Ok.saved c.in-Ok.ensures.read.lawful

pub returns-in-Err-OtherScript-clause-joins : goal.returns-in-Err-OtherScript-clause-joins
returns-in-Err-OtherScript-clause-joins c = λ limit.
    inr (faulty_after (printed c.args.checked.now) (checked_plan c.args.checked.now) None c.args.file c.args.bytes.now (reduce_err.OtherScript c.args.file)
    (λ n. joins.other_script (rw c.in-Err-OtherScript.field-0-is at c.in-Err-OtherScript.ensures.read)))

pub returns-in-Err-Malformed-clause-joins : goal.returns-in-Err-Malformed-clause-joins
returns-in-Err-Malformed-clause-joins c = λ limit.
    inr (faulty_after (printed c.args.checked.now) (checked_plan c.args.checked.now) None c.args.file c.args.bytes.now (reduce_err.Malformed c.args.file)
    (λ n. joins.malformed (rw c.in-Err-Malformed.field-0-is at c.in-Err-Malformed.ensures.read)))
