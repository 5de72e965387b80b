use Rattle.std.proofs.Common.{ℕ, Option, sym, subst}
use Rattle.sym_check.specs.Checking.CheckedScripts.{checked_plan}
use Rattle.sym_file.specs.SavedTexts.{printed}
use Rattle.sym_run.specs.declared.saved.Saved.{Saved}
use Rattle.sym_reduce.specs.Joining.{JoinsFile}
use Rattle.sym_reduce.proofs.joins.join_file.Goals as goal

pub returns-in-None-clause-joins : goal.returns-in-None-clause-joins
returns-in-None-clause-joins c =
    subst (λ (before : Option Saved). JoinsFile (printed c.args.checked.now) (checked_plan c.args.checked.now) c.args.limit before c.args.file c.args.bytes.now c.first_run.result) (sym c.in-None.is)
    (c.first_run.ensures.joins c.args.limit)
