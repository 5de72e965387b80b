use Rattle.std.proofs.Common.{rules, subst, sym}
use Rattle.sym_check.specs.Checking.CheckedScripts.{checked_plan}
use Rattle.sym_run.specs.Runs.{GroupsFit}
use Rattle.sym_engine_tests.proofs.LawfulFit.{lawful_fit}
use Rattle.sym_engine_tests.proofs.summaries.led.Goals as goal

pub apply-requires-clause-fits : goal.apply-requires-clause-fits
apply-requires-clause-fits c =
    let p = checked_plan c.args.checked.now in
    subst (GroupsFit p) (sym c.replace.ensures.value) (lawful_fit p c.args.saved (c.is_lawful.ensures.0 (search rules)))
