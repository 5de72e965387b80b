use Rattle.std.proofs.Common.{◌≡◌, ◌∙◌, false, Option, None, Some, is_some, refl, subst, sym}
use Rattle.sym_check.specs.Checking.CheckedScripts.{checked_plan}
use Rattle.sym_table.specs.declared.bad.Bad.{Bad}
use Rattle.sym_run.specs.Runs.{AreTight, GroupsFit}
use Rattle.sym_run_tests.proofs.kept.closed_differs.Goals as goal

no_bad : (bad : Option Bad) → is_some bad ≡ false → bad ≡ None
no_bad None e = refl
no_bad (Some b) e = cc

pub closed-requires-clause-fits : goal.closed-requires-clause-fits
closed-requires-clause-fits c = subst (GroupsFit (checked_plan c.args.checked.now)) (sym c.in_ok-copy.ensures) c.requires.fits

pub closed-requires-clause-tight : goal.closed-requires-clause-tight
closed-requires-clause-tight c =
    subst (AreTight (checked_plan c.args.checked.now) c.args.limit) (sym c.in_ok-copy.ensures)
    (c.requires.tight (no_bad c.args.run.bad (sym c.is_some.ensures ∙ c.if-is_some.false)))
