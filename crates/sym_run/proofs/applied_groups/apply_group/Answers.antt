use Rattle.std.proofs.Common.{Bool, subst}
use Rattle.sym_check.specs.Checking.CheckedScripts.{checked_plan}
use Rattle.sym_run.specs.Applying.{LeadsOn}
use Rattle.sym_run.proofs.applied_groups.apply_group.Goals as goal

pub returns-then-branch-clause-leads : goal.returns-then-branch-clause-leads
returns-then-branch-clause-leads c = λ records s.
    subst (λ (there : Bool). LeadsOn (checked_plan c.args.checked.now) records c.args.key.now c.args.groups.now there c.lead_on.new.groups) c.if-branch.true
    (c.in_ok-lead_on.ensures.leads records s)
