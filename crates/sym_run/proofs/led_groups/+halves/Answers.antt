use Rattle.std.proofs.Common.{◌+◌, ◌++◌, List, ℕ, subst, sym}
use Rattle.sym_check.specs.Checking.CheckedScripts.{checked_plan}
use Rattle.sym_run.specs.Leading.{AreLedBy}
use Rattle.sym_run.specs.declared.led_groups.Taken.{Taken}
use Rattle.sym_run.proofs.TakenGroups.{led_both}
use Rattle.sym_run.proofs.led_groups.+halves.Goals as goal

pub lead_all-lead_part-requires-clause-fits : goal.lead_all-lead_part-requires-clause-fits
lead_all-lead_part-requires-clause-fits g t c = rw (c.script.ensures, c.chains.ensures) c.requires.fits

pub lead_all-returns : goal.lead_all-returns
lead_all-returns g t c =
    let p = checked_plan (g.S.LendsChains.by c.args.lender.now) in
    let chains = g.S.LendsChains.lent c.args.lender.now in
    let start = c.args.start in
    let cut = c.split_at_mut-front in
    let back = cut.result.1.now in
    let firsts = c.lead_both.new.front in
    let seconds = c.lead_both.new.back in
    subst (λ (olds : List Taken). AreLedBy p chains start olds (firsts ++ seconds)) (sym cut.ensures.value)
    (led_both p chains start cut.result.0.now back firsts seconds c.lead_both.ensures.front
    (subst (λ (n : ℕ). AreLedBy p chains (start + n) back seconds) (sym cut.ensures.front_len) c.lead_both.ensures.back))
