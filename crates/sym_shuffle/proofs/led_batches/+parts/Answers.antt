use Rattle.std.proofs.Common.{◌∙◌, ◌+◌, ℕ, ap, sym}
use Rattle.std.proofs.lemmas.Result.{on_ok_weaker}
use Rattle.sym_check.specs.Checking.CheckedScripts.{checked_plan}
use Rattle.sym_shuffle.proofs.LeadingSteps.{no_err}
use Rattle.sym_shuffle.proofs.Slices.{all_parts}
use Rattle.sym_shuffle.proofs.led_batches.+parts.Goals as goal

pub lead_each-returns-else-is_err : goal.lead_each-returns-else-is_err
lead_each-returns-else-is_err g t c = λ keys records held.
    let p = checked_plan (g.S.LendsBatches.by c.args.lender.now) in
    let start = c.args.start in
    let cut = c.split_at_mut-front in
    let high = no_err c.lead_both.new.back_led (sym c.is_err.ensures.value ∙ c.if-is_err.false) (c.lead_both.ensures.back keys records held) in
    on_ok_weaker c.lead_both.new.front_led
    (λ low.
    all_parts p start (start + c.min-middle.result) (g.S.LendsBatches.lent c.args.lender.now) records cut.result.0.now cut.result.1.now c.args.outcomes.now c.lead_both.new.front c.lead_both.new.back
    cut.ensures.value (ap (λ (n : ℕ). start + n) (sym cut.ensures.front_len)) low high)
    (c.lead_both.ensures.front keys records held)
