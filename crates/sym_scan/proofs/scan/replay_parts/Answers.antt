use Rattle.std.proofs.Common.{◌≡◌, ◌∙◌, sym}
use Rattle.sym_check.specs.Checking.CheckedScripts.{checked_plan}
use Rattle.sym_scan.specs.Parts.{part_rows}
use Rattle.sym_scan.proofs.Jobs.{jobs_give}
use Rattle.sym_scan.proofs.ScanLaws.{rows_gathered}
use Rattle.sym_scan.proofs.scan.replay_parts.Goals as goal

pub returns : goal.returns
returns g c =
    let p = checked_plan (g.S.LendsScript.lent c.args.lender.now) in
    let chunks = c.args.chunks.now in
    rows_gathered p c.args.every chunks c.args.parts.items c.in_ok-values_of.field-0.items c.rows_in_turn.result
    (jobs_give _ _ (λ ready rows. rows ≡ part_rows p c.args.every chunks ready) c.args.parts.items c.in_ok-done.done.items c.in_ok-values_of.field-0.items (λ job r post. post) (sym c.in_ok-done.done.ok.0 ∙ c.in_ok-done.ensures.len ∙ c.args.parts.ok.0) c.in_ok-values_of.ensures c.in_ok-done.ensures.each)
    c.rows_in_turn.ensures
