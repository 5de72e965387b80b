use Rattle.std.proofs.Common.{Vec, Global, length, map, Ok, ◌≡◌, ◌∙◌, subst, sym}
use Rattle.std.proofs.lemmas.Result.{IfOk-weaker}
use Rattle.sym_check.specs.Checking.CheckedScripts.{checked_plan}
use Rattle.sym_scan.specs.declared.part_starts.PartRun.{PartRun}
use Rattle.sym_scan.specs.Parts.{AreRuns, IsPart, IsRunOf}
use Rattle.sym_scan.proofs.Jobs.{jobs_give}
use Rattle.sym_scan.proofs.PartLaws.{parts_within, runs_given}
use Rattle.sym_scan.proofs.scan.run_all.Goals as goal

pub map_vec-requires-after_bounds : goal.map_vec-requires-after_bounds
map_vec-requires-after_bounds g c κs within = λ i part lt is. (
  c.requires.fit,
  c.requires.few,
  subst (IsPart (length c.args.chunks.now)) (sym is) (parts_within 0 (length c.args.chunks.now) c.args.parts.items c.requires.parts i part lt),
)

pub returns : goal.returns
returns g c =
    let p = checked_plan (g.S.LendsScript.lent c.args.lender.now) in
    let chunks = c.args.chunks.now in
    IfOk-weaker c.values_of.result (λ (runs : Vec PartRun Global). map Ok runs.items ≡ c.in_ok-done.done.items) (λ (runs : Vec PartRun Global). AreRuns p c.args.limit chunks 0 (length chunks) runs.items)
    (λ runs made.
    runs_given p c.args.limit chunks 0 (length chunks) c.args.parts.items runs.items c.requires.parts
    (jobs_give _ _ (IsRunOf p c.args.limit chunks) c.args.parts.items c.in_ok-done.done.items runs.items (λ job r post. post) (sym c.in_ok-done.done.ok.0 ∙ c.in_ok-done.ensures.len ∙ c.args.parts.ok.0) made c.in_ok-done.ensures.each))
    c.values_of.ensures
