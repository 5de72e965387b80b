use Rattle.std.proofs.Common.{refl, ap, ◌∙◌}
use Rattle.std.specs.Prelude.{slice_set}
use Rattle.sym_check.specs.Plan.ScriptPlans.{script_plan}
use Rattle.sym_path.specs.declared.part.Part.TheVariants as part
use Rattle.sym_path.specs.declared.path.Path.{Path}
use Rattle.sym_path.proofs.Narrowed.{numbers_give}
use Rattle.sym_path.proofs.NarrowedFits.{numbers_fit}
use Rattle.sym_explore.proofs.PathRanges.{narrowed_ended}
use Rattle.sym_explore.proofs.ranges.narrow_ended.Goals as goal

pub returns-clause-fits : goal.returns-clause-fits
returns-clause-fits c =
    let old : Path = c.args.path.now in
    let new : Path = record { when = c.set.new.self; end = old.end } in
    let span = c.args.span.now in
    let when = c.set.ensures ∙ ap (λ i. slice_set old.when i (part.Span span)) c.from.ensures in
    numbers_fit (script_plan c.args._plan.now) c.args.cell span old new c.requires.narrower
    (narrowed_ended c.args.cell span old new when refl c.requires.ended) c.requires.fits

pub returns-clause-gives : goal.returns-clause-gives
returns-clause-gives c =
    let old : Path = c.args.path.now in
    let new : Path = record { when = c.set.new.self; end = old.end } in
    let span = c.args.span.now in
    let when = c.set.ensures ∙ ap (λ i. slice_set old.when i (part.Span span)) c.from.ensures in
    numbers_give c.args.cell span old new c.requires.narrower
    (narrowed_ended c.args.cell span old new when refl c.requires.ended)
