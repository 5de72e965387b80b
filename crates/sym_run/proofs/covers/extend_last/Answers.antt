use Rattle.std.proofs.Common.{◌≡◌, ◌∙◌, ◌++◌, ◌∷◌, [], List, ap, sym, subst, arith}
use Rattle.std.proofs.lemmas.Result.{IfOk-weaker}
use Rattle.sym_base.specs.declared.values.record.Record.{Record}
use Rattle.sym_check.specs.Checking.CheckedScripts.{checked_plan}
use Rattle.sym_path.specs.declared.path.Path.{Path}
use Rattle.sym_path.specs.Fitting.{SegmentFits}
use Rattle.sym_run.specs.Chains.{SegmentsStandFor}
use Rattle.sym_run.specs.Extended.{AreExtended}
use Rattle.sym_run.specs.Pushing.{IsPushed}
use Rattle.sym_run.proofs.ChainCuts.{cut_last, cut_longer}
use Rattle.sym_run.proofs.Extensions.{fits_extended, over_extended}
use Rattle.sym_run.proofs.TightChains.{all_front, tight_front}
use Rattle.sym_run.proofs.covers.extend_last.Goals as goal

pub push_onto-requires-clause-chain : goal.push_onto-requires-clause-chain
push_onto-requires-clause-chain c = all_front (SegmentFits (checked_plan c.args.settings.now.checked.now)) c.args.segments.items c.args.last c.requires.chain

pub push_onto-requires-clause-tight : goal.push_onto-requires-clause-tight
push_onto-requires-clause-tight c = tight_front (checked_plan c.args.settings.now.checked.now) c.args.settings.now.limit c.args.segments.items c.args.last c.requires.tight

pub push_onto-requires-clause-few : goal.push_onto-requires-clause-few
push_onto-requires-clause-few c =
    let longer = rw c.in-Fits.is at c.in_ok-longer.ensures in
    let few = longer.1 in
    omega arith

pub returns-in-Fits-clause-stands : goal.returns-in-Fits-clause-stands
returns-in-Fits-clause-stands c = λ records h.
    let p = checked_plan c.args.settings.now.checked.now in
    let more : List Record = records ++ c.args.rec.now ∷ [] in
    let longer = rw c.in-Fits.is at c.in_ok-longer.ensures in
    let cut = cut_longer p records (c.args.rec.now ∷ []) c.args.segments.items c.args.last c.in-Fits.longer (cut_last p records c.args.segments.items c.args.last h) longer.0.stands in
    IfOk-weaker c.push_onto.result (SegmentsStandFor p (cut.first ++ cut.rest)) (SegmentsStandFor p more)
    (λ chain s. subst (λ (rs : List Record). SegmentsStandFor p rs chain) (sym cut.all) s)
    (c.push_onto.ensures.stands cut.first cut.rest cut.whole cut.last)

pub returns-in-Fits-clause-extends : goal.returns-in-Fits-clause-extends
returns-in-Fits-clause-extends c = λ records h.
    let p = checked_plan c.args.settings.now.checked.now in
    let limit = c.args.settings.now.limit in
    let longer = rw c.in-Fits.is at c.in_ok-longer.ensures in
    IfOk-weaker c.push_onto.result (IsPushed p limit c.args.segments.items c.in-Fits.longer) (AreExtended p limit (records ++ c.args.rec.now ∷ []))
    (λ pushed is. fits_extended p limit records c.args.rec.now c.args.segments.items c.args.last c.in-Fits.longer pushed longer.0 is h)
    c.push_onto.ensures.pushed

pub returns-in_ok-own-in-Over-clause-extends : goal.returns-in_ok-own-in-Over-clause-extends
returns-in_ok-own-in-Over-clause-extends c = λ records h.
    let p = checked_plan c.args.settings.now.checked.now in
    let limit = c.args.settings.now.limit in
    let rec = c.args.rec.now in
    let apart = rw c.in-Over.is at c.in_ok-longer.ensures in
    let same : c.push.new.self.items ≡ c.args.segments.items ++ c.args.last ∷ [] = c.in_ok-push-in-Over.ensures.items ∙ ap (λ (s : List Path). c.args.segments.items ++ s ∷ []) apart.0 in
    IfOk-weaker c.push_onto-in-Over.result (IsPushed p limit c.push.new.self.items c.in_ok-own-in-Over.own) (AreExtended p limit (records ++ rec ∷ []))
    (λ pushed is. over_extended p limit records rec c.args.segments.items c.args.last c.in_ok-own-in-Over.own pushed apart.1
    (subst (λ (ss : List (List Path)). IsPushed p limit ss c.in_ok-own-in-Over.own pushed) same is) c.in_ok-own-in-Over.ensures.stands h)
    c.push_onto-in-Over.ensures.pushed
