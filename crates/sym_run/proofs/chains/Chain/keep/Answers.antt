use Rattle.std.proofs.Common.{◌∙◌, ◌++◌, ◌∷◌, [], ap, sym, subst, length}
use Rattle.std.proofs.lemmas.Result.{on_err_weaker, on_ok_weaker}
use Rattle.sym_run.specs.Chained.{Chained}
use Rattle.sym_run.specs.Keeping.{AreAsWide}
use Rattle.sym_run.proofs.KeptRecords.{some_still}
use Rattle.sym_run.proofs.chains.Chain.keep.Goals as goal

pub push-requires : goal.push-requires
push-requires c = subst (λ (chain : Chained). AreAsWide c.args.rec.now chain.kept) (sym c.self.view_is) c.requires

pub invariant_of-self : goal.invariant_of-self
invariant_of-self c =
    some_still c.push.result (length c.self.inside.segments) c.self.inside.kept c.push.new.self (c.args.rec.now ∷ []) c.push.ensures.ok c.push.ensures.err c.self.invariant

pub returns-clause-segments : goal.returns-clause-segments
returns-clause-segments c = ap (λ (chain : Chained). chain.segments) c.self.view_is

pub returns-clause-kept : goal.returns-clause-kept
returns-clause-kept c =
    on_ok_weaker c.push.result (λ e. e ∙ ap (λ (chain : Chained). chain.kept ++ c.args.rec.now ∷ []) c.self.view_is) c.push.ensures.ok

pub returns-clause-err : goal.returns-clause-err
returns-clause-err c =
    on_err_weaker c.push.result (λ e. ap (λ kept. record { segments = c.self.inside.segments; kept = kept }) e ∙ c.self.view_is) c.push.ensures.err
