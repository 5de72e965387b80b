use Rattle.std.proofs.Common.{◌∙◌, ◌++◌, List, ap, ap₂, length, sym, subst}
use Rattle.std.proofs.lemmas.Result.{on_err_weaker, on_ok_weaker}
use Rattle.sym_base.specs.declared.values.record.Record.{Record}
use Rattle.sym_run.specs.Chained.{Chained}
use Rattle.sym_run.specs.Keeping.{AreWide}
use Rattle.sym_run.proofs.KeptRecords.{some_still}
use Rattle.sym_run.proofs.chains.Chain.keep_all.Goals as goal

pub append-requires : goal.append-requires
append-requires c =
    let count = c.requires.0 in
    (count, subst (λ (chain : Chained). AreWide count chain.kept) (sym c.self.view_is) c.requires.1, subst (AreWide count) (sym c.into_parts-none.ensures.kept) c.requires.2)

pub invariant_of-self : goal.invariant_of-self
invariant_of-self c =
    some_still c.append.result (length c.self.inside.segments) c.self.inside.kept c.append.new.self c.into_parts-none.result.1 c.append.ensures.ok c.append.ensures.err c.self.invariant

pub returns-clause-ok : goal.returns-clause-ok
returns-clause-ok c =
    on_ok_weaker c.append.result
    (λ e. record {
      segments = ap (λ (chain : Chained). chain.segments) c.self.view_is;
      kept = e ∙ ap₂ (λ (a b : List Record). a ++ b) (ap (λ (chain : Chained). chain.kept) c.self.view_is) c.into_parts-none.ensures.kept;
    })
    c.append.ensures.ok

pub returns-clause-err : goal.returns-clause-err
returns-clause-err c =
    on_err_weaker c.append.result (λ e. ap (λ kept. record { segments = c.self.inside.segments; kept = kept }) e ∙ c.self.view_is) c.append.ensures.err
