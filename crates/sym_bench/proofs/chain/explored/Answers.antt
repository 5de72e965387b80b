use Rattle.std.proofs.Common.{◌++◌, List, sym, subst, take}
use Rattle.std.proofs.lemmas.List.{take_all}
use Rattle.sym_base.specs.declared.values.record.Record.{Record}
use Rattle.sym_check.specs.Checking.CheckedScripts.{checked_plan}
use Rattle.sym_bench.specs.Chains.{IsChainOf}
use Rattle.sym_bench.proofs.ChainLemmas.{one_more}
use Rattle.sym_bench.proofs.chain.explored.Goals as goal

pub extended-requires-clause-stands : goal.extended-requires-clause-stands
extended-requires-clause-stands c =
    (c.requires.stands.0 ++ take c.records.rec-index c.args.records.now, c.records.invariant c.requires.stands.0 c.requires.stands.1)

pub records-preserved : goal.records-preserved
records-preserved c = λ before h.
    subst (λ (rs : List Record). IsChainOf (checked_plan c.args.checked.now) rs c.in_ok-chain.chain)
    (sym (one_more before c.args.records.now c.records.rec-index c.rec-item.result c.records-test.true c.rec-item.is))
    (c.in_ok-chain.ensures (before ++ take c.records.rec-index c.args.records.now) (c.records.invariant before h))

pub returns : goal.returns
returns c = λ before h.
    subst (λ (rs : List Record). IsChainOf (checked_plan c.args.checked.now) (before ++ rs) c.records.chain)
    (take_all c.records.rec-index c.args.records.now c.records-test.false) (c.records.invariant before h)
