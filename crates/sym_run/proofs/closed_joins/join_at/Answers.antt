use Rattle.std.proofs.Common.{◌∙◌, List, sym}
use Rattle.std.proofs.lemmas.Result.{on_ok_weaker}
use Rattle.sym_base.specs.declared.values.value.Key.{Key}
use Rattle.sym_check.specs.Checking.CheckedScripts.{checked_plan}
use Rattle.sym_plain.proofs.Pairs.{indexed-apart, indexed-lookup, indexed-put}
use Rattle.sym_plain.specs.Pairs.{put_by_index}
use Rattle.sym_run.specs.Chained.{Chained}
use Rattle.sym_run.specs.Chains.{ChainFits, IsClosed}
use Rattle.sym_run.proofs.ClosedJoins.{chain_at, closed_there, no_chain}
use Rattle.sym_run.proofs.closed_joins.join_at.Goals as goal

pub join_chain-requires-clause-left : goal.join_chain-requires-clause-left
join_chain-requires-clause-left c =
    chain_at (ChainFits (checked_plan c.args.checked.now)) c.args.map.now.entries c.args.index c.in-Some.chain.now c.requires.left c.in-Some.ensures.value

pub join_chain-requires-clause-closed_left : goal.join_chain-requires-clause-closed_left
join_chain-requires-clause-closed_left c = chain_at IsClosed c.args.map.now.entries c.args.index c.in-Some.chain.now c.requires.closed_left c.in-Some.ensures.value

pub returns-in-Some-clause-joins : goal.returns-in-Some-clause-joins
returns-in-Some-clause-joins c = λ key at.
    let p = checked_plan c.args.checked.now in
    let old : List (Key × Chained) = c.args.map.now.entries in
    let was : Chained = c.in-Some.chain.now in
    let chain : Chained = c.join_chain.new.left in
    let apart = c.in-Some.ensures.unique in
    on_ok_weaker c.join_chain.result
    (λ j. closed_there p c.args.limit key old (put_by_index old c.args.index chain) c.args.right was chain (indexed-put old key c.args.index chain apart at)
    (indexed-lookup old key c.args.index apart at ∙ sym c.in-Some.ensures.value) j)
    c.join_chain.ensures

pub returns-in-Some-clause-distinct : goal.returns-in-Some-clause-distinct
returns-in-Some-clause-distinct c = indexed-apart c.args.map.now.entries c.args.index c.join_chain.new.left c.in-Some.ensures.unique

pub returns-in-None-clause-joins : goal.returns-in-None-clause-joins
returns-in-None-clause-joins c = λ key at. absurd (no_chain key c.args.map.now.entries c.args.index at c.in-None.ensures.value)
