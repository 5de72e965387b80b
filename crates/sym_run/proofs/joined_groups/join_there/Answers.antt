use Rattle.std.proofs.Common.{◌∙◌, List, sym}
use Rattle.sym_base.specs.declared.values.value.Key.{Key}
use Rattle.sym_base.specs.declared.values.record.Record.{Record}
use Rattle.sym_check.specs.Checking.CheckedScripts.{checked_plan}
use Rattle.sym_run.specs.Chained.{Chained}
use Rattle.sym_plain.proofs.Pairs.{set-put}
use Rattle.sym_run.specs.Chains.{ChainFits, ChainStandsFor, IsClosed, IsTight}
use Rattle.sym_run.specs.Runs.{chain_kind}
use Rattle.sym_run.proofs.Beginning.{grown_there}
use Rattle.sym_run.proofs.GroupPuts.{all_found}
use Rattle.sym_run.proofs.joined_groups.join_there.Goals as goal

pub join_chain-requires-clause-left : goal.join_chain-requires-clause-left
join_chain-requires-clause-left c =
    let p = checked_plan c.args.checked.now in
    all_found (λ (k : Key) (u : Chained). ChainFits p u) c.args.key.now c.in-Some.chain.now c.args.map.now.entries c.requires.left (sym c.in-Some.ensures.value)

pub join_chain-requires-clause-tight_left : goal.join_chain-requires-clause-tight_left
join_chain-requires-clause-tight_left c =
    let p = checked_plan c.args.checked.now in
    all_found (λ (k : Key) (u : Chained). IsTight p c.args.limit u) c.args.key.now c.in-Some.chain.now c.args.map.now.entries c.requires.tight_left (sym c.in-Some.ensures.value)

pub returns-in_ok-join_chain-in-Some-clause-joins : goal.returns-in_ok-join_chain-in-Some-clause-joins
returns-in_ok-join_chain-in-Some-clause-joins c =
    let p = checked_plan c.args.checked.now in
    let chain : Chained = c.join_chain.new.left in
    let there = sym c.in-Some.ensures.value in
    grown_there chain_kind p c.args.limit c.args.key.now (λ (rest : List Record). ChainStandsFor p rest c.args.right) (IsClosed c.args.right) c.args.map.now.entries (c.get_mut.follows.lender chain).entries c.in-Some.chain.now chain
    ((c.get_mut.follows.holds chain).0 ∙ set-put c.args.map.now.entries c.args.key.now c.in-Some.chain.now chain c.in-Some.ensures.unique there)
    there c.in_ok-join_chain-in-Some.ensures.fits c.in_ok-join_chain-in-Some.ensures.tight
    (λ first rest h adds. c.in_ok-join_chain-in-Some.ensures.stands first rest h adds)
    (λ right left. c.in_ok-join_chain-in-Some.ensures.closed left right)
