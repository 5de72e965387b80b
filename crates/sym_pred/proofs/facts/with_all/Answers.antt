use Rattle.sym_pred.proofs.WithLemmas.{err_holds, with_none, with_next, with_against, with_new, with_whole}
use Rattle.sym_pred.proofs.facts.with_all.Goals as goal

pub literals-init : goal.literals-init
literals-init c = with_none c.args.facts c.args.literals.now

pub literals-preserved : goal.literals-preserved
literals-preserved c =
    let one = rw c.in-Some.is at c.in_ok-more.ensures.found in
    with_next c.args.facts c.literals.facts c.args.literals.now c.literals.literal-index c.literals.invariant c.literal-item.result c.literals-test.true c.literal-item.is c.in-Some.more one

pub returns-in-None-clause-found : goal.returns-in-None-clause-found
returns-in-None-clause-found c =
    let one = rw c.in-None.is at c.in_ok-more.ensures.found in
    with_against c.args.facts c.literals.facts c.args.literals.now c.literals.literal-index c.literals.invariant c.literal-item.result c.literals-test.true c.literal-item.is one

pub returns-in_err-more-clause-memory : goal.returns-in_err-more-clause-memory
returns-in_err-more-clause-memory c =
    let new = with_new c.args.facts c.literals.facts c.args.literals.now c.literals.literal-index c.literals.invariant c.literal-item.result c.literals-test.true c.literal-item.is c.in_err-more.ensures.memory in
    err_holds c.from_residual.result new

pub returns-clause-found : goal.returns-clause-found
returns-clause-found c = with_whole c.args.facts c.literals.facts c.args.literals.now c.literals.literal-index c.literals.invariant c.literals-test.false
