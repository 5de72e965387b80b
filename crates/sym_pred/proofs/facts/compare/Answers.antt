use Rattle.std.proofs.Common.{sym, ◌∙◌, ap, subst, Option, ℕ, ◌+◌}
use Rattle.std.specs.Ordering.{is_ne}
use Rattle.sym_pred.proofs.MeaningLemmas.{differing, agreeing}
use Rattle.sym_pred.proofs.DifferenceLemmas.{Front, Many-here, Many-again, Front-turned, Front-same}
use Rattle.sym_pred.proofs.facts.compare.Goals as goal
use Rattle.sym_pred.proofs.facts.compare.Goals.{then-first-second+else-is_some, else-first-second}

pub returns-then-is_ne : goal.returns-then-is_ne
returns-then-is_ne c =
    Many-here _ _ c.places.index c.index-left-index.result c.index-right-index.result c.places-test.true c.places.invariant.0 c.index-left-index.is c.index-right-index.is
    (ap is_ne (sym c.order.ensures) ∙ sym c.is_ne.ensures ∙ c.if-is_ne.true)

pub returns-then-is_some : goal.returns-then-is_some
returns-then-is_some c =
    Many-again _ _ c.places.index c.index-left-index.result c.index-right-index.result c.places-test.true c.places.invariant.0 c.index-left-index.is c.index-right-index.is
    c.places.found c.places.invariant.1 (sym c.is_some.ensures ∙ c.if-is_some.true) (differing c.index-left-index.result.outcome c.index-right-index.result.outcome c.if-first-second.true)

pub places-preserved : goal.places-preserved
places-preserved c =
    let same = ap is_ne (sym c.order.ensures) ∙ sym c.is_ne.ensures ∙ c.if-is_ne.false in (
      c.places.invariant.0,
      elim c.if-first-second.branch [
        | then-first-second+else-is_some w ↦
            subst (λ (found : Option ℕ). Front c.args.left.now c.args.right.now (c.places.index + 1) found) (sym w.found-is)
            (Front-turned _ _ c.places.index c.index-left-index.result c.index-right-index.result c.places-test.true c.places.invariant.0 c.index-left-index.is c.index-right-index.is
            c.places.found c.places.invariant.1 (sym w.is_some.ensures ∙ w.if-is_some.false) same (differing _ _ w.if-first-second.true))
        | else-first-second w ↦
            subst (λ (found : Option ℕ). Front c.args.left.now c.args.right.now (c.places.index + 1) found) (sym w.found-is)
            (Front-same _ _ c.places.index c.index-left-index.result c.index-right-index.result c.places-test.true c.places.invariant.0 c.index-left-index.is c.index-right-index.is
            c.places.found c.places.invariant.1 same (agreeing _ _ w.if-first-second.false))
      ],
    )
