use Rattle.std.proofs.Common.{◌↔◌, ◌∙◌, ◌≤◌, IsTrue, length, ap, sym, subst, arith}
use Rattle.sym_run.specs.Chained.{Chained}
use Rattle.sym_run.specs.Chains.{IsClosed}
use Rattle.sym_run.proofs.KeptRecords.{empty_told, no_items, some_items}
use Rattle.sym_run.proofs.chains.Chain.is_closed.Goals as goal

pub returns-clause-closed : goal.returns-clause-closed
returns-clause-closed c =
    subst (λ (chain : Chained). IsTrue c.is_empty.result ↔ IsClosed chain) c.self.view_is (empty_told c.self.inside.kept c.is_empty.result c.is_empty.ensures)

pub returns-clause-some : goal.returns-clause-some
returns-clause-some c = λ e. subst (λ (chain : Chained). 1 ≤ length chain.kept) c.self.view_is (some_items c.self.inside.kept (sym c.is_empty.ensures ∙ e))

pub returns-clause-segments : goal.returns-clause-segments
returns-clause-segments c = λ e.
    let none = no_items c.self.inside.kept (sym c.is_empty.ensures ∙ e) in
    subst (λ (chain : Chained). 1 ≤ length chain.segments) c.self.view_is (omega (arith, c.self.invariant, ap length none))
