use Rattle.std.proofs.Common.{◌≡◌, ◌<◌, List, map, length, get_or, sym, ap, subst, ◌∙◌}
use Rattle.std.specs.List.{remove}
use Rattle.std.specs.FinMap.{from_sorted}
use Rattle.std.specs.FinMap as finite
use Rattle.sym_pred.specs.declared.literal.Literal.{Literal}
use Rattle.sym_pred.specs.Facts.{FactMap, atom_cmp}
use Rattle.sym_pred.specs.Literals.{atom_of, entry_of}
use Rattle.sym_pred.specs.Places.{IsInOrder}
use Rattle.sym_pred.proofs.FactsLemmas.{literals_of_view, in_order-without, facts-without}
use Rattle.sym_pred.proofs.facts.Facts.without.Goals as goal

pub invariant_of-result : goal.invariant_of-result
invariant_of-result c =
    let items : c.remove.new.self ≡ remove c.self.inside.literals c.args.index = c.remove.ensures in
    subst IsInOrder (sym items) (in_order-without _ c.args.index c.self.invariant)

pub returns : goal.returns
returns c d =
    let lits = literals_of_view _ _ c.self.invariant c.self.view_is in
    let items : c.remove.new.self ≡ remove c.self.inside.literals c.args.index = c.remove.ensures in
    ap (λ (xs : List Literal). from_sorted {R = atom_cmp} (map entry_of xs)) items
    ∙ facts-without _ c.args.index d c.self.invariant (subst (λ xs. c.args.index < length xs) lits c.requires)
    ∙ ap (λ (m : FactMap). finite.remove m (atom_of (get_or c.self.inside.literals c.args.index d))) c.self.view_is
    ∙ ap (λ xs. finite.remove c.args.self (atom_of (get_or xs c.args.index d))) (sym lits)
