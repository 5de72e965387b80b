use Rattle.std.proofs.Common.{◌≡◌, List, map, Err, sym, ap, subst, ◌∙◌, arith}
use Rattle.std.specs.List.{insert}
use Rattle.std.specs.FinMap.{from_sorted}
use Rattle.std.specs.FinMap as finite
use Rattle.sym_pred.specs.declared.literal.Literal.{Literal}
use Rattle.sym_pred.specs.Facts.{FactMap, atom_cmp}
use Rattle.sym_pred.specs.Literals.{atom_of, entry_of}
use Rattle.sym_pred.specs.Places.{IsInOrder, IsPlace}
use Rattle.sym_pred.proofs.FactsLemmas.{literals_of_view, in_order-longer, facts-longer}
use Rattle.sym_pred.proofs.facts.Facts.longer.Goals as goal

pub insert-requires : goal.insert-requires
insert-requires c =
    let place = subst (λ xs. IsPlace xs (atom_of c.args.literal) (Err c.args.index)) (literals_of_view _ _ c.self.invariant c.self.view_is) c.requires in
    (omega arith, place.0)

pub invariant_of-result : goal.invariant_of-result
invariant_of-result c =
    let place = subst (λ xs. IsPlace xs (atom_of c.args.literal) (Err c.args.index)) (literals_of_view _ _ c.self.invariant c.self.view_is) c.requires in
    let items : c.insert.new.self ≡ insert c.self.inside.literals c.args.index c.args.literal = c.in_ok-insert.ensures.ok in
    subst IsInOrder (sym items) (in_order-longer _ c.args.literal c.args.index c.self.invariant place)

pub returns : goal.returns
returns c =
    let place = subst (λ xs. IsPlace xs (atom_of c.args.literal) (Err c.args.index)) (literals_of_view _ _ c.self.invariant c.self.view_is) c.requires in
    let items : c.insert.new.self ≡ insert c.self.inside.literals c.args.index c.args.literal = c.in_ok-insert.ensures.ok in
    ap (λ (xs : List Literal). from_sorted {R = atom_cmp} (map entry_of xs)) items
    ∙ facts-longer _ c.args.literal c.args.index c.self.invariant place
    ∙ ap (λ (m : FactMap). finite.insert m (atom_of c.args.literal) c.args.literal.outcome) c.self.view_is
