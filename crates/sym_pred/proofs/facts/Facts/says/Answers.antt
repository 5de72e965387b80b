use Rattle.std.proofs.Common.{sym, ap, ◌∙◌, map, List}
use Rattle.std.specs.FinMap.{find, get, get-from_sorted}
use Rattle.sym_pred.specs.declared.literal.Literal.{Literal}
use Rattle.sym_pred.specs.Facts.{FactMap, atom_cmp}
use Rattle.sym_pred.specs.Literals.{entry_of}
use Rattle.sym_pred.proofs.facts.Facts.says.Goals as goal

pub returns-in-Ok : goal.returns-in-Ok
returns-in-Ok c =
    sym (c.in-Ok.ensures.2 c.index-literals-index.result)
    ∙ ap (λ (xs : List Literal). find atom_cmp (c.args.test, c.args.args.now) (map entry_of xs)) c.as_slice-literals.ensures
    ∙ sym (get-from_sorted atom_cmp _ (c.args.test, c.args.args.now) c.self.invariant)
    ∙ ap (λ (m : FactMap). get m (c.args.test, c.args.args.now)) c.self.view_is

pub returns-in-Err : goal.returns-in-Err
returns-in-Err c =
    sym c.in-Err.ensures.1
    ∙ ap (λ (xs : List Literal). find atom_cmp (c.args.test, c.args.args.now) (map entry_of xs)) c.as_slice-literals.ensures
    ∙ sym (get-from_sorted atom_cmp _ (c.args.test, c.args.args.now) c.self.invariant)
    ∙ ap (λ (m : FactMap). get m (c.args.test, c.args.args.now)) c.self.view_is
