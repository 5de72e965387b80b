use Rattle.std.proofs.Common.{ap, ◌∙◌, map, List}
use Rattle.std.specs.FinMap.{from_sorted}
use Rattle.sym_pred.specs.declared.literal.Literal.{Literal}
use Rattle.sym_pred.specs.Facts.{atom_cmp}
use Rattle.sym_pred.specs.Literals.{entry_of}
use Rattle.sym_pred.proofs.FactsLemmas.{from_sorted-nil}
use Rattle.sym_pred.proofs.facts.Facts.none.Goals as goal

pub returns : goal.returns
returns c = ap (λ (xs : List Literal). from_sorted {R = atom_cmp} (map entry_of xs)) c.new.ensures ∙ from_sorted-nil
