use Rattle.std.proofs.Common.{rules}
use Rattle.std.proofs.lemmas.Fn.{always_returns_same}
use Rattle.sym_pred.specs.Facts.{atom_cmp}
use Rattle.sym_pred.specs.Literals.{atom_of}
use Rattle.sym_pred.proofs.FactsLemmas.{searched}
use Rattle.sym_pred.proofs.facts.place.Goals as goal

pub returns : goal.returns
returns c =
    searched _ _ c.requires _ c.binary_search_by.ensures.bound
    (c.binary_search_by.ensures.position (λ x. atom_cmp (atom_of x) (c.args.test, c.args.args.now)) (always_returns_same _ _ _ (λ a r f' k. search rules)))
