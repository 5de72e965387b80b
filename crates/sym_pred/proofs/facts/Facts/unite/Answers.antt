use Rattle.std.proofs.Common.{◌↔◌, ◌⊎◌, Bool, List, subst}
use Rattle.std.specs.Prelude.{IfSome}
use Rattle.sym_base.specs.Tests.{Truth}
use Rattle.sym_base.specs.declared.values.value.Value.{Value}
use Rattle.sym_pred.specs.Facts.{Atom, FactMap}
use Rattle.sym_pred.specs.Meaning.{Stands, Admits}
use Rattle.sym_pred.proofs.facts.Facts.unite.Goals as goal

pub returns-clause-literals : goal.returns-clause-literals
returns-clause-literals c =
    subst (λ (own : FactMap). IfSome c.united_with.result (λ facts. (atom : Atom) → (outcome : Bool) → Stands facts atom outcome ↔ (Stands own atom outcome × Stands c.args.other.now atom outcome)))
    c.in_ok-copy.ensures c.united_with.ensures.literals

pub returns-clause-admits : goal.returns-clause-admits
returns-clause-admits c =
    subst (λ (own : FactMap). IfSome c.united_with.result (λ facts. (truth : Truth) → (parts : List Value) → Admits truth facts parts ↔ (Admits truth own parts ⊎ Admits truth c.args.other.now parts)))
    c.in_ok-copy.ensures c.united_with.ensures.admits
