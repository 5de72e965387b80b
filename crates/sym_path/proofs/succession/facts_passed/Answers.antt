use Rattle.std.proofs.Common.{◌≡◌, ◌↔◌, ◌⊎◌, Bool, sym, subst}
use Rattle.std.specs.Prelude.{IfOk}
use Rattle.sym_pred.specs.Facts.{Atom, FactMap}
use Rattle.sym_pred.specs.Meaning.{Stands}
use Rattle.sym_path.specs.declared.form.Form.{Form}
use Rattle.sym_path.specs.Left.{NeedsHere}
use Rattle.sym_path.proofs.succession.facts_passed.Goals as goal

pub returns-in-Hold : goal.returns-in-Hold
returns-in-Hold c =
    subst (λ (f : Form). IfOk c.hold_passed.result (λ (left : FactMap). (atom : Atom) (o : Bool) → Stands left atom o ↔ (Stands c.args.facts atom o ⊎ NeedsHere c.args.cell f c.args.need.now atom o))) (sym c.in-Hold.is) c.hold_passed.ensures
