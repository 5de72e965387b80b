use Rattle.std.proofs.Common.{◌≡◌, ◌↔◌, ◌⊎◌, ◌∙◌, ap, Bool}
use Rattle.sym_pred.specs.Facts.{Atom}
use Rattle.sym_pred.specs.Meaning.{Stands}
use Rattle.sym_pred.specs.declared.form.HoldForm.{HoldForm}
use Rattle.sym_path.specs.declared.form.Form.TheVariants as form
use Rattle.sym_path.proofs.Followed.{passed_at}
use Rattle.sym_path.proofs.succession.hold_passed.Goals as goal

pub returns-in-Some : goal.returns-in-Some
returns-in-Some c =
    let both : (atom : Atom) (o : Bool) → Stands c.in-Some.met atom o ↔ (Stands c.args.facts atom o ⊎ Stands c.in-Facts.needed atom o) = rw c.in-Some.is at c.in_ok-met-in-Facts.ensures.literals in
    passed_at c.args.cell c.in-Copy.own c.args.facts c.in-Facts.needed c.in-Some.met c.args.form.now c.args.need.now c.in-Copy.is c.in-Facts.is c.if-own-cell.true both
