use Rattle.std.proofs.Common.{◌≡◌, ◌<◌, ℕ, List, Some, length, take, refl, sym, subst, arith}
use Rattle.std.proofs.lemmas.Option.{slice_get_read}
use Rattle.std.specs.Prelude.{slice_get}
use Rattle.sym_check.specs.Checking.CheckedScripts.{checked_plan}
use Rattle.sym_path.specs.Composing.{GrowsByAll}
use Rattle.sym_path.specs.declared.path.Path.{Path}
use Rattle.sym_path.proofs.Composed.{grown_more}
use Rattle.sym_path.proofs.Lists.{take_get, take_past}
use Rattle.sym_path.proofs.composition.add_each.Goals as goal

pub others-preserved : goal.others-preserved
others-preserved c =
    let p = checked_plan c.args.checked.now in
    let others : List Path = c.args.others.now in
    let i : ℕ = c.others.next-index in
    let next : Path = c.next-item.result in
    let within : i < length others = omega arith in
    let at : slice_get others i ≡ Some next = slice_get_read others (length others) i next refl within c.next-item.is in
    subst (λ (ps : List Path). GrowsByAll p c.args.path.now ps c.args.out.now.items c.add_next.new.out.items) (sym (take_get others i next at))
    (grown_more p c.args.path.now next (take i others) c.args.out.now.items c.others.out.items c.add_next.new.out.items c.others.invariant c.in_ok-add_next.ensures)

pub returns : goal.returns
returns c =
    let p = checked_plan c.args.checked.now in
    let others : List Path = c.args.others.now in
    subst (λ (ps : List Path). GrowsByAll p c.args.path.now ps c.args.out.now.items c.others.out.items) (take_past others c.others.next-index (omega arith)) c.others.invariant
