use Rattle.std.proofs.Common.{◌≡◌, ◌++◌, ◌∷◌, [], List, Some, length, map, refl, sym, ap, ◌∙◌, take}
use Rattle.std.proofs.lemmas.List.{take_all}
use Rattle.std.proofs.lemmas.Option.{slice_get_read}
use Rattle.std.specs.Prelude.{slice_get}
use Rattle.sym_base.specs.declared.values.state.Cell.{Cell}
use Rattle.sym_path.specs.declared.form.Form.{Form}
use Rattle.sym_path.proofs.Given.{added_next}
use Rattle.sym_known.specs.Knowing.{known_cell}
use Rattle.sym_known.proofs.known_cells.known_state.Goals as goal

pub cells-preserved : goal.cells-preserved
cells-preserved c =
    let forms : List Form = c.args.forms.now in
    let form : Form = c.index-forms-index.result in
    let at : slice_get forms c.cells.index ≡ Some form = slice_get_read forms (length forms) c.cells.index form refl c.cells-test.true c.index-forms-index.is in
    c.in_ok-push.ensures.items
    ∙ ap (λ (cells : List Cell). cells ++ c.in_ok-known_cell.field-0 ∷ []) c.cells.invariant
    ∙ ap (λ (x : Cell). map known_cell (take c.cells.index forms) ++ x ∷ []) c.in_ok-known_cell.ensures
    ∙ added_next known_cell [] forms c.cells.index form at
