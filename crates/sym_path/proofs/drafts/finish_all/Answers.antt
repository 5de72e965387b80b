use Rattle.std.proofs.Common.{◌≡◌, ◌<◌, ◌≢◌, ℕ, List, Some, length, refl, sym, ap, ◌∙◌, arith}
use Rattle.std.proofs.lemmas.Option.{slice_get_read}
use Rattle.std.specs.Prelude.{slice_get}
use Rattle.sym_base.specs.declared.values.state.Cell.TheVariants as cell
use Rattle.sym_path.specs.declared.form.Form.{Form}
use Rattle.sym_path.proofs.Lists.{set_other}
use Rattle.sym_path.proofs.Written.{finish_next, none_finished}
use Rattle.sym_path.proofs.drafts.finish_all.Goals as goal

pub cells-init : goal.cells-init
cells-init c = record { done = none_finished c.args.forms.now c.args.drafts c.args.state.now; ahead = λ d h. refl }

pub cells-preserved : goal.cells-preserved
cells-preserved c =
    let i : ℕ = c.cells.index in
    let forms : List Form = c.args.forms.now in
    let form : Form = c.index-forms-index.result in
    let within : i < length forms = omega arith in
    let f : slice_get forms i ≡ Some form = slice_get_read forms (length forms) i form refl within c.index-forms-index.is in
    let d : slice_get c.args.drafts i ≡ Some c.in-Some.draft = sym (c.cells.invariant.ahead i (omega arith)) ∙ sym c.replace.ensures.old ∙ cc in
    record {
      done = finish_next forms c.args.drafts c.args.state.now c.cells.state c.finish_at.new.state i form c.in-Some.draft f d c.in_ok-finish_at-in-Some.ensures c.cells.invariant.done;
      ahead = λ e h. let other : e ≢ i = omega arith in ap (λ ds. slice_get ds e) c.replace.ensures.new ∙ set_other c.cells.left i e (cell.Enum 0) other ∙ c.cells.invariant.ahead e (omega arith);
    }
