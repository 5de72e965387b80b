use Rattle.std.proofs.Common.{rules, ◌≡◌, ◌<◌, ◌≢◌, ◌+◌, ℕ, List, Some, length, refl, sym, ap, subst, ◌∙◌, arith}
use Rattle.std.proofs.lemmas.Option.{slice_get_read}
use Rattle.std.specs.Prelude.{slice_get}
use Rattle.sym_base.specs.States.{cell_nums, cell_words}
use Rattle.sym_base.specs.declared.values.state.Cell.{Cell}
use Rattle.sym_base.specs.declared.values.state.State.{State}
use Rattle.sym_path.specs.Giving.{HasNumbers}
use Rattle.sym_path.specs.Leading.{SameButLists}
use Rattle.sym_path.specs.Writing.{AreDrafts, draft_at}
use Rattle.sym_path.specs.declared.form.Form.{Form}
use Rattle.sym_path.proofs.Lists.{all_at, get_within}
use Rattle.sym_path.proofs.ListsOut.{draft_same, same_further, same_self, still_numbers}
use Rattle.sym_path.proofs.Written.{draft_next}
use Rattle.sym_path.proofs.outcomes.drafts_of.Goals as goal

pub cells-init : goal.cells-init
cells-init c = record {
  same = same_self c.args.state.now;
  ahead = λ d h. refl;
  count = refl;
  made = record { long = search rules; each = λ d f x h. absurd (omega arith) };
}

pub draft_at-requires : goal.draft_at-requires
draft_at-requires c =
    let s : State = c.args.state.now in
    let t : State = c.list_out-old.new.state in
    let i : ℕ = c.cells.index in
    let form : Form = c.index-forms-index.result in
    let within : i < length c.args.forms.now = omega arith in
    let f : slice_get c.args.forms.now i ≡ Some form = slice_get_read c.args.forms.now (length c.args.forms.now) i form refl within c.index-forms-index.is in
    let same : SameButLists s t = same_further s c.cells.state t c.cells.invariant.same c.list_out-old.ensures.same in
    still_numbers s t form same (all_at (HasNumbers s) c.args.forms.now i form c.requires.numbers f)

pub cells-preserved : goal.cells-preserved
cells-preserved c =
    let s : State = c.args.state.now in
    let t : State = c.list_out-old.new.state in
    let i : ℕ = c.cells.index in
    let forms : List Form = c.args.forms.now in
    let form : Form = c.index-forms-index.result in
    let old : Cell = c.list_out-old.result in
    let out = c.list_out-old.ensures in
    let within : i < length forms = omega arith in
    let f : slice_get forms i ≡ Some form = slice_get_read forms (length forms) i form refl within c.index-forms-index.is in
    let lengths = c.requires.lengths in
    let found = get_within s.cells i (omega (arith, lengths)) in
    let x : Cell = found.0 in
    let ahead : slice_get c.cells.state.cells i ≡ Some x = c.cells.invariant.ahead i (omega arith) ∙ found.1 in
    let same : SameButLists s t = same_further s c.cells.state t c.cells.invariant.same out.same in
    let value : c.in_ok-draft_at.field-0 ≡ draft_at i form s x =
    c.in_ok-draft_at.ensures ∙ draft_same i s t form x old same (out.nums ∙ ap cell_nums ahead) (out.words ∙ ap cell_words ahead) in
    record {
      same = same;
      ahead = λ d h. let other : d ≢ i = omega arith in out.others d other ∙ c.cells.invariant.ahead d (omega arith);
      count = out.count ∙ c.cells.invariant.count;
      made = subst (λ (drafts : List Cell). AreDrafts forms s (i + 1) drafts) (sym c.in_ok-push.ensures.items) (draft_next forms s c.cells.drafts.items i form x c.in_ok-draft_at.field-0 f found.1 value c.cells.invariant.made);
    }
