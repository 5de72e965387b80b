use Rattle.std.proofs.Common.{◌≡◌, ◌<◌, ℕ, Some, inl, length, refl, sym, ap, ◌∙◌, arith}
use Rattle.std.specs.Prelude.{slice_get}
use Rattle.std.proofs.lemmas.Option.{slice_get-get_or}
use Rattle.sym_path.proofs.JoiningConstraints.{same_lengths, no_difference, one_difference}
use Rattle.sym_path.proofs.joins.constraints_unite.Goals as goal

pub returns-then-v-w : goal.returns-then-v-w
returns-then-v-w c = (λ e. absurd (cc), λ h. absurd (c.if-v-w.true (same_lengths c.args.v.now c.args.w.now h)))

pub returns-then-cell-v : goal.returns-then-cell-v
returns-then-cell-v c = (λ e. inl (no_difference c.args.v.now c.args.w.now c.if-v-w.false c.difference-cell.result c.if-cell-v.true c.difference-cell.ensures), λ h. refl)

pub returns : goal.returns
returns c =
    let m : ℕ = c.difference-cell.result in
    let a : m < length c.args.v.now = omega (arith, c.difference-cell.ensures.within, c.if-cell-v.false) in
    let b : m < length c.args.w.now = omega (arith, c.if-v-w.false) in
    let x = c.index-v-cell.result in
    let y = c.index-w-cell.result in
    let in_v : slice_get c.args.v.now m ≡ Some x = slice_get-get_or c.args.v.now m x a ∙ ap Some (sym c.index-v-cell.is) in
    let in_w : slice_get c.args.w.now m ≡ Some y = slice_get-get_or c.args.w.now m y b ∙ ap Some (sym c.index-w-cell.is) in
    one_difference c.args.v.now c.args.w.now c.if-v-w.false m c.difference.result x y a c.if-difference-v.false c.difference-cell.ensures c.difference.ensures in_v in_w c.parts_unite.result c.parts_unite.ensures
