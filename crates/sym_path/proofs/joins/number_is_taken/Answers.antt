use Rattle.std.proofs.Common.{◌≡◌, ℤ, ◌+ℤ◌, ◌*ℤ◌, ap, ◌∙◌, to_z, of_z, w64, rules}
use Rattle.std.proofs.lemmas.Int.{to_z-of_z}
use Rattle.std.specs.Int.{w128}
use Rattle.sym_int.specs.Lines.{form_on, offset}
use Rattle.sym_int.specs.declared.form.IntForm.TheVariants as number
use Rattle.sym_path.proofs.JoiningTaken.{const_number_decided, line_stays_decided, constant_decided, not_a_line}
use Rattle.sym_path.proofs.joins.number_is_taken.Goals as goal
use mir.Val.{SFits}

pub returns-in-Const : goal.returns-in-Const
returns-in-Const c = const_number_decided c.args.when.now c.args.other.now c.args.form.now c.in-Const.field-0 c.eq.result c.in-Const.is c.eq.ensures

pub returns-in-Const-other : goal.returns-in-Const-other
returns-in-Const-other c =
    let x : ℤ = c.in-Some.x in
    let fits : SFits w64 x = search rules in
    let held : to_z w64 (of_z w64 x) ≡ x = to_z-of_z w64 x fits in
    let at : c.at.result ≡ form_on (number.Line c.in-Line.line) x = c.at.ensures ∙ ap (λ (t : ℤ). c.in-Line.line.a *ℤ t +ℤ offset c.in-Line.line) held in
    let wide : SFits w128 c.at.result = search rules in
    let whole : to_z w128 (of_z w128 c.at.result) ≡ c.at.result = to_z-of_z w128 c.at.result wide in
    constant_decided c.args.when.now c.args.form.now c.args.other.now c.in-Line.line x (to_z w128 (of_z w128 c.at.result)) c.in-Const-other.number c.is_number.result c.in-Line.is c.in-Const-other.is c.in-Some.ensures (whole ∙ at) c.is_number.ensures

pub returns-in-Line-other : goal.returns-in-Line-other
returns-in-Line-other c = (λ e. absurd (cc), λ h. absurd (not_a_line c.args.when.now c.args.form.now c.args.other.now c.in-Line.line c.in-Line-other.field-0 c.in-Some.x c.in-Line.is c.in-Line-other.is c.in-Some.ensures h))

pub returns-in-None : goal.returns-in-None
returns-in-None c = line_stays_decided c.args.when.now c.args.other.now c.args.form.now c.in-Line.line c.eq-in-None.result c.in-Line.is c.in-None.ensures c.eq-in-None.ensures
