use Rattle.std.proofs.Common.{◌∙◌, ◌≤◌, ◌++◌, [], ◌∷◌, List, Some, ap, arith, length, sym}
use Rattle.sym_base.specs.declared.values.value.Value.{Value}
use Rattle.sym_shuffle.proofs.DealtMarks.{pushed_all, pushed_marked, pushed_none, pushed_unmarked}
use Rattle.sym_shuffle.proofs.marks.push_marked.Goals as goal
use Rattle.sym_shuffle.proofs.marks.push_marked.Goals.{then-marks-index+in-Some+in_ok-push, then-marks-index+in_default, else-marks-index}

pub marks-preserved : goal.marks-preserved
marks-preserved c =
    let marks = c.args.marks.now in
    let fields : List Value = c.args.fields.now in
    let first : List Value = c.args.values.now in
    let old : List Value = c.marks.values in
    let new : List Value = c.if-marks-index.values in
    elim c.if-marks-index.branch [
      | then-marks-index+in-Some+in_ok-push w ↦
          pushed_marked marks fields first old new c.marks.index (Some w.in-Some.value.now) c.marks-test.true w.if-marks-index.true (sym w.in-Some.ensures)
          (w.values-is ∙ w.in_ok-push.ensures)
          c.marks.invariant
      | then-marks-index+in_default w ↦
          pushed_none marks fields first old new c.marks.index c.marks-test.true w.if-marks-index.true (sym w.in_default.ensures) w.values-is c.marks.invariant
      | else-marks-index w ↦
          pushed_unmarked marks fields first old new c.marks.index c.marks-test.true w.if-marks-index.false w.values-is c.marks.invariant
    ]

pub returns : goal.returns
returns c =
    let past : length c.args.marks.now ≤ c.marks.index = omega (arith, c.marks-test.false) in
    pushed_all c.args.marks.now c.args.fields.now c.args.values.now c.marks.values c.marks.index past c.marks.invariant
