use Rattle.std.proofs.Common.{◌∙◌, ap, sym}
use Rattle.std.specs.Prelude.{slice_set}
use Rattle.sym_run.proofs.UnreadWords.{marked_stays, unmarked_none, unmarked_set}
use Rattle.sym_run.proofs.unread.empty_words.Goals as goal
use Rattle.sym_run.proofs.unread.empty_words.Goals.{in-Some+in_ok-empty_word, in_default}

pub values-preserved-then-marks-index : goal.values-preserved-then-marks-index
values-preserved-then-marks-index c = marked_stays c.args.marks.now c.args.values.now c.values.values c.values.index c.values-test.true c.if-marks-index.true c.values.invariant

pub values-preserved : goal.values-preserved
values-preserved c = elim c.match-get_mut.branch [
  | in-Some+in_ok-empty_word w ↦
      unmarked_set c.args.marks.now c.args.values.now c.values.values c.match-get_mut.values c.values.index w.in-Some.value.now c.values-test.true c.if-marks-index.false c.values.invariant
      (sym w.in-Some.ensures.item) (w.values-is ∙ ap (slice_set c.values.values c.values.index) w.in_ok-empty_word.ensures)
  | in_default w ↦ unmarked_none c.args.marks.now c.args.values.now c.values.values c.match-get_mut.values c.values.index c.values.invariant (sym w.in_default.ensures.item) w.values-is
]
