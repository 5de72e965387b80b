use Rattle.std.proofs.Common.{◌≡◌, ◌∙◌, ◌+◌, ◌-◌, ◌^◌, ◌≤◌, ◌<◌, ℕ, List, ap, arith, false, length, min, refl, slice_set, sym, take}
use Rattle.sym_base.specs.declared.values.value.Value.{Value}
use Rattle.sym_shuffle.specs.Shuffling.{width_of}
use Rattle.sym_shuffle.proofs.DealtMarks.{passed_over, set_all, set_marked, set_past, set_unmarked}
use Rattle.sym_shuffle.proofs.MarkedValues.{width_marked, width_unmarked}
use Rattle.sym_shuffle.proofs.marks.set_marked.Goals as goal
use Rattle.sym_shuffle.proofs.marks.set_marked.Goals.{then-marks-index, in-Some+in_ok-copy_to, in_default, else-marks-index}

pub marks-init : goal.marks-init
marks-init c =
    let fits = c.ranges.first.fits in
    record {
      count = omega arith;
      set = λ from are long. refl;
    }

pub marks-preserved : goal.marks-preserved
marks-preserved c =
    let marks = c.args.marks.now in
    let values : List Value = c.args.values.now in
    let old : List Value = c.args.fields.now in
    let now : List Value = c.marks.fields in
    let new : List Value = c.if-marks-index.fields in
    let i = c.marks.index in
    let first = c.args.first in
    let at = c.marks.at in
    let so_far = c.marks.invariant in
    let fits = c.len-count.type_inv in
    let few : length values ≤ 2 ^ 64 - 1 = omega (arith, c.len-count.ensures, fits) in
    elim c.if-marks-index.branch [
      | then-marks-index w ↦ record {
        count =
            w.at-is
            ∙ passed_over first (width_of (take i marks)) (width_of (take (i + 1) marks)) at w.saturating_add-at.result (2 ^ 64 - 1)
            so_far.count w.saturating_add-at.ensures (width_marked marks i false c.marks-test.true w.if-marks-index.true);
        set = λ from are long. elim w.match-get_mut.branch [
          | in-Some+in_ok-copy_to x ↦
              set_marked marks from values old now new i first at (2 ^ 64 - 1) x.in-Some.field.now c.marks-test.true w.if-marks-index.true are so_far.count few
              (sym x.in-Some.ensures.item) (w.fields-is ∙ x.fields-is ∙ ap (slice_set now i) x.in_ok-copy_to.ensures) (so_far.set from are long)
          | in_default x ↦
              set_past marks from old now new i c.marks-test.true w.if-marks-index.true (sym x.in_default.ensures.item) (w.fields-is ∙ x.fields-is) (so_far.set from are long)
        ];
      }
      | else-marks-index w ↦ record {
        count = w.at-is ∙ so_far.count ∙ ap (λ (n : ℕ). min (first + n) (2 ^ 64 - 1)) (sym (width_unmarked marks i false c.marks-test.true w.if-marks-index.false));
        set = λ from are long. set_unmarked marks from old now new i c.marks-test.true w.if-marks-index.false w.fields-is (so_far.set from are long);
      }
    ]

pub returns : goal.returns
returns c = λ from are long.
    let past : length c.args.marks.now ≤ c.marks.index = omega (arith, c.marks-test.false) in
    set_all c.args.marks.now from c.args.fields.now c.marks.fields c.marks.index past (c.marks.invariant.set from are long)
