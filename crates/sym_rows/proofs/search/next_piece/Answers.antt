use Rattle.std.proofs.Common.{◌∙◌, ◌+◌, arith, ap, sym, add-zero}
use Rattle.sym_rows.specs.Places.{one_if}
use Rattle.sym_rows.proofs.Ends.{IsAt, ends_before, ends_last, one_on}
use Rattle.sym_rows.proofs.search.next_piece.Goals.{then-step+else-rows-most, else-step}
use Rattle.sym_rows.proofs.search.next_piece.Goals as goal

pub returns-then-rows-most : goal.returns-then-rows-most
returns-then-rows-most c =
    let bytes = c.args.bytes.now in
    let inv = c.bytes.invariant in
    let so : IsAt bytes c.args.from c.bytes.at c.bytes.rows c.bytes.place = record { low = inv.low; high = inv.high; counted = inv.counted; stands = inv.stands } in
    ends_before bytes c.args.from c.bytes.at c.bytes.rows c.args.count c.bytes.place c.bytes-test.true so c.if-rows-most.true
    (ap (λ s. s.ends) (sym c.next_step-step.ensures) ∙ c.if-step.true)

pub bytes-preserved : goal.bytes-preserved
bytes-preserved c =
    let bytes = c.args.bytes.now in
    let inv = c.bytes.invariant in
    let so : IsAt bytes c.args.from c.bytes.at c.bytes.rows c.bytes.place = record { low = inv.low; high = inv.high; counted = inv.counted; stands = inv.stands } in
    let on = one_on bytes c.args.from c.bytes.at c.bytes.rows c.bytes.place c.bytes-test.true so in
    let stands = ap (λ s. s.at) c.next_step-step.ensures ∙ on.stands in
    elim c.if-step.branch [
      | then-step+else-rows-most w ↦
          let ends = ap (λ s. s.ends) (sym c.next_step-step.ensures) ∙ w.if-step.true in
          rw w.rows-is (record {
            low = omega arith;
            high = omega arith;
            few = omega (arith, w.if-rows-most.false);
            counted = ap (λ b. c.bytes.rows + one_if b) (sym ends) ∙ on.counted;
            stands = stands;
          })
      | else-step w ↦
          let goes = ap (λ s. s.ends) (sym c.next_step-step.ensures) ∙ w.if-step.false in
          rw w.rows-is (record {
            low = omega arith;
            high = omega arith;
            few = inv.few;
            counted = sym (add-zero c.bytes.rows) ∙ ap (λ b. c.bytes.rows + one_if b) (sym goes) ∙ on.counted;
            stands = stands;
          })
    ]

pub returns : goal.returns
returns c =
    let bytes = c.args.bytes.now in
    let inv = c.bytes.invariant in
    let so : IsAt bytes c.args.from c.bytes.at c.bytes.rows c.bytes.place = record { low = inv.low; high = inv.high; counted = inv.counted; stands = inv.stands } in
    ends_last bytes c.args.from c.bytes.at c.bytes.rows c.args.count c.begun.result c.bytes.place c.is_quoted.result c.bytes-test.false so inv.few c.begun.ensures c.is_quoted.ensures
