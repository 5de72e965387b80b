use Rattle.std.proofs.Common.{◌∙◌, ◌<◌, Some, ap, arith, length, refl, sym}
use Rattle.sym_file.proofs.Fronts.{after_short, compared_all, compared_apart, compared_more, whole_rest}
use Rattle.sym_file.proofs.numbers.rest_after.Goals as goal

pub returns-then-bytes-text : goal.returns-then-bytes-text
returns-then-bytes-text c = sym (after_short c.args.text.now c.args.bytes.now c.if-bytes-text.true)

pub compared-init : goal.compared-init
compared-init c = record { within = omega arith; same = refl }

pub returns-then-text-index : goal.returns-then-text-index
returns-then-text-index c =
    let within : c.compared.index < length c.args.bytes.now = omega (arith, c.compared-test.true, c.if-bytes-text.false) in
    sym (compared_apart c.args.text.now c.args.bytes.now c.compared.index c.compared.invariant c.compared-test.true within c.if-text-index.true)

pub compared-preserved : goal.compared-preserved
compared-preserved c =
    let within : c.compared.index < length c.args.bytes.now = omega (arith, c.compared-test.true, c.if-bytes-text.false) in
    compared_more c.args.text.now c.args.bytes.now c.compared.index c.compared.invariant c.compared-test.true within c.if-text-index.false

pub returns : goal.returns
returns c =
    sym (compared_all c.args.text.now c.args.bytes.now c.compared.index c.compared.invariant c.compared-test.false
    ∙ ap Some (sym (whole_rest c.args.bytes.now c.compared.index)))
