use Rattle.std.proofs.Common.{◌≡◌, [], true, get_or, arith}
use Rattle.std.proofs.lemmas.List.{get_or_read}
use Rattle.std.specs.Cmp.Lexicographic.{pointwise}
use Rattle.std.specs.Prelude.{nat_eq}
use Rattle.sym_table.proofs.Firsts.{first_found, none_found}
use Rattle.sym_table.proofs.field_values.label.label_in.Goals as goal

pub returns-then-eq : goal.returns-then-eq
returns-then-eq c =
    let labels = c.args.labels.now in
    let i = c.labels.label in
    let text = c.args.text.now in
    let name = c.index-labels-label.result in
    let is : name ≡ get_or labels i [] = get_or_read labels i name c.labels-test.true c.index-labels-label.is [] in
    let bytes = c.as_bytes.ensures in
    let says = c.eq.ensures in
    let yes = c.if-eq.true in
    let here : pointwise nat_eq (get_or labels i []) text ≡ true = cc (is, bytes, says, yes) in
    first_found (λ n. pointwise nat_eq n text) labels i [] c.labels-test.true c.labels.invariant here

pub returns : goal.returns
returns c =
    none_found (λ n. pointwise nat_eq n c.args.text.now) c.args.labels.now c.labels.label [] (omega arith) c.labels.invariant
