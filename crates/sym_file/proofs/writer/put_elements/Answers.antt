use Rattle.std.proofs.Common.{◌≡◌, ◌∙◌, ◌++◌, ◌<◌, ◌≤◌, ◌^◌, ℕ, List, Some, None, ap, arith, append_assoc, codes, length, rules, sym}
use Rattle.std.specs.Option.{option_copied}
use Rattle.std.specs.Prelude.{slice_get}
use Rattle.sym_file.proofs.Appending.{appended_at, nothing_at, stored_all}
use Rattle.sym_file.proofs.writer.put_elements.Goals.{in-Some+in_ok-put+in_ok-put-2, in_default}
use Rattle.sym_file.proofs.writer.put_elements.Goals as goal

pub elements-preserved : goal.elements-preserved
elements-preserved g c = elim c.match-at.branch [
  | in-Some+in_ok-put+in_ok-put-2 w ↦
      let x = w.in-Some.element.now in
      let there : slice_get c.args.form.now c.elements.index ≡ Some x = sym c.at.ensures ∙ ap option_copied w.in-Some.is in
      rw w.out-is (appended_at (λ item. codes " " ++ g.E.Item.text item) g.E.Item.stored c.args.form.now c.elements.index x c.args.out.now.items c.elements.out.items w.put-in-Some.new.out.items there
      (w.in_ok-put-2.ensures.text ∙ ap (λ (t : List ℕ). t ++ g.E.Item.text x) w.in_ok-put.ensures ∙ append_assoc c.elements.out.items (codes " ") (g.E.Item.text x)) w.in_ok-put-2.ensures.stored c.elements.invariant)
  | in_default w ↦
      let none : slice_get c.args.form.now c.elements.index ≡ None = sym c.at.ensures ∙ ap option_copied w.in_default.is in
      let test = c.elements-test.true in
      let len = c.len-index-end.ensures in
      absurd (nothing_at c.args.form.now c.elements.index (omega (arith, test, len)) none)
]

pub returns-clause-stored : goal.returns-clause-stored
returns-clause-stored g c =
    let test = c.elements-test.false in
    let len = c.len-index-end.ensures in
    let past : length c.args.form.now ≤ c.elements.index = omega (arith, test, len) in
    let small : c.len-index-end.result < 2 ^ 64 = search rules in
    let few : length c.args.form.now < 2 ^ 64 = omega (arith, small, len) in
    stored_all (λ item. codes " " ++ g.E.Item.text item) g.E.Item.stored c.args.form.now c.elements.index c.args.out.now.items c.elements.out.items past few c.elements.invariant
