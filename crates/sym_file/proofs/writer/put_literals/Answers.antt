use Rattle.std.proofs.Common.{◌≡◌, ◌∙◌, ◌++◌, ◌<◌, ◌≤◌, ◌^◌, ℕ, List, Some, None, ap, arith, append_assoc, codes, length, rules, sym}
use Rattle.std.specs.Option.{option_copied}
use Rattle.std.specs.Prelude.{slice_get}
use Rattle.sym_pred.specs.Literals.{literals}
use Rattle.sym_pred.specs.declared.literal.Literal.{Literal}
use Rattle.sym_file.specs.Stored.{IsStoredLiteral}
use Rattle.sym_file.specs.Texts.{literal_text}
use Rattle.sym_file.proofs.Appending.{appended_all, appended_at, nothing_at, stored_all}
use Rattle.sym_file.proofs.Made.{count_is}
use Rattle.sym_file.proofs.writer.put_literals.Goals.{in-Some+in_ok-put+in_ok-put-2, in_default}
use Rattle.sym_file.proofs.writer.put_literals.Goals as goal

pub literals-preserved : goal.literals-preserved
literals-preserved c = elim c.match-at.branch [
  | in-Some+in_ok-put+in_ok-put-2 w ↦
      let x : Literal = w.in-Some.literal.now in
      let there : slice_get (literals c.args.facts.now) c.literals.index ≡ Some x = sym c.at.ensures ∙ ap option_copied w.in-Some.is in
      rw w.out-is (appended_at (λ item. codes " " ++ literal_text item) IsStoredLiteral (literals c.args.facts.now) c.literals.index x c.args.out.now.items c.literals.out.items w.put-in-Some.new.out.items there
      (w.in_ok-put-2.ensures.text ∙ ap (λ (t : List ℕ). t ++ literal_text x) w.in_ok-put.ensures ∙ append_assoc c.literals.out.items (codes " ") (literal_text x)) w.in_ok-put-2.ensures.stored c.literals.invariant)
  | in_default w ↦
      let none : slice_get (literals c.args.facts.now) c.literals.index ≡ None = sym c.at.ensures ∙ ap option_copied w.in_default.is in
      let test = c.literals-test.true in
      let len = c.len-index-end.ensures in
      let count = count_is c.args.facts.now in
      absurd (nothing_at (literals c.args.facts.now) c.literals.index (omega (arith, test, len, count)) none)
]

pub returns-clause-text : goal.returns-clause-text
returns-clause-text c =
    let test = c.literals-test.false in
    let len = c.len-index-end.ensures in
    let count = count_is c.args.facts.now in
    let past : length (literals c.args.facts.now) ≤ c.literals.index = omega (arith, test, len, count) in
    appended_all (λ item. codes " " ++ literal_text item) IsStoredLiteral (literals c.args.facts.now) c.literals.index c.args.out.now.items c.literals.out.items past c.literals.invariant

pub returns-clause-stored : goal.returns-clause-stored
returns-clause-stored c =
    let test = c.literals-test.false in
    let len = c.len-index-end.ensures in
    let count = count_is c.args.facts.now in
    let past : length (literals c.args.facts.now) ≤ c.literals.index = omega (arith, test, len, count) in
    let small : c.len-index-end.result < 2 ^ 64 = search rules in
    let few : length (literals c.args.facts.now) < 2 ^ 64 = omega (arith, small, len, count) in
    stored_all (λ item. codes " " ++ literal_text item) IsStoredLiteral (literals c.args.facts.now) c.literals.index c.args.out.now.items c.literals.out.items past few c.literals.invariant
