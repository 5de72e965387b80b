use Rattle.std.proofs.Common.{◌≡◌, ◌<◌, ◌++◌, ◌∷◌, [], ℤ, List, length, map, take, sym, ◌∙◌, ap, arith, rules, Some, to_z, of_z, w64}
use Rattle.std.proofs.lemmas.Int.{to_z-of_z}
use mir.Val.{SFits}
use Rattle.sym_base.specs.States.{cell_nums}
use Rattle.sym_int.specs.Lines.{form_value}
use Rattle.sym_path.proofs.Given.{added_next}
use Rattle.sym_path.proofs.Lists.{no_gap}
use Rattle.sym_path.proofs.outcomes.numbers_after.Goals.{in-Some+in_ok-push-in-Some, in-None}
use Rattle.sym_path.proofs.outcomes.numbers_after.Goals as goal

pub added-preserved : goal.added-preserved
added-preserved c = elim c.match-at.branch [
  | in-Some+in_ok-push-in-Some w ↦
      let fits : SFits w64 w.value.result = search rules in
      let shown : to_z w64 (of_z w64 w.value.result) ≡ w.value.result = to_z-of_z w64 w.value.result fits in
      let pushed : w.push.new.self ≡ c.added.numbers ++ w.value.result ∷ [] = rw shown at w.in_ok-push-in-Some.ensures.ok in
      let so_far : c.added.numbers ++ w.value.result ∷ [] ≡ (cell_nums (Some c.args.old) ++ map (λ f. form_value f c.args.state.now) (take c.added.index c.args.added.now)) ++ w.value.result ∷ [] = ap (λ (ns : List ℤ). ns ++ w.value.result ∷ []) c.added.invariant in
      let value : (cell_nums (Some c.args.old) ++ map (λ f. form_value f c.args.state.now) (take c.added.index c.args.added.now)) ++ w.value.result ∷ [] ≡ (cell_nums (Some c.args.old) ++ map (λ f. form_value f c.args.state.now) (take c.added.index c.args.added.now)) ++ form_value w.in-Some.form.now c.args.state.now ∷ [] = ap (λ (v : ℤ). (cell_nums (Some c.args.old) ++ map (λ f. form_value f c.args.state.now) (take c.added.index c.args.added.now)) ++ v ∷ []) w.value.ensures in
      w.numbers-is ∙ pushed ∙ so_far ∙ value ∙ added_next (λ f. form_value f c.args.state.now) (cell_nums (Some c.args.old)) c.args.added.now c.added.index w.in-Some.form.now (sym w.in-Some.ensures)
  | in-None w ↦
      let within : c.added.index < length c.args.added.now = omega (arith, c.len-index-end.ensures, c.added-test.true) in
      absurd (no_gap c.args.added.now c.added.index within (sym w.in-None.ensures))
]
