use Rattle.std.proofs.Common.{◌≡◌, ◌<◌, ◌++◌, ◌∷◌, [], ℕ, List, length, take, sym, ◌∙◌, ap, arith, Some}
use Rattle.sym_base.specs.States.{cell_words}
use Rattle.sym_path.proofs.Given.{words_next}
use Rattle.sym_path.proofs.Lists.{no_gap}
use Rattle.sym_path.proofs.outcomes.words_of.Goals.{in-Some+in_ok-copy-in-Some+in_ok-push-in-Some, in-None}
use Rattle.sym_path.proofs.outcomes.words_of.Goals as goal

pub added-preserved : goal.added-preserved
added-preserved c = elim c.match-at.branch [
  | in-Some+in_ok-copy-in-Some+in_ok-push-in-Some w ↦
      let so_far : c.added.words ++ w.in_ok-copy-in-Some.field-0 ∷ [] ≡ (cell_words (Some c.args.old) ++ take c.added.index c.args.added.now) ++ w.in_ok-copy-in-Some.field-0 ∷ [] = ap (λ (ts : List (List ℕ)). ts ++ w.in_ok-copy-in-Some.field-0 ∷ []) c.added.invariant in
      let value : (cell_words (Some c.args.old) ++ take c.added.index c.args.added.now) ++ w.in_ok-copy-in-Some.field-0 ∷ [] ≡ (cell_words (Some c.args.old) ++ take c.added.index c.args.added.now) ++ w.in-Some.word.now ∷ [] = ap (λ (t : List ℕ). (cell_words (Some c.args.old) ++ take c.added.index c.args.added.now) ++ t ∷ []) w.in_ok-copy-in-Some.ensures in
      w.words-is ∙ w.in_ok-push-in-Some.ensures.ok ∙ so_far ∙ value ∙ words_next (cell_words (Some c.args.old)) c.args.added.now c.added.index w.in-Some.word.now (sym w.in-Some.ensures)
  | in-None w ↦
      let within : c.added.index < length c.args.added.now = omega (arith, c.len-index-end.ensures, c.added-test.true) in
      absurd (no_gap c.args.added.now c.added.index within (sym w.in-None.ensures))
]
