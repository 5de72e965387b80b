use Rattle.std.proofs.Common.{◌≡◌, ◌+◌, ◌++◌, ◌∷◌, [], ℕ, Bool, true, List, cond, take, sym, ap, ◌∙◌, subst}
use Rattle.std.proofs.lemmas.List.{append-nil}
use Rattle.sym_path.specs.declared.path.Path.{Path}
use Rattle.sym_explore.specs.Limiting.{AreInTurn, chosen}
use Rattle.sym_explore.specs.declared.path_limits.Turn.{Turn}
use Rattle.sym_explore.proofs.Limited.{chosen_next}
use Rattle.sym_explore.proofs.path_limits.turn_of_ended.Goals.{then-is_chosen+in_ok-turn, else-is_chosen}
use Rattle.sym_explore.proofs.path_limits.turn_of_ended.Goals as goal

pub paths-preserved : goal.paths-preserved
paths-preserved c =
    let paths : List Path = c.args.paths.now in
    let i : ℕ = c.paths.path-index in
    let path : Path = c.path-item.result in
    let so_far : List Path = chosen true (take i paths) in
    let one : Bool → List Path = λ (b : Bool). so_far ++ cond b (path ∷ []) [] in
    let next : chosen true (take (i + 1) paths) ≡ one c.is_chosen.result = chosen_next true paths i path c.is_chosen.result c.paths-test.true c.path-item.is c.is_chosen.ensures in
    elim c.if-is_chosen.branch [
      | then-is_chosen+in_ok-turn w ↦
          let is : chosen true (take (i + 1) paths) ≡ so_far ++ path ∷ [] = next ∙ ap one w.if-is_chosen.true in
          subst (λ (t : Turn). AreInTurn t (chosen true (take (i + 1) paths))) (sym w.turn-is)
          (subst (λ (ps : List Path). AreInTurn w.in_ok-turn.turn ps) (sym is) (w.in_ok-turn.ensures so_far c.paths.invariant))
      | else-is_chosen w ↦
          let is : chosen true (take (i + 1) paths) ≡ so_far = next ∙ ap one w.if-is_chosen.false ∙ append-nil so_far in
          subst (λ (t : Turn). AreInTurn t (chosen true (take (i + 1) paths))) (sym w.turn-is)
          (subst (λ (ps : List Path). AreInTurn c.paths.turn ps) (sym is) c.paths.invariant)
    ]
