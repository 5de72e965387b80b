use Rattle.std.proofs.Common.{◌≡◌, ◌++◌, ◌∷◌, [], ℕ, List, Some, length, take, refl, sym, ap, ◌∙◌, subst, append_assoc}
use Rattle.std.proofs.lemmas.List.{take_all}
use Rattle.std.proofs.lemmas.Option.{slice_get_read}
use Rattle.std.specs.Prelude.{slice_get}
use Rattle.sym_path.specs.declared.path.Path.{Path}
use Rattle.sym_path.proofs.Lists.{take_get}
use Rattle.sym_explore.specs.Limiting.{AreInTurn}
use Rattle.sym_explore.proofs.path_limits.turn_after.Goals as goal

pub paths-preserved : goal.paths-preserved
paths-preserved c = λ before h.
    let paths : List Path = c.args.paths.now in
    let i : ℕ = c.paths.path-index in
    let path : Path = c.path-item.result in
    let so_far : List Path = before ++ take i paths in
    let at : slice_get paths i ≡ Some path = slice_get_read paths (length paths) i path refl c.paths-test.true c.path-item.is in
    let more : AreInTurn c.in_ok-turn.turn (so_far ++ path ∷ []) = c.in_ok-turn.ensures so_far (c.paths.invariant before h) in
    subst (λ (ps : List Path). AreInTurn c.in_ok-turn.turn ps)
    (append_assoc before (take i paths) (path ∷ []) ∙ ap (λ (ps : List Path). before ++ ps) (sym (take_get paths i path at)))
    more

pub returns : goal.returns
returns c = λ before h.
    subst (λ (ps : List Path). AreInTurn c.paths.turn (before ++ ps))
    (take_all c.paths.path-index c.args.paths.now c.paths-test.false)
    (c.paths.invariant before h)
