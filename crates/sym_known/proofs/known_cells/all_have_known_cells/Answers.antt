use Rattle.std.proofs.Common.{◌≡◌, List, Some, length, refl, sym, subst, take, All}
use Rattle.std.proofs.lemmas.List.{take_all}
use Rattle.std.proofs.lemmas.List.Elements.{All-push}
use Rattle.std.proofs.lemmas.Option.{slice_get_read}
use Rattle.std.specs.Prelude.{slice_get}
use Rattle.sym_path.specs.declared.path.Path.{Path}
use Rattle.sym_path.proofs.Lists.{all_at, take_get}
use Rattle.sym_known.specs.Knowing.{HasKnownCells}
use Rattle.sym_known.proofs.known_cells.all_have_known_cells.Goals as goal

pub paths-preserved : goal.paths-preserved
paths-preserved c =
    let K : Path → Type 0 = λ path. HasKnownCells path.end in
    let paths : List Path = c.args.paths.now in
    let at : slice_get paths c.paths.path-index ≡ Some c.path-item.result = slice_get_read paths (length paths) c.paths.path-index c.path-item.result refl c.paths-test.true c.path-item.is in
    subst (λ (ps : List Path). All K ps) (sym (take_get paths c.paths.path-index c.path-item.result at))
    (All-push K (take c.paths.path-index paths) c.path-item.result c.paths.invariant (c.has_known_cells.ensures.0 c.if-not-has_known_cells.false))

pub returns-then-not-has_known_cells : goal.returns-then-not-has_known_cells
returns-then-not-has_known_cells c =
    let K : Path → Type 0 = λ path. HasKnownCells path.end in
    let paths : List Path = c.args.paths.now in
    let at : slice_get paths c.paths.path-index ≡ Some c.path-item.result = slice_get_read paths (length paths) c.paths.path-index c.path-item.result refl c.paths-test.true c.path-item.is in
    (λ e. absurd (cc), λ all. let known = c.has_known_cells.ensures.1 (all_at K paths c.paths.path-index c.path-item.result all at) in let none = c.if-not-has_known_cells.true in cc)

pub returns : goal.returns
returns c = (λ e. subst (λ (ps : List Path). All (λ (path : Path). HasKnownCells path.end) ps) (take_all c.paths.path-index c.args.paths.now c.paths-test.false) c.paths.invariant, λ all. refl)
