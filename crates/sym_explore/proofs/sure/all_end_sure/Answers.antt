use Rattle.std.proofs.Common.{◌≡◌, List, Some, length, refl, sym, subst, take, All}
use Rattle.std.proofs.lemmas.List.{take_all}
use Rattle.std.proofs.lemmas.List.Elements.{All-push}
use Rattle.std.proofs.lemmas.Option.{slice_get_read}
use Rattle.std.specs.Prelude.{slice_get}
use Rattle.sym_path.specs.declared.path.Path.{Path}
use Rattle.sym_path.proofs.Lists.{take_get}
use Rattle.sym_explore.specs.Sure.{IsSureEnd}
use Rattle.sym_explore.proofs.sure.all_end_sure.Goals as goal

pub paths-preserved : goal.paths-preserved
paths-preserved c =
    let E : Path → Type 0 = λ path. IsSureEnd path.end in
    let paths : List Path = c.args.paths.now in
    let at : slice_get paths c.paths.path-index ≡ Some c.path-item.result = slice_get_read paths (length paths) c.paths.path-index c.path-item.result refl c.paths-test.true c.path-item.is in
    subst (λ (ps : List Path). All E ps) (sym (take_get paths c.paths.path-index c.path-item.result at))
    (All-push E (take c.paths.path-index paths) c.path-item.result c.paths.invariant (c.ends_sure.ensures c.if-not-ends_sure.false))

pub returns : goal.returns
returns c = λ e.
    subst (λ (ps : List Path). All (λ (path : Path). IsSureEnd path.end) ps) (take_all c.paths.path-index c.args.paths.now c.paths-test.false) c.paths.invariant
