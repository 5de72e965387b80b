use Rattle.std.proofs.Common.{◌≡◌, true, false, List, Some, length, refl, sym, subst, take, All, arith}
use Rattle.std.proofs.lemmas.List.Elements.{All-push}
use Rattle.std.proofs.lemmas.Option.{slice_get_read}
use Rattle.std.specs.Prelude.{slice_get}
use Rattle.sym_path.specs.Changing.{GoesOn}
use Rattle.sym_path.specs.declared.path.Path.{Path}
use Rattle.sym_path.proofs.Lists.{take_get}
use Rattle.sym_explore.proofs.ended_paths.first_ended.Goals as goal

pub paths-preserved : goal.paths-preserved
paths-preserved c =
    let E : Path → Type 0 = λ path. ¬ (GoesOn path.end) in
    let paths : List Path = c.args.paths.now in
    let path : Path = c.path-item.result in
    let at : slice_get paths c.paths.path-index ≡ Some path = slice_get_read paths (length paths) c.paths.path-index path refl c.paths-test.true c.path-item.is in
    let over : ¬ (GoesOn path.end) = λ g. let t : c.goes_on.result ≡ true = c.goes_on.ensures.1 g in let f : c.goes_on.result ≡ false = c.if-goes_on.false in cc in
    record {
      counted = omega (arith, c.paths.invariant.counted);
      ended = subst (λ (ps : List Path). All E ps) (sym (take_get paths c.paths.path-index path at)) (All-push E (take c.paths.path-index paths) path c.paths.invariant.ended over);
    }
