use Rattle.std.proofs.Common.{◌≡◌, ◌<◌, ◌∷◌, [], ◌∙◌, ℕ, List, Some, length, refl, sym, ap, subst, arith}
use Rattle.std.proofs.lemmas.Option.{slice_get_read}
use Rattle.std.specs.Prelude.{slice_get}
use Rattle.sym_base.specs.Tests.{Truth}
use Rattle.sym_check.specs.Checking.CheckedScripts.{checked_plan}
use Rattle.sym_check.specs.Meaning.Conditions.{test_truth}
use Rattle.sym_path.specs.Pairs.{ArePairs}
use Rattle.sym_path.specs.declared.path.Path.{Path}
use Rattle.sym_path.proofs.PairCounts.{pairs_more}
use Rattle.sym_path.proofs.pair_count.pairs.Goals as goal

pub paths-preserved : goal.paths-preserved
paths-preserved c =
    let truth : Truth = test_truth (checked_plan c.args.checked.now).tests in
    let i : ℕ = c.paths.path-index in
    let path : Path = c.path-item.result in
    let items : List Path = c.paths-path-items.result.now in
    let within : i < length items = omega arith in
    let here : slice_get items i ≡ Some path = slice_get_read items (length items) i path refl within c.path-item.is in
    let at : slice_get c.args.left.now i ≡ Some path = ap (λ (ps : List Path). slice_get ps i) (sym c.paths-path-items.ensures) ∙ here in
    let one : ArePairs truth (path ∷ []) c.args.right.now c.pairs_of-count.result = subst (λ (ps : List Path). ArePairs truth (path ∷ []) ps c.pairs_of-count.result) c.paths-in-paths.ensures c.pairs_of-count.ensures.number in
    let few = c.paths.invariant.few in
    let more = c.pairs_of-count.ensures.few in
    record {
      number = pairs_more truth c.args.left.now c.args.right.now i path c.paths.count c.pairs_of-count.result at c.paths.invariant.number one;
      few = omega (arith, few, more);
    }
