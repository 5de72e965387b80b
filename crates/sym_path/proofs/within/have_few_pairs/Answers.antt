use Rattle.std.proofs.Common.{◌≡◌, ◌<◌, ◌+◌, ◌-◌, ◌∷◌, [], ◌∙◌, ℕ, List, Some, length, refl, sym, ap, subst, arith}
use Rattle.std.proofs.lemmas.Option.{slice_get_read}
use Rattle.std.specs.Prelude.{slice_get}
use Rattle.sym_base.specs.Tests.{Truth}
use Rattle.sym_check.specs.Checking.CheckedScripts.{checked_plan}
use Rattle.sym_check.specs.Meaning.Conditions.{test_truth}
use Rattle.sym_path.specs.Pairs.{ArePairs}
use Rattle.sym_path.specs.Within.{HavePairs}
use Rattle.sym_path.specs.declared.path.Path.{Path}
use Rattle.sym_path.proofs.PairCounts.{pairs_more}
use Rattle.sym_path.proofs.PairsWithin.{more_found}
use Rattle.sym_path.proofs.within.have_few_pairs.Goals as goal

pub returns-in-None : goal.returns-in-None
returns-in-None c =
    let truth : Truth = test_truth (checked_plan c.args.checked.now).tests in
    let i : ℕ = c.paths.path-index in
    let path : Path = c.path-item.result in
    let items : List Path = c.paths-path-items.result.now in
    let within : i < length items = omega arith in
    let here : slice_get items i ≡ Some path = slice_get_read items (length items) i path refl within c.path-item.is in
    let at : slice_get c.args.left.now i ≡ Some path = ap (λ (ps : List Path). slice_get ps i) (sym c.paths-path-items.ensures) ∙ here in
    let most : ℕ = (c.args.limit - c.paths.count) + 1 in
    let more : HavePairs truth (path ∷ []) c.args.right.now most = subst (λ (ps : List Path). HavePairs truth (path ∷ []) ps most) c.paths-in-paths.ensures c.in-None.ensures in
    more_found truth c.args.left.now c.args.right.now i c.paths.count c.args.limit path at c.paths.invariant.few c.paths.invariant.number more

pub paths-preserved : goal.paths-preserved
paths-preserved c =
    let truth : Truth = test_truth (checked_plan c.args.checked.now).tests in
    let i : ℕ = c.paths.path-index in
    let path : Path = c.path-item.result in
    let items : List Path = c.paths-path-items.result.now in
    let within : i < length items = omega arith in
    let here : slice_get items i ≡ Some path = slice_get_read items (length items) i path refl within c.path-item.is in
    let at : slice_get c.args.left.now i ≡ Some path = ap (λ (ps : List Path). slice_get ps i) (sym c.paths-path-items.ensures) ∙ here in
    let one : ArePairs truth (path ∷ []) c.args.right.now c.in-Some.more = subst (λ (ps : List Path). ArePairs truth (path ∷ []) ps c.in-Some.more) c.paths-in-paths.ensures c.in-Some.ensures.0 in
    let few = c.paths.invariant.few in
    let more = c.in-Some.ensures.1 in
    record {
      number = pairs_more truth c.args.left.now c.args.right.now i path c.paths.count c.in-Some.more at c.paths.invariant.number one;
      few = omega (arith, few, more);
    }
