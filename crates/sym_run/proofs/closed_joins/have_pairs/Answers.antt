use Rattle.std.proofs.Common.{◌≡◌, ◌<◌, ◌∙◌, ℕ, List, Some, length, refl, sym, ap, subst, arith}
use Rattle.std.proofs.lemmas.Option.{slice_get_read, slice_get_within}
use Rattle.std.specs.Prelude.{slice_get}
use Rattle.sym_base.specs.Tests.{Truth}
use Rattle.sym_check.specs.Checking.CheckedScripts.{checked_plan}
use Rattle.sym_check.specs.Meaning.Conditions.{test_truth}
use Rattle.sym_path.specs.Changing.{GoesOn}
use Rattle.sym_path.specs.declared.path.Path.{Path}
use Rattle.sym_run.specs.ClosedJoins.{HasNoFollower}
use Rattle.sym_run.proofs.LawfulGroups.{one_further}
use Rattle.sym_run.proofs.closed_joins.have_pairs.Goals as goal

pub paths-preserved : goal.paths-preserved
paths-preserved c =
    let truth : Truth = test_truth (checked_plan c.args.checked.now).tests in
    let i : ℕ = c.paths.path-index in
    let path : Path = c.path-item.result in
    let items : List Path = c.paths-path-items.result.now in
    let within : i < length items = omega arith in
    let here : slice_get items i ≡ Some path = slice_get_read items (length items) i path refl within c.path-item.is in
    let at : slice_get c.args.left.now i ≡ Some path = ap (λ (ps : List Path). slice_get ps i) (sym c.paths-path-items.ensures) ∙ here in
    let none : HasNoFollower truth path c.args.right.now = subst (λ (ps : List Path). HasNoFollower truth path ps) c.paths-in-paths.ensures (c.has_follower.ensures c.if-has_follower.false) in
    one_further (λ (path : Path). GoesOn path.end × HasNoFollower truth path c.args.right.now) c.args.left.now i path at (c.goes_on.ensures.0 c.if-not-goes_on.false, none) c.paths.invariant

pub returns : goal.returns
returns c = λ e at path is.
    let near : at < length c.args.left.now = slice_get_within c.args.left.now at path is in
    let same = ap (λ (ps : List Path). length ps) c.paths-path-items.ensures in
    c.paths.invariant at path (omega (arith, near, same)) is
