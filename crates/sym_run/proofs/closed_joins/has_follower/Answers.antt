use Rattle.std.proofs.Common.{◌≡◌, ◌<◌, ℕ, true, Some, length, refl, arith}
use Rattle.std.proofs.lemmas.Option.{slice_get_read, slice_get_within}
use Rattle.std.specs.Prelude.{slice_get}
use Rattle.sym_check.specs.Checking.CheckedScripts.{checked_plan}
use Rattle.sym_check.specs.Meaning.Conditions.{test_truth}
use Rattle.sym_path.specs.Possible.{IsPossiblePair}
use Rattle.sym_path.specs.declared.path.Path.{Path}
use Rattle.sym_run.proofs.LawfulGroups.{one_further}
use Rattle.sym_run.proofs.closed_joins.has_follower.Goals as goal

pub others-preserved : goal.others-preserved
others-preserved c =
    let i : ℕ = c.others.next-index in
    let within : i < length c.args.others.now = omega arith in
    let at : slice_get c.args.others.now i ≡ Some c.next-item.result = slice_get_read c.args.others.now (length c.args.others.now) i c.next-item.result refl within c.next-item.is in
    let f = c.if-possible.false in
    one_further (λ (next : Path). IsPossiblePair (test_truth (checked_plan c.args.checked.now).tests) c.args.path.now next → ⊥) c.args.others.now i c.next-item.result at
    (λ h. let t : c.possible.result ≡ true = c.possible.ensures.1 h in cc) c.others.invariant

pub returns : goal.returns
returns c = λ e at next is.
    let near : at < length c.args.others.now = slice_get_within c.args.others.now at next is in
    c.others.invariant at next (omega (arith, near)) is
