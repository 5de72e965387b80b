use Rattle.std.proofs.Common.{◌≡◌, ◌+◌, ℕ, List, ◌∷◌, [], true, subst, arith}
use Rattle.sym_base.specs.Tests.{Truth}
use Rattle.sym_check.specs.Checking.CheckedScripts.{checked_plan}
use Rattle.sym_check.specs.Meaning.Conditions.{test_truth}
use Rattle.sym_path.specs.Changing.{GoesOn}
use Rattle.sym_path.specs.Pairs.{ArePairs}
use Rattle.sym_path.specs.Within.{HavePairs}
use Rattle.sym_path.specs.declared.path.Path.{Path}
use Rattle.sym_path.proofs.PairCounts.{ended, ended_pairs, none_follow, not_ended}
use Rattle.sym_path.proofs.PairsWithin.{are_found, going_within}
use Rattle.sym_path.proofs.within.pairs_of_within.Goals as goal

pub returns-then-goes_on : goal.returns-then-goes_on
returns-then-goes_on c =
    going_within (test_truth (checked_plan c.args.checked.now).tests) c.args.path.now c.args.others.now c.args.most c.followers_within.result (not_ended c.args.path.now.end (c.goes_on.ensures.0 c.if-goes_on.true)) c.followers_within.ensures

one_pair : (truth : Truth) (path : Path) (others : List Path) → (GoesOn path.end → ⊥) → ArePairs truth (path ∷ []) others 1
one_pair truth path others none = ended_pairs truth path others (ended path.end none) (none_follow truth path none)

pub returns-then-most-eq0 : goal.returns-then-most-eq0
returns-then-most-eq0 c =
    let f = c.if-goes_on.false in
    let none : GoesOn c.args.path.now.end → ⊥ = λ g. let t : c.goes_on.result ≡ true = c.goes_on.ensures.1 g in cc in
    let truth : Truth = test_truth (checked_plan c.args.checked.now).tests in
    let one : 1 ≡ c.args.most + 1 = omega arith in
    subst (λ (n : ℕ). HavePairs truth (c.args.path.now ∷ []) c.args.others.now n) one
    (are_found truth (c.args.path.now ∷ []) c.args.others.now 1 (one_pair truth c.args.path.now c.args.others.now none))

pub returns-else-most-eq0 : goal.returns-else-most-eq0
returns-else-most-eq0 c =
    let f = c.if-goes_on.false in
    let none : GoesOn c.args.path.now.end → ⊥ = λ g. let t : c.goes_on.result ≡ true = c.goes_on.ensures.1 g in cc in
    (one_pair (test_truth (checked_plan c.args.checked.now).tests) c.args.path.now c.args.others.now none, omega arith)
