use Rattle.std.proofs.Common.{◌≡◌, true}
use Rattle.sym_check.specs.Checking.CheckedScripts.{checked_plan}
use Rattle.sym_check.specs.Meaning.Conditions.{test_truth}
use Rattle.sym_path.specs.Changing.{GoesOn}
use Rattle.sym_path.proofs.PairCounts.{ended, ended_pairs, going_pairs, none_follow, not_ended}
use Rattle.sym_path.proofs.pair_count.pairs_of.Goals as goal

pub returns-then-goes_on-clause-number : goal.returns-then-goes_on-clause-number
returns-then-goes_on-clause-number c =
    going_pairs (test_truth (checked_plan c.args.checked.now).tests) c.args.path.now c.args.others.now c.followers.result (not_ended c.args.path.now.end (c.goes_on.ensures.0 c.if-goes_on.true)) c.followers.ensures.number

pub returns-else-goes_on-clause-number : goal.returns-else-goes_on-clause-number
returns-else-goes_on-clause-number c =
    let f = c.if-goes_on.false in
    let none : GoesOn c.args.path.now.end → ⊥ = λ g. let t : c.goes_on.result ≡ true = c.goes_on.ensures.1 g in cc in
    ended_pairs (test_truth (checked_plan c.args.checked.now).tests) c.args.path.now c.args.others.now (ended c.args.path.now.end none) (none_follow (test_truth (checked_plan c.args.checked.now).tests) c.args.path.now none)
