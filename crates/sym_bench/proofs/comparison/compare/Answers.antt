use Rattle.std.proofs.Common.{◌≡◌, ◌*◌, ◌+◌, ℕ, length, arith, subst}
use Rattle.sym_check.specs.Checking.CheckedScripts.{checked_plan}
use Rattle.sym_bench.proofs.ComparingLemmas.{AreTaken, more_taken, round_more}
use Rattle.sym_bench.proofs.comparison.compare.Goals as goal

pub rounds-preserved : goal.rounds-preserved
rounds-preserved g c =
    let p = checked_plan c.args.checked.now in
    let n = length c.args.records.now in
    let long : length c.number.new.records ≡ n = omega (arith, c.number.auto.records, c.rounds.invariant.long) in
    record {
      fit = c.number.ensures p c.rounds.invariant.fit;
      long = long;
      taken = subst (λ (k : ℕ). AreTaken p k c.in_ok-outcome.outcome c.in_ok-chain.chain) (round_more c.rounds.round n (length c.number.new.records) long)
          (more_taken p (c.rounds.round * n) c.rounds.outcome c.in_ok-outcome.outcome c.rounds.chain c.in_ok-chain.chain c.number.new.records c.rounds.invariant.taken c.in_ok-outcome.ensures c.in_ok-chain.ensures);
    }
