use Rattle.std.proofs.Common.{List, drop}
use Rattle.sym_base.specs.declared.values.record.Record.{Record}
use Rattle.sym_base.specs.declared.values.state.Outcome.TheVariants.{Going}
use Rattle.sym_check.specs.Checking.CheckedScripts.{checked_plan}
use Rattle.sym_check.specs.Meaning.Updates.{after, initial}
use Rattle.sym_check.specs.Meaning.Validity.{IsValidOutcome}
use Rattle.sym_bench.specs.Chains.{IsChainOf}
use Rattle.sym_bench.proofs.ChainLemmas.{IsLed}
use Rattle.sym_bench.proofs.chain.outcome_of.Given as goal

abbrev pub invariant-segments : goal.invariant-segments
invariant-segments l =
    let p = checked_plan l.checked in
    record {
      valid : IsValidOutcome p l.outcome;
      led : (records : List Record) (h : IsChainOf p records l.chain) → IsLed p (drop l.segment-index l.chain.whole.items) l.outcome (after p h.first (Going (initial p)));
    }
