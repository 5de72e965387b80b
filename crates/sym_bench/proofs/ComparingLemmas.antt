-- Records taken in both ways, round by round.
use Rattle.std.proofs.Common.{◌≡◌, ◌∙◌, ◌+◌, ◌*◌, ℕ, ap, refl, List, [], ◌++◌, length, length-append, sym, suc, add-one}
use Rattle.std.proofs.Math.Nat.{suc-mul}
use Rattle.sym_base.specs.declared.values.record.Record.{Record}
use Rattle.sym_base.specs.declared.values.state.Outcome.{Outcome}
use Rattle.sym_base.specs.declared.values.state.Outcome.TheVariants.{Going}
use Rattle.sym_check.specs.Plan.ScriptPlans.{ScriptPlan}
use Rattle.sym_check.specs.Meaning.Updates.{after, initial}
use Rattle.sym_check.proofs.PlanLaws.{after_append}
use Rattle.sym_bench.specs.declared.chain.Chain.{Chain}
use Rattle.sym_bench.specs.Chains.{IsChainOf}
use Rattle.sym_bench.specs.Comparing.{Agree}

-- So many records come to this outcome by steps, and to this chain.
pub record AreTaken (p : ScriptPlan) (count : ℕ) (outcome : Outcome) (chain : Chain) : Type 0 where
  pub records : List Record
  pub many : length records ≡ count
  pub by_steps : outcome ≡ after p records (Going (initial p))
  pub by_paths : IsChainOf p records chain

pub none_taken : (p : ScriptPlan) (outcome : Outcome) (chain : Chain) → outcome ≡ Going (initial p) → IsChainOf p [] chain → AreTaken p 0 outcome chain
none_taken p outcome chain is h = record { records = []; many = refl; by_steps = is; by_paths = h }

pub more_taken : (p : ScriptPlan) (count : ℕ) (outcome next : Outcome) (old new : Chain) (records : List Record) → AreTaken p count outcome old → next ≡ after p records outcome → ((before : List Record) → IsChainOf p before old → IsChainOf p (before ++ records) new) → AreTaken p (count + length records) next new
more_taken p count outcome next old new records h steps paths = record {
  records = h.records ++ records;
  many = length-append h.records records ∙ ap (λ n. n + length records) h.many;
  by_steps = steps ∙ ap (after p records) h.by_steps ∙ sym (after_append p h.records records (Going (initial p)));
  by_paths = paths h.records h.by_paths;
}

pub taken_agree : (p : ScriptPlan) (count : ℕ) (outcome explored : Outcome) (chain : Chain) → AreTaken p count outcome chain → ((rs : List Record) → IsChainOf p rs chain → explored ≡ after p rs (Going (initial p))) → Agree p count outcome explored
taken_agree p count outcome explored chain h leads = record {
  records = h.records;
  many = h.many;
  by_steps = h.by_steps;
  by_paths = leads h.records h.by_paths;
}

-- One round more.
pub round_more : (rounds n more : ℕ) → more ≡ n → rounds * n + more ≡ (rounds + 1) * n
round_more rounds n more same =
    ap (λ k. rounds * n + k) same ∙ sym (suc-mul rounds n) ∙ ap (λ k. k * n) (sym (add-one rounds))
