-- The chains of a lawful saved run fit the script.
use Rattle.std.proofs.Common.{subst, sym}
use Rattle.std.proofs.lemmas.List.Elements.{All-nil}
use Rattle.std.specs.List.{All}
use Rattle.sym_check.specs.Meaning.Validity.{IsRecord}
use Rattle.sym_check.specs.Plan.ScriptPlans.{ScriptPlan}
use Rattle.sym_run.specs.Runs.{GroupsFit}
use Rattle.sym_run.specs.SavedRuns.{IsLawfulSaved}
use Rattle.sym_run.specs.declared.saved.Saved.{Saved}

pub lawful_fit : (p : ScriptPlan) (saved : Saved) → IsLawfulSaved p saved → GroupsFit p saved.groups
lawful_fit p saved h = λ k d near.
    let chain = (h.each k d near).chain in
    record {
      segments = λ j e there. λ i f here. ((chain.each j e there).each i f here).fits;
      kept = subst (All (IsRecord p)) (sym chain.closed) (All-nil (IsRecord p));
    }
