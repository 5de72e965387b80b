-- Chains that are opened: their records are cut before those of the last segment.
use Rattle.std.proofs.Common.{◌≡◌, ◌≤◌, sym, subst, ℕ, List, [], ◌∷◌, ◌++◌, Result, length}
use Rattle.std.specs.Prelude.{IfOk}
use Rattle.std.proofs.lemmas.Result.{IfOk-weaker}
use Rattle.sym_base.specs.declared.values.record.Record.{Record}
use Rattle.sym_check.specs.Plan.ScriptPlans.{ScriptPlan}
use Rattle.sym_path.specs.declared.path.Path.{Path}
use Rattle.sym_path.specs.Standing.{StandsFor}
use Rattle.sym_run.specs.Chains.{SegmentsStandFor}
use Rattle.sym_run.specs.Extended.{AreExtended, AreExtendedBefore}
use Rattle.sym_run.specs.Opened.{OpenIsExtended, OpenStandsFor}
use Rattle.sym_run.specs.declared.opened.Open.{Open}
use Rattle.sym_run.proofs.ChainCuts.{cut_last}
use Rattle.sym_run.proofs.Extensions.{cut_extended}

-- What stands for the records of the segments before the last and then those of the last stands for
-- the records of all.
pub opened_stands : {E : Type 0} (p : ScriptPlan) (records : List Record) (segments before : List (List Path)) (last : List Path) (r : Result Open E) → segments ≡ before ++ last ∷ [] → SegmentsStandFor p records segments
    → ((first rest : List Record) → SegmentsStandFor p first before → StandsFor p rest last → IfOk r (OpenStandsFor p (first ++ rest))) → IfOk r (OpenStandsFor p records)
opened_stands p records segments before last r are stand opens =
    let cut = cut_last p records before last (subst (SegmentsStandFor p records) are stand) in
    IfOk-weaker r (OpenStandsFor p (cut.first ++ cut.rest)) (OpenStandsFor p records) (λ chain s. subst (λ (rs : List Record). OpenStandsFor p rs chain) (sym cut.all) s)
    (opens cut.first cut.rest cut.whole cut.last)

-- The same of what is extended by the records.
pub opened_extended : {E : Type 0} (p : ScriptPlan) (limit : ℕ) (records : List Record) (segments before : List (List Path)) (last : List Path) (r : Result Open E) → segments ≡ before ++ last ∷ [] → AreExtended p limit records segments
    → ((first rest : List Record) → 1 ≤ length rest → AreExtendedBefore p limit first rest before → StandsFor p rest last → IfOk r (OpenIsExtended p limit (first ++ rest))) → IfOk r (OpenIsExtended p limit records)
opened_extended p limit records segments before last r are extended opens =
    let cut = cut_extended p limit records before last (subst (AreExtended p limit records) are extended) in
    IfOk-weaker r (OpenIsExtended p limit (cut.first ++ cut.rest)) (OpenIsExtended p limit records) (λ chain s. subst (λ (rs : List Record). OpenIsExtended p limit rs chain) (sym cut.all) s)
    (opens cut.first cut.rest cut.some cut.before cut.after)
