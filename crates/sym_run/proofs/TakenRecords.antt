-- Open chains that take on one record more.
use Rattle.std.proofs.Common.{◌≡◌, ◌≤◌, ◌∙◌, ap, sym, subst, arith, ℕ, max, List, [], ◌∷◌, ◌++◌, Result, Ok, Err, IfOk, length, length-append, map}
use Rattle.std.proofs.lemmas.List.{append_assoc, length-map}
use Rattle.sym_base.specs.declared.values.record.Record.{Record}
use Rattle.sym_check.specs.Meaning.PathBounds.{path_bound}
use Rattle.sym_check.specs.Plan.ScriptPlans.{ScriptPlan}
use Rattle.sym_known.specs.Holding.{AllFit, KnownPath, KnownStandsFor, stepped}
use Rattle.sym_path.specs.declared.path.Path.{Path}
use Rattle.sym_run.specs.Chains.{SegmentsStandFor}
use Rattle.sym_run.specs.Extended.{AreExtended}
use Rattle.sym_run.specs.Growing.{TakesOne}
use Rattle.sym_run.specs.Opened.{KeepsNone, KnownChainFits, KnownChainIsTight, OpenFits, OpenIsExtended, OpenIsTight, OpenStandsFor}
use Rattle.sym_run.specs.declared.opened.Open.{Open}
use Rattle.sym_run.specs.declared.opened.Open.TheVariants as opened
use Rattle.sym_run.proofs.Extensions.{extended_more}

-- Segments that cover a chain's records and one more are opened.
pub taken_explored : {E : Type 0} (p : ScriptPlan) (limit : ℕ) (rec : Record) (old : Open) (longer : List (List Path)) (r : Result Open E)
    → ((records : List Record) → OpenStandsFor p records old → SegmentsStandFor p (records ++ rec ∷ []) longer)
    → ((records : List Record) → OpenIsExtended p limit records old → AreExtended p limit (records ++ rec ∷ []) longer)
    → IfOk r (OpenFits p) → IfOk r (OpenIsTight p limit) → ((records : List Record) → SegmentsStandFor p records longer → IfOk r (OpenStandsFor p records)) → ((records : List Record) → AreExtended p limit records longer → IfOk r (OpenIsExtended p limit records))
    → IfOk r KeepsNone → IfOk r (TakesOne p limit rec old)
taken_explored p limit rec old longer (Ok new) grows goes_on fits tight stands extends none = record {
  fits = fits;
  tight = tight;
  stands = λ records h. stands (records ++ rec ∷ []) (grows records h);
  closed = λ before. none;
  extends = λ records h. extends (records ++ rec ∷ []) (goes_on records h);
}
taken_explored p limit rec old longer (Err e) grows goes_on fits tight stands extends none = tt

-- The states of known paths make the record's step.
pub taken_stepped : (p : ScriptPlan) (limit : ℕ) (rec : Record) (segments : List (List Path)) (old new : List KnownPath) → KnownChainFits p segments old → KnownChainIsTight p limit segments old
    → new ≡ map (stepped p rec) old → AllFit p new → ((records : List Record) → KnownStandsFor p records old → KnownStandsFor p (records ++ rec ∷ []) new)
    → TakesOne p limit rec (opened.Known segments old) (opened.Known segments new)
taken_stepped p limit rec segments old new fits tight is all steps = record {
  fits = record { before = fits.before; after = all };
  tight = record {
    before = tight.before;
    few = subst (λ (n : ℕ). n ≤ max limit (path_bound p)) (sym (ap length is ∙ length-map old (stepped p rec))) tight.few;
  };
  stands = λ records h. record {
    first = h.first;
    rest = h.rest ++ rec ∷ [];
    cut = ap (λ (rs : List Record). rs ++ rec ∷ []) h.cut ∙ append_assoc h.first h.rest (rec ∷ []);
    before = h.before;
    after = steps h.rest h.after;
  };
  closed = λ none. tt;
  extends = λ records h. record {
    first = h.first;
    rest = h.rest ++ rec ∷ [];
    cut = ap (λ (rs : List Record). rs ++ rec ∷ []) h.cut ∙ append_assoc h.first h.rest (rec ∷ []);
    some = omega (arith, length-append h.rest (rec ∷ []), h.some);
    before = extended_more p limit h.first h.rest (rec ∷ []) segments h.some h.before;
    after = steps h.rest h.after;
  };
}
