-- Chains whose records are cut before those of the last segment.
use Rattle.std.proofs.Common.{◌≡◌, ◌∙◌, ap, sym, refl, subst, List, [], ◌∷◌, ◌++◌}
use Rattle.std.proofs.lemmas.List.{append_assoc, append-nil}
use Rattle.sym_base.specs.declared.values.record.Record.{Record}
use Rattle.sym_check.specs.Plan.ScriptPlans.{ScriptPlan}
use Rattle.sym_path.specs.declared.path.Path.{Path}
use Rattle.sym_path.specs.Standing.{StandsFor}
use Rattle.sym_run.specs.Chains.{SegmentsStandFor}

-- The segments stand for the first records, and one more for the rest.
pub record IsCut (p : ScriptPlan) (records : List Record) (segments : List (List Path)) (segment : List Path) : Type 0 where
  pub first : List Record
  pub rest : List Record
  pub all : records ≡ first ++ rest
  pub whole : SegmentsStandFor p first segments
  pub last : StandsFor p rest segment

pub cut_of : (p : ScriptPlan) (first rest : List Record) (segments : List (List Path)) (segment : List Path) → SegmentsStandFor p first segments → StandsFor p rest segment → IsCut p (first ++ rest) segments segment
cut_of p first rest segments segment whole last = record { first = first; rest = rest; all = refl; whole = whole; last = last }

-- A segment more stands for more records.
chain_push : (p : ScriptPlan) (records : List Record) (segments : List (List Path)) (more : List Record) (segment : List Path) → SegmentsStandFor p records segments → StandsFor p more segment → SegmentsStandFor p (records ++ more) (segments ++ segment ∷ [])
chain_push p records [] more segment h s = (more, [], ap (λ (rs : List Record). rs ++ more) h ∙ sym (append-nil more), s, refl)
chain_push p records (first ∷ segments) more segment h s =
    (h.0, h.1 ++ more, ap (λ (rs : List Record). rs ++ more) h.2 ∙ append_assoc h.0 h.1 more, h.3, chain_push p h.1 segments more segment h.4 s)

pub cut_whole : (p : ScriptPlan) (records : List Record) (segments : List (List Path)) (segment : List Path) → IsCut p records segments segment → SegmentsStandFor p records (segments ++ segment ∷ [])
cut_whole p records segments segment h =
    subst (λ (rs : List Record). SegmentsStandFor p rs (segments ++ segment ∷ [])) (sym h.all) (chain_push p h.first segments h.rest segment h.whole h.last)

-- The last segment of a chain stands for the last records.
pub cut_last : (p : ScriptPlan) (records : List Record) (segments : List (List Path)) (segment : List Path) → SegmentsStandFor p records (segments ++ segment ∷ []) → IsCut p records segments segment
cut_last p records [] segment h = record {
  first = [];
  rest = h.0;
  all = h.2 ∙ ap (λ (rs : List Record). h.0 ++ rs) h.4 ∙ append-nil h.0;
  whole = refl;
  last = h.3;
}
cut_last p records (first ∷ segments) segment h =
    let t = cut_last p h.1 segments segment h.4 in
    record {
      first = h.0 ++ t.first;
      rest = t.rest;
      all = h.2 ∙ ap (λ (rs : List Record). h.0 ++ rs) t.all ∙ sym (append_assoc h.0 t.first t.rest);
      whole = (h.0, t.first, refl, h.3, t.whole);
      last = t.last;
    }

-- The last two segments in one.
pub cut_composed : (p : ScriptPlan) (records : List Record) (segments : List (List Path)) (left right both : List Path) → IsCut p records (segments ++ left ∷ []) right
    → ((first rest : List Record) → StandsFor p first left → StandsFor p rest right → StandsFor p (first ++ rest) both) → IsCut p records segments both
cut_composed p records segments left right both h composed =
    let t = cut_last p h.first segments left h.whole in
    record {
      first = t.first;
      rest = t.rest ++ h.rest;
      all = h.all ∙ ap (λ (rs : List Record). rs ++ h.rest) t.all ∙ append_assoc t.first t.rest h.rest;
      whole = t.whole;
      last = composed t.rest h.rest t.last h.last;
    }

-- The last segment takes on more records.
pub cut_longer : (p : ScriptPlan) (records more : List Record) (segments : List (List Path)) (segment longer : List Path) → IsCut p records segments segment
    → ((rs : List Record) → StandsFor p rs segment → StandsFor p (rs ++ more) longer) → IsCut p (records ++ more) segments longer
cut_longer p records more segments segment longer h on = record {
  first = h.first;
  rest = h.rest ++ more;
  all = ap (λ (rs : List Record). rs ++ more) h.all ∙ append_assoc h.first h.rest more;
  whole = h.whole;
  last = on h.rest h.last;
}
