-- Segments that are extended as far as the limit allows it, and stay so where a record is taken on.
use Rattle.std.proofs.Common.{◌≡◌, ◌∙◌, ◌≤◌, ap, sym, refl, subst, arith, ℕ, List, [], ◌∷◌, ◌++◌, length, length-append}
use Rattle.std.proofs.lemmas.List.{append_assoc, append-nil}
use Rattle.sym_base.specs.declared.values.record.Record.{Record}
use Rattle.sym_check.specs.Plan.ScriptPlans.{ScriptPlan}
use Rattle.sym_explore.specs.Growing.{IsLonger}
use Rattle.sym_explore.specs.Limiting.{IsTooLong}
use Rattle.sym_path.specs.declared.path.Path.{Path}
use Rattle.sym_path.specs.Standing.{StandsFor}
use Rattle.sym_run.specs.Extended.{AreExtended, AreExtendedBefore, EndsBefore}
use Rattle.sym_run.specs.Pushing.{AreComposedTo, IsPushed}

module _ (p : ScriptPlan) (limit : ℕ) where
  -- ---- what comes after
  ends_more : (segment : List Path) (next more : List Record) → 1 ≤ length next → EndsBefore p limit segment next → EndsBefore p limit segment (next ++ more)
  ends_more segment [] more some h = absurd (omega (arith, some))
  ends_more segment (rec ∷ next) more some h = h

  -- What comes after some records changes nothing.
  pub extended_more : (records next more : List Record) (segments : List (List Path)) → 1 ≤ length next → AreExtendedBefore p limit records next segments → AreExtendedBefore p limit records (next ++ more) segments
  extended_more records next more [] some h = h
  extended_more records next more (segment ∷ segments) some h =
      let there : 1 ≤ length (h.1 ++ next) = omega (arith, length-append h.1 next, some) in
      (h.0, h.1, h.2, h.3, h.4, subst (EndsBefore p limit segment) (append_assoc h.1 next more) (ends_more segment (h.1 ++ next) more there h.5), extended_more h.1 next more segments some h.6)

  -- Where there is a segment, there is a record.
  some_records : (records next : List Record) (segments : List (List Path)) (last : List Path) → AreExtendedBefore p limit records next (segments ++ last ∷ []) → 1 ≤ length records
  some_records records next [] last h = omega (arith, ap length h.2, length-append h.0 h.1, h.3)
  some_records records next (segment ∷ segments) last h = omega (arith, ap length h.2, length-append h.0 h.1, h.3)

  -- ---- cuts
  record IsCutAt (records next : List Record) (front others : List (List Path)) : Type 0 where
    first : List Record
    rest : List Record
    all : records ≡ first ++ rest
    before : AreExtendedBefore p limit first (rest ++ next) front
    after : AreExtendedBefore p limit rest next others

  cut_at : (records next : List Record) (front others : List (List Path)) → AreExtendedBefore p limit records next (front ++ others) → IsCutAt records next front others
  cut_at records next [] others h = record { first = []; rest = records; all = refl; before = refl; after = h }
  cut_at records next (segment ∷ front) others h =
      let t = cut_at h.1 next front others h.6 in
      let ends = subst (EndsBefore p limit segment) (ap (λ (rs : List Record). rs ++ next) t.all ∙ append_assoc t.first t.rest next) h.5 in
      record {
        first = h.0 ++ t.first;
        rest = t.rest;
        all = h.2 ∙ ap (λ (rs : List Record). h.0 ++ rs) t.all ∙ sym (append_assoc h.0 t.first t.rest);
        before = (h.0, t.first, refl, h.3, h.4, ends, t.before);
        after = t.after;
      }

  -- ---- a segment more
  segment_more : (records more : List Record) (segments : List (List Path)) (segment : List Path) → AreExtendedBefore p limit records more segments → 1 ≤ length more → StandsFor p more segment → AreExtended p limit (records ++ more) (segments ++ segment ∷ [])
  segment_more records more [] segment h some s = (more, [], ap (λ (rs : List Record). rs ++ more) h ∙ sym (append-nil more), some, s, tt, refl)
  segment_more records more (first ∷ segments) segment h some s = (
    h.0,
    h.1 ++ more,
    ap (λ (rs : List Record). rs ++ more) h.2 ∙ append_assoc h.0 h.1 more,
    h.3,
    h.4,
    subst (EndsBefore p limit first) (sym (append-nil (h.1 ++ more))) h.5,
    segment_more h.1 more segments segment h.6 some s,
  )

  -- Segments that are composed with one after them.
  composed_stands : (records next rest : List Record) (others : List (List Path)) (segment whole : List Path) → AreExtendedBefore p limit records next others → AreComposedTo p limit others segment whole → StandsFor p rest segment → StandsFor p (records ++ rest) whole
  composed_stands records next rest [] segment whole h composed s =
      subst (λ (rs : List Record). StandsFor p (rs ++ rest) whole) (sym h) (subst (StandsFor p rest) (sym composed) s)
  composed_stands records next rest (left ∷ others) segment whole h (right, composed, is, few) s =
      let later : StandsFor p (h.1 ++ rest) right = composed_stands h.1 next rest others segment right h.6 composed s in
      subst (λ (rs : List Record). StandsFor p rs whole) (sym (ap (λ (rs : List Record). rs ++ rest) h.2 ∙ append_assoc h.0 h.1 rest)) (is.stands h.0 (h.1 ++ rest) h.4 later)

  pub pushed_extended : (first rest : List Record) (segments : List (List Path)) (segment : List Path) (pushed : List (List Path)) → IsPushed p limit segments segment pushed → AreExtendedBefore p limit first rest segments → 1 ≤ length rest
      → StandsFor p rest segment → AreExtended p limit (first ++ rest) pushed
  pushed_extended first rest segments segment pushed is h some s =
      let cut = cut_at first rest is.kept is.others (subst (AreExtendedBefore p limit first rest) is.cut h) in
      let whole = composed_stands cut.rest rest rest is.others segment is.last cut.after is.composed s in
      let more : 1 ≤ length (cut.rest ++ rest) = omega (arith, length-append cut.rest rest, some) in
      subst (AreExtended p limit (first ++ rest)) (sym is.are)
      (subst (λ (rs : List Record). AreExtended p limit rs (is.kept ++ is.last ∷ [])) (sym (ap (λ (rs : List Record). rs ++ rest) cut.all ∙ append_assoc cut.first cut.rest rest))
      (segment_more cut.first (cut.rest ++ rest) is.kept is.last cut.before more whole))

  -- ---- a record more
  pub one_extended : (rec : Record) (own : List Path) → StandsFor p (rec ∷ []) own → AreExtended p limit (rec ∷ []) (own ∷ [])
  one_extended rec own s = (rec ∷ [], [], refl, omega arith, s, tt, refl)

  -- The segment for the last records, of which there is one or more.
  pub record IsCutLast (records : List Record) (segments : List (List Path)) (last : List Path) : Type 0 where
    pub first : List Record
    pub rest : List Record
    pub all : records ≡ first ++ rest
    pub some : 1 ≤ length rest
    pub before : AreExtendedBefore p limit first rest segments
    pub after : StandsFor p rest last

  pub cut_extended : (records : List Record) (segments : List (List Path)) (last : List Path) → AreExtended p limit records (segments ++ last ∷ []) → IsCutLast records segments last
  cut_extended records segments last h =
      let cut = cut_at records [] segments (last ∷ []) h in
      let one = cut.after in
      let whole : cut.rest ≡ one.0 = one.2 ∙ ap (λ (rs : List Record). one.0 ++ rs) one.6 ∙ append-nil one.0 in
      record {
        first = cut.first;
        rest = cut.rest;
        all = cut.all;
        some = omega (arith, ap length whole, one.3);
        before = subst (λ (rs : List Record). AreExtendedBefore p limit cut.first rs segments) (append-nil cut.rest) cut.before;
        after = subst (λ (rs : List Record). StandsFor p rs last) (sym whole) one.4;
      }

  -- It fits into the last segment.
  pub fits_extended : (records : List Record) (rec : Record) (segments : List (List Path)) (last longer : List Path) (pushed : List (List Path)) → IsLonger p rec last longer → IsPushed p limit segments longer pushed
      → AreExtended p limit records (segments ++ last ∷ []) → AreExtended p limit (records ++ rec ∷ []) pushed
  fits_extended records rec segments last longer pushed grown is h =
      let cut = cut_extended records segments last h in
      let more : 1 ≤ length (cut.rest ++ rec ∷ []) = omega (arith, length-append cut.rest (rec ∷ []), cut.some) in
      subst (λ (rs : List Record). AreExtended p limit rs pushed) (sym (ap (λ (rs : List Record). rs ++ rec ∷ []) cut.all ∙ append_assoc cut.first cut.rest (rec ∷ [])))
      (pushed_extended cut.first (cut.rest ++ rec ∷ []) segments longer pushed is (extended_more cut.first cut.rest (rec ∷ []) segments cut.some cut.before) more (grown.stands cut.rest cut.after))

  -- It doesn't.
  ends_over : (records : List Record) (rec : Record) (segments : List (List Path)) (last : List Path) → IsTooLong p rec last limit → AreExtended p limit records (segments ++ last ∷ []) → AreExtendedBefore p limit records (rec ∷ []) (segments ++ last ∷ [])
  ends_over records rec [] last over h =
      (h.0, h.1, h.2, h.3, h.4, subst (λ (rs : List Record). EndsBefore p limit last (rs ++ rec ∷ [])) (sym h.6) over, h.6)
  ends_over records rec (segment ∷ segments) last over h =
      let ends = ends_more segment h.1 (rec ∷ []) (some_records h.1 [] segments last h.6) (subst (EndsBefore p limit segment) (append-nil h.1) h.5) in
      (h.0, h.1, h.2, h.3, h.4, ends, ends_over h.1 rec segments last over h.6)

  pub over_extended : (records : List Record) (rec : Record) (segments : List (List Path)) (last own : List Path) (pushed : List (List Path)) → IsTooLong p rec last limit → IsPushed p limit (segments ++ last ∷ []) own pushed
      → StandsFor p (rec ∷ []) own → AreExtended p limit records (segments ++ last ∷ []) → AreExtended p limit (records ++ rec ∷ []) pushed
  over_extended records rec segments last own pushed over is s h =
      pushed_extended records (rec ∷ []) (segments ++ last ∷ []) own pushed is (ends_over records rec segments last over h) (omega arith) s
