-- Records that are kept, each as one that is as good.
use Rattle.std.proofs.Common.{◌≡◌, ◌∙◌, ◌≤◌, ◌+◌, ℕ, zero, suc, ap, ap₂, sym, refl, subst, arith, ◌==◌, ◌↔◌, Bool, IsTrue, true, false, List, [], ◌∷◌, ◌++◌, Some, Result, Ok, Err, length, length-append, take}
use Rattle.std.specs.Prelude.{OnErr, OnOk, slice_get}
use Rattle.std.proofs.lemmas.Bool.{eqb-true}
use Rattle.std.proofs.lemmas.List.{append_assoc, append-nil}
use Rattle.std.proofs.lemmas.List.Elements.{All-append, All-cons, All-nil, All-push, All-weaker}
use Rattle.std.specs.List.{All, AllZip, Any}
use Rattle.sym_base.specs.declared.values.record.Record.{Record}
use Rattle.sym_base.specs.declared.values.state.Outcome.{Outcome}
use Rattle.sym_base.specs.declared.values.state.Outcome.TheVariants.{Going}
use Rattle.sym_base.specs.declared.values.state.Outcome.TheVariants as outcome
use Rattle.sym_check.specs.Meaning.Conditions.{test_truth}
use Rattle.sym_check.specs.Meaning.Updates.{after, step}
use Rattle.sym_check.specs.Meaning.Validity.{IsRecord, field_kinds}
use Rattle.sym_check.specs.Plan.ScriptPlans.{ScriptPlan}
use Rattle.sym_check.proofs.PlanLaws.{after_append}
use Rattle.sym_known.specs.Holding.{EndedAmong, KnownPath, KnownStandsFor}
use Rattle.sym_path.specs.declared.path.Path.{Path}
use Rattle.sym_path.specs.declared.path.PathEnd.{PathEnd}
use Rattle.sym_path.specs.declared.path.PathEnd.TheVariants.{Next, Ended}
use Rattle.sym_path.specs.Giving.{IsOnlyOutcome}
use Rattle.sym_path.specs.Standing.{EndsAmong, StandsFor}
use Rattle.sym_path.proofs.Lists.{take_get, zip_length}
use Rattle.sym_run.specs.Chained.{Chained}
use Rattle.sym_run.specs.Chains.{ChainFits, ChainStandsFor, IsClosed, IsTight, SegmentsAreTight, SegmentsFit, SegmentsStandFor, closed_chain}
use Rattle.sym_run.specs.Growing.{TakesOne}
use Rattle.sym_run.specs.Keeping.{AreAsWide, AreKeptAs, AreWide, IsKeptAs}
use Rattle.sym_run.specs.Opened.{OpenStandsFor}
use Rattle.sym_run.specs.declared.opened.Open.{Open}
use Rattle.sym_run.specs.declared.opened.Open.TheVariants as opened

-- What holds of two lists, place by place, and of two others holds of both put together.
pub zip_append : {A B : Type 0} (R : A → B → Type 0) (xs others : List A) (ys more : List B) → AllZip R xs ys → AllZip R others more → AllZip R (xs ++ others) (ys ++ more)
zip_append R [] others [] more h k = k
zip_append R [] others (y ∷ ys) more h k = absurd h
zip_append R (x ∷ xs) others [] more h k = absurd h
zip_append R (x ∷ xs) others (y ∷ ys) more h k = (h.0, zip_append R xs others ys more h.1 k)

-- ---- as good
same_record : (p : ScriptPlan) (rec : Record) → IsKeptAs p rec rec
same_record p rec = record { number = refl; steps = λ o. refl }

pub same_records : (p : ScriptPlan) (records : List Record) → AreKeptAs p records records
same_records p [] = tt
same_records p (rec ∷ records) = (same_record p rec, same_records p records)

pub none_kept : (p : ScriptPlan) (records kept : List Record) → AreKeptAs p records kept → kept ≡ [] → records ≡ []
none_kept p [] kept h e = refl
none_kept p (rec ∷ records) [] h e = absurd h
none_kept p (rec ∷ records) (k ∷ kept) h e = cc

pub kept_after : (p : ScriptPlan) (records kept : List Record) (o : Outcome) → AreKeptAs p records kept → after p kept o ≡ after p records o
kept_after p [] [] o h = refl
kept_after p [] (k ∷ kept) o h = absurd h
kept_after p (rec ∷ records) [] o h = absurd h
kept_after p (rec ∷ records) (k ∷ kept) o h = ap (after p kept) (h.0.steps o) ∙ kept_after p records kept (step p o rec) h.1

kept_any : (p : ScriptPlan) (n : ℕ) (records kept : List Record) → AreKeptAs p records kept → Any (λ (rec : Record). rec.no ≡ n) kept → Any (λ (rec : Record). rec.no ≡ n) records
kept_any p n [] [] h (i, x, within, is, e) = absurd (omega (arith, within))
kept_any p n [] (k ∷ kept) h a = absurd h
kept_any p n (rec ∷ records) [] h a = absurd h
kept_any p n (rec ∷ records) (k ∷ kept) h (zero, x, within, is, e) =
    (zero, rec, omega arith, refl, sym h.0.number ∙ ap (λ (r : Record). r.no) is ∙ e)
kept_any p n (rec ∷ records) (k ∷ kept) h (suc i, x, within, is, e) =
    let later = kept_any p n records kept h.1 (i, x, omega (arith, within), is, e) in
    (suc later.0, later.1, let below = later.2 in omega (arith, below), later.3, later.4)

kept_end : (p : ScriptPlan) (records kept : List Record) (end : PathEnd) → AreKeptAs p records kept → EndsAmong kept end → EndsAmong records end
kept_end p records kept (Next forms) h e = tt
kept_end p records kept (Ended fault) h e = kept_any p fault.no records kept h e

-- Paths that stand for what is kept stand for the records.
pub kept_stand : (p : ScriptPlan) (records kept : List Record) (paths : List Path) → AreKeptAs p records kept → StandsFor p kept paths → StandsFor p records paths
kept_stand p records kept paths h s = record {
  fits = s.fits;
  faults = All-weaker (λ (path : Path). EndsAmong kept path.end) (λ (path : Path). EndsAmong records path.end) (λ path e. kept_end p records kept path.end h e) paths s.faults;
  exact = λ state valid. subst (IsOnlyOutcome (test_truth p.tests) paths state) (kept_after p records kept (Going state) h) (s.exact state valid);
}

-- The records of which two lists are kept, cut where these meet.
pub record AreCut (p : ScriptPlan) (records left right : List Record) : Type 0 where
  pub first : List Record
  pub rest : List Record
  pub all : records ≡ first ++ rest
  pub left_kept : AreKeptAs p first left
  pub right_kept : AreKeptAs p rest right

pub kept_cut : (p : ScriptPlan) (records left right : List Record) → AreKeptAs p records (left ++ right) → AreCut p records left right
kept_cut p records [] right h = record { first = []; rest = records; all = refl; left_kept = tt; right_kept = h }
kept_cut p [] (k ∷ left) right h = absurd h
kept_cut p (rec ∷ records) (k ∷ left) right h =
    let later = kept_cut p records left right h.1 in
    record {
      first = rec ∷ later.first;
      rest = later.rest;
      all = ap (λ (rs : List Record). rec ∷ rs) later.all;
      left_kept = (h.0, later.left_kept);
      right_kept = later.right_kept;
    }

-- So do segments.
segments_kept : (p : ScriptPlan) (records kept : List Record) (segments : List (List Path)) → AreKeptAs p records kept → SegmentsStandFor p kept segments → SegmentsStandFor p records segments
segments_kept p records kept [] h s = none_kept p records kept h s
segments_kept p records kept (segment ∷ segments) h s =
    let cut = kept_cut p records s.0 s.1 (subst (AreKeptAs p records) s.2 h) in
    (cut.first, cut.rest, cut.all, kept_stand p cut.first s.0 segment cut.left_kept s.3, segments_kept p cut.rest s.1 segments cut.right_kept s.4)

-- A record that is kept as one that is kept as another.
kept_twice : (p : ScriptPlan) (records others kept : List Record) → AreKeptAs p records others → AreKeptAs p others kept → AreKeptAs p records kept
kept_twice p [] [] kept h k = k
kept_twice p [] (other ∷ others) kept h k = absurd h
kept_twice p (rec ∷ records) [] kept h k = absurd h
kept_twice p (rec ∷ records) (other ∷ others) [] h k = absurd k
kept_twice p (rec ∷ records) (other ∷ others) (last ∷ kept) h k = (
  record {
    number = k.0.number ∙ h.0.number;
    steps = λ o. k.0.steps o ∙ h.0.steps o;
  },
  kept_twice p records others kept h.1 k.1,
)

-- So do chains.
chain_kept : (p : ScriptPlan) (records kept : List Record) (chain : Chained) → AreKeptAs p records kept → ChainStandsFor p kept chain → ChainStandsFor p records chain
chain_kept p records kept chain h s =
    let cut = kept_cut p records s.first s.rest (subst (AreKeptAs p records) s.cut h) in
    record {
      first = cut.first;
      rest = cut.rest;
      cut = cut.all;
      segments = segments_kept p cut.first s.first chain.segments cut.left_kept s.segments;
      kept = kept_twice p cut.rest s.rest chain.kept cut.right_kept s.kept;
    }

-- So do known paths.
kept_outcome : (p : ScriptPlan) (records kept : List Record) (o : Outcome) → AreKeptAs p records kept → EndedAmong kept o → EndedAmong records o
kept_outcome p records kept (Going s) h e = tt
kept_outcome p records kept (outcome.Ended fault) h e = kept_any p fault.no records kept h e

pub known_kept : (p : ScriptPlan) (records kept : List Record) (known : List KnownPath) → AreKeptAs p records kept → KnownStandsFor p kept known → KnownStandsFor p records known
known_kept p records kept known h s = record {
  faults = All-weaker (λ (k : KnownPath). EndedAmong kept k.outcome) (λ (k : KnownPath). EndedAmong records k.outcome) (λ k e. kept_outcome p records kept k.outcome h e) known s.faults;
  exact = λ state valid. s.exact state valid ∙ ap (λ (o : Outcome). o ∷ []) (kept_after p records kept (Going state) h);
}

-- And open chains.
open_kept : (p : ScriptPlan) (records kept : List Record) (chain : Open) → AreKeptAs p records kept → OpenStandsFor p kept chain → OpenStandsFor p records chain
open_kept p records kept (opened.Chain chain) h s = chain_kept p records kept chain h s
open_kept p records kept (opened.Known segments known) h s =
    let cut = kept_cut p records s.first s.rest (subst (AreKeptAs p records) s.cut h) in
    record {
      first = cut.first;
      rest = cut.rest;
      cut = cut.all;
      before = segments_kept p cut.first s.first segments cut.left_kept s.before;
      after = known_kept p cut.rest s.rest known cut.right_kept s.after;
    }

-- An open chain that stands for a last record stands for each that is kept as it.
pub last_as_good : (p : ScriptPlan) (first : List Record) (rec kept : Record) (chain : Open) → IsKeptAs p rec kept → OpenStandsFor p (first ++ kept ∷ []) chain → OpenStandsFor p (first ++ rec ∷ []) chain
last_as_good p first rec kept chain good s =
    open_kept p (first ++ rec ∷ []) (first ++ kept ∷ []) chain
    (zip_append (IsKeptAs p) first (rec ∷ []) first (kept ∷ []) (same_records p first) (good, tt)) s

-- ---- closed chains
pub closed_stands : (p : ScriptPlan) (records : List Record) (segments : List (List Path)) → SegmentsStandFor p records segments → ChainStandsFor p records (closed_chain segments)
closed_stands p records segments h = record { first = records; rest = []; cut = sym (append-nil records); segments = h; kept = tt }

pub closed_segments : (p : ScriptPlan) (records : List Record) (chain : Chained) → IsClosed chain → ChainStandsFor p records chain → SegmentsStandFor p records chain.segments
closed_segments p records chain closed h =
    let none : h.rest ≡ [] = none_kept p h.rest chain.kept h.kept closed in
    subst (λ (rs : List Record). SegmentsStandFor p rs chain.segments) (sym (h.cut ∙ ap (λ (rs : List Record). h.first ++ rs) none ∙ append-nil h.first)) h.segments

pub closed_fits : (p : ScriptPlan) (segments : List (List Path)) → SegmentsFit p segments → ChainFits p (closed_chain segments)
closed_fits p segments h = record { segments = h; kept = All-nil (IsRecord p) }

-- Segments that cover what a chain keeps, too.
pub covered_stands : (p : ScriptPlan) (chain : Chained) (segments : List (List Path)) → ((first : List Record) → SegmentsStandFor p first chain.segments → SegmentsStandFor p (first ++ chain.kept) segments)
    → (records : List Record) → ChainStandsFor p records chain → SegmentsStandFor p records segments
covered_stands p chain segments covers records h =
    segments_kept p records (h.first ++ chain.kept) segments
    (subst (λ (rs : List Record). AreKeptAs p rs (h.first ++ chain.kept)) (sym h.cut)
    (zip_append (IsKeptAs p) h.first h.rest h.first chain.kept (same_records p h.first) h.kept))
    (covers h.first h.segments)

-- ---- what a chain makes of an outcome
pub chain_led : (p : ScriptPlan) (chain : Chained) (records : List Record) (outcome led end : Outcome) → ChainStandsFor p records chain
    → ((first : List Record) → SegmentsStandFor p first chain.segments → led ≡ after p first outcome) → end ≡ after p chain.kept led → end ≡ after p records outcome
chain_led p chain records outcome led end h leads is =
    is
    ∙ kept_after p h.rest chain.kept led h.kept
    ∙ ap (after p h.rest) (leads h.first h.segments)
    ∙ sym (after_append p h.first h.rest outcome)
    ∙ ap (λ (rs : List Record). after p rs outcome) (sym h.cut)

-- ---- a record more that is kept
pub kept_longer : (p : ScriptPlan) (limit : ℕ) (rec : Record) (old new : Chained) → IsRecord p rec → ChainFits p old → IsTight p limit old → 1 ≤ length old.kept
    → new.segments ≡ old.segments → new.kept ≡ old.kept ++ rec ∷ [] → TakesOne p limit rec (opened.Chain old) (opened.Chain new)
kept_longer p limit rec old new is fits tight some segments kept = record {
  fits = record {
    segments = subst (SegmentsFit p) (sym segments) fits.segments;
    kept = subst (All (IsRecord p)) (sym kept) (All-push (IsRecord p) old.kept rec fits.kept is);
  };
  tight = subst (SegmentsAreTight p limit) (sym segments) tight;
  stands = λ records h. record {
    first = h.first;
    rest = h.rest ++ rec ∷ [];
    cut = ap (λ (rs : List Record). rs ++ rec ∷ []) h.cut ∙ append_assoc h.first h.rest (rec ∷ []);
    segments = subst (SegmentsStandFor p h.first) (sym segments) h.segments;
    kept = subst (AreKeptAs p (h.rest ++ rec ∷ [])) (sym kept)
        (zip_append (IsKeptAs p) h.rest (rec ∷ []) old.kept (rec ∷ []) h.kept (same_record p rec, tt));
  };
  closed = λ none. absurd (omega (arith, ap length none, some));
  extends = λ records h. absurd (omega (arith, ap length h.closed, some));
}

-- The chain that keeps one record.
pub one_kept : (p : ScriptPlan) (rec : Record) (chain : Chained) → IsRecord p rec → chain.segments ≡ [] → chain.kept ≡ rec ∷ [] → ChainFits p chain × ChainStandsFor p (rec ∷ []) chain
one_kept p rec chain is segments kept = (
  record {
    segments = subst (SegmentsFit p) (sym segments) (All-nil _);
    kept = subst (All (IsRecord p)) (sym kept) (All-cons (IsRecord p) rec [] is (All-nil (IsRecord p)));
  },
  record {
    first = [];
    rest = rec ∷ [];
    cut = refl;
    segments = subst (SegmentsStandFor p []) (sym segments) refl;
    kept = subst (AreKeptAs p (rec ∷ [])) (sym kept) (same_record p rec, tt);
  },
)

-- ---- chains that are joined
-- The right one only keeps.
pub kept_joined : (p : ScriptPlan) (left right chain : Chained) → right.segments ≡ [] → chain.segments ≡ left.segments → chain.kept ≡ left.kept ++ right.kept
    → (first rest : List Record) → ChainStandsFor p first left → ChainStandsFor p rest right → ChainStandsFor p (first ++ rest) chain
kept_joined p left right chain none segments kept first rest h k =
    let start : k.first ≡ [] = subst (SegmentsStandFor p k.first) none k.segments in
    let all : rest ≡ k.rest = k.cut ∙ ap (λ (rs : List Record). rs ++ k.rest) start in
    record {
      first = h.first;
      rest = h.rest ++ k.rest;
      cut = ap₂ (λ (a b : List Record). a ++ b) h.cut all ∙ append_assoc h.first h.rest k.rest;
      segments = subst (SegmentsStandFor p h.first) (sym segments) h.segments;
      kept = subst (AreKeptAs p (h.rest ++ k.rest)) (sym kept) (zip_append (IsKeptAs p) h.rest k.rest left.kept right.kept h.kept k.kept);
    }

pub kept_join_fits : (p : ScriptPlan) (left right chain : Chained) → ChainFits p left → ChainFits p right → chain.segments ≡ left.segments → chain.kept ≡ left.kept ++ right.kept → ChainFits p chain
kept_join_fits p left right chain l r segments kept = record {
  segments = subst (SegmentsFit p) (sym segments) l.segments;
  kept = subst (All (IsRecord p)) (sym kept) (All-append (IsRecord p) left.kept right.kept l.kept r.kept);
}

-- The right one's segments follow those of the left one, which keeps nothing.
pub segments_joined : (p : ScriptPlan) (left right chain : Chained) → IsClosed left → chain.kept ≡ right.kept
    → ((first rest : List Record) → SegmentsStandFor p first left.segments → SegmentsStandFor p rest right.segments → SegmentsStandFor p (first ++ rest) chain.segments)
    → (first rest : List Record) → ChainStandsFor p first left → ChainStandsFor p rest right → ChainStandsFor p (first ++ rest) chain
segments_joined p left right chain closed kept joins first rest h k = record {
  first = first ++ k.first;
  rest = k.rest;
  cut = ap (λ (rs : List Record). first ++ rs) k.cut ∙ sym (append_assoc first k.first k.rest);
  segments = joins first k.first (closed_segments p first left closed h) k.segments;
  kept = subst (AreKeptAs p k.rest) (sym kept) k.kept;
}

-- ---- how many values the records have
pub all_wide : (p : ScriptPlan) (records : List Record) → All (IsRecord p) records → AreWide (length (field_kinds p)) records
all_wide p records h =
    All-weaker (IsRecord p) (λ (rec : Record). length rec.fields ≡ length (field_kinds p)) (λ rec is. sym (zip_length _ (field_kinds p) rec.fields is)) records h

pub as_wide : (p : ScriptPlan) (rec : Record) (records : List Record) → IsRecord p rec → All (IsRecord p) records → AreAsWide rec records
as_wide p rec records is h =
    subst (λ (n : ℕ). AreWide n records) (zip_length _ (field_kinds p) rec.fields is) (all_wide p records h)

-- ---- one kept record's step more
pub one_step : (p : ScriptPlan) (kept : List Record) (i : ℕ) (rec : Record) (start old new : Outcome) → slice_get kept i ≡ Some rec → old ≡ after p (take i kept) start → new ≡ step p old rec
    → new ≡ after p (take (i + 1) kept) start
one_step p kept i rec start old new at led is =
    is ∙ ap (λ (o : Outcome). step p o rec) led
    ∙ sym (after_append p (take i kept) (rec ∷ []) start)
    ∙ ap (λ (rs : List Record). after p rs start) (sym (take_get kept i rec at))

-- ---- lists that are empty, and that aren't
pub no_items : {A : Type 0} (xs : List A) → (length xs == 0) ≡ true → xs ≡ []
no_items [] e = refl
no_items (x ∷ xs) e = let none = eqb-true (length (x ∷ xs)) 0 e in absurd (omega (arith, none))

pub some_items : {A : Type 0} (xs : List A) → (length xs == 0) ≡ false → 1 ≤ length xs
some_items [] e = cc
some_items (x ∷ xs) e = omega arith

-- Whether there are none, told by the length.
pub empty_told : {A : Type 0} (xs : List A) (b : Bool) → b ≡ (length xs == 0) → IsTrue b ↔ (xs ≡ [])
empty_told xs b e = (λ t. no_items xs (sym e ∙ t), λ none. e ∙ ap (λ ys. length ys == 0) none)

-- Where some were or came, there are some.
pub some_still : {T E : Type 0} (r : Result T E) (n : ℕ) (old new more : List Record) → OnOk r (new ≡ old ++ more) → OnErr r (new ≡ old) → 1 ≤ n + length old → 1 ≤ n + length new
some_still (Ok x) n old new more ok err h =
    let same : new ≡ old ++ more = ok in
    omega (arith, ap length same, length-append old more, h)
some_still (Err e) n old new more ok err h =
    let same : new ≡ old = err in
    omega (arith, ap length same, h)
