-- Groups whose chains are extended by records, and by one more.
use Rattle.std.proofs.Common.{◌≡◌, ◌∙◌, ◌≤◌, ap₂, sym, refl, subst, arith, ℕ, List, [], ◌∷◌, ◌++◌, Some, None, length, map}
use Rattle.std.specs.Map.{lookup}
use Rattle.sym_base.specs.declared.values.value.Key.{Key}
use Rattle.sym_base.specs.declared.values.record.Record.{Record}
use Rattle.sym_base.specs.declared.values.state.Outcome.{Outcome}
use Rattle.sym_check.specs.Meaning.Conditions.{test_truth}
use Rattle.sym_check.specs.Meaning.Groups.{is_key}
use Rattle.sym_check.specs.Plan.ScriptPlans.{ScriptPlan}
use Rattle.sym_explore.specs.Limiting.{IsTooLong}
use Rattle.sym_explore.specs.Stepping.{step_by}
use Rattle.sym_path.specs.declared.path.Path.{Path}
use Rattle.sym_path.specs.Giving.{outcomes}
use Rattle.sym_path.proofs.Lists.{zip_length}
use Rattle.sym_plain.specs.Pairs.{put}
use Rattle.sym_run.specs.Extended.{AreExtendedBefore, EndsBefore}
use Rattle.sym_run.specs.Growing.{ExtendsByOne, FoundStands, TakesOne}
use Rattle.sym_run.specs.Keeping.{AreKeptAs, IsKeptAs}
use Rattle.sym_run.specs.Kinds.{by_extension}
use Rattle.sym_run.specs.Opened.{KeepsNone, OpenFits, OpenIsExtended, OpenIsTight, open_kind}
use Rattle.sym_run.specs.declared.opened.Open.{Open}
use Rattle.sym_run.specs.declared.opened.Open.TheVariants as opened
use Rattle.sym_run.proofs.Beginning.{grown_there}
use Rattle.sym_run.proofs.KeptRecords.{kept_cut, kept_stand, known_kept, none_kept, same_records, zip_append}

-- ---- records that are kept, each as one that is as good
same_steps : (p : ScriptPlan) (rec kept : Record) (os : List Outcome) → IsKeptAs p rec kept → map (step_by p kept) os ≡ map (step_by p rec) os
same_steps p rec kept [] good = refl
same_steps p rec kept (o ∷ os) good = ap₂ (λ (x : Outcome) (xs : List Outcome). x ∷ xs) (good.steps o) (same_steps p rec kept os good)

over_kept : (p : ScriptPlan) (limit : ℕ) (rec kept : Record) (segment : List Path) → IsKeptAs p rec kept → IsTooLong p kept segment limit → IsTooLong p rec segment limit
over_kept p limit rec kept segment good h =
    let longer = h.longer in
    record {
      new = h.new;
      longer = record {
        settled = longer.settled;
        fits = longer.fits;
        few = longer.few;
        stands = λ records s.
            kept_stand p (records ++ rec ∷ []) (records ++ kept ∷ []) h.new
            (zip_append (IsKeptAs p) records (rec ∷ []) records (kept ∷ []) (same_records p records) (good, tt)) (longer.stands records s);
        gives = λ s one. longer.gives s one ∙ same_steps p rec kept (outcomes (test_truth p.tests) segment s) good;
      };
      over = h.over;
    }

ends_kept : (p : ScriptPlan) (limit : ℕ) (segment : List Path) (records kept : List Record) → AreKeptAs p records kept → EndsBefore p limit segment kept → EndsBefore p limit segment records
ends_kept p limit segment [] kept h e = tt
ends_kept p limit segment (rec ∷ records) [] h e = absurd h
ends_kept p limit segment (rec ∷ records) (k ∷ kept) h e = over_kept p limit rec k segment h.0 e

extended_kept : (p : ScriptPlan) (limit : ℕ) (records kept next later : List Record) (segments : List (List Path)) → AreKeptAs p records kept → AreKeptAs p next later → AreExtendedBefore p limit kept later segments
    → AreExtendedBefore p limit records next segments
extended_kept p limit records kept next later [] h k e = none_kept p records kept h e
extended_kept p limit records kept next later (segment ∷ segments) h k e =
    let cut = kept_cut p records e.0 e.1 (subst (AreKeptAs p records) e.2 h) in
    let some : 1 ≤ length cut.first = omega (arith, zip_length (IsKeptAs p) cut.first e.0 cut.left_kept, e.3) in (
      cut.first,
      cut.rest,
      cut.all,
      some,
      kept_stand p cut.first e.0 segment cut.left_kept e.4,
      ends_kept p limit segment (cut.rest ++ next) (e.1 ++ later) (zip_append (IsKeptAs p) cut.rest next e.1 later cut.right_kept k) e.5,
      extended_kept p limit cut.rest e.1 next later segments cut.right_kept k e.6,
    )

open_kept : (p : ScriptPlan) (limit : ℕ) (records kept : List Record) (chain : Open) → AreKeptAs p records kept → OpenIsExtended p limit kept chain → OpenIsExtended p limit records chain
open_kept p limit records kept (opened.Chain chain) h e = record {
  closed = e.closed;
  segments = extended_kept p limit records kept [] [] chain.segments h tt e.segments;
}
open_kept p limit records kept (opened.Known segments known) h e =
    let cut = kept_cut p records e.first e.rest (subst (AreKeptAs p records) e.cut h) in
    record {
      first = cut.first;
      rest = cut.rest;
      cut = cut.all;
      some = omega (arith, zip_length (IsKeptAs p) cut.rest e.rest cut.right_kept, e.some);
      before = extended_kept p limit cut.first e.first cut.rest e.rest segments cut.left_kept cut.right_kept e.before;
      after = known_kept p cut.rest e.rest known cut.right_kept e.after;
    }

-- ---- one record more
-- A new key begins with the chain of a record.
pub begun_extended : (p : ScriptPlan) (limit most : ℕ) (key : Key) (rec : Record) (old new : List (Key × Open)) (chain : Open) → new ≡ put old key chain → lookup (is_key key) old ≡ None
    → OpenFits p chain → OpenIsTight p limit chain → OpenIsExtended p limit (rec ∷ []) chain → (most ≡ 0 → KeepsNone chain) → ExtendsByOne p limit most key rec old new
begun_extended p limit most key rec old new chain is none fits tight extended closed = record {
  chain = chain;
  is = is;
  fits = fits;
  tight = tight;
  stands = λ first rest found adds.
      let empty : first ≡ [] = subst (FoundStands (by_extension limit open_kind) p first) none found in
      subst (λ (rs : List Record). OpenIsExtended p limit rs chain) (sym (ap₂ (λ (a b : List Record). a ++ b) empty adds)) extended;
  closed = λ closes found. closed closes;
}

-- The chain of a key that is there takes it on.
pub longer_extended : (p : ScriptPlan) (limit most : ℕ) (key : Key) (rec : Record) (old new : List (Key × Open)) (was chain : Open) → new ≡ put old key chain → lookup (is_key key) old ≡ Some was
    → TakesOne p limit rec was chain → ExtendsByOne p limit most key rec old new
longer_extended p limit most key rec old new was chain is there longer =
    grown_there (by_extension limit open_kind) p limit key (λ (rest : List Record). rest ≡ rec ∷ []) (most ≡ 0) old new was chain is there longer.fits longer.tight
    (λ first rest h adds. subst (λ (rs : List Record). OpenIsExtended p limit (first ++ rs) chain) (sym adds) (longer.extends first h))
    (λ closes. longer.closed)

-- The same of each record that is kept as this one.
pub as_good_extended : (p : ScriptPlan) (limit most : ℕ) (key : Key) (rec kept : Record) (old new : List (Key × Open)) → IsKeptAs p rec kept → ExtendsByOne p limit most key kept old new → ExtendsByOne p limit most key rec old new
as_good_extended p limit most key rec kept old new good g = record {
  chain = g.chain;
  is = g.is;
  fits = g.fits;
  tight = g.tight;
  stands = λ first rest found adds.
      subst (λ (rs : List Record). OpenIsExtended p limit (first ++ rs) g.chain) (sym adds)
      (open_kept p limit (first ++ rec ∷ []) (first ++ kept ∷ []) g.chain
      (zip_append (IsKeptAs p) first (rec ∷ []) first (kept ∷ []) (same_records p first) (good, tt)) (g.stands first (kept ∷ []) found refl));
  closed = g.closed;
}
