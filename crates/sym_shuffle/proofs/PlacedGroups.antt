-- Groups by their places: records that step at the places of their groups step these groups.
use Rattle.std.proofs.Common.{◌≡◌, ◌∙◌, ap, ap₂, sym, refl, subst, arith, ℕ, zero, suc, ◌-◌, Bool, if◌then◌else◌, List, [], ◌∷◌, drop, length, Option, Some, slice_get}
use Rattle.std.proofs.lemmas.Bool.{le-leb}
use Rattle.std.proofs.lemmas.List.{take_at}
use Rattle.std.specs.List.{AllZip, IsDistinct, zip}
use Rattle.std.specs.Map.{keys_of, values_of}
use Rattle.indexmap.specs.Layout.{set_values}
use Rattle.sym_base.specs.declared.values.value.Key.{Key}
use Rattle.sym_base.specs.declared.values.record.Record.{Record}
use Rattle.sym_base.specs.declared.values.state.Outcome.{Outcome}
use Rattle.sym_check.specs.Meaning.Groups.{is_key, key_of}
use Rattle.sym_check.specs.Meaning.Updates.{step}
use Rattle.sym_check.specs.Plan.ScriptPlans.{ScriptPlan}
use Rattle.sym_plain.specs.Pairs.{HaveDistinctKeys, after_record, after_records, put, put_by_index, standing}
use Rattle.sym_plain.proofs.Pairs.{indexed-lookup, indexed-put}
use Rattle.sym_shuffle.specs.Shuffling.{IsPlaceOf, led, stepped_at, stepped_from}
use Rattle.sym_shuffle.proofs.Slices.{from_length}

-- ---- pairs
module _ {K V : Type 0} where
  pub values_length : (pairs : List (K × V)) → length (values_of pairs) ≡ length (keys_of pairs)
  values_length [] = refl
  values_length (q ∷ pairs) = ap suc (values_length pairs)

  pub zip_pairs : (pairs : List (K × V)) → zip (keys_of pairs) (values_of pairs) ≡ pairs
  zip_pairs [] = refl
  zip_pairs (q ∷ pairs) = ap (λ (qs : List (K × V)). q ∷ qs) (zip_pairs pairs)

  pub keys_zip : (keys : List K) (values : List V) → length values ≡ length keys → keys_of (zip keys values) ≡ keys
  keys_zip [] values h = refl
  keys_zip (k ∷ keys) [] h = absurd (omega arith)
  keys_zip (k ∷ keys) (v ∷ values) h = ap (λ (ks : List K). k ∷ ks) (keys_zip keys values (omega arith))

  pub values_zip : (keys : List K) (values : List V) → length values ≡ length keys → values_of (zip keys values) ≡ values
  values_zip [] [] h = refl
  values_zip [] (v ∷ values) h = absurd (omega arith)
  values_zip (k ∷ keys) [] h = refl
  values_zip (k ∷ keys) (v ∷ values) h = ap (λ (vs : List V). v ∷ vs) (values_zip keys values (omega arith))

  pairs_length : (pairs : List (K × V)) → length (keys_of pairs) ≡ length pairs
  pairs_length [] = refl
  pairs_length (q ∷ pairs) = ap suc (pairs_length pairs)

  -- As many values in place of those that there were.
  pub set_all : (pairs : List (K × V)) (values : List V) → length values ≡ length (values_of pairs) → set_values pairs values ≡ zip (keys_of pairs) values
  set_all pairs values h =
      let long : length values ≡ length pairs = h ∙ values_length pairs ∙ pairs_length pairs in
      ap (zip (keys_of pairs)) (take_at values (drop (length values) (values_of pairs)) (length pairs) long)

module _ (p : ScriptPlan) where
  -- ---- one step
  stepped_pairs : (groups : List (Key × Outcome)) (place : ℕ) (key : Key) (rec : Record) → slice_get (keys_of groups) place ≡ Some key
      → put_by_index groups place (step p (standing p (slice_get (values_of groups) place)) rec) ≡ zip (keys_of groups) (stepped_at p place rec (values_of groups))
  stepped_pairs [] place key rec at = absurd cc
  stepped_pairs (q ∷ groups) zero key rec at = ap (λ (qs : List (Key × Outcome)). (q.0, step p q.1 rec) ∷ qs) (sym (zip_pairs groups))
  stepped_pairs (q ∷ groups) (suc place) key rec at = ap (λ (qs : List (Key × Outcome)). q ∷ qs) (stepped_pairs groups place key rec at)

  -- Of all outcomes the first is at 0.
  pub from_all : (place : ℕ) (rec : Record) (outcomes : List Outcome) → stepped_from p 0 place rec outcomes ≡ stepped_at p place rec outcomes
  from_all place rec outcomes =
      let here : place - 0 ≡ place = omega arith in
      ap (λ (b : Bool). if b then stepped_at p (place - 0) rec outcomes else outcomes) (le-leb 0 place (omega arith))
      ∙ ap (λ (n : ℕ). stepped_at p n rec outcomes) here

  -- A record steps its group at the place of its key.
  pub placed_one : (groups : List (Key × Outcome)) (place : ℕ) (rec : Record) → HaveDistinctKeys groups → IsPlaceOf p (keys_of groups) place rec
      → after_record p rec groups ≡ zip (keys_of groups) (stepped_from p 0 place rec (values_of groups))
  placed_one groups place rec apart at =
      let k : Key = key_of p rec in
      ap (λ (r : Option Outcome). put groups k (step p (standing p r) rec)) (indexed-lookup groups k place apart at)
      ∙ sym (indexed-put groups k place (step p (standing p (slice_get (values_of groups) place)) rec) apart at)
      ∙ stepped_pairs groups place k rec at
      ∙ ap (zip (keys_of groups)) (sym (from_all place rec (values_of groups)))

  -- ---- many
  -- Records step their groups at the places of their keys, which stay.
  pub placed_all : (places : List ℕ) (records : List Record) (groups : List (Key × Outcome)) → HaveDistinctKeys groups → AllZip (IsPlaceOf p (keys_of groups)) places records
      → after_records p records groups ≡ zip (keys_of groups) (led p 0 places records (values_of groups))
  placed_all [] [] groups apart h = sym (zip_pairs groups)
  placed_all [] (rec ∷ records) groups apart h = absurd h
  placed_all (place ∷ places) [] groups apart h = absurd h
  placed_all (place ∷ places) (rec ∷ records) groups apart h =
      let now : List Outcome = stepped_from p 0 place rec (values_of groups) in
      let next : List (Key × Outcome) = zip (keys_of groups) now in
      let long : length now ≡ length (keys_of groups) = from_length p 0 place rec (values_of groups) ∙ values_length groups in
      let keys : keys_of next ≡ keys_of groups = keys_zip (keys_of groups) now long in
      ap (after_records p records) (placed_one groups place rec apart h.0)
      ∙ placed_all places records next (subst (IsDistinct is_key) (sym keys) apart) (subst (λ (ks : List Key). AllZip (IsPlaceOf p ks) places records) (sym keys) h.1)
      ∙ ap₂ (λ (ks : List Key) (os : List Outcome). zip ks (led p 0 places records os)) keys (values_zip (keys_of groups) now long)
