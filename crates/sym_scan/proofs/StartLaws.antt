-- The starts of keys, in the place of all groups.
use Rattle.std.proofs.Common.{◌≡◌, ◌∙◌, ap, sym, refl, subst, ℕ, ◌+◌, Bool, true, false, cond, ◌||◌, if◌then◌else◌, List, [], ◌∷◌, ◌++◌, map, append-nil, take, drop, get_or, Option, Some, None, slice_get}
use Rattle.std.proofs.lemmas.Grind.{flat_map-append}
use Rattle.std.proofs.lemmas.List.{map-append, take-append-drop, take_more}
use Rattle.std.proofs.lemmas.Option.{get_or_from_slice_get, slice_get_within}
use Rattle.std.specs.Map.{keys_of, lookup}
use Rattle.sym_base.specs.declared.values.value.Key.{Key}
use Rattle.sym_base.specs.declared.values.record.Record.{Record}
use Rattle.sym_base.specs.declared.values.state.Outcome.{Outcome}
use Rattle.sym_check.specs.Meaning.Groups.{is_among, is_key, key_of, keys}
use Rattle.sym_check.specs.Plan.ScriptPlans.{ScriptPlan}
use Rattle.sym_check.proofs.Keys.{among-distinct, equal_keys}
use Rattle.sym_plain.specs.Pairs.{HaveDistinctKeys, standing}
use Rattle.sym_run.proofs.GroupPuts.{new_key}
use Rattle.sym_scan.specs.Traces.{from_groups, rows_after}
use Rattle.sym_scan.specs.Replays.{start_of, starts_of}
use Rattle.sym_scan.proofs.Lists.{left_from}
use Rattle.sym_scan.proofs.Standing.{Pairs}
use Rattle.sym_scan.proofs.TraceRows.{rows_same}

-- A key has its start exactly where it is one of the keys and its group is there.
pub lookup-starts : (groups : Pairs) (k : Key) (ks : List Key) → lookup (is_key k) (starts_of groups ks) ≡ (if is_among k ks then lookup (is_key k) groups else None)
lookup-starts groups k [] = refl
lookup-starts groups k (j ∷ ks) = of (is_key k j) refl (lookup (is_key j) groups) refl (lookup-starts groups k ks)
  where
    absent : (c : Bool) → lookup (is_key k) groups ≡ None → (if c then lookup (is_key k) groups else None) ≡ lookup (is_key k) groups
    absent true e = refl
    absent false e = sym e

    of : (b : Bool) → is_key k j ≡ b → (found : Option Outcome) → lookup (is_key j) groups ≡ found
        → lookup (is_key k) (starts_of groups ks) ≡ (if is_among k ks then lookup (is_key k) groups else None)
        → lookup (is_key k) (start_of j found ++ starts_of groups ks) ≡ (if b || is_among k ks then lookup (is_key k) groups else None)
    of true e (Some o) f later =
        ap (λ (t : Bool). cond t (Some o) (lookup (is_key k) (starts_of groups ks))) e
        ∙ sym f
        ∙ ap (λ (i : Key). lookup (is_key i) groups) (sym (equal_keys k j e))
    of true e None f later =
        later ∙ absent (is_among k ks) (ap (λ (i : Key). lookup (is_key i) groups) (equal_keys k j e) ∙ f)
    of false e (Some o) f later = ap (λ (t : Bool). cond t (Some o) (lookup (is_key k) (starts_of groups ks))) e ∙ later
    of false e None f later = later

-- The starts of the keys of records give the rows that all groups give.
pub rows_started : (p : ScriptPlan) (every : ℕ) (groups : Pairs) (records : List Record)
    → rows_after p every (from_groups p (starts_of groups (keys p records))) [] records ≡ rows_after p every (from_groups p groups) [] records
rows_started p every groups records =
    rows_same p every (from_groups p (starts_of groups (keys p records))) (from_groups p groups) [] records
    (λ k h.
    ap (standing p)
    (lookup-starts groups k (keys p records)
    ∙ ap (λ (b : Bool). if b then lookup (is_key k) groups else None) (among-distinct k (map (key_of p) records) ∙ h)))

-- ---- key by key
module _ {V : Type 0} (groups : Pairs) (pairs : List (Key × V)) (i : ℕ) (q : Key × V) (at : slice_get pairs i ≡ Some q) where
  item_is : q ≡ get_or pairs i q
  item_is = sym (get_or_from_slice_get pairs i q q at)

  -- The starts of the keys of one pair more.
  pub starts_next : starts_of groups (keys_of (take (i + 1) pairs)) ≡ starts_of groups (keys_of (take i pairs)) ++ start_of q.0 (lookup (is_key q.0) groups)
  starts_next =
      ap (λ (qs : List (Key × V)). starts_of groups (keys_of qs)) (take_more pairs i q (slice_get_within pairs i q at) ∙ ap (λ (x : Key × V). take i pairs ++ x ∷ []) (sym item_is))
      ∙ ap (starts_of groups) (map-append (λ (x : Key × V). x.0) (take i pairs) (q ∷ []))
      ∙ flat_map-append (λ key. start_of key (lookup (is_key key) groups)) (keys_of (take i pairs)) (q.0 ∷ [])
      ∙ ap (λ (more : Pairs). starts_of groups (keys_of (take i pairs)) ++ more) (append-nil (start_of q.0 (lookup (is_key q.0) groups)))

  split : take i pairs ++ q ∷ drop (i + 1) pairs ≡ pairs
  split = ap (λ (rest : List (Key × V)). take i pairs ++ rest) (sym (left_from pairs i q (slice_get_within pairs i q at) item_is)) ∙ take-append-drop i pairs

  -- A key of distinct ones isn't among the starts of those before it.
  pub start_absent : HaveDistinctKeys pairs → lookup (is_key q.0) (starts_of groups (keys_of (take i pairs))) ≡ None
  start_absent distinct =
      lookup-starts groups q.0 (keys_of (take i pairs))
      ∙ ap (λ (b : Bool). if b then lookup (is_key q.0) groups else None) (new_key (take i pairs) q (drop (i + 1) pairs) (subst HaveDistinctKeys (sym split) distinct))
