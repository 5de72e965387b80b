-- One record more of the sequential pass.
use Rattle.std.proofs.Common.{◌≡◌, ◌∙◌, ap, sym, refl, Bool, true, false, cond, ◌||◌, if◌then◌else◌, List, [], ◌∷◌, ◌++◌, map, append-nil, Option, Some, None}
use Rattle.std.specs.Map.{lookup}
use Rattle.std.proofs.lemmas.List.{map-append}
use Rattle.sym_base.specs.declared.values.record.Record.{Record}
use Rattle.sym_base.specs.declared.values.value.Key.{Key}
use Rattle.sym_base.specs.declared.values.state.Outcome.{Outcome}
use Rattle.sym_base.specs.declared.values.state.Outcome.TheVariants.{Going}
use Rattle.sym_check.specs.Meaning.Groups.{is_key, is_among, key_of, records_of, keys, pass}
use Rattle.sym_check.specs.Plan.ScriptPlans.{ScriptPlan}
use Rattle.sym_check.specs.Meaning.Updates.{initial, step, after}
use Rattle.sym_check.proofs.GroupLaws.{keys_one, records_of_append, none_of}
use Rattle.sym_check.proofs.Keys.{equal_keys, same_key}
use Rattle.sym_check.proofs.PlanLaws.{after_more}
use Rattle.sym_plain.specs.Pairs.{has_key, put, standing, stepped, after_record}
use Rattle.sym_plain.proofs.Puts.{at_key}

-- ---- keys with what a function gives for each
module _ (f : Key → Outcome) where
  abbrev pairs : List Key → List (Key × Outcome)
  pairs ks = map (λ k. (k, f k)) ks

  has_key-pairs : (key : Key) (ks : List Key) → has_key (pairs ks) key ≡ is_among key ks
  has_key-pairs key [] = refl
  has_key-pairs key (k ∷ rest) = ap (λ (t : Bool). is_key key k || t) (has_key-pairs key rest)

  lookup-pairs : (key : Key) (ks : List Key) → lookup (is_key key) (pairs ks) ≡ (if is_among key ks then Some (f key) else None)
  lookup-pairs key [] = refl
  lookup-pairs key (k ∷ rest) = of (is_key key k) refl (lookup-pairs key rest)
    where
      of : (b : Bool) → is_key key k ≡ b → lookup (is_key key) (pairs rest) ≡ (if is_among key rest then Some (f key) else None)
          → cond b (Some (f k)) (lookup (is_key key) (pairs rest)) ≡ (if b || is_among key rest then Some (f key) else None)
      of true e later = ap (λ (x : Key). Some (f x)) (sym (equal_keys key k e))
      of false e later = later

module _ (p : ScriptPlan) (rec : Record) where
  -- What a function gives for each key after one record more.
  abbrev next : Key → (Key → Outcome) → Key → Outcome
  next key f k = if is_key key k then step p (f k) rec else f k

  set_pairs : (f : Key → Outcome) (key : Key) (ks : List Key) → map (at_key key (step p (f key) rec)) (pairs f ks) ≡ pairs (next key f) ks
  set_pairs f key [] = refl
  set_pairs f key (k ∷ rest) = of (is_key key k) refl (set_pairs f key rest)
    where
      of : (b : Bool) → is_key key k ≡ b → map (at_key key (step p (f key) rec)) (pairs f rest) ≡ pairs (next key f) rest
          → (if b then (k, step p (f key) rec) else (k, f k)) ∷ map (at_key key (step p (f key) rec)) (pairs f rest) ≡ (k, (if b then step p (f k) rec else f k)) ∷ pairs (next key f) rest
      of true e later = ap (λ (x : Key). (k, step p (f x) rec) ∷ map (at_key key (step p (f key) rec)) (pairs f rest)) (equal_keys key k e) ∙ ap (λ qs. (k, step p (f k) rec) ∷ qs) later
      of false e later = ap (λ qs. (k, f k) ∷ qs) later

  same_pairs : (f : Key → Outcome) (key : Key) (ks : List Key) → is_among key ks ≡ false → pairs (next key f) ks ≡ pairs f ks
  same_pairs f key [] h = refl
  same_pairs f key (k ∷ rest) h = of (is_key key k) refl h (same_pairs f key rest)
    where
      of : (b : Bool) → is_key key k ≡ b → (b || is_among key rest) ≡ false → (is_among key rest ≡ false → pairs (next key f) rest ≡ pairs f rest)
          → (k, (if b then step p (f k) rec else f k)) ∷ pairs (next key f) rest ≡ (k, f k) ∷ pairs f rest
      of true e g later = cc
      of false e g later = ap (λ qs. (k, f k) ∷ qs) (later g)

  there : (f : Key → Outcome) (key : Key) (ks : List Key) → is_among key ks ≡ true → stepped p key rec (pairs f ks) ≡ pairs (next key f) ks
  there f key ks h =
      ap (λ (r : Option Outcome). put (pairs f ks) key (step p (standing p r) rec)) (lookup-pairs f key ks ∙ ap (λ (t : Bool). if t then Some (f key) else None) h)
      ∙ ap (λ (t : Bool). if t then map (at_key key (step p (f key) rec)) (pairs f ks) else pairs f ks ++ (key, step p (f key) rec) ∷ []) (has_key-pairs f key ks ∙ h)
      ∙ set_pairs f key ks

  absent : (f : Key → Outcome) (key : Key) (ks : List Key) → is_among key ks ≡ false → f key ≡ Going (initial p) → stepped p key rec (pairs f ks) ≡ pairs (next key f) (ks ++ key ∷ [])
  absent f key ks h first =
      ap (λ (r : Option Outcome). put (pairs f ks) key (step p (standing p r) rec)) (lookup-pairs f key ks ∙ ap (λ (t : Bool). if t then Some (f key) else None) h)
      ∙ ap (λ (t : Bool). if t then map (at_key key (step p (Going (initial p)) rec)) (pairs f ks) else pairs f ks ++ (key, step p (Going (initial p)) rec) ∷ []) (has_key-pairs f key ks ∙ h)
      ∙ ap (λ (o : Outcome). pairs f ks ++ (key, step p o rec) ∷ []) (sym first)
      ∙ ap (λ qs. qs ++ (key, step p (f key) rec) ∷ []) (sym (same_pairs f key ks h))
      ∙ ap (λ (t : Bool). pairs (next key f) ks ++ (key, (if t then step p (f key) rec else f key)) ∷ []) (sym (same_key key))
      ∙ sym (map-append (λ k. (k, next key f k)) ks (key ∷ []))

-- ---- records
-- How the group of a key stands after its records.
abbrev outcome_after : ScriptPlan → List Record → Key → Outcome
outcome_after p records k = after p (records_of p k records) (Going (initial p))

outcome_next : (p : ScriptPlan) (records : List Record) (rec : Record) (k : Key) → outcome_after p (records ++ rec ∷ []) k ≡ next p rec (key_of p rec) (outcome_after p records) k
outcome_next p records rec k =
    ap (λ rs. after p rs (Going (initial p))) (records_of_append p k records (rec ∷ []))
    ∙ of (is_key (key_of p rec) k)
  where
    of : (b : Bool) → after p (records_of p k records ++ cond b (rec ∷ []) []) (Going (initial p)) ≡ (if b then step p (outcome_after p records k) rec else outcome_after p records k)
    of true = after_more p (records_of p k records) rec (Going (initial p))
    of false = ap (λ rs. after p rs (Going (initial p))) (append-nil (records_of p k records))

pairs-same : (f g : Key → Outcome) → ((k : Key) → f k ≡ g k) → (ks : List Key) → pairs f ks ≡ pairs g ks
pairs-same f g e [] = refl
pairs-same f g e (k ∷ rest) = ap (λ (o : Outcome). (k, o) ∷ pairs f rest) (e k) ∙ ap (λ qs. (k, g k) ∷ qs) (pairs-same f g e rest)

-- The pass over one record more is the pass before it and then the record.
pub pass_next : (p : ScriptPlan) (records : List Record) (rec : Record) → pass p (records ++ rec ∷ []) ≡ after_record p rec (pass p records)
pass_next p records rec =
    pairs-same (outcome_after p (records ++ rec ∷ [])) (next p rec (key_of p rec) (outcome_after p records)) (outcome_next p records rec) (keys p (records ++ rec ∷ []))
    ∙ ap (pairs (next p rec (key_of p rec) (outcome_after p records))) (keys_one p records rec)
    ∙ of (is_among (key_of p rec) (keys p records)) refl
  where
    of : (b : Bool) → is_among (key_of p rec) (keys p records) ≡ b
        → pairs (next p rec (key_of p rec) (outcome_after p records)) (if b then keys p records else keys p records ++ key_of p rec ∷ []) ≡ after_record p rec (pass p records)
    of true h = sym (there p rec (outcome_after p records) (key_of p rec) (keys p records) h)
    of false h =
        sym (absent p rec (outcome_after p records) (key_of p rec) (keys p records) h
        (ap (λ rs. after p rs (Going (initial p))) (none_of p (key_of p rec) records h)))
