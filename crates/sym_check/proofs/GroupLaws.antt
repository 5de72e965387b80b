-- Laws of groups: their keys, their records, and the pass.
use Rattle.std.proofs.Common.{◌≡◌, ◌∙◌, ap, sym, refl, arith, suc, Bool, true, false, cond, ◌||◌, if◌then◌else◌, List, [], ◌∷◌, ◌++◌, map, not, true≢false}
use Rattle.std.specs.List.{All, filter, IsDistinct, slice_index_or}
use Rattle.std.proofs.lemmas.List.{map-append}
use Rattle.std.proofs.lemmas.List.Elements.{All-cons, All-filter, All-map, filter-append}
use Rattle.sym_base.specs.declared.values.record.Record.{Record}
use Rattle.sym_base.specs.declared.values.value.Key.{Key}
use Rattle.sym_base.specs.declared.values.state.Outcome.{Outcome}
use Rattle.sym_base.specs.declared.values.state.Outcome.TheVariants.{Going}
use Rattle.sym_check.specs.Meaning.Groups.{is_key, is_among, not_among, key_of, records_of, distinct, keys, pass}
use Rattle.sym_check.specs.Plan.ScriptPlans.{ScriptPlan}
use Rattle.sym_check.specs.Meaning.Updates.{initial, step, after}
use Rattle.sym_check.specs.Meaning.Validity.{IsRecord, IsKey, IsValidOutcome}
use Rattle.sym_check.specs.Plan.WellFormed.{IsWellFormed}
use Rattle.sym_check.proofs.Fits.{key_is}
use Rattle.sym_check.proofs.ValidSteps.{initial_valid, step_valid}
use Rattle.sym_check.proofs.Keys.{keys_equiv, turned, among-distinct, distinct_next, distinct_append, distinct_apart}

-- ---- keys
pub keys_apart : (p : ScriptPlan) (records : List Record) → IsDistinct is_key (keys p records)
keys_apart p records = distinct_apart (map (key_of p) records)

pub keys_one : (p : ScriptPlan) (records : List Record) (rec : Record) → keys p (records ++ rec ∷ []) ≡ (if is_among (key_of p rec) (keys p records) then keys p records else keys p records ++ key_of p rec ∷ [])
keys_one p records rec =
    ap distinct (map-append (key_of p) records (rec ∷ []))
    ∙ distinct_next (map (key_of p) records) (key_of p rec)
    ∙ ap (λ (t : Bool). if t then keys p records else keys p records ++ key_of p rec ∷ []) (sym (among-distinct (key_of p rec) (map (key_of p) records)))

pub keys_append : (p : ScriptPlan) (first rest : List Record) → keys p (first ++ rest) ≡ keys p first ++ not_among (keys p first) (keys p rest)
keys_append p first rest =
    ap distinct (map-append (key_of p) first rest) ∙ distinct_append (map (key_of p) first) (map (key_of p) rest)

-- ---- records
pub records_of_append : (p : ScriptPlan) (k : Key) (first rest : List Record) → records_of p k (first ++ rest) ≡ records_of p k first ++ records_of p k rest
records_of_append p k first rest = filter-append (λ rec. is_key (key_of p rec) k) first rest

none_among : (p : ScriptPlan) (key : Key) (records : List Record) → is_among key (map (key_of p) records) ≡ false → records_of p key records ≡ []
none_among p key [] h = refl
none_among p key (r ∷ rest) h = of (is_key (key_of p r) key) refl h (none_among p key rest)
  where
    of : (b : Bool) → is_key (key_of p r) key ≡ b → (is_key key (key_of p r) || is_among key (map (key_of p) rest)) ≡ false
        → (is_among key (map (key_of p) rest) ≡ false → records_of p key rest ≡ []) → cond b (r ∷ records_of p key rest) (records_of p key rest) ≡ []
    of true e g later = absurd (true≢false (sym (ap (λ (t : Bool). t || is_among key (map (key_of p) rest)) (turned (key_of p r) key e)) ∙ g))
    of false e g later =
        let apart : is_key key (key_of p r) ≡ false = keys_equiv.symm key (key_of p r) ∙ e in
        later (sym (ap (λ (t : Bool). t || is_among key (map (key_of p) rest)) apart) ∙ g)

pub none_of : (p : ScriptPlan) (key : Key) (records : List Record) → is_among key (keys p records) ≡ false → records_of p key records ≡ []
none_of p key records h = none_among p key records (sym (among-distinct key (map (key_of p) records)) ∙ h)

-- ---- the pass
all_distinct : (P : Key → Type 0) (ks : List Key) → All P ks → All P (distinct ks)
all_distinct P [] h = h
all_distinct P (k ∷ rest) h =
    All-cons P k (filter (λ other. not (is_key other k)) (distinct rest)) (h 0 k (omega arith))
    (All-filter (λ other. not (is_key other k)) P (distinct rest) (all_distinct P rest (λ i d lt. h (suc i) d (omega arith))))

pub pass_keys : (p : ScriptPlan) (records : List Record) → All (IsRecord p) records → All (λ pair. IsKey p pair.0) (pass p records)
pass_keys p records all =
    All-map (λ pair. IsKey p pair.0) (λ k. (k, after p (records_of p k records) (Going (initial p)))) (keys p records)
    (all_distinct (IsKey p) (map (key_of p) records)
    (All-map (IsKey p) (key_of p) records (λ i d lt. key_is p (slice_index_or records i d) (all i d lt))))

-- Valid outcomes stay valid.
pub after_valid : (p : ScriptPlan) (records : List Record) (o : Outcome) → IsWellFormed p → All (IsRecord p) records → IsValidOutcome p o → IsValidOutcome p (after p records o)
after_valid p [] o w all h = h
after_valid p (rec ∷ records) o w all h =
    after_valid p records (step p o rec) w (λ i d lt. all (suc i) d (omega arith))
    (step_valid p o rec w (all 0 rec (omega arith)) h)

pub pass_outcomes : (p : ScriptPlan) (records : List Record) → IsWellFormed p → All (IsRecord p) records → All (λ pair. IsValidOutcome p pair.1) (pass p records)
pass_outcomes p records w all =
    All-map (λ pair. IsValidOutcome p pair.1) (λ k. (k, after p (records_of p k records) (Going (initial p)))) (keys p records)
    (λ i d lt. after_valid p (records_of p (slice_index_or (keys p records) i d) records) (Going (initial p)) w
    (All-filter (λ rec. is_key (key_of p rec) (slice_index_or (keys p records) i d)) (IsRecord p) records all)
    (initial_valid p w))
