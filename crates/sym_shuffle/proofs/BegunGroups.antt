-- Groups that begin before their first records make their steps.
use Rattle.std.proofs.Common.{◌≡◌, ◌∙◌, ap, sym, refl, subst, arith, ℕ, zero, suc, ◌+◌, Bool, true, false, true≢false, ◌||◌, if◌then◌else◌, List, [], ◌∷◌, ◌++◌, map, length, append-nil, append_assoc, Option, Some, None, is_some, slice_get}
use Rattle.std.proofs.lemmas.List.Elements.{All-push}
use Rattle.std.proofs.lemmas.Map.Keys.{IsDistinct-push}
use Rattle.std.proofs.lemmas.Map.Made.{is_some-lookup}
use Rattle.std.specs.List.{IsDistinct}
use Rattle.std.specs.Map.{keys_of, lookup}
use Rattle.sym_base.specs.declared.values.value.Key.{Key}
use Rattle.sym_base.specs.declared.values.record.Record.{Record}
use Rattle.sym_base.specs.declared.values.state.Outcome.{Outcome}
use Rattle.sym_base.specs.declared.values.state.Outcome.TheVariants.{Going}
use Rattle.sym_check.specs.Meaning.Groups.{is_among, is_key, key_of}
use Rattle.sym_check.specs.Meaning.Updates.{initial, step}
use Rattle.sym_check.specs.Meaning.Validity.{IsValidOutcome}
use Rattle.sym_check.specs.Plan.ScriptPlans.{ScriptPlan}
use Rattle.sym_check.specs.Plan.WellFormed.{IsWellFormed}
use Rattle.sym_check.proofs.Keys.{equal_keys, keys_equiv, same_key}
use Rattle.sym_check.proofs.ValidSteps.{initial_valid}
use Rattle.sym_plain.specs.Pairs.{HaveDistinctKeys, after_record, after_records, has_key, put, standing}
use Rattle.sym_plain.proofs.Puts.{at_key, has-put, has-put-same, lookup-put, lookup-put-same, put-again, put-swap}
use Rattle.sym_shuffle.specs.Begun.{AreValid, begun, begun_one}

abbrev pub Groups : Type 0
Groups = List (Key × Outcome)

-- ---- keys
pub keys_both : {V : Type 0} (xs ys : List (Key × V)) → keys_of (xs ++ ys) ≡ keys_of xs ++ keys_of ys
keys_both [] ys = refl
keys_both (x ∷ xs) ys = ap (λ (ks : List Key). x.0 ∷ ks) (keys_both xs ys)

pub among_both : (key : Key) (xs ys : List Key) → is_among key (xs ++ ys) ≡ (is_among key xs || is_among key ys)
among_both key [] ys = refl
among_both key (x ∷ xs) ys = ap (λ (b : Bool). is_key key x || b) (among_both key xs ys) ∙ of (is_key key x)
  where
    of : (b : Bool) → (b || (is_among key xs || is_among key ys)) ≡ ((b || is_among key xs) || is_among key ys)
    of true = refl
    of false = refl

-- A key that has a place keeps it where more keys go last.
pub place_stays : (keys more : List Key) (place : ℕ) (key : Key) → slice_get keys place ≡ Some key → slice_get (keys ++ more) place ≡ Some key
place_stays [] more place key at = absurd cc
place_stays (k ∷ keys) more zero key at = at
place_stays (k ∷ keys) more (suc place) key at = place_stays keys more place key at

-- A key that has a place is one of the keys.
pub place_among : (keys : List Key) (place : ℕ) (key : Key) → slice_get keys place ≡ Some key → is_among key keys ≡ true
place_among [] place key at = absurd cc
place_among (k ∷ keys) zero key at =
    let same : key ≡ k = cc in
    ap (λ (b : Bool). b || is_among key keys) (ap (is_key key) (sym same) ∙ same_key key)
place_among (k ∷ keys) (suc place) key at = ap (λ (b : Bool). is_key key k || b) (place_among keys place key at) ∙ of (is_key key k)
  where
    of : (b : Bool) → (b || true) ≡ true
    of true = refl
    of false = refl

-- A key after others is at the place that comes next.
pub place_last : (keys : List Key) (key : Key) → slice_get (keys ++ key ∷ []) (length keys) ≡ Some key
place_last [] key = refl
place_last (k ∷ keys) key = place_last keys key

-- The place of a key among others that go after some.
pub place_after : (keys more : List Key) (place : ℕ) (key : Key) → slice_get more place ≡ Some key → slice_get (keys ++ more) (length keys + place) ≡ Some key
place_after [] more place key at = let same : 0 + place ≡ place = omega arith in ap (slice_get more) same ∙ at
place_after (k ∷ keys) more place key at =
    let next : suc (length keys) + place ≡ suc (length keys + place) = omega arith in
    ap (slice_get (k ∷ keys ++ more)) next ∙ place_after keys more place key at

keys_map : (key : Key) (o : Outcome) (groups : Groups) → keys_of (map (at_key key o) groups) ≡ keys_of groups
keys_map key o [] = refl
keys_map key o (q ∷ groups) = of (is_key key q.0) ∙ ap (λ (ks : List Key). q.0 ∷ ks) (keys_map key o groups)
  where
    of : (b : Bool) → keys_of ((if b then (q.0, o) else q) ∷ map (at_key key o) groups) ≡ q.0 ∷ keys_of (map (at_key key o) groups)
    of true = refl
    of false = refl

-- What is put for a key that is there changes no key.
pub keys_put : (key : Key) (o : Outcome) (groups : Groups) → has_key groups key ≡ true → keys_of (put groups key o) ≡ keys_of groups
keys_put key o groups h = ap (λ (b : Bool). keys_of (if b then map (at_key key o) groups else groups ++ (key, o) ∷ [])) h ∙ keys_map key o groups

module _ (p : ScriptPlan) where
  -- ---- one group
  -- A group that is there stays as it is.
  pub one_there : (key : Key) (groups : Groups) → is_among key (keys_of groups) ≡ true → begun_one p key groups ≡ groups
  one_there key groups h = ap (λ (b : Bool). if b then groups else groups ++ (key, Going (initial p)) ∷ []) h

  pub one_new : (key : Key) (groups : Groups) → is_among key (keys_of groups) ≡ false → begun_one p key groups ≡ groups ++ (key, Going (initial p)) ∷ []
  one_new key groups h = ap (λ (b : Bool). if b then groups else groups ++ (key, Going (initial p)) ∷ []) h

  -- A new group is put.
  one_put : (key : Key) (groups : Groups) → begun_one p key groups ≡ (if has_key groups key then groups else put groups key (Going (initial p)))
  one_put key groups = of (has_key groups key) refl
    where
      of : (b : Bool) → has_key groups key ≡ b → (if b then groups else groups ++ (key, Going (initial p)) ∷ []) ≡ (if b then groups else put groups key (Going (initial p)))
      of true h = refl
      of false h = sym (ap (λ (t : Bool). if t then map (at_key key (Going (initial p))) groups else groups ++ (key, Going (initial p)) ∷ []) h)

  pub keys_one : (key : Key) (groups : Groups) → keys_of (begun_one p key groups) ≡ (if is_among key (keys_of groups) then keys_of groups else keys_of groups ++ key ∷ [])
  keys_one key groups = of (has_key groups key)
    where
      of : (b : Bool) → keys_of (if b then groups else groups ++ (key, Going (initial p)) ∷ []) ≡ (if b then keys_of groups else keys_of groups ++ key ∷ [])
      of true = refl
      of false = keys_both groups ((key, Going (initial p)) ∷ [])

  -- It is there then,
  pub one_has : (key : Key) (groups : Groups) → has_key (begun_one p key groups) key ≡ true
  one_has key groups = ap (λ (gs : Groups). has_key gs key) (one_put key groups) ∙ of (has_key groups key) refl
    where
      of : (b : Bool) → has_key groups key ≡ b → has_key (if b then groups else put groups key (Going (initial p))) key ≡ true
      of true h = h
      of false h = has-put-same key (Going (initial p)) groups

  -- and so is what was there.
  pub one_keeps : (j key : Key) (groups : Groups) → has_key groups j ≡ true → has_key (begun_one p key groups) j ≡ true
  one_keeps j key groups h = ap (λ (gs : Groups). has_key gs j) (one_put key groups) ∙ of (has_key groups key)
    where
      of : (b : Bool) → has_key (if b then groups else put groups key (Going (initial p))) j ≡ true
      of true = h
      of false = has-put j key (Going (initial p)) groups h

  pub one_distinct : (key : Key) (groups : Groups) → HaveDistinctKeys groups → HaveDistinctKeys (begun_one p key groups)
  one_distinct key groups h = subst (IsDistinct is_key) (sym (keys_one key groups)) (of (is_among key (keys_of groups)) refl)
    where
      of : (b : Bool) → is_among key (keys_of groups) ≡ b → IsDistinct is_key (if b then keys_of groups else keys_of groups ++ key ∷ [])
      of true e = h
      of false e = IsDistinct-push keys_equiv (keys_of groups) key h e

  pub one_valid : IsWellFormed p → (key : Key) (groups : Groups) → AreValid p groups → AreValid p (begun_one p key groups)
  one_valid w key groups h = of (has_key groups key)
    where
      of : (b : Bool) → AreValid p (if b then groups else groups ++ (key, Going (initial p)) ∷ [])
      of true = h
      of false = All-push (λ (group : Key × Outcome). IsValidOutcome p group.1) groups (key, Going (initial p)) h (initial_valid p w)

  -- ---- many groups
  pub begun_both : (keys more : List Key) (groups : Groups) → begun p (keys ++ more) groups ≡ begun p more (begun p keys groups)
  begun_both [] more groups = refl
  begun_both (key ∷ keys) more groups = begun_both keys more (begun_one p key groups)

  pub begun_keeps : (j : Key) (keys : List Key) (groups : Groups) → has_key groups j ≡ true → has_key (begun p keys groups) j ≡ true
  begun_keeps j [] groups h = h
  begun_keeps j (key ∷ keys) groups h = begun_keeps j keys (begun_one p key groups) (one_keeps j key groups h)

  -- Each of the keys has its group then.
  pub begun_has : (j : Key) (keys : List Key) (groups : Groups) → is_among j keys ≡ true → has_key (begun p keys groups) j ≡ true
  begun_has j [] groups h = absurd (true≢false (sym h))
  begun_has j (key ∷ keys) groups h = of (is_key j key) refl h (begun_has j keys (begun_one p key groups))
    where
      of : (b : Bool) → is_key j key ≡ b → (b || is_among j keys) ≡ true → (is_among j keys ≡ true → has_key (begun p keys (begun_one p key groups)) j ≡ true)
          → has_key (begun p keys (begun_one p key groups)) j ≡ true
      of true e g later =
          begun_keeps j keys (begun_one p key groups)
          (subst (λ (k : Key). has_key (begun_one p key groups) k ≡ true) (sym (equal_keys j key e)) (one_has key groups))
      of false e g later = later g

  pub begun_distinct : (keys : List Key) (groups : Groups) → HaveDistinctKeys groups → HaveDistinctKeys (begun p keys groups)
  begun_distinct [] groups h = h
  begun_distinct (key ∷ keys) groups h = begun_distinct keys (begun_one p key groups) (one_distinct key groups h)

  pub begun_valid : IsWellFormed p → (keys : List Key) (groups : Groups) → AreValid p groups → AreValid p (begun p keys groups)
  begun_valid w [] groups h = h
  begun_valid w (key ∷ keys) groups h = begun_valid w keys (begun_one p key groups) (one_valid w key groups h)

  -- Groups go after those that there were.
  pub record IsGrown (groups now : Groups) : Type 0 where
    pub more : Groups
    pub is : now ≡ groups ++ more

  pub grown_on : (first groups now : Groups) → IsGrown first groups → IsGrown groups now → IsGrown first now
  grown_on first groups now h k = record {
    more = h.more ++ k.more;
    is = k.is ∙ ap (λ (gs : Groups). gs ++ k.more) h.is ∙ append_assoc first h.more k.more;
  }

  pub grown_none : (groups : Groups) → IsGrown groups groups
  grown_none groups = record { more = []; is = sym (append-nil groups) }

  pub one_grown : (key : Key) (groups : Groups) → IsGrown groups (begun_one p key groups)
  one_grown key groups = of (has_key groups key)
    where
      of : (b : Bool) → IsGrown groups (if b then groups else groups ++ (key, Going (initial p)) ∷ [])
      of true = grown_none groups
      of false = record { more = (key, Going (initial p)) ∷ []; is = refl }

  pub begun_grown : (keys : List Key) (groups : Groups) → IsGrown groups (begun p keys groups)
  begun_grown [] groups = grown_none groups
  begun_grown (key ∷ keys) groups = grown_on groups (begun_one p key groups) (begun p keys (begun_one p key groups)) (one_grown key groups) (begun_grown keys (begun_one p key groups))

  -- So their places stay.
  pub grown_place : (groups now : Groups) (place : ℕ) (key : Key) → IsGrown groups now → slice_get (keys_of groups) place ≡ Some key → slice_get (keys_of now) place ≡ Some key
  grown_place groups now place key h at =
      ap (λ (ks : List Key). slice_get ks place) (ap keys_of h.is ∙ keys_both groups h.more)
      ∙ place_stays (keys_of groups) (keys_of h.more) place key at

  -- Groups that are all there stay as they are.
  pub begun_there : (keys : List Key) (groups : Groups) → ((key : Key) → is_among key keys ≡ true → has_key groups key ≡ true) → begun p keys groups ≡ groups
  begun_there [] groups h = refl
  begun_there (key ∷ keys) groups h =
      ap (begun p keys) (one_there key groups (h key (ap (λ (b : Bool). b || is_among key keys) (same_key key))))
      ∙ begun_there keys groups (λ j e. h j (ap (λ (b : Bool). is_key j key || b) e ∙ of (is_key j key)))
    where
      of : (b : Bool) → (b || true) ≡ true
      of true = refl
      of false = refl

  -- A group that has just begun needs no second beginning.
  pub begun_again : (key : Key) (keys : List Key) (groups : Groups) → is_among key keys ≡ true → begun_one p key (begun p keys groups) ≡ begun p keys groups
  begun_again key keys groups h = one_there key (begun p keys groups) (begun_has key keys groups h)

  -- ---- groups that begin, and steps
  -- The group of a record may begin before its step.
  step_begun : (rec : Record) (groups : Groups) → after_record p rec (begun_one p (key_of p rec) groups) ≡ after_record p rec groups
  step_begun rec groups = ap (after_record p rec) (one_put (key_of p rec) groups) ∙ of (has_key groups (key_of p rec)) refl
    where
      none : (r : Option Outcome) → is_some r ≡ false → r ≡ None
      none None e = refl
      none (Some x) e = absurd (true≢false e)

      of : (b : Bool) → has_key groups (key_of p rec) ≡ b → after_record p rec (if b then groups else put groups (key_of p rec) (Going (initial p))) ≡ after_record p rec groups
      of true h = refl
      of false h =
          let absent : lookup (is_key (key_of p rec)) groups ≡ None = none (lookup (is_key (key_of p rec)) groups) (is_some-lookup (is_key (key_of p rec)) groups ∙ h) in
          ap (λ (r : Option Outcome). put (put groups (key_of p rec) (Going (initial p))) (key_of p rec) (step p (standing p r) rec)) (lookup-put-same (key_of p rec) (Going (initial p)) groups)
          ∙ put-again (key_of p rec) (Going (initial p)) (step p (Going (initial p)) rec) groups
          ∙ ap (λ (r : Option Outcome). put groups (key_of p rec) (step p (standing p r) rec)) (sym absent)

  -- Another group may begin before or after the step of one that is there.
  step_past : (key : Key) (rec : Record) (groups : Groups) → has_key groups (key_of p rec) ≡ true → after_record p rec (begun_one p key groups) ≡ begun_one p key (after_record p rec groups)
  step_past key rec groups h =
      ap (after_record p rec) (one_put key groups)
      ∙ of (has_key groups key) refl
      ∙ sym (one_put key (after_record p rec groups))
    where
      of : (b : Bool) → has_key groups key ≡ b → after_record p rec (if b then groups else put groups key (Going (initial p)))
          ≡ (if has_key (after_record p rec groups) key then after_record p rec groups else put (after_record p rec groups) key (Going (initial p)))
      of true e =
          let now : Outcome = step p (standing p (lookup (is_key (key_of p rec)) groups)) rec in
          sym (ap (λ (t : Bool). if t then after_record p rec groups else put (after_record p rec groups) key (Going (initial p))) (has-put key (key_of p rec) now groups e))
      of false e =
          let k : Key = key_of p rec in
          let now : Outcome = step p (standing p (lookup (is_key k) groups)) rec in
          let unlike : is_key k key ≡ false = apart (is_key k key) refl in
          ap (λ (r : Option Outcome). put (put groups key (Going (initial p))) k (step p (standing p r) rec)) (lookup-put k key (Going (initial p)) groups unlike)
          ∙ put-swap k key (Going (initial p)) now groups unlike h
          ∙ sym (ap (λ (t : Bool). if t then after_record p rec groups else put (after_record p rec groups) key (Going (initial p))) still)
        where
          apart : (t : Bool) → is_key (key_of p rec) key ≡ t → is_key (key_of p rec) key ≡ false
          apart true f = absurd (true≢false (sym h ∙ ap (has_key groups) (equal_keys (key_of p rec) key f) ∙ e))
          apart false f = f

          still : has_key (after_record p rec groups) key ≡ false
          still = ap (is_among key) (keys_put (key_of p rec) (step p (standing p (lookup (is_key (key_of p rec)) groups)) rec) groups h) ∙ e

  steps_past : (keys : List Key) (rec : Record) (groups : Groups) → has_key groups (key_of p rec) ≡ true → after_record p rec (begun p keys groups) ≡ begun p keys (after_record p rec groups)
  steps_past [] rec groups h = refl
  steps_past (key ∷ keys) rec groups h =
      steps_past keys rec (begun_one p key groups) (one_keeps (key_of p rec) key groups h)
      ∙ ap (begun p keys) (step_past key rec groups h)

  -- The groups of records may all begin before the first step.
  pub records_begun : (records : List Record) (groups : Groups) → after_records p records (begun p (map (key_of p) records) groups) ≡ after_records p records groups
  records_begun [] groups = refl
  records_begun (rec ∷ records) groups =
      ap (after_records p records)
      (steps_past (map (key_of p) records) rec (begun_one p (key_of p rec) groups) (one_has (key_of p rec) groups)
      ∙ ap (begun p (map (key_of p) records)) (step_begun rec groups))
      ∙ records_begun records (after_record p rec groups)
