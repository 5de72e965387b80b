-- The groups after many records: each key makes the steps of its own records.
use Rattle.std.proofs.Common.{◌≡◌, ◌∙◌, ap, sym, refl, subst, Bool, true, false, cond, ◌||◌, List, [], ◌∷◌, ◌++◌, append-nil, append_assoc, Option, true≢false, if◌then◌else◌}
use Rattle.std.specs.List.{AllByRecursion, IsDistinct}
use Rattle.std.specs.Map.{lookup}
use Rattle.std.proofs.lemmas.Map.Keys.{IsDistinct-head, IsDistinct-tail}
use Rattle.sym_base.specs.declared.values.record.Record.{Record}
use Rattle.sym_base.specs.declared.values.value.Key.{Key}
use Rattle.sym_base.specs.declared.values.state.Outcome.{Outcome}
use Rattle.sym_check.specs.Meaning.Groups.{is_key, is_among, key_of, records_of, keys, pass}
use Rattle.sym_check.specs.Plan.ScriptPlans.{ScriptPlan}
use Rattle.sym_check.specs.Meaning.Updates.{step, after}
use Rattle.sym_check.proofs.GroupLaws.{keys_apart, keys_one, records_of_append, none_of}
use Rattle.sym_check.proofs.Keys.{equal_keys, same_key, keys_equiv}
use Rattle.sym_check.proofs.PlanLaws.{after_more}
use Rattle.sym_plain.specs.Pairs.{has_key, put, standing, stepped, after_record, after_records, stepped_by, after_keys}
use Rattle.sym_plain.proofs.Passes.{pass_next}
use Rattle.sym_plain.proofs.Puts.{Pairs, has-put, has-put-same, lookup-put, lookup-put-same, put-again, put-swap}

snoc : (p : ScriptPlan) (records : List Record) (rec : Record) (xs : Pairs Outcome) → after_records p (records ++ rec ∷ []) xs ≡ after_record p rec (after_records p records xs)
snoc p [] rec xs = refl
snoc p (first ∷ records) rec xs = snoc p records rec (after_record p first xs)

-- ---- the records of a key
other_records : (p : ScriptPlan) (records : List Record) (rec : Record) (j : Key) → is_key (key_of p rec) j ≡ false → records_of p j (records ++ rec ∷ []) ≡ records_of p j records
other_records p records rec j e =
    records_of_append p j records (rec ∷ [])
    ∙ ap (λ (t : Bool). records_of p j records ++ cond t (rec ∷ []) []) e
    ∙ append-nil (records_of p j records)

own_records : (p : ScriptPlan) (records : List Record) (rec : Record) → records_of p (key_of p rec) (records ++ rec ∷ []) ≡ records_of p (key_of p rec) records ++ rec ∷ []
own_records p records rec =
    records_of_append p (key_of p rec) records (rec ∷ [])
    ∙ ap (λ (t : Bool). records_of p (key_of p rec) records ++ cond t (rec ∷ []) []) (same_key (key_of p rec))

-- ---- one key
module _ (p : ScriptPlan) (records : List Record) (rec : Record) where
  abbrev more : List Record
  more = records ++ rec ∷ []

  by_others : (j : Key) (xs : Pairs Outcome) → is_key (key_of p rec) j ≡ false → stepped_by p more j xs ≡ stepped_by p records j xs
  by_others j xs e = ap (λ (rs : List Record). put xs j (after p rs (standing p (lookup (is_key j) xs)))) (other_records p records rec j e)

  by_own : (xs : Pairs Outcome) → stepped_by p more (key_of p rec) xs ≡ stepped p (key_of p rec) rec (stepped_by p records (key_of p rec) xs)
  by_own xs =
      let k : Key = key_of p rec in
      let s : Outcome = standing p (lookup (is_key k) xs) in
      let o : Outcome = after p (records_of p k records) s in
      ap (λ (rs : List Record). put xs k (after p rs s)) (own_records p records rec)
      ∙ ap (put xs k) (after_more p (records_of p k records) rec s)
      ∙ sym (put-again k o (step p o rec) xs)
      ∙ ap (λ (r : Option Outcome). put (put xs k o) k (step p (standing p r) rec)) (sym (lookup-put-same k o xs))

  by_swap : (j : Key) (xs : Pairs Outcome) → is_key (key_of p rec) j ≡ false → has_key xs (key_of p rec) ≡ true
      → stepped p (key_of p rec) rec (stepped_by p records j xs) ≡ stepped_by p records j (stepped p (key_of p rec) rec xs)
  by_swap j xs e h =
      let k : Key = key_of p rec in
      let o : Outcome = after p (records_of p j records) (standing p (lookup (is_key j) xs)) in
      let now : Outcome = step p (standing p (lookup (is_key k) xs)) rec in
      let back : is_key j k ≡ false = keys_equiv.symm j k ∙ e in
      ap (λ (r : Option Outcome). put (put xs j o) k (step p (standing p r) rec)) (lookup-put k j o xs e)
      ∙ put-swap k j o now xs e h
      ∙ ap (λ (r : Option Outcome). put (put xs k now) j (after p (records_of p j records) (standing p r))) (sym (lookup-put j k now xs back))

  -- ---- many keys
  none_here : (b c : Bool) → (b || c) ≡ false → b ≡ false
  none_here true c h = h
  none_here false c h = refl

  none_later : (b c : Bool) → (b || c) ≡ false → c ≡ false
  none_later true c h = absurd (true≢false h)
  none_later false c h = h

  keys_of_others : (ks : List Key) (xs : Pairs Outcome) → is_among (key_of p rec) ks ≡ false → after_keys p more ks xs ≡ after_keys p records ks xs
  keys_of_others [] xs h = refl
  keys_of_others (j ∷ rest) xs h =
      ap (after_keys p more rest) (by_others j xs (none_here (is_key (key_of p rec) j) (is_among (key_of p rec) rest) h))
      ∙ keys_of_others rest (stepped_by p records j xs) (none_later (is_key (key_of p rec) j) (is_among (key_of p rec) rest) h)

  past_others : (ks : List Key) (xs : Pairs Outcome) → is_among (key_of p rec) ks ≡ false → has_key xs (key_of p rec) ≡ true
      → stepped p (key_of p rec) rec (after_keys p records ks xs) ≡ after_keys p records ks (stepped p (key_of p rec) rec xs)
  past_others [] xs h there = refl
  past_others (j ∷ rest) xs h there =
      let here = none_here (is_key (key_of p rec) j) (is_among (key_of p rec) rest) h in
      let later = none_later (is_key (key_of p rec) j) (is_among (key_of p rec) rest) h in
      let o : Outcome = after p (records_of p j records) (standing p (lookup (is_key j) xs)) in
      past_others rest (stepped_by p records j xs) later (has-put (key_of p rec) j o xs there)
      ∙ ap (after_keys p records rest) (by_swap j xs here there)

  at_head : (rest : List Key) (xs : Pairs Outcome) → is_among (key_of p rec) rest ≡ false
      → after_keys p more (key_of p rec ∷ rest) xs ≡ stepped p (key_of p rec) rec (after_keys p records (key_of p rec ∷ rest) xs)
  at_head rest xs h =
      let k : Key = key_of p rec in
      let o : Outcome = after p (records_of p k records) (standing p (lookup (is_key k) xs)) in
      keys_of_others rest (stepped_by p more k xs) h
      ∙ ap (after_keys p records rest) (by_own xs)
      ∙ sym (past_others rest (stepped_by p records k xs) h (has-put-same k o xs))

  none_like : (ks : List Key) (j : Key) → is_key (key_of p rec) j ≡ true → AllByRecursion (λ y. is_key j y ≡ false) ks → is_among (key_of p rec) ks ≡ false
  none_like [] j e h = refl
  none_like (y ∷ ks) j e h =
      ap (λ (x : Key). is_key x y || is_among (key_of p rec) ks) (equal_keys (key_of p rec) j e)
      ∙ ap (λ (t : Bool). t || is_among (key_of p rec) ks) h.0
      ∙ none_like ks j e h.1

  among : (ks : List Key) (xs : Pairs Outcome) → IsDistinct is_key ks → is_among (key_of p rec) ks ≡ true
      → after_keys p more ks xs ≡ stepped p (key_of p rec) rec (after_keys p records ks xs)
  among [] xs d h = absurd (true≢false (sym h))
  among (j ∷ rest) xs d h =
      of (is_key (key_of p rec) j) refl h (among rest (stepped_by p records j xs) (IsDistinct-tail is_key j rest d))
    where
      of : (b : Bool) → is_key (key_of p rec) j ≡ b → (b || is_among (key_of p rec) rest) ≡ true
          → (is_among (key_of p rec) rest ≡ true → after_keys p more rest (stepped_by p records j xs) ≡ stepped p (key_of p rec) rec (after_keys p records rest (stepped_by p records j xs)))
          → after_keys p more (j ∷ rest) xs ≡ stepped p (key_of p rec) rec (after_keys p records (j ∷ rest) xs)
      of true e g later =
          subst (λ (i : Key). after_keys p more (i ∷ rest) xs ≡ stepped p (key_of p rec) rec (after_keys p records (i ∷ rest) xs))
          (equal_keys (key_of p rec) j e)
          (at_head rest xs (none_like rest j e (IsDistinct-head is_key j rest d)))
      of false e g later =
          ap (after_keys p more rest) (by_others j xs e)
          ∙ later g

  last_key : (rs : List Record) (ks : List Key) (k : Key) (xs : Pairs Outcome) → after_keys p rs (ks ++ k ∷ []) xs ≡ stepped_by p rs k (after_keys p rs ks xs)
  last_key rs [] k xs = refl
  last_key rs (j ∷ ks) k xs = last_key rs ks k (stepped_by p rs j xs)

  absent : (xs : Pairs Outcome) → is_among (key_of p rec) (keys p records) ≡ false
      → after_keys p more (keys p records ++ key_of p rec ∷ []) xs ≡ stepped p (key_of p rec) rec (after_keys p records (keys p records) xs)
  absent xs h =
      let k : Key = key_of p rec in
      let was : Pairs Outcome = after_keys p records (keys p records) xs in
      last_key more (keys p records) k xs
      ∙ ap (stepped_by p more k) (keys_of_others (keys p records) xs h)
      ∙ ap (λ (rs : List Record). put was k (after p rs (standing p (lookup (is_key k) was))))
      (own_records p records rec ∙ ap (λ (rs : List Record). rs ++ rec ∷ []) (none_of p k records h))

  -- One record more.
  next : (xs : Pairs Outcome) → after_keys p more (keys p more) xs ≡ after_record p rec (after_keys p records (keys p records) xs)
  next xs =
      ap (λ (ks : List Key). after_keys p more ks xs) (keys_one p records rec)
      ∙ of (is_among (key_of p rec) (keys p records)) refl
    where
      of : (b : Bool) → is_among (key_of p rec) (keys p records) ≡ b
          → after_keys p more (if b then keys p records else keys p records ++ key_of p rec ∷ []) xs ≡ after_record p rec (after_keys p records (keys p records) xs)
      of true h = among (keys p records) xs (keys_apart p records) h
      of false h = absent xs h

apart_on : (p : ScriptPlan) (first rest : List Record) (xs : Pairs Outcome) → after_records p first xs ≡ after_keys p first (keys p first) xs
    → after_records p (first ++ rest) xs ≡ after_keys p (first ++ rest) (keys p (first ++ rest)) xs
apart_on p first [] xs e =
    subst (λ (rs : List Record). after_records p rs xs ≡ after_keys p rs (keys p rs) xs) (sym (append-nil first)) e
apart_on p first (rec ∷ rest) xs e =
    subst (λ (rs : List Record). after_records p rs xs ≡ after_keys p rs (keys p rs) xs) (append_assoc first (rec ∷ []) rest)
    (apart_on p (first ++ rec ∷ []) rest xs (snoc p first rec xs ∙ ap (after_record p rec) e ∙ sym (next p first rec xs)))

-- Groups go apart: each key makes the steps of its own records.
pub groups_apart : (p : ScriptPlan) (records : List Record) (xs : Pairs Outcome) → after_records p records xs ≡ after_keys p records (keys p records) xs
groups_apart p records xs = apart_on p [] records xs refl

-- Records in order are the first ones and then the others.
pub records_on : (p : ScriptPlan) (first rest : List Record) (xs : Pairs Outcome) → after_records p rest (after_records p first xs) ≡ after_records p (first ++ rest) xs
records_on p [] rest xs = refl
records_on p (rec ∷ first) rest xs = records_on p first rest (after_record p rec xs)

-- The pass over more records goes on from where it stands.
pub pass_more : (p : ScriptPlan) (first rest : List Record) → after_records p rest (pass p first) ≡ pass p (first ++ rest)
pass_more p first [] = ap (pass p) (sym (append-nil first))
pass_more p first (rec ∷ rest) =
    ap (after_records p rest) (sym (pass_next p first rec))
    ∙ pass_more p (first ++ rec ∷ []) rest
    ∙ ap (pass p) (append_assoc first (rec ∷ []) rest)
