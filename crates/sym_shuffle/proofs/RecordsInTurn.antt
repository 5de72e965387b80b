-- Records that make their steps one after the other, and batches of them.
use Rattle.std.proofs.Common.{◌≡◌, ◌∙◌, ap, ap₂, sym, refl, subst, arith, ℕ, zero, suc, ◌+◌, ◌<◌, ◌≤◌, Bool, List, [], ◌∷◌, ◌++◌, map, length, take, drop, get_or, Some, slice_get}
use Rattle.std.proofs.lemmas.List.{drop_all}
use Rattle.std.proofs.lemmas.List.Elements.{All-head, All-tail}
use Rattle.std.specs.List.{All, AllZip}
use Rattle.sym_base.specs.declared.values.value.Key.{Key}
use Rattle.sym_base.specs.declared.values.value.Value.{Value}
use Rattle.sym_base.specs.declared.values.record.Record.{Record}
use Rattle.sym_base.specs.declared.values.state.Outcome.{Outcome}
use Rattle.sym_check.specs.Meaning.Validity.{IsRecord}
use Rattle.sym_check.specs.Plan.ScriptPlans.{ScriptPlan}
use Rattle.sym_shuffle.specs.declared.batch.Batch.{Batch}
use Rattle.sym_shuffle.specs.Settled.{led_all}
use Rattle.sym_shuffle.specs.Shuffling.{AreHeld, AreReadMarks, IsPlaceOf, led, marked, marked_of, stepped_from, width_of}
use Rattle.sym_shuffle.proofs.MarkedValues.{marked_first}

-- ---- lists that go together
module _ {A B : Type 0} (R : A → B → Type 0) where
  pub zip_length : (xs : List A) (ys : List B) → AllZip R xs ys → length xs ≡ length ys
  zip_length [] [] h = refl
  zip_length [] (y ∷ ys) h = absurd h
  zip_length (x ∷ xs) [] h = absurd h
  zip_length (x ∷ xs) (y ∷ ys) h = ap suc (zip_length xs ys h.1)

  pub zip_both : (xs more : List A) (ys others : List B) → AllZip R xs ys → AllZip R more others → AllZip R (xs ++ more) (ys ++ others)
  zip_both [] more [] others h k = k
  zip_both [] more (y ∷ ys) others h k = absurd h
  zip_both (x ∷ xs) more [] others h k = absurd h
  zip_both (x ∷ xs) more (y ∷ ys) others h k = (h.0, zip_both xs more ys others h.1 k)

  -- One of the first list that goes with the one at an index of the second.
  pub record IsBeside (xs : List A) (i : ℕ) (y : B) : Type 0 where
    pub one : A
    pub at : slice_get xs i ≡ Some one
    pub is : R one y

  pub zip_beside : (xs : List A) (ys : List B) (i : ℕ) (d : B) → AllZip R xs ys → i < length ys → IsBeside xs i (get_or ys i d)
  zip_beside [] [] i d h lt = absurd (omega arith)
  zip_beside [] (y ∷ ys) i d h lt = absurd h
  zip_beside (x ∷ xs) [] i d h lt = absurd h
  zip_beside (x ∷ xs) (y ∷ ys) zero d h lt = record { one = x; at = refl; is = h.0 }
  zip_beside (x ∷ xs) (y ∷ ys) (suc i) d h lt =
      let later = zip_beside xs ys i d h.1 (omega arith) in
      record { one = later.one; at = later.at; is = later.is }

module _ {A : Type 0} where
  -- What is left of a list from an index on begins with what is there,
  pub left_at : (xs : List A) (i : ℕ) (x : A) → slice_get xs i ≡ Some x → drop i xs ≡ x ∷ drop (i + 1) xs
  left_at xs i x at = subst (λ (n : ℕ). drop i xs ≡ x ∷ drop n xs) (next i) (of xs i at)
    where
      next : (i : ℕ) → suc i ≡ i + 1
      next i = omega arith

      of : (xs : List A) (i : ℕ) → slice_get xs i ≡ Some x → drop i xs ≡ x ∷ drop (suc i) xs
      of [] i at = absurd cc
      of (y ∷ xs) zero at = let same : y ≡ x = cc in ap (λ z. z ∷ xs) same
      of (y ∷ xs) (suc i) at = of xs i at

  -- and there is something.
  pub record IsThere (xs : List A) (i : ℕ) : Type 0 where
    pub one : A
    pub at : slice_get xs i ≡ Some one

  pub there : (xs : List A) (i : ℕ) → i < length xs → IsThere xs i
  there [] i lt = absurd (omega arith)
  there (x ∷ xs) zero lt = record { one = x; at = refl }
  there (x ∷ xs) (suc i) lt = let later = there xs i (omega arith) in record { one = later.one; at = later.at }

  pub read_there : (xs : List A) (i : ℕ) (x : A) → i < length xs → x ≡ get_or xs i x → slice_get xs i ≡ Some x
  read_there [] i x lt is = absurd (omega arith)
  read_there (y ∷ xs) zero x lt is = ap Some (sym is)
  read_there (y ∷ xs) (suc i) x lt is = read_there xs i x (omega arith) is

  pub all_there : (P : A → Type 0) (xs : List A) (i : ℕ) (x : A) → All P xs → slice_get xs i ≡ Some x → P x
  all_there P [] i x h at = absurd cc
  all_there P (y ∷ xs) zero x h at = let same : y ≡ x = cc in subst P same (All-head P y xs h)
  all_there P (y ∷ xs) (suc i) x h at = all_there P xs i x (All-tail P y xs h) at

map_there : {A B : Type 0} (f : A → B) (xs : List A) (i : ℕ) (x : A) → slice_get xs i ≡ Some x → slice_get (map f xs) i ≡ Some (f x)
map_there f [] i x at = absurd cc
map_there f (y ∷ xs) zero x at = let same : y ≡ x = cc in ap (λ z. Some (f z)) same
map_there f (y ∷ xs) (suc i) x at = map_there f xs i x at

module _ (p : ScriptPlan) (start : ℕ) where
  -- ---- records after others
  pub led_more : (places more : List ℕ) (records others : List Record) (outcomes : List Outcome) → length places ≡ length records
      → led p start (places ++ more) (records ++ others) outcomes ≡ led p start more others (led p start places records outcomes)
  led_more [] more [] others outcomes h = refl
  led_more [] more (rec ∷ records) others outcomes h = absurd (omega (arith, h))
  led_more (place ∷ places) more [] others outcomes h = absurd (omega (arith, h))
  led_more (place ∷ places) more (rec ∷ records) others outcomes h =
      led_more places more records others (stepped_from p start place rec outcomes) (omega (arith, h))

  pub all_more : (batches more : List Batch) (records others : List (List Record)) (outcomes : List Outcome) → length batches ≡ length records
      → led_all p start (batches ++ more) (records ++ others) outcomes ≡ led_all p start more others (led_all p start batches records outcomes)
  all_more [] more [] others outcomes h = refl
  all_more [] more (first ∷ records) others outcomes h = absurd (omega (arith, h))
  all_more (batch ∷ batches) more [] others outcomes h = absurd (omega (arith, h))
  all_more (batch ∷ batches) more (first ∷ records) others outcomes h =
      all_more batches more records others (led p start batch.places.items first outcomes) (omega (arith, h))

  -- ---- from the front
  -- The next record makes its step.
  pub led_next : (places : List ℕ) (records : List Record) (i place : ℕ) (rec : Record) (outcomes : List Outcome) → slice_get places i ≡ Some place → slice_get records i ≡ Some rec
      → led p start (drop i places) (drop i records) outcomes ≡ led p start (drop (i + 1) places) (drop (i + 1) records) (stepped_from p start place rec outcomes)
  led_next places records i place rec outcomes at of =
      ap₂ (λ (ns : List ℕ) (rs : List Record). led p start ns rs outcomes) (left_at places i place at) (left_at records i rec of)

  pub led_none : (places : List ℕ) (records : List Record) (i : ℕ) (outcomes : List Outcome) → length places ≤ i → led p start (drop i places) (drop i records) outcomes ≡ outcomes
  led_none places records i outcomes h = ap (λ (ns : List ℕ). led p start ns (drop i records) outcomes) (drop_all i places h)

  -- The records of the next batch make their steps.
  pub all_next : (batches : List Batch) (records : List (List Record)) (i : ℕ) (batch : Batch) (first : List Record) (outcomes : List Outcome) → slice_get batches i ≡ Some batch → slice_get records i ≡ Some first
      → led_all p start (drop i batches) (drop i records) outcomes ≡ led_all p start (drop (i + 1) batches) (drop (i + 1) records) (led p start batch.places.items first outcomes)
  all_next batches records i batch first outcomes at of =
      ap₂ (λ (bs : List Batch) (rs : List (List Record)). led_all p start bs rs outcomes) (left_at batches i batch at) (left_at records i first of)

  pub all_none : (batches : List Batch) (records : List (List Record)) (i : ℕ) (outcomes : List Outcome) → length batches ≤ i → led_all p start (drop i batches) (drop i records) outcomes ≡ outcomes
  all_none batches records i outcomes h = ap (λ (bs : List Batch). led_all p start bs (drop i records) outcomes) (drop_all i batches h)

-- ---- the records that are held
pub held_length : (p : ScriptPlan) (marks : List Bool) (keys : List Key) (records : List Record) (places numbers : List ℕ) (values : List Value) → AreHeld p marks keys records places numbers values
    → length places ≡ length records
held_length p marks keys records places numbers values h = zip_length (IsPlaceOf p keys) places records h.places_are

-- The record at an index, of which the number and the place stand there too.
pub record IsHeldAt (p : ScriptPlan) (records : List Record) (numbers : List ℕ) (i : ℕ) : Type 0 where
  pub one : Record
  pub at : slice_get records i ≡ Some one
  pub number : slice_get numbers i ≡ Some one.no
  pub of_script : IsRecord p one

pub held_at : (p : ScriptPlan) (marks : List Bool) (keys : List Key) (records : List Record) (places numbers : List ℕ) (values : List Value) (i : ℕ) → AreHeld p marks keys records places numbers values → i < length places
    → IsHeldAt p records numbers i
held_at p marks keys records places numbers values i h lt =
    let long = held_length p marks keys records places numbers values h in
    let found = there records i (omega arith) in
    record {
      one = found.one;
      at = found.at;
      number = ap (λ (ns : List ℕ). slice_get ns i) h.numbers_are ∙ map_there (λ (rec : Record). rec.no) records i found.one found.at;
      of_script = all_there (IsRecord p) records i found.one h.of_script found.at;
    }

-- The first records of those that are held have made their steps; the values of the others are left.
pub record AreLeft (p : ScriptPlan) (marks : List Bool) (start : ℕ) (records : List Record) (places : List ℕ) (rest : List Value) (i : ℕ) (old now : List Outcome) : Type 0 where
  pub values : rest ≡ marked_of marks (drop i records)
  pub steps : led p start (drop i places) (drop i records) now ≡ led p start places records old

pub left_all : (p : ScriptPlan) (marks : List Bool) (keys : List Key) (start : ℕ) (records : List Record) (places numbers : List ℕ) (values rest : List Value) (old now : List Outcome) → AreHeld p marks keys records places numbers values
    → rest ≡ values → now ≡ old → AreLeft p marks start records places rest zero old now
left_all p marks keys start records places numbers values rest old now h is same = record {
  values = is ∙ h.values_are;
  steps = ap (led p start places records) same;
}

pub left_next : (p : ScriptPlan) (marks : List Bool) (keys : List Key) (start : ℕ) (records : List Record) (places numbers : List ℕ) (values rest : List Value) (i place number : ℕ) (old was now : List Outcome)
    → AreHeld p marks keys records places numbers values → AreReadMarks p marks → AreLeft p marks start records places rest i old was → i < length places → place ≡ get_or places i place → slice_get numbers i ≡ Some number
    → ((rec : Record) → IsRecord p rec → take (width_of marks) rest ≡ marked marks rec.fields → number ≡ rec.no → now ≡ stepped_from p start place rec was)
    → AreLeft p marks start records places (drop (width_of marks) rest) (i + 1) old now
left_next p marks keys start records places numbers values rest i place number old was now h m l lt is at step =
    let one = held_at p marks keys records places numbers values i h lt in
    let same : number ≡ one.one.no = let found = one.number in cc in
    let from : rest ≡ marked_of marks (one.one ∷ drop (i + 1) records) = l.values ∙ ap (marked_of marks) (left_at records i one.one one.at) in
    let first = marked_first p marks one.one (drop (i + 1) records) rest m one.of_script from in
    record {
      values = first.1;
      steps =
          ap (led p start (drop (i + 1) places) (drop (i + 1) records)) (step one.one one.of_script first.0 same)
          ∙ sym (led_next p start places records i place one.one was (read_there places i place lt is) one.at)
          ∙ l.steps;
    }

pub left_none : (p : ScriptPlan) (marks : List Bool) (start : ℕ) (records : List Record) (places : List ℕ) (rest : List Value) (i : ℕ) (old now : List Outcome) → AreLeft p marks start records places rest i old now → length places ≤ i
    → now ≡ led p start places records old
left_none p marks start records places rest i old now l h = sym (led_none p start places records i now h) ∙ l.steps
