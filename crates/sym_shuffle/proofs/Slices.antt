-- Outcomes that are led in slices: each slice is led by the same records, apart from the others.
use Rattle.std.proofs.Common.{◌≡◌, ◌∙◌, ap, ap₂, sym, refl, arith, ℕ, zero, suc, ◌+◌, ◌-◌, ◌<◌, ◌≤◌, Bool, true, false, if◌then◌else◌, List, [], ◌∷◌, ◌++◌, length}
use Rattle.std.proofs.lemmas.Bool.{leb-true, leb-false}
use Rattle.std.specs.Prelude.{nat_le}
use Rattle.sym_base.specs.declared.values.record.Record.{Record}
use Rattle.sym_base.specs.declared.values.state.Outcome.{Outcome}
use Rattle.sym_check.specs.Plan.ScriptPlans.{ScriptPlan}
use Rattle.sym_shuffle.specs.declared.batch.Batch.{Batch}
use Rattle.sym_shuffle.specs.Settled.{led_all}
use Rattle.sym_shuffle.specs.Shuffling.{led, stepped_at, stepped_from}

module _ (p : ScriptPlan) where
  -- ---- one step
  -- A step changes no length.
  pub stepped_length : (i : ℕ) (rec : Record) (outcomes : List Outcome) → length (stepped_at p i rec outcomes) ≡ length outcomes
  stepped_length i rec [] = refl
  stepped_length zero rec (o ∷ outcomes) = refl
  stepped_length (suc i) rec (o ∷ outcomes) = ap suc (stepped_length i rec outcomes)

  -- A step past the outcomes leaves them as they are.
  pub stepped_past : (i : ℕ) (rec : Record) (outcomes : List Outcome) → length outcomes ≤ i → stepped_at p i rec outcomes ≡ outcomes
  stepped_past i rec [] h = refl
  stepped_past zero rec (o ∷ outcomes) h = absurd (omega arith)
  stepped_past (suc i) rec (o ∷ outcomes) h = ap (λ os. o ∷ os) (stepped_past i rec outcomes (omega arith))

  -- A step of one in front is a step there,
  stepped_front : (i : ℕ) (rec : Record) (front back : List Outcome) → i < length front → stepped_at p i rec (front ++ back) ≡ stepped_at p i rec front ++ back
  stepped_front i rec [] back h = absurd (omega arith)
  stepped_front zero rec (o ∷ front) back h = refl
  stepped_front (suc i) rec (o ∷ front) back h = ap (λ os. o ∷ os) (stepped_front i rec front back (omega arith))

  -- and one of those after them is a step among these.
  stepped_back : (i j : ℕ) (rec : Record) (front back : List Outcome) → i ≡ length front + j → stepped_at p i rec (front ++ back) ≡ front ++ stepped_at p j rec back
  stepped_back i j rec [] back h = let same : i ≡ j = omega arith in ap (λ k. stepped_at p k rec back) same
  stepped_back zero j rec (o ∷ front) back h = absurd (omega arith)
  stepped_back (suc i) j rec (o ∷ front) back h = ap (λ os. o ∷ os) (stepped_back i j rec front back (omega arith))

  -- A step at a place, of outcomes in two parts.
  pub from_both : (start place : ℕ) (rec : Record) (front back : List Outcome)
      → stepped_from p start place rec (front ++ back) ≡ stepped_from p start place rec front ++ stepped_from p (start + length front) place rec back
  from_both start place rec front back = of (nat_le start place) (nat_le (start + length front) place) refl refl
    where
      of : (a b : Bool) → nat_le start place ≡ a → nat_le (start + length front) place ≡ b
          → (if a then stepped_at p (place - start) rec (front ++ back) else front ++ back)
          ≡ (if a then stepped_at p (place - start) rec front else front) ++ (if b then stepped_at p (place - (start + length front)) rec back else back)
      of true true s t =
          let within : start + length front ≤ place = leb-true (start + length front) place t in
          stepped_back (place - start) (place - (start + length front)) rec front back (omega arith)
          ∙ ap (λ os. os ++ stepped_at p (place - (start + length front)) rec back) (sym (stepped_past (place - start) rec front (omega arith)))
      of true false s t =
          let from : start ≤ place = leb-true start place s in
          let before : place < start + length front = leb-false (start + length front) place t in
          stepped_front (place - start) rec front back (omega arith)
      of false true s t =
          let before : place < start = leb-false start place s in
          let within : start + length front ≤ place = leb-true (start + length front) place t in
          absurd (omega arith)
      of false false s t = refl

  pub from_length : (start place : ℕ) (rec : Record) (outcomes : List Outcome) → length (stepped_from p start place rec outcomes) ≡ length outcomes
  from_length start place rec outcomes = of (nat_le start place)
    where
      of : (a : Bool) → length (if a then stepped_at p (place - start) rec outcomes else outcomes) ≡ length outcomes
      of true = stepped_length (place - start) rec outcomes
      of false = refl

  -- ---- many records
  pub led_length : (start : ℕ) (places : List ℕ) (records : List Record) (outcomes : List Outcome) → length (led p start places records outcomes) ≡ length outcomes
  led_length start [] records outcomes = refl
  led_length start (place ∷ places) [] outcomes = refl
  led_length start (place ∷ places) (rec ∷ records) outcomes =
      led_length start places records (stepped_from p start place rec outcomes)
      ∙ from_length start place rec outcomes

  -- Each of two parts is led apart from the other.
  pub led_both : (start : ℕ) (places : List ℕ) (records : List Record) (front back : List Outcome)
      → led p start places records (front ++ back) ≡ led p start places records front ++ led p (start + length front) places records back
  led_both start [] records front back = refl
  led_both start (place ∷ places) [] front back = refl
  led_both start (place ∷ places) (rec ∷ records) front back =
      let first : List Outcome = stepped_from p start place rec front in
      let second : List Outcome = stepped_from p (start + length front) place rec back in
      ap (led p start places records) (from_both start place rec front back)
      ∙ led_both start places records first second
      ∙ ap (λ n. led p start places records first ++ led p (start + n) places records second) (from_length start place rec front)

  -- ---- many batches
  pub all_length : (start : ℕ) (batches : List Batch) (records : List (List Record)) (outcomes : List Outcome) → length (led_all p start batches records outcomes) ≡ length outcomes
  all_length start [] records outcomes = refl
  all_length start (batch ∷ batches) [] outcomes = refl
  all_length start (batch ∷ batches) (first ∷ records) outcomes =
      all_length start batches records (led p start batch.places.items first outcomes)
      ∙ led_length start batch.places.items first outcomes

  pub all_both : (start : ℕ) (batches : List Batch) (records : List (List Record)) (front back : List Outcome)
      → led_all p start batches records (front ++ back) ≡ led_all p start batches records front ++ led_all p (start + length front) batches records back
  all_both start [] records front back = refl
  all_both start (batch ∷ batches) [] front back = refl
  all_both start (batch ∷ batches) (first ∷ records) front back =
      let low : List Outcome = led p start batch.places.items first front in
      let high : List Outcome = led p (start + length front) batch.places.items first back in
      ap (led_all p start batches records) (led_both start batch.places.items first front back)
      ∙ all_both start batches records low high
      ∙ ap (λ n. led_all p start batches records low ++ led_all p (start + n) batches records high) (led_length start batch.places.items first front)

  -- The two parts of outcomes that were led, put together.
  pub all_parts : (start next : ℕ) (batches : List Batch) (records : List (List Record)) (front back whole first second : List Outcome) → whole ≡ front ++ back → next ≡ start + length front
      → first ≡ led_all p start batches records front → second ≡ led_all p next batches records back → first ++ second ≡ led_all p start batches records whole
  all_parts start next batches records front back whole first second is at low high =
      ap₂ (λ (xs ys : List Outcome). xs ++ ys) low (high ∙ ap (λ n. led_all p n batches records back) at)
      ∙ sym (all_both start batches records front back)
      ∙ ap (led_all p start batches records) (sym is)
