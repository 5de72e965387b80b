-- Steps at a place, as they are made, and the values that are left after each record.
use Rattle.std.proofs.Common.{◌≡◌, ◌∙◌, ap, sym, refl, arith, ℕ, zero, suc, ◌+◌, ◌-◌, ◌<◌, ◌≤◌, min, Bool, true, false, true≢false, if◌then◌else◌, List, [], ◌∷◌, length, take, drop, get_or, Result, Ok, Err, OnOk, is_err, slice_set}
use Rattle.std.proofs.lemmas.Bool.{leb-true, leb-false}
use Rattle.std.proofs.lemmas.List.{drop-drop, drop_all}
use Rattle.std.specs.Prelude.{nat_le}
use Rattle.sym_base.specs.declared.values.record.Record.{Record}
use Rattle.sym_base.specs.declared.values.state.Outcome.{Outcome}
use Rattle.sym_check.specs.Meaning.Updates.{step}
use Rattle.sym_check.specs.Plan.ScriptPlans.{ScriptPlan}
use Rattle.sym_shuffle.specs.Shuffling.{stepped_at, stepped_from}
use Rattle.sym_shuffle.proofs.Slices.{stepped_past}

module _ (p : ScriptPlan) where
  -- ---- one step
  set_there : (i : ℕ) (rec : Record) (outcomes : List Outcome) (d now : Outcome) → i < length outcomes → now ≡ step p (get_or outcomes i d) rec → slice_set outcomes i now ≡ stepped_at p i rec outcomes
  set_there i rec [] d now lt e = absurd (omega arith)
  set_there zero rec (o ∷ outcomes) d now lt e = ap (λ x. x ∷ outcomes) e
  set_there (suc i) rec (o ∷ outcomes) d now lt e = ap (λ xs. o ∷ xs) (set_there i rec outcomes d now (omega arith) e)

  -- The group at the place has made its step.
  pub stepped_here : (start place : ℕ) (rec : Record) (outcomes : List Outcome) (d now : Outcome) → start ≤ place → place - start < length outcomes → now ≡ step p (get_or outcomes (place - start) d) rec
      → slice_set outcomes (place - start) now ≡ stepped_from p start place rec outcomes
  stepped_here start place rec outcomes d now after lt e = of (nat_le start place) refl
    where
      of : (b : Bool) → nat_le start place ≡ b → slice_set outcomes (place - start) now ≡ (if b then stepped_at p (place - start) rec outcomes else outcomes)
      of true t = set_there (place - start) rec outcomes d now lt e
      of false t = let before : place < start = leb-false start place t in absurd (omega arith)

  -- A place before the outcomes, or after them, is none of theirs.
  pub stepped_before : (start place : ℕ) (rec : Record) (outcomes : List Outcome) → place < start → outcomes ≡ stepped_from p start place rec outcomes
  stepped_before start place rec outcomes before = of (nat_le start place) refl
    where
      of : (b : Bool) → nat_le start place ≡ b → outcomes ≡ (if b then stepped_at p (place - start) rec outcomes else outcomes)
      of true t = let after : start ≤ place = leb-true start place t in absurd (omega arith)
      of false t = refl

  pub stepped_after : (start place : ℕ) (rec : Record) (outcomes : List Outcome) → length outcomes ≤ place - start → outcomes ≡ stepped_from p start place rec outcomes
  stepped_after start place rec outcomes past = of (nat_le start place)
    where
      of : (b : Bool) → outcomes ≡ (if b then stepped_at p (place - start) rec outcomes else outcomes)
      of true = sym (stepped_past p (place - start) rec outcomes past)
      of false = refl

-- ---- values that are left
-- Where the values of a record are passed over, or all that there are.
pub next_left : {A : Type 0} (values : List A) (first width wide next cap : ℕ) → width ≡ wide → next ≡ min (first + width) cap → length values ≤ cap → drop next values ≡ drop wide (drop first values)
next_left values first width wide next cap same is few = of (nat_le (first + wide) cap) refl ∙ sym (drop-drop wide first values)
  where
    of : (b : Bool) → nat_le (first + wide) cap ≡ b → drop next values ≡ drop (first + wide) values
    of true t =
        let within : first + wide ≤ cap = leb-true (first + wide) cap t in
        let here : next ≡ first + wide = omega (arith, same, is) in
        ap (λ n. drop n values) here
    of false t =
        let past : cap < first + wide = leb-false (first + wide) cap t in
        drop_all next values (omega (arith, same, is, few)) ∙ sym (drop_all (first + wide) values (omega (arith, few)))

-- ---- what went well
pub no_err : {T E P : Type 0} (r : Result T E) → is_err r ≡ false → OnOk r P → P
no_err (Ok x) e h = h
no_err (Err x) e h = absurd (true≢false e)
