-- Lists of rounds, and their records.
use Rattle.std.proofs.Common.{◌≡◌, ◌∙◌, refl, ap, ℕ, ◌≤◌, inl, inr, arith, append-nil, length-append, List, [], ◌∷◌, ◌++◌, length}
use Rattle.std.proofs.lemmas.Grind.{flat_map-append}
use Rattle.std.proofs.lemmas.List.Elements.{All-head, All-push, All-tail}
use Rattle.sym_base.specs.declared.values.record.Record.{Record}
use Rattle.sym_files.specs.FileRounds.{AreDone, AreFull, AreRounds, rounds_records}
use Rattle.sym_files.specs.FileRounds as rounds

abbrev pub Rounds : Type 0
Rounds = List (List Record)

pub records_more : (rs : Rounds) (r : List Record) → rounds_records (rs ++ r ∷ []) ≡ rounds_records rs ++ r
records_more rs r =
    flat_map-append (λ (x : List Record). x) rs (r ∷ []) ∙ ap (λ x. rounds_records rs ++ x) (append-nil r)

pub records_both : (rs qs : Rounds) → rounds_records (rs ++ qs) ≡ rounds_records rs ++ rounds_records qs
records_both rs qs = flat_map-append (λ (x : List Record). x) rs qs

abbrev Has : ℕ → List Record → Type 0
Has per round = length round ≡ per

pub full_rounds : (per : ℕ) (rs : Rounds) → AreFull per rs → AreRounds per rs
full_rounds per [] full = rounds.no_round
full_rounds per (r ∷ rs) full =
    rounds.one_more r rs (All-head (Has per) r rs full) (full_rounds per rs (All-tail (Has per) r rs full))

pub one_round_more : (per : ℕ) (rs : Rounds) (r : List Record) → AreFull per rs → 1 ≤ length r → length r ≤ per → AreRounds per (rs ++ r ∷ [])
one_round_more per [] r full some most = rounds.last_one r some most
one_round_more per (q ∷ rs) r full some most =
    rounds.one_more q (rs ++ r ∷ []) (All-head (Has per) q rs full) (one_round_more per rs r (All-tail (Has per) q rs full) some most)

pub one_full_more : (per : ℕ) (rs : Rounds) (r : List Record) → AreFull per rs → length r ≡ per → AreFull per (rs ++ r ∷ [])
one_full_more per rs r full same = All-push (Has per) rs r full same

-- Rounds without records are none.
pub none_of_none : (per : ℕ) (rs : Rounds) → 1 ≤ per → AreRounds per rs → rounds_records rs ≡ [] → rs ≡ []
none_of_none per _ some rounds.no_round e = refl
none_of_none per _ some (rounds.last_one round has most) e = absurd (omega (arith, ap length e, length-append round [], has))
none_of_none per _ some (rounds.one_more round rs has are) e = absurd (omega (arith, ap length e, length-append round (rounds_records rs), has, some))

-- While something is left, all rounds are full.
pub still_full : {A : Type 0} (per : ℕ) (rs : Rounds) (left : List A) → AreDone per rs left → 1 ≤ length left → AreFull per rs
still_full per rs left (inl full) some = full
still_full per rs left (inr ends) some = absurd (omega (arith, some, ap length ends.1))

pub are_rounds : {A : Type 0} (per : ℕ) (rs : Rounds) (left : List A) → AreDone per rs left → AreRounds per rs
are_rounds per rs left (inl full) = full_rounds per rs full
are_rounds per rs left (inr ends) = ends.0
