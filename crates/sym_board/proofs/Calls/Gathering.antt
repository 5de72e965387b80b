-- What one seat counts, as pass after pass joins it.
use Rattle.std.proofs.Common.{◌≡◌, ℕ, ◌+◌, List, [], ◌∷◌, ◌++◌, length, length-append, All, sum_by, refl, sym, ap, ◌∙◌, subst, arith, Option, Some, None, Bool, true, false, if◌then◌else◌, is_some, true≢false}
use Rattle.std.proofs.lemmas.Option.{none-some}
use Rattle.std.proofs.lemmas.List.Elements.{All-push, All-pop}
use Rattle.std.proofs.lemmas.List.Sums.{sum_by_push}

-- Of the passes `all`, the seat counts those that aren't among the rest.
pub record Counted {X : Type 0} (Empty Going : X → Type 0) (claims : X → ℕ) (all rest : List X) (hand : Option ℕ) (passes claimed ended : ℕ) : Type 0 where
  pub rest_empty : All Empty rest
  pub no_hand : hand ≡ None
  pub passes_sum : passes + length rest ≡ length all
  pub claims_sum : claimed + sum_by claims rest ≡ sum_by claims all
  pub all_going : ended ≡ 0 → All Going rest → All Going all

module _ {X : Type 0} (Empty Going : X → Type 0) (claims : X → ℕ) where
  -- the first pass
  pub counted_first : (all rest : List X) (x : X) (hand : Option ℕ) (passes claimed ended : ℕ) → all ≡ rest ++ x ∷ [] → All Empty all → (Empty x → hand ≡ None) → passes ≡ 1 → claimed ≡ claims x → (ended ≡ 0 → Going x)
      → Counted Empty Going claims all rest hand passes claimed ended
  counted_first all rest x hand passes claimed ended e empty none one c going = let parts = All-pop Empty all rest (Some x) e empty in
      let len : length all ≡ length rest + 1 = ap length e ∙ length-append rest (x ∷ []) in let sum = ap (sum_by claims) e ∙ sum_by_push claims rest x in
      record { rest_empty = parts.0; no_hand = none parts.1; passes_sum = omega arith; claims_sum = omega arith; all_going = λ z a. subst (All Going) (sym e) (All-push Going rest x a (going z)) }

  -- one more pass
  pub counted_more : (all before rest : List X) (x : X) (hand : Option ℕ) (passes claimed ended passes2 claimed2 ended2 e : ℕ) → Counted Empty Going claims all before hand passes claimed ended → before ≡ rest ++ x ∷ []
      → passes2 ≡ passes + 1 → claimed2 ≡ claimed + claims x → ended2 ≡ ended + e → (e ≡ 0 → Going x) → Counted Empty Going claims all rest hand passes2 claimed2 ended2
  counted_more all before rest x hand passes claimed ended passes2 claimed2 ended2 e t d p c f going = let parts = All-pop Empty before rest (Some x) d t.rest_empty in
      let len : length before ≡ length rest + 1 = ap length d ∙ length-append rest (x ∷ []) in let sum = ap (sum_by claims) d ∙ sum_by_push claims rest x in
      let s1 = t.passes_sum in let s2 = t.claims_sum in
      record { rest_empty = parts.0; no_hand = t.no_hand; passes_sum = omega arith; claims_sum = omega arith; all_going = λ z a. t.all_going (omega arith) (subst (All Going) (sym d) (All-push Going rest x a (going (omega arith)))) }

  -- the pass that was popped had an empty hand
  pub popped_empty : (all before rest : List X) (x : X) (hand : Option ℕ) (passes claimed ended : ℕ) → Counted Empty Going claims all before hand passes claimed ended → before ≡ rest ++ x ∷ [] → Empty x
  popped_empty all before rest x hand passes claimed ended t d = let parts = All-pop Empty before rest (Some x) d t.rest_empty in parts.1

pub not_over : (b : Bool) (e : ℕ) → e ≡ (if b then 1 else 0) → e ≡ 0 → b ≡ false
not_over true e d z = absurd (omega arith)
not_over false e d z = refl

pub none_of : (h : Option ℕ) → is_some h ≡ false → h ≡ None
none_of None e = refl
none_of (Some k) e = absurd (true≢false e)

pub some_of : (h : Option ℕ) → is_some h ≡ true → h ≡ None → ⊥
some_of None e d = true≢false (sym e)
some_of (Some k) e d = absurd (none-some k (sym d))
