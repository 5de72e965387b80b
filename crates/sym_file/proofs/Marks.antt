-- Marks of the groups whose keys a text has named.
use Rattle.std.proofs.Common.{◌≡◌, ◌∙◌, ℕ, zero, suc, ◌≤◌, refl, sym, ap, subst, arith, Bool, true, false, ◌||◌, List, [], ◌∷◌, ◌++◌, if◌then◌else◌, map, length, get_or, set, replicate, Option, Some, None, true≢false}
use Rattle.std.specs.Prelude.{slice_get}
use Rattle.std.specs.List.{AllByRecursion, filter, IsDistinct}
use Rattle.std.specs.Map.{keys_of, lookup}
use Rattle.std.proofs.lemmas.List.{length_push, map-append}
use Rattle.std.proofs.lemmas.List.Folds.{list_any-append}
use Rattle.std.proofs.lemmas.Map.Keys.{IsDistinct-head, IsDistinct-tail}
use Rattle.std.proofs.lemmas.Option.{get_or_from_slice_get}
use Rattle.sym_base.specs.declared.values.value.Key.{Key}
use Rattle.sym_base.specs.declared.values.state.Outcome.{Outcome}
use Rattle.sym_check.specs.Meaning.Groups.{is_among, is_key}
use Rattle.sym_check.proofs.Keys.{equal_keys, keys_equiv, same_key}
use Rattle.sym_check.specs.Plan.ScriptPlans.{ScriptPlan}
use Rattle.sym_plain.specs.Pairs.{HaveDistinctKeys, put}
use Rattle.sym_plain.proofs.Pairs.{at-index}
use Rattle.sym_run.specs.Chained.{Chained}
use Rattle.sym_run.specs.ClosedJoins.{GrowsByClosed}
use Rattle.sym_run.proofs.GroupPuts.{absent_key, keys-put}
use Rattle.sym_file.specs.JoinedTexts.{Chains, IsJoinedOnce}
use Rattle.sym_file.specs.Marks.{AreMarks, IsTakenOnce}
use Rattle.sym_file.specs.Totals.{IsTaken}

-- ---- how many are set
abbrev set_in : List Bool → ℕ
set_in marks = length (filter (λ mark. mark) marks)

one_set : (marks : List Bool) (index : ℕ) → slice_get marks index ≡ Some false → set_in (set marks index true) ≡ suc (set_in marks)
one_set [] index at = absurd cc
one_set (true ∷ marks) zero at = absurd cc
one_set (false ∷ marks) zero at = refl
one_set (true ∷ marks) (suc index) at = ap suc (one_set marks index at)
one_set (false ∷ marks) (suc index) at = one_set marks index at

one_more : (marks : List Bool) → set_in (marks ++ true ∷ []) ≡ suc (set_in marks)
one_more [] = refl
one_more (true ∷ marks) = ap suc (one_more marks)
one_more (false ∷ marks) = one_more marks

at_most : (marks : List Bool) → set_in marks ≤ length marks
at_most [] = omega arith
at_most (true ∷ marks) = let h = at_most marks in omega (arith, h)
at_most (false ∷ marks) = let h = at_most marks in omega (arith, h)

none_set : (n : ℕ) → set_in (replicate n false) ≡ 0
none_set zero = refl
none_set (suc n) = none_set n

-- ---- which are set
or_split : (a b : Bool) → (a || b) ≡ false → (a ≡ false) × (b ≡ false)
or_split true b e = absurd cc
or_split false b e = (refl, e)

or_false : (b : Bool) → (b || (false || false)) ≡ b
or_false true = refl
or_false false = refl

or_true : (b : Bool) → (b || (true || false)) ≡ true
or_true true = refl
or_true false = refl

none_among : (key : Key) (keys : List Key) → AllByRecursion (λ k. is_key key k ≡ false) keys → is_among key keys ≡ false
none_among key [] h = refl
none_among key (k ∷ keys) h = ap (λ (b : Bool). b || is_among key keys) h.0 ∙ none_among key keys h.1

among_at : (keys : List Key) (index : ℕ) (key : Key) → slice_get keys index ≡ Some key → is_among key keys ≡ true
among_at [] index key at = absurd cc
among_at (k ∷ keys) zero key at =
    let same : k ≡ key = cc in
    ap (λ (b : Bool). b || is_among key keys) (ap (is_key key) same ∙ same_key key)
among_at (k ∷ keys) (suc index) key at = of (is_key key k) (among_at keys index key at)
  where
    of : (b : Bool) → is_among key keys ≡ true → (b || is_among key keys) ≡ true
    of true h = refl
    of false h = h

at_map : (test : Key → Bool) (keys : List Key) (index : ℕ) (key : Key) → slice_get keys index ≡ Some key → slice_get (map test keys) index ≡ Some (test key)
at_map test [] index key at = absurd cc
at_map test (k ∷ keys) zero key at = let same : k ≡ key = cc in ap (λ (j : Key). Some (test j)) same
at_map test (k ∷ keys) (suc index) key at = at_map test keys index key at

-- No keys are named at first.
unmarked : {V : Type 0} (groups : List (Key × V)) (n : ℕ) → n ≡ length groups → replicate n false ≡ map (λ key. is_among key []) (keys_of groups)
unmarked [] zero e = refl
unmarked [] (suc n) e = absurd cc
unmarked (g ∷ groups) zero e = absurd cc
unmarked (g ∷ groups) (suc n) e = let same : n ≡ length groups = omega (arith, e) in ap (λ (ms : List Bool). false ∷ ms) (unmarked groups n same)

pub no_marks : {V : Type 0} (groups : List (Key × V)) (marks : List Bool) (n : ℕ) → marks ≡ replicate n false → n ≡ length groups → AreMarks [] groups marks
no_marks groups marks n is many = record {
  each = is ∙ unmarked groups n many;
  there = λ key h. absurd (true≢false (sym h));
  count = ap set_in is ∙ none_set n;
}

module _ {V : Type 0} (seen : List Key) (groups : List (Key × V)) (marks : List Bool) (is : AreMarks seen groups marks) where
  pub marks_many : length marks ≡ length groups
  marks_many = ap length is.each ∙ many groups
    where
      many : (pairs : List (Key × V)) → length (map (λ key. is_among key seen) (keys_of pairs)) ≡ length pairs
      many [] = refl
      many (p ∷ pairs) = ap suc (many pairs)

  pub seen_few : length seen ≤ length marks
  seen_few = subst (λ (n : ℕ). n ≤ length marks) is.count (at_most marks)

  module _ (key : Key) where
    -- The keys, and this one.
    abbrev more : List Key
    more = seen ++ key ∷ []

    among_other : (k : Key) → is_key k key ≡ false → is_among k more ≡ is_among k seen
    among_other k e = list_any-append (is_key k) seen (key ∷ []) ∙ ap (λ (b : Bool). is_among k seen || (b || false)) e ∙ or_false (is_among k seen)

    among_last : is_among key more ≡ true
    among_last = list_any-append (is_key key) seen (key ∷ []) ∙ ap (λ (b : Bool). is_among key seen || (b || false)) (same_key key) ∙ or_true (is_among key seen)

    marks_stay : (keys : List Key) → is_among key keys ≡ false → map (λ k. is_among k seen) keys ≡ map (λ k. is_among k more) keys
    marks_stay [] e = refl
    marks_stay (k ∷ keys) e =
        let h = or_split (is_key key k) (is_among key keys) e in
        let other : is_among k seen ≡ is_among k more = sym (among_other k (keys_equiv.symm k key ∙ h.0)) in
        ap (λ (b : Bool). b ∷ map (λ k. is_among k seen) keys) other ∙ ap (λ (ms : List Bool). is_among k more ∷ ms) (marks_stay keys h.1)

    mark_set : (keys : List Key) (index : ℕ) → IsDistinct is_key keys → slice_get keys index ≡ Some key → set (map (λ k. is_among k seen) keys) index true ≡ map (λ k. is_among k more) keys
    mark_set [] index apart at = absurd cc
    mark_set (k ∷ keys) zero apart at =
        let same : k ≡ key = cc in
        let none : is_among key keys ≡ false = ap (λ (j : Key). is_among j keys) (sym same) ∙ none_among k keys (IsDistinct-head is_key k keys apart) in
        let here : true ≡ is_among k more = sym (ap (λ (j : Key). is_among j more) same ∙ among_last) in
        ap (λ (ms : List Bool). true ∷ ms) (marks_stay keys none) ∙ ap (λ (b : Bool). b ∷ map (λ k. is_among k more) keys) here
    mark_set (k ∷ keys) (suc index) apart at =
        let other : is_key k key ≡ false = at-index (λ j. is_key k j ≡ false) keys index key (IsDistinct-head is_key k keys apart) at in
        ap (λ (ms : List Bool). is_among k seen ∷ ms) (mark_set keys index (IsDistinct-tail is_key k keys apart) at)
        ∙ ap (λ (b : Bool). b ∷ map (λ k. is_among k more) keys) (sym (among_other k other))

    -- The keys that are named all have groups, where this one has.
    all_there : (new : List (Key × V)) → ((k : Key) → is_among k (keys_of groups) ≡ true → is_among k (keys_of new) ≡ true) → is_among key (keys_of new) ≡ true
        → (k : Key) → is_among k more ≡ true → is_among k (keys_of new) ≡ true
    all_there new kept last k h = of (is_key k key) refl
      where
        of : (b : Bool) → is_key k key ≡ b → is_among k (keys_of new) ≡ true
        of true e = ap (λ (j : Key). is_among j (keys_of new)) (equal_keys k key e) ∙ last
        of false e = kept k (is.there k (sym (among_other k e) ∙ h))

    -- The mark of a group that is there,
    module _ (index : ℕ) (at : slice_get (keys_of groups) index ≡ Some key) where
      mark_is : slice_get marks index ≡ Some (is_among key seen)
      mark_is = ap (λ (ms : List Bool). slice_get ms index) is.each ∙ at_map (λ k. is_among k seen) (keys_of groups) index key at

      pub seen_is : (mark : Bool) → mark ≡ get_or marks index mark → is_among key seen ≡ mark
      seen_is mark e = sym (get_or_from_slice_get marks index (is_among key seen) mark mark_is) ∙ sym e

      marked : (new : List (Key × V)) → HaveDistinctKeys groups → is_among key seen ≡ false → keys_of new ≡ keys_of groups → AreMarks more new (set marks index true)
      marked new apart fresh same =
          let kept : (k : Key) → is_among k (keys_of groups) ≡ true → is_among k (keys_of new) ≡ true = λ k h. ap (is_among k) same ∙ h in
          record {
            each =
                ap (λ (ms : List Bool). set ms index true) is.each
                ∙ mark_set (keys_of groups) index apart at
                ∙ ap (λ (ks : List Key). map (λ k. is_among k more) ks) (sym same);
            there = all_there new kept (kept key (among_at (keys_of groups) index key at));
            count = one_set marks index (mark_is ∙ ap Some fresh) ∙ ap suc is.count ∙ sym (length_push seen key ∙ omega arith);
          }

    -- and that of a new one.
    module _ (absent : is_among key (keys_of groups) ≡ false) where
      not_seen : is_among key seen ≡ false
      not_seen = of (is_among key seen) refl
        where
          of : (b : Bool) → is_among key seen ≡ b → b ≡ false
          of true h = absurd (true≢false (sym (is.there key h) ∙ absent))
          of false h = refl

      marked_last : (new : List (Key × V)) → keys_of new ≡ keys_of groups ++ key ∷ [] → AreMarks more new (marks ++ true ∷ [])
      marked_last new same =
          let kept : (k : Key) → is_among k (keys_of groups) ≡ true → is_among k (keys_of new) ≡ true = λ k h.
          ap (is_among k) same ∙ list_any-append (is_key k) (keys_of groups) (key ∷ []) ∙ ap (λ (b : Bool). b || is_among k (key ∷ [])) h in
          let last : is_among key (keys_of new) ≡ true =
          ap (is_among key) same
          ∙ list_any-append (is_key key) (keys_of groups) (key ∷ [])
          ∙ ap (λ (b : Bool). is_among key (keys_of groups) || (b || false)) (same_key key)
          ∙ or_true (is_among key (keys_of groups)) in
          record {
            each =
                ap (λ (ms : List Bool). ms ++ true ∷ []) (is.each ∙ marks_stay (keys_of groups) absent)
                ∙ ap (λ (b : Bool). map (λ k. is_among k more) (keys_of groups) ++ b ∷ []) (sym among_last)
                ∙ sym (map-append (λ k. is_among k more) (keys_of groups) (key ∷ []))
                ∙ ap (λ (ks : List Key). map (λ k. is_among k more) ks) (sym same);
            there = all_there new kept last;
            count = one_more marks ∙ ap suc is.count ∙ sym (length_push seen key ∙ omega arith);
          }

    keys_put : (there : Bool) → is_among key (keys_of groups) ≡ there → (value : V) (new : List (Key × V)) → new ≡ put groups key value → keys_of new ≡ (if there then keys_of groups else keys_of groups ++ key ∷ [])
    keys_put there e value new h = ap keys_of h ∙ keys-put key value groups ∙ ap (λ (t : Bool). if t then keys_of groups else keys_of groups ++ key ∷ []) e

    -- ---- one group more
    module _ (value : V) (new : List (Key × V)) (is_put : new ≡ put groups key value) where
      pub marked_there : (index : ℕ) → slice_get (keys_of groups) index ≡ Some key → HaveDistinctKeys groups → is_among key seen ≡ false → AreMarks more new (set marks index true)
      marked_there index at apart fresh = marked index at new apart fresh (keys_put true (among_at (keys_of groups) index key at) value new is_put)

      pub marked_new : (now : List Bool) → lookup (is_key key) groups ≡ None → now ≡ marks ++ true ∷ [] → (is_among key seen ≡ false) × AreMarks more new now
      marked_new now none longer =
          let absent : is_among key (keys_of groups) ≡ false = absent_key key groups none in
          (not_seen absent, subst (AreMarks more new) (sym longer) (marked_last absent new (keys_put false absent value new is_put)))

-- ---- one group more that is taken
module _ (seen : List Key) (groups : List (Key × Outcome)) (marks : List Bool) (is : AreMarks seen groups marks) (key : Key) (led : Option Outcome) (b : Bool) (new : List (Key × Outcome)) (taken : IsTaken key groups led b new) where
  pub once_there : (index : ℕ) → slice_get (keys_of groups) index ≡ Some key → HaveDistinctKeys groups → is_among key seen ≡ false → IsTakenOnce seen key groups led (Some b) new (set marks index true)
  once_there index at apart fresh = of b taken
    where
      of : (c : Bool) → IsTaken key groups led c new → IsTakenOnce seen key groups led (Some c) new (set marks index true)
      of true h = (fresh, h, marked_there seen groups marks is key h.0 new h.2 index at apart fresh)
      of false h = h

  pub once_new : (now : List Bool) → lookup (is_key key) groups ≡ None → now ≡ marks ++ true ∷ [] → IsTakenOnce seen key groups led (Some b) new now
  once_new now none longer = of b taken
    where
      of : (c : Bool) → IsTaken key groups led c new → IsTakenOnce seen key groups led (Some c) new now
      of true h =
          let last = marked_new seen groups marks is key h.0 new h.2 now none longer in
          (last.0, h, last.1)
      of false h = h

-- ---- one group more that is joined
module _ (p : ScriptPlan) (limit : ℕ) (seen : List Key) (groups : Chains) (marks : List Bool) (is : AreMarks seen groups marks) (key : Key) (chain : Chained) (new : Chains) (grows : GrowsByClosed p limit key chain groups new) where
  pub joined_there : (index : ℕ) → slice_get (keys_of groups) index ≡ Some key → HaveDistinctKeys groups → is_among key seen ≡ false → IsJoinedOnce p limit seen key chain groups true new (set marks index true)
  joined_there index at apart fresh = (fresh, grows, marked_there seen groups marks is key grows.chain new grows.is index at apart fresh)

  pub joined_new : (now : List Bool) → lookup (is_key key) groups ≡ None → now ≡ marks ++ true ∷ [] → IsJoinedOnce p limit seen key chain groups true new now
  joined_new now none longer =
      let last = marked_new seen groups marks is key grows.chain new grows.is now none longer in
      (last.0, grows, last.1)
