-- Lists of items of which some number may stand: one turn, by how many were found.
use Rattle.std.proofs.Common.{◌≡◌, ℕ, zero, suc, ◌-◌, Bool, true, false, nat_lt, if◌then◌else◌, List, [], ◌∷◌, ◌++◌, length, map, length-append, refl, ap, ◌∙◌, arith, Ok, Err}
use Rattle.std.proofs.lemmas.Bool.Decides.{nat_tests}
use Rattle.std.proofs.lemmas.List.{length-map, map-append}
use Rattle.sym_lex.specs.declared.symbol.Symbol.TheVariants.{Comma}
use Rattle.sym_parse.specs.declared.stop.Stop.TheVariants.{Expected, Limit}
use Rattle.sym_parse.specs.declared.error.LimitKind.{LimitKind}
use Rattle.sym_parse.specs.Steps.{Input, Parsed, Parser, and_then, ◌>>=◌, ◌>>◌, pure, choose, bump, passed, sees_sign, one_more, repeated, separated}

pub and_then_same : {A B : Type 0} (o : Parsed A) (f g : A → Parser B) → ((x : A) (j : Input) → f x j ≡ g x j) → and_then o f ≡ and_then o g
and_then_same (Ok p) f g h = h p.0 p.1
and_then_same (Err stop) f g h = refl

has_room : {B : Type 0} (found most : ℕ) (which : LimitKind) (b : Bool) (i : Input) (f : Unit {0} → Parser B) → nat_lt found most ≡ true → and_then (one_more found most which b i) f ≡ f tt i
unfolding one_more
has_room found most which b i f e = rw e refl

has_none : {B : Type 0} (found most : ℕ) (which : LimitKind) (b : Bool) (i : Input) (f : Unit {0} → Parser B) → nat_lt found most ≡ false →
    and_then (one_more found most which b i) f ≡ (if b then Err (Limit (length i.rest) which) else Err (Expected (length i.rest)))
unfolding one_more
has_none found most which true i f e = rw e refl
has_none found most which false i f e = rw e refl

module _ {A : Type 0} (which : LimitKind) (begins : Input → Bool) (item : Parser A) (most : ℕ) where
  abbrev pub separated_turn : List A → Parser (List A)
  separated_turn found = choose (sees_sign Comma)
      (bump >> (λ i. and_then (one_more (length found) most which (begins i) i) (λ _. item >>= (λ x. separated which begins item (most - length (found ++ x ∷ [])) (found ++ x ∷ [])))))
      (pure found)

  separated_by : (free : ℕ) (found : List A) (i : Input) → most - length found ≡ free → separated which begins item free found i ≡ separated_turn found i
  unfolding separated
  separated_by zero found i e =
      let t : nat_lt (length found) most ≡ false = grind (arith, nat_tests) in
      rw (has_none (length found) most which (begins (passed i)) (passed i) (λ _. item >>= (λ x. separated which begins item (most - length (found ++ x ∷ [])) (found ++ x ∷ []))) t) refl
  separated_by (suc free) found i e =
      let t : nat_lt (length found) most ≡ true = grind (arith, nat_tests) in
      let next : (x : A) (j : Input) → separated which begins item free (found ++ x ∷ []) j ≡ separated which begins item (most - length (found ++ x ∷ [])) (found ++ x ∷ []) j =
      λ x j. let n : free ≡ most - length (found ++ x ∷ []) = omega (arith, length-append found (x ∷ [])) in ap (λ m. separated which begins item m (found ++ x ∷ []) j) n in
      rw (has_room (length found) most which (begins (passed i)) (passed i) (λ _. item >>= (λ x. separated which begins item (most - length (found ++ x ∷ [])) (found ++ x ∷ []))) t)
      (rw (and_then_same (item (passed i)) (λ x. separated which begins item free (found ++ x ∷ [])) (λ x. separated which begins item (most - length (found ++ x ∷ [])) (found ++ x ∷ [])) next) refl)

  pub separated_goes : (found : List A) (i : Input) → separated which begins item (most - length found) found i ≡ separated_turn found i
  separated_goes found i = separated_by (most - length found) found i refl

  abbrev pub repeated_turn : List A → Parser (List A)
  repeated_turn found = choose begins
      (λ i. and_then (one_more (length found) most which true i) (λ _. item >>= (λ x. repeated which begins item (most - length (found ++ x ∷ [])) (found ++ x ∷ []))))
      (pure found)

  repeated_by : (free : ℕ) (found : List A) (i : Input) → most - length found ≡ free → repeated which begins item free found i ≡ repeated_turn found i
  unfolding repeated
  repeated_by zero found i e =
      let t : nat_lt (length found) most ≡ false = grind (arith, nat_tests) in
      rw (has_none (length found) most which true i (λ _. item >>= (λ x. repeated which begins item (most - length (found ++ x ∷ [])) (found ++ x ∷ []))) t) refl
  repeated_by (suc free) found i e =
      let t : nat_lt (length found) most ≡ true = grind (arith, nat_tests) in
      let next : (x : A) (j : Input) → repeated which begins item free (found ++ x ∷ []) j ≡ repeated which begins item (most - length (found ++ x ∷ [])) (found ++ x ∷ []) j =
      λ x j. let n : free ≡ most - length (found ++ x ∷ []) = omega (arith, length-append found (x ∷ [])) in ap (λ m. repeated which begins item m (found ++ x ∷ []) j) n in
      rw (has_room (length found) most which true i (λ _. item >>= (λ x. repeated which begins item (most - length (found ++ x ∷ [])) (found ++ x ∷ []))) t)
      (rw (and_then_same (item i) (λ x. repeated which begins item free (found ++ x ∷ [])) (λ x. repeated which begins item (most - length (found ++ x ∷ [])) (found ++ x ∷ [])) next) refl)

  pub repeated_goes : (found : List A) (i : Input) → repeated which begins item (most - length found) found i ≡ repeated_turn found i
  repeated_goes found i = repeated_by (most - length found) found i refl

  -- The same where the items are seen through a view.
  pub repeated_maps : {B : Type 0} (view : B → A) (found : List B) (i : Input) → repeated which begins item (most - length (map view found)) (map view found) i
      ≡ choose begins
      (λ i. and_then (one_more (length found) most which true i) (λ _. item >>= (λ x. repeated which begins item (most - length (map view found ++ x ∷ [])) (map view found ++ x ∷ []))))
      (pure (map view found)) i
  repeated_maps view found i =
      let n : length (map view found) ≡ length found = length-map found view in
      let turn : ℕ → Parsed (List A) = λ m. choose begins
      (λ i. and_then (one_more m most which true i) (λ _. item >>= (λ x. repeated which begins item (most - length (map view found ++ x ∷ [])) (map view found ++ x ∷ []))))
      (pure (map view found)) i in
      repeated_goes (map view found) i ∙ ap turn n

pub ruleset mapped = (repeated_maps, map-append)
