-- Texts whose chains are joined by key come to what they come to when they are joined in order.
use Rattle.std.proofs.Common.{◌≡◌, ◌∙◌, ℕ, suc, ◌+◌, ◌-◌, ◌<◌, ◌≤◌, ◌^◌, refl, sym, ap, subst, arith, Bool, true, false, cond, if◌then◌else◌, List, [], ◌∷◌, ◌++◌, append_assoc, length, drop, Option, Some, None, is_some, true≢false, slice_get, map, codes}
use Rattle.std.proofs.lemmas.List.{append-nil, length_push, same_from_push}
use Rattle.std.proofs.lemmas.List.Elements.{All-cons, All-head, All-nil, All-tail, All-weaker}
use Rattle.std.proofs.lemmas.Map.Keys.{IsDistinct-push}
use Rattle.std.proofs.lemmas.Map.Made.{is_some-lookup}
use Rattle.std.specs.List.{All, AllZip, IsDistinct}
use Rattle.std.specs.Map.{keys_of, lookup, set_value}
use Rattle.sym_base.specs.declared.values.value.Key.{Key}
use Rattle.sym_check.specs.Meaning.Groups.{is_among, is_key}
use Rattle.sym_check.specs.Plan.ScriptPlans.{ScriptPlan}
use Rattle.sym_check.specs.Plan.WellFormed.{IsWellFormed}
use Rattle.sym_check.proofs.Keys.{equal_keys, keys_equiv, same_key}
use Rattle.sym_plain.specs.Pairs.{HaveDistinctKeys, has_key, put}
use Rattle.sym_plain.proofs.Pairs.{set-put}
use Rattle.sym_plain.proofs.Puts.{at_key}
use Rattle.sym_run.specs.Chained.{Chained}
use Rattle.sym_run.specs.Chains.{ChainFits, IsClosed}
use Rattle.sym_run.specs.ClosedJoins.{AreClosedJoin, GrowsByClosed, IsChainJoin, IsJoinable}
use Rattle.sym_run.specs.Runs.{AreClosed, GroupsFit}
use Rattle.sym_run.specs.SavedRuns.{IsLawfulGroup}
use Rattle.sym_run.specs.declared.saved.Saved.{Saved}
use Rattle.sym_run.proofs.ClosedJoins.{IsJoiningClosed, closed_joined, closed_new, closed_there, closing_none, closing_on, saved_joined}
use Rattle.sym_run.proofs.GroupPuts.{absent_key, all_found, all_put, keys-put, new_key}
use Rattle.sym_file.specs.JoinedTexts.{Chains, IsTextJoined}
use Rattle.sym_file.specs.Places as placing
use Rattle.sym_file.specs.Places.{AreEntries, AreInOrder, AreJoinedByKey, AreJoinedInTurn, AreScanned, AreTextsJoined, ChainPlace, IsChainThere, IsJoinOfPlaces, IsScanned, Span, placed, placed_all, places_of}
use Rattle.sym_file.specs.Reading.{◌>>=◌, after, at_end, body_at, chain_at, group_at, groups_at, key_at, script_at}
use Rattle.sym_file.specs.TakenTexts.{IsRunFile}
use Rattle.sym_file.proofs.Codecs.{some_is}
use Rattle.sym_file.proofs.Groups.{Group}
use Rattle.sym_file.proofs.JoinedTexts.{lawful_fits}
use Rattle.sym_file.proofs.Read.{lawful_one, stored_one}
use Rattle.sym_file.proofs.TakenTexts.{at_last, body_of, no_keys}
use Rattle.sym_file.proofs.Taking.{lawful_closed}

abbrev Entry : Type 0
Entry = Key × ChainPlace

abbrev Placed : Type 0
Placed = Key × List ChainPlace

-- ---- lists that go with each other
-- What goes with a list that ends with an item ends with what goes with that item.
zip_end : {A B : Type 0} (R : A → B → Type 0) (xs : List A) (x : A) (ys : List B) → AllZip R (xs ++ x ∷ []) ys → (front : List B) × (last : B) × (ys ≡ front ++ last ∷ []) × AllZip R xs front × R x last
zip_end R [] x [] h = absurd h
zip_end R [] x (y ∷ []) h = ([], y, refl, tt, h.0)
zip_end R [] x (y ∷ z ∷ ys) h = absurd h.1
zip_end R (a ∷ xs) x [] h = absurd h
zip_end {A} {B} R (a ∷ xs) x (y ∷ ys) h =
    let k = zip_end R xs x ys h.1 in
    (y ∷ k.0, k.1, ap (λ (l : List B). y ∷ l) k.2, (h.0, k.3), k.4)

zip_one : {A B : Type 0} (R : A → B → Type 0) (x : A) (ys : List B) → AllZip R (x ∷ []) ys → (y : B) × (ys ≡ y ∷ []) × R x y
zip_one R x [] h = absurd h
zip_one R x (y ∷ []) h = (y, refl, h.0)
zip_one R x (y ∷ z ∷ ys) h = absurd h.1

zip_none : {A B : Type 0} (R : A → B → Type 0) (ys : List B) → AllZip R [] ys → ys ≡ []
zip_none R [] h = refl
zip_none R (y ∷ ys) h = absurd h

zip_length : {A B : Type 0} (R : A → B → Type 0) (xs : List A) (ys : List B) → AllZip R xs ys → length xs ≡ length ys
zip_length R [] [] h = refl
zip_length R [] (y ∷ ys) h = absurd h
zip_length R (x ∷ xs) [] h = absurd h
zip_length R (x ∷ xs) (y ∷ ys) h = ap suc (zip_length R xs ys h.1)

not_found : {V : Type 0} (found : Option V) → is_some found ≡ false → found ≡ None
not_found None e = refl
not_found (Some v) e = absurd (true≢false e)

-- ---- the places of each key
placed_last : (groups : List Placed) (entries : List Entry) (entry : Entry) → placed_all groups (entries ++ entry ∷ []) ≡ placed (placed_all groups entries) entry
placed_last groups [] entry = refl
placed_last groups (e ∷ entries) entry = placed_last (placed groups e) entries entry

-- No key stands twice, and each has a place.
record ArePlaced (groups : List Placed) : Type 0 where
  distinct : HaveDistinctKeys groups
  some : All (λ (group : Placed). 1 ≤ length group.1) groups

no_places : ArePlaced []
no_places = record { distinct = no_keys; some = All-nil (λ (group : Placed). 1 ≤ length group.1) }

distinct_then : (ks : List Key) (key : Key) → IsDistinct is_key ks → IsDistinct is_key (if is_among key ks then ks else ks ++ key ∷ [])
distinct_then ks key h = of (is_among key ks) refl
  where
    of : (b : Bool) → is_among key ks ≡ b → IsDistinct is_key (if b then ks else ks ++ key ∷ [])
    of true e = h
    of false e = IsDistinct-push keys_equiv ks key h e

placed_one : (groups : List Placed) (entry : Entry) → ArePlaced groups → ArePlaced (placed groups entry)
placed_one groups entry h =
    let old : List ChainPlace = places_of (lookup (is_key entry.0) groups) in
    let some : 1 ≤ length (old ++ entry.1 ∷ []) = omega (arith, length_push old entry.1) in
    record {
      distinct = subst (IsDistinct is_key) (sym (keys-put entry.0 (old ++ entry.1 ∷ []) groups)) (distinct_then (keys_of groups) entry.0 h.distinct);
      some =
          all_put (λ (j : Key) (u : List ChainPlace). 1 ≤ length u) (λ (j : Key) (u : List ChainPlace). 1 ≤ length u) entry.0 (old ++ entry.1 ∷ [])
          (λ j u e s. s) (λ j e. some) groups (same_key entry.0) h.some;
    }

placed_each : (groups : List Placed) (entries : List Entry) → ArePlaced groups → ArePlaced (placed_all groups entries)
placed_each groups [] h = h
placed_each groups (e ∷ entries) h = placed_each (placed groups e) entries (placed_one groups e h)

module _ (p : ScriptPlan) (limit : ℕ) where
  -- ---- chains joined in turn
  some_turn : (chains : List Chained) (joined : Chained) → AreJoinedInTurn p limit chains joined → 1 ≤ length chains
  some_turn _ _ (placing.first_chain chain) = omega arith
  some_turn _ _ (placing.next_chain chains before right joined turn join) = omega (arith, length_push chains right)

  one_turn : (all : List Chained) (joined : Chained) → AreJoinedInTurn p limit all joined → (chain : Chained) → all ≡ chain ∷ [] → joined ≡ chain
  one_turn _ _ (placing.first_chain other) chain e = cc
  one_turn _ _ (placing.next_chain chains before right joined turn join) chain e =
      let some = some_turn chains before turn in
      let count : length (chains ++ right ∷ []) ≡ 1 = ap length e in
      absurd (omega (arith, some, count, length_push chains right))

  last_turn : (all : List Chained) (joined : Chained) → AreJoinedInTurn p limit all joined → (chains : List Chained) (chain : Chained) → all ≡ chains ++ chain ∷ [] → 1 ≤ length chains
      → (before : Chained) × AreJoinedInTurn p limit chains before × IsChainJoin p limit before chain joined
  last_turn _ _ (placing.first_chain other) chains chain e some =
      let count : 1 ≡ length (chains ++ chain ∷ []) = ap length e in
      absurd (omega (arith, some, count, length_push chains chain))
  last_turn _ _ (placing.next_chain others before right joined turn join) chains chain e some =
      let same = same_from_push others chains right chain e in (
        before,
        subst (λ (cs : List Chained). AreJoinedInTurn p limit cs before) same.0 turn,
        subst (λ (c : Chained). IsChainJoin p limit before c joined) same.1 join,
      )

  -- ---- groups that grow by one after the other
  -- A group is new and goes last, or its chain is joined to that of its key.
  data IsStep (group : Group) (before after : Chains) : Type 0 where
    is_new : lookup (is_key group.0) before ≡ None → after ≡ put before group.0 group.1 → IsStep group before after
    is_joined : (was joined : Chained) → lookup (is_key group.0) before ≡ Some was → IsChainJoin p limit was group.1 joined → after ≡ put before group.0 joined → IsStep group before after

  -- Groups after these others, in order.
  data AreSteps : Chains → Chains → Chains → Type 0 where
    no_step : (groups : Chains) → AreSteps groups [] groups
    step_more : (before mid after others : Chains) (group : Group) → IsStep group before mid → AreSteps mid others after → AreSteps before (group ∷ others) after

  -- The chain fits and is closed.
  abbrev IsWhole : Group → Type 0
  IsWhole group = ChainFits p group.1 × IsClosed group.1

  grows : (group : Group) (before after : Chains) → IsWhole group → IsStep group before after → GrowsByClosed p limit group.0 group.1 before after
  grows group before after whole (is_new none is) = closed_new p limit group.0 before after group.1 is none whole.0 whole.1
  grows group before after whole (is_joined was joined there join is) = closed_there p limit group.0 before after group.1 was joined is there join

  steps_close : (left before taken after : Chains) → AreSteps before taken after → (done : Chains) → IsJoiningClosed p limit left done before → HaveDistinctKeys (done ++ taken) → All IsWhole taken
      → IsJoiningClosed p limit left (done ++ taken) after
  steps_close left _ _ _ (no_step groups) done is distinct each = subst (λ (gs : Chains). IsJoiningClosed p limit left gs groups) (sym (append-nil done)) is
  steps_close left _ _ _ (step_more before mid after others group one more) done is distinct each =
      let whole : (done ++ group ∷ []) ++ others ≡ done ++ group ∷ others = append_assoc done (group ∷ []) others in
      let next : IsJoiningClosed p limit left (done ++ group ∷ []) mid =
      closing_on p limit left done before mid group is (new_key done group others distinct) (grows group before mid (All-head IsWhole group others each) one) in
      subst (λ (gs : Chains). IsJoiningClosed p limit left gs after) whole
      (steps_close left mid others after more (done ++ group ∷ []) next (subst HaveDistinctKeys (sym whole) distinct) (All-tail IsWhole group others each))

  -- A group with a new key goes last,
  step_new : (group : Group) (before after : Chains) → has_key before group.0 ≡ false → IsStep group before after → after ≡ before ++ group ∷ []
  step_new group before after apart (is_new none is) =
      is ∙ ap (λ (b : Bool). if b then map (at_key group.0 group.1) before else before ++ group ∷ []) apart
  step_new group before after apart (is_joined was joined there join is) =
      let found : has_key before group.0 ≡ true = sym (is_some-lookup (is_key group.0) before) ∙ ap is_some there in
      absurd (true≢false (sym found ∙ apart))

  -- and so do more of them.
  steps_new : (before taken after : Chains) → AreSteps before taken after → HaveDistinctKeys (before ++ taken) → after ≡ before ++ taken
  steps_new _ _ _ (no_step groups) distinct = sym (append-nil groups)
  steps_new _ _ _ (step_more before mid after others group one more) distinct =
      let whole : (before ++ group ∷ []) ++ others ≡ before ++ group ∷ others = append_assoc before (group ∷ []) others in
      let first : mid ≡ before ++ group ∷ [] = step_new group before mid (new_key before group others distinct) one in
      let keys : HaveDistinctKeys (mid ++ others) = subst (λ (gs : Chains). HaveDistinctKeys (gs ++ others)) (sym first) (subst HaveDistinctKeys (sym whole) distinct) in
      steps_new mid others after more keys ∙ ap (λ (gs : Chains). gs ++ others) first ∙ whole

  module _ (spans : List Span) where
    abbrev Joins : Placed → Group → Type 0
    Joins group joined = IsJoinOfPlaces p limit spans group joined

    -- The groups of these entries.
    abbrev AreSoFar : List Entry → Chains → Type 0
    AreSoFar entries groups = AllZip Joins (placed_all [] entries) groups

    -- The group of an entry.
    record IsTakenFrom (entry : Entry) (group : Group) : Type 0 where
      key : group.0 ≡ entry.0
      there : IsChainThere p spans entry.0 entry.1 group.1

    joined_keys : (places : List Placed) (groups : Chains) → AllZip Joins places groups → keys_of groups ≡ keys_of places
    joined_keys [] [] h = refl
    joined_keys [] (g ∷ groups) h = absurd h
    joined_keys (q ∷ places) [] h = absurd h
    joined_keys (q ∷ places) (g ∷ groups) h = λ i. h.0.key i ∷ joined_keys places groups h.1 i

    taken_keys : (entries : List Entry) (taken : Chains) → AllZip IsTakenFrom entries taken → keys_of taken ≡ keys_of entries
    taken_keys [] [] h = refl
    taken_keys [] (g ∷ taken) h = absurd h
    taken_keys (e ∷ entries) [] h = absurd h
    taken_keys (e ∷ entries) (g ∷ taken) h = λ i. h.0.key i ∷ taken_keys entries taken h.1 i

    -- ---- one entry less
    record IsWithout (places : List Placed) (entry : Entry) (groups : Chains) : Type 0 where
      before : Chains
      are : AllZip Joins places before
      chain : Chained
      there : IsChainThere p spans entry.0 entry.1 chain
      step : IsStep (entry.0, chain) before groups

    -- Its key is new.
    new_undone : (places : List Placed) (entry : Entry) (groups : Chains) → has_key places entry.0 ≡ false → AllZip Joins (places ++ (entry.0, entry.1 ∷ []) ∷ []) groups → IsWithout places entry groups
    new_undone places entry groups apart h =
        let end = zip_end Joins places (entry.0, entry.1 ∷ []) groups h in
        let one = zip_one (IsChainThere p spans entry.0) entry.1 end.4.chains end.4.there in
        let same : end.1.1 ≡ one.0 = one_turn end.4.chains end.1.1 end.4.turn one.0 one.1 in
        let last : end.1 ≡ (entry.0, one.0) = λ i. (end.4.key i, same i) in
        let none : has_key end.0 entry.0 ≡ false = ap (is_among entry.0) (joined_keys places end.0 end.3) ∙ apart in
        record {
          before = end.0;
          are = end.3;
          chain = one.0;
          there = one.2;
          step =
              is_new (not_found (lookup (is_key entry.0) end.0) (is_some-lookup (is_key entry.0) end.0 ∙ none))
              (end.2 ∙ ap (λ (g : Group). end.0 ++ g ∷ []) last
              ∙ sym (ap (λ (b : Bool). if b then map (at_key entry.0 one.0) end.0 else end.0 ++ (entry.0, one.0) ∷ []) none));
        }

    -- The chain that a key with other places has.
    record IsSetTo (places : List Placed) (key : Key) (was now : List ChainPlace) (groups : Chains) : Type 0 where
      joined : Chained
      joins : Joins (key, now) (key, joined)
      back : (old : Chained) → Joins (key, was) (key, old) → (before : Chains) × AllZip Joins places before × (lookup (is_key key) before ≡ Some old) × (groups ≡ set_value (is_key key) before joined)

    of_key : (key other : Key) (places : List ChainPlace) (chain : Chained) → key ≡ other → (found : Group) → found.1 ≡ chain → Joins (key, places) found → Joins (other, places) (other, chain)
    of_key key other places chain same found is h = record {
      key = refl;
      chains = h.chains;
      there = subst (λ (k : Key). AllZip (IsChainThere p spans k) places h.chains) same h.there;
      turn = subst (λ (c : Chained). AreJoinedInTurn p limit h.chains c) is h.turn;
    }

    key_set : (places : List Placed) (key : Key) (was now : List ChainPlace) (groups : Chains) → lookup (is_key key) places ≡ Some was → AllZip Joins (set_value (is_key key) places now) groups
        → IsSetTo places key was now groups
    key_set [] key was now groups found h = absurd cc
    key_set (q ∷ places) key was now groups found h = of (is_key key q.0) refl groups found h (λ others f k. key_set places key was now others f k)
      where
        of : (b : Bool) → is_key key q.0 ≡ b → (groups : Chains) → cond b (Some q.1) (lookup (is_key key) places) ≡ Some was
            → AllZip Joins (cond b ((q.0, now) ∷ places) (q ∷ set_value (is_key key) places now)) groups
            → ((others : Chains) → lookup (is_key key) places ≡ Some was → AllZip Joins (set_value (is_key key) places now) others → IsSetTo places key was now others)
            → IsSetTo (q ∷ places) key was now groups
        of true e [] f h later = absurd h
        of true e (g ∷ groups) f h later =
            let same : key ≡ q.0 = equal_keys key q.0 e in
            let is : q.1 ≡ was = some_is q.1 was f in
            let whole : (q.0, was) ≡ q = λ i. (q.0, sym is i) in
            record {
              joined = g.1;
              joins = of_key q.0 key now g.1 (sym same) g refl h.0;
              back = λ old j. (
                (q.0, old) ∷ groups,
                (subst (λ (r : Placed). Joins r (q.0, old)) whole (of_key key q.0 was old same (key, old) refl j), h.1),
                ap (λ (b : Bool). cond b (Some old) (lookup (is_key key) groups)) e,
                ap (λ (k : Key). (k, g.1) ∷ groups) h.0.key ∙ sym (ap (λ (b : Bool). cond b ((q.0, g.1) ∷ groups) ((q.0, old) ∷ set_value (is_key key) groups g.1)) e),
              );
            }
        of false e [] f h later = absurd h
        of false e (g ∷ groups) f h later =
            let rest = later groups f h.1 in
            let other : is_key key g.0 ≡ false = ap (is_key key) h.0.key ∙ e in
            record {
              joined = rest.joined;
              joins = rest.joins;
              back = λ old j.
                  let b = rest.back old j in (
                    g ∷ b.0,
                    (h.0, b.1),
                    ap (λ (t : Bool). cond t (Some g.1) (lookup (is_key key) b.0)) other ∙ b.2,
                    ap (λ (gs : Chains). g ∷ gs) b.3 ∙ sym (ap (λ (t : Bool). cond t ((g.0, rest.joined) ∷ b.0) (g ∷ set_value (is_key key) b.0 rest.joined)) other),
                  );
            }

    -- Its key has other places before.
    old_undone : (places : List Placed) (entry : Entry) (was : List ChainPlace) (groups : Chains) → ArePlaced places → lookup (is_key entry.0) places ≡ Some was
        → AllZip Joins (put places entry.0 (was ++ entry.1 ∷ [])) groups → IsWithout places entry groups
    old_undone places entry was groups is found h =
        let now : List ChainPlace = was ++ entry.1 ∷ [] in
        let set = key_set places entry.0 was now groups found (subst (λ (qs : List Placed). AllZip Joins qs groups) (sym (set-put places entry.0 was now is.distinct found)) h) in
        let end = zip_end (IsChainThere p spans entry.0) was entry.1 set.joins.chains set.joins.there in
        let many : length was ≡ length end.0 = zip_length (IsChainThere p spans entry.0) was end.0 end.3 in
        let some : 1 ≤ length was = all_found (λ (j : Key) (u : List ChainPlace). 1 ≤ length u) entry.0 was places is.some found in
        let turn = last_turn set.joins.chains set.joined set.joins.turn end.0 end.1 end.2 (omega (arith, many, some)) in
        let back = set.back turn.0 (record { key = refl; chains = end.0; there = end.3; turn = turn.1 }) in
        let distinct : HaveDistinctKeys back.0 = subst (IsDistinct is_key) (sym (joined_keys places back.0 back.1)) is.distinct in
        record {
          before = back.0;
          are = back.1;
          chain = end.1;
          there = end.4;
          step = is_joined turn.0 set.joined back.2 turn.2 (back.3 ∙ set-put back.0 entry.0 turn.0 set.joined distinct back.2);
        }

    undone : (places : List Placed) (entry : Entry) (groups : Chains) → ArePlaced places → AllZip Joins (placed places entry) groups → IsWithout places entry groups
    undone places entry groups is h = of (lookup (is_key entry.0) places) refl
      where
        of : (found : Option (List ChainPlace)) → lookup (is_key entry.0) places ≡ found → IsWithout places entry groups
        of None e =
            let apart : has_key places entry.0 ≡ false = absent_key entry.0 places e in
            let new : placed places entry ≡ places ++ (entry.0, entry.1 ∷ []) ∷ [] =
            ap (λ (found : Option (List ChainPlace)). put places entry.0 (places_of found ++ entry.1 ∷ [])) e
            ∙ ap (λ (b : Bool). if b then map (at_key entry.0 (entry.1 ∷ [])) places else places ++ (entry.0, entry.1 ∷ []) ∷ []) apart in
            new_undone places entry groups apart (subst (λ (qs : List Placed). AllZip Joins qs groups) new h)
        of (Some was) e =
            old_undone places entry was groups is e
            (subst (λ (found : Option (List ChainPlace)). AllZip Joins (put places entry.0 (places_of found ++ entry.1 ∷ [])) groups) e h)

    -- ---- the entries of a text less
    record AreTaken (start entries : List Entry) (after : Chains) : Type 0 where
      before : Chains
      are : AreSoFar start before
      taken : Chains
      from : AllZip IsTakenFrom entries taken
      steps : AreSteps before taken after

    text_undone : (entries start : List Entry) (after : Chains) → AreSoFar (start ++ entries) after → AreTaken start entries after
    text_undone [] start after h = record {
      before = after;
      are = subst (λ (es : List Entry). AreSoFar es after) (append-nil start) h;
      taken = [];
      from = tt;
      steps = no_step after;
    }
    text_undone (e ∷ entries) start after h =
        let later = text_undone entries (start ++ e ∷ []) after (subst (λ (es : List Entry). AreSoFar es after) (sym (append_assoc start (e ∷ []) entries)) h) in
        let one = undone (placed_all [] start) e later.before (placed_each [] start no_places) (subst (λ (qs : List Placed). AllZip Joins qs later.before) (placed_last [] start e) later.are) in
        record {
          before = one.before;
          are = one.are;
          taken = (e.0, one.chain) ∷ later.taken;
          from = (record { key = refl; there = one.there }, later.from);
          steps = step_more one.before later.before after later.taken (e.0, one.chain) one.step later.steps;
        }

    -- ---- what a text has
    group_there : (bytes at rest : List ℕ) (key : Key) (chain : Chained) → key_at p bytes ≡ Some (key, at) → chain_at p at ≡ Some (chain, rest) → group_at p bytes ≡ Some ((key, chain), rest)
    unfolding group_at
    group_there bytes at rest key chain a b = rw (a, b) refl

    named : (key : Key) (group : Group) → group.0 ≡ key → (key, group.1) ≡ group
    named key group e = λ i. (sym e i, group.1)

    groups_there : (text : ℕ) (bytes : List ℕ) (entries : List Entry) (end : List ℕ) → AreEntries p text bytes entries end → (taken start : Chains) → AllZip IsTakenFrom entries taken → HaveDistinctKeys (start ++ taken)
        → groups_at p (length entries) start bytes ≡ Some (start ++ taken, end)
    unfolding groups_at
    groups_there text _ _ _ (placing.no_entry bytes) [] start from distinct = ap (λ (gs : Chains). Some (gs, bytes)) (sym (append-nil start))
    groups_there text _ _ _ (placing.no_entry bytes) (g ∷ taken) start from distinct = absurd from
    groups_there text _ _ _ (placing.one_more bytes at end key rest entries is_key_there within more) [] start from distinct = absurd from
    groups_there text _ _ _ (placing.one_more bytes at end key rest entries is_key_there within more) (g ∷ taken) start from distinct =
        let one : group_at p bytes ≡ Some (g, drop (length at - rest) at) =
        group_there bytes at (drop (length at - rest) at) key g.1 is_key_there from.0.there.reads
        ∙ ap (λ (h : Group). Some (h, drop (length at - rest) at)) (named key g from.0.key) in
        let apart : has_key start g.0 ≡ false = new_key start g taken distinct in
        let regrouped : start ++ g ∷ taken ≡ (start ++ g ∷ []) ++ taken = sym (append_assoc start (g ∷ []) taken) in
        let others : groups_at p (length entries) (start ++ g ∷ []) (drop (length at - rest) at) ≡ Some ((start ++ g ∷ []) ++ taken, end) =
        groups_there text (drop (length at - rest) at) entries end more taken (start ++ g ∷ []) from.1 (subst HaveDistinctKeys regrouped distinct) in
        rw (one, apart) others
        ∙ ap (λ (gs : Chains). Some (gs, end)) (sym regrouped)

    lawful_there : (text : ℕ) (span : Span) → slice_get spans text ≡ Some span → (bytes : List ℕ) (entries : List Entry) (end : List ℕ) → AreEntries p text bytes entries end → (taken : Chains) → AllZip IsTakenFrom entries taken
        → All (IsLawfulGroup p span.first span.next) taken
    lawful_there text span at_text _ _ _ (placing.no_entry bytes) [] from = All-nil (IsLawfulGroup p span.first span.next)
    lawful_there text span at_text _ _ _ (placing.no_entry bytes) (g ∷ taken) from = absurd from
    lawful_there text span at_text _ _ _ (placing.one_more bytes at end key rest entries is_key_there within more) [] from = absurd from
    lawful_there text span at_text _ _ _ (placing.one_more bytes at end key rest entries is_key_there within more) (g ∷ taken) from =
        let same : from.0.there.span ≡ span = some_is from.0.there.span span (sym from.0.there.of ∙ at_text) in
        let one : IsLawfulGroup p span.first span.next g =
        subst (IsLawfulGroup p span.first span.next) (named key g from.0.key)
        (subst (λ (s : Span). IsLawfulGroup p s.first s.next (key, g.1)) same from.0.there.lawful) in
        All-cons (IsLawfulGroup p span.first span.next) g taken one (lawful_there text span at_text (drop (length at - rest) at) entries end more taken from.1)

    module _ (script : List ℕ) where
      -- The saved run of a span with these groups.
      abbrev saved_of : Span → Chains → Saved
      saved_of span taken = record { first = span.first; next = span.next; groups = taken }

      -- A text with these groups.
      record IsTextRead (bytes : List ℕ) (span : Span) (taken : Chains) : Type 0 where
        rest : List ℕ
        scripted : script_at bytes ≡ Some (script, rest)
        read : body_at p rest ≡ Some (saved_of span taken)
        distinct : HaveDistinctKeys taken
        each : All (IsLawfulGroup p span.first span.next) taken

      text_read : (text : ℕ) (bytes : List ℕ) (span : Span) (entries : List Entry) (taken : Chains) → IsScanned script p text bytes span entries → slice_get spans text ≡ Some span → AllZip IsTakenFrom entries taken
          → IsTextRead bytes span taken
      text_read text bytes span entries taken is at_text from =
          let made : Saved = saved_of span taken in
          let distinct : HaveDistinctKeys taken = subst (IsDistinct is_key) (sym (taken_keys entries taken from)) is.distinct in
          let groups : groups_at p (length entries) [] is.body ≡ Some (taken, codes "end\n") = groups_there text is.body entries (codes "end\n") is.are taken [] from distinct in
          record {
            rest = is.rest;
            scripted = is.scripted;
            read =
                body_of p is.rest span.first span.next (length entries) is.body is.headed
                ∙ ap (λ (r : Option (Chains × List ℕ)). r >>= λ gs. after (codes "end\n") gs.1 >>= λ r. at_end (record { first = span.first; next = span.next; groups = gs.0 }) r) groups
                ∙ at_last p made;
            distinct = distinct;
            each = lawful_there text span at_text is.body entries (codes "end\n") is.are taken from;
          }

      -- Texts, one after the other.
      data AreTurns : Chains → List (List ℕ) → List Span → Chains → Type 0 where
        no_turn : (groups : Chains) → AreTurns groups [] [] groups
        turn_more : (before mid after taken : Chains) (bytes : List ℕ) (texts : List (List ℕ)) (span : Span) (others : List Span)
            → IsTextRead bytes span taken → AreSteps before taken mid → AreTurns mid texts others after → AreTurns before (bytes ∷ texts) (span ∷ others) after

      record AreUndone (start : List Entry) (texts : List (List ℕ)) (others : List Span) (after : Chains) : Type 0 where
        before : Chains
        are : AreSoFar start before
        turns : AreTurns before texts others after

      all_undone : (text : ℕ) (texts : List (List ℕ)) (others : List Span) (entries : List Entry) → AreScanned script p text texts others entries → (start : List Entry) (after : Chains)
          → ((k : ℕ) → slice_get spans (text + k) ≡ slice_get others k) → AreSoFar (start ++ entries) after → AreUndone start texts others after
      all_undone _ _ _ _ (placing.no_text text) start after at h = record {
        before = after;
        are = subst (λ (es : List Entry). AreSoFar es after) (append-nil start) h;
        turns = no_turn after;
      }
      all_undone _ _ _ _ (placing.text_more text bytes texts span next_spans entries more is are) start after at h =
          let shift : (k : ℕ) → slice_get spans (suc text + k) ≡ slice_get next_spans k =
          λ k. let same : suc text + k ≡ text + suc k = omega arith in ap (λ (n : ℕ). slice_get spans n) same ∙ at (suc k) in
          let here : slice_get spans text ≡ Some span = let same : text ≡ text + 0 = omega arith in ap (λ (n : ℕ). slice_get spans n) same ∙ at 0 in
          let later = all_undone (suc text) texts next_spans more are (start ++ entries) after shift (subst (λ (es : List Entry). AreSoFar es after) (sym (append_assoc start entries more)) h) in
          let one = text_undone entries start later.before later.are in
          record {
            before = one.before;
            are = one.are;
            turns = turn_more one.before later.before after one.taken bytes texts span next_spans (text_read text bytes span entries one.taken is here one.from) one.steps later.turns;
          }

      -- ---- the texts in order
      -- Spans that follow in order.
      abbrev AreAfter : ℕ → List Span → Type 0
      AreAfter next [] = Unit {0}
      AreAfter next (span ∷ others) = (span.first ≡ next) × (1 ≤ span.first) × (span.first ≤ span.next) × AreAfter span.next others

      in_order : (span : Span) (others : List Span) → AreInOrder (span ∷ others) → (1 ≤ span.first) × (span.first ≤ span.next) × AreAfter span.next others
      in_order span [] h = (h.0, h.1, tt)
      in_order span (other ∷ others) h =
          let later = in_order other others h.3 in
          (h.0, h.1, (h.2, later.0, later.1, later.2))

      abbrev last_next : ℕ → List Span → ℕ
      last_next next [] = next
      last_next next (span ∷ others) = last_next span.next others

      last_is : (span : Span) (others : List Span) (last : Span) → slice_get (span ∷ others) (length others) ≡ Some last → last_next span.next others ≡ last.next
      last_is span [] last e = ap (λ (s : Span). s.next) (some_is span last e)
      last_is span (other ∷ others) last e = last_is other others last e

      abbrev IsShort : List ℕ → Type 0
      IsShort bytes = length bytes < 2 ^ 64

      module _ (formed : IsWellFormed p) where
        text_of : (bytes : List ℕ) (span : Span) (taken : Chains) → IsShort bytes → 1 ≤ span.first → span.first ≤ span.next → IsTextRead bytes span taken → IsRunFile script p bytes (saved_of span taken)
        text_of bytes span taken few from order is = record {
          is = lawful_one script p formed bytes few script is.rest is.scripted (saved_of span taken) refl is.read (record { from = from; order = order; distinct = is.distinct; each = is.each });
          stored = stored_one script p formed bytes few script is.rest is.scripted (saved_of span taken) is.read;
        }

        whole_each : (bytes : List ℕ) (span : Span) (taken : Chains) → IsTextRead bytes span taken → All IsWhole taken
        whole_each bytes span taken is =
            All-weaker (IsLawfulGroup p span.first span.next) IsWhole (λ group h. (lawful_fits p span.first span.next group h, h.chain.closed)) taken is.each

        -- What texts in order come to.
        record AreInOne (texts : List (List ℕ)) (first next : ℕ) (groups : Chains) : Type 0 where
          joined : Saved
          are : AreTextsJoined script p limit texts joined
          joinable : IsJoinable p joined
          first_is : joined.first ≡ first
          next_is : joined.next ≡ next
          groups_are : joined.groups ≡ groups

        more_joined : (before : Chains) (texts : List (List ℕ)) (others : List Span) (after : Chains) → AreTurns before texts others after → (done : List (List ℕ)) (saved : Saved) → All IsShort texts
            → AreAfter saved.next others → AreTextsJoined script p limit done saved → IsJoinable p saved → saved.groups ≡ before → AreInOne (done ++ texts) saved.first (last_next saved.next others) after
        more_joined _ _ _ _ (no_turn groups) done saved few order are able same = record {
          joined = saved;
          are = subst (λ (ts : List (List ℕ)). AreTextsJoined script p limit ts saved) (sym (append-nil done)) are;
          joinable = able;
          first_is = refl;
          next_is = refl;
          groups_are = same;
        }
        more_joined _ _ _ _ (turn_more before mid after taken bytes texts span others read steps more) done saved few order are able same =
            let closing : IsJoiningClosed p limit before taken mid =
            steps_close before before taken mid steps [] (closing_none p limit before (subst (GroupsFit p) same able.fits) (subst AreClosed same able.closed)) read.distinct (whole_each bytes span taken read) in
            let join : AreClosedJoin p limit saved.groups taken mid = subst (λ (gs : Chains). AreClosedJoin p limit gs taken mid) (sym same) (closed_joined p limit before taken mid closing) in
            let made : Saved = record { first = saved.first; next = span.next; groups = mid } in
            let text : IsTextJoined script p bytes limit saved made = record {
              saved = saved_of span taken;
              text = text_of bytes span taken (All-head IsShort bytes texts few) order.1 order.2 read;
              follows = order.0;
              joins = saved_joined p limit saved (saved_of span taken) mid order.0 join;
            } in
            let whole : IsJoinable p made = record { fits = closing.fits; closed = closing.closed } in
            subst (λ (ts : List (List ℕ)). AreInOne ts saved.first (last_next span.next others) after) (append_assoc done (bytes ∷ []) texts)
            (more_joined mid texts others after more (done ++ bytes ∷ []) made (All-tail IsShort bytes texts few) order.3
            (placing.next_text done bytes saved made are text whole) whole refl)

        first_joined : (before : Chains) (texts : List (List ℕ)) (others : List Span) (after : Chains) → AreTurns before texts others after → before ≡ [] → 1 ≤ length texts → All IsShort texts → AreInOrder others
            → (first last : Span) → slice_get others 0 ≡ Some first → slice_get others (length others - 1) ≡ Some last → AreInOne texts first.first last.next after
        first_joined _ _ _ _ (no_turn groups) none some few order first last is_first is_last = absurd (omega (arith, some))
        first_joined _ _ _ _ (turn_more before mid after taken bytes texts span others read steps more) none some few order first last is_first is_last =
            let ordered = in_order span others order in
            let distinct : HaveDistinctKeys (before ++ taken) = subst (λ (gs : Chains). HaveDistinctKeys (gs ++ taken)) (sym none) read.distinct in
            let same : mid ≡ taken = steps_new before taken mid steps distinct ∙ ap (λ (gs : Chains). gs ++ taken) none in
            let made : Saved = saved_of span taken in
            let able : IsJoinable p made = record {
              fits = All-weaker (IsLawfulGroup p span.first span.next) (λ (group : Group). ChainFits p group.1) (lawful_fits p span.first span.next) taken read.each;
              closed = lawful_closed p span.first span.next taken read.each;
            } in
            let text : IsRunFile script p bytes made = text_of bytes span taken (All-head IsShort bytes texts few) ordered.0 ordered.1 read in
            let one : AreInOne (bytes ∷ texts) span.first (last_next span.next others) after =
            more_joined mid texts others after more (bytes ∷ []) made (All-tail IsShort bytes texts few) ordered.2 (placing.first_text bytes made text able) able (sym same) in
            let start : span.first ≡ first.first = ap (λ (s : Span). s.first) (some_is span first is_first) in
            let count : suc (length others) - 1 ≡ length others = omega arith in
            let end : last_next span.next others ≡ last.next = last_is span others last (sym (ap (λ (n : ℕ). slice_get (span ∷ others) n) count) ∙ is_last) in
            subst (λ (n : ℕ). AreInOne (bytes ∷ texts) n last.next after) start (subst (λ (n : ℕ). AreInOne (bytes ∷ texts) span.first n after) end one)

-- Texts that are read by key come to the saved run that they come to in order: it has the first
-- number of the first text, the next one of the last, and these groups.
pub by_key_in_turn : (script : List ℕ) (p : ScriptPlan) → IsWellFormed p → (limit : ℕ) (text : List ℕ) (texts : List (List ℕ)) (spans : List Span) (groups : Chains)
    → All (λ (bytes : List ℕ). length bytes < 2 ^ 64) (text ∷ texts)
    → AreJoinedByKey script p limit (text ∷ texts) spans groups
    → (first last : Span) → slice_get spans 0 ≡ Some first → slice_get spans (length spans - 1) ≡ Some last
    → (saved : Saved) → saved.first ≡ first.first → saved.next ≡ last.next → saved.groups ≡ groups
    → AreTextsJoined script p limit (text ∷ texts) saved × IsJoinable p saved
by_key_in_turn script p formed limit text texts spans groups few is first last is_first is_last saved first_is next_is groups_are =
    let none : (k : ℕ) → slice_get spans (0 + k) ≡ slice_get spans k = λ k. let same : 0 + k ≡ k = omega arith in ap (λ (n : ℕ). slice_get spans n) same in
    let all = all_undone p limit spans script 0 (text ∷ texts) spans is.entries is.scanned [] groups none is.joined in
    let empty : all.before ≡ [] = zip_none (Joins p limit spans) all.before all.are in
    let one = first_joined p limit spans script formed all.before (text ∷ texts) spans groups all.turns empty (omega arith) few is.order first last is_first is_last in
    let same : one.joined ≡ saved = λ i. record {
      first = (one.first_is ∙ sym first_is) i;
      next = (one.next_is ∙ sym next_is) i;
      groups = (one.groups_are ∙ sym groups_are) i;
    } in
    subst (λ (s : Saved). AreTextsJoined script p limit (text ∷ texts) s × IsJoinable p s) same (one.are, one.joinable)
