-- The chains of a key in one, and all of them put to their keys.
use Rattle.std.proofs.Common.{◌≡◌, ◌∙◌, ℕ, zero, suc, ◌+◌, ◌-◌, ◌<◌, ◌≤◌, ◌^◌, refl, sym, ap, subst, arith, Bool, true, false, cond, List, [], ◌∷◌, ◌++◌, length, length-append, append_assoc, append-nil, take, drop, Option, Some, None, Result, Ok, Err, IfOk}
use Rattle.std.proofs.lemmas.List.{take_all}
use Rattle.std.proofs.lemmas.Option.{slice_get_within}
use Rattle.std.proofs.Math.Seq.{get_or-append_seam}
use Rattle.std.specs.Prelude.{slice_get, slice_index_or}
use Rattle.std.specs.List.{AllZip}
use Rattle.sym_base.specs.declared.values.value.Key.{Key}
use Rattle.sym_check.specs.Plan.ScriptPlans.{ScriptPlan}
use Rattle.sym_path.proofs.Lists.{zip_both, zip_push}
use Rattle.sym_plain.specs.Pairs.{has_key}
use Rattle.sym_run.specs.Chained.{Chained}
use Rattle.sym_run.specs.Chains.{ChainFits, IsClosed}
use Rattle.sym_run.specs.ClosedJoins.{IsChainJoin}
use Rattle.sym_run.specs.Runs.{added}
use Rattle.sym_run.specs.SavedRuns.{IsLawfulGroup}
use Rattle.sym_file.specs.JoinedTexts.{Chains}
use Rattle.sym_file.specs.PlacedTexts.{AreJoinedOf, IsJoinedAt, Placed}
use Rattle.sym_file.specs.Places.{AreJoinedInTurn, ChainPlace, IsChainThere, IsJoinOfPlaces, Span, bytes_after}
use Rattle.sym_file.specs.Reading.{chain_at}
use Rattle.sym_file.specs.declared.saved_err.SavedErr.{SavedErr}
use Rattle.sym_file.proofs.JoinedTexts.{lawful_fits}
use Rattle.sym_file.proofs.PathTexts.{chain_codec}

-- ---- a chain at its place
after_text : (text rest : List ℕ) → drop (length (text ++ rest) - length rest) (text ++ rest) ≡ rest
after_text text rest =
    let long : length (text ++ rest) - length rest ≡ length text = let l = length-append text rest in omega (arith, l) in
    ap (λ (n : ℕ). drop n (text ++ rest)) long ∙ passed text
  where
    passed : (front : List ℕ) → drop (length front) (front ++ rest) ≡ rest
    passed [] = refl
    passed (b ∷ front) = passed front

-- What is read there ends where so many bytes are left.
pub chain_found : (p : ScriptPlan) (spans : List Span) (key : Key) (place : ChainPlace) (chain : Chained) (after : List ℕ) (span : Span) → length place.at < 2 ^ 64
    → chain_at p place.at ≡ Some (chain, after) → length after ≡ place.rest → slice_get spans place.text ≡ Some span → IsLawfulGroup p span.first span.next (key, chain)
    → IsChainThere p spans key place chain
chain_found p spans key place chain after span few read left of lawful =
    let t = (chain_codec p).takes place.at chain after few read in
    let ends : bytes_after place ≡ after =
    ap (λ (n : ℕ). drop (length place.at - n) place.at) (sym left)
    ∙ ap (λ (bytes : List ℕ). drop (length bytes - length after) bytes) t.text_is
    ∙ after_text _ after in
    record {
      reads = read ∙ ap (λ (bytes : List ℕ). Some (chain, bytes)) (sym ends);
      span = span;
      of = of;
      lawful = lawful;
    }

-- ---- the chains of a key
module _ (p : ScriptPlan) (limit : ℕ) (spans : List Span) (key : Key) (places : List ChainPlace) where
  -- The chains of the first places, in one.
  pub record AreJoining (i : ℕ) (joined : Chained) : Type 0 where
    pub chains : List Chained
    pub there : AllZip (IsChainThere p spans key) (take i places) chains
    pub turn : AreJoinedInTurn p limit chains joined
    pub fits : ChainFits p joined
    pub closed : IsClosed joined

  module _ (place : ChainPlace) (chain : Chained) (there : IsChainThere p spans key place chain) where
    pub fits_there : ChainFits p chain
    fits_there = lawful_fits p there.span.first there.span.next (key, chain) there.lawful

    pub closed_there : IsClosed chain
    closed_there = there.lawful.chain.closed

    pub joining_first : slice_get places 0 ≡ Some place → AreJoining 1 chain
    joining_first at = record {
      chains = chain ∷ [];
      there = zip_push (IsChainThere p spans key) places [] (chain ∷ []) 0 place chain at refl there tt;
      turn = AreJoinedInTurn.first_chain chain;
      fits = fits_there;
      closed = closed_there;
    }

    pub joining_on : (i : ℕ) (before joined : Chained) → AreJoining i before → slice_get places i ≡ Some place → IsChainJoin p limit before chain joined → AreJoining (i + 1) joined
    joining_on i before joined is at join = record {
      chains = is.chains ++ chain ∷ [];
      there = zip_push (IsChainThere p spans key) places is.chains (is.chains ++ chain ∷ []) i place chain at refl there is.there;
      turn = AreJoinedInTurn.next_chain is.chains before chain joined is.turn join;
      fits = join.fits;
      closed = join.closed;
    }

  pub joining_done : (i : ℕ) (joined : Chained) → AreJoining i joined → length places ≤ i → IsJoinOfPlaces p limit spans (key, places) (key, joined)
  joining_done i joined is past = record {
    key = refl;
    chains = is.chains;
    there = subst (λ (ps : List ChainPlace). AllZip (IsChainThere p spans key) ps is.chains) (take_all i places past) is.there;
    turn = is.turn;
  }

-- ---- all keys
abbrev Made : Type 0
Made = Result Chained SavedErr

at_seam : {A : Type 0} (xs : List A) (x : A) (ys : List A) → slice_get (xs ++ x ∷ ys) (length xs) ≡ Some x
at_seam [] x ys = refl
at_seam (y ∷ xs) x ys = at_seam xs x ys

added_is : (old new : Chains) (key : Key) (chain : Chained) → Some new ≡ added old key chain → new ≡ old ++ (key, chain) ∷ []
added_is old new key chain e = of (has_key old key) e
  where
    of : (b : Bool) → Some new ≡ cond b None (Some (old ++ (key, chain) ∷ [])) → new ≡ old ++ (key, chain) ∷ []
    of true e = absurd cc
    of false e = cc

module _ (groups : Placed) (made : List Made) where
  -- The chains that were made so far are put to their keys.
  pub record ArePut (before left : List Made) (keys : Placed) (joined : Chains) : Type 0 where
    pub all : before ++ left ≡ made
    pub done : Placed
    pub others : done ++ keys ≡ groups
    pub many : length done ≡ length before
    pub each : (p : ScriptPlan) (limit : ℕ) (spans : List Span) → AreJoinedOf p limit spans groups made → AllZip (IsJoinOfPlaces p limit spans) done joined

  pub put_none : (left : List Made) (keys : Placed) (joined : Chains) → left ≡ made → keys ≡ groups → joined ≡ [] → ArePut [] left keys joined
  put_none left keys joined all others none = record {
    all = all;
    done = [];
    others = others;
    many = refl;
    each = λ p limit spans are. subst (AllZip (IsJoinOfPlaces p limit spans) []) (sym none) tt;
  }

  pub put_on : (before left rest : List Made) (keys keys' : Placed) (joined new : Chains) (r : Made) (chain : Chained) (group : Key × List ChainPlace) → ArePut before left keys joined
      → left ≡ r ∷ rest → r ≡ Ok chain → keys ≡ group ∷ keys' → Some new ≡ added joined group.0 chain → ArePut (before ++ r ∷ []) rest keys' new
  put_on before left rest keys keys' joined new r chain group is steps made_is next more =
      let n = length before in
      let whole : made ≡ before ++ r ∷ rest = sym is.all ∙ ap (λ (rs : List Made). before ++ rs) steps in
      let pairs : groups ≡ is.done ++ group ∷ keys' = sym is.others ∙ ap (λ (gs : Placed). is.done ++ gs) next in
      let at : slice_get groups n ≡ Some group = ap (λ (gs : Placed). slice_get gs n) pairs ∙ ap (slice_get (is.done ++ group ∷ keys')) (sym is.many) ∙ at_seam is.done group keys' in
      let near : n < length made = let l = ap (λ (rs : List Made). length rs) whole ∙ length-append before (r ∷ rest) in omega (arith, l) in
      let found : slice_index_or made n r ≡ Ok chain = ap (λ (rs : List Made). slice_index_or rs n r) whole ∙ get_or-append_seam before r rest r ∙ made_is in
      record {
        all = append_assoc before (r ∷ []) rest ∙ sym whole;
        done = is.done ++ group ∷ [];
        others = append_assoc is.done (group ∷ []) keys' ∙ sym pairs;
        many = length-append is.done (group ∷ []) ∙ ap (λ (m : ℕ). m + 1) is.many ∙ sym (length-append before (r ∷ []));
        each = λ p limit spans are.
            let one : IfOk {E = SavedErr} (Ok chain) (IsJoinedAt p limit spans groups n) = subst (λ (x : Made). IfOk x (IsJoinedAt p limit spans groups n)) found (are n r near) in
            subst (AllZip (IsJoinOfPlaces p limit spans) (is.done ++ group ∷ [])) (sym (added_is joined new group.0 chain more))
            (zip_both (IsJoinOfPlaces p limit spans) is.done joined group (group.0, chain) (one group at) (is.each p limit spans are));
      }

  pub put_all : (before : List Made) (keys : Placed) (joined : Chains) → ArePut before [] keys joined → length made ≡ length groups → (p : ScriptPlan) (limit : ℕ) (spans : List Span)
      → AreJoinedOf p limit spans groups made → AllZip (IsJoinOfPlaces p limit spans) groups joined
  put_all before keys joined is same p limit spans are =
      let a : length before + 0 ≡ length made = sym (length-append before []) ∙ ap (λ (rs : List Made). length rs) is.all in
      let b : length is.done + length keys ≡ length groups = sym (length-append is.done keys) ∙ ap (λ (gs : Placed). length gs) is.others in
      let c = is.many in
      let none : length keys ≡ 0 = omega (arith, a, b, c, same) in
      subst (λ (gs : Placed). AllZip (IsJoinOfPlaces p limit spans) gs joined) (whole keys none is.others) (is.each p limit spans are)
    where
      whole : (ks : Placed) → length ks ≡ 0 → is.done ++ ks ≡ groups → is.done ≡ groups
      whole [] e h = sym (append-nil is.done) ∙ h
      whole (k ∷ ks) e h = absurd (omega (arith, e))
