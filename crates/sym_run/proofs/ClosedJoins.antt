-- Groups that keep no records, joined one after the other, whatever their chains are.
use Rattle.std.proofs.Common.{◌≡◌, ◌∙◌, ap, sym, refl, subst, ℕ, zero, suc, false, List, [], ◌∷◌, ◌++◌, Option, None, Some}
use Rattle.std.proofs.lemmas.List.{append_assoc, append-nil}
use Rattle.std.proofs.lemmas.List.Elements.{All-head, All-tail}
use Rattle.std.specs.Prelude.{slice_get}
use Rattle.std.specs.List.{All}
use Rattle.std.specs.Map.{keys_of, lookup, values_of}
use Rattle.sym_base.specs.declared.values.value.Key.{Key}
use Rattle.sym_base.specs.declared.values.record.Record.{Record}
use Rattle.sym_check.specs.Meaning.Groups.{is_among, is_key, not_among, records_of}
use Rattle.sym_check.specs.Plan.ScriptPlans.{ScriptPlan}
use Rattle.sym_check.proofs.Keys.{same_key}
use Rattle.sym_plain.specs.Pairs.{put}
use Rattle.sym_run.specs.Chained.{Chained}
use Rattle.sym_run.specs.Chains.{ChainFits, ChainStandsFor, IsClosed, IsTight}
use Rattle.sym_run.specs.ClosedJoins.{AreClosedJoin, FoundIsTight, GrowsByClosed, IsChainJoin, IsSavedJoin}
use Rattle.sym_run.specs.Extended.{ChainIsExtended}
use Rattle.sym_run.specs.Growing.{AreJoined, FoundStands, FoundStandsFor, Grows}
use Rattle.sym_run.specs.Kinds.{Kind}
use Rattle.sym_run.specs.SavedRuns.{AreNumbered}
use Rattle.sym_run.specs.declared.saved.Saved.{Saved}
use Rattle.sym_run.specs.Runs.{AreClosed, AreTight, GroupsFit, GroupsStandFor}
use Rattle.sym_run.proofs.GroupPuts.{all_found, all_put, all_split}
use Rattle.sym_run.proofs.JoinedGroups.{Chains, TakeOn, found_stands, grown_closed, grown_fit, grown_keys, joined_all, joined_none, joined_on, take_more, take_none}

-- Chains of which nothing is said for a limit.
abbrev free_kind : Kind Chained
free_kind = record {
  fits = ChainFits;
  tight = λ p limit chain. Unit {0};
  stands = ChainStandsFor;
  closed = IsClosed;
  extended = ChainIsExtended;
}

abbrev Adds : ScriptPlan → Chained → List Record → Type 0
Adds p right rest = ChainStandsFor p rest right

found_same : (p : ScriptPlan) (records : List Record) (found : Option Chained) → FoundStands free_kind p records found → FoundStandsFor p records found
found_same p records None h = h
found_same p records (Some chain) h = h

grows_free : (p : ScriptPlan) (limit : ℕ) (key : Key) (right : Chained) (old new : Chains) → GrowsByClosed p limit key right old new
    → Grows free_kind p limit key (Adds p right) (Unit {0}) old new
grows_free p limit key right old new g = record {
  chain = g.chain;
  is = g.is;
  fits = g.fits;
  tight = tt;
  stands = λ first rest h adds. g.stands first rest (found_same p first (lookup (is_key key) old) h) adds;
  closed = λ a b. g.closed;
}

found_tight : (p : ScriptPlan) (limit : ℕ) (k : Key) (groups : Chains) → AreTight p limit groups → FoundIsTight p limit (lookup (is_key k) groups)
found_tight p limit k groups h = of (lookup (is_key k) groups) refl
  where
    of : (found : Option Chained) → lookup (is_key k) groups ≡ found → FoundIsTight p limit found
    of None e = tt
    of (Some u) e = all_found (λ (j : Key) (u : Chained). IsTight p limit u) k u groups h e

keys-both : (xs ys : Chains) → keys_of (xs ++ ys) ≡ keys_of xs ++ keys_of ys
keys-both [] ys = refl
keys-both (x ∷ xs) ys = ap (λ (ks : List Key). x.0 ∷ ks) (keys-both xs ys)

-- What holds of all chains holds of the one at an index,
pub chain_at : (P : Chained → Type 0) (groups : Chains) (index : ℕ) (chain : Chained) → All (λ (group : Key × Chained). P group.1) groups → Some chain ≡ slice_get (values_of groups) index → P chain
chain_at P [] index chain h at = absurd cc
chain_at P (g ∷ groups) zero chain h at =
    let same : g.1 ≡ chain = cc in
    subst P same (All-head (λ (group : Key × Chained). P group.1) g groups h)
chain_at P (g ∷ groups) (suc index) chain h at = chain_at P groups index chain (All-tail (λ (group : Key × Chained). P group.1) g groups h) at

-- and there is one where there is a key.
pub no_chain : (key : Key) (groups : Chains) (index : ℕ) → slice_get (keys_of groups) index ≡ Some key → None ≡ slice_get (values_of groups) index → ⊥
no_chain key [] index at none = absurd cc
no_chain key (g ∷ groups) zero at none = absurd cc
no_chain key (g ∷ groups) (suc index) at none = no_chain key groups index at none

-- A chain that is there takes on the records of another one.
pub closed_there : (p : ScriptPlan) (limit : ℕ) (key : Key) (old new : Chains) (right was chain : Chained) → new ≡ put old key chain → lookup (is_key key) old ≡ Some was
    → IsChainJoin p limit was right chain → GrowsByClosed p limit key right old new
closed_there p limit key old new right was chain is there j = record {
  chain = chain;
  is = is;
  fits = j.fits;
  closed = j.closed;
  stands = λ first rest h adds. j.stands first rest (subst (FoundStandsFor p first) there h) adds;
  tight = λ first rest h adds t u. j.tight first rest (subst (FoundStandsFor p first) there h) adds (subst (FoundIsTight p limit) there t) u;
}

-- A new one goes last.
pub closed_new : (p : ScriptPlan) (limit : ℕ) (key : Key) (old new : Chains) (chain : Chained) → new ≡ put old key chain → lookup (is_key key) old ≡ None
    → ChainFits p chain → IsClosed chain → GrowsByClosed p limit key chain old new
closed_new p limit key old new chain is none fits closed = record {
  chain = chain;
  is = is;
  fits = fits;
  closed = closed;
  stands = λ first rest h adds.
      subst (λ (rs : List Record). ChainStandsFor p (rs ++ rest) chain) (sym (subst (FoundStandsFor p first) none h)) adds;
  tight = λ first rest h adds t u. u;
}

-- The left groups have taken on these right ones, whatever others come after them.
pub record IsJoiningClosed (p : ScriptPlan) (limit : ℕ) (left done groups : Chains) : Type 0 where
  pub fits : GroupsFit p groups
  pub closed : AreClosed groups
  pub stand : (others : Chains) (first rest : List Record) → GroupsStandFor p first left → GroupsStandFor p rest (done ++ others) → AreJoined free_kind p first rest (keys_of done) groups
  pub keys_are : keys_of groups ≡ keys_of left ++ not_among (keys_of left) (keys_of done)
  pub take : TakeOn p left done groups
  pub tight : (others : Chains) (first rest : List Record) → GroupsStandFor p first left → GroupsStandFor p rest (done ++ others) → AreTight p limit left → AreTight p limit (done ++ others) → AreTight p limit groups

pub closing_none : (p : ScriptPlan) (limit : ℕ) (left : Chains) → GroupsFit p left → AreClosed left → IsJoiningClosed p limit left [] left
closing_none p limit left fits closed = record {
  fits = fits;
  closed = closed;
  stand = λ others first rest h k. joined_none free_kind p limit first rest left (record { keys_are = h.keys_are; each = h.each });
  keys_are = sym (append-nil (keys_of left));
  take = take_none p left;
  tight = λ others first rest h k a b. a;
}

pub closing_on : (p : ScriptPlan) (limit : ℕ) (left done old new : Chains) (q : Key × Chained) → IsJoiningClosed p limit left done old → is_among q.0 (keys_of done) ≡ false
    → GrowsByClosed p limit q.0 q.1 old new → IsJoiningClosed p limit left (done ++ q ∷ []) new
closing_on p limit left done old new q h apart g =
    let free : Grows free_kind p limit q.0 (Adds p q.1) (Unit {0}) old new = grows_free p limit q.0 q.1 old new g in
    record {
      fits = grown_fit free_kind p limit q.0 (Adds p q.1) (Unit {0}) old new free h.fits;
      closed = grown_closed free_kind p limit q.0 (Adds p q.1) (Unit {0}) old new free tt h.closed;
      stand = λ others first rest a b.
          let all : GroupsStandFor p rest (done ++ q ∷ others) = subst (GroupsStandFor p rest) (whole others) b in
          subst (λ (ks : List Key). AreJoined free_kind p first rest ks new) (sym (keys-both done (q ∷ [])))
          (joined_on free_kind p limit first rest (keys_of done) q.0 (Adds p q.1) (Unit {0}) old new
          apart free (adds others rest all) (h.stand (q ∷ others) first rest a all));
      keys_are =
          ap keys_of g.is
          ∙ grown_keys (keys_of left) (keys_of done) q.0 old g.chain apart h.keys_are
          ∙ ap (λ (ks : List Key). keys_of left ++ not_among (keys_of left) ks) (sym (keys-both done (q ∷ [])));
      take = take_more p left done old new q.0 q.1 g.chain apart g.is g.stands h.take;
      tight = λ others first rest a b c d.
          let all : GroupsStandFor p rest (done ++ q ∷ others) = subst (GroupsStandFor p rest) (whole others) b in
          let each : AreTight p limit (done ++ q ∷ others) = subst (AreTight p limit) (whole others) d in
          let was : AreTight p limit old = h.tight (q ∷ others) first rest a all c each in
          let now : IsTight p limit g.chain =
          g.tight (records_of p q.0 first) (records_of p q.0 rest)
          (found_same p (records_of p q.0 first) (lookup (is_key q.0) old)
          (found_stands free_kind p limit first rest (keys_of done) q.0 old apart (h.stand (q ∷ others) first rest a all)))
          (adds others rest all) (found_tight p limit q.0 old was)
          (all_split (λ (group : Key × Chained). IsTight p limit group.1) done q others each) in
          subst (AreTight p limit) (sym g.is)
          (all_put (λ (j : Key) (u : Chained). IsTight p limit u) (λ (j : Key) (u : Chained). IsTight p limit u) q.0 g.chain (λ j u e s. s) (λ j e. now) old (same_key q.0) was);
    }
  where
    whole : (others : Chains) → (done ++ q ∷ []) ++ others ≡ done ++ q ∷ others
    whole others = append_assoc done (q ∷ []) others

    adds : (others : Chains) (rest : List Record) → GroupsStandFor p rest (done ++ q ∷ others) → ChainStandsFor p (records_of p q.0 rest) q.1
    adds others rest b = all_split (λ (group : Key × Chained). ChainStandsFor p (records_of p group.0 rest) group.1) done q others b.each

-- All have been taken on.
pub closed_joined : (p : ScriptPlan) (limit : ℕ) (left right groups : Chains) → IsJoiningClosed p limit left right groups → AreClosedJoin p limit left right groups
closed_joined p limit left right groups h =
    let none : right ≡ right ++ [] = sym (append-nil right) in
    record {
      fits = h.fits;
      closed = h.closed;
      both = record { keys_are = h.keys_are; each = λ key first rest a b. h.take key first rest a b };
      stands = λ first rest a b.
          let stand = joined_all free_kind p limit first rest groups
          (subst (λ (ks : List Key). AreJoined free_kind p first rest ks groups) b.keys_are (h.stand [] first rest a (subst (GroupsStandFor p rest) none b))) in
          record { keys_are = stand.keys_are; each = stand.each };
      tight = λ first rest a b c d. h.tight [] first rest a (subst (GroupsStandFor p rest) none b) c (subst (AreTight p limit) none d);
    }

-- ---- numbers
pub numbered_both : (first middle next : ℕ) (records others : List Record) → AreNumbered first middle records → AreNumbered middle next others → AreNumbered first next (records ++ others)
numbered_both first middle next [] others h k = subst (λ (n : ℕ). AreNumbered n next others) (sym h) k
numbered_both first middle next (rec ∷ records) others h k = (h.0, numbered_both (suc first) middle next records others h.1 k)

-- Saved runs of which the right one follows, in one.
pub saved_joined : (p : ScriptPlan) (limit : ℕ) (left right : Saved) (groups : Chains) → right.first ≡ left.next → AreClosedJoin p limit left.groups right.groups groups
    → IsSavedJoin p limit left right (record { first = left.first; next = right.next; groups = groups })
saved_joined p limit left right groups follows h = record {
  first_is = refl;
  next_is = refl;
  both = h.both;
  stands = λ first rest a b. record {
    numbered = numbered_both left.first left.next right.next first rest a.numbered (subst (λ (n : ℕ). AreNumbered n right.next rest) follows b.numbered);
    groups = h.stands first rest a.groups b.groups;
  };
  tight = λ first rest a b t u. h.tight first rest a.groups b.groups t u;
}
