-- Groups of a run that are joined to those before it, and closed, beside each other.
use Rattle.std.proofs.Common.{inl, inr, ◌≡◌, ◌∙◌, ap, sym, refl, subst, arith, ℕ, zero, suc, ◌<◌, ◌≤◌, ◌+◌, Bool, true, false, ◌||◌, is_some, List, [], ◌∷◌, ◌++◌, length, Option, Some, None, OnOk}
use Rattle.std.proofs.lemmas.Bool.{cases_lt}
use Rattle.std.proofs.lemmas.List.{append_assoc, append-nil, get_or-set_other, get_or-set_same, get_or_default}
use Rattle.std.proofs.lemmas.Map.Made.{is_some-lookup}
use Rattle.std.proofs.lemmas.Result.{IfOk-at_ok}
use Rattle.std.proofs.lemmas.List.Elements.{All-cons, All-head, All-nil, All-tail}
use Rattle.std.specs.List.{All, AllZip}
use Rattle.std.specs.Map.{keys_of, lookup}
use Rattle.std.specs.Prelude.{slice_index_or, slice_set}
use Rattle.indexmap.specs.IndexMap.{insert_entry}
use Rattle.sym_base.specs.declared.values.value.Key.{Key}
use Rattle.sym_base.specs.declared.values.record.Record.{Record}
use Rattle.sym_check.specs.Meaning.Groups.{is_among, is_key}
use Rattle.sym_check.specs.Plan.ScriptPlans.{ScriptPlan}
use Rattle.sym_plain.specs.Pairs.{HaveDistinctKeys, has_key, put}
use Rattle.sym_plain.proofs.Pairs.{insert-put}
use Rattle.sym_plain.proofs.Puts.{lookup-put}
use Rattle.sym_run.specs.Chained.{Chained}
use Rattle.sym_run.specs.Chains.{ChainFits, ChainStandsFor, IsClosed, IsTight}
use Rattle.sym_run.specs.Closing.{AreJoinedTo, CanJoin, CanJoinFound, IsJoinedTo, IsTakenOut, WasJoined, put_joined}
use Rattle.sym_run.specs.Growing.{FoundStandsFor, Grows}
use Rattle.sym_run.specs.Leading.{AreAlikeBut}
use Rattle.sym_run.specs.Runs.{AreClosed, AreTight, GroupsFit, chain_kind}
use Rattle.sym_run.specs.declared.closed_groups.Joining.{Joining}
use Rattle.sym_run.proofs.GroupPuts.{all_found, new_key}
use Rattle.sym_run.proofs.JoinedGroups.{Chains, grown_closed}
use Rattle.sym_run.proofs.Stepping.{IsJoining, joining_none, joining_on}
use Rattle.sym_run.proofs.TakenGroups.{alike_all, alike_same, none_of_more, put_both, zip_last}

-- ---- taking out
-- Where something is found for a key, the key is there.
pub has_found : (key : Key) (groups : Chains) (u : Chained) → lookup (is_key key) groups ≡ Some u → has_key groups key ≡ true
has_found key groups u e = sym (is_some-lookup (is_key key) groups) ∙ ap is_some e

-- The chains of the first keys are out; the others are left.
pub record IsTakingOut (right others left groups : Chains) (joining : List Joining) : Type 0 where
  pub done : Chains
  pub all : done ++ others ≡ right
  pub alike : AreAlikeBut (keys_of done) left groups
  pub each : AllZip (IsTakenOut left) done joining

pub out_none : (right left : Chains) → IsTakingOut right right left left []
out_none right left = record { done = []; all = refl; alike = alike_same [] left; each = tt }

pub out_on : (right others left old new : Chains) (joining : List Joining) (q : Key × Chained) (one : Joining) → IsTakingOut right (q ∷ others) left old joining → HaveDistinctKeys right → AreAlikeBut (q.0 ∷ []) old new
    → one.key ≡ q.0 → one.chain ≡ q.1 → one.before ≡ lookup (is_key q.0) old → IsTakingOut right others left new (joining ++ one ∷ [])
out_on right others left old new joining q one h distinct alike key_is chain_is before_is =
    let apart : is_among q.0 (keys_of h.done) ≡ false = new_key h.done q others (subst HaveDistinctKeys (sym h.all) distinct) in
    record {
      done = h.done ++ q ∷ [];
      all = append_assoc h.done (q ∷ []) others ∙ h.all;
      alike = record {
        keys_are = alike.keys_are ∙ h.alike.keys_are;
        others = λ j e.
            let both = none_of_more j h.done q e in
            alike.others j (ap (λ (b : Bool). b || false) both.1) ∙ h.alike.others j both.0;
      };
      each = zip_last (IsTakenOut left) h.done joining q one h.each
          (record { key_is = key_is; chain_is = chain_is; before_is = before_is ∙ h.alike.others q.0 apart });
    }

pub out_alike : (right left groups : Chains) (joining : List Joining) → IsTakingOut right [] left groups joining → AreAlikeBut (keys_of right) left groups
out_alike right left groups joining h =
    subst (λ (xs : Chains). AreAlikeBut (keys_of xs) left groups) (sym (append-nil h.done) ∙ h.all) h.alike

pub out_each : (right left groups : Chains) (joining : List Joining) → IsTakingOut right [] left groups joining → AllZip (IsTakenOut left) right joining
out_each right left groups joining h =
    subst (λ (xs : Chains). AllZip (IsTakenOut left) xs joining) (sym (append-nil h.done) ∙ h.all) h.each

-- ---- what can be joined
found_can : (p : ScriptPlan) (limit : ℕ) (k : Key) (left : Chains) → GroupsFit p left → AreTight p limit left → CanJoinFound p limit (lookup (is_key k) left)
found_can p limit k left fits tight = of (lookup (is_key k) left) refl
  where
    of : (found : Option Chained) → lookup (is_key k) left ≡ found → CanJoinFound p limit found
    of None e = tt
    of (Some u) e = (all_found (λ (j : Key) (v : Chained). ChainFits p v) k u left fits e, all_found (λ (j : Key) (v : Chained). IsTight p limit v) k u left tight e)

pub can_all : (p : ScriptPlan) (limit : ℕ) (left right : Chains) (joining : List Joining) → GroupsFit p left → AreTight p limit left → GroupsFit p right → AreTight p limit right
    → AllZip (IsTakenOut left) right joining → All (CanJoin p limit) joining
can_all p limit left [] [] fits tight right_fits right_tight h = All-nil (CanJoin p limit)
can_all p limit left [] (one ∷ joining) fits tight right_fits right_tight h = absurd h
can_all p limit left (q ∷ right) [] fits tight right_fits right_tight h = absurd h
can_all p limit left (q ∷ right) (one ∷ joining) fits tight right_fits right_tight h =
    All-cons (CanJoin p limit) one joining
    (record {
      before = subst (CanJoinFound p limit) (sym h.0.before_is) (found_can p limit q.0 left fits tight);
      fits = subst (ChainFits p) (sym h.0.chain_is) (All-head (λ (group : Key × Chained). ChainFits p group.1) q right right_fits);
      tight = subst (IsTight p limit) (sym h.0.chain_is) (All-head (λ (group : Key × Chained). IsTight p limit group.1) q right right_tight);
    })
    (can_all p limit left right joining fits tight
    (All-tail (λ (group : Key × Chained). ChainFits p group.1) q right right_fits)
    (All-tail (λ (group : Key × Chained). IsTight p limit group.1) q right right_tight) h.1)

-- ---- joining
-- A group was joined to what its key had in the groups before it, unless an allocation failed.
pub record IsJoinedFrom (p : ScriptPlan) (limit : ℕ) (left : Chains) (group : Key × Chained) (one : Joining) : Type 0 where
  pub key_is : one.key ≡ group.0
  pub fits : OnOk one.joined (ChainFits p one.chain)
  pub tight : OnOk one.joined (IsTight p limit one.chain)
  pub closed : OnOk one.joined (IsClosed one.chain)
  pub stands : (first rest : List Record) → FoundStandsFor p first (lookup (is_key group.0) left)
      → ChainStandsFor p rest group.1 → OnOk one.joined (ChainStandsFor p (first ++ rest) one.chain)

joined_one : (p : ScriptPlan) (limit : ℕ) (left : Chains) (q : Key × Chained) (old new : Joining) → IsTakenOut left q old → IsJoinedTo p limit old new → IsJoinedFrom p limit left q new
joined_one p limit left q old new out to = record {
  key_is = to.key_is ∙ out.key_is;
  fits = to.fits;
  tight = to.tight;
  closed = to.closed;
  stands = λ first rest a b.
      to.stands first rest (subst (FoundStandsFor p first) (sym out.before_is) a) (subst (ChainStandsFor p rest) (sym out.chain_is) b);
}

joined_each : (p : ScriptPlan) (limit : ℕ) (left right : Chains) (olds news : List Joining) → length news ≡ length olds → AllZip (IsTakenOut left) right olds
    → ((i : ℕ) (d : Joining) → i < length olds → IsJoinedTo p limit (slice_index_or olds i d) (slice_index_or news i d)) → AllZip (IsJoinedFrom p limit left) right news
joined_each p limit left [] [] [] long h each = tt
joined_each p limit left [] [] (u ∷ news) long h each = absurd cc
joined_each p limit left [] (t ∷ olds) news long h each = absurd h
joined_each p limit left (q ∷ right) [] news long h each = absurd h
joined_each p limit left (q ∷ right) (t ∷ olds) [] long h each = absurd cc
joined_each p limit left (q ∷ right) (t ∷ olds) (u ∷ news) long h each = (
  joined_one p limit left q t u h.0 (each 0 t (omega arith)),
  joined_each p limit left right olds news (omega (arith, long)) h.1 (λ i d lt. each (suc i) d (omega (arith, lt))),
)

-- The same where they were joined in a slice.
pub joined_slice : (p : ScriptPlan) (limit : ℕ) (left right : Chains) (olds slice news : List Joining) → slice ≡ olds → AreJoinedTo p limit slice news → AllZip (IsTakenOut left) right olds
    → AllZip (IsJoinedFrom p limit left) right news
joined_slice p limit left right olds slice news same joined out =
    joined_each p limit left right slice news joined.len (subst (AllZip (IsTakenOut left) right) (sym same) out) joined.each

-- One group further in a slice.
pub part_on : (p : ScriptPlan) (limit k : ℕ) (olds now : List Joining) (was new : Joining) → length now ≡ length olds → k < length olds → was ≡ slice_index_or now k was → IsJoinedTo p limit was new
    → ((i : ℕ) (d : Joining) → i < k → IsJoinedTo p limit (slice_index_or olds i d) (slice_index_or now i d))
    → ((i : ℕ) (d : Joining) → k ≤ i → slice_index_or now i d ≡ slice_index_or olds i d)
    → (i : ℕ) (d : Joining) → i < k + 1 → IsJoinedTo p limit (slice_index_or olds i d) (slice_index_or (slice_set now k new) i d)
part_on p limit k olds now was new long near is to done rest i d lt = elim (cases_lt i k) [
  | inl less ↦
      subst (λ (one : Joining). IsJoinedTo p limit (slice_index_or olds i d) one)
      (sym (get_or-set_other now k i new d (λ (e : i ≡ k). omega (arith, e, less))))
      (done i d less)
  | inr more ↦
      let same : i ≡ k = omega (arith, lt, more) in
      let here : k < length now = omega (arith, long, near) in
      let old : slice_index_or olds k d ≡ was = sym (rest k d (omega arith)) ∙ get_or_default now k d was here ∙ sym is in
      let set_is : slice_index_or (slice_set now k new) k d ≡ new = get_or-set_same now k new d here in
      subst (λ (j : ℕ). IsJoinedTo p limit (slice_index_or olds j d) (slice_index_or (slice_set now k new) j d)) (sym same)
      (subst (λ (one : Joining). IsJoinedTo p limit one (slice_index_or (slice_set now k new) k d)) (sym old)
      (subst (IsJoinedTo p limit was) (sym set_is) to))
]

pub set_rest : (olds now : List Joining) (k : ℕ) (new : Joining) → ((i : ℕ) (d : Joining) → k ≤ i → slice_index_or now i d ≡ slice_index_or olds i d)
    → (i : ℕ) (d : Joining) → k + 1 ≤ i → slice_index_or (slice_set now k new) i d ≡ slice_index_or olds i d
set_rest olds now k new rest i d le =
    get_or-set_other now k i new d (λ (e : i ≡ k). omega (arith, e, le)) ∙ rest i d (omega (arith, le))

-- Those in front were joined, and those behind them.
pub joined_both : (p : ScriptPlan) (limit : ℕ) (front back firsts seconds : List Joining) → AreJoinedTo p limit front firsts → AreJoinedTo p limit back seconds
    → AreJoinedTo p limit (front ++ back) (firsts ++ seconds)
joined_both p limit [] back [] seconds h g = g
joined_both p limit [] back (u ∷ firsts) seconds h g = let long = h.len in absurd cc
joined_both p limit (t ∷ front) back [] seconds h g = let long = h.len in absurd cc
joined_both p limit (t ∷ front) back (u ∷ firsts) seconds h g =
    let long = h.len in
    let tail : AreJoinedTo p limit front firsts = record {
      len = omega (arith, long);
      each = λ k d lt. h.each (suc k) d (omega (arith, lt));
    } in
    let rest = joined_both p limit front back firsts seconds tail g in
    let later = rest.len in
    record { len = omega (arith, later); each = one rest }
  where
    one : AreJoinedTo p limit (front ++ back) (firsts ++ seconds) → (k : ℕ) (d : Joining) → k < suc (length (front ++ back))
        → IsJoinedTo p limit (slice_index_or (t ∷ front ++ back) k d) (slice_index_or (u ∷ firsts ++ seconds) k d)
    one rest zero d lt = h.each zero d (omega arith)
    one rest (suc k) d lt = rest.each k d (omega (arith, lt))

-- ---- putting back
-- One group further: what is put then, and whether all were joined.
pub puts_on : (joining items rest : List Joining) (one : Joining) (first old new : Chains) → items ≡ one ∷ rest → new ≡ insert_entry is_key old one.key one.chain → HaveDistinctKeys old
    → put_joined items old ≡ put_joined joining first → put_joined rest new ≡ put_joined joining first
puts_on joining items rest one first old new steps is distinct h =
    ap (put_joined rest) (is ∙ insert-put old one.key one.chain distinct) ∙ ap (λ (js : List Joining). put_joined js old) (sym steps) ∙ h

pub joined_on : (joining items rest : List Joining) (one : Joining) → items ≡ one ∷ rest → WasJoined one → (All WasJoined items → All WasJoined joining) → All WasJoined rest → All WasJoined joining
joined_on joining items rest one steps was h all = h (subst (All WasJoined) (sym steps) (All-cons WasJoined one rest was all))

-- The left groups have taken on the first of the right ones, which closed them; the others are left.
record IsClosingJoin (p : ScriptPlan) (limit : ℕ) (left right others groups : Chains) : Type 0 where
  pub done : Chains
  pub all : done ++ others ≡ right
  pub joining : IsJoining p limit left right others groups
  pub closed : AreClosed groups
  pub untouched : (key : Key) → is_among key (keys_of done) ≡ false → lookup (is_key key) groups ≡ lookup (is_key key) left

ok_has : {A : Type 0} (one : Joining) → WasJoined one → OnOk one.joined A → A
ok_has {A} one was h = IfOk-at_ok (λ _. A) was h

closing_on : (p : ScriptPlan) (limit : ℕ) (left right others groups : Chains) (q : Key × Chained) (one : Joining) → IsClosingJoin p limit left right (q ∷ others) groups → HaveDistinctKeys right
    → IsJoinedFrom p limit left q one → WasJoined one → IsClosingJoin p limit left right others (put groups q.0 one.chain)
closing_on p limit left right others groups q one h distinct from was =
    let apart : is_among q.0 (keys_of h.done) ≡ false = new_key h.done q others (subst HaveDistinctKeys (sym h.all) distinct) in
    let new = put groups q.0 one.chain in
    let grows : (Closes : Type 0) → Grows chain_kind p limit q.0 (λ rest. ChainStandsFor p rest q.1) Closes groups new = λ Closes. record {
      chain = one.chain;
      is = refl;
      fits = ok_has one was from.fits;
      tight = ok_has one was from.tight;
      stands = λ first rest found adds.
          ok_has one was (from.stands first rest (subst (FoundStandsFor p first) (h.untouched q.0 apart) found) adds);
      closed = λ closes found. ok_has one was from.closed;
    } in
    record {
      done = h.done ++ q ∷ [];
      all = append_assoc h.done (q ∷ []) others ∙ h.all;
      joining = joining_on p limit left right others groups new q h.joining distinct (grows (IsClosed q.1));
      closed = grown_closed chain_kind p limit q.0 (λ rest. ChainStandsFor p rest q.1) (Unit {0}) groups new (grows (Unit {0})) tt h.closed;
      untouched = λ key e.
          let both = none_of_more key h.done q e in
          lookup-put key q.0 one.chain groups both.1 ∙ h.untouched key both.0;
    }

-- The left groups have taken on all right ones, and keep no records.
pub record IsAllJoined (p : ScriptPlan) (limit : ℕ) (left right groups : Chains) : Type 0 where
  pub joining : IsJoining p limit left right [] groups
  pub closed : AreClosed groups

put_rest : (p : ScriptPlan) (limit : ℕ) (left right others groups real : Chains) (rest : List Joining) → IsClosingJoin p limit left right others groups → HaveDistinctKeys right
    → AreAlikeBut (keys_of others) groups real → AllZip (IsJoinedFrom p limit left) others rest → All WasJoined rest → HaveDistinctKeys (put_joined rest real) → IsAllJoined p limit left right (put_joined rest real)
put_rest p limit left right [] groups real [] h distinct alike from was apart =
    let same : real ≡ groups = alike_all groups real apart alike in
    record {
      joining = subst (IsJoining p limit left right []) (sym same) h.joining;
      closed = subst AreClosed (sym same) h.closed;
    }
put_rest p limit left right [] groups real (one ∷ rest) h distinct alike from was apart = absurd from
put_rest p limit left right (q ∷ others) groups real [] h distinct alike from was apart = absurd from
put_rest p limit left right (q ∷ others) groups real (one ∷ rest) h distinct alike from was apart =
    put_rest p limit left right others (put groups q.0 one.chain) (put real one.key one.chain) rest
    (closing_on p limit left right others groups q one h distinct from.0 (All-head WasJoined one rest was)) distinct
    (subst (λ (k : Key). AreAlikeBut (keys_of others) (put groups q.0 one.chain) (put real k one.chain)) (sym from.0.key_is)
    (put_both (keys_of others) q.0 one.chain groups real alike))
    from.1 (All-tail WasJoined one rest was) apart

pub put_back : (p : ScriptPlan) (limit : ℕ) (left right real : Chains) (joining : List Joining) → GroupsFit p left → AreTight p limit left → AreClosed left → HaveDistinctKeys right
    → AreAlikeBut (keys_of right) left real → AllZip (IsJoinedFrom p limit left) right joining → All WasJoined joining → HaveDistinctKeys (put_joined joining real)
    → IsAllJoined p limit left right (put_joined joining real)
put_back p limit left right real joining fits tight closed distinct alike from was apart =
    put_rest p limit left right right left real joining
    (record { done = []; all = refl; joining = joining_none p limit left right fits tight; closed = closed; untouched = λ key e. refl })
    distinct alike from was apart
