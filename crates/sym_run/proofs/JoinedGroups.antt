-- Groups that take on the records of keys, one key after the other.
use Rattle.std.proofs.Common.{◌≡◌, ◌∙◌, ap, sym, refl, subst, ℕ, Bool, true, false, not, cond, ◌||◌, if◌then◌else◌, List, [], ◌∷◌, ◌++◌, Option, Some, None}
use Rattle.std.proofs.lemmas.List.{append_assoc, append-nil}
use Rattle.std.proofs.lemmas.List.Elements.{All-weaker, filter-append}
use Rattle.std.specs.List.{All, filter}
use Rattle.std.specs.Map.{keys_of, lookup}
use Rattle.sym_base.specs.declared.values.value.Key.{Key}
use Rattle.sym_base.specs.declared.values.record.Record.{Record}
use Rattle.sym_check.specs.Meaning.Groups.{is_among, is_key, keys, not_among, records_of}
use Rattle.sym_check.specs.Plan.ScriptPlans.{ScriptPlan}
use Rattle.sym_check.proofs.GroupLaws.{keys_append, none_of, records_of_append}
use Rattle.sym_check.proofs.Keys.{equal_keys, keys_equiv, same_key}
use Rattle.sym_run.specs.Chained.{Chained}
use Rattle.sym_plain.specs.Pairs.{put}
use Rattle.sym_plain.proofs.Puts.{lookup-put, lookup-put-same}
use Rattle.sym_run.specs.Chains.{ChainStandsFor}
use Rattle.sym_run.specs.Growing.{AreJoined, FoundIsClosed, FoundStands, FoundStandsFor, Grows}
use Rattle.sym_run.specs.Kinds.{EachFits, EachIsClosed, EachIsTight, EachStandsFor, Kind}
use Rattle.sym_run.proofs.GroupPuts.{absent_key, all_found, all_put, keys-put}

abbrev pub Chains : Type 0
Chains = List (Key × Chained)

-- ---- keys among others
among-append : (k : Key) (xs ys : List Key) → is_among k (xs ++ ys) ≡ (is_among k xs || is_among k ys)
among-append k [] ys = refl
among-append k (x ∷ xs) ys = ap (λ (b : Bool). is_key k x || b) (among-append k xs ys) ∙ of (is_key k x)
  where
    of : (b : Bool) → (b || (is_among k xs || is_among k ys)) ≡ ((b || is_among k xs) || is_among k ys)
    of true = refl
    of false = refl

filter-none : (t : Key → Bool) (k : Key) (ks : List Key) → is_among k ks ≡ false → is_among k (filter t ks) ≡ false
filter-none t k [] h = refl
filter-none t k (x ∷ ks) h = of (is_key k x) (t x) refl h (filter-none t k ks)
  where
    of : (b c : Bool) → is_key k x ≡ b → (b || is_among k ks) ≡ false → (is_among k ks ≡ false → is_among k (filter t ks) ≡ false) → is_among k (cond c (x ∷ filter t ks) (filter t ks)) ≡ false
    of true c e g later = cc
    of false true e g later = ap (λ (b : Bool). b || is_among k (filter t ks)) e ∙ later g
    of false false e g later = later g

one_more : (k : Key) (ks done : List Key) → not_among ks (done ++ k ∷ []) ≡ not_among ks done ++ (if is_among k ks then [] else k ∷ [])
one_more k ks done = filter-append (λ key. not (is_among key ks)) done (k ∷ []) ∙ ap (λ rest. not_among ks done ++ rest) (of (is_among k ks))
  where
    of : (b : Bool) → cond (not b) (k ∷ []) [] ≡ (if b then [] else k ∷ [])
    of true = refl
    of false = refl

or_false : (b : Bool) → (b || false) ≡ b
or_false true = refl
or_false false = refl

-- Another key is among more exactly where it was.
among_other : (j k : Key) (done : List Key) → is_key k j ≡ false → is_among j (done ++ k ∷ []) ≡ is_among j done
among_other j k done e =
    among-append j done (k ∷ []) ∙ ap (λ (b : Bool). is_among j done || (b || false)) (keys_equiv.symm j k ∙ e) ∙ or_false (is_among j done)

among_last : (j k : Key) (done : List Key) → is_key k j ≡ true → is_among j (done ++ k ∷ []) ≡ true
among_last j k done e =
    among-append j done (k ∷ []) ∙ ap (λ (b : Bool). is_among j done || (b || false)) (keys_equiv.symm j k ∙ e) ∙ of (is_among j done)
  where
    of : (b : Bool) → (b || (true || false)) ≡ true
    of true = refl
    of false = refl

-- The keys of groups that take on those of one more, after the keys `ks`.
pub grown_keys : {C : Type 0} (ks done : List Key) (k : Key) (old : List (Key × C)) (chain : C) → is_among k done ≡ false
    → keys_of old ≡ ks ++ not_among ks done
    → keys_of (put old k chain) ≡ ks ++ not_among ks (done ++ k ∷ [])
grown_keys ks done k old chain apart e =
    keys-put k chain old
    ∙ ap (λ (now : List Key). if is_among k now then now else now ++ k ∷ []) e
    ∙ ap (λ (b : Bool). if b then ks ++ not_among ks done else (ks ++ not_among ks done) ++ k ∷ [])
    (among-append k ks (not_among ks done)
    ∙ ap (λ (b : Bool). is_among k ks || b) (filter-none (λ key. not (is_among key ks)) k done apart)
    ∙ or_false (is_among k ks))
    ∙ of (is_among k ks)
    ∙ ap (λ (now : List Key). ks ++ now) (sym (one_more k ks done))
  where
    of : (b : Bool) → (if b then ks ++ not_among ks done else (ks ++ not_among ks done) ++ k ∷ [])
        ≡ ks ++ (not_among ks done ++ (if b then [] else k ∷ []))
    of true = ap (λ (now : List Key). ks ++ now) (sym (append-nil (not_among ks done)))
    of false = append_assoc ks (not_among ks done) (k ∷ [])

-- ---- the records of a key, of which those of some keys are taken on
abbrev taken : ScriptPlan → List Record → List Record → List Key → Key → List Record
taken p first rest done k = records_of p k first ++ (if is_among k done then records_of p k rest else [])

taken_all : (p : ScriptPlan) (first rest : List Record) (k : Key) → taken p first rest (keys p rest) k ≡ records_of p k (first ++ rest)
taken_all p first rest k = ap (λ (rs : List Record). records_of p k first ++ rs) (of (is_among k (keys p rest)) refl) ∙ sym (records_of_append p k first rest)
  where
    of : (b : Bool) → is_among k (keys p rest) ≡ b → (if b then records_of p k rest else []) ≡ records_of p k rest
    of true e = refl
    of false e = sym (none_of p k rest e)

module _ {C : Type 0} (kind : Kind C) (p : ScriptPlan) (limit : ℕ) (first rest : List Record) where
  -- What was found for a key stands for its records among the first ones.
  pub found_stands : (done : List Key) (k : Key) (old : List (Key × C)) → is_among k done ≡ false → AreJoined kind p first rest done old
      → FoundStands kind p (records_of p k first) (lookup (is_key k) old)
  found_stands done k old apart h = of (lookup (is_key k) old) refl
    where
      none_before : (b : Bool) → is_among k (keys p first) ≡ b → (b || is_among k (not_among (keys p first) done)) ≡ false → is_among k (keys p first) ≡ false
      none_before true e g = cc
      none_before false e g = e

      of : (found : Option C) → lookup (is_key k) old ≡ found → FoundStands kind p (records_of p k first) found
      of None e =
          none_of p k first (none_before (is_among k (keys p first)) refl
          (sym (among-append k (keys p first) (not_among (keys p first) done)) ∙ ap (is_among k) (sym h.keys_are) ∙ absent_key k old e))
      of (Some v) e =
          subst (λ (rs : List Record). kind.stands p rs v)
          (ap (λ (b : Bool). records_of p k first ++ (if b then records_of p k rest else [])) apart ∙ append-nil (records_of p k first))
          (all_found (λ j u. kind.stands p (taken p first rest done j) u) k v old h.each e)

  -- One key further.
  pub joined_on : (done : List Key) (k : Key) (Adds : List Record → Type 0) (Closes : Type 0) (old new : List (Key × C)) → is_among k done ≡ false → Grows kind p limit k Adds Closes old new → Adds (records_of p k rest)
      → AreJoined kind p first rest done old → AreJoined kind p first rest (done ++ k ∷ []) new
  joined_on done k Adds Closes old new apart g adds h = record {
    keys_are = ap keys_of g.is ∙ grown_keys (keys p first) done k old g.chain apart h.keys_are;
    each = subst (λ (groups : List (Key × C)). All (λ (group : Key × C). kind.stands p (taken p first rest (done ++ k ∷ []) group.0) group.1) groups) (sym g.is)
        (all_put (λ j u. kind.stands p (taken p first rest done j) u) (λ j u. kind.stands p (taken p first rest (done ++ k ∷ []) j) u) k g.chain
        (λ j u e s. subst (λ (b : Bool). kind.stands p (records_of p j first ++ (if b then records_of p j rest else [])) u) (sym (among_other j k done e)) s)
        (λ j e. subst (λ (i : Key). kind.stands p (taken p first rest (done ++ k ∷ []) i) g.chain) (equal_keys k j e)
        (subst (λ (b : Bool). kind.stands p (records_of p k first ++ (if b then records_of p k rest else [])) g.chain) (sym (among_last k k done (same_key k)))
        (g.stands (records_of p k first) (records_of p k rest) (found_stands done k old apart h) adds)))
        old (same_key k) h.each);
  }

  -- At first, and at the end.
  pub joined_none : (groups : List (Key × C)) → EachStandsFor kind p first groups → AreJoined kind p first rest [] groups
  joined_none groups h = record {
    keys_are = h.keys_are ∙ sym (append-nil (keys p first));
    each = All-weaker (λ (group : Key × C). kind.stands p (records_of p group.0 first) group.1)
        (λ (group : Key × C). kind.stands p (taken p first rest [] group.0) group.1)
        (λ group s. subst (λ (rs : List Record). kind.stands p rs group.1) (sym (append-nil (records_of p group.0 first))) s) groups h.each;
  }

  pub joined_all : (groups : List (Key × C)) → AreJoined kind p first rest (keys p rest) groups → EachStandsFor kind p (first ++ rest) groups
  joined_all groups h = record {
    keys_are = h.keys_are ∙ sym (keys_append p first rest);
    each = All-weaker (λ (group : Key × C). kind.stands p (taken p first rest (keys p rest) group.0) group.1)
        (λ (group : Key × C). kind.stands p (records_of p group.0 (first ++ rest)) group.1)
        (λ group s. subst (λ (rs : List Record). kind.stands p rs group.1) (taken_all p first rest group.0) s) groups h.each;
  }

-- ---- whatever records the chains of a key stand for
-- What was found, or else the other.
abbrev of_more : Option Chained → Option Chained → Option Chained
of_more None other = other
of_more (Some u) other = Some u

more_none : (o : Option Chained) → of_more o None ≡ o
more_none None = refl
more_none (Some u) = refl

lookup-last : (j k : Key) (u : Chained) (xs : Chains) → lookup (is_key j) (xs ++ (k, u) ∷ []) ≡ of_more (lookup (is_key j) xs) (cond (is_key j k) (Some u) None)
lookup-last j k u [] = refl
lookup-last j k u (x ∷ xs) = of (is_key j x.0) (lookup-last j k u xs)
  where
    of : (b : Bool) → lookup (is_key j) (xs ++ (k, u) ∷ []) ≡ of_more (lookup (is_key j) xs) (cond (is_key j k) (Some u) None)
        → cond b (Some x.1) (lookup (is_key j) (xs ++ (k, u) ∷ [])) ≡ of_more (cond b (Some x.1) (lookup (is_key j) xs)) (cond (is_key j k) (Some u) None)
    of true later = refl
    of false later = later

among_none : (k : Key) (xs : Chains) → is_among k (keys_of xs) ≡ false → lookup (is_key k) xs ≡ None
among_none k [] h = refl
among_none k (x ∷ xs) h = of (is_key k x.0) h (among_none k xs)
  where
    of : (b : Bool) → (b || is_among k (keys_of xs)) ≡ false → (is_among k (keys_of xs) ≡ false → lookup (is_key k) xs ≡ None) → cond b (Some x.1) (lookup (is_key k) xs) ≡ None
    of true g later = cc
    of false g later = later g

-- The groups have taken on these others.
abbrev pub TakeOn : ScriptPlan → Chains → Chains → Chains → Type 0
TakeOn p left done groups = (key : Key) (first rest : List Record) → FoundStandsFor p first (lookup (is_key key) left)
    → FoundStandsFor p rest (lookup (is_key key) done) → FoundStandsFor p (first ++ rest) (lookup (is_key key) groups)

pub take_none : (p : ScriptPlan) (left : Chains) → TakeOn p left [] left
take_none p left key first rest h none =
    subst (λ (rs : List Record). FoundStandsFor p rs (lookup (is_key key) left)) (sym (ap (λ (rs : List Record). first ++ rs) none ∙ append-nil first)) h

pub take_more : (p : ScriptPlan) (left done old new : Chains) (k : Key) (chain made : Chained) → is_among k (keys_of done) ≡ false
    → new ≡ put old k made
    → ((first rest : List Record) → FoundStandsFor p first (lookup (is_key k) old) → ChainStandsFor p rest chain → ChainStandsFor p (first ++ rest) made)
    → TakeOn p left done old → TakeOn p left (done ++ (k, chain) ∷ []) new
take_more p left done old new k chain made apart is stands h key first rest a b = of (is_key key k) refl
  where
    of : (t : Bool) → is_key key k ≡ t → FoundStandsFor p (first ++ rest) (lookup (is_key key) new)
    of true e =
        let same : key ≡ k = equal_keys key k e in
        let none : lookup (is_key key) done ≡ None = rw same (among_none k done apart) in
        let found : lookup (is_key key) (done ++ (k, chain) ∷ []) ≡ Some chain =
        lookup-last key k chain done ∙ ap (λ (o : Option Chained). of_more o (cond (is_key key k) (Some chain) None)) none
        ∙ ap (λ (t : Bool). cond t (Some chain) None) e in
        let adds : ChainStandsFor p rest chain = subst (FoundStandsFor p rest) found b in
        let before : FoundStandsFor p first (lookup (is_key key) old) =
        subst (λ (rs : List Record). FoundStandsFor p rs (lookup (is_key key) old)) (append-nil first)
        (h key first [] a (subst (FoundStandsFor p []) (sym none) refl)) in
        let now : lookup (is_key key) new ≡ Some made = rw (same, is) (lookup-put-same k made old) in
        subst (FoundStandsFor p (first ++ rest)) (sym now)
        (stands first rest (subst (λ (i : Key). FoundStandsFor p first (lookup (is_key i) old)) same before) adds)
    of false e =
        let found : lookup (is_key key) (done ++ (k, chain) ∷ []) ≡ lookup (is_key key) done =
        lookup-last key k chain done ∙ ap (λ (t : Bool). of_more (lookup (is_key key) done) (cond t (Some chain) None)) e ∙ more_none (lookup (is_key key) done) in
        let now : lookup (is_key key) new ≡ lookup (is_key key) old = ap (lookup (is_key key)) is ∙ lookup-put key k made old e in
        subst (FoundStandsFor p (first ++ rest)) (sym now) (h key first rest a (subst (FoundStandsFor p rest) found b))

-- ---- what a key that takes on records keeps of all groups
found_closed : {C : Type 0} (kind : Kind C) (k : Key) (groups : List (Key × C)) → EachIsClosed kind groups → FoundIsClosed kind (lookup (is_key k) groups)
found_closed {C} kind k groups h = of (lookup (is_key k) groups) refl
  where
    of : (found : Option C) → lookup (is_key k) groups ≡ found → FoundIsClosed kind found
    of None e = tt
    of (Some u) e = all_found (λ (j : Key) (u : C). kind.closed u) k u groups h e

module _ {C : Type 0} (kind : Kind C) (p : ScriptPlan) (limit : ℕ) (k : Key) (Adds : List Record → Type 0) (Closes : Type 0) (old new : List (Key × C)) (g : Grows kind p limit k Adds Closes old new) where
  pub grown_fit : EachFits kind p old → EachFits kind p new
  grown_fit h = subst (EachFits kind p) (sym g.is) (all_put (λ j u. kind.fits p u) (λ j u. kind.fits p u) k g.chain (λ j u e s. s) (λ j e. g.fits) old (same_key k) h)

  pub grown_tight : EachIsTight kind p limit old → EachIsTight kind p limit new
  grown_tight h = subst (EachIsTight kind p limit) (sym g.is) (all_put (λ j u. kind.tight p limit u) (λ j u. kind.tight p limit u) k g.chain (λ j u e s. s) (λ j e. g.tight) old (same_key k) h)

  pub grown_closed : Closes → EachIsClosed kind old → EachIsClosed kind new
  grown_closed closes h =
      subst (EachIsClosed kind) (sym g.is)
      (all_put (λ (j : Key) (u : C). kind.closed u) (λ (j : Key) (u : C). kind.closed u) k g.chain (λ j u e s. s) (λ j e. g.closed closes (found_closed kind k old h)) old (same_key k) h)
