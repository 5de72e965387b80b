-- Groups whose chains are closed, one after the other: those of a run, and open ones.
use Rattle.std.proofs.Common.{◌≡◌, ◌∙◌, ap, ap₂, sym, refl, subst, ℕ, List, [], ◌∷◌, ◌++◌, All, map}
use Rattle.std.proofs.lemmas.List.{append_assoc, append-nil}
use Rattle.std.proofs.lemmas.List.Elements.{All-cons, All-nil}
use Rattle.std.proofs.lemmas.Slice.Zip.{all_zipped_more}
use Rattle.std.specs.List.{AllZip, IsDistinct}
use Rattle.std.specs.Map.{keys_of}
use Rattle.indexmap.specs.IndexMap.{insert_entry}
use Rattle.sym_base.specs.declared.values.value.Key.{Key}
use Rattle.sym_base.specs.declared.values.record.Record.{Record}
use Rattle.sym_check.specs.Meaning.Groups.{is_key, records_of}
use Rattle.sym_check.specs.Plan.ScriptPlans.{ScriptPlan}
use Rattle.sym_path.proofs.Lists.{zip_all}
use Rattle.sym_plain.specs.Pairs.{HaveDistinctKeys}
use Rattle.sym_plain.proofs.Pairs.{insert-next}
use Rattle.sym_run.specs.Chained.{Chained}
use Rattle.sym_run.specs.Chains.{ChainFits, ChainStandsFor, IsClosed, IsTight}
use Rattle.sym_run.specs.Extended.{ChainIsExtended}
use Rattle.sym_run.specs.Kinds.{EachIsClosed, EachIsExtended, EachStandsFor, Kind}
use Rattle.sym_run.specs.Runs.{AreClosed, AreTight, GroupsAreExtended, GroupsFit, GroupsStandFor}
use Rattle.sym_run.proofs.GroupPuts.{all_split}

keys-both : {V : Type 0} (xs ys : List (Key × V)) → keys_of (xs ++ ys) ≡ keys_of xs ++ keys_of ys
keys-both [] ys = refl
keys-both (x ∷ xs) ys = ap (λ (ks : List Key). x.0 ∷ ks) (keys-both xs ys)

keys-with : {V W : Type 0} (now : W) (xs : List (Key × V)) → keys_of (map (λ (q : Key × V). (q.0, now)) xs) ≡ keys_of xs
keys-with now [] = refl
keys-with now (x ∷ xs) = ap (λ (ks : List Key). x.0 ∷ ks) (keys-with now xs)

pub all_units : {A : Type 0} (xs : List A) → All (λ (x : A). Unit {0}) xs
all_units {A} [] = All-nil (λ (x : A). Unit {0})
all_units {A} (x ∷ xs) = All-cons (λ (x : A). Unit {0}) x xs tt (all_units xs)

-- Chains as they stand, which closing leaves without kept records whatever they keep.
abbrev pub kept_kind : Kind Chained
kept_kind = record { fits = ChainFits; tight = IsTight; stands = ChainStandsFor; closed = λ chain. Unit {0}; extended = ChainIsExtended }

-- A group with its chain closed: the key is the same, and the chain fits, is tight, stands for the
-- records for which the old one stood, and is extended by those by which the old one was.
pub record IsClosedTo {C : Type 0} (kind : Kind C) (p : ScriptPlan) (limit : ℕ) (old : Key × C) (new : Key × Chained) : Type 0 where
  pub key : new.0 ≡ old.0
  pub fits : ChainFits p new.1
  pub tight : IsTight p limit new.1
  pub closed : kind.closed old.1 → IsClosed new.1
  pub stands : (records : List Record) → kind.stands p records old.1 → ChainStandsFor p records new.1
  pub extends : (records : List Record) → kind.extended p limit records old.1 → ChainIsExtended p limit records new.1

-- The first groups are closed; the others are left.
pub record AreClosing {C : Type 0} (kind : Kind C) (p : ScriptPlan) (limit : ℕ) (old left : List (Key × C)) (new : List (Key × Chained)) : Type 0 where
  pub done : List (Key × C)
  pub all : done ++ left ≡ old
  pub each : AllZip (IsClosedTo kind p limit) done new

module _ {C : Type 0} (kind : Kind C) (p : ScriptPlan) (limit : ℕ) where
  abbrev To : Key × C → Key × Chained → Type 0
  To old new = IsClosedTo kind p limit old new

  abbrev Closing : List (Key × C) → List (Key × C) → List (Key × Chained) → Type 0
  Closing old left new = AreClosing kind p limit old left new

  -- ---- one after the other
  pub closing_none : (old left : List (Key × C)) (new : List (Key × Chained)) → left ≡ old → new ≡ [] → Closing old left new
  closing_none old left new all none = record { done = []; all = all; each = subst (AllZip To []) (sym none) tt }

  -- What holds of all groups holds of the next one that is left.
  pub left_has : (P : Key × C → Type 0) (old left others : List (Key × C)) (new : List (Key × Chained)) (q : Key × C) → Closing old left new → left ≡ q ∷ others → All P old → P q
  left_has P old left others new q h next all = all_split P h.done q others (subst (All P) (sym h.all ∙ ap (λ (gs : List (Key × C)). h.done ++ gs) next) all)

  closing_keys : (old : List (Key × C)) (new : List (Key × Chained)) → AllZip To old new → keys_of new ≡ keys_of old
  closing_keys [] [] h = refl
  closing_keys [] (y ∷ ys) h = absurd h
  closing_keys (x ∷ xs) [] h = absurd h
  closing_keys (x ∷ xs) (y ∷ ys) h = ap₂ (λ (k : Key) (ks : List Key). k ∷ ks) h.0.key (closing_keys xs ys h.1)

  -- One group further.
  pub closing_on : (old left others : List (Key × C)) (before after : List (Key × Chained)) (key : Key) (chain : C) (now : Chained) → Closing old left before → left ≡ (key, chain) ∷ others → HaveDistinctKeys old
      → after ≡ insert_entry is_key before key now → To (key, chain) (key, now) → Closing old others after
  closing_on old left others before after key chain now h next distinct is to =
      let all : h.done ++ (key, chain) ∷ others ≡ old = ap (λ (gs : List (Key × C)). h.done ++ gs) (sym next) ∙ h.all in
      let rest : List (Key × Chained) = map (λ (q : Key × C). (q.0, now)) others in
      let same : keys_of old ≡ keys_of (before ++ (key, now) ∷ rest) =
      ap keys_of (sym all) ∙ keys-both h.done ((key, chain) ∷ others)
      ∙ ap (λ (ks : List Key). ks ++ key ∷ keys_of others) (sym (closing_keys h.done before h.each))
      ∙ ap (λ (ks : List Key). keys_of before ++ key ∷ ks) (sym (keys-with now others)) ∙ sym (keys-both before ((key, now) ∷ rest)) in
      let last : after ≡ before ++ (key, now) ∷ [] = is ∙ insert-next before (key, now) rest (subst (IsDistinct is_key) same distinct) in
      record {
        done = h.done ++ (key, chain) ∷ [];
        all = append_assoc h.done ((key, chain) ∷ []) others ∙ all;
        each = subst (AllZip To (h.done ++ (key, chain) ∷ [])) (sym last) (all_zipped_more To h.done before (key, chain) (key, now) h.each to);
      }

  pub closing_all : (old left : List (Key × C)) (new : List (Key × Chained)) → Closing old left new → left ≡ [] → AllZip To old new
  closing_all old left new h none =
      subst (λ (gs : List (Key × C)). AllZip To gs new) (sym (append-nil h.done) ∙ ap (λ (gs : List (Key × C)). h.done ++ gs) (sym none) ∙ h.all) h.each

  -- ---- all of them
  pub closed_distinct : (old : List (Key × C)) (new : List (Key × Chained)) → AllZip To old new → HaveDistinctKeys old → HaveDistinctKeys new
  closed_distinct old new h distinct = subst (IsDistinct is_key) (sym (closing_keys old new h)) distinct

  pub closed_fit : (old : List (Key × C)) (new : List (Key × Chained)) → AllZip To old new → GroupsFit p new
  closed_fit old new h = zip_all To (λ (group : Key × C). Unit {0}) (λ (group : Key × Chained). ChainFits p group.1) old new (λ x y to u. to.fits) h (all_units old)

  pub closed_tight : (old : List (Key × C)) (new : List (Key × Chained)) → AllZip To old new → AreTight p limit new
  closed_tight old new h = zip_all To (λ (group : Key × C). Unit {0}) (λ (group : Key × Chained). IsTight p limit group.1) old new (λ x y to u. to.tight) h (all_units old)

  pub closed_close : (old : List (Key × C)) (new : List (Key × Chained)) → AllZip To old new → EachIsClosed kind old → AreClosed new
  closed_close old new h closes = zip_all To (λ (group : Key × C). kind.closed group.1) (λ (group : Key × Chained). IsClosed group.1) old new (λ x y to one. to.closed one) h closes

  pub closed_stand : (records : List Record) (old : List (Key × C)) (new : List (Key × Chained)) → AllZip To old new → EachStandsFor kind p records old → GroupsStandFor p records new
  closed_stand records old new h stand = record {
    keys_are = closing_keys old new h ∙ stand.keys_are;
    each = zip_all To (λ (group : Key × C). kind.stands p (records_of p group.0 records) group.1) (λ (group : Key × Chained). ChainStandsFor p (records_of p group.0 records) group.1) old new
        (λ x y to one. subst (λ (k : Key). ChainStandsFor p (records_of p k records) y.1) (sym to.key) (to.stands (records_of p x.0 records) one)) h stand.each;
  }

  pub closed_extended : (records : List Record) (old : List (Key × C)) (new : List (Key × Chained)) → AllZip To old new → EachIsExtended kind p limit records old → GroupsAreExtended p limit records new
  closed_extended records old new h stand = record {
    keys_are = closing_keys old new h ∙ stand.keys_are;
    each = zip_all To (λ (group : Key × C). kind.extended p limit (records_of p group.0 records) group.1) (λ (group : Key × Chained). ChainIsExtended p limit (records_of p group.0 records) group.1) old new
        (λ x y to one. subst (λ (k : Key). ChainIsExtended p limit (records_of p k records) y.1) (sym to.key) (to.extends (records_of p x.0 records) one)) h stand.each;
  }
