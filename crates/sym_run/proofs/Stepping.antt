-- Groups that are joined and applied, and rows that are taken, one after the other.
use Rattle.std.proofs.Common.{◌≡◌, ◌∙◌, ap, sym, refl, subst, ℕ, false, List, [], ◌∷◌, ◌++◌}
use Rattle.std.proofs.lemmas.List.{append_assoc, append-nil}
use Rattle.std.specs.List.{All}
use Rattle.std.specs.Map.{keys_of, lookup}
use Rattle.sym_base.specs.declared.values.value.Key.{Key}
use Rattle.sym_base.specs.declared.values.record.Record.{Record}
use Rattle.sym_base.specs.declared.values.state.Outcome.{Outcome}
use Rattle.sym_check.specs.Meaning.Groups.{is_among, is_key, not_among, records_of}
use Rattle.sym_check.specs.Plan.ScriptPlans.{ScriptPlan}
use Rattle.sym_run.specs.Chained.{Chained}
use Rattle.sym_plain.specs.Pairs.{HaveDistinctKeys, after_keys, after_records}
use Rattle.sym_plain.proofs.Apart.{groups_apart}
use Rattle.sym_run.specs.Applying.{AreValid, led_on}
use Rattle.sym_run.specs.Chains.{ChainFits, ChainStandsFor, IsClosed, IsTight}
use Rattle.sym_run.specs.Growing.{AreBoth, AreJoined, FoundStandsFor, GrowsByChain}
use Rattle.sym_run.specs.Runs.{AreClosed, AreTight, GroupsFit, GroupsStandFor, chain_kind}
use Rattle.sym_run.proofs.GroupPuts.{all_split, new_key}
use Rattle.sym_run.proofs.JoinedGroups.{Chains, TakeOn, grown_closed, grown_fit, grown_keys, grown_tight, joined_all, joined_none, joined_on, take_more, take_none}

keys-both : (xs ys : Chains) → keys_of (xs ++ ys) ≡ keys_of xs ++ keys_of ys
keys-both [] ys = refl
keys-both (x ∷ xs) ys = ap (λ (ks : List Key). x.0 ∷ ks) (keys-both xs ys)

-- ---- joining
-- The left groups have taken on the first of the right ones; the others are left.
pub record IsJoining (p : ScriptPlan) (limit : ℕ) (left right others groups : Chains) : Type 0 where
  pub done : Chains
  pub all : done ++ others ≡ right
  pub fits : GroupsFit p groups
  pub tight : AreTight p limit groups
  pub closed : AreClosed left → AreClosed right → AreClosed groups
  pub stand : (first rest : List Record) → GroupsStandFor p first left → GroupsStandFor p rest right → AreJoined chain_kind p first rest (keys_of done) groups
  pub keys_are : keys_of groups ≡ keys_of left ++ not_among (keys_of left) (keys_of done)
  pub take : TakeOn p left done groups

pub joining_none : (p : ScriptPlan) (limit : ℕ) (left right : Chains) → GroupsFit p left → AreTight p limit left → IsJoining p limit left right right left
joining_none p limit left right fits tight = record {
  done = [];
  all = refl;
  fits = fits;
  tight = tight;
  closed = λ a b. a;
  stand = λ first rest h k. joined_none chain_kind p limit first rest left h;
  keys_are = sym (append-nil (keys_of left));
  take = take_none p left;
}

-- The next group that is left fits and is tight.
pub next_fits : (p : ScriptPlan) (limit : ℕ) (left right others groups : Chains) (q : Key × Chained) → IsJoining p limit left right (q ∷ others) groups → GroupsFit p right → ChainFits p q.1
next_fits p limit left right others groups q h fits =
    all_split (λ (group : Key × Chained). ChainFits p group.1) h.done q others (subst (GroupsFit p) (sym h.all) fits)

pub next_tight : (p : ScriptPlan) (limit : ℕ) (left right others groups : Chains) (q : Key × Chained) → IsJoining p limit left right (q ∷ others) groups → AreTight p limit right → IsTight p limit q.1
next_tight p limit left right others groups q h tight =
    all_split (λ (group : Key × Chained). IsTight p limit group.1) h.done q others (subst (AreTight p limit) (sym h.all) tight)

pub joining_on : (p : ScriptPlan) (limit : ℕ) (left right others old new : Chains) (q : Key × Chained) → IsJoining p limit left right (q ∷ others) old → HaveDistinctKeys right
    → GrowsByChain p limit q.0 q.1 old new → IsJoining p limit left right others new
joining_on p limit left right others old new q h distinct g =
    let all : (h.done ++ q ∷ []) ++ others ≡ right = append_assoc h.done (q ∷ []) others ∙ h.all in
    let apart : is_among q.0 (keys_of h.done) ≡ false = new_key h.done q others (subst HaveDistinctKeys (sym h.all) distinct) in
    record {
      done = h.done ++ q ∷ [];
      all = all;
      fits = grown_fit chain_kind p limit q.0 (λ rest. ChainStandsFor p rest q.1) (IsClosed q.1) old new g h.fits;
      tight = grown_tight chain_kind p limit q.0 (λ rest. ChainStandsFor p rest q.1) (IsClosed q.1) old new g h.tight;
      closed = λ a b.
          grown_closed chain_kind p limit q.0 (λ rest. ChainStandsFor p rest q.1) (IsClosed q.1) old new g
          (all_split (λ (group : Key × Chained). IsClosed group.1) h.done q others (subst AreClosed (sym h.all) b))
          (h.closed a b);
      stand = λ first rest a b.
          subst (λ (ks : List Key). AreJoined chain_kind p first rest ks new) (sym (keys-both h.done (q ∷ [])))
          (joined_on chain_kind p limit first rest (keys_of h.done) q.0 (λ rest. ChainStandsFor p rest q.1) (IsClosed q.1) old new
          apart g
          (all_split (λ (group : Key × Chained). ChainStandsFor p (records_of p group.0 rest) group.1) h.done q others
          (subst (All (λ (group : Key × Chained). ChainStandsFor p (records_of p group.0 rest) group.1)) (sym h.all) b.each))
          (h.stand first rest a b));
      keys_are =
          ap keys_of g.is
          ∙ grown_keys (keys_of left) (keys_of h.done) q.0 old g.chain apart h.keys_are
          ∙ ap (λ (ks : List Key). keys_of left ++ not_among (keys_of left) ks) (sym (keys-both h.done (q ∷ [])));
      take = take_more p left h.done old new q.0 q.1 g.chain apart g.is g.stands h.take;
    }

pub joining_all : (p : ScriptPlan) (limit : ℕ) (left right groups : Chains) → IsJoining p limit left right [] groups → (first rest : List Record) → GroupsStandFor p first left → GroupsStandFor p rest right
    → GroupsStandFor p (first ++ rest) groups
joining_all p limit left right groups h first rest a b =
    let done : h.done ≡ right = sym (append-nil h.done) ∙ h.all in
    joined_all chain_kind p limit first rest groups
    (subst (λ (ks : List Key). AreJoined chain_kind p first rest ks groups) (ap keys_of done ∙ b.keys_are) (h.stand first rest a b))

pub joining_both : (p : ScriptPlan) (limit : ℕ) (left right groups : Chains) → IsJoining p limit left right [] groups → AreBoth p left right groups
joining_both p limit left right groups h =
    let done : h.done ≡ right = sym (append-nil h.done) ∙ h.all in
    record {
      keys_are = h.keys_are ∙ ap (λ (xs : Chains). keys_of left ++ not_among (keys_of left) (keys_of xs)) done;
      each = λ key first rest a b. h.take key first rest a (subst (λ (xs : Chains). FoundStandsFor p rest (lookup (is_key key) xs)) (sym done) b);
    }

-- ---- applying
-- The groups have been led on by the first chains; the others are left.
pub record IsApplying (p : ScriptPlan) (chains others : Chains) (first groups : List (Key × Outcome)) : Type 0 where
  pub done : Chains
  pub all : done ++ others ≡ chains
  pub valid : AreValid p groups
  pub leads : (records : List Record) → GroupsStandFor p records chains →
      after_keys p records (keys_of others) groups ≡ after_keys p records (keys_of chains) first

pub applying_none : (p : ScriptPlan) (chains : Chains) (groups : List (Key × Outcome)) → AreValid p groups → IsApplying p chains chains groups groups
applying_none p chains groups valid = record { done = []; all = refl; valid = valid; leads = λ records h. refl }

pub chain_fits : (p : ScriptPlan) (chains others : Chains) (first groups : List (Key × Outcome)) (q : Key × Chained) → IsApplying p chains (q ∷ others) first groups → GroupsFit p chains → ChainFits p q.1
chain_fits p chains others first groups q h fits =
    all_split (λ (group : Key × Chained). ChainFits p group.1) h.done q others (subst (GroupsFit p) (sym h.all) fits)

pub applying_on : (p : ScriptPlan) (chains others : Chains) (first old new : List (Key × Outcome)) (q : Key × Chained) → IsApplying p chains (q ∷ others) first old → AreValid p new
    → ((records : List Record) → ChainStandsFor p records q.1 → new ≡ led_on p records q.0 old) → IsApplying p chains others first new
applying_on p chains others first old new q h valid leads = record {
  done = h.done ++ q ∷ [];
  all = append_assoc h.done (q ∷ []) others ∙ h.all;
  valid = valid;
  leads = λ records s.
      ap (after_keys p records (keys_of others))
      (leads (records_of p q.0 records)
      (all_split (λ (group : Key × Chained). ChainStandsFor p (records_of p group.0 records) group.1) h.done q others
      (subst (All (λ (group : Key × Chained). ChainStandsFor p (records_of p group.0 records) group.1)) (sym h.all) s.each)))
      ∙ h.leads records s;
}

pub applying_all : (p : ScriptPlan) (chains : Chains) (first groups : List (Key × Outcome)) → IsApplying p chains [] first groups → (records : List Record) → GroupsStandFor p records chains
    → groups ≡ after_records p records first
applying_all p chains first groups h records s =
    h.leads records s
    ∙ ap (λ (ks : List Key). after_keys p records ks first) s.keys_are
    ∙ sym (groups_apart p records first)
