-- How the groups grow where the key is there, and where it is new.
use Rattle.std.proofs.Common.{◌≡◌, ap, ap₂, refl, subst, sym, ℕ, List, [], ◌∷◌, ◌++◌, Some, None}
use Rattle.std.specs.Map.{lookup}
use Rattle.sym_base.specs.declared.values.value.Key.{Key}
use Rattle.sym_base.specs.declared.values.record.Record.{Record}
use Rattle.sym_check.specs.Meaning.Groups.{is_key}
use Rattle.sym_check.specs.Plan.ScriptPlans.{ScriptPlan}
use Rattle.sym_plain.specs.Pairs.{put}
use Rattle.sym_run.specs.Chained.{Chained}
use Rattle.sym_run.specs.Chains.{ChainFits, ChainStandsFor, IsTight}
use Rattle.sym_run.specs.Growing.{FoundIsClosed, FoundStands, FoundStandsFor, Grows, GrowsByChain, GrowsByOne, TakesOne}
use Rattle.sym_run.specs.Keeping.{IsKeptAs}
use Rattle.sym_run.specs.Kinds.{Kind}
use Rattle.sym_run.specs.Opened.{KeepsNone, OpenFits, OpenIsTight, OpenStandsFor, open_kind}
use Rattle.sym_run.specs.declared.opened.Open.{Open}
use Rattle.sym_run.proofs.KeptRecords.{last_as_good}

-- A new key begins with the chain of a record.
pub begun : (p : ScriptPlan) (limit most : ℕ) (key : Key) (rec : Record) (old new : List (Key × Open)) (chain : Open) → new ≡ put old key chain → lookup (is_key key) old ≡ None
    → OpenFits p chain → OpenIsTight p limit chain → OpenStandsFor p (rec ∷ []) chain → (most ≡ 0 → KeepsNone chain) → GrowsByOne p limit most key rec old new
begun p limit most key rec old new chain is none fits tight stands closed = record {
  chain = chain;
  is = is;
  fits = fits;
  tight = tight;
  stands = λ first rest found adds.
      let empty : first ≡ [] = subst (FoundStands open_kind p first) none found in
      subst (λ (rs : List Record). OpenStandsFor p rs chain) (sym (ap₂ (λ (a b : List Record). a ++ b) empty adds)) stands;
  closed = λ closes found. closed closes;
}

-- A chain that is there takes on records.
pub grown_there : {C : Type 0} (kind : Kind C) (p : ScriptPlan) (limit : ℕ) (key : Key) (Adds : List Record → Type 0) (Closes : Type 0) (old new : List (Key × C)) (was chain : C) → new ≡ put old key chain → lookup (is_key key) old ≡ Some was
    → kind.fits p chain → kind.tight p limit chain → ((first rest : List Record) → kind.stands p first was → Adds rest → kind.stands p (first ++ rest) chain) → (Closes → kind.closed was → kind.closed chain)
    → Grows kind p limit key Adds Closes old new
grown_there kind p limit key Adds Closes old new was chain is there fits tight stands closed = record {
  chain = chain;
  is = is;
  fits = fits;
  tight = tight;
  stands = λ first rest found adds. stands first rest (subst (FoundStands kind p first) there found) adds;
  closed = λ closes found. closed closes (subst (FoundIsClosed kind) there found);
}

-- The same of one record.
pub grown_longer : (p : ScriptPlan) (limit most : ℕ) (key : Key) (rec : Record) (old new : List (Key × Open)) (was chain : Open) → new ≡ put old key chain → lookup (is_key key) old ≡ Some was
    → TakesOne p limit rec was chain → GrowsByOne p limit most key rec old new
grown_longer p limit most key rec old new was chain is there longer =
    grown_there open_kind p limit key (λ (rest : List Record). rest ≡ rec ∷ []) (most ≡ 0) old new was chain is there longer.fits longer.tight
    (λ first rest h adds. subst (λ (rs : List Record). OpenStandsFor p (first ++ rs) chain) (sym adds) (longer.stands first h))
    (λ closes. longer.closed)

-- The same of each record that is kept as this one.
pub grown_as_good : (p : ScriptPlan) (limit most : ℕ) (key : Key) (rec kept : Record) (old new : List (Key × Open)) → IsKeptAs p rec kept → GrowsByOne p limit most key kept old new → GrowsByOne p limit most key rec old new
grown_as_good p limit most key rec kept old new good g = record {
  chain = g.chain;
  is = g.is;
  fits = g.fits;
  tight = g.tight;
  stands = λ first rest found adds.
      subst (λ (rs : List Record). OpenStandsFor p (first ++ rs) g.chain) (sym adds)
      (last_as_good p first rec kept g.chain good (g.stands first (kept ∷ []) found refl));
  closed = g.closed;
}

-- A chain of a new key goes last.
pub grown_new : (p : ScriptPlan) (limit : ℕ) (key : Key) (old new : List (Key × Chained)) (chain : Chained) → new ≡ put old key chain → lookup (is_key key) old ≡ None
    → ChainFits p chain → IsTight p limit chain → GrowsByChain p limit key chain old new
grown_new p limit key old new chain is none fits tight = record {
  chain = chain;
  is = is;
  fits = fits;
  tight = tight;
  stands = λ first rest found adds.
      let empty : first ≡ [] = subst (FoundStandsFor p first) none found in
      subst (λ (rs : List Record). ChainStandsFor p rs chain) (sym (ap (λ (rs : List Record). rs ++ rest) empty)) adds;
  closed = λ closes found. closes;
}
