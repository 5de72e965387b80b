-- How the groups of a run grow where the chain of a key takes on more records.
use Rattle.std.specs.Prelude.{◌≡◌, ℕ, Bool, true, false, List, [], ◌∷◌, ◌++◌, Option, Some, None, Result, Ok, Err, if◌then◌else◌}
use Rattle.std.specs.List.{All}
use Rattle.std.specs.Map.{keys_of, lookup}
use Rattle.sym_base.specs.declared.values.value.Key.{Key}
use Rattle.sym_base.specs.declared.values.record.Record.{Record}
use Rattle.sym_check.specs.Meaning.Groups.{is_among, is_key, keys, not_among, records_of}
use Rattle.sym_check.specs.Plan.ScriptPlans.{ScriptPlan}
use Rattle.sym_run.specs.Chained.{Chained}
use Rattle.sym_plain.specs.Pairs.{put}
use Rattle.sym_table.specs.declared.bad.Bad.{Bad}
use Rattle.sym_run.specs.Chains.{ChainStandsFor, IsClosed}
use Rattle.sym_run.specs.Kinds.{Kind, by_extension}
use Rattle.sym_run.specs.Opened.{KeepsNone, OpenFits, OpenGroupsAreTight, OpenGroupsStandFor, OpenIsExtended, OpenIsTight, OpenStandsFor, open_kind}
use Rattle.sym_run.specs.Runs.{chain_kind}
use Rattle.sym_run.specs.declared.opened.Open.{Open}

-- What the right chain keeps was put after what the left one keeps.
pub record IsKeptAfter (left right chain : Chained) : Type 0 where
  pub segments : chain.segments ≡ left.segments
  pub kept : chain.kept ≡ left.kept ++ right.kept

-- What is in an open chain's place: another one, or, where there is none, the chain itself.
abbrev pub placed : Option Open → Open → Open
placed None chain = chain
placed (Some next) chain = next

-- A chain takes on one record: it fits and is tight, and stands for the records for which the old
-- one stood, whatever these are, and then this one. Where the old one kept no record, it keeps
-- none, and where it was extended by records, it is by these and then this one.
pub record TakesOne (p : ScriptPlan) (limit : ℕ) (rec : Record) (old new : Open) : Type 0 where
  pub fits : OpenFits p new
  pub tight : OpenIsTight p limit new
  pub stands : (records : List Record) → OpenStandsFor p records old →
      OpenStandsFor p (records ++ rec ∷ []) new
  pub closed : KeepsNone old → KeepsNone new
  pub extends : (records : List Record) → OpenIsExtended p limit records old →
      OpenIsExtended p limit (records ++ rec ∷ []) new

-- What was found for a key stands for its records: a chain, or no group where there are none.
abbrev pub FoundStands : {C : Type 0} → Kind C → ScriptPlan → List Record → Option C → Type 0
FoundStands kind p records None = records ≡ []
FoundStands kind p records (Some chain) = kind.stands p records chain

-- What was found for a key keeps no records.
abbrev pub FoundIsClosed : {C : Type 0} → Kind C → Option C → Type 0
FoundIsClosed kind None = Unit {0}
FoundIsClosed kind (Some chain) = kind.closed chain

-- The same of chains as they stand.
abbrev pub FoundStandsFor : ScriptPlan → List Record → Option Chained → Type 0
FoundStandsFor p records found = FoundStands chain_kind p records found

-- A key's chain takes on records, which `Adds` says. A new key goes last, and all others stay. A
-- chain that was closed stays so where `Closes` holds.
pub record Grows {C : Type 0} (kind : Kind C) (p : ScriptPlan) (limit : ℕ) (key : Key)
    (Adds : List Record → Type 0) (Closes : Type 0) (old new : List (Key × C)) : Type 0 where
  pub chain : C
  pub is : new ≡ put old key chain
  pub fits : kind.fits p chain
  pub tight : kind.tight p limit chain
  pub stands : (first rest : List Record) → FoundStands kind p first (lookup (is_key key) old) →
      Adds rest → kind.stands p (first ++ rest) chain
  pub closed : Closes → FoundIsClosed kind (lookup (is_key key) old) → kind.closed chain

-- There is no group with the key, and the groups stay.
pub record IsAbsent {C : Type 0} (key : Key) (old new : List (Key × C)) : Type 0 where
  pub none : lookup (is_key key) old ≡ None
  pub same : new ≡ old

-- The open chain of a key takes on one record, of which it keeps none where at most `most` records
-- are to be kept and that is 0.
abbrev pub GrowsByOne : ScriptPlan → ℕ → ℕ → Key → Record
    → List (Key × Open) → List (Key × Open) → Type 0
GrowsByOne p limit most key rec old new =
    Grows open_kind p limit key (λ rest. rest ≡ rec ∷ []) (most ≡ 0) old new

-- The same, where the chain of a key was extended by the records before, and is by this one.
abbrev pub ExtendsByOne : ScriptPlan → ℕ → ℕ → Key → Record
    → List (Key × Open) → List (Key × Open) → Type 0
ExtendsByOne p limit most key rec old new =
    Grows (by_extension limit open_kind) p limit key (λ rest. rest ≡ rec ∷ []) (most ≡ 0) old new

-- One record more where the key is there; where it isn't, the groups stay.
abbrev pub GrowsIf : ScriptPlan → ℕ → ℕ → Key → Record
    → List (Key × Open) → Bool → List (Key × Open) → Type 0
GrowsIf p limit most key rec old true new = GrowsByOne p limit most key rec old new
GrowsIf p limit most key rec old false new = IsAbsent key old new

-- The chain of a key takes on the records of another chain.
abbrev pub GrowsByChain : ScriptPlan → ℕ → Key → Chained
    → List (Key × Chained) → List (Key × Chained) → Type 0
GrowsByChain p limit key right old new =
    Grows chain_kind p limit key (λ rest. ChainStandsFor p rest right) (IsClosed right) old new

-- The same where the key is there; where it isn't, the groups stay and the other chain is given
-- back.
abbrev pub JoinsUnless : ScriptPlan → ℕ → Key → Chained
    → List (Key × Chained) → Option Chained → List (Key × Chained)
    → Type 0
JoinsUnless p limit key right old None new =
    GrowsByChain p limit key right old new
JoinsUnless p limit key right old (Some chain) new = IsAbsent key old new × (chain ≡ right)

-- Groups take on what was found of rows. Where all rows are records, these come after the records
-- for which the groups stood, whatever these are; else there is the first row that is none.
abbrev pub TakesOn : ScriptPlan → ℕ → Result (List Record) Bad
    → List (Key × Open) → Option Bad → List (Key × Open) → Type 0
TakesOn p limit (Ok records) old bad new =
    (bad ≡ None) × OpenGroupsAreTight p limit new
    × ((before : List Record) → OpenGroupsStandFor p before old →
    OpenGroupsStandFor p (before ++ records) new)
TakesOn p limit (Err first) old bad new = bad ≡ Some first

-- The groups of the first records have taken on the other records of these keys.
pub record AreJoined {C : Type 0} (kind : Kind C) (p : ScriptPlan) (first rest : List Record)
    (ks : List Key) (groups : List (Key × C)) : Type 0 where
  pub keys_are : keys_of groups ≡ keys p first ++ not_among (keys p first) ks
  pub each : All (λ group. kind.stands p (records_of p group.0 first
      ++ (if is_among group.0 ks then records_of p group.0 rest else [])) group.1) groups

-- Groups in one: the left ones' keys and then the right ones' new ones. The chain of each key
-- stands for the records for which the left one stood and then those of the right one, whatever
-- these are.
pub record AreBoth (p : ScriptPlan)
    (left right groups : List (Key × Chained)) : Type 0 where
  pub keys_are : keys_of groups ≡ keys_of left ++ not_among (keys_of left) (keys_of right)
  pub each : (key : Key) (first rest : List Record) →
      FoundStandsFor p first (lookup (is_key key) left) →
      FoundStandsFor p rest (lookup (is_key key) right) →
      FoundStandsFor p (first ++ rest) (lookup (is_key key) groups)
