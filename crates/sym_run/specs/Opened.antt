-- Chains to which records are added: the last segment may be held as states that step, where its
-- cells are known.
use Rattle.std.specs.Prelude.{◌≡◌, ◌≤◌, ℕ, max, List, [], ◌∷◌, ◌++◌, length}
use Rattle.sym_base.specs.declared.values.value.Key.{Key}
use Rattle.sym_base.specs.declared.values.record.Record.{Record}
use Rattle.sym_check.specs.Meaning.PathBounds.{path_bound}
use Rattle.sym_check.specs.Plan.ScriptPlans.{ScriptPlan}
use Rattle.sym_known.specs.Holding.{AllFit, KnownPath, KnownStandsFor}
use Rattle.sym_known.specs.Knowing.{AreKnown}
use Rattle.sym_path.specs.declared.path.Path.{Path}
use Rattle.sym_run.specs.Chained.{Chained}
use Rattle.sym_run.specs.Chains.{ChainFits, ChainStandsFor, IsClosed, IsTight, SegmentsAreTight, SegmentsFit, SegmentsStandFor}
use Rattle.sym_run.specs.Extended.{AreExtendedBefore, ChainIsExtended}
use Rattle.sym_run.specs.Kinds.{EachFits, EachIsClosed, EachIsExtended, EachIsTight, EachStandsFor, Kind}
use Rattle.sym_run.specs.declared.opened.Open.{Open}
use Rattle.sym_run.specs.declared.opened.Open.TheVariants as opened

-- There is a last segment, and its cells are known.
pub record EndsKnown (segments : List (List Path)) : Type 0 where
  pub before : List (List Path)
  pub last : List Path
  pub are : segments ≡ before ++ last ∷ []
  pub known : AreKnown last

-- ---- one chain
-- Segments and known paths after them fit the script.
pub record KnownChainFits (p : ScriptPlan) (segments : List (List Path)) (known : List KnownPath)
    : Type 0 where
  pub before : SegmentsFit p segments
  pub after : AllFit p known

-- The segments are tight, and there are as few known paths as a segment may have.
pub record KnownChainIsTight (p : ScriptPlan) (limit : ℕ) (segments : List (List Path))
    (known : List KnownPath) : Type 0 where
  pub before : SegmentsAreTight p limit segments
  pub few : length known ≤ max limit (path_bound p)

-- Segments and known paths after them stand for records: the segments for the first ones, and the
-- known paths for the others.
pub record KnownChainStandsFor (p : ScriptPlan) (records : List Record)
    (segments : List (List Path)) (known : List KnownPath) : Type 0 where
  pub first : List Record
  pub rest : List Record
  pub cut : records ≡ first ++ rest
  pub before : SegmentsStandFor p first segments
  pub after : KnownStandsFor p rest known

-- An open chain fits the script.
abbrev pub OpenFits : ScriptPlan → Open → Type 0
OpenFits p (opened.Chain chain) = ChainFits p chain
OpenFits p (opened.Known segments known) = KnownChainFits p segments known

-- It is tight for a limit.
abbrev pub OpenIsTight : ScriptPlan → ℕ → Open → Type 0
OpenIsTight p limit (opened.Chain chain) = IsTight p limit chain
OpenIsTight p limit (opened.Known segments known) = KnownChainIsTight p limit segments known

-- It stands for records.
abbrev pub OpenStandsFor : ScriptPlan → List Record → Open → Type 0
OpenStandsFor p records (opened.Chain chain) = ChainStandsFor p records chain
OpenStandsFor p records (opened.Known segments known) = KnownChainStandsFor p records segments known

-- It keeps no record as it is.
abbrev pub KeepsNone : Open → Type 0
KeepsNone (opened.Chain chain) = IsClosed chain
KeepsNone (opened.Known segments known) = Unit {0}

-- Segments and known paths after them are extended by records: the segments by the first ones, up
-- to those for which the known paths stand, of which there is one or more.
pub record KnownChainIsExtended (p : ScriptPlan) (limit : ℕ) (records : List Record)
    (segments : List (List Path)) (known : List KnownPath) : Type 0 where
  pub first : List Record
  pub rest : List Record
  pub cut : records ≡ first ++ rest
  pub some : 1 ≤ length rest
  pub before : AreExtendedBefore p limit first rest segments
  pub after : KnownStandsFor p rest known

-- An open chain is extended by records.
abbrev pub OpenIsExtended : ScriptPlan → ℕ → List Record → Open → Type 0
OpenIsExtended p limit records (opened.Chain chain) = ChainIsExtended p limit records chain
OpenIsExtended p limit records (opened.Known segments known) =
    KnownChainIsExtended p limit records segments known

-- What is said of open chains.
abbrev pub open_kind : Kind Open
open_kind = record {
  fits = OpenFits;
  tight = OpenIsTight;
  stands = OpenStandsFor;
  closed = KeepsNone;
  extended = OpenIsExtended;
}

-- ---- groups
-- The groups' open chains fit the script.
abbrev pub OpenGroupsFit : ScriptPlan → List (Key × Open) → Type 0
OpenGroupsFit p groups = EachFits open_kind p groups

-- Each group's open chain is tight.
abbrev pub OpenGroupsAreTight : ScriptPlan → ℕ → List (Key × Open) → Type 0
OpenGroupsAreTight p limit groups = EachIsTight open_kind p limit groups

-- No group's open chain keeps a record.
abbrev pub OpenGroupsKeepNone : List (Key × Open) → Type 0
OpenGroupsKeepNone groups = EachIsClosed open_kind groups

-- The groups stand for records: their keys are the records' keys in order of first appearance, and
-- the open chain of each key stands for the records with it.
abbrev pub OpenGroupsStandFor : ScriptPlan → List Record → List (Key × Open) → Type 0
OpenGroupsStandFor p records groups = EachStandsFor open_kind p records groups

-- The groups are extended by records: their keys are the records' keys in order of first
-- appearance, and the open chain of each key is extended by the records with it.
abbrev pub OpenGroupsAreExtended : ScriptPlan → ℕ → List Record → List (Key × Open) → Type 0
OpenGroupsAreExtended p limit records groups = EachIsExtended open_kind p limit records groups

-- The group with its chain as it stands.
abbrev pub opened_group : Key × Chained → Key × Open
opened_group group = (group.0, opened.Chain group.1)

-- A group with its open chain closed: the key is the same, and the chain stands for the records for
-- which the open one stood, whatever these are.
pub record IsClosingOpen (p : ScriptPlan) (old : Key × Open) (new : Key × Chained) : Type 0 where
  pub key : new.0 ≡ old.0
  pub closed : KeepsNone old.1 → IsClosed new.1
  pub stands : (records : List Record) → OpenStandsFor p records old.1 →
      ChainStandsFor p records new.1
