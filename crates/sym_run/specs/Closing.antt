-- Groups of a run that are joined to those before it, and closed, beside each other.
use Rattle.std.specs.Prelude.{◌≡◌, ◌<◌, ◌++◌, ℕ, List, [], ◌∷◌, Option, Some, None, Ok, OnOk, length, slice_index_or}
use Rattle.std.specs.Map.{lookup}
use Rattle.sym_base.specs.declared.values.value.Key.{Key}
use Rattle.sym_base.specs.declared.values.record.Record.{Record}
use Rattle.sym_check.specs.Plan.ScriptPlans.{ScriptPlan}
use Rattle.sym_check.specs.Meaning.Groups.{is_key}
use Rattle.sym_plain.specs.Pairs.{put}
use Rattle.sym_run.specs.Chained.{Chained}
use Rattle.sym_run.specs.Chains.{ChainFits, ChainStandsFor, IsClosed, IsTight}
use Rattle.sym_run.specs.Growing.{FoundStandsFor}
use Rattle.sym_run.specs.declared.closed_groups.Joining.{Joining}

-- A group of a run, with the chain that was found for its key before the run.
pub record IsTakenOut (left : List (Key × Chained)) (group : Key × Chained) (one : Joining)
    : Type 0 where
  pub key_is : one.key ≡ group.0
  pub chain_is : one.chain ≡ group.1
  pub before_is : one.before ≡ lookup (is_key group.0) left

-- What was found for a key fits the script and is tight.
abbrev pub CanJoinFound : ScriptPlan → ℕ → Option Chained → Type 0
CanJoinFound p limit None = Unit {0}
CanJoinFound p limit (Some chain) = ChainFits p chain × IsTight p limit chain

-- What a group needs so that it can be joined.
pub record CanJoin (p : ScriptPlan) (limit : ℕ) (one : Joining) : Type 0 where
  pub before : CanJoinFound p limit one.before
  pub fits : ChainFits p one.chain
  pub tight : IsTight p limit one.chain

-- No allocation failed as it was joined.
abbrev pub WasJoined : Joining → Type 0
WasJoined one = one.joined ≡ Ok tt

-- A group was joined to what its key has before it, unless an allocation failed: its chain fits, is
-- tight, keeps no records, and stands for the records for which the chain before it stood and then
-- those of its own, whatever these are.
pub record IsJoinedTo (p : ScriptPlan) (limit : ℕ) (old new : Joining) : Type 0 where
  pub key_is : new.key ≡ old.key
  pub fits : OnOk new.joined (ChainFits p new.chain)
  pub tight : OnOk new.joined (IsTight p limit new.chain)
  pub closed : OnOk new.joined (IsClosed new.chain)
  pub stands : (first rest : List Record) → FoundStandsFor p first old.before →
      ChainStandsFor p rest old.chain → OnOk new.joined (ChainStandsFor p (first ++ rest) new.chain)

-- The same of each of some groups.
pub record AreJoinedTo (p : ScriptPlan) (limit : ℕ) (old new : List Joining) : Type 0 where
  pub len : length new ≡ length old
  pub each : (k : ℕ) (d : Joining) → k < length old →
      IsJoinedTo p limit (slice_index_or old k d) (slice_index_or new k d)

-- The groups with the chains that were joined in their places; those of new keys go last.
abbrev pub put_joined : List Joining → List (Key × Chained) → List (Key × Chained)
put_joined [] groups = groups
put_joined (one ∷ rest) groups = put_joined rest (put groups one.key one.chain)
