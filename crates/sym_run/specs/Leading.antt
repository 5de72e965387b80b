-- Groups that are taken out, led beside each other, and put back.
use Rattle.std.specs.Prelude.{◌≡◌, ◌<◌, ◌+◌, ℕ, false, List, [], ◌∷◌, Option, Some, None, Ok, length, slice_get, slice_index_or, OnOk}
use Rattle.std.specs.List.{All, AllZip}
use Rattle.std.specs.Map.{keys_of, lookup}
use Rattle.sym_base.specs.declared.values.value.Key.{Key}
use Rattle.sym_base.specs.declared.values.record.Record.{Record}
use Rattle.sym_base.specs.declared.values.state.FaultKind.TheVariants as fault
use Rattle.sym_base.specs.declared.values.state.Outcome.{Outcome}
use Rattle.sym_base.specs.declared.values.state.Outcome.TheVariants.{Ended}
use Rattle.sym_check.specs.Plan.ScriptPlans.{ScriptPlan}
use Rattle.sym_check.specs.Meaning.Groups.{is_among, is_key}
use Rattle.sym_check.specs.Meaning.Updates.{after}
use Rattle.sym_check.specs.Meaning.Validity.{IsValidOutcome}
use Rattle.sym_run.specs.Chained.{Chained}
use Rattle.sym_plain.specs.Pairs.{put, standing}
use Rattle.sym_run.specs.Chains.{ChainStandsFor}
use Rattle.sym_run.specs.declared.led_groups.Taken.{Taken}

-- What is in the place of a group that was taken out.
abbrev pub while_out : Outcome
while_out = Ended (record { kind = fault.Arith; no = 0 })

-- A key is at this index of the groups, or nowhere.
abbrev pub IsAt : List (Key × Outcome) → Key → Option ℕ → Type 0
IsAt groups key None = lookup (is_key key) groups ≡ None
IsAt groups key (Some index) = slice_get (keys_of groups) index ≡ Some key

-- The group of a run with this key, if there is one, is here in the groups.
abbrev pub IsFound : List (Key × Outcome) → Option (Key × Chained) → Option ℕ → Type 0
IsFound groups None place = Unit {0}
IsFound groups (Some group) place = IsAt groups group.0 place

-- Each key of a run is here in the groups.
abbrev pub AreFound : List (Key × Outcome) → List (Key × Chained) → List (Option ℕ) → Type 0
AreFound groups chains places = AllZip (λ group place. IsAt groups group.0 place) chains places

-- The same keys, in order, each with the same value where it is none of these.
pub record AreAlikeBut {V : Type 0} (ks : List Key) (old new : List (Key × V)) : Type 0 where
  pub keys_are : keys_of new ≡ keys_of old
  pub others :
      (key : Key) → is_among key ks ≡ false → lookup (is_key key) new ≡ lookup (is_key key) old

-- What was taken out is the key's place, and how its group stands: a new one at the initial state.
pub record IsTaken (p : ScriptPlan) (groups : List (Key × Outcome)) (key : Key) (taken : Taken)
    : Type 0 where
  pub place : IsAt groups key taken.place
  pub outcome : taken.outcome ≡ standing p (lookup (is_key key) groups)
  pub valid : IsValidOutcome p taken.outcome

-- The same of each of these groups.
abbrev pub AreTaken : ScriptPlan → List (Key × Outcome) → List (Key × Chained)
    → List Taken → Type 0
AreTaken p groups chains taken = AllZip (λ group one. IsTaken p groups group.0 one) chains taken

-- What was taken out goes on with valid states.
abbrev pub AreReady : ScriptPlan → List Taken → Type 0
AreReady p taken = All (λ one. IsValidOutcome p one.outcome) taken

-- Each key is where it was when it was taken out.
abbrev pub ArePlaces : List (Key × Outcome) → List (Key × Chained) → List Taken → Type 0
ArePlaces groups chains taken = AllZip (λ group one. IsAt groups group.0 one.place) chains taken

-- No allocation failed as it was led.
abbrev pub WasLed : Taken → Type 0
WasLed taken = taken.led ≡ Ok tt

-- The outcome was led on by a chain, unless an allocation failed.
pub record IsLed (p : ScriptPlan) (chain : Chained) (old new : Taken) : Type 0 where
  pub place : new.place ≡ old.place
  pub valid : OnOk new.led (IsValidOutcome p new.outcome)
  pub value : (records : List Record) → ChainStandsFor p records chain →
      OnOk new.led (new.outcome ≡ after p records old.outcome)

-- The same by the chain of a group, if there is one.
abbrev pub IsLedBy : ScriptPlan → Option (Key × Chained) → Taken → Taken → Type 0
IsLedBy p None old new = new ≡ old
IsLedBy p (Some group) old new = IsLed p group.1 old new

-- Groups of a run, of which the first is at this index, were led on.
pub record AreLedBy (p : ScriptPlan) (chains : List (Key × Chained)) (start : ℕ)
    (old new : List Taken) : Type 0 where
  pub len : length new ≡ length old
  pub each : (k : ℕ) (d : Taken) → k < length old →
      IsLedBy p (slice_get chains (start + k)) (slice_index_or old k d) (slice_index_or new k d)

-- What was taken out of groups for a key was led on by its chain, and still belongs where it was.
pub record IsLedFrom (p : ScriptPlan) (groups : List (Key × Outcome))
    (group : Key × Chained) (taken : Taken) : Type 0 where
  pub place : IsAt groups group.0 taken.place
  pub valid : OnOk taken.led (IsValidOutcome p taken.outcome)
  pub value : (records : List Record) → ChainStandsFor p records group.1 →
      OnOk taken.led
      (taken.outcome ≡ after p records (standing p (lookup (is_key group.0) groups)))

-- The groups where each of these keys has the outcome that was taken out for it.
abbrev pub put_each : List (Key × Chained) → List Taken → List (Key × Outcome)
    → List (Key × Outcome)
put_each [] taken groups = groups
put_each (group ∷ chains) [] groups = groups
put_each (group ∷ chains) (one ∷ taken) groups =
    put_each chains taken (put groups group.0 one.outcome)
