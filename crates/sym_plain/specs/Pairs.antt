-- Groups as a list of pairs: each key with how its group stands, or with another value of its own.
use Rattle.std.specs.Prelude.{◌≡◌, ℕ, Bool, true, false, List, [], ◌∷◌, ◌++◌, map, Option, Some, None, if◌then◌else◌}
use Rattle.std.specs.List.{IsDistinct}
use Rattle.std.specs.Map.{keys_of, lookup}
use Rattle.indexmap.specs.Layout.{set_value_at, set_values}
use Rattle.sym_base.specs.declared.values.value.Key.{Key}
use Rattle.sym_base.specs.declared.values.record.Record.{Record}
use Rattle.sym_base.specs.declared.values.state.Outcome.{Outcome}
use Rattle.sym_base.specs.declared.values.state.Outcome.TheVariants.{Going}
use Rattle.sym_check.specs.Meaning.Groups.{is_among, is_key, key_of, records_of}
use Rattle.sym_check.specs.Plan.ScriptPlans.{ScriptPlan}
use Rattle.sym_check.specs.Meaning.Updates.{initial, step, after}

-- No key stands twice.
abbrev pub HaveDistinctKeys : {V : Type 0} → List (Key × V) → Type 0
HaveDistinctKeys pairs = IsDistinct is_key (keys_of pairs)

abbrev pub has_key : {V : Type 0} → List (Key × V) → Key → Bool
has_key pairs key = is_among key (keys_of pairs)

-- The key's value becomes this one; a new key goes last; all other pairs stay.
abbrev pub put : {V : Type 0} → List (Key × V) → Key → V → List (Key × V)
put pairs key now =
    if has_key pairs key
    then map (λ p. if is_key key p.0 then (p.0, now) else p) pairs
    else pairs ++ (key, now) ∷ []

-- The value at this index becomes this one; all else stays.
abbrev pub put_by_index : {V : Type 0} → List (Key × V) → ℕ → V → List (Key × V)
put_by_index pairs index now = set_value_at pairs index now

-- The values become these, in order, as far as there are pairs; the keys stay.
abbrev pub put_values : {V : Type 0} → List (Key × V) → List V → List (Key × V)
put_values pairs now = set_values pairs now

-- How a group stands; one that isn't there begins with the initial state.
abbrev pub standing : ScriptPlan → Option Outcome → Outcome
standing p None = Going (initial p)
standing p (Some outcome) = outcome

-- The groups after a step of the group with this key at a record: all others stay.
abbrev pub stepped : ScriptPlan → Key → Record → List (Key × Outcome) → List (Key × Outcome)
stepped p key rec pairs = put pairs key (step p (standing p (lookup (is_key key) pairs)) rec)

-- The groups after one record more: the record's group makes its step.
abbrev pub after_record : ScriptPlan → Record → List (Key × Outcome) → List (Key × Outcome)
after_record p rec pairs = stepped p (key_of p rec) rec pairs

-- The groups after more records, in order.
abbrev pub after_records : ScriptPlan → List Record → List (Key × Outcome) → List (Key × Outcome)
after_records p [] pairs = pairs
after_records p (rec ∷ records) pairs = after_records p records (after_record p rec pairs)

-- The groups where the one with this key has made the steps of its own records among these.
abbrev pub stepped_by :
    ScriptPlan → List Record → Key → List (Key × Outcome) → List (Key × Outcome)
stepped_by p records key pairs =
    put pairs key (after p (records_of p key records) (standing p (lookup (is_key key) pairs)))

-- The same of each of these keys, in order.
abbrev pub after_keys :
    ScriptPlan → List Record → List Key → List (Key × Outcome) → List (Key × Outcome)
after_keys p records [] pairs = pairs
after_keys p records (key ∷ rest) pairs =
    after_keys p records rest (stepped_by p records key pairs)

-- A group with this key makes its step; where there is none, the groups stay.
abbrev pub Steps :
    ScriptPlan → Key → Record → List (Key × Outcome) → Bool → List (Key × Outcome) → Type 0
Steps p key rec old true new = new ≡ stepped p key rec old
Steps p key rec old false new =
    (lookup (is_key key) old ≡ None) × (new ≡ old) × HaveDistinctKeys old
