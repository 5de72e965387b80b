-- The sequential pass over records: how each group stands after its records. Groups and their order
-- are those of the SYMPLE paper (SOSP 2015).
use Rattle.std.specs.Prelude.{ℕ, Bool, not, List, [], ◌∷◌, map, Option, Some, None, slice_get, pos}
use Rattle.std.specs.List.{filter, list_any}
use Rattle.sym_base.specs.declared.values.value.Value.{Value}
use Rattle.sym_base.specs.declared.values.value.Value.TheVariants as value
use Rattle.sym_base.specs.declared.values.value.Key.{Key}
use Rattle.sym_base.specs.contracts.values.value.KeyPartialEq.TheImpl as same_key
use Rattle.sym_base.specs.contracts.values.value.ValuePartialEq.TheImpl as same_value
use Rattle.sym_base.specs.declared.values.record.Record.{Record}
use Rattle.sym_base.specs.declared.values.state.Outcome.{Outcome}
use Rattle.sym_base.specs.declared.values.state.Outcome.TheVariants.{Going}
use Rattle.sym_check.specs.Plan.ScriptPlans.{ScriptPlan}
use Rattle.sym_check.specs.Meaning.Updates.{initial, after}

-- The value of a field; the number 0 where the record has no such field.
abbrev pub field_value : Option Value → Value
field_value None = value.Num (pos 0)
field_value (Some v) = v

abbrev pub field_at : Record → ℕ → Value
field_at rec field = field_value (slice_get rec.fields field)

-- The key of a record's group: the values of the fields that the group line names, in the line's
-- order. It is empty without a group line, and then all records are of one group.
abbrev pub key_of : ScriptPlan → Record → Key
key_of p rec = record { values = map (field_at rec) p.group }

-- The values are equal, as `==` tells.
abbrev pub is_value : Value → Value → Bool
is_value v other = (same_value.ghosts).eq v other

-- The keys are equal, as `==` tells.
abbrev pub is_key : Key → Key → Bool
is_key k other = (same_key.ghosts).eq k other

-- The key is one of these.
abbrev pub is_among : Key → List Key → Bool
is_among key ks = list_any (is_key key) ks

-- The keys that are none of these others, in order.
abbrev pub not_among : List Key → List Key → List Key
not_among others ks = filter (λ key. not (is_among key others)) ks

-- The records with a key, in order, where `key` gives the key of a record.
abbrev pub records_by : (Record → Key) → Key → List Record → List Record
records_by key k records = filter (λ rec. is_key (key rec) k) records

-- Keys without repetition, in order of first appearance.
abbrev pub distinct : List Key → List Key
distinct [] = []
distinct (k ∷ rest) = k ∷ filter (λ other. not (is_key other k)) (distinct rest)

-- The keys of records, in order of first appearance.
abbrev pub keys_by : (Record → Key) → List Record → List Key
keys_by key records = distinct (map key records)

-- Each key with how its group stands after its records.
abbrev pub pass_by : (Record → Key) → ScriptPlan → List Record → List (Key × Outcome)
pass_by key p records =
    map (λ k. (k, after p (records_by key k records) (Going (initial p)))) (keys_by key records)

-- The same of the key that the script names.
abbrev pub records_of : ScriptPlan → Key → List Record → List Record
records_of p k records = records_by (key_of p) k records

abbrev pub keys : ScriptPlan → List Record → List Key
keys p records = keys_by (key_of p) records

abbrev pub pass : ScriptPlan → List Record → List (Key × Outcome)
pass p records = pass_by (key_of p) p records
