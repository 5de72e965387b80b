-- What is said of the chains of groups in each of the forms that they have: as they stand, and open.
use Rattle.std.specs.Prelude.{◌≡◌, ℕ, List}
use Rattle.std.specs.List.{All}
use Rattle.std.specs.Map.{keys_of}
use Rattle.sym_base.specs.declared.values.value.Key.{Key}
use Rattle.sym_base.specs.declared.values.record.Record.{Record}
use Rattle.sym_check.specs.Meaning.Groups.{keys, records_of}
use Rattle.sym_check.specs.Plan.ScriptPlans.{ScriptPlan}

-- Of a chain of this form: that it fits a script, is tight for a limit and stands for records, that
-- it keeps none of them as they are, and that records extended it as far as a limit allows it.
pub record Kind (C : Type 0) : Type 1 where
  pub fits : ScriptPlan → C → Type 0
  pub tight : ScriptPlan → ℕ → C → Type 0
  pub stands : ScriptPlan → List Record → C → Type 0
  pub closed : C → Type 0
  pub extended : ScriptPlan → ℕ → List Record → C → Type 0

-- The same, where a chain stands for the records by which it is extended.
abbrev pub by_extension : {C : Type 0} → ℕ → Kind C → Kind C
by_extension limit kind = record {
  fits = kind.fits;
  tight = kind.tight;
  stands = λ p records chain. kind.extended p limit records chain;
  closed = kind.closed;
  extended = kind.extended;
}

-- The groups' chains fit the script.
abbrev pub EachFits : {C : Type 0} → Kind C → ScriptPlan → List (Key × C) → Type 0
EachFits kind p groups = All (λ group. kind.fits p group.1) groups

-- Each group's chain is tight.
abbrev pub EachIsTight : {C : Type 0} → Kind C → ScriptPlan → ℕ → List (Key × C) → Type 0
EachIsTight kind p limit groups = All (λ group. kind.tight p limit group.1) groups

-- No group's chain keeps a record.
abbrev pub EachIsClosed : {C : Type 0} → Kind C → List (Key × C) → Type 0
EachIsClosed kind groups = All (λ group. kind.closed group.1) groups

-- The groups stand for records: their keys are the records' keys in order of first appearance, and
-- the chain of each key stands for the records with it.
pub record EachStandsFor {C : Type 0} (kind : Kind C) (p : ScriptPlan) (records : List Record)
    (groups : List (Key × C)) : Type 0 where
  pub keys_are : keys_of groups ≡ keys p records
  pub each : All (λ group. kind.stands p (records_of p group.0 records) group.1) groups

-- The groups are extended by records: their keys are the records' keys in order of first
-- appearance, and the chain of each key is extended by the records with it.
abbrev pub EachIsExtended : {C : Type 0} → Kind C → ScriptPlan → ℕ → List Record
    → List (Key × C) → Type 0
EachIsExtended kind p limit records groups =
    EachStandsFor (by_extension limit kind) p records groups
