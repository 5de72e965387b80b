-- Records that are kept with the places of their groups, and the steps that they make there.
use Rattle.std.specs.Prelude.{◌≡◌, ◌-◌, ℕ, zero, suc, Bool, List, [], ◌∷◌, ◌++◌, map, Some, length, slice_get, nat_le, if◌then◌else◌}
use Rattle.std.specs.List.{All, AllZip, flat_map}
use Rattle.sym_base.specs.declared.values.value.Key.{Key}
use Rattle.sym_base.specs.declared.values.value.Value.{Value}
use Rattle.sym_base.specs.declared.values.record.Record.{Record}
use Rattle.sym_base.specs.declared.values.state.Outcome.{Outcome}
use Rattle.sym_check.specs.Meaning.Groups.{key_of}
use Rattle.sym_check.specs.Meaning.Updates.{step}
use Rattle.sym_check.specs.Meaning.Validity.{IsRecord}
use Rattle.sym_check.specs.Plan.ScriptPlans.{ScriptPlan}
use Rattle.sym_reads.specs.Agreement.{HasReadMarked, blank_record, where_marked}
use Rattle.sym_shuffle.specs.Begun.{begun}

-- Each field has a mark that is true or false, and it is true where the update reads the field.
pub record AreReadMarks (p : ScriptPlan) (marks : List Bool) : Type 0 where
  pub len : length marks ≡ length p.fields
  pub read : HasReadMarked p marks

-- The values that have a mark, in order.
abbrev pub marked : List Bool → List Value → List Value
marked [] values = []
marked (mark ∷ marks) [] = []
marked (mark ∷ marks) (value ∷ values) =
    if mark then value ∷ marked marks values else marked marks values

-- So many values have a mark.
abbrev pub width_of : List Bool → ℕ
width_of [] = zero
width_of (mark ∷ marks) = if mark then suc (width_of marks) else width_of marks

-- The marked values of records, one record's after the other.
abbrev pub marked_of : List Bool → List Record → List Value
marked_of marks records = flat_map (λ rec. marked marks rec.fields) records

-- A record's group is at this place of some keys.
abbrev pub IsPlaceOf : ScriptPlan → List Key → ℕ → Record → Type 0
IsPlaceOf p keys place rec = slice_get keys place ≡ Some (key_of p rec)

-- Records in order, by the places of their groups among some keys, their numbers, and the values
-- that have a mark.
pub record AreHeld (p : ScriptPlan) (marks : List Bool) (keys : List Key) (records : List Record)
    (places numbers : List ℕ) (values : List Value) : Type 0 where
  pub places_are : AllZip (IsPlaceOf p keys) places records
  pub numbers_are : numbers ≡ map (λ rec. rec.no) records
  pub values_are : values ≡ marked_of marks records
  pub of_script : All (IsRecord p) records

-- The new keys are those of the records that aren't among the groups, in order of first appearance:
-- whatever groups there are beside these, they are begun as by the records.
abbrev pub AreNew : ScriptPlan → List (Key × Outcome) → List Record → List Key → Type 0
AreNew p groups records new =
    (more : List (Key × Outcome))
    → begun p (map (key_of p) records) (groups ++ more) ≡ begun p new (groups ++ more)

-- The group at this index makes its step at a record; where there is none, all stay.
abbrev pub stepped_at : ScriptPlan → ℕ → Record → List Outcome → List Outcome
stepped_at p index rec [] = []
stepped_at p zero rec (outcome ∷ rest) = step p outcome rec ∷ rest
stepped_at p (suc index) rec (outcome ∷ rest) = outcome ∷ stepped_at p index rec rest

-- The same of groups of which the first is at `start`.
abbrev pub stepped_from : ScriptPlan → ℕ → ℕ → Record → List Outcome → List Outcome
stepped_from p start place rec outcomes =
    if nat_le start place then stepped_at p (place - start) rec outcomes else outcomes

-- The groups, of which the first is at `start`, after each record has made its step at its place.
abbrev pub led : ScriptPlan → ℕ → List ℕ → List Record → List Outcome → List Outcome
led p start [] records outcomes = outcomes
led p start (place ∷ places) [] outcomes = outcomes
led p start (place ∷ places) (rec ∷ records) outcomes =
    led p start places records (stepped_from p start place rec outcomes)

-- The values are blank where there is no mark, so that marked ones make of them the values of a
-- record that does what the one does from which these are.
pub record AreBlankBeside (p : ScriptPlan) (marks : List Bool) (values : List Value) : Type 0 where
  pub len : length values ≡ length p.fields
  pub blank : (from : List Value) → length from ≡ length p.fields →
      where_marked marks from values ≡ where_marked marks from (blank_record p zero).fields
