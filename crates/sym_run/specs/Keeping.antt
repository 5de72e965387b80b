-- Records that are kept as they are, until the state before them is known.
use Rattle.std.specs.Prelude.{◌≡◌, ℕ, List, [], ◌∷◌, ◌++◌, Option, Some, None, length, take, drop, slice_get}
use Rattle.std.specs.List.{All, AllZip}
use Rattle.sym_base.specs.declared.values.value.Value.{Value}
use Rattle.sym_base.specs.declared.values.value.Value.TheVariants.{Word}
use Rattle.sym_base.specs.declared.values.record.Record.{Record}
use Rattle.sym_base.specs.declared.values.state.Outcome.{Outcome}
use Rattle.sym_check.specs.Plan.ScriptPlans.{ScriptPlan}
use Rattle.sym_check.specs.Meaning.Updates.{step}

-- A record is kept as another one, which is as good: it has the record's number, and does to every
-- outcome what the record does.
pub record IsKeptAs (p : ScriptPlan) (rec kept : Record) : Type 0 where
  pub number : kept.no ≡ rec.no
  pub steps : (o : Outcome) → step p o kept ≡ step p o rec

-- As many records are kept, each as one that is as good, in order.
abbrev pub AreKeptAs : ScriptPlan → List Record → List Record → Type 0
AreKeptAs p records kept = AllZip (IsKeptAs p) records kept

-- The records with these numbers, each with so many of the values, in turn.
abbrev pub cut_records : ℕ → List ℕ → List Value → List Record
cut_records width [] values = []
cut_records width (number ∷ numbers) values =
    record { no = number; fields = take width values } ∷ cut_records width numbers (drop width values)

-- The values and the empty word among them, at this place if one is given.
abbrev pub with_empty : Option ℕ → List Value → List Value
with_empty None values = values
with_empty (Some place) values = take place values ++ Word [] ∷ drop place values

-- The record with these values.
abbrev pub with_empty_in : Option ℕ → Record → Record
with_empty_in place rec = record rec { fields = with_empty place rec.fields }

-- There is the empty word at the place, if one is given.
abbrev pub HasEmpty : Option ℕ → List Value → Type 0
HasEmpty None values = Unit {0}
HasEmpty (Some place) values = slice_get values place ≡ Some (Word [])

-- Each record has so many values.
abbrev pub AreWide : ℕ → List Record → Type 0
AreWide count records = All (λ (rec : Record). length rec.fields ≡ count) records

-- Each has as many as this one.
abbrev pub AreAsWide : Record → List Record → Type 0
AreAsWide rec records = AreWide (length rec.fields) records
