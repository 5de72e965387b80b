-- The rows that a reader of CSV has left.
use Rattle.std.specs.Prelude.{◌≡◌, ℕ, Bool, true, false, List, [], ◌∷◌, ◌++◌, Option, Some, None, Result, Ok, Err}
use Rattle.std.specs.Option.{unwrap_or}
use Rattle.csv.specs.Reading.{default_config, is_flexible, reader_config, reader_state, reader_trim, ReadRecord, Ready, records_from, source_of}
use Rattle.csv.specs.declared.reader.Reader.{Reader}
use Rattle.csv.specs.declared.reader.Trim.TheVariants as trim
use Rattle.sym_base.specs.declared.values.memory.NoMemory.{NoMemory}
use Rattle.sym_rows.specs.Pieces.{pieces_left}
use Rattle.sym_rows.specs.declared.pieces.Pieces.{Pieces}
use Rattle.sym_table.specs.declared.reader.Stage.{Stage}
use Rattle.sym_table.specs.declared.reader.Stage.TheVariants as stage

abbrev pub Row : Type 0
Row = List (List ℕ)

-- The bytes that are left, which are known.
abbrev pub bytes_left : Pieces → Option (List ℕ)
bytes_left p = Some (pieces_left p)

-- The reader is one of `csv` with its defaults, over bytes that are there.
pub record IsReading {R : Type 0} (rem : R → Option (List ℕ)) (reader : Reader R) : Type 0 where
  pub no_trim : reader_trim reader ≡ trim.None
  pub config : reader_config reader ≡ default_config
  pub ready : Ready reader
  pub flexible : is_flexible reader ≡ true
  pub bytes : List ℕ
  pub source : source_of rem reader ≡ Some bytes

-- A read of one record by `csv`; after a refusal nothing is known.
abbrev pub ReadsRecord : {R : Type 0} → (R → Option (List ℕ)) → Reader R → Reader R → Row
    → Result Bool NoMemory → Type 0
ReadsRecord rem old new row (Ok true) = IsReading rem new × ReadRecord rem old new true row
ReadsRecord rem old new row (Ok false) = ReadRecord rem old new false row
ReadsRecord rem old new row (Err e) = Unit {0}

abbrev pub IsReader : {R : Type 0} → (R → Option (List ℕ)) → Stage → Reader R → Type 0
IsReader rem stage.Reading reader = IsReading rem reader
IsReader rem stage.Ended reader = Unit {0}
IsReader rem stage.Failed reader = Unit {0}

-- The rows that are left, at most so many; none after a refusal of memory.
abbrev pub rows_left : {R : Type 0} → (R → Option (List ℕ)) → Stage → ℕ → Reader R
    → Option (List Row)
rows_left rem stage.Reading most reader =
    Some (records_from default_config most (reader_state reader)
    (unwrap_or (source_of rem reader) []))
rows_left rem stage.Ended most reader = Some []
rows_left rem stage.Failed most reader = None

-- The next row was read, or there is none; a reader that was refused memory stays so.
abbrev pub Reads : Option (List Row) → Option (List Row) → Row → Result Bool NoMemory → Type 0
Reads old new row (Ok true) = (left : List Row) × (old ≡ Some (row ∷ left)) × (new ≡ Some left)
Reads old new row (Ok false) = (old ≡ Some []) × (new ≡ Some [])
Reads old new row (Err e) = new ≡ None

-- These rows are the next ones of those that are left.
abbrev pub HasNext : List Row → Option (List Row) → Type 0
HasNext rows left = (rest : List Row) × (left ≡ Some (rows ++ rest))

-- Once these rows are read, the ones after them are left.
abbrev pub Passes : List Row → Option (List Row) → Option (List Row) → Type 0
Passes rows old new = (rest : List Row) → old ≡ Some (rows ++ rest) → new ≡ Some rest
