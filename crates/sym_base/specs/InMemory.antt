-- Stores and sinks in memory, as tests make them: what they hold, which of their calls fail, and
-- how many calls came and failed so far.
use Rattle.std.specs.Prelude.{◌≡◌, ℕ, List, [], ◌++◌, Option, Some, None, option_map, find, min, Contains, ◌⊎◌, map}
use Rattle.std.specs.Option.{unwrap_or}
use Rattle.std.specs.Str.{bytes_eq}
use Rattle.std.specs.String.{string_bytes}
use Rattle.std.specs.declared.string.String.{String}
use Rattle.sym_base.specs.Counts.{counted}

-- A file: its name's bytes and its own.
pub record File : Type 0 where
  pub name : List ℕ
  pub bytes : List ℕ

-- The bytes of the file of a name, where there is one.
abbrev pub file_at : List File → List ℕ → Option (List ℕ)
file_at files name = option_map (λ file. file.bytes) (find (λ file. bytes_eq name file.name) files)

-- The bytes of the file of a name; no bytes where there is no such file.
abbrev pub bytes_of : List File → List ℕ → List ℕ
bytes_of files name = unwrap_or (file_at files name) []

-- The files of a store that never fails are all visible.
abbrev pub visible_bytes : List File → List ℕ → Option (List ℕ)
visible_bytes files name = Some (bytes_of files name)

-- The files that the entries of a map from names to bytes are.
abbrev pub files_of : {A : Type 0} → List (String A × List ℕ) → List File
files_of entries = map (λ entry. record { name = string_bytes entry.0; bytes = entry.1 }) entries

pub record StoreInMemory : Type 0 where
  pub files : List File
  -- the most bytes that one read gives, where there is such a number
  pub piece : Option ℕ
  -- the numbers of the reads that are to fail, counted from 1
  pub failing : List ℕ
  pub reads : ℕ
  pub faults : ℕ

-- How many bytes a read may give where there is room for so many.
abbrev pub at_most : Option ℕ → ℕ → ℕ
at_most None room = room
at_most (Some piece) room = min piece room

-- The next read of this name fails: its number was set to fail, or there is no such file.
abbrev pub FailsNext : StoreInMemory → List ℕ → Type 0
FailsNext store name =
    Contains store.failing (counted store.reads) ⊎ (file_at store.files name ≡ None)

-- The store after a read that didn't fail.
abbrev pub after_read : StoreInMemory → StoreInMemory
after_read store = record store { reads = counted store.reads }

-- The store after a read that failed.
abbrev pub after_fault : StoreInMemory → StoreInMemory
after_fault store = record store { reads = counted store.reads; faults = counted store.faults }

pub record SinkInMemory : Type 0 where
  -- all bytes that were written
  pub bytes : List ℕ
  -- the most bytes that one write takes
  pub piece : ℕ
  -- the numbers of the writes that are to fail, counted from 1
  pub failing : List ℕ
  pub writes : ℕ
  pub faults : ℕ
  -- how many writes found no memory
  pub short : ℕ

-- The sink after a write that took these bytes.
abbrev pub after_write : SinkInMemory → List ℕ → SinkInMemory
after_write sink taken = record sink { bytes = sink.bytes ++ taken; writes = counted sink.writes }

-- The sink after a write that failed.
abbrev pub after_failed_write : SinkInMemory → SinkInMemory
after_failed_write sink = record sink { writes = counted sink.writes; faults = counted sink.faults }

-- The sink after a write that found no memory.
abbrev pub after_short_write : SinkInMemory → SinkInMemory
after_short_write sink = record sink { writes = counted sink.writes; short = counted sink.short }

pub record SureSinkInMemory : Type 0 where
  -- all bytes that were written
  pub bytes : List ℕ
  -- how many writes found no memory
  pub short : ℕ
