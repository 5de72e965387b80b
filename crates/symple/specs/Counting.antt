-- What contracts see of the disk and of a stream: counts of 64 bits, which never fall and stand
-- still at the end of their type.
use Rattle.std.specs.Prelude.{ℕ, ◌+◌, ◌-◌, ◌^◌, min}
use Rattle.sym_base.specs.Counts.{counted}

-- The disk: how many reads it was asked for, and how many of them failed.
pub record Disk : Type 0 where
  pub reads : ℕ
  pub faults : ℕ

-- The disk that wasn't asked for a read yet.
abbrev pub unread_disk : Disk
unread_disk = record { reads = 0; faults = 0 }

-- The disk after a read that didn't fail.
abbrev pub after_read : Disk → Disk
after_read disk = record disk { reads = counted disk.reads }

-- The disk after a read that failed.
abbrev pub after_fault : Disk → Disk
after_fault disk = record disk { reads = counted disk.reads; faults = counted disk.faults }

-- A stream: how many bytes it took, and how many writes to it failed.
pub record Stream : Type 0 where
  pub taken : ℕ
  pub faults : ℕ

-- The stream that took nothing yet.
abbrev pub unwritten_stream : Stream
unwritten_stream = record { taken = 0; faults = 0 }

-- The stream after a write of which it took so many bytes.
abbrev pub after_write : Stream → ℕ → Stream
after_write stream count = record stream { taken = min (stream.taken + count) (2 ^ 64 - 1) }

-- The stream after a write that failed, of which it took nothing.
abbrev pub after_failed_write : Stream → Stream
after_failed_write stream = record stream { faults = counted stream.faults }
