-- What the program hands to the top call: its arguments, three forms, a gate that shows each row as
-- it is, the disk and two streams. Of the disk and the streams a contract sees counts alone.
use Rattle.std.specs.Prelude.{◌≡◌, ℕ, List, [], ◌∷◌, None, codes, map}
use Rattle.std.specs.String.{string_bytes}
use Rattle.std.specs.declared.string.String.{String}
use Rattle.sym_report.specs.Csvs.{csv_form}
use Rattle.sym_report.specs.Pairs.{pairs_form}
use Rattle.sym_report.specs.Tables.{table_form}
use Rattle.sym_command.specs.Commands.{Form, asks, shown_names}
use Rattle.sym_message.specs.declared.refusal.StartErr.{StartErr}
use Rattle.sym_message.specs.declared.status.Status.{Status}
use Rattle.sym_message.specs.declared.status.Status.TheVariants as status
use Rattle.sym_message.specs.Messages.{line_of}
use Rattle.sym_message.specs.Refusals.{start_refusal, status_of_refusal}
use Rattle.sym_message.specs.Telling.{Sunk, Tells, sunk}
use Rattle.sym_top.specs.Promises.{Call, IsReported, IsUnwritten, IsUsage, Refuses, Wrote, call_of}
use Rattle.symple.specs.Counting.{Disk, Stream}

-- The forms of reports that the program has, in this order.
abbrev pub program_forms : List Form
program_forms =
    record { name = codes "table"; texts = table_form }
    ∷ record { name = codes "csv"; texts = csv_form }
    ∷ record { name = codes "pairs"; texts = pairs_form }
    ∷ []

-- The call of the program with these arguments, over the disk before and after it.
abbrev pub disk_call : List (List ℕ) → Disk → Disk → Call
disk_call words before after =
    let asked = asks words program_forms (λ row. row) in
    call_of (λ disk name. None) (λ disk name. disk.faults) asked before after

-- The same of arguments as texts.
abbrev pub called_with : {A : Type 0} → List (String A) → Disk → Disk → Call
called_with words before after = disk_call (map string_bytes words) before after

-- A stream before and after a call, as a sink.
abbrev pub streamed : Stream → Stream → Sunk
streamed before after = sunk (λ stream. None) (λ stream. stream.faults) (λ stream. 0) before after

-- What a call leaves as it was, over the disk and the streams before and after it.
pub record LeavesAll (call : Call) (before after : Disk) (out out_after err err_after : Stream)
    (result : Status) : Type 0 where
  pub unread : IsUsage call → after ≡ before
  pub unwritten : IsUnwritten result → out_after ≡ out
  pub memory : result ≡ status.NoMemory → out_after ≡ out
  pub quiet : IsReported result → err_after ≡ err

-- There are arguments by which the text of the call's end was written.
pub record WroteSome (before after : Disk) (out : Sunk) (status : Status) : Type 0 where
  pub words : List (List ℕ)
  pub wrote : Wrote (disk_call words before after) out status

-- There are arguments by which the call is refused.
pub record RefusesSome (before after : Disk) (out err : Sunk) (status : Status) : Type 0 where
  pub words : List (List ℕ)
  pub refuses : Refuses (disk_call words before after) out err status

-- No call was begun, as an argument isn't UTF-8 or an allocation failed, and the line of this was
-- told.
pub record NotBegun (err : Sunk) (status : Status) : Type 0 where
  pub why : StartErr
  pub status_is : status ≡ status_of_refusal (start_refusal why)
  pub line : Tells err (line_of (shown_names None) [] (start_refusal why))
