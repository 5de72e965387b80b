-- What the top call promises: what its status says of its sinks, and what it leaves as it was.
use Rattle.std.specs.Prelude.{◌≡◌, ◌⊎◌}
use Rattle.sym_message.specs.declared.status.Status.{Status}
use Rattle.sym_message.specs.declared.status.Status.TheVariants as status
use Rattle.sym_message.specs.Telling.{Short, Sunk}
use Rattle.sym_top.specs.Causes.{RefusalsHaveCauses}
use Rattle.sym_top.specs.Ends.{End, Held, IsEnd}
use Rattle.sym_top.specs.Observers.{IsUnwatched}
use Rattle.sym_top.specs.Promises.{Answers, Call, IsRefused, IsReported, IsUnwritten, IsUsage, MustReport, Refuses, Told, Unless, Wrote}

-- A call that ended with this status, with what it wrote to `out` and to `err`.
pub record IsCarriedOut (call : Call) (out err : Sunk) (result : Status) : Type 0 where
  -- With Done and Faulted the text was written.
  pub reported : IsReported result → Wrote call out result
  -- With every other status the call is refused.
  pub refused : IsRefused result → Refuses call out err result
  -- If the store tells what the named files hold, any status but ReadFault, WriteFault and NoMemory
  -- is that of the call's end, and the sinks are those of this end.
  pub expected : (held : Held) (end : End) → Told call held → IsEnd call.asked held end
      → Unless result (Answers call held end out err result)
  -- If in addition the end is no refusal, and no read of a named file and no write to `out` failed,
  -- the call is refused only because memory ran out.
  pub complete : MustReport call out → IsRefused result → result ≡ status.NoMemory
  -- The causes of each refusing status, as a table.
  pub causes : RefusalsHaveCauses call out err result
  -- Usage is returned only for arguments of no command.
  pub usage : result ≡ status.Usage → IsUsage call
  -- With such arguments the status is Usage or NoMemory.
  pub no_command : IsUsage call → (result ≡ status.Usage) ⊎ (result ≡ status.NoMemory)

-- What a call leaves as it was, whatever is visible of it.
pub record Leaves {F O E W : Type 0} (call : Call) (sunk_out : Sunk) (files files_after : F)
    (out out_after : O) (err err_after : E) (observers observers_after : W) (result : Status)
    : Type 0 where
  -- The store stays with arguments of no command.
  pub unread : IsUsage call → files_after ≡ files
  -- The output stays with each status of a call that stopped before it wrote.
  pub unwritten : IsUnwritten result → out_after ≡ out
  -- With NoMemory the output stays, or a write found its own memory full.
  pub memory : result ≡ status.NoMemory → (out_after ≡ out) ⊎ Short sunk_out
  -- The sink for errors stays with Done and Faulted.
  pub quiet : IsReported result → err_after ≡ err
  -- The observers stay unless `run --watch` is asked for.
  pub unwatched : IsUnwatched call → observers_after ≡ observers
