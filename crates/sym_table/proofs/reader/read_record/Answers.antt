use Rattle.std.proofs.Common.{Bor, Some, List, ℕ}
use Rattle.csv.specs.Records.{fields_of}
use Rattle.sym_table.specs.Reading.{bytes_left}
use Rattle.sym_table.proofs.Readers.{record_read}
use Rattle.sym_table.proofs.reader.read_record.Goals as goal
use Rattle.sym_table.proofs.reader.read_record.Goals.{in-Ok, in-Err}

pub returns : goal.returns
returns c =
    let is = c.requires in
    let call = c.read_byte_record in
    elim c.match-read_byte_record.branch [
      | in-Ok w ↦
          let reads = rw w.in-Ok.is at call.ensures.reads in
          let ready = rw w.in-Ok.is at call.ensures.ready in
          let flexible = rw w.in-Ok.is at call.ensures.flexible in
          rw w.result-is (
          record_read bytes_left c.args.reader.now call.new.self (fields_of call.new.row) w.in-Ok.found
          is (reads is.no_trim is.ready) (ready is.no_trim) flexible)
      | in-Err w ↦ rw w.result-is tt
    ]
