use Rattle.std.proofs.Common.{Bor, List, ℕ, Some, arith, refl}
use Rattle.csv.specs.Records.{fields_of}
use Rattle.sym_table.specs.Reading.{bytes_left}
use Rattle.sym_table.proofs.Readers.{took, ended, used_up}
use Rattle.sym_table.proofs.reader.RowReader.read.Goals as goal
use Rattle.sym_table.proofs.reader.RowReader.read.Goals.{in-Ok-true, in-Ok-false, in-Err}

pub returns-then-self-eq0 : goal.returns-then-self-eq0
returns-then-self-eq0 c = (
  used_up bytes_left c.self.inside.stage c.self.inside.most c.self.inside.reader c.args.self.now
      c.in-Reading.is c.if-self-eq0.true c.self.view_is,
  refl,
)

pub returns-after-read_record : goal.returns-after-read_record
returns-after-read_record c =
    let inside = c.self.inside in
    let call = c.read_record in
    elim c.match-read_record.branch [
      | in-Ok-true w ↦
          let read = rw (w.in-Ok-true.is, w.in-Ok-true.field-0-test) at call.ensures in
          rw w.result-is (
          took bytes_left inside.stage inside.most inside.reader call.new.reader (fields_of call.new.row) c.args.self.now c.match-read_record.self
          c.in-Reading.is (omega arith) c.self.invariant read c.self.view_is w.self-is)
      | in-Ok-false w ↦
          let read = rw (w.in-Ok-false.is, w.in-Ok-false.field-0-test) at call.ensures in
          rw (w.result-is, w.self-is) (
            ended bytes_left inside.stage inside.most inside.reader call.new.reader (fields_of call.new.row) c.args.self.now
                c.in-Reading.is c.self.invariant read c.self.view_is,
            refl,
          )
      | in-Err w ↦ rw (w.result-is, w.self-is) refl
    ]
