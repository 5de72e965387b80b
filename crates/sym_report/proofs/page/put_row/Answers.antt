use Rattle.std.proofs.Common.{◌≢◌, ◌∙◌, ◌++◌, ap, append-nil}
use Rattle.csv.specs.Records.{fields_of}
use Rattle.csv.specs.Writing.{writer_setup}
use Rattle.csv.specs.declared.writer.QuoteStyle.TheVariants as style
use Rattle.sym_report.proofs.Writers.{row_same}
use Rattle.sym_report.proofs.page.put_row.Goals as goal
use Rattle.sym_report.proofs.page.put_row.Goals.{in-Ok, in-Err}

pub returns-clause-text : goal.returns-clause-text
returns-clause-text c =
    let old = c.requires.after in
    let items = c.args.writer.now.wtr.inner.items in
    let plain : (writer_setup c.args.writer.now).style ≢ style.NonNumeric =
    rw old.setup (λ e. cc e) in
    elim c.match-write_byte_record.branch [
      | in-Ok w ↦
          let grown = w.in-Ok.ensures.bytes old.fields old.wrote plain in
          let line = rw (old.setup, c.requires.pending, append-nil items) at grown in
          rw w.result-is (line ∙ ap (λ row. items ++ row) (row_same (fields_of c.args.row.now)))
      | in-Err w ↦ rw w.result-is tt
    ]
