use Rattle.std.proofs.Common.{◌∙◌, Some, ap, drop}
use Rattle.sym_rows.specs.Rows.{rows_of}
use Rattle.sym_table.specs.FileRows.{csv_rows}
use Rattle.sym_rows.proofs.Parts.{unmarked}
use Rattle.sym_table.proofs.Raws.{reads_from, slice_to_end}
use Rattle.sym_table.proofs.source.RowSource.read.Goals as goal

pub returns : goal.returns
returns c =
    let rest = drop c.self.inside.at c.self.inside.bytes.now in
    reads_from c.self.inside.by_reader c.self.inside.reader c.args.self.now c.over-reader.result c.read-found.new.self c.replace.new.dest rest c.read-found.new.row c.read-found.result c.if-self.false c.self.view_is
    (c.over-reader.ensures.rows ∙ ap (λ xs. Some (csv_rows xs)) (slice_to_end c.self.inside.bytes.now c.self.inside.at) ∙ ap (λ xs. Some (rows_of xs)) (unmarked rest c.self.invariant.begins)) c.replace.ensures.after c.read-found.ensures
