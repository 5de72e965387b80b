use Rattle.std.proofs.Common.{◌∙◌, ap}
use Rattle.csv.specs.Records.{fields_of}
use Rattle.std.proofs.Common.{slice_get}
use Rattle.sym_table.proofs.Cells.{field_got}
use Rattle.sym_table.proofs.row.RowView.get.Goals as goal

pub returns : goal.returns
returns c =
    c.get.ensures.value
    ∙ field_got (fields_of c.self.inside.fields.now) c.args.index
    ∙ ap (λ row. slice_get row c.args.index) c.self.view_is
