use Rattle.std.proofs.Common.{◌∙◌, Some, ap, sym}
use Rattle.sym_table.proofs.Raws.{first_left}
use Rattle.sym_table.proofs.source.RowSource.after_first.Goals as goal

pub returns : goal.returns
returns c = ap Some (first_left c.args.bytes.now c.next_piece.result c.next_piece.ensures) ∙ sym c.requires
