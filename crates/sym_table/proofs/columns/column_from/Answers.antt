use Rattle.std.proofs.Common.{◌∙◌, sym, arith}
use Rattle.sym_table.proofs.FoundColumns.{column_here, column_later}
use Rattle.sym_table.proofs.columns.column_from.Goals as goal

pub returns-then-has_text-clause-found : goal.returns-then-has_text-clause-found
returns-then-has_text-clause-found c =
    sym (column_here c.args.row.now c.args.text.now c.columns.at (omega arith) (sym c.has_text.ensures ∙ c.if-has_text.true))
    ∙ c.columns.invariant

pub columns-preserved : goal.columns-preserved
columns-preserved c =
    sym (column_later c.args.row.now c.args.text.now c.columns.at (omega arith) (sym c.has_text.ensures ∙ c.if-has_text.false))
    ∙ c.columns.invariant
