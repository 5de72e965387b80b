use Rattle.sym_rows.proofs.Parts.{rows_around_lf, rows_cr, rows_cut, rows_cut_at_lf, rows_cut_before_lf, rows_cut_before_line}
use Rattle.sym_rows.proofs.laws.rows_are_those_of_both_parts.Goals as goal

pub returns : goal.returns
returns c = record {
  between = rows_cut;
  lf_ends = rows_cut_at_lf;
  lf_begins = rows_cut_before_lf;
  lf_parts = rows_around_lf;
  cr = rows_cr;
  line = rows_cut_before_line;
}
