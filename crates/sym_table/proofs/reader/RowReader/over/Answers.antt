use Rattle.std.proofs.Common.{ap, arith, length, ◌+◌, ◌≤◌}
use Rattle.csv.specs.Reading.{default_config, records_from, strip_bom}
use Rattle.csv.specs.declared.parser.State.TheVariants as st
use Rattle.sym_rows.specs.Pieces.{pieces_left}
use Rattle.sym_table.proofs.Marks.{strip_less}
use Rattle.sym_table.proofs.Readers.{few_rows}
use Rattle.sym_table.proofs.reader.RowReader.over.Goals as goal

pub returns-clause-few : goal.returns-clause-few
returns-clause-few c =
    let bytes = c.args.bytes.now in
    let most = length c.without_mark.result.now + 1 in
    let text = strip_bom (pieces_left c.one.result) in
    let few : length (records_from default_config most st.StartRecord text) ≤ most = few_rows default_config most st.StartRecord text in
    let less = strip_less bytes in
    let same = ap length c.without_mark.ensures in
    rw c.of.ensures (omega arith)
