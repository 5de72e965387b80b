-- A file has at most one row more than it has bytes.
use Rattle.std.proofs.Common.{◌≤◌, ℕ, ◌+◌, arith, List, length}
use Rattle.csv.specs.declared.parser.State.TheVariants as csv_state
use Rattle.csv.specs.Reading.{default_config, records_from, strip_bom}
use Rattle.sym_table.specs.FileRows.{file_rows}
use Rattle.sym_table.proofs.Marks.{strip_less}
use Rattle.sym_table.proofs.Readers.{few_rows}

pub rows_few : (bytes : List ℕ) → length (file_rows bytes) ≤ length bytes + 1
rows_few bytes =
    let text = strip_bom (strip_bom bytes) in
    let few : length (records_from default_config (length text + 1) csv_state.StartRecord text) ≤ length text + 1 = few_rows default_config (length text + 1) csv_state.StartRecord text in
    let once = strip_less bytes in
    let twice = strip_less (strip_bom bytes) in
    omega arith
