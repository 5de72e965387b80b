-- The rows of a file.
use Rattle.std.specs.Prelude.{ℕ, List}
use Rattle.csv.specs.Reading.{default_config, records, strip_bom}

-- The rows that CSV gives for a text, with commas, double quotes and LF, CRLF or CR after a row.
-- This is the definition of `csv`, which passes over one byte-order mark itself.
abbrev pub csv_rows : List ℕ → List (List (List ℕ))
csv_rows text = records default_config (strip_bom text)

-- The rows of a file are those after one byte-order mark EF BB BF, where the file begins with it.
abbrev pub file_rows : List ℕ → List (List (List ℕ))
file_rows bytes = csv_rows (strip_bom bytes)
