-- What holds of a writer of CSV between two rows.
use Rattle.std.specs.Prelude.{◌≡◌, true, false, []}
use Rattle.csv.specs.Writing.{default_writer, with_flexible}
use Rattle.csv.specs.Writing.{writer_setup, writer_pending, fields_written, has_written}
use Rattle.csv.specs.declared.writer.Writer.{Writer}
use Rattle.csv.specs.declared.writer.WriterBuilder.{WriterBuilder}

-- The default settings, with rows of any length.
abbrev pub page_setup : WriterBuilder
page_setup = with_flexible default_writer true

-- The writer has these settings, and the next row is a new one.
pub record IsAfterRow {W : Type 0} (writer : Writer W) : Type 0 where
  pub setup : writer_setup writer ≡ page_setup
  pub fields : fields_written writer ≡ 0
  pub wrote : has_written writer ≡ false

-- And it keeps nothing of the rows that it has written.
pub record IsBetweenRows {W : Type 0} (writer : Writer W) : Type 0 where
  pub after : IsAfterRow writer
  pub pending : writer_pending writer ≡ []
