-- The texts of values and faults, which the forms share. The forms differ in how they show words.
use Rattle.std.specs.Prelude.{ℕ, List, [], ◌∷◌, ◌++◌, map, codes}
use Rattle.std.specs.Fmt.{decimal, signed_decimal}
use Rattle.sym_base.specs.declared.values.report.Column.{Column}
use Rattle.sym_base.specs.declared.values.report.Column.TheVariants as column
use Rattle.sym_base.specs.declared.values.report.ReportFault.{ReportFault}
use Rattle.sym_base.specs.declared.values.report.ReportFault.TheVariants.{Overflow, Zero}

-- Texts one after another, with a separator between two.
abbrev pub joined : List ℕ → List (List ℕ) → List ℕ
joined separator [] = []
joined separator (x ∷ []) = x
joined separator (x ∷ y ∷ rest) = x ++ (separator ++ joined separator (y ∷ rest))

abbrev pub list_text : List (List ℕ) → List ℕ
list_text elements = codes "[" ++ (joined (codes " ") elements ++ codes "]")

abbrev pub bad_text : ReportFault → List ℕ
bad_text Overflow = codes "overflow"
bad_text Zero = codes "zero divisor"

-- The text of a value, where `word` gives that of a word.
abbrev pub value_text : (List ℕ → List ℕ) → Column → List ℕ
value_text word (column.Num n) = signed_decimal n
value_text word (column.Word text) = word text
value_text word (column.Nums numbers) = list_text (map signed_decimal numbers)
value_text word (column.Words words) = list_text (map word words)
value_text word column.Nothing = codes "none"
value_text word (column.Bad fault) = bad_text fault

-- A fault of the cell of this name, and one of arithmetic, at a record.
abbrev pub over_fault : List ℕ → ℕ → List ℕ
over_fault cell record_no = cell ++ (codes " overflows at record " ++ decimal record_no)

abbrev pub arith_fault : ℕ → List ℕ
arith_fault record_no = codes "arithmetic at record " ++ decimal record_no
