-- Values of a record without the words that an update doesn't read.
use Rattle.std.specs.Prelude.{Bool, if◌then◌else◌, List, [], ◌∷◌}
use Rattle.sym_base.specs.declared.values.value.Value.{Value}
use Rattle.sym_base.specs.declared.values.value.Value.TheVariants.{Num, Word, Label}

-- The value without its text: a word becomes the empty one.
abbrev pub without_text : Value → Value
without_text (Num number) = Num number
without_text (Word text) = Word []
without_text (Label label) = Label label

-- The values, without the text of those that have a mark which is false.
abbrev pub read_alone : List Bool → List Value → List Value
read_alone [] values = values
read_alone (mark ∷ marks) [] = []
read_alone (mark ∷ marks) (value ∷ values) =
    (if mark then value else without_text value) ∷ read_alone marks values
