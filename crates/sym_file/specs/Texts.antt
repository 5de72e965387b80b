-- The text of a file of a saved run, one case for each line of its format. There is one spelling: a
-- number has no leading zeros and no `+`, items have one space before them, and each line ends
-- with a line feed. The format is this project's own.
use Rattle.std.specs.Prelude.{ℕ, Bool, true, false, List, ◌++◌, length, codes}
use Rattle.std.specs.Fmt.{decimal, signed_decimal}
use Rattle.std.specs.List.{flat_map}
use Rattle.sym_base.specs.declared.values.value.Key.{Key}
use Rattle.sym_base.specs.declared.values.value.Value.{Value}
use Rattle.sym_base.specs.declared.values.value.Value.TheVariants as value
use Rattle.sym_base.specs.declared.values.state.FaultKind.{FaultKind}
use Rattle.sym_base.specs.declared.values.state.FaultKind.TheVariants as fault
use Rattle.sym_enum.specs.declared.form.EnumForm.{EnumForm}
use Rattle.sym_enum.specs.declared.form.EnumForm.TheVariants as label
use Rattle.sym_int.specs.Lines.{offset}
use Rattle.sym_int.specs.declared.form.IntForm.{IntForm}
use Rattle.sym_int.specs.declared.form.IntForm.TheVariants as number
use Rattle.sym_pred.specs.declared.form.HoldForm.{HoldForm}
use Rattle.sym_pred.specs.declared.form.HoldForm.TheVariants as hold
use Rattle.sym_pred.specs.declared.literal.Literal.{Literal}
use Rattle.sym_pred.specs.Literals.{literals}
use Rattle.sym_path.specs.declared.part.Part.{Part}
use Rattle.sym_path.specs.declared.part.Part.TheVariants as part
use Rattle.sym_path.specs.declared.form.Form.{Form}
use Rattle.sym_path.specs.declared.form.Form.TheVariants as form
use Rattle.sym_path.specs.declared.path.Path.{Path}
use Rattle.sym_run.specs.Chained.{Chained}
use Rattle.sym_path.specs.declared.path.PathEnd.{PathEnd}
use Rattle.sym_path.specs.declared.path.PathEnd.TheVariants.{Next, Ended}
use Rattle.sym_run.specs.declared.saved.Saved.{Saved}

-- The end of a line.
abbrev pub line_end : List ℕ
line_end = codes "\n"

-- Items, each after a space.
abbrev pub spaced : {A : Type 0} → (A → List ℕ) → List A → List ℕ
spaced text items = flat_map (λ item. codes " " ++ text item) items

-- Bytes after their number, as in "w5:hello".
unfoldable pub counted : List ℕ → List ℕ
counted bytes = decimal (length bytes) ++ codes ":" ++ bytes

-- ---- values: "n-12", "l3", "w5:hello"

abbrev pub word_text : List ℕ → List ℕ
word_text bytes = codes "w" ++ counted bytes

unfoldable pub value_text : Value → List ℕ
value_text (value.Num x) = codes "n" ++ signed_decimal x
value_text (value.Label l) = codes "l" ++ decimal l
value_text (value.Word t) = word_text t

-- ---- what is known of the cells: "e5", "i-3..7", "f1 t0 yes n5", "v"

abbrev pub outcome_text : Bool → List ℕ
outcome_text true = codes " yes"
outcome_text false = codes " no"

-- A literal: its test, the outcome, the arguments.
unfoldable pub literal_text : Literal → List ℕ
literal_text literal =
    codes "t" ++ decimal literal.test ++ outcome_text literal.outcome
    ++ spaced value_text literal.args

-- Facts have their number.
abbrev pub facts_text : List Literal → List ℕ
facts_text known = codes "f" ++ decimal (length known) ++ spaced literal_text known

-- A set of labels is the sum of 2 ^ label; a span has its two ends.
unfoldable pub part_text : Part → List ℕ
part_text (part.Set set) = codes "e" ++ decimal set.bits
part_text (part.Span span) =
    codes "i" ++ signed_decimal span.lo ++ codes ".." ++ signed_decimal span.hi
part_text (part.Facts known) = facts_text (literals known)
part_text part.Free = codes "v"

-- ---- what becomes of the cells: "c2", "k4", "n-12", "x0,1,-5", "h n5 w2:hi", "a1 n7"

-- A constant, or the named cell with the line's slope and offset.
unfoldable pub number_text : IntForm → List ℕ
number_text (number.Const n) = codes "n" ++ signed_decimal n.value
number_text (number.Line line) =
    codes "x" ++ decimal line.cell ++ codes "," ++ signed_decimal line.a ++ codes ","
    ++ signed_decimal (offset line)

abbrev pub label_form_text : EnumForm → List ℕ
label_form_text (label.Const l) = codes "c" ++ decimal l
label_form_text (label.Copy c) = codes "k" ++ decimal c

abbrev pub hold_form_text : HoldForm → List ℕ
hold_form_text (hold.Const parts) = codes "h" ++ spaced value_text parts
hold_form_text (hold.Copy c) = codes "k" ++ decimal c

-- The elements that are added to a list, after their number.
abbrev pub added_text : {A : Type 0} → (A → List ℕ) → List A → List ℕ
added_text text added = codes "a" ++ decimal (length added) ++ spaced text added

unfoldable pub form_text : Form → List ℕ
form_text (form.Enum f) = label_form_text f
form_text (form.Int f) = number_text f
form_text (form.Hold f) = hold_form_text f
form_text (form.Nums added) = added_text number_text added
form_text (form.Words added) = added_text word_text added

-- ---- paths

-- A fault: the cell whose range was left and the record, or the record.
abbrev pub fault_text : FaultKind → ℕ → List ℕ
fault_text (fault.Over c) n = codes "over " ++ decimal c ++ codes " " ++ decimal n
fault_text fault.Arith n = codes "arith " ++ decimal n

unfoldable pub end_text : PathEnd → List ℕ
end_text (Next forms) = codes "next" ++ spaced form_text forms
end_text (Ended ended) = fault_text ended.kind ended.no

-- Two lines: what is known of the cells, and what becomes of them.
unfoldable pub path_text : Path → List ℕ
path_text path =
    codes "when" ++ spaced part_text path.when ++ line_end ++ end_text path.end ++ line_end

-- ---- segments, chains and groups: a line with their number, and then each

-- A word, the number of items and the end of the line, and then the items.
abbrev pub listed : {A : Type 0} → List ℕ → (A → List ℕ) → List A → List ℕ
listed word text items = word ++ decimal (length items) ++ line_end ++ flat_map text items

unfoldable pub segment_text : List Path → List ℕ
segment_text paths = listed (codes "segment ") path_text paths

-- The segments alone: a lawful chain keeps no records after them.
unfoldable pub chain_text : Chained → List ℕ
chain_text chain = listed (codes "chain ") segment_text chain.segments

abbrev pub key_text : Key → List ℕ
key_text key = codes "key" ++ spaced value_text key.values ++ line_end

unfoldable pub group_text : Key × Chained → List ℕ
group_text group = key_text group.0 ++ chain_text group.1

-- ---- the file

-- The first two lines, and the script that the second one counts.
unfoldable pub head_text : List ℕ → List ℕ
head_text script =
    codes "symple run 1\n" ++ codes "script " ++ decimal (length script) ++ line_end ++ script

-- The rest: the number of the first record and that of the record after the last, and the groups.
unfoldable pub body_text : Saved → List ℕ
body_text saved =
    codes "first " ++ decimal saved.first ++ line_end
    ++ codes "next " ++ decimal saved.next ++ line_end
    ++ listed (codes "groups ") group_text saved.groups ++ codes "end\n"

-- The text of a saved run of the script with this printed form.
abbrev pub saved_text : List ℕ → Saved → List ℕ
saved_text script saved = head_text script ++ body_text saved
