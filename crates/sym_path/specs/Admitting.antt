-- Which states a constraint admits. Constraints on an unknown state are those of the SYMPLE paper
-- (SOSP 2015).
use Rattle.std.specs.Prelude.{ℤ, int_le, Bool, true, false, not, ◌&&◌, IsTrue, List, [], ◌∷◌, if◌then◌else◌}
use Rattle.std.specs.List.{AllZip, list_all}
use Rattle.sym_base.specs.declared.values.value.Value.{Value}
use Rattle.sym_base.specs.declared.values.state.Cell.{Cell}
use Rattle.sym_base.specs.declared.values.state.Cell.TheVariants as cell
use Rattle.sym_base.specs.declared.values.state.State.{State}
use Rattle.sym_enum.specs.Labels.{has_label}
use Rattle.sym_int.specs.Points.{HasPoint}
use Rattle.sym_int.specs.declared.span.Span.{Span}
use Rattle.sym_pred.specs.declared.literal.Literal.{Literal}
use Rattle.sym_pred.specs.Literals.{literals}
use Rattle.sym_base.specs.Tests.{Truth}
use Rattle.sym_pred.specs.Meaning as facts
use Rattle.sym_path.specs.declared.part.Part.{Part}
use Rattle.sym_path.specs.declared.part.Part.TheVariants as part

-- A cell is as the part says: its label is in the set, its number in the span, its parts give each
-- literal's outcome by the tests' truth. A list may hold anything.
abbrev pub PartAdmits : Truth → Part → Cell → Type 0
PartAdmits truth (part.Set set) (cell.Enum label) = IsTrue (has_label set label)
PartAdmits truth (part.Set set) (cell.Int x) = ⊥
PartAdmits truth (part.Set set) (cell.Hold parts) = ⊥
PartAdmits truth (part.Set set) (cell.Nums xs) = ⊥
PartAdmits truth (part.Set set) (cell.Words ts) = ⊥
PartAdmits truth (part.Span span) (cell.Enum label) = ⊥
PartAdmits truth (part.Span span) (cell.Int x) = HasPoint span x
PartAdmits truth (part.Span span) (cell.Hold parts) = ⊥
PartAdmits truth (part.Span span) (cell.Nums xs) = ⊥
PartAdmits truth (part.Span span) (cell.Words ts) = ⊥
PartAdmits truth (part.Facts known) (cell.Enum label) = ⊥
PartAdmits truth (part.Facts known) (cell.Int x) = ⊥
PartAdmits truth (part.Facts known) (cell.Hold parts) = facts.Admits truth known parts
PartAdmits truth (part.Facts known) (cell.Nums xs) = ⊥
PartAdmits truth (part.Facts known) (cell.Words ts) = ⊥
PartAdmits truth part.Free (cell.Enum label) = ⊥
PartAdmits truth part.Free (cell.Int x) = ⊥
PartAdmits truth part.Free (cell.Hold parts) = ⊥
PartAdmits truth part.Free (cell.Nums xs) = Unit {0}
PartAdmits truth part.Free (cell.Words ts) = Unit {0}

-- A constraint admits the states each of whose cells is as its part says.
abbrev pub Admits : Truth → List Part → State → Type 0
Admits truth when s = AllZip (PartAdmits truth) when s.cells

-- The same as tests that compute. The law that they agree is `admitting_is_decided`.
abbrev pub has_point : Span → ℤ → Bool
has_point span x = int_le span.lo x && int_le x span.hi

-- Whether two truth values are equal.
abbrev pub same_truth : Bool → Bool → Bool
same_truth a b = if a then b else not b

-- Whether the literal's test, by the tests' truth, has the literal's outcome for these parts.
abbrev pub gives_outcome : Truth → List Value → Literal → Bool
gives_outcome truth parts literal =
    same_truth literal.outcome (truth literal.test literal.args parts)

-- Whether a cell is as the part says.
abbrev pub part_admits : Truth → Part → Cell → Bool
part_admits truth (part.Set set) (cell.Enum label) = has_label set label
part_admits truth (part.Set set) (cell.Int x) = false
part_admits truth (part.Set set) (cell.Hold parts) = false
part_admits truth (part.Set set) (cell.Nums xs) = false
part_admits truth (part.Set set) (cell.Words ts) = false
part_admits truth (part.Span span) (cell.Enum label) = false
part_admits truth (part.Span span) (cell.Int x) = has_point span x
part_admits truth (part.Span span) (cell.Hold parts) = false
part_admits truth (part.Span span) (cell.Nums xs) = false
part_admits truth (part.Span span) (cell.Words ts) = false
part_admits truth (part.Facts known) (cell.Enum label) = false
part_admits truth (part.Facts known) (cell.Int x) = false
part_admits truth (part.Facts known) (cell.Hold parts) =
    list_all (gives_outcome truth parts) (literals known)
part_admits truth (part.Facts known) (cell.Nums xs) = false
part_admits truth (part.Facts known) (cell.Words ts) = false
part_admits truth part.Free (cell.Enum label) = false
part_admits truth part.Free (cell.Int x) = false
part_admits truth part.Free (cell.Hold parts) = false
part_admits truth part.Free (cell.Nums xs) = true
part_admits truth part.Free (cell.Words ts) = true

-- Whether there are as many cells as parts, and each cell is as its part says.
abbrev pub admits : Truth → List Part → List Cell → Bool
admits truth [] [] = true
admits truth [] (c ∷ cells) = false
admits truth (p ∷ when) [] = false
admits truth (p ∷ when) (c ∷ cells) = part_admits truth p c && admits truth when cells
