-- Whether a constraint admits a state is decided by the test that computes.
use Rattle.std.proofs.Common.{◌≡◌, ◌↔◌, ℤ, Bool, true, false, List, [], ◌∷◌, refl, arith}
use Rattle.std.proofs.lemmas.Bool.Decides.{Decides-and, Decides-like, Decides-by_and}
use Rattle.std.proofs.lemmas.Int.{ints}
use Rattle.std.specs.Prelude.{int_le, ◌≤ℤ◌, IsTrue}
use Rattle.std.specs.Bool.{Decides}
use Rattle.std.specs.List.{AllZip, list_all}
use Rattle.sym_base.specs.declared.values.value.Value.{Value}
use Rattle.sym_base.specs.declared.values.state.Cell.{Cell}
use Rattle.sym_base.specs.declared.values.state.Cell.TheVariants as cell
use Rattle.sym_base.specs.declared.values.state.State.{State}
use Rattle.sym_int.specs.Points.{HasPoint}
use Rattle.sym_int.specs.declared.span.Span.{Span}
use Rattle.sym_pred.proofs.CallersLemmas.{Admits-literals}
use Rattle.sym_pred.specs.Facts.{FactMap}
use Rattle.sym_pred.specs.Literals.{literals}
use Rattle.sym_pred.specs.declared.literal.Literal.{Literal}
use Rattle.sym_base.specs.Tests.{Truth}
use Rattle.sym_pred.specs.Meaning as facts
use Rattle.sym_path.specs.declared.part.Part.{Part}
use Rattle.sym_path.specs.declared.part.Part.TheVariants as part
use Rattle.sym_path.specs.Admitting.{PartAdmits, Admits, has_point, same_truth, gives_outcome, part_admits, admits}

Decides-int_le : (x y : ℤ) → Decides (int_le x y) (x ≤ℤ y)
Decides-int_le x y = (λ e. grind (arith, ints), λ h. grind (arith, ints))

pub point_decided : (span : Span) (x : ℤ) → Decides (has_point span x) (HasPoint span x)
point_decided span x = Decides-and _ _ (Decides-int_le span.lo x) (Decides-int_le x span.hi)

pub same_truth_decided : (a b : Bool) → Decides (same_truth a b) (b ≡ a)
same_truth_decided true true = (λ e. refl, λ e. refl)
same_truth_decided true false = (λ e. e, λ e. e)
same_truth_decided false true = (λ e. cc, λ e. cc)
same_truth_decided false false = (λ e. refl, λ e. refl)

-- Parts of a hold cell that give each literal's outcome.
pub facts_decided : (truth : Truth) (known : FactMap) (parts : List Value) → Decides (list_all (gives_outcome truth parts) (literals known)) (facts.Admits truth known parts)
facts_decided truth known parts =
    let all = Admits-literals truth known parts in
    Decides-like _ all.1 all.0
    (Decides-by_and (gives_outcome truth parts) (λ (l : Literal). truth l.test l.args parts ≡ l.outcome) (list_all (gives_outcome truth parts))
    (λ l. same_truth_decided l.outcome (truth l.test l.args parts)) refl (λ _ _. refl) (literals known))

pub part_decided : (truth : Truth) (p : Part) (c : Cell) → Decides (part_admits truth p c) (PartAdmits truth p c)
part_decided truth (part.Set set) (cell.Enum label) = (λ e. e, λ e. e)
part_decided truth (part.Set set) (cell.Int x) = (λ e. cc, λ h. absurd h)
part_decided truth (part.Set set) (cell.Hold parts) = (λ e. cc, λ h. absurd h)
part_decided truth (part.Set set) (cell.Nums xs) = (λ e. cc, λ h. absurd h)
part_decided truth (part.Set set) (cell.Words ts) = (λ e. cc, λ h. absurd h)
part_decided truth (part.Span span) (cell.Enum label) = (λ e. cc, λ h. absurd h)
part_decided truth (part.Span span) (cell.Int x) = point_decided span x
part_decided truth (part.Span span) (cell.Hold parts) = (λ e. cc, λ h. absurd h)
part_decided truth (part.Span span) (cell.Nums xs) = (λ e. cc, λ h. absurd h)
part_decided truth (part.Span span) (cell.Words ts) = (λ e. cc, λ h. absurd h)
part_decided truth (part.Facts known) (cell.Enum label) = (λ e. cc, λ h. absurd h)
part_decided truth (part.Facts known) (cell.Int x) = (λ e. cc, λ h. absurd h)
part_decided truth (part.Facts known) (cell.Hold parts) = facts_decided truth known parts
part_decided truth (part.Facts known) (cell.Nums xs) = (λ e. cc, λ h. absurd h)
part_decided truth (part.Facts known) (cell.Words ts) = (λ e. cc, λ h. absurd h)
part_decided truth part.Free (cell.Enum label) = (λ e. cc, λ h. absurd h)
part_decided truth part.Free (cell.Int x) = (λ e. cc, λ h. absurd h)
part_decided truth part.Free (cell.Hold parts) = (λ e. cc, λ h. absurd h)
part_decided truth part.Free (cell.Nums xs) = (λ e. tt, λ h. refl)
part_decided truth part.Free (cell.Words ts) = (λ e. tt, λ h. refl)

cells_decided : (truth : Truth) (when : List Part) (cells : List Cell) → Decides (admits truth when cells) (AllZip (PartAdmits truth) when cells)
cells_decided truth [] [] = (λ e. tt, λ h. refl)
cells_decided truth [] (c ∷ cells) = (λ e. cc, λ h. absurd h)
cells_decided truth (p ∷ when) [] = (λ e. cc, λ h. absurd h)
cells_decided truth (p ∷ when) (c ∷ cells) = Decides-and _ _ (part_decided truth p c) (cells_decided truth when cells)

pub admits_decided : (truth : Truth) (when : List Part) (s : State) → IsTrue (admits truth when s.cells) ↔ Admits truth when s
admits_decided truth when s = cells_decided truth when s.cells
