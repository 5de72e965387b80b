-- What the equality of parts and of the forms of list cells decides.
use Rattle.std.proofs.Common.{◌≡◌, ap, refl}
use Rattle.std.proofs.lemmas.Bool.Decides.{Decides-like}
use Rattle.std.specs.Bool.{Decides}
use Rattle.sym_enum.proofs.CallersLemmas.{set_eq-Decides}
use Rattle.sym_int.proofs.CallersLemmas.{span_eq-Decides}
use Rattle.sym_pred.proofs.CallersLemmas.{facts_eq-Decides}
use Rattle.sym_path.specs.declared.part.Part.{Part}
use Rattle.sym_path.specs.declared.part.Part.TheVariants as part
use Rattle.sym_path.specs.contracts.part.PartPartialEq.TheImpl as part_equality

pub part_eq-Decides : (x y : Part) → Decides ((part_equality.ghosts).eq x y) (x ≡ y)
part_eq-Decides (part.Set a) (part.Set b) = Decides-like _ (λ e. ap part.Set e) (λ e. cc) (set_eq-Decides a b)
part_eq-Decides (part.Set a) (part.Span b) = (λ e. cc, λ e. cc)
part_eq-Decides (part.Set a) (part.Facts b) = (λ e. cc, λ e. cc)
part_eq-Decides (part.Set a) part.Free = (λ e. cc, λ e. cc)
part_eq-Decides (part.Span a) (part.Set b) = (λ e. cc, λ e. cc)
part_eq-Decides (part.Span a) (part.Span b) = Decides-like _ (λ e. ap part.Span e) (λ e. cc) (span_eq-Decides a b)
part_eq-Decides (part.Span a) (part.Facts b) = (λ e. cc, λ e. cc)
part_eq-Decides (part.Span a) part.Free = (λ e. cc, λ e. cc)
part_eq-Decides (part.Facts a) (part.Set b) = (λ e. cc, λ e. cc)
part_eq-Decides (part.Facts a) (part.Span b) = (λ e. cc, λ e. cc)
part_eq-Decides (part.Facts a) (part.Facts b) = Decides-like _ (λ e. ap part.Facts e) (λ e. cc) (facts_eq-Decides a b)
part_eq-Decides (part.Facts a) part.Free = (λ e. cc, λ e. cc)
part_eq-Decides part.Free (part.Set b) = (λ e. cc, λ e. cc)
part_eq-Decides part.Free (part.Span b) = (λ e. cc, λ e. cc)
part_eq-Decides part.Free (part.Facts b) = (λ e. cc, λ e. cc)
part_eq-Decides part.Free part.Free = (λ e. refl, λ e. refl)
