-- Lemmas on the states that constraints admit.
use Rattle.std.proofs.Common.{◌≡◌, ◌≢◌, suc, false, List, [], ◌∷◌, length, refl, sym, ap, ◌∙◌}
use Rattle.std.proofs.lemmas.Bool.{and_right}
use Rattle.std.proofs.lemmas.List.{length-map}
use Rattle.std.specs.FinMap.{entries, len-entries}
use Rattle.std.specs.FinMap as map
use Rattle.sym_base.specs.declared.values.state.Cell.{Cell}
use Rattle.sym_pred.specs.Facts.{FactMap}
use Rattle.sym_pred.specs.Literals.{literals, literal_of}
use Rattle.sym_base.specs.Tests.{Truth}
use Rattle.sym_path.specs.declared.part.Part.{Part}
use Rattle.sym_path.specs.Admitting.{admits}

pub literals_counted : (facts : FactMap) → map.len facts ≡ length (literals facts)
literals_counted facts = len-entries facts ∙ sym (length-map (entries facts) literal_of)

pub admits-lengths : (truth : Truth) (when : List Part) (cells : List Cell) → length when ≢ length cells → admits truth when cells ≡ false
admits-lengths truth [] [] h = absurd (h refl)
admits-lengths truth [] (c ∷ cells) h = refl
admits-lengths truth (p ∷ when) [] h = refl
admits-lengths truth (p ∷ when) (c ∷ cells) h = and_right _ _ (admits-lengths truth when cells (λ e. h (ap suc e)))
