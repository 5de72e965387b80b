-- Forms that are these, one by one, are these.
use Rattle.std.proofs.Common.{◌≡◌, ◌∙◌, ℕ, List, [], ◌∷◌, refl, ap}
use Rattle.std.specs.List.{AllZip}
use Rattle.sym_report.specs.Forms.{FormTexts}
use Rattle.sym_command.specs.Commands.{Form, forms_of}

module _ {F : Type 0} (named : F → List ℕ) (texts : F → FormTexts) where
  abbrev IsForm : F → Form → Type 0
  IsForm f form = (named f ≡ form.name) × (texts f ≡ form.texts)

  pub forms-are : (forms : List F) (these : List Form) → AllZip IsForm forms these → forms_of named texts forms ≡ these
  unfolding forms_of
  forms-are [] [] all = refl
  forms-are [] (form ∷ these) all = absurd all
  forms-are (f ∷ forms) [] all = absurd all
  forms-are (f ∷ forms) (form ∷ these) all =
      ap (λ (name : List ℕ). record { name = name; texts = texts f } ∷ forms_of named texts forms) all.0.0
      ∙ (ap (λ (text : FormTexts). record { name = form.name; texts = text } ∷ forms_of named texts forms) all.0.1
      ∙ ap (λ (rest : List Form). form ∷ rest) (forms-are forms these all.1))
