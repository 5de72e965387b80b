use Rattle.std.proofs.Common.{◌≡◌, ◌∙◌, ap, sym, refl, inl, inr, ◌⊎◌, ℕ, List, [], ◌∷◌, ◌++◌}
use Rattle.std.proofs.Common.{codes, append-nil}
use Rattle.std.proofs.lemmas.Slice.Zip.{either_empty_from_Zip}
use Rattle.sym_base.specs.declared.values.report.Column.{Column}
use Rattle.sym_report.specs.Appending.{continued}
use Rattle.sym_report.specs.Pairs.{pair_texts}
use Rattle.sym_report.proofs.pairs.push_pairs.Goals as goal

none_left :
    (names : List (List ℕ)) (values : List Column) → (names ≡ []) ⊎ (values ≡ []) →
    pair_texts names values ≡ []
none_left names values (inl e) = ap (λ xs. pair_texts xs values) e
none_left [] values (inr e) = refl
none_left (x ∷ names) values (inr e) = ap (pair_texts (x ∷ names)) e

pub returns : goal.returns
returns c =
    let made = c.pairs.into.items in
    let none =
    none_left _ _
    (either_empty_from_Zip c.pairs.name-iterator c.next.new.self c.next.result c.in-None.is
    c.next.ensures.steps) in
    sym (append-nil made)
    ∙ ap (λ left. made ++ continued (codes " ") c.pairs.started left) (sym none)
    ∙ c.pairs.invariant
