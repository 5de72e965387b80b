-- For the crates above: when sets are the same, and what the equality of sets and forms decides.
use Rattle.std.proofs.Common.{◌≡◌, ap}
use Rattle.std.proofs.lemmas.Bool.Decides.{Decides-eqb, Decides-like}
use Rattle.std.specs.Bool.{Decides}
pub use Rattle.sym_enum.proofs.Sets.{same_labels}
use Rattle.sym_enum.proofs.Sets.{same_number}
use Rattle.sym_enum.specs.contracts.form.EnumFormPartialEq.TheImpl as form_equality
use Rattle.sym_enum.specs.contracts.label_set.LabelSetPartialEq.TheImpl as set_equality
use Rattle.sym_enum.specs.declared.form.EnumForm.{EnumForm}
use Rattle.sym_enum.specs.declared.form.EnumForm.TheVariants.{Const, Copy}
use Rattle.sym_enum.specs.declared.label_set.LabelSet.{LabelSet}

pub set_eq-Decides : (a b : LabelSet) → Decides ((set_equality.ghosts).eq a b) (a ≡ b)
set_eq-Decides a b = Decides-like _ (λ e. same_number a b e) (λ e. ap (λ (s : LabelSet). s.bits) e) (Decides-eqb a.bits b.bits)

pub form_eq-Decides : (x y : EnumForm) → Decides ((form_equality.ghosts).eq x y) (x ≡ y)
form_eq-Decides (Const l) (Const m) = Decides-like _ (λ e. ap Const e) (λ e. cc) (Decides-eqb l m)
form_eq-Decides (Const l) (Copy d) = (λ e. cc, λ e. cc)
form_eq-Decides (Copy c) (Const m) = (λ e. cc, λ e. cc)
form_eq-Decides (Copy c) (Copy d) = Decides-like _ (λ e. ap Copy e) (λ e. cc) (Decides-eqb c d)
