-- The elements copied so far are the first ones of the form.
use Rattle.std.proofs.Common.{◌≡◌, take}
use Rattle.sym_vector.proofs.ListForm.copy.Given as goal

abbrev pub invariant-elements : goal.invariant-elements
invariant-elements g l = l.added.items ≡ take l.element-index l.element-items
