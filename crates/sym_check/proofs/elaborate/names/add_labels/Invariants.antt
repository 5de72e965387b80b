-- The names of the labels so far are added.
use Rattle.std.proofs.Common.{◌≡◌, ◌++◌, map, take}
use Rattle.sym_base.specs.declared.tree.name.Name.{Name}
use Rattle.sym_check.proofs.elaborate.names.add_labels.Given as goal

abbrev pub invariant-labels : goal.invariant-labels
invariant-labels l = l.names ≡ l.fn.names ++ map (λ (x : Name). x.text) (take l.label-index l.label-items)
