-- The names of the cells so far are added.
use Rattle.std.proofs.Common.{◌≡◌, ◌++◌, map, take}
use Rattle.sym_base.specs.declared.tree.declaration.StateDecl.{StateDecl}
use Rattle.sym_check.proofs.elaborate.names.add_states.Given as goal

abbrev pub invariant-states : goal.invariant-states
invariant-states l = l.names ≡ l.fn.names ++ map (λ (d : StateDecl). d.name.text) (take l.decl-index l.decl-items)
