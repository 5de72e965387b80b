-- The names of the fields so far are added.
use Rattle.std.proofs.Common.{◌≡◌, ◌++◌, map, take}
use Rattle.sym_base.specs.declared.tree.declaration.FieldDecl.{FieldDecl}
use Rattle.sym_check.proofs.elaborate.names.add_fields.Given as goal

abbrev pub invariant-fields : goal.invariant-fields
invariant-fields l = l.names ≡ l.fn.names ++ map (λ (d : FieldDecl). d.name.text) (take l.decl-index l.decl-items)
