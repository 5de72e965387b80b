-- One for each of the cells so far.
use Rattle.std.proofs.Common.{◌≡◌, length, take}
use Rattle.std.specs.List.{AllZip}
use Rattle.sym_path.specs.FormsAfter.{IsNumberOf}
use Rattle.sym_path.proofs.succession.numbers_of.Given as goal

abbrev pub invariant-cells : goal.invariant-cells
invariant-cells l = AllZip IsNumberOf (take l.index l.forms) l.numbers.items
