-- One for each of the cells so far.
use Rattle.std.proofs.Common.{◌≡◌, length, take}
use Rattle.std.specs.List.{AllZip}
use Rattle.sym_path.specs.FormsAfter.{IsSpanOf}
use Rattle.sym_path.proofs.succession.spans_of.Given as goal

abbrev pub invariant-cells : goal.invariant-cells
invariant-cells l = AllZip IsSpanOf (take l.index l.parts) l.spans.items
