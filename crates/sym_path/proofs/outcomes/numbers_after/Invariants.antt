-- The values of the elements so far stand after the old numbers.
use Rattle.std.proofs.Common.{◌≡◌, ◌++◌, map, take, Some}
use Rattle.sym_base.specs.States.{cell_nums}
use Rattle.sym_int.specs.Lines.{form_value}
use Rattle.sym_path.proofs.outcomes.numbers_after.Given as goal

abbrev pub invariant-added : goal.invariant-added
invariant-added l = l.numbers ≡ cell_nums (Some l.fn.old) ++ map (λ f. form_value f l.state) (take l.index l.added)
