use Rattle.std.proofs.Common.{ap, to_z-of_z}
use Rattle.sym_base.specs.declared.values.value.Value.TheVariants.{Num}
use Rattle.sym_int.proofs.element.IntFormElement.fix.Goals as goal

pub returns-clause-value : goal.returns-clause-value
returns-clause-value c = λ state x h. ap Num (rw (to_z-of_z c.ranges.value) at (c.fixed_at.ensures.value state x h))
