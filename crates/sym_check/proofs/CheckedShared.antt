-- A checked script may be shared between threads. The search finds it of the script and of the plan,
-- whose trees are types that contain themselves, but not of both at once.
use denote.Param.Send.{IsSync, sendable, struct_sync}
use denote.Struct.Struct.{Struct}
use denote.Struct.Declared.{shape}
use Rattle.std.proofs.Crossing as heap
use Rattle.sym_base.proofs.tree.expression.Expr.TheLaws.TheKnot as expression
use Rattle.sym_base.proofs.tree.statement.Stmt.TheLaws.TheKnot as statement
use Rattle.sym_base.specs.contracts.tree.script.Script.{the_type as script}
use Rattle.sym_check.proofs.plan.condition.Cond.TheLaws.TheKnot as condition
use Rattle.sym_check.proofs.plan.expression.Line.TheLaws.TheKnot as line
use Rattle.sym_check.proofs.plan.expression.Num.TheLaws.TheKnot as number
use Rattle.sym_check.proofs.plan.show.Show.TheLaws.TheKnot as show
use Rattle.sym_check.proofs.plan.statement.Do.TheLaws.TheKnot as command
use Rattle.sym_check.specs.contracts.plan.script.Plan.{the_type as plan}
use Rattle.sym_check.specs.contracts.checked.accepted.Checked.{the_type as checked}

script_sync : IsSync (Struct (shape script))
script_sync = search (heap.crosses, expression.crosses, statement.crosses, sendable) depth 60 fits 20000

plan_sync : IsSync (Struct (shape plan))
plan_sync = search (heap.crosses, condition.crosses, line.crosses, number.crosses, show.crosses, command.crosses, sendable) depth 60 fits 20000

pub checked_sync : IsSync (Struct (shape checked))
checked_sync = struct_sync (shape checked) (script_sync, (plan_sync, (search sendable, tt)))
