-- The rules by which operators join their operands.
use Rattle.std.specs.Prelude.{ℕ, Result, Ok}
use Rattle.sym_check.specs.declared.elaborate.error.CheckErr.{CheckErr}
use Rattle.sym_check.specs.declared.plan.expression.ArithOp.{ArithOp}
use Rattle.sym_check.specs.declared.plan.expression.ArithOp.TheVariants as arith
use Rattle.sym_check.specs.declared.plan.expression.WordOf.{WordOf}
use Rattle.sym_check.specs.declared.plan.condition.Cond.{Cond}
use Rattle.sym_check.specs.Plan.CondPlans.{CondPlan, cond_plan}
use Rattle.sym_check.specs.Plan.CondPlans as cond
use Rattle.sym_check.specs.Elaborate.Expressions.{kind_at, added, subtracted, multiplied, quotient_of}
use Rattle.sym_check.specs.Plan.LinePlans.{TermPlan}
use Rattle.sym_check.specs.Rules.Typing.{Typed, Number, Word, Label, EnumCell, HoldCell, Truth}

-- The rule of an operator of arithmetic.
abbrev pub rule_of : ArithOp → ℕ → TermPlan → TermPlan → Result TermPlan CheckErr
rule_of arith.Add = added
rule_of arith.Sub = subtracted
rule_of arith.Mul = multiplied
rule_of arith.Div = quotient_of arith.Div
rule_of arith.Rem = quotient_of arith.Rem

-- Whether a word is another operand, which is a word too.
abbrev pub words_joined : ℕ → WordOf → Typed → Result CondPlan CheckErr
words_joined at v (Word w) = Ok (cond.Words v w)
words_joined at v (Number t) = kind_at at
words_joined at v (Label enum l) = kind_at at
words_joined at v (EnumCell c enum) = kind_at at
words_joined at v (HoldCell c ks) = kind_at at
words_joined at v (Truth c) = kind_at at

-- A condition as what an expression stands for.
abbrev pub truth_plan : Cond → Typed
truth_plan c = Truth (cond_plan c)
