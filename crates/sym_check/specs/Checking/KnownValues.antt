-- What a contract sees of the names and values that evaluating goes over.
use Rattle.std.specs.Prelude.{◌++◌, Result, Ok}
use Rattle.sym_base.specs.declared.values.value.Value.{Value}
use Rattle.sym_check.specs.declared.evaluate.arithmetic.Arith.{Arith}
use Rattle.sym_check.specs.declared.evaluate.known.Known.{Known}
use Rattle.sym_check.specs.declared.evaluate.fixed_value.FixedValue.{FixedValue}
use Rattle.sym_check.specs.declared.evaluate.fixed_value.FixedValue.TheVariants as fixed
use Rattle.sym_check.specs.Meaning.Arithmetic.{failed}
use Rattle.sym_check.specs.Meaning.FixedValues.{Environment}

-- The parameters are the parts and then the arguments.
abbrev pub known_values : Known → Environment
known_values k = record {
  fields = k.fields.now;
  locals = k.locals.now;
  params = k.parts.now ++ k.args.now;
}

abbrev pub fixed_result : FixedValue → Result Value Arith
fixed_result (fixed.Is v) = Ok v
fixed_result fixed.Arith = failed
