-- What a contract sees of the test that a call names.
use Rattle.sym_check.specs.declared.elaborate.call.CalledTest.{CalledTest}
use Rattle.sym_check.specs.Elaborate.Expressions.{TestNamed}

abbrev pub called_test : CalledTest → TestNamed
called_test t = record { test = t.number; params = t.params.now }
