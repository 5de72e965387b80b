-- The numbers so far stay in the range.
use Rattle.std.proofs.Common.{◌≡◌, ◌<◌, ℕ, Some}
use Rattle.std.specs.Prelude.{slice_get}
use Rattle.sym_int.specs.declared.form.IntForm.{IntForm}
use Rattle.sym_path.specs.Fitting.{NumberFits}
use Rattle.sym_path.proofs.fits.numbers_fit.Given as goal

abbrev pub invariant-added : goal.invariant-added
invariant-added l = (d : ℕ) (f : IntForm) → d < l.index → slice_get l.added d ≡ Some f → NumberFits l.range.lo l.range.hi l.when f
