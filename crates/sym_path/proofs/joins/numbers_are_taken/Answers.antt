use Rattle.std.proofs.Common.{◌-◌, length, refl, arith, below_more}
use Rattle.sym_path.specs.Joins.{AddedIsTaken}
use Rattle.sym_path.proofs.JoiningTaken.{zip_of_ends}
use Rattle.sym_path.proofs.joins.numbers_are_taken.Goals as goal

pub added-preserved : goal.added-preserved
added-preserved c =
    let both = c.if-not-both_are_taken.ensures.0 refl in record {
      lengths = c.added.invariant.lengths;
      first = below_more (λ k. AddedIsTaken c.args.when.now c.args.form.now c.args.other.now k) c.added.index c.added.invariant.first both.0;
      last = below_more (λ k. AddedIsTaken c.args.when.now c.args.form.now c.args.other.now (length c.args.form.now - 1 - k)) c.added.index c.added.invariant.last both.1;
    }

pub returns : goal.returns
returns c = (
  λ e. zip_of_ends c.args.when.now c.args.form.now c.args.other.now c.added.index c.added.invariant.lengths (omega arith) c.added.invariant.first c.added.invariant.last,
  λ h. refl,
)
