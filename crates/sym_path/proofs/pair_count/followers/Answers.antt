use Rattle.std.proofs.Common.{◌≡◌, ◌<◌, ◌+◌, ℕ, Bool, cond, Some, length, refl, arith}
use Rattle.std.proofs.lemmas.Option.{slice_get_read}
use Rattle.std.specs.Prelude.{slice_get}
use Rattle.sym_check.specs.Checking.CheckedScripts.{checked_plan}
use Rattle.sym_check.specs.Meaning.Conditions.{test_truth}
use Rattle.sym_path.proofs.PairCounts.{followers_next}
use Rattle.sym_path.proofs.pair_count.followers.Goals.{then-possible, else-possible}
use Rattle.sym_path.proofs.pair_count.followers.Goals as goal

pub others-preserved : goal.others-preserved
others-preserved c =
    let i : ℕ = c.others.next-index in
    let within : i < length c.args.others.now = omega arith in
    let at : slice_get c.args.others.now i ≡ Some c.next-item.result = slice_get_read c.args.others.now (length c.args.others.now) i c.next-item.result refl within c.next-item.is in
    let sum : c.if-possible.count ≡ c.others.count + cond c.possible.result 1 0 = elim c.if-possible.branch [
      | then-possible w ↦ rw w.if-possible.true (omega (arith, w.count-is))
      | else-possible w ↦ rw w.if-possible.false (omega (arith, w.count-is))
    ] in
    let few = c.others.invariant.few in
    record {
      number = followers_next (test_truth (checked_plan c.args.checked.now).tests) c.args.path.now c.next-item.result c.args.others.now i c.others.count c.if-possible.count c.possible.result at c.possible.ensures sum c.others.invariant.number;
      few = elim c.if-possible.branch [ then-possible w ↦ omega (arith, w.count-is, few) | else-possible w ↦ omega (arith, w.count-is, few) ];
    }
