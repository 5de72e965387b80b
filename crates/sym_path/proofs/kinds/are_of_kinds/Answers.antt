use Rattle.std.proofs.Common.{◌≡◌, Some, get_or, length, refl, arith}
use Rattle.std.proofs.lemmas.Option.{slice_get-get_or, slice_get_read}
use Rattle.std.specs.Prelude.{slice_get}
use Rattle.sym_check.specs.declared.plan.script.KindPlan.{KindPlan}
use Rattle.sym_check.specs.declared.plan.script.KindPlan.TheVariants.{Num}
use Rattle.sym_check.specs.Meaning.Validity.{IsOfKind}
use Rattle.sym_path.proofs.Checks.{other_lengths, one_fails, all_hold}
use Rattle.sym_path.proofs.Lists.{below_next}
use Rattle.sym_path.proofs.kinds.are_of_kinds.Goals as goal

pub returns-then-kinds-values : goal.returns-then-kinds-values
returns-then-kinds-values c = other_lengths (IsOfKind c.args.enums.now) c.args.kinds.now c.args.values.now c.args.kinds.now c.args.values.now refl refl c.if-kinds-values.true

pub returns-then-not-is_of_kind : goal.returns-then-not-is_of_kind
returns-then-not-is_of_kind c =
    let xs = c.args.kinds.now in
    let ys = c.args.values.now in
    let x : KindPlan = get_or xs c.values.index Num in
    let y = c.index-values-index.result in
    let first : slice_get xs c.values.index ≡ Some x = slice_get-get_or xs c.values.index Num c.values-test.true in
    let second : slice_get ys c.values.index ≡ Some y = slice_get_read ys (length xs) c.values.index y c.values.invariant.0 c.values-test.true c.index-values-index.is in
    one_fails (IsOfKind c.args.enums.now) xs ys xs ys refl refl c.values.index x y c.is_of_kind.result first second c.if-not-is_of_kind.true c.is_of_kind.ensures

pub values-preserved : goal.values-preserved
values-preserved c =
    let xs = c.args.kinds.now in
    let ys = c.args.values.now in
    let x : KindPlan = get_or xs c.values.index Num in
    let y = c.index-values-index.result in
    let first : slice_get xs c.values.index ≡ Some x = slice_get-get_or xs c.values.index Num c.values-test.true in
    let second : slice_get ys c.values.index ≡ Some y = slice_get_read ys (length xs) c.values.index y c.values.invariant.0 c.values-test.true c.index-values-index.is in
    (c.values.invariant.0, below_next (IsOfKind c.args.enums.now) xs ys c.values.index x y first second (c.is_of_kind.ensures.0 c.if-not-is_of_kind.false) c.values.invariant.1)

pub returns : goal.returns
returns c = all_hold (IsOfKind c.args.enums.now) c.args.kinds.now c.args.values.now c.args.kinds.now c.args.values.now refl refl c.values.index c.values.invariant.0 (omega arith) c.values.invariant.1
