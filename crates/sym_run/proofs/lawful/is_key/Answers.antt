use Rattle.std.proofs.Common.{◌≡◌, ℕ, Some, get_or, length, arith}
use Rattle.std.proofs.lemmas.Option.{slice_get-get_or, slice_get_read}
use Rattle.std.specs.Prelude.{slice_get}
use Rattle.sym_check.specs.Meaning.Validity.{IsOfField}
use Rattle.sym_check.specs.Plan.ScriptPlans.{script_plan}
use Rattle.sym_path.proofs.Checks.{other_lengths, one_fails, all_hold}
use Rattle.sym_path.proofs.Lists.{below_next}
use Rattle.sym_run.proofs.lawful.is_key.Goals as goal

pub returns-then-fields-values : goal.returns-then-fields-values
returns-then-fields-values c =
    let p = script_plan c.args.plan.now in
    other_lengths (IsOfField p) p.group c.args.key.now.values c.as_slice-fields.result.now c.as_slice-values.result.now c.as_slice-fields.ensures c.as_slice-values.ensures c.if-fields-values.true

pub returns-then-not-is_of_field : goal.returns-then-not-is_of_field
returns-then-not-is_of_field c =
    let p = script_plan c.args.plan.now in
    let vs = c.as_slice-fields.result.now in
    let ws = c.as_slice-values.result.now in
    let x : ℕ = get_or vs c.values.index 0 in
    let y = c.index-values-index.result in
    let first : slice_get vs c.values.index ≡ Some x = slice_get-get_or vs c.values.index 0 c.values-test.true in
    let second : slice_get ws c.values.index ≡ Some y = slice_get_read ws (length vs) c.values.index y c.values.invariant.0 c.values-test.true c.index-values-index.is in
    one_fails (IsOfField p) p.group c.args.key.now.values vs ws c.as_slice-fields.ensures c.as_slice-values.ensures c.values.index x y c.is_of_field.result first second c.if-not-is_of_field.true c.is_of_field.ensures

pub values-preserved : goal.values-preserved
values-preserved c =
    let p = script_plan c.args.plan.now in
    let vs = c.as_slice-fields.result.now in
    let ws = c.as_slice-values.result.now in
    let x : ℕ = get_or vs c.values.index 0 in
    let y = c.index-values-index.result in
    let first : slice_get vs c.values.index ≡ Some x = slice_get-get_or vs c.values.index 0 c.values-test.true in
    let second : slice_get ws c.values.index ≡ Some y = slice_get_read ws (length vs) c.values.index y c.values.invariant.0 c.values-test.true c.index-values-index.is in
    (c.values.invariant.0, below_next (IsOfField p) vs ws c.values.index x y first second (c.is_of_field.ensures.0 c.if-not-is_of_field.false) c.values.invariant.1)

pub returns : goal.returns
returns c =
    let p = script_plan c.args.plan.now in
    all_hold (IsOfField p) p.group c.args.key.now.values c.as_slice-fields.result.now c.as_slice-values.result.now c.as_slice-fields.ensures c.as_slice-values.ensures c.values.index c.values.invariant.0 (omega arith) c.values.invariant.1
