use Rattle.std.proofs.Common.{◌≡◌, ◌+◌, ◌-◌, ◌≤◌, ℕ, List, Some, arith, drop, length, subst, sym}
use Rattle.std.proofs.lemmas.List.{length-drop, take_all}
use Rattle.std.specs.Map.{keys_of}
use Rattle.sym_check.specs.Plan.ScriptPlans.{ScriptPlan, script_plan}
use Rattle.sym_file.specs.Reading.{key_at}
use Rattle.sym_file.proofs.Marks.{no_marks}
use Rattle.sym_file.proofs.Scanned.{IsPlacing, placing_none, placing_on}
use Rattle.sym_file.proofs.scan.place_entries.Goals as goal

pub entries-init : goal.entries-init
entries-init c =
    let marks = c.in_ok-marks.marks.items in
    placing_none (script_plan c.args.plan.now) c.args.text c.args.count c.args.bytes.now c.args.groups.now marks
    (no_marks c.args.groups.now marks c.len.result (c.in_ok-marks.ensures.items_if_clones_equal (λ y h. h)) c.len.ensures.len)

pub entries-preserved : goal.entries-preserved
entries-preserved c =
    let p : ScriptPlan = script_plan c.args.plan.now in
    let at = c.in_ok-key.at.now in
    let left = c.rest_after_chain.result in
    let from = length at - left in
    let read : key_at p c.entries.rest.now ≡ Some (c.in_ok-key.key, at) = c.in_ok-key.ensures in
    let new = c.place_once.new.groups in
    let more = c.place_once.new.marks.items in
    let few : length (drop from at) ≤ length at - from = let l = length-drop from at in omega (arith, l) in
    subst (λ (rest : List ℕ). IsPlacing p c.args.text c.args.count c.args.bytes.now c.args.groups.now (c.entries.counter + 1) rest new more)
    (sym (take_all (length at - from) (drop from at) few))
    (placing_on p c.args.text c.args.count c.args.bytes.now c.args.groups.now c.entries.counter c.entries.rest.now c.entries.groups c.entries.marks.items c.entries.invariant c.entries-test.true
    c.in_ok-key.key at read left c.rest_after_chain.ensures new more (c.in_ok-place_once.ensures (keys_of c.entries.invariant.entries) c.entries.invariant.marked))
