use Rattle.std.proofs.Common.{◌≡◌, ◌↔◌, sym, ap, ◌∙◌, subst, true, Bool, List, length, Some, slice_get}
use Rattle.sym_check.specs.Checking.CheckedScripts.{checked_plan}
use Rattle.sym_check.specs.Plan.ScriptPlans.{ScriptPlan, script_plan}
use Rattle.sym_check.specs.Plan.WellFormed.{IsWellFormed}
use Rattle.sym_reads.specs.Naming.{NamesField}
use Rattle.sym_reads.proofs.Marks.{marked_exactly, marked_length, marks_are}
use Rattle.sym_reads.proofs.fields.read_fields.Goals as goal

pub returns-clause-len : goal.returns-clause-len
returns-clause-len c =
    let p : ScriptPlan = script_plan c.plan-plan.result.now in
    let q : ScriptPlan = checked_plan c.args.checked.now in
    let none = c.of-reads.ensures ∙ c.in_ok-vec.ensures.items_if_clones_equal (λ y h. h) in
    let marks = marks_are p q c.len.result c.of-reads.result c.into_vec.result.items c.plan-plan.ensures.same c.len.ensures none (c.into_vec.ensures ∙ c.mark_dos.ensures) in
    ap length marks ∙ marked_length q

pub returns-clause-names : goal.returns-clause-names
returns-clause-names c =
    let p : ScriptPlan = script_plan c.plan-plan.result.now in
    let q : ScriptPlan = checked_plan c.args.checked.now in
    let none = c.of-reads.ensures ∙ c.in_ok-vec.ensures.items_if_clones_equal (λ y h. h) in
    let marks = marks_are p q c.len.result c.of-reads.result c.into_vec.result.items c.plan-plan.ensures.same c.len.ensures none (c.into_vec.ensures ∙ c.mark_dos.ensures) in
    let well : IsWellFormed q = subst IsWellFormed c.plan-plan.ensures.same c.plan-plan.ensures.well_formed in
    λ i. subst (λ (ms : List Bool). (slice_get ms i ≡ Some true) ↔ NamesField q i) (sym marks) (marked_exactly q well i)
