use Rattle.std.proofs.Common.{◌≡◌, true, false, List, None, sym, ◌∙◌, subst}
use Rattle.std.specs.Prelude.{slice_get}
use Rattle.sym_check.specs.Plan.ScriptPlans.{script_plan}
use Rattle.sym_path.specs.declared.part.Part.TheVariants as part
use Rattle.sym_path.specs.declared.path.Path.{Path}
use Rattle.sym_path.specs.Changing.{GoesOn}
use Rattle.sym_path.specs.Narrowing.{GivesWhere, NarrowsLabels}
use Rattle.sym_explore.specs.declared.branch.Branch.{Branch}
use Rattle.sym_explore.specs.Branches.{BranchesGo, AreFewBranches}
use Rattle.sym_explore.specs.Labels.{set_of, WasSplit}
use Rattle.sym_explore.proofs.JudgedBranches.{few_one, few_split, pushed_go}
use Rattle.sym_explore.proofs.LabelsHeld.{has_set, set_is, narrows, subset_only, subset_rest, split_never, split_always, split_both}
use Rattle.sym_explore.proofs.labels.split_labels.Goals as goal

pub unreachable-requires : goal.unreachable-requires
unreachable-requires c =
    let none : set_of c.args.path.now c.args.cell ≡ None = sym c.set_of.ensures ∙ c.in_default.is in
    has_set (script_plan c.args.plan.now) c.args.path.now c.args.cell c.requires.enum_cell.0 c.requires.enum_cell.1 c.requires.split.fits none

pub returns-then-is_empty-clause-exact : goal.returns-then-is_empty-clause-exact
returns-then-is_empty-clause-exact c =
    let p = script_plan c.args.plan.now in
    let old = c.args.path.now in
    let set = c.in-Some.set in
    let is = set_is p old c.args.cell c.requires.enum_cell.0 set c.requires.enum_cell.1 c.requires.split.fits (sym c.set_of.ensures ∙ c.in-Some.is) in
    split_never p old c.args.out.now.items c.args.cell c.args.label set c.split.result.0 is c.split.ensures.only (c.is_empty.ensures.0 c.if-is_empty.true)

pub returns-then-is_empty-2-clause-exact : goal.returns-then-is_empty-2-clause-exact
returns-then-is_empty-2-clause-exact c =
    let p = script_plan c.args.plan.now in
    let old = c.args.path.now in
    let set = c.in-Some.set in
    let is = set_is p old c.args.cell c.requires.enum_cell.0 set c.requires.enum_cell.1 c.requires.split.fits (sym c.set_of.ensures ∙ c.in-Some.is) in
    split_always p old c.args.out.now.items c.args.cell c.args.label set c.split.result.1 is c.split.ensures.rest (c.is_empty-2.ensures.0 c.if-is_empty-2.true)

pub narrow_labels-requires-clause-narrower : goal.narrow_labels-requires-clause-narrower
narrow_labels-requires-clause-narrower c =
    let p = script_plan c.args.plan.now in
    let old = c.args.path.now in
    let set = c.in-Some.set in
    let only = c.split.result.0 in
    let is = set_is p old c.args.cell c.requires.enum_cell.0 set c.requires.enum_cell.1 c.requires.split.fits (sym c.set_of.ensures ∙ c.in-Some.is) in
    let here : NarrowsLabels only (slice_get old.when c.args.cell) = narrows old c.args.cell set only is (subset_only set only c.args.label c.is_empty.result c.split.ensures.only c.is_empty.ensures c.if-is_empty.false) in
    subst (λ (path : Path). NarrowsLabels c.split.result.0 (slice_get path.when c.args.cell)) (sym c.in_ok-copy.ensures) here

pub narrow_labels-requires-2-clause-narrower : goal.narrow_labels-requires-2-clause-narrower
narrow_labels-requires-2-clause-narrower c =
    let p = script_plan c.args.plan.now in
    let old = c.args.path.now in
    let set = c.in-Some.set in
    let rest = c.split.result.1 in
    let is = set_is p old c.args.cell c.requires.enum_cell.0 set c.requires.enum_cell.1 c.requires.split.fits (sym c.set_of.ensures ∙ c.in-Some.is) in
    narrows old c.args.cell set rest is (subset_rest set rest c.args.label c.is_empty-2.result c.split.ensures.rest c.is_empty-2.ensures c.if-is_empty-2.false)

pub returns-clause-exact : goal.returns-clause-exact
returns-clause-exact c =
    let p = script_plan c.args.plan.now in
    let old = c.args.path.now in
    let copy = c.narrow_labels.new.self in
    let path = c.narrow_labels-2.new.self in
    let before = c.args.out.now.items in
    let set = c.in-Some.set in
    let is = set_is p old c.args.cell c.requires.enum_cell.0 set c.requires.enum_cell.1 c.requires.split.fits (sym c.set_of.ensures ∙ c.in-Some.is) in
    let one : GivesWhere old c.args.cell (part.Set c.split.result.0) copy = subst (λ (x : Path). GivesWhere x c.args.cell (part.Set c.split.result.0) c.narrow_labels.new.self) c.in_ok-copy.ensures c.narrow_labels.ensures.gives in
    let both = split_both p old copy path before c.args.cell c.args.label set c.split.result.0 c.split.result.1 is c.split.ensures.only c.split.ensures.rest one c.narrow_labels-2.ensures.gives in
    subst (λ (after : List Branch). WasSplit (script_plan c.args.plan.now) c.args.cell c.args.label c.args.path.now c.args.out.now.items c.narrow_labels-2.new.self after false) (sym c.in_ok-push.ensures.items) both

pub returns-clause-next : goal.returns-clause-next
returns-clause-next c =
    let goes : GoesOn c.in_ok-copy.copy.end = subst (λ (x : Path). GoesOn x.end) (sym c.in_ok-copy.ensures) c.requires.split.goes_on in
    record {
      fits = c.narrow_labels-2.ensures.fits;
      goes_on = c.narrow_labels-2.ensures.next c.requires.split.goes_on;
      others =
          subst (λ (after : List Branch). BranchesGo (script_plan c.args.plan.now) after) (sym c.in_ok-push.ensures.items)
          (pushed_go (script_plan c.args.plan.now) c.args.out.now.items c.narrow_labels.new.self true c.requires.split.others c.narrow_labels.ensures.fits (c.narrow_labels.ensures.next goes));
    }

pub returns-clause-few : goal.returns-clause-few
returns-clause-few c =
    subst (λ (after : List Branch). AreFewBranches (λ x. 1) c.args.out.now.items after false) (sym c.in_ok-push.ensures.items)
    (few_split c.args.out.now.items c.narrow_labels.new.self)

pub returns-then-is_empty-clause-few : goal.returns-then-is_empty-clause-few
returns-then-is_empty-clause-few c = few_one c.args.out.now.items false

pub returns-then-is_empty-2-clause-few : goal.returns-then-is_empty-2-clause-few
returns-then-is_empty-2-clause-few c = few_one c.args.out.now.items true
