use Rattle.std.proofs.Common.{rules, arith, ap, ◌≡◌, ◌+◌, ◌++◌, ◌∙◌, ℕ, List, sym, subst}
use Rattle.std.specs.Prelude.{OnOk}
use Rattle.sym_base.specs.declared.values.value.Value.{Value}
use Rattle.sym_check.specs.Plan.CondPlans.{cond_plan}
use Rattle.sym_check.specs.Plan.DoPlans.{DoPlan, DosPlan, do_plan, dos_plan, End, If, Let, Then}
use Rattle.sym_check.specs.Plan.FixedPlans.{fixed_plan}
use Rattle.sym_check.specs.Meaning.FixedValues.{Environment}
use Rattle.sym_check.specs.Plan.ScriptPlans.{ScriptPlan, script_plan}
use Rattle.sym_check.specs.Meaning.Updates.{environment}
use Rattle.sym_explore.specs.Counting.{dos_ended, dos_going}
use Rattle.sym_explore.specs.Knowing.{DosAreKnown}
use Rattle.sym_path.specs.declared.path.Path.{Path}
use Rattle.sym_explore.specs.Running.{CanRun, DoWasRun, DosWereRun}
use Rattle.sym_explore.specs.Stepping.{after_dos}
use Rattle.sym_explore.specs.Trying.{CondWasTried}
use Rattle.sym_explore.proofs.AssignedLists.{on_ok}
use Rattle.sym_explore.proofs.Blocks.{end_run, if_run, is_named, no_run, none_left, none_run, some_left, then_run}
use Rattle.sym_explore.proofs.KnownParts.{first_known, otherwise_known, rest_known}
use Rattle.sym_explore.proofs.Sizes.{do_size, dos_size}
use Rattle.sym_explore.proofs.TriedConditions.{can_run_beside}
use Rattle.sym_explore.proofs.statements.+exploring.Goals as goal

pub run_all-run-requires : goal.run_all-run-requires
run_all-run-requires t c =
    let is : dos_plan c.args.statements.now ≡ Then (do_plan c.deref.result.now) (dos_plan c.in-More.rest.value) = search rules in
    let size : dos_size (dos_plan c.args.statements.now) ≡ do_size (do_plan c.deref.result.now) + dos_size (dos_plan c.in-More.rest.value) + 1 = ap dos_size is in
    let well : DosAreKnown (script_plan c.args.plan.now) (environment c.args.rec.now c.args.scratch.now.locals) (Then (do_plan c.deref.result.now) (dos_plan c.in-More.rest.value)) = subst (λ (ds : DosPlan). DosAreKnown (script_plan c.args.plan.now) (environment c.args.rec.now c.args.scratch.now.locals) ds) is c.requires.well in
    let first = first_known (script_plan c.args.plan.now) (environment c.args.rec.now c.args.scratch.now.locals) (do_plan c.deref.result.now) (dos_plan c.in-More.rest.value) well in
    (omega (arith, size, c.decreases), (c.requires.known, (first, c.requires.paths)))

pub run_all-returns-then-is_empty-clause-run : goal.run_all-returns-then-is_empty-clause-run
run_all-returns-then-is_empty-clause-run t c =
    let is : dos_plan c.args.statements.now ≡ Then (do_plan c.deref.result.now) (dos_plan c.in-More.rest.value) = search rules in
    let none = none_left c.run.new.lists.paths.items c.run.new.lists.paths.len c.run.new.lists.paths.ok.0 (sym c.is_empty.ensures ∙ c.if-is_empty.true) in
    none_run (script_plan c.args.plan.now) c.args.rec.now c.args.rec.now.no c.args.scratch.now.locals (dos_plan c.args.statements.now) (do_plan c.deref.result.now) (dos_plan c.in-More.rest.value) is c.args.lists.now.paths.items c.run.new.lists.paths.items c.args.lists.now.ended.items c.run.new.lists.ended.items c.in_ok-run-in-More.ensures.run none

pub run_all-run_all-requires : goal.run_all-run_all-requires
run_all-run_all-requires t c =
    let is : dos_plan c.args.statements.now ≡ Then (do_plan c.deref.result.now) (dos_plan c.deref-in-More.result.now) = search rules in
    let size : dos_size (dos_plan c.args.statements.now) ≡ do_size (do_plan c.deref.result.now) + dos_size (dos_plan c.deref-in-More.result.now) + 1 = ap dos_size is in
    let some = some_left c.run.new.lists.paths.items c.run.new.lists.paths.len c.run.new.lists.paths.ok.0 (sym c.is_empty.ensures ∙ c.if-is_empty.false) in
    let named = is_named c.args.rec.now (environment c.args.rec.now c.args.scratch.now.locals) (do_plan c.deref.result.now) c.run.new.scratch.locals c.run.new.lists.paths.items some c.in_ok-run-in-More.ensures.named in
    let well : DosAreKnown (script_plan c.args.plan.now) (environment c.args.rec.now c.args.scratch.now.locals) (Then (do_plan c.deref.result.now) (dos_plan c.deref-in-More.result.now)) = subst (λ (ds : DosPlan). DosAreKnown (script_plan c.args.plan.now) (environment c.args.rec.now c.args.scratch.now.locals) ds) is c.requires.well in
    let next = rest_known (script_plan c.args.plan.now) (environment c.args.rec.now c.args.scratch.now.locals) (environment c.args.rec.now c.run.new.scratch.locals) (do_plan c.deref.result.now) (dos_plan c.deref-in-More.result.now) well named.0 named.1 in
    (omega (arith, size, c.decreases), (c.requires.known, (next, c.in_ok-run-in-More.ensures.run.next)))

pub run_all-returns-else-is_empty-clause-run : goal.run_all-returns-else-is_empty-clause-run
run_all-returns-else-is_empty-clause-run t c =
    let is : dos_plan c.args.statements.now ≡ Then (do_plan c.deref.result.now) (dos_plan c.deref-in-More.result.now) = search rules in
    let some = some_left c.run.new.lists.paths.items c.run.new.lists.paths.len c.run.new.lists.paths.ok.0 (sym c.is_empty.ensures ∙ c.if-is_empty.false) in
    let named = is_named c.args.rec.now (environment c.args.rec.now c.args.scratch.now.locals) (do_plan c.deref.result.now) c.run.new.scratch.locals c.run.new.lists.paths.items some c.in_ok-run-in-More.ensures.named in
    then_run (script_plan c.args.plan.now) c.args.rec.now c.args.rec.now.no c.args.scratch.now.locals (dos_plan c.args.statements.now) (do_plan c.deref.result.now) (dos_plan c.deref-in-More.result.now) is c.args.lists.now.paths.items c.run.new.lists.paths.items c.args.lists.now.ended.items c.run.new.lists.ended.items c.in_ok-run-in-More.ensures.run c.run.new.scratch.locals named.1 c.run_all.new.lists.paths.items c.run_all.new.lists.ended.items c.run_all.result c.run_all.ensures.run

pub run_all-returns-in-End-clause-run : goal.run_all-returns-in-End-clause-run
run_all-returns-in-End-clause-run t c =
    let is : dos_plan c.args.statements.now ≡ End = search rules in
    end_run (script_plan c.args.plan.now) (environment c.args.rec.now c.args.scratch.now.locals) c.args.rec.now.no (dos_plan c.args.statements.now) is c.args.lists.now.paths.items c.args.lists.now.ended.items c.requires.paths

pub run_block-returns-then-is_empty-clause-run : goal.run_block-returns-then-is_empty-clause-run
run_block-returns-then-is_empty-clause-run t c =
    let p = script_plan c.args.plan.now in
    let n = c.args.rec.now.no in
    let ds = dos_plan c.args.statements.now in
    let none = none_left c.args.lists.now.paths.items c.args.lists.now.paths.len c.args.lists.now.paths.ok.0 (sym c.is_empty.ensures ∙ c.if-is_empty.true) in
    no_run p (after_dos p (environment c.args.rec.now c.args.scratch.now.locals) n ds) n (dos_going p.cells ds) (dos_ended p.cells ds) c.args.lists.now.paths.items c.args.lists.now.ended.items none c.requires.paths

pub choose-run_block-requires-2 : goal.choose-run_block-requires-2
choose-run_block-requires-2 t c =
    let p : ScriptPlan = script_plan c.args.plan.now in
    let start : List Value = c.args.scratch.now.locals in
    let a : DosPlan = dos_plan c.args.choice.now.then.now in
    let b : DosPlan = dos_plan c.args.choice.now.otherwise.now in
    let failed : List Path = c.part.new.lists.ended.items in
    let ended : List Path = c.run_block.new.lists.ended.items in
    let falses : List Path = c.part.new.falses.items in
    let these : c.swap.new.x.items ≡ falses = search rules in
    let known = otherwise_known p (environment c.args.rec.now start) (cond_plan c.args.choice.now.condition.now) a b c.requires.well in
    let well = subst (λ (ls : List Value). DosAreKnown p (environment c.args.rec.now ls) b) (sym c.in_ok-run_block.ensures.locals) known in
    let ready = can_run_beside p falses failed ended c.in_ok-part.ensures.tried.falses c.in_ok-run_block.ensures.run.next.ended_fit in
    (omega (arith, c.decreases), (c.requires.known, (well, subst (λ (ps : List Path). CanRun p ps ended) (sym these) ready)))

pub choose-returns-clause-run : goal.choose-returns-clause-run
choose-returns-clause-run t c =
    let p : ScriptPlan = script_plan c.args.plan.now in
    let n : ℕ = c.args.rec.now.no in
    let start : List Value = c.args.scratch.now.locals in
    let middle : List Value = c.run_block.new.scratch.locals in
    let cond = cond_plan c.args.choice.now.condition.now in
    let a : DosPlan = dos_plan c.args.choice.now.then.now in
    let b : DosPlan = dos_plan c.args.choice.now.otherwise.now in
    let old : List Path = c.args.lists.now.paths.items in
    let before : List Path = c.args.lists.now.ended.items in
    let trues : List Path = c.part.new.lists.paths.items in
    let falses : List Path = c.part.new.falses.items in
    let failed : List Path = c.part.new.lists.ended.items in
    let then_paths : List Path = c.run_block.new.lists.paths.items in
    let ended : List Path = c.run_block.new.lists.ended.items in
    let else_paths : List Path = c.run_block-2.new.lists.paths.items in
    let after : List Path = c.run_block-2.new.lists.ended.items in
    let these : c.swap.new.x.items ≡ falses = search rules in
    let front : c.swap-2.new.x.items ≡ then_paths = search rules in
    let back : c.swap-2.new.y.items ≡ else_paths = search rules in
    let begun = subst (λ (k : Environment). CondWasTried p k n cond old trues c.new-falses.result.items falses before failed) c.known_in-known.ensures c.in_ok-part.ensures.tried in
    let later : DosWereRun p (environment c.args.rec.now middle) n b falses else_paths ended after = subst (λ (ps : List Path). DosWereRun p (environment c.args.rec.now middle) n b ps else_paths ended after) these c.in_ok-run_block-2.ensures.run in
    on_ok c.move_all.result
    (λ is. if_run p c.args.rec.now n start cond a b old trues c.new-falses.result.items falses before failed c.new-falses.ensures.items then_paths ended middle c.in_ok-run_block.ensures.locals else_paths after c.move_all.new.to.items (is ∙ (λ i. front i ++ back i)) begun c.in_ok-part.ensures.fixed c.in_ok-run_block.ensures.run later)
    c.move_all.ensures.to

pub run-returns-in-Let-clause-run : goal.run-returns-in-Let-clause-run
run-returns-in-Let-clause-run t c =
    let p : ScriptPlan = script_plan c.args.plan.now in
    let k : Environment = environment c.args.rec.now c.args.scratch.now.locals in
    let is : do_plan c.args.statement.now ≡ Let c.in-Let.local (fixed_plan c.in-Let.value) = ap do_plan c.in-Let.is in
    subst (λ (d : DoPlan). OnOk c.name.result (DoWasRun p k c.args.rec.now.no d c.args.lists.now.paths.items c.name.new.lists.paths.items c.args.lists.now.ended.items c.name.new.lists.ended.items)) (sym is) (c.name.ensures.run p c.requires.paths)

pub run-returns-in-If-clause-run : goal.run-returns-in-If-clause-run
run-returns-in-If-clause-run t c =
    let p : ScriptPlan = script_plan c.args.plan.now in
    let k : Environment = environment c.args.rec.now c.args.scratch.now.locals in
    let is : do_plan c.args.statement.now ≡ If (cond_plan c.in-If.condition) (dos_plan c.in-If.then) (dos_plan c.in-If.otherwise) = ap do_plan c.in-If.is in
    subst (λ (d : DoPlan). OnOk c.choose.result (DoWasRun p k c.args.rec.now.no d c.args.lists.now.paths.items c.choose.new.lists.paths.items c.args.lists.now.ended.items c.choose.new.lists.ended.items)) (sym is) c.choose.ensures.run
