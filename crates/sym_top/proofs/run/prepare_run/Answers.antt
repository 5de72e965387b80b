use Rattle.std.proofs.Common.{◌≡◌, [], Some, ap, sym, subst, map, refl}
use Rattle.sym_check.specs.Checking.CheckedScripts.{checked_plan}
use Rattle.sym_check.specs.Plan.WellFormed.{IsWellFormed}
use Rattle.sym_files.specs.declared.error.PassErr.TheVariants as pass_error
use Rattle.sym_files.specs.FileRecords.{rules_of}
use Rattle.sym_command.specs.declared.commands.Command.TheVariants as command
use Rattle.sym_command.specs.Words.{run_seen}
use Rattle.sym_command.proofs.Handed.{chosen-all, run-handed, run-unhanded, texts-named}
use Rattle.sym_top.specs.Observers.{at_script}
use Rattle.sym_top.specs.Programs.{checked_program}
use Rattle.sym_top.proofs.Observed.{all_some, run_observed, told_all, told_to, unasked_observed}
use Rattle.sym_top.proofs.PassKeys.{groups-keyed}
use Rattle.sym_top.proofs.Preparing.{memory-stops, reading-files-stop, reading-load-stops, reading-ready, reports-by, some-prepared, usage-prepared}
use Rattle.sym_top.proofs.run.prepare_run.Goals as goal

pub returns-in-None-clause-prepared : goal.returns-in-None-clause-prepared
returns-in-None-clause-prepared g c words is =
    usage-prepared _ _ _ _ _ c.no_command.ensures
    (run-unhanded _ _ words c.args.forms.items (g.G.Gate.shown c.args.gate.now) (run_seen c.args.run.now) is (sym c.in-None.ensures))

pub returns-in-None-clause-observed : goal.returns-in-None-clause-observed
returns-in-None-clause-observed g c words is =
    unasked_observed _ _ _ _ (run-unhanded _ _ words c.args.forms.items (g.G.Gate.shown c.args.gate.now) (run_seen c.args.run.now) is (sym c.in-None.ensures)) refl

pub returns-in-Err-clause-prepared : goal.returns-in-Err-clause-prepared
returns-in-Err-clause-prepared g c words is =
    let handed = run-handed _ _ words c.args.forms.items (g.G.Gate.shown c.args.gate.now) (run_seen c.args.run.now) c.in-Some.form is (sym c.in-Some.ensures) in
    some-prepared _ _ _ _ _ _ _ handed
    (reading-load-stops _ (command.Run c.args.run.now) handed c.args.run.now.script.now (run_seen c.args.run.now).files refl (λ held. refl) c.in-Err.stop c.in-Err.ensures.none c.in-Err.ensures.refused)

pub returns-in-Err-clause-observed : goal.returns-in-Err-clause-observed
returns-in-Err-clause-observed g c words is =
    let handed = run-handed _ _ words c.args.forms.items (g.G.Gate.shown c.args.gate.now) (run_seen c.args.run.now) c.in-Some.form is (sym c.in-Some.ensures) in
    run_observed _ _ _ _ _ (run_seen c.args.run.now) handed (λ watch. at_script c.in-Err.stop.why c.in-Err.ensures.refused refl) (λ none. refl) (λ same. refl)

pub returns-in-Err-pass_run-clause-prepared : goal.returns-in-Err-pass_run-clause-prepared
returns-in-Err-pass_run-clause-prepared g c words is =
    let handed = run-handed _ _ words c.args.forms.items (g.G.Gate.shown c.args.gate.now) (run_seen c.args.run.now) c.in-Some.form is (sym c.in-Some.ensures) in
    some-prepared _ _ _ _ _ _ _ handed
    (reading-files-stop _ (command.Run c.args.run.now) handed c.args.run.now.script.now (run_seen c.args.run.now).files refl (λ held. refl) tt (λ held. refl)
    c.in-Ok.checked (g.F.Store.faults c.load_script.new.files) c.in-Ok.ensures.later c.in-Ok.ensures.loaded
    c.pass_refusal.result c.in-Err-pass_run.error c.pass_refusal.ensures (rw c.in-Ok.ensures.same at c.in-Err-pass_run.ensures.stopped))

pub returns-in-Err-pass_run-clause-observed : goal.returns-in-Err-pass_run-clause-observed
returns-in-Err-pass_run-clause-observed g c words is =
    let handed = run-handed _ _ words c.args.forms.items (g.G.Gate.shown c.args.gate.now) (run_seen c.args.run.now) c.in-Some.form is (sym c.in-Some.ensures) in
    run_observed _ _ _ _ _ (run_seen c.args.run.now) handed
    (λ watch. told_to _ (run_seen c.args.run.now) _ (checked_program c.in-Ok.checked) c.in-Ok.ensures.loaded (g.F.Store.faults c.load_script.new.files) c.in-Ok.ensures.later
    c.pass_refusal.result c.in-Err-pass_run.error c.pass_refusal.ensures (rw c.in-Ok.ensures.same at c.in-Err-pass_run.ensures.stopped)
    (rw c.in-Ok.ensures.same at c.in-Err-pass_run.ensures.told_until watch))
    c.pass_run.ensures.unwatched (ap (λ os. map (λ o. (goal.Observer-dyn g (o.vtable, o.value)).log o.value) os.items))

pub write_report-requires : goal.write_report-requires
write_report-requires g c =
    let well = subst IsWellFormed c.plan-plan.ensures.same c.plan-plan.ensures.well_formed in
    let passed = c.in-Ok-pass_run.ensures.passed in
    groups-keyed (checked_plan c.in-Ok.checked) (rules_of c.args.run.now.options.max_bytes (g.G.Gate.shown c.args.gate.now)) 1 passed.files passed.records
    c.in-Ok-pass_run.groups well passed.fine passed.stands

pub returns-in-Ok-write_report-clause-prepared : goal.returns-in-Ok-write_report-clause-prepared
returns-in-Ok-write_report-clause-prepared g c words is =
    let named = sym c.in-Some.ensures in
    let handed = run-handed _ _ words c.args.forms.items (g.G.Gate.shown c.args.gate.now) (run_seen c.args.run.now) c.in-Some.form is named in
    let empty = chosen-all (λ f. (goal.ReportForm-dyn g (f.vtable, f.value)).called f.value)
    (λ f. (goal.ReportForm-dyn g (f.vtable, f.value)).gathered f.value ≡ []) c.args.run.now.form.now c.args.forms.items c.in-Some.form c.requires.empty named in
    let texts = texts-named (λ f. (goal.ReportForm-dyn g (f.vtable, f.value)).called f.value) (λ f. (goal.ReportForm-dyn g (f.vtable, f.value)).texts f.value)
    c.args.run.now.form.now c.args.forms.items c.in-Some.form named in
    some-prepared _ _ _ _ _ _ _ handed
    (reading-ready _ (command.Run c.args.run.now) handed c.args.run.now.script.now (run_seen c.args.run.now).files refl (λ held. refl) tt (λ held. refl) refl
    (checked_program c.in-Ok.checked) c.report_status.result _ c.in-Ok.ensures.loaded (λ records. tt)
    (reports-by _ (checked_program c.in-Ok.checked) _ _ _ c.in-Ok-pass_run.groups c.in-Ok-write_report.faulty c.report_status.result _
    (rw c.in-Ok.ensures.same at c.in-Ok-pass_run.ensures.passed)
    (rw (empty, sym texts) at c.in-Ok-write_report.ensures.text) c.in-Ok-write_report.ensures.faulty c.report_status.ensures))

pub returns-in-Ok-write_report-clause-observed : goal.returns-in-Ok-write_report-clause-observed
returns-in-Ok-write_report-clause-observed g c words is =
    let handed = run-handed _ _ words c.args.forms.items (g.G.Gate.shown c.args.gate.now) (run_seen c.args.run.now) c.in-Some.form is (sym c.in-Some.ensures) in
    run_observed _ _ _ _ _ (run_seen c.args.run.now) handed
    (λ watch. told_all _ (run_seen c.args.run.now) _ (checked_program c.in-Ok.checked) c.in-Ok.ensures.loaded
    (rw c.in-Ok.ensures.same at c.in-Ok-pass_run.ensures.told watch))
    c.pass_run.ensures.unwatched (ap (λ os. map (λ o. (goal.Observer-dyn g (o.vtable, o.value)).log o.value) os.items))

pub returns-in-Err-write_report-clause-prepared : goal.returns-in-Err-write_report-clause-prepared
returns-in-Err-write_report-clause-prepared g c words is =
    some-prepared _ _ _ _ _ _ _
    (run-handed _ _ words c.args.forms.items (g.G.Gate.shown c.args.gate.now) (run_seen c.args.run.now) c.in-Some.form is (sym c.in-Some.ensures))
    (memory-stops _ (Some (command.Run c.args.run.now)) (Some c.in-Ok.checked))

pub returns-in-Err-write_report-clause-observed : goal.returns-in-Err-write_report-clause-observed
returns-in-Err-write_report-clause-observed g c words is =
    let handed = run-handed _ _ words c.args.forms.items (g.G.Gate.shown c.args.gate.now) (run_seen c.args.run.now) c.in-Some.form is (sym c.in-Some.ensures) in
    run_observed _ _ _ _ _ (run_seen c.args.run.now) handed
    (λ watch. told_to _ (run_seen c.args.run.now) _ (checked_program c.in-Ok.checked) c.in-Ok.ensures.loaded (g.F.Store.faults c.load_script.new.files) c.in-Ok.ensures.later
    _ pass_error.NoMemory refl tt (all_some (checked_program c.in-Ok.checked).tree _ _ _ (rw c.in-Ok.ensures.same at c.in-Ok-pass_run.ensures.told watch)))
    c.pass_run.ensures.unwatched (ap (λ os. map (λ o. (goal.Observer-dyn g (o.vtable, o.value)).log o.value) os.items))
