use Rattle.std.proofs.Common.{◌≡◌, [], sym, refl}
use Rattle.sym_command.specs.declared.commands.Command.TheVariants as command
use Rattle.sym_command.specs.Words.{trace_seen}
use Rattle.sym_command.proofs.Handed.{chosen-all, texts-named, trace-handed, trace-unhanded}
use Rattle.sym_top.specs.Programs.{checked_program}
use Rattle.sym_top.proofs.Preparing.{reading-files-stop, reading-load-stops, reading-ready, some-prepared, trace-reports-by, usage-prepared}
use Rattle.sym_top.proofs.trace.prepare_trace.Goals as goal

pub returns-in-None-clause-prepared : goal.returns-in-None-clause-prepared
returns-in-None-clause-prepared g c words shown is =
    usage-prepared _ _ _ _ _ c.no_command.ensures
    (trace-unhanded _ _ words c.args.forms.items shown (trace_seen c.args.trace.now) is (sym c.in-None.ensures))

pub returns-in-Err-clause-prepared : goal.returns-in-Err-clause-prepared
returns-in-Err-clause-prepared g c words shown is =
    let handed = trace-handed _ _ words c.args.forms.items shown (trace_seen c.args.trace.now) c.in-Some.form is (sym c.in-Some.ensures) in
    some-prepared _ _ _ _ _ _ _ handed
    (reading-load-stops _ (command.Trace c.args.trace.now) handed c.args.trace.now.script.now (trace_seen c.args.trace.now).files refl (λ held. refl) c.in-Err.stop c.in-Err.ensures.none c.in-Err.ensures.refused)

pub returns-in-Ok-trace_files-clause-prepared : goal.returns-in-Ok-trace_files-clause-prepared
returns-in-Ok-trace_files-clause-prepared g c words shown is =
    let named = sym c.in-Some.ensures in
    let handed = trace-handed _ _ words c.args.forms.items shown (trace_seen c.args.trace.now) c.in-Some.form is named in
    let empty = chosen-all (λ f. (goal.ReportForm-dyn g (f.vtable, f.value)).called f.value)
    (λ f. (goal.ReportForm-dyn g (f.vtable, f.value)).gathered f.value ≡ []) c.args.trace.now.form.now c.args.forms.items c.in-Some.form c.requires.empty named in
    let texts = texts-named (λ f. (goal.ReportForm-dyn g (f.vtable, f.value)).called f.value) (λ f. (goal.ReportForm-dyn g (f.vtable, f.value)).texts f.value)
    c.args.trace.now.form.now c.args.forms.items c.in-Some.form named in
    some-prepared _ _ _ _ _ _ _ handed
    (reading-ready _ (command.Trace c.args.trace.now) handed c.args.trace.now.script.now (trace_seen c.args.trace.now).files refl (λ held. refl) tt (λ held. refl) refl
    (checked_program c.in-Ok.checked) c.report_status.result _ c.in-Ok.ensures.loaded (λ records. tt)
    (trace-reports-by _ (checked_program c.in-Ok.checked) c.args.trace.now.every _ _ _ _ _ _ c.report_status.result empty
    (rw (c.in-Ok.ensures.same, c.as_slice.ensures.value, sym texts) at c.in-Ok-trace_files.ensures.traced) c.report_status.ensures))

pub returns-in-Err-trace_files-clause-prepared : goal.returns-in-Err-trace_files-clause-prepared
returns-in-Err-trace_files-clause-prepared g c words shown is =
    let handed = trace-handed _ _ words c.args.forms.items shown (trace_seen c.args.trace.now) c.in-Some.form is (sym c.in-Some.ensures) in
    some-prepared _ _ _ _ _ _ _ handed
    (reading-files-stop _ (command.Trace c.args.trace.now) handed c.args.trace.now.script.now (trace_seen c.args.trace.now).files refl (λ held. refl) tt (λ held. refl)
    c.in-Ok.checked (g.F.Store.faults c.load_script.new.files) c.in-Ok.ensures.later c.in-Ok.ensures.loaded
    c.pass_refusal.result c.in-Err-trace_files.error c.pass_refusal.ensures
    (rw (c.in-Ok.ensures.same, c.as_slice.ensures.value) at c.in-Err-trace_files.ensures.stopped))
