use Rattle.std.proofs.Common.{◌≡◌, [], Some, refl, subst, sym}
use Rattle.std.specs.List.{All}
use Rattle.sym_check.specs.Checking.CheckedScripts.{checked_plan}
use Rattle.sym_check.specs.Meaning.Validity.{IsKey}
use Rattle.sym_command.specs.declared.commands.Command.TheVariants as command
use Rattle.sym_command.specs.Words.{reduce_seen}
use Rattle.sym_command.proofs.Handed.{chosen-all, reduce-handed, reduce-unhanded, texts-named}
use Rattle.sym_top.specs.Programs.{checked_program}
use Rattle.sym_top.proofs.Preparing.{memory-stops, reading-load-stops, reduce-files-stop, reduce-ready, runs-by, some-prepared, usage-prepared}
use Rattle.sym_top.proofs.reduce.prepare_reduce.Goals as goal

pub write_report-requires : goal.write_report-requires
write_report-requires g c =
    let p = checked_plan c.in-Ok.checked in subst (All (λ pair. IsKey p pair.0)) (sym c.groups.ensures) c.in-Ok-reduce_files.ensures.keys

pub returns-in-None-clause-prepared : goal.returns-in-None-clause-prepared
returns-in-None-clause-prepared g c words shown is =
    usage-prepared _ _ _ _ _ c.no_command.ensures
    (reduce-unhanded _ _ words c.args.forms.items shown (reduce_seen c.args.reduce.now) is (sym c.in-None.ensures))

pub returns-in-Err-clause-prepared : goal.returns-in-Err-clause-prepared
returns-in-Err-clause-prepared g c words shown is =
    let handed = reduce-handed _ _ words c.args.forms.items shown (reduce_seen c.args.reduce.now) c.in-Some.form is (sym c.in-Some.ensures) in
    some-prepared _ _ _ _ _ _ _ handed
    (reading-load-stops _ (command.Reduce c.args.reduce.now) handed c.args.reduce.now.script.now (reduce_seen c.args.reduce.now).files refl (λ held. refl) c.in-Err.stop c.in-Err.ensures.none c.in-Err.ensures.refused)

pub returns-in-Err-reduce_files-clause-prepared : goal.returns-in-Err-reduce_files-clause-prepared
returns-in-Err-reduce_files-clause-prepared g c words shown is =
    let handed = reduce-handed _ _ words c.args.forms.items shown (reduce_seen c.args.reduce.now) c.in-Some.form is (sym c.in-Some.ensures) in
    some-prepared _ _ _ _ _ _ _ handed
    (reduce-files-stop _ c.args.reduce.now handed c.in-Ok.checked (g.F.Store.faults c.load_script.new.files) c.in-Ok.ensures.later c.in-Ok.ensures.loaded
    c.reduce_refusal.result c.in-Err-reduce_files.error c.reduce_refusal.ensures
    (rw (c.in-Ok.ensures.same, c.as_slice-names.ensures.value) at c.in-Err-reduce_files.ensures.stopped))

pub returns-in-Ok-write_report-clause-prepared : goal.returns-in-Ok-write_report-clause-prepared
returns-in-Ok-write_report-clause-prepared g c words shown is =
    let named = sym c.in-Some.ensures in
    let handed = reduce-handed _ _ words c.args.forms.items shown (reduce_seen c.args.reduce.now) c.in-Some.form is named in
    let empty = chosen-all (λ f. (goal.ReportForm-dyn g (f.vtable, f.value)).called f.value)
    (λ f. (goal.ReportForm-dyn g (f.vtable, f.value)).gathered f.value ≡ []) c.args.reduce.now.form.now c.args.forms.items c.in-Some.form c.requires.empty named in
    let texts = texts-named (λ f. (goal.ReportForm-dyn g (f.vtable, f.value)).called f.value) (λ f. (goal.ReportForm-dyn g (f.vtable, f.value)).texts f.value)
    c.args.reduce.now.form.now c.args.forms.items c.in-Some.form named in
    some-prepared _ _ _ _ _ _ _ handed
    (reduce-ready _ c.args.reduce.now handed (checked_program c.in-Ok.checked) c.report_status.result _ c.in-Ok.ensures.loaded
    (runs-by _ (checked_program c.in-Ok.checked) c.args.reduce.now.max_bytes _ _ c.in-Ok-reduce_files.totals c.in-Ok-write_report.faulty c.report_status.result _
    (rw (c.in-Ok.ensures.same, c.as_slice-names.ensures.value) at c.in-Ok-reduce_files.ensures.reduced)
    (rw (empty, c.groups.ensures, sym texts) at c.in-Ok-write_report.ensures.text)
    (rw c.groups.ensures at c.in-Ok-write_report.ensures.faulty) c.report_status.ensures))

pub returns-in-Err-write_report-clause-prepared : goal.returns-in-Err-write_report-clause-prepared
returns-in-Err-write_report-clause-prepared g c words shown is =
    some-prepared _ _ _ _ _ _ _
    (reduce-handed _ _ words c.args.forms.items shown (reduce_seen c.args.reduce.now) c.in-Some.form is (sym c.in-Some.ensures))
    (memory-stops _ (Some (command.Reduce c.args.reduce.now)) (Some c.in-Ok.checked))
