use Rattle.std.proofs.Common.{◌∙◌, ap, subst, sym, refl, List, ◌++◌, map}
use Rattle.std.specs.List.{All}
use Rattle.sym_check.specs.Checking.CheckedScripts.{checked_plan, checked_tree}
use Rattle.sym_check.specs.Plan.WellFormed.{IsWellFormed}
use Rattle.sym_check.specs.Rules.Scripts.{IsAccepted}
use Rattle.sym_report.specs.Forms.{IsUnder, rows_text}
use Rattle.sym_report.specs.ReportRows.{some_faulty}
use Rattle.sym_scan.specs.declared.rows.TraceRow.{TraceRow}
use Rattle.sym_trace.specs.TraceReports.{trace_row}
use Rattle.sym_trace.specs.Tracing.{Tracer}
use Rattle.sym_trace.proofs.Keyed.{under_as}
use Rattle.sym_trace.proofs.TracedRounds.{round_broken, round_traced, scan_keyed}
use Rattle.sym_trace.proofs.rounds.TraceRoundsRounds.take.Goals as goal

pub write_rows-requires : goal.write_rows-requires
write_rows-requires g c =
    let tree = checked_tree c.args.self.now.checked.now in
    let own = checked_plan c.args.self.now.checked.now in
    let p = checked_plan c.args.work.now.checked in
    let h = c.requires.stands.1 in
    let accepted = subst (IsAccepted tree) c.plan-plan.ensures.same c.plan-plan.ensures.accepted in
    let well = subst IsWellFormed (c.plan-plan.ensures.same ∙ h.plan) c.plan-plan.ensures.well_formed in
    let keyed =
    scan_keyed p c.args.self.now.every c.args.work.now.chunks c.replace-groups.result c.in-Done.groups c.in-Done.rows c.in_ok-rows.field-0 well
    c.requires.round.fit c.in-Done.is c.in_ok-rows.ensures.scanned in
    subst (All (λ (row : TraceRow). IsUnder c.args.self.now.heads.now (trace_row tree own row))) (sym c.as_slice.ensures)
    (under_as tree g.S.Traces.by.tree own p c.args.self.now.heads.now c.in-Done.rows h.tree h.plan h.heads accepted keyed)

pub returns-in_ok-found-in-Done-clause-takes : goal.returns-in_ok-found-in-Done-clause-takes
returns-in_ok-found-in-Done-clause-takes g c =
    let self = c.args.self.now in
    let form = goal.ReportForm-dyn g (self.form.vtable, self.form.value) in
    let new = c.write_rows.new.form in
    let now = goal.ReportForm-dyn g (new.vtable, new.value) in
    let tree = checked_tree self.checked.now in
    let own = checked_plan self.checked.now in
    let p = checked_plan c.args.work.now.checked in
    let old : Tracer = record {
      tree = tree;
      plan = own;
      heads = self.heads.now;
      every = self.every;
      workers = self.workers;
      groups = self.groups;
      texts = form.texts self.form.value;
      gathered = form.gathered self.form.value;
      faulty = self.faulty;
    } in
    let wrote = c.in_ok-found-in-Done.ensures in
    round_traced g.S.Traces.by p c.args.work.now.chunks old c.replace-groups.result c.in-Done.groups c.in-Done.rows c.in_ok-rows.field-0
    (now.texts new.value) (now.gathered new.value) c.in_ok-found-in-Done.found _ c.replace-groups.ensures.value c.in-Done.is
    c.in_ok-rows.ensures.scanned c.in_ok-rows.ensures.valid wrote.texts
    (wrote.text
    ∙ ap (λ (rows : List TraceRow). form.gathered self.form.value ++ rows_text (form.texts self.form.value) self.heads.now (map (trace_row tree own) rows)) c.as_slice.ensures)
    (wrote.faulty ∙ ap (λ (rows : List TraceRow). some_faulty (map (trace_row tree own) rows)) c.as_slice.ensures) refl

pub returns-in-Bad-clause-takes : goal.returns-in-Bad-clause-takes
returns-in-Bad-clause-takes g c =
    round_broken (checked_plan c.args.work.now.checked) c.args.self.now.every c.args.work.now.chunks c.replace-groups.result c.in_ok-rows.field-0
    c.in-Bad.bad c.in-Bad.is c.in_ok-rows.ensures.scanned
