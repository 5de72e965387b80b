use Rattle.std.proofs.Common.{◌∙◌, ap, refl, false, []}
use Rattle.sym_check.specs.Checking.CheckedScripts.{checked_plan, checked_tree}
use Rattle.sym_trace.specs.Tracing.{Tracer, Tracing}
use Rattle.sym_trace.proofs.TracedRounds.{rows_by, tracing_begins}
use Rattle.sym_trace.proofs.files.trace_rounds.Goals as goal

pub each_round-requires-clause-stands : goal.each_round-requires-clause-stands
each_round-requires-clause-stands g c κs within =
    let options = c.requires.options in (
      [],
      tracing_begins g.S.Traces.by (checked_plan c.args.script.now.checked.now) _ c.requires.by refl c.requires.heads c.requires.some
          (record { some = options.some_workers; most = options.most_workers }) c.new.ensures refl,
    )

pub returns-clause-traced : goal.returns-clause-traced
returns-clause-traced g c =
    let options = c.requires.options in
    let form = goal.ReportForm-dyn g (c.args.trace.form.vtable, c.args.trace.form.value) in
    let p = checked_plan c.args.script.now.checked.now in
    let begun : Tracer = record {
      tree = checked_tree c.args.script.now.checked.now;
      plan = p;
      heads = c.args.script.now.heads.now;
      every = c.args.trace.every;
      workers = c.args.options.now.workers;
      groups = c.new.result;
      texts = form.texts c.args.trace.form.value;
      gathered = form.gathered c.args.trace.form.value;
      faulty = false;
    } in
    let all = c.in_ok-each_round.ensures.taken in
    let it =
    all.stands.1 []
    (tracing_begins g.S.Traces.by p begun c.requires.by refl c.requires.heads c.requires.some
    (record { some = options.some_workers; most = options.most_workers }) c.new.ensures refl) in
    record {
      files = all.files;
      may = all.may;
      records = all.records;
      fine = all.fine;
      stands = rows_by g.S.Traces.by _ p _ all.records c.requires.by it;
    }

pub returns-clause-texts : goal.returns-clause-texts
returns-clause-texts g c =
    let options = c.requires.options in
    let form = goal.ReportForm-dyn g (c.args.trace.form.vtable, c.args.trace.form.value) in
    let p = checked_plan c.args.script.now.checked.now in
    let begun : Tracer = record {
      tree = checked_tree c.args.script.now.checked.now;
      plan = p;
      heads = c.args.script.now.heads.now;
      every = c.args.trace.every;
      workers = c.args.options.now.workers;
      groups = c.new.result;
      texts = form.texts c.args.trace.form.value;
      gathered = form.gathered c.args.trace.form.value;
      faulty = false;
    } in
    let it =
    c.in_ok-each_round.ensures.taken.stands.1 []
    (tracing_begins g.S.Traces.by p begun c.requires.by refl c.requires.heads c.requires.some
    (record { some = options.some_workers; most = options.most_workers }) c.new.ensures refl) in
    it.texts ∙ ap (λ (by : Tracing). by.texts) c.requires.by
