use Rattle.std.proofs.Common.{◌≡◌, ◌∙◌, ℕ, ◌+◌, List, [], ◌∷◌, ◌++◌, length, length-append, append_assoc, Result, ap, arith, subst, sym}
use Rattle.std.specs.Vec.Iter.{into_iter_items}
use Rattle.sym_base.specs.declared.values.memory.NoMemory.{NoMemory}
use Rattle.sym_check.specs.Checking.CheckedScripts.{checked_plan}
use Rattle.sym_run.specs.declared.runs.Applied.{Applied}
use Rattle.sym_run.specs.declared.runs.Applied.TheVariants as applied
use Rattle.sym_run.specs.declared.runs.Run.{Run}
use Rattle.sym_run.specs.Applying.{AreValid, IfDone}
use Rattle.sym_files.specs.declared.rounds.Work.{Work}
use Rattle.sym_workers.proofs.LedRounds.{IsLed, led_to_bad, run_led, run_next}
use Rattle.sym_workers.proofs.Stretched.{fits_of}
use Rattle.sym_workers.proofs.led_groups.apply_in_order.Goals as goal

pub apply_run-requires-clause-fits : goal.apply_run-requires-clause-fits
apply_run-requires-clause-fits g c κs within =
    let L = g.S.LendsStretches in
    let s = c.args.stretches.now in
    let run = c.in_ok-run.field-0 in
    fits_of c.work-work.result.now (L.lent s) _ _ run c.work-work.ensures
    (run_next (L.lent s) (L.size s) c.args.runs.items c.runs.yielded (into_iter_items c.runs.run-iterator) (into_iter_items c.next.new.self) c.in-Some.run' run c.requires.runs c.runs.invariant.all c.in-Some.ensures.steps.0 c.in_ok-run.was)

pub apply_run-requires-clause-valid : goal.apply_run-requires-clause-valid
apply_run-requires-clause-valid g c κs within =
    subst (λ (w : Work). AreValid (checked_plan w.checked) c.runs.groups) (sym c.work-work.ensures) c.runs.invariant.valid

pub runs-preserved : goal.runs-preserved
runs-preserved g c =
    let L = g.S.LendsStretches in
    let s = c.args.stretches.now in
    let work = L.lent s in
    let each = L.size s in
    let before = c.runs.yielded in
    let r = c.in-Some.run' in
    let rest = into_iter_items c.next.new.self in
    let run = c.in_ok-run.field-0 in
    let next = c.in-Done.next in
    let more : length (before ++ r ∷ []) ≡ length before + 1 = omega (arith, length-append before (r ∷ [])) in
    let stands = run_next work each c.args.runs.items before (into_iter_items c.runs.run-iterator) rest r run c.requires.runs c.runs.invariant.all c.in-Some.ensures.steps.0 c.in_ok-run.was in
    record {
      all =
          append_assoc before (r ∷ []) rest
          ∙ ap (λ (others : List (Result Run NoMemory)). before ++ others) (sym c.in-Some.ensures.steps.0)
          ∙ c.runs.invariant.all;
      led =
          subst (λ (n : ℕ). IsLed work each n c.args.groups (applied.Done next)) (sym more)
          (run_led c.work-work.result.now work each (length before) run c.args.groups c.runs.groups c.in_ok-next.field-0 (applied.Done next) c.work-work.ensures stands c.runs.invariant.led c.in_ok-next.ensures.applied c.in-Done.is);
      valid =
          subst (λ (found : Applied). IfDone found (AreValid (checked_plan work.checked))) c.in-Done.is
          (subst (λ (w : Work). IfDone c.in_ok-next.field-0 (AreValid (checked_plan w.checked))) c.work-work.ensures c.in_ok-next.ensures.valid);
    }

pub returns-in-Bad-clause-applied : goal.returns-in-Bad-clause-applied
returns-in-Bad-clause-applied g c =
    let L = g.S.LendsStretches in
    let s = c.args.stretches.now in
    let work = L.lent s in
    let each = L.size s in
    let before = c.runs.yielded in
    let run = c.in_ok-run.field-0 in
    let stands = run_next work each c.args.runs.items before (into_iter_items c.runs.run-iterator) (into_iter_items c.next.new.self) c.in-Some.run' run c.requires.runs c.runs.invariant.all c.in-Some.ensures.steps.0 c.in_ok-run.was in
    led_to_bad work each (length before + 1) c.args.groups c.in-Bad.bad
    (run_led c.work-work.result.now work each (length before) run c.args.groups c.runs.groups c.in_ok-next.field-0 (applied.Bad c.in-Bad.bad) c.work-work.ensures stands c.runs.invariant.led c.in_ok-next.ensures.applied c.in-Bad.is)
