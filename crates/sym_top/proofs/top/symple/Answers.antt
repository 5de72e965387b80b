use Rattle.std.proofs.Common.{None, inl, refl, ap, ◌∙◌, sym, subst}
use Rattle.sym_message.specs.Refusals.{status_of_refusal}
use Rattle.sym_top.specs.declared.output.Stop.{Stop}
use Rattle.sym_top.specs.Loading.{Stops}
use Rattle.sym_top.specs.Promises.{IsReported}
use Rattle.sym_top.proofs.CausesFound.{carried-by}
use Rattle.sym_top.proofs.Consequences.{made-reported, refusal-refused, stop-says}
use Rattle.sym_top.proofs.Observed.{end_told, memory_told}
use Rattle.sym_top.proofs.OnePass.{one-pass-by}
use Rattle.sym_top.proofs.Preparing.{memory-stops}
use Rattle.sym_top.proofs.top.symple.Goals as goal

pub finish-requires : goal.finish-requires
finish-requires g c = made-reported _ _ _ c.prepare-made.result (c.prepare-made.ensures.prepared _ (sym c.in-Ok.ensures.read)).comes_to

pub returns-clause-headline : goal.returns-clause-headline
returns-clause-headline g c fine =
    one-pass-by _ _ _ c.finish.result fine (c.finish.ensures.says _ (c.prepare-made.ensures.prepared _ (sym c.in-Ok.ensures.read)).comes_to)

pub returns-clause-carried : goal.returns-clause-carried
returns-clause-carried g c =
    carried-by _ _ _ c.finish.result (c.finish.ensures.says _ (c.prepare-made.ensures.prepared _ (sym c.in-Ok.ensures.read)).comes_to)

pub returns-clause-leaves : goal.returns-clause-leaves
returns-clause-leaves g c = record {
  unread = (c.prepare-made.ensures.prepared _ (sym c.in-Ok.ensures.read)).unread;
  unwritten = c.finish.ensures.unwritten;
  memory = c.finish.ensures.memory;
  quiet = c.finish.ensures.quiet;
  unwatched = (c.prepare-made.ensures.observed _ (sym c.in-Ok.ensures.read)).unwatched;
}

pub returns-clause-logs : goal.returns-clause-logs
returns-clause-logs g c =
    end_told _ _ c.prepare-made.result c.finish.result
    (made-reported _ _ _ c.prepare-made.result (c.prepare-made.ensures.prepared _ (sym c.in-Ok.ensures.read)).comes_to)
    c.finish.ensures.status (c.prepare-made.ensures.observed _ (sym c.in-Ok.ensures.read)).told

-- Memory ran out while the arguments were read.

pub returns-in-Err-clause-headline : goal.returns-in-Err-clause-headline
returns-in-Err-clause-headline g c fine =
    one-pass-by _ _ _ c.refuse.result fine
    (stop-says _ _ _ None c.no_command.result c.refuse.result (subst (Stops _ None) (sym c.no_command.ensures) (memory-stops _ None None))
    c.refuse.ensures.status (record { written = refl; faults = refl; short = refl }) c.refuse.ensures.told)

pub returns-in-Err-clause-carried : goal.returns-in-Err-clause-carried
returns-in-Err-clause-carried g c =
    carried-by _ _ _ c.refuse.result
    (stop-says _ _ _ None c.no_command.result c.refuse.result (subst (Stops _ None) (sym c.no_command.ensures) (memory-stops _ None None))
    c.refuse.ensures.status (record { written = refl; faults = refl; short = refl }) c.refuse.ensures.told)

pub returns-in-Err-clause-leaves : goal.returns-in-Err-clause-leaves
returns-in-Err-clause-leaves g c = record {
  unread = λ none. refl;
  unwritten = λ early. refl;
  memory = λ full. inl refl;
  quiet = λ done. absurd (refusal-refused c.no_command.result.why (subst IsReported c.refuse.ensures.status done));
  unwatched = λ none. refl;
}

pub returns-in-Err-clause-logs : goal.returns-in-Err-clause-logs
returns-in-Err-clause-logs g c =
    memory_told _ _ c.refuse.result (c.refuse.ensures.status ∙ ap (λ (own : Stop). status_of_refusal own.why) c.no_command.ensures) refl
