use Rattle.std.proofs.Common.{◌≡◌, ◌∙◌, ℕ, ◌+◌, List, [], ◌∷◌, ◌++◌, All, length, ap, append-nil, append_assoc, subst, sym}
use Rattle.std.proofs.lemmas.List.{nil_from_length}
use Rattle.std.specs.Vec.Iter.{into_iter_items}
use Rattle.sym_check.specs.Checking.CheckedScripts.{checked_plan}
use Rattle.sym_table.specs.ChunkRecords.{all_records}
use Rattle.sym_run.specs.Runs.{GroupsFit}
use Rattle.sym_scan.specs.declared.part_starts.PartRun.{PartRun}
use Rattle.sym_scan.specs.declared.part_starts.PartStarts.{PartStarts}
use Rattle.sym_scan.specs.declared.part_starts.Started.{Started}
use Rattle.sym_scan.specs.Parts.{AreRuns, StartsFrom, part_chunks}
use Rattle.sym_scan.proofs.PartLaws.{IsStarting, first_runs, next_run, run_fits, starting_all, starting_bad, starting_on}
use Rattle.sym_scan.proofs.part_starts.start_all.Goals as goal

pub start-requires-clause-fits : goal.start-requires-clause-fits
start-requires-clause-fits c =
    let p = checked_plan c.args.checked.now in
    let ran : PartRun = c.in-Some.ran in
    let rest : List PartRun = into_iter_items c.next.new.self in
    let all : c.parts.yielded ++ ran ∷ rest ≡ c.args.runs.items = ap (λ (others : List PartRun). c.parts.yielded ++ others) (sym c.in-Some.ensures.steps.0) ∙ c.parts.invariant.all in
    run_fits p c.parts.yielded ran rest (subst (All (λ (one : PartRun). GroupsFit p one.run.groups)) (sym all) c.requires.fits)

pub parts-preserved : goal.parts-preserved
parts-preserved c =
    let p = checked_plan c.args.checked.now in
    let ran : PartRun = c.in-Some.ran in
    record {
      all =
          append_assoc c.parts.yielded (ran ∷ []) (into_iter_items c.next.new.self)
          ∙ ap (λ (rest : List PartRun). c.parts.yielded ++ rest) (sym c.in-Some.ensures.steps.0)
          ∙ c.parts.invariant.all;
      valid = c.in_ok-starts.ensures.valid;
      on = λ limit every chunks to a.
          let next = next_run p limit chunks 0 to c.parts.yielded ran a in
          let is = subst (λ (s : Started). StartsFrom p (all_records p (part_chunks chunks ran.part)) c.parts.groups s c.start.new.groups) c.in-From.is (c.in_ok-starts.ensures.starts limit (part_chunks chunks ran.part) next.is.ends next.is.stands) in
          let before = subst (λ (n : ℕ). IsStarting p every chunks n c.args.groups.now c.parts.groups c.parts.parts.items) (sym next.first) (c.parts.invariant.on limit every chunks next.mid next.before) in
          let end : ran.part.first + ran.part.count ≡ to = ap (λ (n : ℕ). n + ran.part.count) next.first ∙ next.end in
          let ready : PartStarts = record { part = ran.part; starts = c.in-From.starts } in
          subst (IsStarting p every chunks to c.args.groups.now c.start.new.groups) (sym c.in_ok-push-in-From.ensures.items)
          (subst (λ (n : ℕ). IsStarting p every chunks n c.args.groups.now c.start.new.groups (c.parts.parts.items ++ ready ∷ [])) end
          (starting_on p every chunks ran.part c.in-From.starts c.args.groups.now c.parts.groups c.start.new.groups c.parts.parts.items next.is.part before is));
    }

pub returns-in-Bad-clause-starts : goal.returns-in-Bad-clause-starts
returns-in-Bad-clause-starts c = λ limit every chunks a.
    let p = checked_plan c.args.checked.now in
    let ran : PartRun = c.in-Some.ran in
    let rest : List PartRun = into_iter_items c.next.new.self in
    let all : (c.parts.yielded ++ ran ∷ []) ++ rest ≡ c.args.runs.items =
    append_assoc c.parts.yielded (ran ∷ []) rest ∙ ap (λ (others : List PartRun). c.parts.yielded ++ others) (sym c.in-Some.ensures.steps.0) ∙ c.parts.invariant.all in
    let first = first_runs p limit chunks 0 (length chunks) (c.parts.yielded ++ ran ∷ []) rest (subst (AreRuns p limit chunks 0 (length chunks)) (sym all) a) in
    let next = next_run p limit chunks 0 first.to c.parts.yielded ran first.are in
    starting_bad p every chunks ran.part c.in-Bad.bad c.args.groups.now c.parts.groups c.start.new.groups c.parts.parts.items
    (subst (λ (n : ℕ). IsStarting p every chunks n c.args.groups.now c.parts.groups c.parts.parts.items) (sym next.first) (c.parts.invariant.on limit every chunks next.mid next.before))
    (subst (λ (s : Started). StartsFrom p (all_records p (part_chunks chunks ran.part)) c.parts.groups s c.start.new.groups) c.in-Bad.is (c.in_ok-starts.ensures.starts limit (part_chunks chunks ran.part) next.is.ends next.is.stands))

pub returns-clause-starts : goal.returns-clause-starts
returns-clause-starts c = λ limit every chunks a.
    let p = checked_plan c.args.checked.now in
    let none : into_iter_items c.parts.ran-iterator ≡ [] = nil_from_length _ (sym c.parts.ran-iterator.rest.ok.0 ∙ c.in-None.ensures.steps.0) in
    let all : c.args.runs.items ≡ c.parts.yielded = sym c.parts.invariant.all ∙ ap (λ (rest : List PartRun). c.parts.yielded ++ rest) none ∙ append-nil c.parts.yielded in
    starting_all p every chunks c.args.groups.now c.parts.groups c.parts.parts (c.parts.invariant.on limit every chunks (length chunks) (subst (AreRuns p limit chunks 0 (length chunks)) all a))
