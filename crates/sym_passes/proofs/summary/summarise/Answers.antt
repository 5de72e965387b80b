use Rattle.std.proofs.Common.{ℕ, [], rules, ap, refl, subst, sym}
use Rattle.sym_check.specs.Checking.CheckedScripts.{checked_plan}
use Rattle.sym_check.specs.Plan.WellFormed.{IsWellFormed}
use Rattle.sym_table.specs.Reading.{Row}
use Rattle.sym_run.specs.SavedRuns.{AreNumbered}
use Rattle.sym_files.specs.FileRecords.{rules_of}
use Rattle.sym_files.specs.FirstProblems.{AllFine}
use Rattle.sym_passes.proofs.Summed.{files_numbered, none_summed, saved_lawful}
use Rattle.sym_passes.proofs.summary.summarise.Goals as goal

pub each_round-requires-clause-stands : goal.each_round-requires-clause-stands
each_round-requires-clause-stands g c lifetimes live =
    let p = checked_plan c.args.checked.now in
    ([], none_summed p c.args.options.now.limit c.new-rounds.result.workers c.new-rounds.result.groups c.new-rounds.ensures.groups (search rules))

pub returns-clause-lawful : goal.returns-clause-lawful
returns-clause-lawful g c =
    let p = checked_plan c.args.checked.now in
    let all = c.in_ok-next.ensures.taken in
    let begun = none_summed p c.args.options.now.limit c.new-rounds.result.workers c.new-rounds.result.groups c.new-rounds.ensures.groups (search rules) in
    saved_lawful p (rules_of c.args.options.now.max_bytes (g.G.Gate.shown c.new-rounds.result.gate.now)) all.files all.records _ (subst IsWellFormed c.plan-plan.ensures.same c.plan-plan.ensures.well_formed) c.requires.some
    all.fine all.stands.0 (all.stands.1 [] begun).closed (all.stands.1 [] begun).stand

pub returns-clause-tight : goal.returns-clause-tight
returns-clause-tight g c =
    let p = checked_plan c.args.checked.now in
    let all = c.in_ok-next.ensures.taken in
    let begun = none_summed p c.args.options.now.limit c.new-rounds.result.workers c.new-rounds.result.groups c.new-rounds.ensures.groups (search rules) in
    (all.stands.1 [] begun).tight

pub returns-clause-saved : goal.returns-clause-saved
returns-clause-saved g c =
    let p = checked_plan c.args.checked.now in
    let all = c.in_ok-next.ensures.taken in
    let begun = none_summed p c.args.options.now.limit c.new-rounds.result.workers c.new-rounds.result.groups c.new-rounds.ensures.groups (search rules) in
    let P : (Row → Row) → Type 0 = λ shown. AllFine p (rules_of c.args.options.now.max_bytes shown) c.args.first all.files all.records in
    let fine = subst P (ap g.G.Gate.shown c.new-rounds.ensures.gate) all.fine in
    let N : ℕ → Type 0 = λ next. AreNumbered c.args.first next all.records in
    record {
      files = all.files;
      may = all.may;
      records = all.records;
      fine = fine;
      stands = (
        refl,
        record {
          numbered = subst N (sym all.stands.0) (files_numbered p (rules_of c.args.options.now.max_bytes (g.G.Gate.shown c.args.gate.now)) c.args.first all.files all.records fine);
          groups = (all.stands.1 [] begun).stand;
        },
      );
    }
