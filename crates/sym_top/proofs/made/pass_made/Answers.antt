use Rattle.std.proofs.Common.{◌≡◌, ◌∙◌, List, [], ◌∷◌, ℕ, Some, sym, ap, subst, map}
use Rattle.std.specs.String.{string_bytes}
use Rattle.sym_base.specs.InMemory.{visible_bytes}
use Rattle.sym_check.specs.Checking.CheckedScripts.{checked_plan}
use Rattle.sym_files.specs.FileRecords.{rules_of}
use Rattle.sym_files.specs.FirstProblems.{AllFine}
use Rattle.sym_files.specs.Passing.{Holds, MayAll}
use Rattle.sym_top.specs.Loading.{StopsRecords, no_more}
use Rattle.sym_top.specs.Making.{made_file}
use Rattle.sym_top.specs.Programs.{checked_program}
use Rattle.sym_top.proofs.Consequences.{files-told}
use Rattle.sym_top.proofs.Preparing.{sure-stops}
use Rattle.sym_top.proofs.made.pass_made.Goals as goal

-- The only bytes that one file may hold whose bytes are told.
one-file : (holds : Holds) (names : List (List ℕ)) (name log : List ℕ) → names ≡ name ∷ [] → holds name ≡ Some log → (found : List (List ℕ)) →
    MayAll holds names found → found ≡ log ∷ []
one-file holds names name log named has found may = files-told holds names found (log ∷ []) may (ap (map holds) named ∙ ap (λ o. o ∷ []) has)

pub returns-in-Err-clause-stopped : goal.returns-in-Err-clause-stopped
returns-in-Err-clause-stopped g c = no_more

pub returns-in-Err-made_names-clause-stopped : goal.returns-in-Err-made_names-clause-stopped
returns-in-Err-made_names-clause-stopped g c = no_more

pub returns-clause-stopped : goal.returns-clause-stopped
returns-clause-stopped g c =
    let program = checked_program c.args.checked.now in
    let rules = rules_of c.args.make.now.options.max_bytes (g.G.Gate.shown c.args.gate.now) in
    let log = made_file c.args.make.now.records c.args.make.now.seed in
    let holds = visible_bytes c.in-Ok.store in
    let names = map string_bytes c.as_slice.result.now in
    let named = ap (map string_bytes) c.as_slice.ensures.value ∙ c.in-Ok-made_names.ensures in
    subst (StopsRecords program rules (log ∷ [])) (sym c.pass_refusal.ensures)
    (sure-stops program rules holds names (log ∷ []) c.in-Err-pass.error (one-file holds names _ log named c.in-Ok.ensures) c.in-Err-pass.ensures.stopped)

pub returns-in-Ok-pass-clause-passed : goal.returns-in-Ok-pass-clause-passed
returns-in-Ok-pass-clause-passed g c =
    let passed = c.in-Ok-pass.ensures.passed in
    let rules = rules_of c.args.make.now.options.max_bytes (g.G.Gate.shown c.args.gate.now) in
    let log = made_file c.args.make.now.records c.args.make.now.seed in
    let named = ap (map string_bytes) c.as_slice.ensures.value ∙ c.in-Ok-made_names.ensures in
    let same = one-file (visible_bytes c.in-Ok.store) (map string_bytes c.as_slice.result.now) _ log named c.in-Ok.ensures passed.files passed.may in
    record {
      records = passed.records;
      fine = subst (λ files. AllFine (checked_plan c.args.checked.now) rules 1 files passed.records) same passed.fine;
      stands = passed.stands;
    }
