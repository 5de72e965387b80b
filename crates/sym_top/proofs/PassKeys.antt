-- The keys of a pass over files are of the kinds of the script.
use Rattle.std.proofs.Common.{◌≡◌, ℕ, List, sym, subst}
use Rattle.std.specs.List.{All}
use Rattle.std.proofs.lemmas.List.Elements.{All-nil, All-append}
use Rattle.sym_base.specs.declared.values.record.Record.{Record}
use Rattle.sym_base.specs.declared.values.state.Outcome.{Outcome}
use Rattle.sym_base.specs.declared.values.value.Key.{Key}
use Rattle.sym_check.specs.Meaning.Groups.{pass}
use Rattle.sym_check.specs.Meaning.Validity.{IsKey, IsRecord}
use Rattle.sym_check.specs.Plan.ScriptPlans.{ScriptPlan}
use Rattle.sym_check.specs.Plan.WellFormed.{IsWellFormed}
use Rattle.sym_check.proofs.GroupLaws.{pass_keys}
use Rattle.sym_table.proofs.RecordsAgree.{records_are}
use Rattle.sym_files.specs.FileRecords.{FileRules, IsFine, empty, filled}
use Rattle.sym_files.specs.FirstProblems.{AllFine, no_file, one_more}

file-records : (p : ScriptPlan) (rules : FileRules) (first_no : ℕ) (bytes : List ℕ) (records : List Record) → IsWellFormed p →
    IsFine p rules first_no bytes records → All (IsRecord p) records
file-records p rules first_no bytes _ well (empty small none) = All-nil (IsRecord p)
file-records p rules first_no bytes _ well (filled row rows header records small are is have) = records_are p header first_no rows records well have

pub fine-records : (p : ScriptPlan) (rules : FileRules) (first_no : ℕ) (files : List (List ℕ)) (records : List Record) → IsWellFormed p →
    AllFine p rules first_no files records → All (IsRecord p) records
fine-records p rules first_no _ _ well (no_file n) = All-nil (IsRecord p)
fine-records p rules first_no _ _ well (one_more n bytes files records others is rest) =
    All-append (IsRecord p) records others (file-records p rules n bytes records well is) (fine-records p rules _ files others well rest)

pub groups-keyed : (p : ScriptPlan) (rules : FileRules) (first_no : ℕ) (files : List (List ℕ)) (records : List Record) (groups : List (Key × Outcome)) →
    IsWellFormed p → AllFine p rules first_no files records → groups ≡ pass p records → All (λ pair. IsKey p pair.0) groups
groups-keyed p rules first_no files records groups well fine stands =
    let P : List (Key × Outcome) → Type 0 = λ gs. All (λ pair. IsKey p pair.0) gs in
    subst P (sym stands) (pass_keys p records (fine-records p rules first_no files records well fine))
