-- Joined runs of rounds, and why groups that stand for records of files are a lawful saved run.
use Rattle.std.proofs.Common.{◌≡◌, refl, sym, subst, ℕ, suc, ◌+◌, ◌≤◌, arith, length-append, List, [], ◌∷◌, ◌++◌, All, length, Option, None, Some, Ok}
use Rattle.std.specs.List.{IsDistinct}
use Rattle.std.proofs.lemmas.List.Elements.{All-nil, All-append}
use Rattle.sym_base.specs.declared.values.record.Record.{Record}
use Rattle.sym_base.specs.declared.values.state.Outcome.{Outcome}
use Rattle.sym_base.specs.declared.values.value.Key.{Key}
use Rattle.sym_check.specs.Meaning.Groups.{is_key, keys}
use Rattle.sym_check.specs.Meaning.Validity.{IsKey, IsRecord}
use Rattle.sym_check.specs.Plan.ScriptPlans.{ScriptPlan}
use Rattle.sym_check.specs.Plan.WellFormed.{IsWellFormed}
use Rattle.sym_check.proofs.GroupLaws.{keys_apart, pass_keys}
use Rattle.sym_table.specs.declared.chunk.Chunk.{Chunk}
use Rattle.sym_table.specs.declared.header.Header.{Header}
use Rattle.sym_table.specs.ChunkRecords.{all_records}
use Rattle.sym_table.specs.Reading.{Row}
use Rattle.sym_table.specs.RowRecords.{HaveRecords}
use Rattle.sym_table.specs.RowRecords as records
use Rattle.sym_table.proofs.RecordsAgree.{records_are}
use Rattle.sym_run.specs.Chained.{Chained}
use Rattle.sym_run.specs.declared.runs.Run.{Run}
use Rattle.sym_run.specs.declared.saved.Saved.{Saved}
use Rattle.sym_run.specs.Runs.{AreClosed, AreTight, GroupsFit, GroupsStandFor}
use Rattle.sym_run.specs.SavedRuns.{AreNumbered, IsLawfulGroup, IsLawfulSaved}
use Rattle.sym_files.specs.FileRecords.{FileRules, IsFine}
use Rattle.sym_files.specs.FileRecords as fine
use Rattle.sym_files.specs.FirstProblems.{AllFine}
use Rattle.sym_files.specs.FirstProblems as all_fine
use Rattle.sym_files.specs.Rounds.{AreWorkers}
use Rattle.sym_workers.specs.RoundRuns.{StandsForAll}
use Rattle.sym_workers.proofs.RoundRuns.{round_fine}
use Rattle.sym_passes.specs.Saving.{AreSummed}
use Rattle.sym_run.proofs.LawfulRuns.{keyed_groups_lawful, numbered_order, unmapped}

abbrev pub Chains : Type 0
Chains = List (Key × Chained)

-- ---- a round
pub none_unless : {A : Type 0} (o : Option A) → ((x : A) → o ≡ Some x → ⊥) → o ≡ None
none_unless None not = refl
none_unless (Some x) not = absurd (not x refl)

pub round_summed : (p : ScriptPlan) (limit workers : ℕ) (cuts : List Chunk) (run : Run) (old left right new : Chains) → StandsForAll p limit cuts run → run.bad ≡ None
    → left ≡ old → ((records : List Record) → GroupsStandFor p records run.groups → GroupsStandFor p records right) → GroupsFit p new → AreTight p limit new
    → (AreClosed left → AreClosed new)
    → ((first rest : List Record) → GroupsStandFor p first left → GroupsStandFor p rest right → GroupsStandFor p (first ++ rest) new)
    → (records : List Record) × (all_records p cuts ≡ Ok records) × ((before : List Record) → AreSummed p limit old workers before → AreSummed p limit new workers (before ++ records))
round_summed p limit workers cuts run old left right new h none same own fits tight closed joins =
    let found = round_fine p limit cuts run h none in (
      found.records,
      found.are,
      λ before stood. record {
        fits = fits;
        tight = tight;
        closed = closed (subst AreClosed (sym same) stood.closed);
        stand = joins before found.records (subst (GroupsStandFor p before) (sym same) stood.stand) (own found.records found.stands);
        in_range = stood.in_range;
      },
    )

pub none_summed : (p : ScriptPlan) (limit workers : ℕ) (groups : Chains) → groups ≡ [] → AreWorkers workers → AreSummed p limit groups workers []
none_summed p limit workers groups none in_range =
    let P : Chains → Type 0 = λ g. AreSummed p limit g workers [] in
    subst P (sym none) (record {
      fits = All-nil _;
      tight = All-nil _;
      closed = All-nil _;
      stand = record { keys_are = refl; each = All-nil _ };
      in_range = in_range;
    })

-- ---- numbers
numbered_on : (first mid next : ℕ) (xs ys : List Record) → AreNumbered first mid xs → AreNumbered mid next ys → AreNumbered first next (xs ++ ys)
numbered_on first mid next [] ys h k = subst (λ (n : ℕ). AreNumbered n next ys) (sym h) k
numbered_on first mid next (x ∷ xs) ys h k = (h.0, numbered_on (suc first) mid next xs ys h.1 k)

rows_numbered : (p : ScriptPlan) (header : Header) (n : ℕ) (rows : List Row) (found : List Record) → HaveRecords p header n rows found → AreNumbered n (n + length found) found
rows_numbered p header _ _ _ (records.no_row n) = omega arith
rows_numbered p header _ _ _ (records.one_more n row rows values found has are) =
    let next : n + 1 ≡ suc n = omega arith in
    let last : (n + 1) + length found ≡ n + suc (length found) = omega arith in
    let P : ℕ → Type 0 = λ m. AreNumbered (n + 1) m found in
    let Q : ℕ → Type 0 = λ m. AreNumbered m (n + suc (length found)) found in
    (refl, subst Q next (subst P last (rows_numbered p header (n + 1) rows found are)))

file_numbered : (p : ScriptPlan) (rules : FileRules) (first : ℕ) (bytes : List ℕ) (found : List Record) → IsFine p rules first bytes found → AreNumbered first (first + length found) found
file_numbered p rules first bytes _ (fine.empty few none) = omega arith
file_numbered p rules first bytes _ (fine.filled row rows header found few are is have) = rows_numbered p header first rows found have

pub files_numbered : (p : ScriptPlan) (rules : FileRules) (first : ℕ) (files : List (List ℕ)) (found : List Record) → AllFine p rules first files found → AreNumbered first (first + length found) found
files_numbered p rules _ _ _ (all_fine.no_file first) = omega arith
files_numbered p rules _ _ _ (all_fine.one_more first bytes files found others is more) =
    let last : (first + length found) + length others ≡ first + length (found ++ others) = omega (arith, length-append found others) in
    let P : ℕ → Type 0 = λ m. AreNumbered (first + length found) m others in
    numbered_on first (first + length found) (first + length (found ++ others)) found others (file_numbered p rules first bytes found is)
    (subst P last (files_numbered p rules (first + length found) files others more))

-- ---- kinds
file_kinds : (p : ScriptPlan) (rules : FileRules) (first : ℕ) (bytes : List ℕ) (found : List Record) → IsWellFormed p → IsFine p rules first bytes found → All (IsRecord p) found
file_kinds p rules first bytes _ w (fine.empty few none) = All-nil (IsRecord p)
file_kinds p rules first bytes _ w (fine.filled row rows header found few are is have) = records_are p header first rows found w have

files_kinds : (p : ScriptPlan) (rules : FileRules) (first : ℕ) (files : List (List ℕ)) (found : List Record) → IsWellFormed p → AllFine p rules first files found → All (IsRecord p) found
files_kinds p rules _ _ _ w (all_fine.no_file first) = All-nil (IsRecord p)
files_kinds p rules _ _ _ w (all_fine.one_more first bytes files found others is more) =
    All-append (IsRecord p) found others (file_kinds p rules first bytes found w is) (files_kinds p rules (first + length found) files others w more)

-- ---- lawful groups
pub groups_lawful : (p : ScriptPlan) (first next : ℕ) (found : List Record) (groups : Chains) → IsWellFormed p → All (IsRecord p) found → AreNumbered first next found → AreClosed groups → GroupsStandFor p found groups
    → All (IsLawfulGroup p first next) groups
groups_lawful p first next found groups w kinds numbered closed stand =
    let are_keys : All (IsKey p) (keys p found) = unmapped _ (λ (pair : Key × Outcome). IsKey p pair.0) (keys p found) (pass_keys p found kinds) in
    keyed_groups_lawful p first next found groups w are_keys numbered closed stand

pub saved_lawful : (p : ScriptPlan) (rules : FileRules) (files : List (List ℕ)) (found : List Record) (saved : Saved) → IsWellFormed p → 1 ≤ saved.first
    → AllFine p rules saved.first files found → saved.next ≡ saved.first + length found → AreClosed saved.groups → GroupsStandFor p found saved.groups → IsLawfulSaved p saved
saved_lawful p rules files found saved w from is last closed stand =
    let P : ℕ → Type 0 = λ m. AreNumbered saved.first m found in
    let numbered = subst P (sym last) (files_numbered p rules saved.first files found is) in
    record {
      from = from;
      order = numbered_order saved.first saved.next found numbered;
      distinct = subst (IsDistinct is_key) (sym stand.keys_are) (keys_apart p found);
      each = groups_lawful p saved.first saved.next found saved.groups w (files_kinds p rules saved.first files found w is) numbered closed stand;
    }
