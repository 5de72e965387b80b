-- Why files of saved runs that stand for records, in order, are one pass over all of them.
use Rattle.std.proofs.Common.{◌≡◌, ◌∙◌, sym, ap, subst, ℕ, ◌<◌, ◌^◌, append_assoc, append-nil, List, [], ◌∷◌, ◌++◌, All}
use Rattle.std.proofs.lemmas.List.Elements.{All-append, All-nil}
use Rattle.sym_base.specs.declared.values.record.Record.{Record}
use Rattle.sym_check.specs.Meaning.Groups.{pass}
use Rattle.sym_check.specs.Meaning.Validity.{IsRecord}
use Rattle.sym_check.specs.Plan.ScriptPlans.{ScriptPlan}
use Rattle.sym_check.specs.Plan.WellFormed.{IsWellFormed}
use Rattle.sym_check.proofs.GroupLaws.{pass_outcomes}
use Rattle.sym_check.proofs.ValidSteps.{initial_valid}
use Rattle.sym_file.proofs.Taking.{lawful_closed, taken_records}
use Rattle.sym_file.specs.declared.totals.Taken.TheVariants as taking
use Rattle.sym_plain.proofs.Apart.{pass_more}
use Rattle.sym_run.specs.SavedRuns.{SavedStandsFor}
use Rattle.sym_run.specs.declared.saved.Saved.{Saved}
use Rattle.sym_file.specs.TakenTexts.{IsRunFile, Pairs}
use Rattle.sym_reduce.specs.Reducing.{AreReduced, IsTakenFile}
use Rattle.sym_reduce.specs.Reducing as runs
use Rattle.sym_reduce.specs.Standing.{StandInOrder}
use Rattle.sym_reduce.specs.Standing as stand
use Rattle.sym_reduce.proofs.Once.{totals_once}

module _ (script : List ℕ) (p : ScriptPlan) (formed : IsWellFormed p) where
  -- A file that follows leads the pass over the records before it to that over its own too.
  file_taken : (next : ℕ) (bytes : List ℕ) (saved : Saved) (records before : List Record) → All (IsRecord p) before → IsRunFile script p bytes saved → saved.first ≡ next
      → SavedStandsFor p records saved → IsTakenFile script p next (pass p before) bytes saved (pass p (before ++ records))
  file_taken next bytes saved records before kinds file follows stands =
      let closed = lawful_closed p saved.first saved.next saved.groups file.is.lawful.each in
      let led = taken_records p records saved.groups (pass p before) (initial_valid p formed) (pass_outcomes p before formed kinds) closed stands.groups in
      record { file = file; follows = follows; led = led ∙ ap taking.Done (pass_more p before records) }

  module _ (max_bytes : ℕ) where
    pub one_pass : (next : ℕ) (files : List (List ℕ)) (end : ℕ) (records before : List Record) → All (IsRecord p) before → StandInOrder script p max_bytes next files end records
        → AreReduced script p max_bytes next (pass p before) files end (pass p (before ++ records))
    one_pass _ _ _ _ before kinds (stand.no_file next) =
        let P : List Record → Type 0 = λ rs. AreReduced script p max_bytes next (pass p before) [] next (pass p rs) in
        subst P (sym (append-nil before)) (runs.no_file next (pass p before))
    one_pass _ _ _ _ before kinds (stand.one_more next bytes files saved records end others few file follows stands are rest) =
        let later = one_pass saved.next files end others (before ++ records) (All-append (IsRecord p) before records kinds are) rest in
        let P : List Record → Type 0 = λ rs. AreReduced script p max_bytes next (pass p before) (bytes ∷ files) end (pass p rs) in
        subst P (append_assoc before records others)
        (runs.one_more next (pass p before) bytes files saved (pass p (before ++ records)) end (pass p ((before ++ records) ++ others)) few
        (file_taken next bytes saved records before kinds file follows stands) later)

    pub first_pass : (next : ℕ) (files : List (List ℕ)) (end : ℕ) (records : List Record) → StandInOrder script p max_bytes next files end records
        → AreReduced script p max_bytes next [] files end (pass p records)
    first_pass next files end records is = one_pass next files end records [] (All-nil (IsRecord p)) is

    -- So whatever totals they come to are this pass.
    pub only_pass : max_bytes < 2 ^ 64 → (next : ℕ) (files : List (List ℕ)) (end last : ℕ) (records : List Record) (totals : Pairs) → StandInOrder script p max_bytes next files end records
        → AreReduced script p max_bytes next [] files last totals → totals ≡ pass p records
    only_pass bound next files end last records totals is reduced =
        totals_once script p formed max_bytes bound next [] files last end totals (pass p records) reduced (first_pass next files end records is)
