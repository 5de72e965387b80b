-- Files have totals or a first problem.
use Rattle.std.proofs.Common.{◌≡◌, ◌⊎◌, inl, inr, refl, ℕ, ◌+◌, ◌≤◌, ◌<◌, ◌^◌, arith, List, [], ◌∷◌, length, Option, Some, None}
use Rattle.std.specs.Cmp.Lexicographic.{bytes_decides, pointwise}
use Rattle.std.specs.Prelude.{◌==◌}
use Rattle.std.proofs.lemmas.Bool.{cases_eq, cases_lt}
use Rattle.sym_check.specs.Plan.ScriptPlans.{ScriptPlan}
use Rattle.sym_check.specs.Plan.WellFormed.{IsWellFormed}
use Rattle.sym_run.specs.declared.saved.Saved.{Saved}
use Rattle.sym_file.specs.Reading.{body_at, script_at}
use Rattle.sym_file.specs.SavedTexts.{IsMalformed, IsOfOtherScript}
use Rattle.sym_file.specs.Totals.{taken}
use Rattle.sym_file.specs.declared.totals.Taken.{Taken}
use Rattle.sym_file.specs.declared.totals.Taken.TheVariants as taking
use Rattle.sym_file.proofs.Read.{lawful_one, no_body, no_script, other_script, stored_one, unlawful}
use Rattle.sym_reduce.specs.declared.error.ReduceErr.{ReduceErr}
use Rattle.sym_reduce.specs.declared.error.ReduceErr.TheVariants as reduce_err
use Rattle.sym_file.specs.TakenTexts.{IsRunFile, Pairs}
use Rattle.sym_reduce.specs.Reducing.{AreReduced, FirstRunProblem, HasFault, IsTakenFile}
use Rattle.sym_reduce.specs.Reducing as runs
use Rattle.sym_reduce.proofs.Decisions.{by_test}
use Rattle.sym_reduce.proofs.LawfulFound.{lawful_found}

module _ (script : List ℕ) (p : ScriptPlan) (formed : IsWellFormed p) where
  module _ (bytes : List ℕ) (few : length bytes < 2 ^ 64) where
    -- What a file is: of another script, of no saved run, or of this one.
    pub data Is : Type 0 where
      other : IsOfOtherScript script bytes → Is
      broken : IsMalformed script p bytes → Is
      own : (saved : Saved) → IsRunFile script p bytes saved → Is

    module _ (found rest : List ℕ) (at : script_at bytes ≡ Some (found, rest)) (same : found ≡ script) where
      of_body : (o : Option Saved) → body_at p rest ≡ o → Is
      of_body None e = broken (no_body script p formed bytes few found rest at same e)
      of_body (Some saved) e = elim (lawful_found p saved) [
        | inl lawful ↦
            own saved
            (record { is = lawful_one script p formed bytes few found rest at saved same e lawful; stored = stored_one script p formed bytes few found rest at saved e })
        | inr none ↦ broken (unlawful script p formed bytes few found rest at saved same e none)
      ]

    of_script : (o : Option (List ℕ × List ℕ)) → script_at bytes ≡ o → Is
    of_script None e = broken (no_script script p formed bytes few e)
    of_script (Some (found, rest)) e = elim (by_test (pointwise (◌==◌) found script) (bytes_decides found script)) [
      | inl same ↦ of_body found rest e same (body_at p rest) refl
      | inr apart ↦ other (other_script script p formed bytes few found rest e apart)
    ]

    pub is : Is
    is = of_script (script_at bytes) refl

  -- The file is taken, or it has a fault.
  abbrev Ends : ℕ → ℕ → Pairs → List ℕ → Type 0
  Ends next file totals bytes =
      ((saved : Saved) × (more : Pairs) × IsTakenFile script p next totals bytes saved more)
      ⊎ ((why : ReduceErr) × HasFault script p next file totals bytes why)

  module _ (next file : ℕ) (totals : Pairs) (bytes : List ℕ) where
    led : (saved : Saved) → IsRunFile script p bytes saved → saved.first ≡ next → (t : Taken) → taken p 0 saved.groups totals ≡ t → Ends next file totals bytes
    led saved is follows (taking.Done more) e = inl (saved, more, record { file = is; follows = follows; led = e })
    led saved is follows (taking.Gap group) e = inr (reduce_err.Gap file (group + 1), runs.gap saved group is follows e)

    follows : (saved : Saved) → IsRunFile script p bytes saved → Ends next file totals bytes
    follows saved is = elim (cases_eq saved.first next) [
      | inl e ↦ led saved is e (taken p 0 saved.groups totals) refl
      | inr apart ↦ inr (reduce_err.Apart file, runs.apart saved is apart)
    ]

    ends : (few : length bytes < 2 ^ 64) → Is bytes few → Ends next file totals bytes
    ends few (other h) = inr (reduce_err.OtherScript file, runs.other_script h)
    ends few (broken h) = inr (reduce_err.Malformed file, runs.malformed h)
    ends few (own saved h) = follows saved h

  module _ (max_bytes : ℕ) (bound : max_bytes < 2 ^ 64) where
    -- Files have totals, or a first problem.
    abbrev Found : ℕ → ℕ → Pairs → List (List ℕ) → Type 0
    Found file next totals files =
        ((end : ℕ) × (all : Pairs) × AreReduced script p max_bytes next totals files end all)
        ⊎ ((why : ReduceErr) × FirstRunProblem script p max_bytes file next totals files why)

    module _ (file next : ℕ) (totals : Pairs) (bytes : List ℕ) (files : List (List ℕ)) (size : length bytes ≤ max_bytes) where
      taken_first : (saved : Saved) (more : Pairs) → IsTakenFile script p next totals bytes saved more → Found (file + 1) saved.next more files → Found file next totals (bytes ∷ files)
      taken_first saved more h (inl (end, all, rest)) = inl (end, all, runs.one_more next totals bytes files saved more end all size h rest)
      taken_first saved more h (inr (why, rest)) = inr (why, runs.later file next totals bytes files saved more why size h rest)

      faulty_first : (why : ReduceErr) → HasFault script p next file totals bytes why → Found file next totals (bytes ∷ files)
      faulty_first why h = inr (why, runs.here file next totals bytes files why (runs.faulty why size h))

    pub found : (file next : ℕ) (totals : Pairs) (files : List (List ℕ)) → Found file next totals files
    found file next totals [] = inl (next, totals, runs.no_file next totals)
    found file next totals (bytes ∷ files) = elim (cases_lt max_bytes (length bytes)) [
      | inl large ↦ inr (reduce_err.TooLarge file, runs.here file next totals bytes files (reduce_err.TooLarge file) (runs.too_large large))
      | inr size ↦ elim (ends next file totals bytes (omega arith) (is bytes (omega arith))) [
        | inl t ↦ taken_first file next totals bytes files size t.0 t.1 t.2 (found (file + 1) t.0.next t.1 files)
        | inr f ↦ faulty_first file next totals bytes files size f.0 f.1
      ]
    ]
