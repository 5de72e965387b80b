-- Files have one end: their totals or their first problem, and never two.
use Rattle.std.proofs.Common.{◌≡◌, ◌∙◌, ◌⊎◌, inl, inr, refl, sym, ap, subst, ℕ, ◌+◌, ◌≤◌, ◌<◌, ◌^◌, arith, List, [], ◌∷◌, length}
use Rattle.sym_check.specs.Plan.ScriptPlans.{ScriptPlan}
use Rattle.sym_check.specs.Plan.WellFormed.{IsWellFormed}
use Rattle.sym_run.specs.declared.saved.Saved.{Saved}
use Rattle.sym_file.specs.SavedTexts.{IsMalformed, IsOfOtherScript}
use Rattle.sym_file.specs.Totals.{taken}
use Rattle.sym_file.specs.declared.totals.Taken.TheVariants as taking
use Rattle.sym_file.proofs.Read.{one_saved, one_script}
use Rattle.sym_reduce.specs.declared.error.ReduceErr.{ReduceErr}
use Rattle.sym_reduce.specs.declared.error.ReduceErr.TheVariants as reduce_err
use Rattle.sym_file.specs.TakenTexts.{IsRunFile, Pairs}
use Rattle.sym_reduce.specs.Reducing.{AreReduced, FirstRunProblem, HasFault, HasRunProblem, IsTakenFile}
use Rattle.sym_reduce.specs.Reducing as runs

module _ (script : List ℕ) (p : ScriptPlan) (formed : IsWellFormed p) where
  -- ---- one file
  module _ (bytes : List ℕ) (few : length bytes < 2 ^ 64) where
    pub same : (first second : Saved) → IsRunFile script p bytes first → IsRunFile script p bytes second → first ≡ second
    same first second a b = one_saved script p formed bytes few first second a.is a.stored b.is b.stored

    pub no_other : (saved : Saved) → IsRunFile script p bytes saved → IsOfOtherScript script bytes → ⊥
    no_other saved is other = one_script bytes few script p saved is.is other

    pub whole : (saved : Saved) → IsRunFile script p bytes saved → IsMalformed script p bytes → ⊥
    whole saved is malformed = malformed.none saved is.stored is.is

    module _ (next file : ℕ) (totals : Pairs) where
      other_once : (why : ReduceErr) → IsOfOtherScript script bytes → HasFault script p next file totals bytes why → reduce_err.OtherScript file ≡ why
      other_once _ is (runs.other_script other) = refl
      other_once _ is (runs.malformed none) = absurd (none.same is)
      other_once _ is (runs.apart saved found apart) = absurd (no_other saved found is)
      other_once _ is (runs.gap saved group found follows led) = absurd (no_other saved found is)

      malformed_once : (why : ReduceErr) → IsMalformed script p bytes → HasFault script p next file totals bytes why → reduce_err.Malformed file ≡ why
      malformed_once _ is (runs.other_script other) = absurd (is.same other)
      malformed_once _ is (runs.malformed none) = refl
      malformed_once _ is (runs.apart saved found apart) = absurd (whole saved found is)
      malformed_once _ is (runs.gap saved group found follows led) = absurd (whole saved found is)

      apart_once : (own : Saved) (why : ReduceErr) → IsRunFile script p bytes own → (own.first ≡ next → ⊥) → HasFault script p next file totals bytes why → reduce_err.Apart file ≡ why
      apart_once own _ is not (runs.other_script other) = absurd (no_other own is other)
      apart_once own _ is not (runs.malformed none) = absurd (whole own is none)
      apart_once own _ is not (runs.apart saved found apart) = refl
      apart_once own _ is not (runs.gap saved group found follows led) = absurd (not (ap (λ (s : Saved). s.first) (same own saved is found) ∙ follows))

      gap_once : (own : Saved) (lost : ℕ) (why : ReduceErr) → IsRunFile script p bytes own → own.first ≡ next → taken p 0 own.groups totals ≡ taking.Gap lost
          → HasFault script p next file totals bytes why → reduce_err.Gap file (lost + 1) ≡ why
      gap_once own lost _ is after none (runs.other_script other) = absurd (no_other own is other)
      gap_once own lost _ is after none (runs.malformed broken) = absurd (whole own is broken)
      gap_once own lost _ is after none (runs.apart saved found apart) = absurd (apart (ap (λ (s : Saved). s.first) (same saved own found is) ∙ after))
      gap_once own lost _ is after none (runs.gap saved group found follows led) =
          let both : taking.Gap lost ≡ taking.Gap group = sym none ∙ ap (λ (s : Saved). taken p 0 s.groups totals) (same own saved is found) ∙ led in
          let one : lost ≡ group = cc in
          ap (λ (g : ℕ). reduce_err.Gap file (g + 1)) one

      fault_once : (why other : ReduceErr) → HasFault script p next file totals bytes why → HasFault script p next file totals bytes other → why ≡ other
      fault_once _ other (runs.other_script is) h = other_once other is h
      fault_once _ other (runs.malformed is) h = malformed_once other is h
      fault_once _ other (runs.apart saved is not) h = apart_once saved other is not h
      fault_once _ other (runs.gap saved group is after none) h = gap_once saved group other is after none h

      -- A file that is taken has no runs.
      no_fault : (saved : Saved) (more : Pairs) (why : ReduceErr) → IsTakenFile script p next totals bytes saved more → HasFault script p next file totals bytes why → ⊥
      no_fault saved more _ is (runs.other_script other) = no_other saved is.file other
      no_fault saved more _ is (runs.malformed none) = whole saved is.file none
      no_fault saved more _ is (runs.apart own found apart) = apart (ap (λ (s : Saved). s.first) (same own saved found is.file) ∙ is.follows)
      no_fault saved more _ is (runs.gap own group found follows led) =
          let both : taking.Done more ≡ taking.Gap group = sym is.led ∙ ap (λ (s : Saved). taken p 0 s.groups totals) (same saved own is.file found) ∙ led in cc

      -- It is taken to one end.
      taken_once : (saved own : Saved) (more all : Pairs) → IsTakenFile script p next totals bytes saved more → IsTakenFile script p next totals bytes own all → more ≡ all
      taken_once saved own more all a b =
          let both : taking.Done more ≡ taking.Done all = sym a.led ∙ ap (λ (s : Saved). taken p 0 s.groups totals) (same saved own a.file b.file) ∙ b.led in cc

  -- ---- files in order
  module _ (max_bytes : ℕ) (bound : max_bytes < 2 ^ 64) where
    short : (bytes : List ℕ) → length bytes ≤ max_bytes → length bytes < 2 ^ 64
    short bytes few = omega arith

    -- A first file that is taken, and what is so of the files after it.
    record Goes (next : ℕ) (totals : Pairs) (bytes : List ℕ) (Rest : ℕ → Pairs → Type 0) : Type 0 where
      saved : Saved
      more : Pairs
      few : length bytes ≤ max_bytes
      is : IsTakenFile script p next totals bytes saved more
      rest : Rest saved.next more

    Reduces : ℕ → Pairs → List (List ℕ) → ℕ → Pairs → Type 0
    Reduces next totals [] end all = totals ≡ all
    Reduces next totals (bytes ∷ files) end all = Goes next totals bytes (λ after more. AreReduced script p max_bytes after more files end all)

    reduces : (next : ℕ) (totals : Pairs) (files : List (List ℕ)) (end : ℕ) (all : Pairs) → AreReduced script p max_bytes next totals files end all → Reduces next totals files end all
    unfolding Reduces
    reduces _ _ _ _ _ (runs.no_file next totals) = refl
    reduces _ _ _ _ _ (runs.one_more next totals bytes files saved led end all few is rest) = record { saved = saved; more = led; few = few; is = is; rest = rest }

    Fails : ℕ → ℕ → Pairs → List (List ℕ) → ReduceErr → Type 0
    Fails file next totals [] why = ⊥
    Fails file next totals (bytes ∷ files) why =
        HasRunProblem script p max_bytes next file totals bytes why
        ⊎ Goes next totals bytes (λ after more. FirstRunProblem script p max_bytes (file + 1) after more files why)

    fails : (file next : ℕ) (totals : Pairs) (files : List (List ℕ)) (why : ReduceErr) → FirstRunProblem script p max_bytes file next totals files why → Fails file next totals files why
    unfolding Fails
    fails _ _ _ _ _ (runs.here file next totals bytes files why found) = inl found
    fails _ _ _ _ _ (runs.later file next totals bytes files saved led why few is rest) = inr (record { saved = saved; more = led; few = few; is = is; rest = rest })

    -- What is so after one taken file is so after the other.
    along : (next : ℕ) (totals : Pairs) (bytes : List ℕ) (Here There : ℕ → Pairs → Type 0) (a : Goes next totals bytes Here) (b : Goes next totals bytes There) → There a.saved.next a.more
    along next totals bytes Here There a b =
        let one : a.saved ≡ b.saved = same bytes (short bytes a.few) a.saved b.saved a.is.file b.is.file in
        let to : a.more ≡ b.more = taken_once bytes (short bytes a.few) next 0 totals a.saved b.saved a.more b.more a.is b.is in
        subst (λ (ts : Pairs). There a.saved.next ts) (sym to) (subst (λ (s : Saved). There s.next b.more) (sym one) b.rest)

    totals_by : (files : List (List ℕ)) (next : ℕ) (totals : Pairs) (end last : ℕ) (all more : Pairs) → Reduces next totals files end all → Reduces next totals files last more → all ≡ more
    unfolding Reduces
    totals_by [] next totals end last all more a b = sym a ∙ b
    totals_by (bytes ∷ files) next totals end last all more a b =
        totals_by files a.saved.next a.more end last all more (reduces a.saved.next a.more files end all a.rest)
        (reduces a.saved.next a.more files last more
        (along next totals bytes (λ after ts. AreReduced script p max_bytes after ts files end all) (λ after ts. AreReduced script p max_bytes after ts files last more) a b))

    pub totals_once : (next : ℕ) (totals : Pairs) (files : List (List ℕ)) (end last : ℕ) (all more : Pairs)
        → AreReduced script p max_bytes next totals files end all → AreReduced script p max_bytes next totals files last more → all ≡ more
    totals_once next totals files end last all more a b = totals_by files next totals end last all more (reduces next totals files end all a) (reduces next totals files last more b)

    -- What both come to ends with one number.
    Ends : ℕ → Pairs → List (List ℕ) → ℕ → Pairs → Type 0
    Ends next totals [] end all = next ≡ end
    Ends next totals (bytes ∷ files) end all = Goes next totals bytes (λ after more. AreReduced script p max_bytes after more files end all)

    ends : (next : ℕ) (totals : Pairs) (files : List (List ℕ)) (end : ℕ) (all : Pairs) → AreReduced script p max_bytes next totals files end all → Ends next totals files end all
    unfolding Ends
    ends _ _ _ _ _ (runs.no_file next totals) = refl
    ends _ _ _ _ _ (runs.one_more next totals bytes files saved led end all few is rest) = record { saved = saved; more = led; few = few; is = is; rest = rest }

    ends_by : (files : List (List ℕ)) (next : ℕ) (totals : Pairs) (end last : ℕ) (all more : Pairs) → Ends next totals files end all → Ends next totals files last more → end ≡ last
    unfolding Ends
    ends_by [] next totals end last all more a b = sym a ∙ b
    ends_by (bytes ∷ files) next totals end last all more a b =
        ends_by files a.saved.next a.more end last all more (ends a.saved.next a.more files end all a.rest)
        (ends a.saved.next a.more files last more
        (along next totals bytes (λ after ts. AreReduced script p max_bytes after ts files end all) (λ after ts. AreReduced script p max_bytes after ts files last more) a b))

    pub ends_once : (next : ℕ) (totals : Pairs) (files : List (List ℕ)) (end last : ℕ) (all more : Pairs)
        → AreReduced script p max_bytes next totals files end all → AreReduced script p max_bytes next totals files last more → end ≡ last
    ends_once next totals files end last all more a b = ends_by files next totals end last all more (ends next totals files end all a) (ends next totals files last more b)

    no_end : (file next : ℕ) (totals : Pairs) (bytes : List ℕ) (saved : Saved) (more : Pairs) (why : ReduceErr) → length bytes ≤ max_bytes
        → IsTakenFile script p next totals bytes saved more → HasRunProblem script p max_bytes next file totals bytes why → ⊥
    no_end file next totals bytes saved more _ few is (runs.too_large large) = omega arith
    no_end file next totals bytes saved more _ few is (runs.faulty w size found) = no_fault bytes (short bytes few) next file totals saved more w is found

    never_both : (files : List (List ℕ)) (file next : ℕ) (totals : Pairs) (end : ℕ) (all : Pairs) (why : ReduceErr) → Reduces next totals files end all → Fails file next totals files why → ⊥
    unfolding Reduces Fails
    never_both [] file next totals end all why a b = b
    never_both (bytes ∷ files) file next totals end all why a (inl found) = no_end file next totals bytes a.saved a.more why a.few a.is found
    never_both (bytes ∷ files) file next totals end all why a (inr b) =
        never_both files (file + 1) a.saved.next a.more end all why (reduces a.saved.next a.more files end all a.rest)
        (fails (file + 1) a.saved.next a.more files why
        (along next totals bytes (λ after ts. AreReduced script p max_bytes after ts files end all) (λ after ts. FirstRunProblem script p max_bytes (file + 1) after ts files why) a b))

    pub no_problem : (file next : ℕ) (totals : Pairs) (files : List (List ℕ)) (end : ℕ) (all : Pairs) (why : ReduceErr)
        → AreReduced script p max_bytes next totals files end all → FirstRunProblem script p max_bytes file next totals files why → ⊥
    no_problem file next totals files end all why a b = never_both files file next totals end all why (reduces next totals files end all a) (fails file next totals files why b)

    problem_once : (file next : ℕ) (totals : Pairs) (bytes : List ℕ) (why other : ReduceErr)
        → HasRunProblem script p max_bytes next file totals bytes why → HasRunProblem script p max_bytes next file totals bytes other → why ≡ other
    problem_once file next totals bytes _ _ (runs.too_large a) (runs.too_large b) = refl
    problem_once file next totals bytes _ _ (runs.too_large a) (runs.faulty w size found) = absurd (omega arith)
    problem_once file next totals bytes _ _ (runs.faulty v few is) (runs.too_large b) = absurd (omega arith)
    problem_once file next totals bytes _ _ (runs.faulty v few is) (runs.faulty w size found) = fault_once bytes (short bytes few) next file totals v w is found

    first_by : (files : List (List ℕ)) (file next : ℕ) (totals : Pairs) (why other : ReduceErr) → Fails file next totals files why → Fails file next totals files other → why ≡ other
    unfolding Fails
    first_by [] file next totals why other a b = absurd a
    first_by (bytes ∷ files) file next totals why other (inl a) (inl b) = problem_once file next totals bytes why other a b
    first_by (bytes ∷ files) file next totals why other (inl a) (inr b) = absurd (no_end file next totals bytes b.saved b.more why b.few b.is a)
    first_by (bytes ∷ files) file next totals why other (inr a) (inl b) = absurd (no_end file next totals bytes a.saved a.more other a.few a.is b)
    first_by (bytes ∷ files) file next totals why other (inr a) (inr b) =
        first_by files (file + 1) a.saved.next a.more why other (fails (file + 1) a.saved.next a.more files why a.rest)
        (fails (file + 1) a.saved.next a.more files other
        (along next totals bytes (λ after ts. FirstRunProblem script p max_bytes (file + 1) after ts files why) (λ after ts. FirstRunProblem script p max_bytes (file + 1) after ts files other) a b))

    pub first_once : (file next : ℕ) (totals : Pairs) (files : List (List ℕ)) (why other : ReduceErr)
        → FirstRunProblem script p max_bytes file next totals files why → FirstRunProblem script p max_bytes file next totals files other → why ≡ other
    first_once file next totals files why other a b = first_by files file next totals why other (fails file next totals files why a) (fails file next totals files other b)
