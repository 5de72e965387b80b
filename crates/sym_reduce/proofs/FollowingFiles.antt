-- Files of saved runs follow each other or have a first problem, one of either, and never both.
use Rattle.std.proofs.Common.{◌≡◌, ◌∙◌, ◌⊎◌, inl, inr, refl, sym, ap, ap₂, subst, ℕ, ◌+◌, ◌≤◌, ◌<◌, ◌^◌, arith, List, [], ◌∷◌, length}
use Rattle.std.proofs.lemmas.Bool.{cases_eq, cases_lt}
use Rattle.sym_check.specs.Plan.ScriptPlans.{ScriptPlan}
use Rattle.sym_check.specs.Plan.WellFormed.{IsWellFormed}
use Rattle.sym_run.specs.declared.saved.Saved.{Saved}
use Rattle.sym_reduce.specs.declared.error.ReduceErr.{ReduceErr}
use Rattle.sym_reduce.specs.declared.error.ReduceErr.TheVariants as reduce_err
use Rattle.sym_reduce.specs.Joining.{AreFollowing, AreRunFiles, Begins, FirstFileProblem, FirstJoinProblem, HasRunFault}
use Rattle.sym_reduce.specs.Joining as joins
use Rattle.sym_file.specs.TakenTexts.{IsRunFile}
use Rattle.sym_reduce.proofs.Found.{Is, is}
use Rattle.sym_reduce.proofs.Found as file
use Rattle.sym_reduce.proofs.Once.{no_other, same, whole}

module _ (script : List ℕ) (p : ScriptPlan) (formed : IsWellFormed p) (max_bytes : ℕ) (bound : max_bytes < 2 ^ 64) where
  short : (bytes : List ℕ) → length bytes ≤ max_bytes → length bytes < 2 ^ 64
  short bytes few = omega arith

  abbrev Own : List ℕ → Saved → Type 0
  Own bytes saved = IsRunFile script p bytes saved

  -- ---- there is one or the other
  abbrev Found : ℕ → ℕ → List (List ℕ) → Type 0
  Found number next files =
      ((runs : List Saved) × (end : ℕ) × AreFollowing script p max_bytes next files runs end)
      ⊎ ((why : ReduceErr) × FirstFileProblem script p max_bytes number next files why)

  module _ (number next : ℕ) (bytes : List ℕ) (files : List (List ℕ)) (size : length bytes ≤ max_bytes) where
    faulty : (why : ReduceErr) → HasRunFault script p next number bytes why → Found number next (bytes ∷ files)
    faulty why h = inr (why, joins.faulty number next bytes files why size h)

    follows : (saved : Saved) → Own bytes saved → saved.first ≡ next → Found (number + 1) saved.next files → Found number next (bytes ∷ files)
    follows saved h first (inl (runs, end, rest)) = inl (saved ∷ runs, end, joins.one_more next bytes files saved runs end size h first rest)
    follows saved h first (inr (why, rest)) = inr (why, joins.later number next bytes files saved why size h first rest)

    by : ((next : ℕ) → Found (number + 1) next files) → Is script p formed bytes (short bytes size) → Found number next (bytes ∷ files)
    by rest (file.other h) = faulty (reduce_err.OtherScript number) (joins.other_script h)
    by rest (file.broken h) = faulty (reduce_err.Malformed number) (joins.malformed h)
    by rest (file.own saved h) = elim (cases_eq saved.first next) [
      | inl first ↦ follows saved h first (rest saved.next)
      | inr apart ↦ faulty (reduce_err.Apart number) (joins.apart saved h apart)
    ]

  found : (files : List (List ℕ)) (number next : ℕ) → Found number next files
  found [] number next = inl ([], next, joins.no_file next)
  found (bytes ∷ files) number next = elim (cases_lt max_bytes (length bytes)) [
    | inl large ↦ inr (reduce_err.TooLarge number, joins.too_large number next bytes files large)
    | inr size ↦ by number next bytes files size (λ n. found files (number + 1) n) (is script p formed bytes (short bytes size))
  ]

  -- The number at which the first file begins.
  pub first_at : (files : List (List ℕ)) → (first : ℕ) × Begins script p max_bytes files first
  first_at [] = (0, tt)
  first_at (bytes ∷ files) = elim (cases_lt max_bytes (length bytes)) [
    | inl large ↦ (0, λ saved few h. absurd (omega (arith, large, few)))
    | inr size ↦ begins size (is script p formed bytes (short bytes size))
  ]
    where
      begins : (size : length bytes ≤ max_bytes) → Is script p formed bytes (short bytes size) → (first : ℕ) × Begins script p max_bytes (bytes ∷ files) first
      begins size (file.other h) = (0, λ saved few own. absurd (no_other script p formed bytes (short bytes size) saved own h))
      begins size (file.broken h) = (0, λ saved few own. absurd (whole script p formed bytes (short bytes size) saved own h))
      begins size (file.own one h) = (one.first, λ saved few own. ap (λ (s : Saved). s.first) (same script p formed bytes (short bytes size) saved one own h))

  pub files_follow : (files : List (List ℕ)) → ((runs : List Saved) × AreRunFiles script p max_bytes files runs) ⊎ ((why : ReduceErr) × FirstJoinProblem script p max_bytes files why)
  files_follow files =
      let at = first_at files in
      elim (found files 0 at.0) [
        | inl f ↦ inl (f.0, record { first = at.0; end = f.1; follow = f.2 })
        | inr f ↦ inr (f.0, record { first = at.0; begins = at.1; problem = f.1 })
      ]

  -- ---- there is one of them
  Follow : ℕ → List (List ℕ) → List Saved → ℕ → Type 0
  Follow next [] runs end = runs ≡ []
  Follow next (bytes ∷ files) runs end =
      (saved : Saved) × (rest : List Saved) × (runs ≡ saved ∷ rest) × (length bytes ≤ max_bytes) × Own bytes saved × (saved.first ≡ next)
      × AreFollowing script p max_bytes saved.next files rest end

  follow : (next : ℕ) (files : List (List ℕ)) (runs : List Saved) (end : ℕ) → AreFollowing script p max_bytes next files runs end → Follow next files runs end
  unfolding Follow
  follow _ _ _ _ (joins.no_file next) = refl
  follow _ _ _ _ (joins.one_more next bytes files saved runs end few h first rest) = (saved, runs, refl, few, h, first, rest)

  runs_by : (files : List (List ℕ)) (next other : ℕ) (runs others : List Saved) (end last : ℕ) → Follow next files runs end → Follow other files others last → runs ≡ others
  unfolding Follow
  runs_by [] next other runs others end last a b = a ∙ sym b
  runs_by (bytes ∷ files) next other runs others end last a b =
      let one : a.0 ≡ b.0 = same script p formed bytes (short bytes a.3) a.0 b.0 a.4 b.4 in
      let rest = runs_by files a.0.next b.0.next a.1 b.1 end last (follow a.0.next files a.1 end a.6) (follow b.0.next files b.1 last b.6) in
      a.2 ∙ ap₂ (λ (s : Saved) (ss : List Saved). s ∷ ss) one rest ∙ sym b.2

  pub runs_once : (files : List (List ℕ)) (runs others : List Saved) → AreRunFiles script p max_bytes files runs → AreRunFiles script p max_bytes files others → runs ≡ others
  runs_once files runs others a b =
      runs_by files a.first b.first runs others a.end b.end (follow a.first files runs a.end a.follow) (follow b.first files others b.end b.follow)

  Fails : ℕ → ℕ → List (List ℕ) → ReduceErr → Type 0
  Fails number next [] why = ⊥
  Fails number next (bytes ∷ files) why =
      ((max_bytes < length bytes) × (why ≡ reduce_err.TooLarge number))
      ⊎ (((length bytes ≤ max_bytes) × HasRunFault script p next number bytes why)
      ⊎ ((saved : Saved) × (length bytes ≤ max_bytes) × Own bytes saved × (saved.first ≡ next) × FirstFileProblem script p max_bytes (number + 1) saved.next files why))

  fails : (number next : ℕ) (files : List (List ℕ)) (why : ReduceErr) → FirstFileProblem script p max_bytes number next files why → Fails number next files why
  unfolding Fails
  fails _ _ _ _ (joins.too_large number next bytes files large) = inl (large, refl)
  fails _ _ _ _ (joins.faulty number next bytes files why size h) = inr (inl (size, h))
  fails _ _ _ _ (joins.later number next bytes files saved why size h first rest) = inr (inr (saved, size, h, first, rest))

  -- ---- one file
  module _ (number next : ℕ) (bytes : List ℕ) (few : length bytes < 2 ^ 64) where
    fault_once : (why other : ReduceErr) → HasRunFault script p next number bytes why → HasRunFault script p next number bytes other → why ≡ other
    fault_once _ _ (joins.other_script h) (joins.other_script k) = refl
    fault_once _ _ (joins.other_script h) (joins.malformed none) = absurd (none.same h)
    fault_once _ _ (joins.other_script h) (joins.apart saved own apart) = absurd (no_other script p formed bytes few saved own h)
    fault_once _ _ (joins.malformed none) (joins.other_script k) = absurd (none.same k)
    fault_once _ _ (joins.malformed none) (joins.malformed k) = refl
    fault_once _ _ (joins.malformed none) (joins.apart saved own apart) = absurd (whole script p formed bytes few saved own none)
    fault_once _ _ (joins.apart saved own apart) (joins.other_script k) = absurd (no_other script p formed bytes few saved own k)
    fault_once _ _ (joins.apart saved own apart) (joins.malformed none) = absurd (whole script p formed bytes few saved own none)
    fault_once _ _ (joins.apart saved own apart) (joins.apart other also not) = refl

    -- A file that follows has no fault.
    no_fault : (saved : Saved) (why : ReduceErr) → Own bytes saved → saved.first ≡ next → HasRunFault script p next number bytes why → ⊥
    no_fault saved _ own first (joins.other_script h) = no_other script p formed bytes few saved own h
    no_fault saved _ own first (joins.malformed none) = whole script p formed bytes few saved own none
    no_fault saved _ own first (joins.apart other also apart) = apart (ap (λ (s : Saved). s.first) (same script p formed bytes few other saved also own) ∙ first)

  problem_by : (files : List (List ℕ)) (number next : ℕ) (why other : ReduceErr) → Fails number next files why → Fails number next files other → why ≡ other
  unfolding Fails
  problem_by [] number next why other a b = absurd a
  problem_by (bytes ∷ files) number next why other (inl a) (inl b) = a.1 ∙ sym b.1
  problem_by (bytes ∷ files) number next why other (inl a) (inr (inl b)) = absurd (omega (arith, a.0, b.0))
  problem_by (bytes ∷ files) number next why other (inl a) (inr (inr b)) = absurd (omega (arith, a.0, b.1))
  problem_by (bytes ∷ files) number next why other (inr (inl a)) (inl b) = absurd (omega (arith, a.0, b.0))
  problem_by (bytes ∷ files) number next why other (inr (inr a)) (inl b) = absurd (omega (arith, a.1, b.0))
  problem_by (bytes ∷ files) number next why other (inr (inl a)) (inr (inl b)) = fault_once number next bytes (short bytes a.0) why other a.1 b.1
  problem_by (bytes ∷ files) number next why other (inr (inl a)) (inr (inr b)) = absurd (no_fault number next bytes (short bytes a.0) b.0 why b.2 b.3 a.1)
  problem_by (bytes ∷ files) number next why other (inr (inr a)) (inr (inl b)) = absurd (no_fault number next bytes (short bytes b.0) a.0 other a.2 a.3 b.1)
  problem_by (bytes ∷ files) number next why other (inr (inr a)) (inr (inr b)) =
      let one : b.0 ≡ a.0 = same script p formed bytes (short bytes a.1) b.0 a.0 b.2 a.2 in
      problem_by files (number + 1) a.0.next why other (fails (number + 1) a.0.next files why a.4)
      (subst (λ (s : Saved). Fails (number + 1) s.next files other) one (fails (number + 1) b.0.next files other b.4))

  -- Where the first file is that of no saved run, it doesn't matter where it should begin.
  anywhere : (bytes : List ℕ) (files : List (List ℕ)) (number next other : ℕ) (why : ReduceErr) → ((saved : Saved) → length bytes ≤ max_bytes → Own bytes saved → ⊥)
      → Fails number next (bytes ∷ files) why → Fails number other (bytes ∷ files) why
  unfolding Fails
  anywhere bytes files number next other _ none (inl a) = inl a
  anywhere bytes files number next other _ none (inr (inl (size, joins.other_script h))) = inr (inl (size, joins.other_script h))
  anywhere bytes files number next other _ none (inr (inl (size, joins.malformed h))) = inr (inl (size, joins.malformed h))
  anywhere bytes files number next other _ none (inr (inl (size, joins.apart saved own apart))) = absurd (none saved size own)
  anywhere bytes files number next other _ none (inr (inr (saved, size, own, first, rest))) = absurd (none saved size own)

  once_from : (files : List (List ℕ)) (next other : ℕ) (why also : ReduceErr) → Begins script p max_bytes files next → Begins script p max_bytes files other
      → Fails 0 next files why → Fails 0 other files also → why ≡ also
  unfolding Fails
  once_from [] next other why also here there a b = absurd a
  once_from (bytes ∷ files) next other why also here there a b = elim (cases_lt max_bytes (length bytes)) [
    | inl large ↦ problem_by (bytes ∷ files) 0 next why also a (anywhere bytes files 0 other next also (λ saved few own. omega (arith, large, few)) b)
    | inr size ↦ from size (is script p formed bytes (short bytes size))
  ]
    where
      from : (size : length bytes ≤ max_bytes) → Is script p formed bytes (short bytes size) → why ≡ also
      from size (file.other h) = problem_by (bytes ∷ files) 0 next why also a (anywhere bytes files 0 other next also (λ saved few own. no_other script p formed bytes (short bytes size) saved own h) b)
      from size (file.broken h) = problem_by (bytes ∷ files) 0 next why also a (anywhere bytes files 0 other next also (λ saved few own. whole script p formed bytes (short bytes size) saved own h) b)
      from size (file.own saved h) =
          let one : other ≡ next = sym (there saved size h) ∙ here saved size h in
          problem_by (bytes ∷ files) 0 next why also a (subst (λ (n : ℕ). Fails 0 n (bytes ∷ files) also) one b)

  pub problem_once : (files : List (List ℕ)) (why other : ReduceErr) → FirstJoinProblem script p max_bytes files why → FirstJoinProblem script p max_bytes files other → why ≡ other
  problem_once files why other a b = once_from files a.first b.first why other a.begins b.begins (fails 0 a.first files why a.problem) (fails 0 b.first files other b.problem)

  -- ---- and never both
  never_by : (files : List (List ℕ)) (number next : ℕ) (runs : List Saved) (end : ℕ) (why : ReduceErr) → Follow next files runs end → Fails number next files why → ⊥
  unfolding Follow Fails
  never_by [] number next runs end why a b = b
  never_by (bytes ∷ files) number next runs end why a (inl b) = omega (arith, a.3, b.0)
  never_by (bytes ∷ files) number next runs end why a (inr (inl b)) = no_fault number next bytes (short bytes b.0) a.0 why a.4 a.5 b.1
  never_by (bytes ∷ files) number next runs end why a (inr (inr b)) =
      let one : b.0 ≡ a.0 = same script p formed bytes (short bytes a.3) b.0 a.0 b.2 a.4 in
      never_by files (number + 1) a.0.next a.1 end why (follow a.0.next files a.1 end a.6)
      (subst (λ (s : Saved). Fails (number + 1) s.next files why) one (fails (number + 1) b.0.next files why b.4))

  never_from : (files : List (List ℕ)) (next other : ℕ) (runs : List Saved) (end : ℕ) (why : ReduceErr) → Begins script p max_bytes files other → Follow next files runs end → Fails 0 other files why → ⊥
  unfolding Follow Fails
  never_from [] next other runs end why begins a b = b
  never_from (bytes ∷ files) next other runs end why begins a b =
      let one : other ≡ next = sym (begins a.0 a.3 a.4) ∙ a.5 in
      never_by (bytes ∷ files) 0 next runs end why a (subst (λ (n : ℕ). Fails 0 n (bytes ∷ files) why) one b)

  pub no_join_problem : (files : List (List ℕ)) (runs : List Saved) (why : ReduceErr) → AreRunFiles script p max_bytes files runs → FirstJoinProblem script p max_bytes files why → ⊥
  no_join_problem files runs why a b =
      never_from files a.first b.first runs a.end why b.begins (follow a.first files runs a.end a.follow) (fails 0 b.first files why b.problem)
