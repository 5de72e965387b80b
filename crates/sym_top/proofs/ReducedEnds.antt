-- A report on saved runs has an end, and one alone.
use Rattle.std.proofs.Common.{◌≡◌, ◌∙◌, ◌⊎◌, inl, inr, refl, sym, ap, subst, ℕ, ◌<◌, ◌^◌, arith, List, [], Some, None, Result, Ok, Err}
use Rattle.sym_check.specs.Plan.ScriptPlans.{ScriptPlan}
use Rattle.sym_check.specs.Plan.WellFormed.{IsWellFormed}
use Rattle.sym_check.proofs.AcceptedPlans.{accepted_well}
use Rattle.sym_files.specs.declared.error.PassErr.{PassErr}
use Rattle.sym_files.specs.FileRecords.{FileRules}
use Rattle.sym_files.specs.FirstProblems.{FirstProblem}
use Rattle.sym_files.specs.FirstProblems as first
use Rattle.sym_parse.specs.Printed.{script_text}
use Rattle.sym_parse.proofs.Answering.{text-lawful}
use Rattle.sym_reduce.specs.declared.error.ReduceErr.{ReduceErr}
use Rattle.sym_file.specs.TakenTexts.{Pairs}
use Rattle.sym_reduce.specs.Reducing.{AreReduced, FirstRunProblem}
use Rattle.sym_reduce.proofs.Found.{found as files_found}
use Rattle.sym_reduce.proofs.Once.{first_once, no_problem, totals_once}
use Rattle.sym_command.specs.Commands.{Asked, Command, Joins, ReadsRecords, Reduce, Reduces, command_of, file_rules, first_no, texts_of}
use Rattle.sym_command.proofs.Bounds.{asked_few}
use Rattle.sym_message.specs.declared.refusal.Refusal.{Refusal}
use Rattle.sym_top.specs.Ends.{End, Refused, Held, IsEnd, usage, no_program, problem, finished, run_problem, reduced, join_problem, runs_joined, files_of, groups_end, script_of}
use Rattle.sym_top.specs.Programs.{Program, IsProgram, program_in}
use Rattle.sym_top.specs.RunFileRefusals.{reduce_refusal}
use Rattle.sym_top.proofs.ProgramsFound.{program-found, none-found, Reading, reading}

pub program-formed : (text : List ℕ) (program : Program) → IsProgram text program → IsWellFormed program.plan
program-formed text program is = accepted_well program.tree program.plan (text-lawful text program.tree is.script) is.accepted

pub no_first : (p : ScriptPlan) (rules : FileRules) (file from : ℕ) (files : List (List ℕ)) (why : PassErr) → files ≡ [] → FirstProblem p rules file from files why → ⊥
no_first p rules _ _ _ _ none (first.here file from bytes files why is) = cc
no_first p rules _ _ _ _ none (first.later file from bytes files records why fine is) = cc

module _ (asked : Asked) (held : Held) (reduce : Reduce) (is : command_of asked ≡ Some (Reduces reduce)) where
  -- How it ends, by the program of its script.
  Ends : Result Program Refusal → End → Type 0
  Ends (Err why) end = end ≡ Refused why
  Ends (Ok program) end =
      ((why : ReduceErr) × FirstRunProblem (script_text program.tree) program.plan reduce.max_bytes 0 1 [] held.files why × (end ≡ Refused (reduce_refusal why)))
      ⊎ ((stop : ℕ) × (totals : Pairs) × AreReduced (script_text program.tree) program.plan reduce.max_bytes 1 [] held.files stop totals
      × (end ≡ groups_end (texts_of asked.forms reduce.form) program totals))

  this : (command : Command) → command_of asked ≡ Some command → Reduces reduce ≡ command
  this command some = let both : Some (Reduces reduce) ≡ Some command = sym is ∙ some in cc

  own : (other : Reduce) → command_of asked ≡ Some (Reduces other) → reduce ≡ other
  own other some = let both : Reduces reduce ≡ Reduces other = this (Reduces other) some in cc

  ends : (end : End) → IsEnd asked held end → Ends (program_in held.script) end
  unfolding Ends
  ends _ (usage none) = let both : Some (Reduces reduce) ≡ None = sym is ∙ none in absurd (cc)
  ends _ (no_program command why some faulty) =
      let P : Command → Type 0 = λ c. Ends (program_in (script_of c held)) (Refused why) in
      let Q : Result Program Refusal → Type 0 = λ r. Ends r (Refused why) in
      subst P (sym (this command some)) (subst Q (sym (none-found (script_of command held) why faulty)) refl)
  ends _ (problem command program why some found bad) =
      absurd (no_first program.plan (file_rules asked command) 0 (first_no command) (files_of command held) why (ap (λ (c : Command). files_of c held) (sym (this command some))) bad)
  ends _ (finished command program records some found reads fine) = absurd (subst ReadsRecords (sym (this command some)) reads)
  ends _ (run_problem other program why some found bad) =
      let Q : Result Program Refusal → Type 0 = λ r. Ends r (Refused (reduce_refusal why)) in
      let P : Reduce → Type 0 = λ r. FirstRunProblem (script_text program.tree) program.plan r.max_bytes 0 1 [] held.files why in
      subst Q (sym (program-found held.script program found)) (inl (why, subst P (sym (own other some)) bad, refl))
  ends _ (join_problem join program why some found bad) = let same : Reduces reduce ≡ Joins join = this (Joins join) some in absurd (cc)
  ends _ (runs_joined join program runs some found are) = let same : Reduces reduce ≡ Joins join = this (Joins join) some in absurd (cc)
  ends _ (reduced other program stop totals some found are) =
      let Q : Result Program Refusal → Type 0 = λ r. Ends r (groups_end (texts_of asked.forms other.form) program totals) in
      let P : Reduce → Type 0 = λ r. AreReduced (script_text program.tree) program.plan r.max_bytes 1 [] held.files stop totals in
      subst Q (sym (program-found held.script program found))
      (inr (stop, totals, subst P (sym (own other some)) are, ap (λ (r : Reduce). groups_end (texts_of asked.forms r.form) program totals) (sym (own other some))))

  bound : reduce.max_bytes < 2 ^ 64
  bound = let few = asked_few reduce asked is in omega (arith, few)

  some_of : (r : Result Program Refusal) → Reading held.script r → (end : End) × IsEnd asked held end
  some_of (Err why) faulty = (Refused why, no_program (Reduces reduce) why is faulty)
  some_of (Ok program) found = elim (files_found (script_text program.tree) program.plan (program-formed held.script program found) reduce.max_bytes bound 0 1 [] held.files) [
    | inl (stop, totals, are) ↦ (groups_end (texts_of asked.forms reduce.form) program totals, reduced reduce program stop totals is found are)
    | inr (why, first) ↦ (Refused (reduce_refusal why), run_problem reduce program why is found first)
  ]

  pub reduced_some : (end : End) × IsEnd asked held end
  reduced_some = some_of (program_in held.script) (reading held.script)

  once : (r : Result Program Refusal) → Reading held.script r → (end other : End) → Ends r end → Ends r other → end ≡ other
  unfolding Ends
  once (Err why) found end other a b = a ∙ sym b
  once (Ok program) found end other (inl a) (inl b) =
      let formed = program-formed held.script program found in
      let one = first_once (script_text program.tree) program.plan formed reduce.max_bytes bound 0 1 [] held.files a.0 b.0 a.1 b.1 in
      a.2 ∙ ap (λ (w : ReduceErr). Refused (reduce_refusal w)) one ∙ sym b.2
  once (Ok program) found end other (inl a) (inr b) =
      let formed = program-formed held.script program found in
      absurd (no_problem (script_text program.tree) program.plan formed reduce.max_bytes bound 0 1 [] held.files b.0 b.1 a.0 b.2 a.1)
  once (Ok program) found end other (inr a) (inl b) =
      let formed = program-formed held.script program found in
      absurd (no_problem (script_text program.tree) program.plan formed reduce.max_bytes bound 0 1 [] held.files a.0 a.1 b.0 a.2 b.1)
  once (Ok program) found end other (inr a) (inr b) =
      let formed = program-formed held.script program found in
      let one = totals_once (script_text program.tree) program.plan formed reduce.max_bytes bound 1 [] held.files a.0 b.0 a.1 b.1 a.2 b.2 in
      a.3 ∙ ap (λ (ts : Pairs). groups_end (texts_of asked.forms reduce.form) program ts) one ∙ sym b.3

  pub reduced_once : (end other : End) → IsEnd asked held end → IsEnd asked held other → end ≡ other
  reduced_once end other a b = once (program_in held.script) (reading held.script) end other (ends end a) (ends other b)
