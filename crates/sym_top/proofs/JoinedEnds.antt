-- A call of `join` has one end.
use Rattle.std.proofs.Common.{◌≡◌, ◌∙◌, ◌<◌, ◌^◌, ap, sym, subst, refl, inl, inr, ◌⊎◌, List, Some, None, Result, Ok, Err, arith}
use Rattle.sym_reduce.specs.declared.error.ReduceErr.{ReduceErr}
use Rattle.sym_reduce.specs.Joining.{AreRunFiles, FirstJoinProblem}
use Rattle.sym_reduce.proofs.FollowingFiles.{files_follow, no_join_problem, problem_once, runs_once}
use Rattle.sym_run.specs.declared.saved.Saved.{Saved}
use Rattle.sym_parse.specs.Printed.{script_text}
use Rattle.sym_command.specs.Commands.{Asked, Command, Join, Joins, Reduces, ReadsRecords, command_of, file_rules, first_no}
use Rattle.sym_command.proofs.Bounds.{joined_few}
use Rattle.sym_message.specs.declared.refusal.Refusal.{Refusal}
use Rattle.sym_top.specs.Ends.{End, Joined, Refused, Held, IsEnd, usage, no_program, problem, finished, run_problem, reduced, join_problem, runs_joined, files_of, script_of}
use Rattle.sym_top.specs.Programs.{Program, program_in}
use Rattle.sym_top.specs.RunFileRefusals.{reduce_refusal}
use Rattle.sym_top.proofs.ProgramsFound.{Reading, none-found, program-found, reading}
use Rattle.sym_top.proofs.ReducedEnds.{no_first, program-formed}

module _ (asked : Asked) (held : Held) (join : Join) (is : command_of asked ≡ Some (Joins join)) where
  -- How it ends, by the program of its script.
  Ends : Result Program Refusal → End → Type 0
  Ends (Err why) end = end ≡ Refused why
  Ends (Ok program) end =
      ((why : ReduceErr) × FirstJoinProblem (script_text program.tree) program.plan join.max_bytes held.files why × (end ≡ Refused (reduce_refusal why)))
      ⊎ ((runs : List Saved) × AreRunFiles (script_text program.tree) program.plan join.max_bytes held.files runs
      × (end ≡ Joined program join.limit runs))

  this : (command : Command) → command_of asked ≡ Some command → Joins join ≡ command
  this command some = let both : Some (Joins join) ≡ Some command = sym is ∙ some in cc

  own : (other : Join) → command_of asked ≡ Some (Joins other) → join ≡ other
  own other some = let both : Joins join ≡ Joins other = this (Joins other) some in cc

  ends : (end : End) → IsEnd asked held end → Ends (program_in held.script) end
  unfolding Ends
  ends _ (usage none) = let both : Some (Joins join) ≡ None = sym is ∙ none in absurd (cc)
  ends _ (no_program command why some faulty) =
      let P : Command → Type 0 = λ c. Ends (program_in (script_of c held)) (Refused why) in
      let Q : Result Program Refusal → Type 0 = λ r. Ends r (Refused why) in
      subst P (sym (this command some)) (subst Q (sym (none-found (script_of command held) why faulty)) refl)
  ends _ (problem command program why some found bad) =
      absurd (no_first program.plan (file_rules asked command) 0 (first_no command) (files_of command held) why (ap (λ (c : Command). files_of c held) (sym (this command some))) bad)
  ends _ (finished command program records some found reads fine) = absurd (subst ReadsRecords (sym (this command some)) reads)
  ends _ (run_problem reduce program why some found bad) = let same : Joins join ≡ Reduces reduce = this (Reduces reduce) some in absurd (cc)
  ends _ (reduced reduce program stop totals some found are) = let same : Joins join ≡ Reduces reduce = this (Reduces reduce) some in absurd (cc)
  ends _ (join_problem other program why some found bad) =
      let Q : Result Program Refusal → Type 0 = λ r. Ends r (Refused (reduce_refusal why)) in
      let P : Join → Type 0 = λ j. FirstJoinProblem (script_text program.tree) program.plan j.max_bytes held.files why in
      subst Q (sym (program-found held.script program found)) (inl (why, subst P (sym (own other some)) bad, refl))
  ends _ (runs_joined other program runs some found are) =
      let Q : Result Program Refusal → Type 0 = λ r. Ends r (Joined program other.limit runs) in
      let P : Join → Type 0 = λ j. AreRunFiles (script_text program.tree) program.plan j.max_bytes held.files runs in
      subst Q (sym (program-found held.script program found))
      (inr (runs, subst P (sym (own other some)) are, ap (λ (j : Join). Joined program j.limit runs) (sym (own other some))))

  bound : join.max_bytes < 2 ^ 64
  bound = let few = joined_few join asked is in omega (arith, few)

  some_of : (r : Result Program Refusal) → Reading held.script r → (end : End) × IsEnd asked held end
  some_of (Err why) faulty = (Refused why, no_program (Joins join) why is faulty)
  some_of (Ok program) found = elim (files_follow (script_text program.tree) program.plan (program-formed held.script program found) join.max_bytes bound held.files) [
    | inl (runs, are) ↦ (Joined program join.limit runs, runs_joined join program runs is found are)
    | inr (why, first) ↦ (Refused (reduce_refusal why), join_problem join program why is found first)
  ]

  pub joined_some : (end : End) × IsEnd asked held end
  joined_some = some_of (program_in held.script) (reading held.script)

  once : (r : Result Program Refusal) → Reading held.script r → (end other : End) → Ends r end → Ends r other → end ≡ other
  unfolding Ends
  once (Err why) found end other a b = a ∙ sym b
  once (Ok program) found end other (inl a) (inl b) =
      let formed = program-formed held.script program found in
      let one = problem_once (script_text program.tree) program.plan formed join.max_bytes bound held.files a.0 b.0 a.1 b.1 in
      a.2 ∙ ap (λ (w : ReduceErr). Refused (reduce_refusal w)) one ∙ sym b.2
  once (Ok program) found end other (inl a) (inr b) =
      let formed = program-formed held.script program found in
      absurd (no_join_problem (script_text program.tree) program.plan formed join.max_bytes bound held.files b.0 a.0 b.1 a.1)
  once (Ok program) found end other (inr a) (inl b) =
      let formed = program-formed held.script program found in
      absurd (no_join_problem (script_text program.tree) program.plan formed join.max_bytes bound held.files a.0 b.0 a.1 b.1)
  once (Ok program) found end other (inr a) (inr b) =
      let formed = program-formed held.script program found in
      let one = runs_once (script_text program.tree) program.plan formed join.max_bytes bound held.files a.0 b.0 a.1 b.1 in
      a.2 ∙ ap (λ (rs : List Saved). Joined program join.limit rs) one ∙ sym b.2

  pub joined_once : (end other : End) → IsEnd asked held end → IsEnd asked held other → end ≡ other
  joined_once end other a b = once (program_in held.script) (reading held.script) end other (ends end a) (ends other b)
