-- Each refusal has its cause, and what has a cause is refused.
use Rattle.std.proofs.Common.{◌≡◌, ◌⊎◌, inl, inr, ◌≤◌, ℕ, ◌+◌, List, [], length, Some, Err, refl, sym, subst, ◌∙◌}
use Rattle.sym_base.specs.declared.limits.TheConstants as limit
use Rattle.sym_base.specs.Trees.{ScriptTree}
use Rattle.sym_base.specs.declared.values.record.Record.{Record}
use Rattle.sym_lex.specs.declared.error.LexFault.{LexFault}
use Rattle.sym_lex.specs.declared.error.LexFault.TheVariants as lex_fault
use Rattle.sym_lex.specs.Rules.{Reads}
use Rattle.sym_parse.specs.declared.error.ParseErr.{ParseErr}
use Rattle.sym_parse.specs.declared.error.ParseErr.TheVariants as parse_error
use Rattle.sym_parse.specs.Answers.{IsScriptOf}
use Rattle.sym_parse.specs.Printed.{script_text}
use Rattle.sym_check.specs.Plan.ScriptPlans.{ScriptPlan}
use Rattle.sym_check.specs.Rules.Scripts.{BreaksScript}
use Rattle.sym_check.specs.declared.elaborate.error.CheckErr.{CheckErr}
use Rattle.sym_check.specs.declared.elaborate.error.CheckErr.TheVariants as check_error
use Rattle.sym_files.specs.declared.error.PassErr.{PassErr}
use Rattle.sym_files.specs.declared.error.PassErr.TheVariants as pass_error
use Rattle.sym_files.specs.FileRecords.{FileRules, HasProblem}
use Rattle.sym_files.specs.FileRecords as of_file
use Rattle.sym_files.specs.FirstProblems.{FirstProblem}
use Rattle.sym_files.specs.FirstProblems as of_files
use Rattle.sym_reduce.specs.declared.error.ReduceErr.{ReduceErr}
use Rattle.sym_reduce.specs.declared.error.ReduceErr.TheVariants as reduce_error
use Rattle.sym_reduce.specs.Joining.{FirstFileProblem, FirstJoinProblem, HasRunFault}
use Rattle.sym_reduce.specs.Joining as of_joins
use Rattle.sym_file.specs.TakenTexts.{Pairs}
use Rattle.sym_reduce.specs.Reducing.{FirstRunProblem, HasFault, HasRunProblem}
use Rattle.sym_reduce.specs.Reducing as of_runs
use Rattle.sym_command.specs.declared.place.Place.TheVariants as place
use Rattle.sym_command.specs.Commands.{Command, Join, Reduce, Runs, Traces, Checks, Makes, Maps, Reduces, Joins, command_of, file_rules, first_no}
use Rattle.sym_message.specs.declared.refusal.Refusal.{Refusal}
use Rattle.sym_message.specs.declared.refusal.Refusal.TheVariants as refusal
use Rattle.sym_message.specs.declared.status.Status.{Status}
use Rattle.sym_message.specs.declared.status.Status.TheVariants as status
use Rattle.sym_message.specs.Refusals.{status_of_refusal, parse_refusal, check_refusal, pass_refusal}
use Rattle.sym_message.specs.Telling.{Sunk, Tells}
use Rattle.sym_top.specs.Causes.{BreaksRule, IsNoCommand, no_command, IsTooLarge, large_script, large_file, large_run_file, large_joined_file, IsUnaccepted, bad_byte, bad_number, long_name, bad_text, limit_passed, unexpected_token, unknown_name, name_taken, wrong_kind, wrong_range, not_linear, many_paths, IsNoScript, IsBadInput, bad_header, bad_row, other_script, malformed, apart, gap, other_script_joined, malformed_joined, apart_joined, IsReadFault, IsToldOf, HasCause, IsWritingCut, IsStopped, RefusalsHaveCauses}
use Rattle.sym_top.specs.Ends.{End, Refused, Held, IsEnd, usage, no_program, problem, finished, run_problem, reduced, join_problem, runs_joined, IsWhole, files_of, script_of, whole_end}
use Rattle.sym_top.specs.Loading.{Says}
use Rattle.sym_top.specs.Programs.{Program, IsProgram, IsUnparsed, lexical, unexpected, passed, IsNoProgram, too_large, unparsed, broken}
use Rattle.sym_top.specs.Promises.{Call, Told, IsStop, at_end, script_unread, file_unread, run_unread, join_unread, no_memory, IsUntouched, WriteFails, failed, short, IsCause, stopped, cut, Refuses, IsReported, IsRefused, IsUnwritten, call_line}
use Rattle.sym_top.specs.RunFileRefusals.{reduce_refusal}
use Rattle.sym_top.specs.TopCall.{IsCarriedOut}
use Rattle.sym_top.proofs.Consequences.{complete-by, decided, expected-by, held-told, no-command-by, reported-written, usage-by}
use Rattle.sym_top.proofs.EndsFound.{one_end}

-- ---- a failed read is no problem of files

unread-file : (p : ScriptPlan) (rules : FileRules) (file first : ℕ) (bytes : List ℕ) (why : PassErr) (at : ℕ) → HasProblem p rules file first bytes why →
    why ≡ pass_error.Read at → ⊥
unread-file p rules file first bytes _ at (of_file.too_large large) e = cc
unread-file p rules file first bytes _ at (of_file.bad_head row rows what small is has) e = cc
unread-file p rules file first bytes _ at (of_file.bad_row row rows header bad small is have has) e = cc

unread-files : (p : ScriptPlan) (rules : FileRules) (file first : ℕ) (files : List (List ℕ)) (why : PassErr) (at : ℕ) → FirstProblem p rules file first files why →
    why ≡ pass_error.Read at → ⊥
unread-files p rules _ _ _ _ at (of_files.here file first bytes files why has) e = unread-file p rules file first bytes why at has e
unread-files p rules _ _ _ _ at (of_files.later file first bytes files records why fine rest) e =
    unread-files p rules (file + 1) (first + length records) files why at rest e

unread-fault : (script : List ℕ) (p : ScriptPlan) (next file : ℕ) (totals : Pairs) (bytes : List ℕ) (why : ReduceErr) (at : ℕ) →
    HasFault script p next file totals bytes why → why ≡ reduce_error.Read at → ⊥
unread-fault script p next file totals bytes _ at (of_runs.other_script is) e = cc
unread-fault script p next file totals bytes _ at (of_runs.malformed is) e = cc
unread-fault script p next file totals bytes _ at (of_runs.apart saved is differs) e = cc
unread-fault script p next file totals bytes _ at (of_runs.gap saved group is follows none) e = cc

unread-run : (script : List ℕ) (p : ScriptPlan) (most next file : ℕ) (totals : Pairs) (bytes : List ℕ) (why : ReduceErr) (at : ℕ) →
    HasRunProblem script p most next file totals bytes why → why ≡ reduce_error.Read at → ⊥
unread-run script p most next file totals bytes _ at (of_runs.too_large large) e = cc
unread-run script p most next file totals bytes _ at (of_runs.faulty why small has) e = unread-fault script p next file totals bytes why at has e

unread-runs : (script : List ℕ) (p : ScriptPlan) (most file next : ℕ) (totals : Pairs) (files : List (List ℕ)) (why : ReduceErr) (at : ℕ) →
    FirstRunProblem script p most file next totals files why → why ≡ reduce_error.Read at → ⊥
unread-runs script p most _ _ _ _ _ at (of_runs.here file next totals bytes files why has) e = unread-run script p most next file totals bytes why at has e
unread-runs script p most _ _ _ _ _ at (of_runs.later file next totals bytes files saved more why small taken rest) e =
    unread-runs script p most (file + 1) saved.next more files why at rest e

-- ---- files that can't be joined are not those of which a read failed or a group has no path

unread-joined : (script : List ℕ) (p : ScriptPlan) (most file next : ℕ) (files : List (List ℕ)) (why : ReduceErr) (at : ℕ) →
    FirstFileProblem script p most file next files why → why ≡ reduce_error.Read at → ⊥
unread-joined script p most _ _ _ _ at (of_joins.too_large file next bytes files large) e = cc
unread-joined script p most _ _ _ _ at (of_joins.faulty file next bytes files why small has) e = by why has e
  where
    by : (own : ReduceErr) → HasRunFault script p next file bytes own → own ≡ reduce_error.Read at → ⊥
    by _ (of_joins.other_script is) e = cc
    by _ (of_joins.malformed is) e = cc
    by _ (of_joins.apart saved is differs) e = cc
unread-joined script p most _ _ _ _ at (of_joins.later file next bytes files saved why small is follows rest) e =
    unread-joined script p most (file + 1) saved.next files why at rest e

pathless-joined : (script : List ℕ) (p : ScriptPlan) (most file next : ℕ) (files : List (List ℕ)) (why : ReduceErr) (at group : ℕ) →
    FirstFileProblem script p most file next files why → why ≡ reduce_error.Gap at group → ⊥
pathless-joined script p most _ _ _ _ at group (of_joins.too_large file next bytes files large) e = cc
pathless-joined script p most _ _ _ _ at group (of_joins.faulty file next bytes files why small has) e = by why has e
  where
    by : (own : ReduceErr) → HasRunFault script p next file bytes own → own ≡ reduce_error.Gap at group → ⊥
    by _ (of_joins.other_script is) e = cc
    by _ (of_joins.malformed is) e = cc
    by _ (of_joins.apart saved is differs) e = cc
pathless-joined script p most _ _ _ _ at group (of_joins.later file next bytes files saved why small is follows rest) e =
    pathless-joined script p most (file + 1) saved.next files why at group rest e

-- ---- each refusal has a cause

-- The causes of a status.
abbrev CausesOf : Call → Held → Status → Refusal → Type 0
CausesOf call held status.Done why = ⊥
CausesOf call held status.Faulted why = ⊥
CausesOf call held status.Usage why = IsNoCommand call held why
CausesOf call held status.Script why = IsNoScript call held why
CausesOf call held status.Input why = IsBadInput call held why
CausesOf call held status.ReadFault why = IsReadFault call held why
CausesOf call held status.WriteFault why = ⊥
CausesOf call held status.TooLarge why = IsTooLarge call held why
CausesOf call held status.NoMemory why = why ≡ refusal.NoMemory

abbrev IsCaused : Call → Held → Refusal → Type 0
IsCaused call held why = CausesOf call held (status_of_refusal why) why

module _ (call : Call) (held : Held) where
  no-script : (command : Command) (why : Refusal) → command_of call.asked ≡ Some command → length (script_of command held) ≤ limit.SCRIPT_MAX →
      IsUnaccepted (script_of command held) why → IsNoScript call held why
  no-script command why asks small is = record { command = command; asks = asks; is_so = (small, is) }

  lexical-caused : (command : Command) (what : LexFault) → command_of call.asked ≡ Some command → length (script_of command held) ≤ limit.SCRIPT_MAX →
      Reads 0 (script_of command held) (Err what) → IsCaused call held (parse_refusal (parse_error.Lex what))
  lexical-caused command (lex_fault.BadByte at) asks small reads = no-script command _ asks small (bad_byte at reads)
  lexical-caused command (lex_fault.BadNumber at) asks small reads = no-script command _ asks small (bad_number at reads)
  lexical-caused command (lex_fault.LongName at) asks small reads = no-script command _ asks small (long_name at reads)
  lexical-caused command (lex_fault.BadText at) asks small reads = no-script command _ asks small (bad_text at reads)

  unparsed-caused : (command : Command) (why : ParseErr) → command_of call.asked ≡ Some command → length (script_of command held) ≤ limit.SCRIPT_MAX →
      IsUnparsed (script_of command held) why → IsCaused call held (parse_refusal why)
  unparsed-caused command _ asks small (lexical what reads) = lexical-caused command what asks small reads
  unparsed-caused command _ asks small (unexpected at is none) = no-script command _ asks small (unexpected_token at is none)
  unparsed-caused command _ asks small (passed at which is) = no-script command _ asks small (limit_passed at which is)

  broken-caused : (command : Command) (tree : ScriptTree) (why : CheckErr) → command_of call.asked ≡ Some command →
      length (script_of command held) ≤ limit.SCRIPT_MAX → IsScriptOf (script_of command held) tree → BreaksScript tree why → IsCaused call held (check_refusal why)
  broken-caused command tree (check_error.Name at) asks small is breaks =
      no-script command _ asks small (unknown_name at (record { tree = tree; script = is; breaks = breaks }))
  broken-caused command tree (check_error.Twice at) asks small is breaks =
      no-script command _ asks small (name_taken at (record { tree = tree; script = is; breaks = breaks }))
  broken-caused command tree (check_error.Kind at) asks small is breaks =
      no-script command _ asks small (wrong_kind at (record { tree = tree; script = is; breaks = breaks }))
  broken-caused command tree (check_error.Range at) asks small is breaks =
      no-script command _ asks small (wrong_range at (record { tree = tree; script = is; breaks = breaks }))
  broken-caused command tree (check_error.NotLinear at) asks small is breaks =
      no-script command _ asks small (not_linear at (record { tree = tree; script = is; breaks = breaks }))
  broken-caused command tree (check_error.Branchy paths) asks small is breaks =
      no-script command _ asks small (many_paths paths (record { tree = tree; script = is; breaks = breaks }))
  broken-caused command tree check_error.NoMemory asks small is breaks = refl

  program-caused : (command : Command) (why : Refusal) → command_of call.asked ≡ Some command → IsNoProgram (script_of command held) why → IsCaused call held why
  program-caused command _ asks (too_large large) = large_script (record { command = command; asks = asks; is_so = large })
  program-caused command _ asks (unparsed why small is) = unparsed-caused command why asks small is
  program-caused command _ asks (broken tree why small is breaks) = broken-caused command tree why asks small is breaks

  files-caused : (command : Command) (program : Program) (why : PassErr) → command_of call.asked ≡ Some command → IsProgram (script_of command held) program →
      FirstProblem program.plan (file_rules call.asked command) 0 (first_no command) (files_of command held) why → IsCaused call held (pass_refusal why)
  files-caused command program (pass_error.Read file) asks is first =
      absurd (unread-files program.plan (file_rules call.asked command) 0 (first_no command) (files_of command held) (pass_error.Read file) file first refl)
  files-caused command program (pass_error.TooLarge file) asks is first =
      large_file file (record { command = command; asks = asks; program = program; accepted = is; first = first })
  files-caused command program (pass_error.Head file what) asks is first =
      bad_header file what (record { command = command; asks = asks; program = program; accepted = is; first = first })
  files-caused command program (pass_error.Bad file bad) asks is first =
      bad_row file bad (record { command = command; asks = asks; program = program; accepted = is; first = first })
  files-caused command program pass_error.NoMemory asks is first = refl

  runs-caused : (reduce : Reduce) (program : Program) (why : ReduceErr) → command_of call.asked ≡ Some (Reduces reduce) → IsProgram held.script program →
      FirstRunProblem (script_text program.tree) program.plan reduce.max_bytes 0 1 [] held.files why → IsCaused call held (reduce_refusal why)
  runs-caused reduce program (reduce_error.Read file) asks is first =
      absurd (unread-runs (script_text program.tree) program.plan reduce.max_bytes 0 1 [] held.files (reduce_error.Read file) file first refl)
  runs-caused reduce program (reduce_error.TooLarge file) asks is first =
      large_run_file file (record { reduce = reduce; asks = asks; program = program; accepted = is; first = first })
  runs-caused reduce program (reduce_error.OtherScript file) asks is first =
      other_script file (record { reduce = reduce; asks = asks; program = program; accepted = is; first = first })
  runs-caused reduce program (reduce_error.Malformed file) asks is first =
      malformed file (record { reduce = reduce; asks = asks; program = program; accepted = is; first = first })
  runs-caused reduce program (reduce_error.Apart file) asks is first =
      apart file (record { reduce = reduce; asks = asks; program = program; accepted = is; first = first })
  runs-caused reduce program (reduce_error.Gap file group) asks is first =
      gap file group (record { reduce = reduce; asks = asks; program = program; accepted = is; first = first })
  runs-caused reduce program reduce_error.NoMemory asks is first = refl

  joins-caused : (join : Join) (program : Program) (why : ReduceErr) → command_of call.asked ≡ Some (Joins join) → IsProgram held.script program →
      FirstJoinProblem (script_text program.tree) program.plan join.max_bytes held.files why → IsCaused call held (reduce_refusal why)
  joins-caused join program (reduce_error.Read file) asks is first =
      absurd (unread-joined (script_text program.tree) program.plan join.max_bytes 0 first.first held.files (reduce_error.Read file) file first.problem refl)
  joins-caused join program (reduce_error.TooLarge file) asks is first =
      large_joined_file file (record { join = join; asks = asks; program = program; accepted = is; first = first })
  joins-caused join program (reduce_error.OtherScript file) asks is first =
      other_script_joined file (record { join = join; asks = asks; program = program; accepted = is; first = first })
  joins-caused join program (reduce_error.Malformed file) asks is first =
      malformed_joined file (record { join = join; asks = asks; program = program; accepted = is; first = first })
  joins-caused join program (reduce_error.Apart file) asks is first =
      apart_joined file (record { join = join; asks = asks; program = program; accepted = is; first = first })
  joins-caused join program (reduce_error.Gap file group) asks is first =
      absurd (pathless-joined (script_text program.tree) program.plan join.max_bytes 0 first.first held.files (reduce_error.Gap file group) file group first.problem refl)
  joins-caused join program reduce_error.NoMemory asks is first = refl

  whole-refused : (command : Command) (program : Program) (records : List Record) (why : Refusal) →
      whole_end call.asked command program records ≡ Refused why → ⊥
  whole-refused (Runs run) program records why e = cc
  whole-refused (Traces trace) program records why e = cc
  whole-refused (Checks check) program records why e = cc
  whole-refused (Makes make) program records why e = cc
  whole-refused (Maps part) program records why e = cc
  whole-refused (Reduces reduce) program records why e = cc
  whole-refused (Joins join) program records why e = cc

  same-caused : (one other : Refusal) → Refused one ≡ Refused other → IsCaused call held one → IsCaused call held other
  same-caused one other e is = let same : one ≡ other = cc in subst (λ why. IsCaused call held why) same is

  end-caused : (end : End) (why : Refusal) → IsEnd call.asked held end → end ≡ Refused why → IsCaused call held why
  end-caused _ why (usage none) e = same-caused refusal.Usage why e (no_command none)
  end-caused _ why (no_program command own asks is) e = same-caused own why e (program-caused command own asks is)
  end-caused _ why (problem command program own asks is first) e = same-caused (pass_refusal own) why e (files-caused command program own asks is first)
  end-caused _ why (finished command program records asks is own fine) e = absurd (whole-refused command program records why e)
  end-caused _ why (run_problem reduce program own asks is first) e = same-caused (reduce_refusal own) why e (runs-caused reduce program own asks is first)
  end-caused _ why (reduced reduce program stop totals asks is are) e = absurd (cc)
  end-caused _ why (join_problem join program own asks is first) e = same-caused (reduce_refusal own) why e (joins-caused join program own asks is first)
  end-caused _ why (runs_joined join program runs asks is are) e = absurd (cc)

  stop-caused : (why : Refusal) → IsStop call held why → IsCaused call held why
  stop-caused _ (at_end why is) = end-caused (Refused why) why is refl
  stop-caused _ (script_unread unread) = record { at = place.Script; why_is = refl; failed = unread; stop = script_unread unread }
  stop-caused _ (file_unread command program records number asks prog own fine unread) =
      record { at = place.File number; why_is = refl; failed = unread; stop = file_unread command program records number asks prog own fine unread }
  stop-caused _ (run_unread reduce program stop totals number asks prog are unread) =
      record { at = place.File number; why_is = refl; failed = unread; stop = run_unread reduce program stop totals number asks prog are unread }
  stop-caused _ (join_unread join program runs number asks prog are unread) =
      record { at = place.File number; why_is = refl; failed = unread; stop = join_unread join program runs number asks prog are unread }
  stop-caused _ no_memory = refl

  -- ---- each cause is refused, if nothing stops the call before

  -- The call ends with this refusal, which has this status.
  abbrev Ends : Refusal → Status → Type 0
  Ends why own = IsEnd call.asked held (Refused why) × (status_of_refusal why ≡ own)

  usage-end : (why : Refusal) → IsNoCommand call held why → Ends why status.Usage
  usage-end _ (no_command none) = (usage none, refl)

  large-end : (why : Refusal) → IsTooLarge call held why → Ends why status.TooLarge
  large-end _ (large_script s) = (no_program s.command _ s.asks (too_large s.is_so), refl)
  large-end _ (large_file file h) = (problem h.command h.program (pass_error.TooLarge file) h.asks h.accepted h.first, refl)
  large-end _ (large_run_file file h) = (run_problem h.reduce h.program (reduce_error.TooLarge file) h.asks h.accepted h.first, refl)
  large-end _ (large_joined_file file h) = (join_problem h.join h.program (reduce_error.TooLarge file) h.asks h.accepted h.first, refl)

  unparsed-end : (command : Command) (why : ParseErr) → command_of call.asked ≡ Some command → length (script_of command held) ≤ limit.SCRIPT_MAX →
      IsUnparsed (script_of command held) why → IsEnd call.asked held (Refused (parse_refusal why))
  unparsed-end command why asks small is = no_program command (parse_refusal why) asks (unparsed why small is)

  broken-end : (command : Command) (why : CheckErr) → command_of call.asked ≡ Some command → length (script_of command held) ≤ limit.SCRIPT_MAX →
      BreaksRule (script_of command held) why → IsEnd call.asked held (Refused (check_refusal why))
  broken-end command why asks small b = no_program command (check_refusal why) asks (broken b.tree why small b.script b.breaks)

  unaccepted-end : (command : Command) (why : Refusal) → command_of call.asked ≡ Some command → length (script_of command held) ≤ limit.SCRIPT_MAX →
      IsUnaccepted (script_of command held) why → Ends why status.Script
  unaccepted-end command _ asks small (bad_byte at reads) =
      (unparsed-end command (parse_error.Lex (lex_fault.BadByte at)) asks small (lexical (lex_fault.BadByte at) reads), refl)
  unaccepted-end command _ asks small (bad_number at reads) =
      (unparsed-end command (parse_error.Lex (lex_fault.BadNumber at)) asks small (lexical (lex_fault.BadNumber at) reads), refl)
  unaccepted-end command _ asks small (long_name at reads) =
      (unparsed-end command (parse_error.Lex (lex_fault.LongName at)) asks small (lexical (lex_fault.LongName at) reads), refl)
  unaccepted-end command _ asks small (bad_text at reads) =
      (unparsed-end command (parse_error.Lex (lex_fault.BadText at)) asks small (lexical (lex_fault.BadText at) reads), refl)
  unaccepted-end command _ asks small (limit_passed at which is) = (unparsed-end command (parse_error.Limit at which) asks small (passed at which is), refl)
  unaccepted-end command _ asks small (unexpected_token at is none) =
      (unparsed-end command (parse_error.Expected at) asks small (unexpected at is none), refl)
  unaccepted-end command _ asks small (unknown_name at b) = (broken-end command (check_error.Name at) asks small b, refl)
  unaccepted-end command _ asks small (name_taken at b) = (broken-end command (check_error.Twice at) asks small b, refl)
  unaccepted-end command _ asks small (wrong_kind at b) = (broken-end command (check_error.Kind at) asks small b, refl)
  unaccepted-end command _ asks small (wrong_range at b) = (broken-end command (check_error.Range at) asks small b, refl)
  unaccepted-end command _ asks small (not_linear at b) = (broken-end command (check_error.NotLinear at) asks small b, refl)
  unaccepted-end command _ asks small (many_paths paths b) = (broken-end command (check_error.Branchy paths) asks small b, refl)

  script-end : (why : Refusal) → IsNoScript call held why → Ends why status.Script
  script-end why s = unaccepted-end s.command why s.asks s.is_so.0 s.is_so.1

  input-end : (why : Refusal) → IsBadInput call held why → Ends why status.Input
  input-end _ (bad_header file what h) = (problem h.command h.program (pass_error.Head file what) h.asks h.accepted h.first, refl)
  input-end _ (bad_row file bad h) = (problem h.command h.program (pass_error.Bad file bad) h.asks h.accepted h.first, refl)
  input-end _ (other_script file h) = (run_problem h.reduce h.program (reduce_error.OtherScript file) h.asks h.accepted h.first, refl)
  input-end _ (malformed file h) = (run_problem h.reduce h.program (reduce_error.Malformed file) h.asks h.accepted h.first, refl)
  input-end _ (apart file h) = (run_problem h.reduce h.program (reduce_error.Apart file) h.asks h.accepted h.first, refl)
  input-end _ (gap file group h) = (run_problem h.reduce h.program (reduce_error.Gap file group) h.asks h.accepted h.first, refl)
  input-end _ (other_script_joined file h) = (join_problem h.join h.program (reduce_error.OtherScript file) h.asks h.accepted h.first, refl)
  input-end _ (malformed_joined file h) = (join_problem h.join h.program (reduce_error.Malformed file) h.asks h.accepted h.first, refl)
  input-end _ (apart_joined file h) = (join_problem h.join h.program (reduce_error.Apart file) h.asks h.accepted h.first, refl)

-- ---- the table

module _ (call : Call) (out err : Sunk) (result : Status) where
  -- A cause of this status was told, or a report was cut for a reason of this status.
  abbrev Comes : Status → Type 0
  Comes own =
      HasCause call out err (λ held why. CausesOf call held own why)
      ⊎ ((why : Refusal) × (status_of_refusal why ≡ own) × IsWritingCut call out err why)

  cause-comes : (r : Refuses call out err result) (own : Status) → status_of_refusal r.why ≡ own → IsCause call r.held out r.why → Comes own
  cause-comes r own e (stopped stop untouched) =
      inl (record {
        held = r.held;
        may = r.may;
        why = r.why;
        cause = subst (λ s. CausesOf call r.held s r.why) e (stop-caused call r.held r.why stop);
        told = record { untouched = untouched; line = r.line };
      })
  cause-comes r own e (cut s text has fails) =
      inr (r.why, e, record { held = r.held; may = r.may; status = s; text = text; report = has; fails = fails; line = r.line })

  comes-by : (own : Status) → IsRefused own → Says call out err result → result ≡ own → Comes own
  comes-by own refused says e =
      let r = says.refused (subst IsRefused (sym e) refused) in
      cause-comes r own (sym r.status_is ∙ e) r.cause

  cut-unwritten : (text : List ℕ) (why : Refusal) → WriteFails out text why → IsUnwritten (status_of_refusal why) → ⊥
  cut-unwritten text _ (failed prefix rose) unwritten = unwritten
  cut-unwritten text _ (short prefix rose) unwritten = unwritten

  uncut : (own : Status) → IsUnwritten own → Comes own → HasCause call out err (λ held why. CausesOf call held own why)
  uncut own unwritten (inl c) = c
  uncut own unwritten (inr c) = absurd (cut-unwritten c.2.text c.0 c.2.fails (subst IsUnwritten (sym c.1) unwritten))

  only-by : (own : Status) → IsUnwritten own → Says call out err result → result ≡ own → HasCause call out err (λ held why. CausesOf call held own why)
  only-by own unwritten says e = uncut own unwritten (comes-by own (λ reported. reported-written own reported unwritten) says e)

  write-failed : (text : List ℕ) (why : Refusal) → WriteFails out text why → status_of_refusal why ≡ status.WriteFault → why ≡ refusal.Write
  write-failed text _ (failed prefix rose) e = refl
  write-failed text _ (short prefix rose) e = cc

  write-short : (text : List ℕ) (why : Refusal) → WriteFails out text why → status_of_refusal why ≡ status.NoMemory → why ≡ refusal.NoMemory
  write-short text _ (failed prefix rose) e = cc
  write-short text _ (short prefix rose) e = refl

  write-cut : Comes status.WriteFault → IsWritingCut call out err refusal.Write
  write-cut (inl c) = absurd c.cause
  write-cut (inr c) = subst (λ why. IsWritingCut call out err why) (write-failed c.2.text c.0 c.2.fails c.1) c.2

  memory-cut : Comes status.NoMemory → HasCause call out err (λ held why. why ≡ refusal.NoMemory) ⊎ IsWritingCut call out err refusal.NoMemory
  memory-cut (inl c) = inl c
  memory-cut (inr c) = inr (subst (λ why. IsWritingCut call out err why) (write-short c.2.text c.0 c.2.fails c.1) c.2)

  -- The call has this status and tells of this refusal, or is stopped.
  abbrev TellsOr : Held → Status → Refusal → Type 0
  TellsOr held own why = ((result ≡ own) × IsToldOf call held out err why) ⊎ IsStopped result

  stop-told : (held : Held) (why own : Refusal) → IsEnd call.asked held (Refused why) → IsStop call held own → result ≡ status_of_refusal own →
      IsUntouched out → Tells err (call_line call held own) → TellsOr held (status_of_refusal why) why
  stop-told held why _ is (at_end own stop) status_is untouched line =
      let e : Refused own ≡ Refused why = one_end call.asked held (Refused own) (Refused why) stop is in
      let same : own ≡ why = cc in
      inl (subst (λ w. (result ≡ status_of_refusal w) × IsToldOf call held out err w) same (status_is, record { untouched = untouched; line = line }))
  stop-told held why _ is (script_unread unread) status_is untouched line = inr (inl status_is)
  stop-told held why _ is (file_unread command program records number asks prog own fine unread) status_is untouched line = inr (inl status_is)
  stop-told held why _ is (run_unread reduce program stop totals number asks prog are unread) status_is untouched line = inr (inl status_is)
  stop-told held why _ is (join_unread join program runs number asks prog are unread) status_is untouched line = inr (inl status_is)
  stop-told held why _ is no_memory status_is untouched line = inr (inr status_is)

  never-whole : {A : Type 0} (held : Held) (end : End) (why : Refusal) → IsEnd call.asked held (Refused why) → IsEnd call.asked held end → IsWhole end → A
  never-whole held end why is other whole = absurd (subst IsWhole (one_end call.asked held end (Refused why) other is) whole)

  cause-told : (held : Held) (why own : Refusal) → IsEnd call.asked held (Refused why) → IsCause call held out own → result ≡ status_of_refusal own →
      Tells err (call_line call held own) → TellsOr held (status_of_refusal why) why
  cause-told held why own is (stopped stop untouched) status_is line = stop-told held why own is stop status_is untouched line
  cause-told held why own is (cut s text has fails) status_is line = never-whole held has.end why is has.is_end has.whole

  refused-told : (held : Held) (why : Refusal) → Told call held → IsEnd call.asked held (Refused why) → IsReported result ⊎ IsRefused result →
      Says call out err result → TellsOr held (status_of_refusal why) why
  refused-told held why told is (inl done) says =
      let w = says.reported done in
      let same : w.held ≡ held = held-told call w.held held w.may told in
      never-whole held w.report.end why is (subst (λ h. IsEnd call.asked h w.report.end) same w.report.is_end) w.report.whole
  refused-told held why told is (inr undone) says =
      let r = says.refused undone in
      let same : r.held ≡ held = held-told call r.held held r.may told in
      subst (λ h. TellsOr h (status_of_refusal why) why) same
      (cause-told r.held why r.why (subst (λ h. IsEnd call.asked h (Refused why)) (sym same) is) r.cause r.status_is r.line)

  by-status : (held : Held) (why : Refusal) (own : Status) → status_of_refusal why ≡ own → TellsOr held (status_of_refusal why) why → TellsOr held own why
  by-status held why own e told = subst (λ s. TellsOr held s why) e told

  always-by : (held : Held) (why : Refusal) (own : Status) → Says call out err result → Told call held → Ends call held why own → TellsOr held own why
  always-by held why own says told ends = by-status held why own ends.1 (refused-told held why told ends.0 (decided result) says)

  pub causes-by : Says call out err result → RefusalsHaveCauses call out err result
  causes-by says = record {
    usage = record {
      only = only-by status.Usage tt says;
      always = λ held why told cause. always-by held why status.Usage says told (usage-end call held why cause);
    };
    too_large = record {
      only = only-by status.TooLarge tt says;
      always = λ held why told cause. always-by held why status.TooLarge says told (large-end call held why cause);
    };
    script = record {
      only = only-by status.Script tt says;
      always = λ held why told cause. always-by held why status.Script says told (script-end call held why cause);
    };
    input = record {
      only = only-by status.Input tt says;
      always = λ held why told cause. always-by held why status.Input says told (input-end call held why cause);
    };
    read_fault = only-by status.ReadFault tt says;
    write_fault = λ e. write-cut (comes-by status.WriteFault (λ h. h) says e);
    no_memory = λ e. memory-cut (comes-by status.NoMemory (λ h. h) says e);
  }

  pub carried-by : Says call out err result → IsCarriedOut call out err result
  carried-by says = record {
    reported = says.reported;
    refused = says.refused;
    expected = expected-by call out err result says;
    complete = complete-by call out err result says;
    causes = causes-by says;
    usage = usage-by call out err result says;
    no_command = no-command-by call out err result says;
  }
