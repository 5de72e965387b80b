-- Each call has one end, and that of a call whose files have records is the one that is found.
use Rattle.std.proofs.Common.{◌≡◌, ◌↔◌, List, Option, None, Some, Result, Ok, Err, refl, sym, ap, subst, ◌∙◌}
use Rattle.sym_base.specs.declared.values.record.Record.{Record}
use Rattle.sym_files.specs.declared.error.PassErr.{PassErr}
use Rattle.sym_files.specs.FirstProblems.{records_in}
use Rattle.sym_files.proofs.FilesAgree.{files_records, files_problem}
use Rattle.sym_command.specs.Commands.{Asked, Command, ReadsNoRuns, ReadsRecords, Runs, Traces, Checks, Makes, Maps, Reduces, Joins, command_of, file_rules, first_no}
use Rattle.sym_message.specs.declared.refusal.Refusal.{Refusal}
use Rattle.sym_top.specs.Ends.{End, Held, IsEnd, usage, no_program, problem, finished, run_problem, reduced, join_problem, runs_joined, script_of, files_of}
use Rattle.sym_top.specs.EndReading.{files_end, program_end, command_end, end_of}
use Rattle.sym_top.specs.Programs.{Program, IsProgram, program_in}
use Rattle.sym_top.proofs.ProgramsFound.{program-found, none-found, Reading, reading}
use Rattle.sym_top.proofs.JoinedEnds.{joined_once, joined_some}
use Rattle.sym_top.proofs.ReducedEnds.{reduced_once, reduced_some}

pub found : (asked : Asked) (held : Held) (end : End) → ReadsNoRuns (command_of asked) → IsEnd asked held end → end_of asked held ≡ end
found asked held _ reads (usage none) = ap (λ o. command_end asked o held) none
found asked held _ reads (no_program command why some is) =
    ap (λ o. command_end asked o held) some
    ∙ ap (λ r. program_end asked command r (files_of command held)) (none-found (script_of command held) why is)
found asked held _ reads (problem command program why some is first) =
    ap (λ o. command_end asked o held) some
    ∙ ap (λ r. program_end asked command r (files_of command held)) (program-found (script_of command held) program is)
    ∙ ap (files_end asked command program) ((files_problem program.plan (file_rules asked command) 0 (first_no command) (files_of command held) why).0 first)
found asked held _ reads (finished command program records some is own fine) =
    ap (λ o. command_end asked o held) some
    ∙ ap (λ r. program_end asked command r (files_of command held)) (program-found (script_of command held) program is)
    ∙ ap (files_end asked command program) ((files_records program.plan (file_rules asked command) 0 (first_no command) (files_of command held) records).0 fine)
found asked held _ reads (run_problem reduce program why some is first) = absurd (subst ReadsNoRuns some reads)
found asked held _ reads (reduced reduce program stop totals some is are) = absurd (subst ReadsNoRuns some reads)
found asked held _ reads (join_problem join program why some is first) = absurd (subst ReadsNoRuns some reads)
found asked held _ reads (runs_joined join program runs some is are) = absurd (subst ReadsNoRuns some reads)

files-is : (asked : Asked) (held : Held) (command : Command) (program : Program) →
    command_of asked ≡ Some command → ReadsRecords command → IsProgram (script_of command held) program → (r : Result (List Record) PassErr) →
    records_in program.plan (file_rules asked command) 0 (first_no command) (files_of command held) ≡ r → IsEnd asked held (files_end asked command program r)
files-is asked held command program some reads is (Ok records) e =
    finished command program records some is reads
    ((files_records program.plan (file_rules asked command) 0 (first_no command) (files_of command held) records).1 e)
files-is asked held command program some reads is (Err why) e =
    problem command program why some is
    ((files_problem program.plan (file_rules asked command) 0 (first_no command) (files_of command held) why).1 e)

program-is : (asked : Asked) (held : Held) (command : Command) → command_of asked ≡ Some command → ReadsRecords command →
    (r : Result Program Refusal) → Reading (script_of command held) r → IsEnd asked held (program_end asked command r (files_of command held))
program-is asked held command some reads (Ok program) is =
    files-is asked held command program some reads is (records_in program.plan (file_rules asked command) 0 (first_no command) (files_of command held)) refl
program-is asked held command some reads (Err why) is = no_program command why some is

command-is : (asked : Asked) (held : Held) (o : Option Command) → ReadsNoRuns o → command_of asked ≡ o → IsEnd asked held (command_end asked o held)
command-is asked held None reads e = usage e
command-is asked held (Some command) reads e =
    program-is asked held command e reads (program_in (script_of command held)) (reading (script_of command held))

-- Every call whose files have records has an end.
pub is_end : (asked : Asked) (held : Held) → ReadsNoRuns (command_of asked) → IsEnd asked held (end_of asked held)
is_end asked held reads = command-is asked held (command_of asked) reads refl

pub agree : (asked : Asked) (held : Held) (end : End) → ReadsNoRuns (command_of asked) → IsEnd asked held end ↔ (end_of asked held ≡ end)
agree asked held end reads = (found asked held end reads, λ e. subst (IsEnd asked held) e (is_end asked held reads))

-- Every call has an end.
pub some_end : (asked : Asked) (held : Held) → (end : End) × IsEnd asked held end
some_end asked held = by (command_of asked) refl
  where
    own : ReadsNoRuns (command_of asked) → (end : End) × IsEnd asked held end
    own reads = (end_of asked held, is_end asked held reads)

    by : (o : Option Command) → command_of asked ≡ o → (end : End) × IsEnd asked held end
    by None e = own (subst ReadsNoRuns (sym e) tt)
    by (Some (Runs run)) e = own (subst ReadsNoRuns (sym e) tt)
    by (Some (Traces trace)) e = own (subst ReadsNoRuns (sym e) tt)
    by (Some (Checks check)) e = own (subst ReadsNoRuns (sym e) tt)
    by (Some (Makes make)) e = own (subst ReadsNoRuns (sym e) tt)
    by (Some (Maps part)) e = own (subst ReadsNoRuns (sym e) tt)
    by (Some (Reduces reduce)) e = reduced_some asked held reduce e
    by (Some (Joins join)) e = joined_some asked held join e

two_found : (asked : Asked) (held : Held) (end other : End) → ReadsNoRuns (command_of asked) → IsEnd asked held end → IsEnd asked held other → end ≡ other
two_found asked held end other reads is also = sym (found asked held end reads is) ∙ found asked held other reads also

-- And no call has two.
pub one_end : (asked : Asked) (held : Held) (end other : End) → IsEnd asked held end → IsEnd asked held other → end ≡ other
one_end asked held end other is also = by (command_of asked) refl
  where
    by : (o : Option Command) → command_of asked ≡ o → end ≡ other
    by None e = two_found asked held end other (subst ReadsNoRuns (sym e) tt) is also
    by (Some (Runs run)) e = two_found asked held end other (subst ReadsNoRuns (sym e) tt) is also
    by (Some (Traces trace)) e = two_found asked held end other (subst ReadsNoRuns (sym e) tt) is also
    by (Some (Checks check)) e = two_found asked held end other (subst ReadsNoRuns (sym e) tt) is also
    by (Some (Makes make)) e = two_found asked held end other (subst ReadsNoRuns (sym e) tt) is also
    by (Some (Maps part)) e = two_found asked held end other (subst ReadsNoRuns (sym e) tt) is also
    by (Some (Reduces reduce)) e = reduced_once asked held reduce e end other is also
    by (Some (Joins join)) e = joined_once asked held join e end other is also
