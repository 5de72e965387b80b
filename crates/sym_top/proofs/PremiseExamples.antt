-- Premises of what a call promises: calls that meet them, and one of which a failed read is no cause.
use Rattle.std.proofs.Common.{◌≡◌, ◌∙◌, inl, inr, ℕ, List, [], ◌∷◌, codes, Option, Some, None, Err, map, take, refl, sym, subst, arith}
use Rattle.clap.proofs.OnLiterals.{clap_on_literals}
use Rattle.sym_base.specs.declared.values.record.Record.{Record}
use Rattle.sym_files.specs.declared.error.PassErr.TheVariants as pass_error
use Rattle.sym_files.specs.FileRecords.{FileRules}
use Rattle.sym_files.specs.FirstProblems.{AllFine, records_in}
use Rattle.sym_files.proofs.FilesAgree.{files_records, files_problem}
use Rattle.sym_report.specs.Tables.{table_form}
use Rattle.sym_command.specs.declared.place.Place.TheVariants as place
use Rattle.sym_command.specs.CommandLines.{make_app, run_app, matched}
use Rattle.sym_command.specs.Commands.{Asked, Command, Joins, Make, Makes, Reduces, Run, Runs, asks, command_in, command_of, file_rules, files_found, first_no, make_found, make_of, names_of, options_found, run_found, run_of, run_options}
use Rattle.sym_command.specs.Numbers.{number_of}
use Rattle.sym_message.specs.declared.refusal.Refusal.{Refusal}
use Rattle.sym_message.specs.declared.refusal.Refusal.TheVariants as refusal
use Rattle.sym_message.specs.declared.status.Status.{Status}
use Rattle.sym_message.specs.declared.status.Status.TheVariants as status
use Rattle.sym_message.specs.Telling.{Sunk}
use Rattle.sym_top.specs.Causes.{IsStopped}
use Rattle.sym_top.specs.Ends.{Held, IsEnd, Refused, finished, problem, report_of, script_of}
use Rattle.sym_top.specs.Loading.{Says}
use Rattle.sym_top.specs.Programs.{Program, IsProgram}
use Rattle.sym_top.specs.Promises.{Call, IsRefused, IsStop, IsUnwritten, MustReport, NoneFailed, TellsScript, Told, at_end, file_unread, join_unread, no_memory, run_unread, script_unread}
use Rattle.sym_top.proofs.Consequences.{complete-by}
use Rattle.sym_top.proofs.EndsFound.{one_end}
use Rattle.sym_top.proofs.HeadlineExamples.{are_read, call, first, holds, is_asked, is_program, records, rules, run, second, text, tight_run, too_many_bytes, visits}
use Rattle.sym_top.proofs.PartsReported.{same_program}

-- ---- the run over both files must write its report: no read of it failed, and no write to the output

abbrev both_files : Held
both_files = record { script = text; files = first ∷ second ∷ [] }

-- An output to which nothing was written, and of which no write failed.
abbrev silent : Sunk
silent = record { written = Some []; written_after = Some []; faults = 0; faults_after = 0; short = 0; short_after = 0 }

both_are_told : Told call both_files
both_are_told =
    let P : Option Command → Type 0 = λ o. TellsScript holds (names_of o).script text × (map holds (names_of o).files ≡ map Some (first ∷ second ∷ [])) in
    subst P (sym is_asked) (refl, refl)

none_failed : NoneFailed call
none_failed at unread = omega (arith, unread.rose)

must_report : MustReport call silent
must_report = record {
  held = both_files;
  told = both_are_told;
  end = report_of table_form visits records;
  is_end = finished (Runs run) visits records is_asked is_program tt ((files_records visits.plan rules 0 1 (first ∷ second ∷ []) records).1 are_read);
  whole = tt;
  read = none_failed;
  written = λ rose. omega (arith, rose);
}

-- So it is refused only because memory ran out.
it_is_complete : (err : Sunk) (result : Status) → Says call silent err result → IsRefused result → result ≡ status.NoMemory
it_is_complete err result says refused = complete-by call silent err result says must_report refused

-- ---- `run --max-bytes 9 s f g`, of which each read fails: the first file is too large, so no failed read of the second one stops the call

abbrev late_asked : Asked
late_asked = asks
    (codes "run" ∷ codes "--max-bytes" ∷ codes "9" ∷ codes "s" ∷ codes "f" ∷ codes "g" ∷ [])
    (record { name = codes "table"; texts = table_form } ∷ []) (λ row. row)

abbrev late_run : Run
late_run = record tight_run { files = codes "f" ∷ codes "g" ∷ [] }

is_late : command_of late_asked ≡ Some (Runs late_run)
unfolding command_in run_of matched run_app run_found run_options options_found files_found number_of clap_on_literals
is_late = refl

abbrev late_call : Call
late_call = record { asked = late_asked; holds = holds; before = λ file. 0; after = λ file. 1 }

abbrev tight_rules : FileRules
tight_rules = record rules { max_bytes = 9 }

both_too_large : records_in visits.plan tight_rules 0 1 (first ∷ second ∷ []) ≡ Err (pass_error.TooLarge 0)
both_too_large = refl

late_end : IsEnd late_asked both_files (Refused (refusal.TooLarge (place.File 0)))
late_end =
    problem (Runs late_run) visits (pass_error.TooLarge 0) is_late is_program
    ((files_problem visits.plan tight_rules 0 1 (first ∷ second ∷ []) (pass_error.TooLarge 0)).1 both_too_large)

first_is_not_fine : (program : Program) (found : List Record) → IsProgram text program → AllFine program.plan tight_rules 1 (first ∷ []) found → ⊥
first_is_not_fine program found own fine =
    let same = same_program text program visits own is_program in
    let P : Program → Type 0 = λ w. AllFine w.plan tight_rules 1 (first ∷ []) found in
    let read_as = (files_records visits.plan tight_rules 0 1 (first ∷ []) found).0 (subst P same fine) in
    let both = sym too_many_bytes ∙ read_as in cc

no_read_of_the_second : (why : Refusal) → IsStop late_call both_files why → why ≡ refusal.Read (place.File 1) → ⊥
no_read_of_the_second _ (at_end why stop) same =
    let both : Refused why ≡ Refused (refusal.TooLarge (place.File 0)) = one_end late_asked both_files (Refused why) (Refused (refusal.TooLarge (place.File 0))) stop late_end in
    let cause : why ≡ refusal.TooLarge (place.File 0) = cc in
    let wrong = sym cause ∙ same in cc
no_read_of_the_second _ (script_unread unread) same = cc
no_read_of_the_second _ (file_unread command program found number some own kind fine unread) same =
    let there : number ≡ 1 = cc in
    let both : Some (Runs late_run) ≡ Some command = sym is_late ∙ some in
    let this : command ≡ Runs late_run = cc in
    let S : Command → Type 0 = λ c. IsProgram (script_of c both_files) program in
    let F : Command → Type 0 = λ c. AllFine program.plan (file_rules late_asked c) (first_no c) (take number both_files.files) found in
    let N : ℕ → Type 0 = λ n. AllFine program.plan tight_rules 1 (take n both_files.files) found in
    first_is_not_fine program found (subst S this own) (subst N there (subst F this fine))
no_read_of_the_second _ (run_unread reduction program stop totals number some own are unread) same =
    let both : Some (Runs late_run) ≡ Some (Reduces reduction) = sym is_late ∙ some in cc
no_read_of_the_second _ (join_unread joining program saved number some own are unread) same =
    let both : Some (Runs late_run) ≡ Some (Joins joining) = sym is_late ∙ some in cc
no_read_of_the_second _ no_memory same = cc

-- ---- statuses of a call that stopped before it wrote

stopped_early : IsUnwritten status.Usage × IsUnwritten status.Script × IsUnwritten status.Input × IsUnwritten status.ReadFault × IsUnwritten status.TooLarge
stopped_early = (tt, tt, tt, tt, tt)

-- A failed write doesn't keep a call from telling its cause.
no_write_stops : IsStopped status.WriteFault → ⊥
no_write_stops (inl read) = cc
no_write_stops (inr memory) = cc

-- ---- over a store that tells nothing: calls that read nothing of it are told all the same

abbrev tells_nothing : List ℕ → Option (List ℕ)
tells_nothing file = None

abbrev silent_call : List (List ℕ) → Call
silent_call words = record { asked = asks words [] (λ row. row); holds = tells_nothing; before = λ file. 0; after = λ file. 0 }

abbrev no_files : Held
no_files = record { script = []; files = [] }

no_words_are_told : Told (silent_call []) no_files
unfolding command_in
no_words_are_told = (refl, refl)

-- `make 5 1`
abbrev make_words : List (List ℕ)
make_words = codes "make" ∷ codes "5" ∷ codes "1" ∷ []

abbrev make : Make
make = record { options = record { chunk = 3072; limit = 16; workers = 4; max_bytes = 67108864 }; records = 5; seed = 1 }

is_making : command_of (silent_call make_words).asked ≡ Some (Makes make)
unfolding command_in make_of matched make_app make_found options_found number_of clap_on_literals
is_making = refl

a_making_is_told : Told (silent_call make_words) no_files
a_making_is_told =
    let P : Option Command → Type 0 = λ o. TellsScript tells_nothing (names_of o).script [] × (map tells_nothing (names_of o).files ≡ map Some []) in
    subst P (sym is_making) (refl, refl)
