-- What observers were told of, by what the steps of a call say of it.
use Rattle.std.proofs.Common.{◌≡◌, ◌⊎◌, ℕ, ◌≤◌, inl, inr, Bool, true, false, if◌then◌else◌, List, [], ◌++◌, length, Option, None, Some, Result, Ok, Err, IfOk, refl, sym, ap, subst, ◌∙◌, arith}
use Rattle.std.proofs.lemmas.List.{append-nil}
use Rattle.sym_base.specs.Trees.{ScriptTree}
use Rattle.sym_base.specs.declared.values.record.Record.{Record}
use Rattle.sym_check.specs.Plan.ScriptPlans.{ScriptPlan}
use Rattle.sym_check.specs.declared.elaborate.error.CheckErr.{CheckErr}
use Rattle.sym_check.specs.declared.elaborate.error.CheckErr.TheVariants as check_error
use Rattle.sym_files.specs.declared.error.PassErr.{PassErr}
use Rattle.sym_files.specs.declared.error.PassErr.TheVariants as pass_error
use Rattle.sym_files.specs.FileRecords.{FileRules}
use Rattle.sym_watched.specs.Partials.{AllGrew, ToldAll, ToldUntil, WatchedFiles, partials_of}
use Rattle.sym_files.specs.Passing.{Counts, Holds, May, StopsPass}
use Rattle.sym_watched.proofs.Logs.{part_whole}
use Rattle.sym_lex.specs.declared.error.LexFault.{LexFault}
use Rattle.sym_lex.specs.declared.error.LexFault.TheVariants as lex_fault
use Rattle.sym_parse.specs.declared.error.ParseErr.{ParseErr}
use Rattle.sym_parse.specs.declared.error.ParseErr.TheVariants as parse_error
use Rattle.sym_watch.specs.Logs.{Log}
use Rattle.sym_command.specs.Commands.{Command, Form, Run, Runs, command_in, command_of, file_rules, handed, is_handed}
use Rattle.sym_message.specs.declared.refusal.Refusal.{Refusal}
use Rattle.sym_message.specs.declared.status.Status.{Status}
use Rattle.sym_message.specs.declared.status.Status.TheVariants as status
use Rattle.sym_message.specs.Refusals.{check_refusal, parse_refusal, pass_refusal, status_of_refusal}
use Rattle.sym_message.specs.Telling.{Sunk}
use Rattle.sym_top.specs.declared.output.Output.{Output}
use Rattle.sym_top.specs.declared.output.Stop.{Stop}
use Rattle.sym_top.specs.Loading.{Loads, MayEnd, Unloads}
use Rattle.sym_top.specs.Loading as loading
use Rattle.sym_top.specs.Observers.{AreTold, AreToldAll, AreToldBefore, AreToldBy, AreToldOf, AreToldTo, AreToldUntil, AreUntold, at_files, at_script, FilesStop, IsObserved, Logs, run_files, watched_run}
use Rattle.sym_top.specs.Programs.{Program, IsNoProgram}
use Rattle.sym_top.specs.Programs as programs
use Rattle.sym_top.specs.Promises.{Call, IsReported, WriteFails}
use Rattle.sym_top.specs.Promises as promise

-- ---- the files
-- Where all rounds were told and an allocation fails after them, the partials told are a prefix of
-- those of the rounds that were done.
pub all_some : (tree : ScriptTree) (w : WatchedFiles) (olds news : List Log) → ToldAll tree w olds news →
    ToldUntil tree w olds news pass_error.NoMemory
all_some tree w olds news all = record {
  file = length w.names;
  rounds = all.rounds;
  done = all.done;
  others = [];
  begins = inl refl;
  so = part_whole (partials_of tree w.plan (all.rounds ++ [])) olds news
      (subst (λ (rs : List (List Record)). AllGrew olds news (partials_of tree w.plan rs)) (sym (append-nil all.rounds)) all.so);
}

-- Faults are counted since an earlier moment.
stops_earlier : (p : ScriptPlan) (rules : FileRules) (holds : Holds) (names : List (List ℕ)) (before middle after : Counts) →
    ((name : List ℕ) → before name ≤ middle name) → (why : PassErr) → StopsPass p rules holds names middle after why →
    StopsPass p rules holds names before after why
stops_earlier p rules holds names before middle after lower (pass_error.Read file) s = record {
  files = s.files;
  may = s.may;
  records = s.records;
  fine = s.fine;
  name = s.name;
  named = s.named;
  rose = omega (arith, lower s.name, s.rose);
}
stops_earlier p rules holds names before middle after lower (pass_error.TooLarge file) s = s
stops_earlier p rules holds names before middle after lower (pass_error.Head file fault) s = s
stops_earlier p rules holds names before middle after lower (pass_error.Bad file bad) s = s
stops_earlier p rules holds names before middle after lower pass_error.NoMemory s = s

-- ---- a run whose script was accepted
module _ (call : Call) (run : Run) (logs : Logs) (program : Program) (loads : Loads (call.holds run.script) program) where
  pub told_all : ToldAll program.tree (run_files call run program) logs.before logs.after → AreToldAll call run logs
  told_all told = record { program = program; loads = loads; told = told }

  pub told_to : (middle : Counts) → ((name : List ℕ) → call.before name ≤ middle name) → (why : Refusal) (cause : PassErr) →
      why ≡ pass_refusal cause → StopsPass program.plan (file_rules call.asked (Runs run)) call.holds run.files middle call.after cause →
      ToldUntil program.tree (run_files call run program) logs.before logs.after cause → AreToldTo call run logs why
  told_to middle lower why cause is stops told =
      subst (AreToldTo call run logs) (sym is)
      (at_files cause
      (record {
        program = program;
        loads = loads;
        stops = stops_earlier program.plan (file_rules call.asked (Runs run)) call.holds run.files call.before middle call.after lower cause stops;
        told = told;
      }))

-- ---- the status
module _ (call : Call) (run : Run) (logs : Logs) where
  all_until : AreToldAll call run logs → AreToldUntil call run logs pass_error.NoMemory
  all_until all = record {
    program = all.program;
    loads = all.loads;
    stops = tt;
    told = all_some all.program.tree (run_files call run all.program) logs.before logs.after all.told;
  }

  lex_told : (fault : LexFault) → AreUntold logs → AreToldBy call run logs (status_of_refusal (parse_refusal (parse_error.Lex fault)))
  lex_told (lex_fault.BadByte at) untold = untold
  lex_told (lex_fault.BadNumber at) untold = untold
  lex_told (lex_fault.LongName at) untold = untold
  lex_told (lex_fault.BadText at) untold = untold

  parse_told : (why : ParseErr) → AreUntold logs → AreToldBy call run logs (status_of_refusal (parse_refusal why))
  parse_told (parse_error.Lex fault) untold = lex_told fault untold
  parse_told (parse_error.Expected at) untold = untold
  parse_told (parse_error.Limit at which) untold = untold
  parse_told parse_error.NoMemory untold = inl untold

  check_told : (why : CheckErr) → AreUntold logs → AreToldBy call run logs (status_of_refusal (check_refusal why))
  check_told (check_error.Name at) untold = untold
  check_told (check_error.Twice at) untold = untold
  check_told (check_error.Kind at) untold = untold
  check_told (check_error.Range at) untold = untold
  check_told (check_error.NotLinear at) untold = untold
  check_told (check_error.Branchy paths) untold = untold
  check_told check_error.NoMemory untold = inl untold

  no_program_told : (text : List ℕ) (why : Refusal) → May (call.holds run.script) text → IsNoProgram text why → AreUntold logs →
      AreToldBy call run logs (status_of_refusal why)
  no_program_told text _ may (programs.too_large large) untold =
      inl (record { text = text; may = may; large = large; untold = untold })
  no_program_told text _ may (programs.unparsed why small is) untold = parse_told why untold
  no_program_told text _ may (programs.broken tree why small is breaks) untold = check_told why untold

  script_told : (why : Refusal) → Unloads (call.holds run.script) (call.before run.script) (call.after run.script) why → AreUntold logs →
      AreToldBy call run logs (status_of_refusal why)
  script_told _ (loading.refused text why may is) untold = no_program_told text why may is untold
  script_told _ (loading.unread rose) untold = inl (record { rose = rose; untold = untold })
  script_told _ loading.no_memory untold = inl untold

  files_told : (why : PassErr) → AreToldUntil call run logs why → AreToldBy call run logs (status_of_refusal (pass_refusal why))
  files_told (pass_error.Read file) until = inr (record { why = pass_error.Read file; status_is = refl; until = until })
  files_told (pass_error.TooLarge file) until = inr (record { why = pass_error.TooLarge file; status_is = refl; until = until })
  files_told (pass_error.Head file fault) until = record { why = pass_error.Head file fault; status_is = refl; until = until }
  files_told (pass_error.Bad file bad) until = record { why = pass_error.Bad file bad; status_is = refl; until = until }
  files_told pass_error.NoMemory until = inr (record { why = pass_error.NoMemory; status_is = refl; until = until })

  stop_told : (why : Refusal) → AreToldTo call run logs why → AreToldBy call run logs (status_of_refusal why)
  stop_told _ (at_script why unloads untold) = script_told why unloads untold
  stop_told _ (at_files why until) = files_told why until

  whole_told : (made : Status) → IsReported made → AreToldAll call run logs → AreToldBy call run logs made
  whole_told status.Done reported all = all
  whole_told status.Faulted reported all = all
  whole_told status.Usage reported all = absurd reported
  whole_told status.Script reported all = absurd reported
  whole_told status.Input reported all = absurd reported
  whole_told status.ReadFault reported all = absurd reported
  whole_told status.WriteFault reported all = absurd reported
  whole_told status.TooLarge reported all = absurd reported
  whole_told status.NoMemory reported all = absurd reported

  ended_told : {F : Type 0} (made : Result (Output F) Stop) (result : Status) → IfOk made (λ output. IsReported output.status) →
      MayEnd made result → AreToldBefore (Some run) call logs made → AreToldBy call run logs result
  ended_told (Ok output) result reported (inl same) all =
      subst (AreToldBy call run logs) (sym same) (whole_told output.status reported all)
  ended_told (Ok output) result reported (inr (inl same)) all = subst (AreToldBy call run logs) (sym same) all
  ended_told (Ok output) result reported (inr (inr same)) all =
      let until : FilesStop call run logs status.NoMemory = record { why = pass_error.NoMemory; status_is = refl; until = all_until all } in
      subst (AreToldBy call run logs) (sym same) (inr until)
  ended_told (Err stopped) result reported same stop =
      subst (AreToldBy call run logs) (sym same) (stop_told stopped.why stop)

-- What the observers of a call were told of in the end.
pub end_told : {F : Type 0} (call : Call) (logs : Logs) (made : Result (Output F) Stop) (result : Status) →
    IfOk made (λ output. IsReported output.status) → MayEnd made result → AreToldBefore (watched_run (command_of call.asked)) call logs made →
    AreTold call logs result
end_told call logs made result reported ends = go (watched_run (command_of call.asked))
  where
    go : (o : Option Run) → AreToldBefore o call logs made → AreToldOf o call logs result
    go None untold = untold
    go (Some run) told = ended_told call run logs made result reported ends told

-- ---- before anything is written

-- A run that is asked for without `--watch`.
pub run_unwatched : (command : Option Command) (run : Run) → command ≡ Some (Runs run) → watched_run command ≡ None → run.watch ≡ false
run_unwatched command run is none = go run.watch (sym (ap watched_run is) ∙ none)
  where
    go : (b : Bool) → (if b then Some run else None) ≡ None → b ≡ false
    go true e = let wrong : Some run ≡ None = e in cc
    go false e = refl

module _ {A W : Type 0} (call : Call) (logs : Logs) (observers observers_after : W) (made : Result A Stop) where
  -- A run, watched or not.
  pub run_observed : (run : Run) → command_of call.asked ≡ Some (Runs run) → (run.watch ≡ true → AreToldBefore (Some run) call logs made) →
      (run.watch ≡ false → observers_after ≡ observers) → (observers_after ≡ observers → AreUntold logs) →
      IsObserved call logs observers observers_after made
  run_observed run asked told unwatched untold = record {
    told = subst (λ (o : Option Command). AreToldBefore (watched_run o) call logs made) (sym asked) (go run.watch told unwatched);
    unwatched = λ none. unwatched (run_unwatched (command_of call.asked) run asked none);
  }
    where
      go : (b : Bool) → (b ≡ true → AreToldBefore (Some run) call logs made) → (b ≡ false → observers_after ≡ observers) →
          AreToldBefore (if b then Some run else None) call logs made
      go true told unwatched = told refl
      go false told unwatched = untold (unwatched refl)

-- ---- other commands
-- Arguments whose command isn't watched ask for none that is.
handed_unwatched : (forms : List Form) (command : Option Command) → watched_run command ≡ None → watched_run (handed forms command) ≡ None
handed_unwatched forms None none = refl
handed_unwatched forms (Some command) none = go (is_handed forms command)
  where
    go : (b : Bool) → watched_run (if b then Some command else None) ≡ None
    go true = none
    go false = refl

-- No observer was told where there is no run that is watched.
pub unwatched_observed : {A W : Type 0} (call : Call) (logs : Logs) (observers : W) (made : Result A Stop) (command : Option Command) →
    command_in call.asked.words ≡ command → watched_run command ≡ None → AreUntold logs → IsObserved call logs observers observers made
unwatched_observed call logs observers made command is none untold =
    let nothing : watched_run (command_of call.asked) ≡ None =
    ap (λ (o : Option Command). watched_run (handed call.asked.forms o)) is ∙ handed_unwatched call.asked.forms command none in
    record {
      told = subst (λ (o : Option Run). AreToldBefore o call logs made) (sym nothing) untold;
      unwatched = λ none. refl;
    }

-- No command: nor were they told.
pub unasked_observed : {A W : Type 0} (call : Call) (logs : Logs) (observers : W) (made : Result A Stop) → command_of call.asked ≡ None →
    AreUntold logs → IsObserved call logs observers observers made
unasked_observed call logs observers made none untold = record {
  told = subst (λ (o : Option Command). AreToldBefore (watched_run o) call logs made) (sym none) untold;
  unwatched = λ none. refl;
}

-- ---- the writing
pub cut_ends : (out : Sunk) (text : List ℕ) (made : Status) (why : Refusal) (result : Status) → WriteFails out text why →
    result ≡ status_of_refusal why → (result ≡ made) ⊎ ((result ≡ status.WriteFault) ⊎ (result ≡ status.NoMemory))
cut_ends out text made _ result (promise.failed prefix rose) same = inr (inl same)
cut_ends out text made _ result (promise.short prefix rose) same = inr (inr same)

-- ---- no memory for the arguments
pub memory_told : (call : Call) (logs : Logs) (result : Status) → result ≡ status.NoMemory → AreUntold logs → AreTold call logs result
memory_told call logs result same untold = subst (AreTold call logs) (sym same) (go (watched_run (command_of call.asked)))
  where
    go : (o : Option Run) → AreToldOf o call logs status.NoMemory
    go None = untold
    go (Some run) = inl untold
