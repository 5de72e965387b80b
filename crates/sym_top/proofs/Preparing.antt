-- What each exit before the writing of a report says of the run.
use Rattle.std.proofs.Common.{◌≡◌, ◌≢◌, ℕ, ◌+◌, ◌<◌, ◌≤◌, inl, inr, Bool, List, [], ◌∷◌, ◌++◌, map, length, replicate, Option, None, Some, Result, Ok, Err, IfOk, IfErr, IfSome, slice_get, if◌then◌else◌, refl, sym, ap, subst, ◌∙◌, arith}
use Rattle.std.proofs.lemmas.List.{length-replicate}
use Rattle.sym_base.specs.Counts.{Rose}
use Rattle.sym_base.specs.declared.limits.TheConstants as limit
use Rattle.sym_base.specs.Trees.{ScriptTree}
use Rattle.sym_base.specs.declared.edge.read.ReadErr.{ReadErr}
use Rattle.sym_base.specs.declared.edge.read.ReadErr.TheVariants as read_error
use Rattle.sym_base.specs.declared.edge.sink.SinkErr.{SinkErr}
use Rattle.sym_base.specs.declared.edge.sink.SinkErr.TheVariants as sink_error
use Rattle.sym_base.specs.declared.values.record.Record.{Record}
use Rattle.sym_base.specs.declared.values.value.Key.{Key}
use Rattle.sym_base.specs.declared.values.state.Outcome.{Outcome}
use Rattle.sym_parse.specs.declared.error.ParseErr.{ParseErr}
use Rattle.sym_parse.specs.declared.error.ParseErr.TheVariants as parse_error
use Rattle.sym_parse.specs.Answers.{IsScriptOf, parsed}
use Rattle.sym_check.specs.Rules.Scripts.{BreaksScript}
use Rattle.sym_check.specs.declared.checked.accepted.Checked.{Checked}
use Rattle.sym_check.specs.declared.elaborate.error.CheckErr.{CheckErr}
use Rattle.sym_check.specs.declared.elaborate.error.CheckErr.TheVariants as check_error
use Rattle.sym_files.specs.declared.error.PassErr.{PassErr}
use Rattle.sym_files.specs.declared.error.PassErr.TheVariants as pass_error
use Rattle.sym_files.specs.FileRecords.{FileRules, rules_of}
use Rattle.sym_files.specs.FirstProblems.{AllFine, FirstProblem, no_file}
use Rattle.sym_files.specs.Passing.{AllRead, Holds, Counts, May, MayAll, HasFirstProblem, StopsFrom, StopsPass}
use Rattle.sym_passes.specs.Passed.{PassedAll}
use Rattle.sym_passes.specs.Saving.{SavedAll}
use Rattle.sym_file.specs.Stored.{IsStored}
use Rattle.sym_file.specs.Texts.{saved_text}
use Rattle.sym_parse.specs.Printed.{script_text}
use Rattle.sym_reduce.specs.declared.error.ReduceErr.{ReduceErr}
use Rattle.sym_reduce.specs.declared.error.ReduceErr.TheVariants as reduce_error
use Rattle.sym_reduce.specs.Joining.{AreRunFiles, HasJoinProblem, JoinedAll, StopsJoin}
use Rattle.sym_file.specs.TakenTexts.{Pairs}
use Rattle.sym_reduce.specs.Reducing.{AreReduced, HasFirstRunProblem, ReducedAll, StopsReduce}
use Rattle.sym_report.specs.Forms.{FormTexts, report_text}
use Rattle.sym_run.specs.Runs.{AreTight}
use Rattle.sym_run.specs.SavedRuns.{IsLawfulSaved}
use Rattle.sym_run.specs.declared.saved.Saved.{Saved}
use Rattle.sym_report.specs.ReportRows.{heads_of, row_of, some_faulty}
use Rattle.sym_table.specs.Reading.{Row}
use Rattle.sym_trace.specs.TraceReports.{trace_heads, trace_rows}
use Rattle.sym_trace.specs.Tracing.{IsTraceReport}
use Rattle.sym_command.specs.declared.place.Place.TheVariants as place
use Rattle.sym_command.specs.declared.commands.Command.{Command as CommandRead}
use Rattle.sym_command.specs.Commands.{Command, Checks, Makes, Maps, Reduces, Joins, FileNames, ReadsRecords, command_of, file_rules, first_no, name_at, names_of, shown_names, texts_of}
use Rattle.sym_command.specs.declared.commands.Command.TheVariants as command
use Rattle.sym_command.specs.declared.commands.Check.{Check as CheckRead}
use Rattle.sym_command.specs.declared.commands.Make.{Make as MakeRead}
use Rattle.sym_command.specs.declared.commands.Map.{Map as MapRead}
use Rattle.sym_command.specs.declared.commands.Reduce.{Reduce as ReduceRead}
use Rattle.sym_command.specs.declared.commands.Join.{Join as JoinRead}
use Rattle.sym_command.specs.Words.{command_seen, check_seen, make_seen, map_seen, reduce_seen, join_seen}
use Rattle.sym_message.specs.declared.refusal.Refusal.{Refusal}
use Rattle.sym_message.specs.declared.refusal.Refusal.TheVariants as refusal
use Rattle.sym_message.specs.declared.status.Status.{Status}
use Rattle.sym_message.specs.declared.status.Status.TheVariants as status
use Rattle.sym_message.specs.Messages.{headers_of, line_of}
use Rattle.sym_message.specs.Refusals.{parse_refusal, check_refusal, read_refusal, pass_refusal, write_refusal}
use Rattle.sym_message.specs.Summaries.{summary_text}
use Rattle.sym_message.specs.Telling.{Sunk, HasPrefix, Failed, Short}
use Rattle.sym_top.specs.Ends.{End, Held, IsWhole, status_of, IsTextOf, report_in, said, summed, mapped, usage, no_program, problem, finished, run_problem, reduced, join_problem, runs_joined, joined, Joined, script_of, files_of, group_rows, groups_end, report_of, trace_report_of, rows_of, rows_status, said_of, whole_end}
use Rattle.sym_top.specs.declared.output.Output.{Output}
use Rattle.sym_top.specs.declared.output.Stop.{Stop}
use Rattle.sym_top.specs.Loading.{ComesTo, IsPrepared, MayRefuse, Loads, Unloads, refused, unread, no_memory, Passed, StopsRecords, first, no_more, Ready, Stops}
use Rattle.sym_top.specs.Making.{made_file, made_script}
use Rattle.sym_top.specs.Programs.{Program, IsProgram, IsNoProgram, checked_program, program_headers, headers_in}
use Rattle.sym_top.specs.Programs as programs
use Rattle.sym_top.specs.Promises.{Call, MayHold, MayScript, ReadFailed, IsStop, WriteFails, call_line, call_names, call_script}
use Rattle.sym_top.specs.Promises as promise
use Rattle.sym_top.specs.RunFileRefusals.{reduce_refusal}
use Rattle.sym_top.specs.SavedFiles.{IsJoined, IsMapped}
use Rattle.sym_top.proofs.ProgramsFound.{parsed-unparsed, program-found, none-found}

-- ---- the script

pub unparsed-refuses : (text : List ℕ) (why : ParseErr) → length text ≤ limit.SCRIPT_MAX →
    (why ≢ parse_error.NoMemory → parsed text ≡ Err why) → MayRefuse text (parse_refusal why)
unparsed-refuses text (parse_error.Lex fault) small g =
    inr (programs.unparsed (parse_error.Lex fault) small (parsed-unparsed text (parse_error.Lex fault) (g (λ h. cc))))
unparsed-refuses text (parse_error.Expected at) small g =
    inr (programs.unparsed (parse_error.Expected at) small (parsed-unparsed text (parse_error.Expected at) (g (λ h. cc))))
unparsed-refuses text (parse_error.Limit at which) small g =
    inr (programs.unparsed (parse_error.Limit at which) small (parsed-unparsed text (parse_error.Limit at which) (g (λ h. cc))))
unparsed-refuses text parse_error.NoMemory small g = inl refl

pub broken-refuses : (text : List ℕ) (tree : ScriptTree) (why : CheckErr) → length text ≤ limit.SCRIPT_MAX →
    IsScriptOf text tree → (why ≢ check_error.NoMemory → BreaksScript tree why) → MayRefuse text (check_refusal why)
broken-refuses text tree (check_error.Name at) small is g =
    inr (programs.broken tree (check_error.Name at) small is (g (λ h. cc)))
broken-refuses text tree (check_error.Twice at) small is g =
    inr (programs.broken tree (check_error.Twice at) small is (g (λ h. cc)))
broken-refuses text tree (check_error.Kind at) small is g =
    inr (programs.broken tree (check_error.Kind at) small is (g (λ h. cc)))
broken-refuses text tree (check_error.Range at) small is g =
    inr (programs.broken tree (check_error.Range at) small is (g (λ h. cc)))
broken-refuses text tree (check_error.NotLinear at) small is g =
    inr (programs.broken tree (check_error.NotLinear at) small is (g (λ h. cc)))
broken-refuses text tree (check_error.Branchy paths) small is g =
    inr (programs.broken tree (check_error.Branchy paths) small is (g (λ h. cc)))
broken-refuses text tree check_error.NoMemory small is g = inl refl

zeros : (n : ℕ) → (bytes : List ℕ) × (length bytes ≡ n)
zeros n = (replicate n 0, length-replicate n 0)

large-unloads : (told : Option (List ℕ)) (before after : ℕ) →
    IfSome told (λ bytes. limit.SCRIPT_MAX < length bytes) → Unloads told before after (refusal.TooLarge place.Script)
large-unloads None before after h =
    let z = zeros (limit.SCRIPT_MAX + 1) in
    refused z.0 (refusal.TooLarge place.Script) tt (programs.too_large (omega (arith, z.1)))
large-unloads (Some bytes) before after h =
    refused bytes (refusal.TooLarge place.Script) refl (programs.too_large h)

pub unread-unloads : (told : Option (List ℕ)) (before after : ℕ) (why : ReadErr) →
    (why ≡ read_error.TooLarge → IfSome told (λ bytes. limit.SCRIPT_MAX < length bytes)) →
    (why ≡ read_error.Failed → Rose before after) → Unloads told before after (read_refusal place.Script why)
unread-unloads told before after read_error.Failed large failed = unread (failed refl)
unread-unloads told before after read_error.TooLarge large failed = large-unloads told before after (large refl)
unread-unloads told before after read_error.NoMemory large failed = no_memory

pub read-may : (told : Option (List ℕ)) (text : List ℕ) → IfSome told (λ bytes. text ≡ bytes) → May told text
read-may None text h = tt
read-may (Some bytes) text h = h

pub loads-by : (told : Option (List ℕ)) (text : List ℕ) (r : Result Checked Stop) → May told text →
    IfOk r (λ checked. IsProgram text (checked_program checked)) → IfOk r (λ checked. Loads told (checked_program checked))
loads-by told text (Ok checked) may is = record { text = text; may = may; is_program = is }
loads-by told text (Err stopped) may is = tt

pub unloads-by : (told : Option (List ℕ)) (before after : ℕ) (text : List ℕ) (r : Result Checked Stop) → May told text →
    IfErr r (λ stopped. MayRefuse text stopped.why) → IfErr r (λ stopped. Unloads told before after stopped.why)
unloads-by told before after text (Ok checked) may is = tt
unloads-by told before after text (Err stopped) may (inl same) = subst (Unloads told before after) (sym same) no_memory
unloads-by told before after text (Err stopped) may (inr is) = refused text stopped.why may is

-- ---- the files

-- This status and this text are those of the end that the records come to of files which the names
-- may hold.
pub record Reports (end : List Record → End) (program : Program) (rules : FileRules)
    (holds : Holds) (names : List (List ℕ)) (status : Status) (text : List ℕ) : Type 0 where
  pub files : List (List ℕ)
  pub may : MayAll holds names files
  pub records : List Record
  pub fine : AllFine program.plan rules 1 files records
  pub status_is : status ≡ status_of (end records)
  pub text_is : IsTextOf (end records) text

pub reports-by : (form : FormTexts) (program : Program) (rules : FileRules) (holds : Holds) (names : List (List ℕ)) (groups : List (Key × Outcome))
    (faulty : Bool) (made : Status) (text : List ℕ) → PassedAll program.plan rules holds names groups →
    text ≡ report_text form (heads_of program.tree program.plan) (map (row_of program.tree program.plan) groups) →
    faulty ≡ some_faulty (map (row_of program.tree program.plan) groups) →
    made ≡ (if faulty then status.Faulted else status.Done) →
    Reports (report_of form program) program rules holds names made text
reports-by form program rules holds names groups faulty made text passed text_is faulty_is made_is =
    let row = row_of program.tree program.plan in
    let heads = heads_of program.tree program.plan in
    record {
      files = passed.files;
      may = passed.may;
      records = passed.records;
      fine = passed.fine;
      status_is = made_is ∙ ap (λ b. if b then status.Faulted else status.Done) (faulty_is ∙ ap (λ gs. some_faulty (map row gs)) passed.stands);
      text_is = subst (IsTextOf (report_of form program passed.records)) (sym (text_is ∙ ap (λ gs. report_text form heads (map row gs)) passed.stands))
          (report_in form heads (rows_of program passed.records));
    }

-- The report of a trace, gathered in a form that had no bytes.
pub trace-reports-by : (form : FormTexts) (program : Program) (every : ℕ) (rules : FileRules) (holds : Holds) (names : List (List ℕ)) (before text : List ℕ)
    (faulty : Bool) (made : Status) → before ≡ [] →
    AllRead program.plan rules holds names 1 (IsTraceReport program.tree program.plan every form before text faulty) →
    made ≡ (if faulty then status.Faulted else status.Done) →
    Reports (trace_report_of form program every) program rules holds names made text
trace-reports-by form program every rules holds names before text faulty made empty all made_is =
    let heads = trace_heads program.tree program.plan in
    let rows = trace_rows program.tree program.plan every all.records in
    record {
      files = all.files;
      may = all.may;
      records = all.records;
      fine = all.fine;
      status_is = made_is ∙ ap (λ b. if b then status.Faulted else status.Done) all.stands.fault;
      text_is = subst (IsTextOf (trace_report_of form program every all.records))
          (sym (all.stands.text ∙ ap (λ (start : List ℕ). start ++ report_text form heads rows) empty)) (report_in form heads rows);
    }

-- ---- all of it

-- Some bytes that a file may hold.
pub some-bytes : (told : Option (List ℕ)) → (bytes : List ℕ) × May told bytes
some-bytes None = ([], tt)
some-bytes (Some bytes) = (bytes, refl)

pub some-files : (holds : Holds) (names : List (List ℕ)) → (files : List (List ℕ)) × MayAll holds names files
some-files holds [] = ([], tt)
some-files holds (name ∷ names) =
    let one = some-bytes (holds name) in
    let rest = some-files holds names in
    (one.0 ∷ rest.0, (one.1, rest.1))

-- Why a text isn't written whole.
pub fails-by : (out : Sunk) (text : List ℕ) (why : SinkErr) → HasPrefix out text → (why ≡ sink_error.Failed → Failed out) →
    (why ≡ sink_error.NoMemory → Short out) → WriteFails out text (write_refusal why)
fails-by out text sink_error.Failed prefix bad full = promise.failed prefix (bad refl)
fails-by out text sink_error.NoMemory prefix bad full = promise.short prefix (full refl)

some-script : (holds : Holds) (name : Option (List ℕ)) → (text : List ℕ) × MayScript holds name text
some-script holds None = ([], refl)
some-script holds (Some name) = some-bytes (holds name)

-- Some bytes that the files of a call may hold.
some-held : (call : Call) → (held : Held) × MayHold call held
some-held call =
    let text = some-script call.holds (call_names call).script in
    let others = some-files call.holds (call_names call).files in
    (record { script = text.0; files = others.0 }, (text.1, others.1))

-- A call that stops for want of a command, or of memory.
pub usage-stops : (call : Call) (command : Option CommandRead) → command_of call.asked ≡ None →
    Stops call command (record { why = refusal.Usage; checked = None })
usage-stops call command asked =
    let held = some-held call in
    record {
      held = held.0;
      may = held.1;
      stop = promise.at_end refusal.Usage (usage asked);
      line = refl;
    }

pub memory-stops : (call : Call) (command : Option CommandRead) (checked : Option Checked) →
    Stops call command (record { why = refusal.NoMemory; checked = checked })
memory-stops call command checked =
    let held = some-held call in
    record {
      held = held.0;
      may = held.1;
      stop = promise.no_memory;
      line = refl;
    }

-- ---- what a command comes to, with and without the store

module _ {F S : Type 0} (call : Call) (gathered : F → List ℕ) (command : Option CommandRead) where
  pub some-prepared : (asks : Command) (files files_after : S) (made : Result (Output F) Stop) → command_of call.asked ≡ Some asks →
      ComesTo call gathered command made → IsPrepared call gathered command files files_after made
  some-prepared asks files files_after made some comes = record {
    comes_to = comes;
    unread = λ none. let e : Some asks ≡ None = sym some ∙ none in cc;
  }

  -- The same of an equal command.
  pub same-prepared : (other : Option CommandRead) (files files_after : S) (made : Result (Output F) Stop) → command ≡ other →
      IsPrepared call gathered other files files_after made → IsPrepared call gathered command files files_after made
  same-prepared other files files_after made same prepared =
      subst (λ (o : Option CommandRead). IsPrepared call gathered o files files_after made) (sym same) prepared

  pub usage-prepared : (files : S) (stopped : Stop) → stopped ≡ record { why = refusal.Usage; checked = None } → command_of call.asked ≡ None →
      IsPrepared call gathered command files files (Err stopped)
  usage-prepared files stopped is none = record {
    comes_to = subst (Stops call command) (sym is) (usage-stops call command none);
    unread = λ usage. refl;
  }

-- This status and this text are those of the end.
pub record IsWholeEnd (end : End) (status : Status) (text : List ℕ) : Type 0 where
  pub whole : IsWhole end
  pub status_is : status ≡ status_of end
  pub text_is : IsTextOf end text

-- A call that asks for this command.
module _ (call : Call) (read : CommandRead) (asked : command_of call.asked ≡ Some (command_seen read)) where
  named-line : (held : Held) (headers : List (List ℕ)) (why : Refusal) → headers ≡ headers_in (script_of (command_seen read) held) →
      line_of (shown_names (Some (command_seen read))) headers why ≡ call_line call held why
  named-line held headers why known =
      ap (λ hs. line_of (shown_names (Some (command_seen read))) hs why) known
      ∙ ap (λ o. line_of (shown_names o) (headers_in (call_script o held)) why) (sym asked)

  -- The line of a refusal that speaks of no field.
  bare-line : (held : Held) (why : Refusal) →
      line_of (shown_names (Some (command_seen read))) (headers_in (script_of (command_seen read) held)) why ≡ call_line call held why
  bare-line held why = named-line held (headers_in (script_of (command_seen read) held)) why refl

  -- It is refused for its script, or for its files, which have these bytes.
  pub refused-stops : (held : Held) (why : Refusal) → MayHold call held → IsNoProgram (script_of (command_seen read) held) why →
      Stops call (Some read) (record { why = why; checked = None })
  refused-stops held why may is = record {
    held = held;
    may = may;
    stop = promise.at_end why (no_program (command_seen read) why asked is);
    line = named-line held [] why (ap program_headers (sym (none-found (script_of (command_seen read) held) why is)));
  }

  pub known-stops : (held : Held) (checked : Checked) (why : Refusal) → MayHold call held →
      IsProgram (script_of (command_seen read) held) (checked_program checked) → IsStop call held why →
      Stops call (Some read) (record { why = why; checked = Some checked })
  known-stops held checked why may is stop = record {
    held = held;
    may = may;
    stop = stop;
    line = named-line held (headers_of (checked_program checked).plan.fields) why
        (ap program_headers (sym (program-found (script_of (command_seen read) held) (checked_program checked) is)));
  }

  pub whole-ready : (held : Held) (program : Program) (records : List Record) (status : Status) (text : List ℕ) → MayHold call held →
      IsProgram (script_of (command_seen read) held) program →
      ReadsRecords (command_seen read) →
      AllFine program.plan (file_rules call.asked (command_seen read)) (first_no (command_seen read)) (files_of (command_seen read) held) records →
      IsWholeEnd (whole_end call.asked (command_seen read) program records) status text → Ready call status text
  whole-ready held program records status text may is reads fine end = record {
    held = held;
    may = may;
    has = record {
      end = whole_end call.asked (command_seen read) program records;
      is_end = finished (command_seen read) program records asked is reads fine;
      whole = end.whole;
      status_is = end.status_is;
      text_is = end.text_is;
    };
  }

  -- Its script has this name.
  module _ (name : List ℕ) (named : (names_of (Some (command_seen read))).script ≡ Some name)
      (own : (held : Held) → script_of (command_seen read) held ≡ held.script) where
    pub may-by : (held : Held) → May (call.holds name) held.script → MayAll call.holds (names_of (Some (command_seen read))).files held.files → MayHold call held
    may-by held script files =
        let P : FileNames → Type 0 = λ names. MayScript call.holds names.script held.script × MayAll call.holds names.files held.files in
        let text : MayScript call.holds (names_of (Some (command_seen read))).script held.script = subst (λ o. MayScript call.holds o held.script) (sym named) script in
        subst P (sym (ap names_of asked)) (text, files)

    script-failed : Rose (call.before name) (call.after name) → ReadFailed call place.Script
    script-failed rose = record {
      name = name;
      named = ap (λ o. name_at (names_of o) place.Script) asked ∙ named;
      rose = rose;
    }

    pub load-stops : (why : Refusal) → Unloads (call.holds name) (call.before name) (call.after name) why →
        Stops call (Some read) (record { why = why; checked = None })
    load-stops _ (refused text why may is) =
        let others = some-files call.holds (names_of (Some (command_seen read))).files in
        let held : Held = record { script = text; files = others.0 } in
        refused-stops held why (may-by held may others.1) (subst (λ t. IsNoProgram t why) (sym (own held)) is)
    load-stops _ (unread rose) =
        let text = some-bytes (call.holds name) in
        let others = some-files call.holds (names_of (Some (command_seen read))).files in
        let held : Held = record { script = text.0; files = others.0 } in
        record {
          held = held;
          may = may-by held text.1 others.1;
          stop = promise.script_unread (script-failed rose);
          line = bare-line held (refusal.Read place.Script);
        }
    load-stops _ no_memory = memory-stops call (Some read) None

-- ---- a command that reads a script and files

module _ (call : Call) (read : CommandRead) (asked : command_of call.asked ≡ Some (command_seen read)) (name : List ℕ) (names : List (List ℕ))
    (named : names_of (Some (command_seen read)) ≡ record { script = Some name; files = names })
    (own : (held : Held) → script_of (command_seen read) held ≡ held.script) where
  script-named : (names_of (Some (command_seen read))).script ≡ Some name
  script-named = ap (λ (ns : FileNames). ns.script) named

  file-failed : (number : ℕ) (file : List ℕ) → slice_get names number ≡ Some file → Rose (call.before file) (call.after file) →
      ReadFailed call (place.File number)
  file-failed number file found rose = record {
    name = file;
    named = ap (λ o. name_at (names_of o) (place.File number)) asked ∙ ap (λ (ns : FileNames). name_at ns (place.File number)) named ∙ found;
    rose = rose;
  }

  pub reading-load-stops : (stopped : Stop) → stopped.checked ≡ None → Unloads (call.holds name) (call.before name) (call.after name) stopped.why →
      Stops call (Some read) stopped
  reading-load-stops stopped none unloads =
      subst (λ (checked : Option Checked). Stops call (Some read) (record { why = stopped.why; checked = checked })) (sym none)
      (load-stops call read asked name script-named own stopped.why unloads)

  reading-may : (held : Held) → May (call.holds name) held.script → MayAll call.holds names held.files → MayHold call held
  reading-may held script files =
      may-by call read asked name script-named own held script
      (subst (λ (ns : List (List ℕ)). MayAll call.holds ns held.files) (sym (ap (λ (ns : FileNames). ns.files) named)) files)

  own-program : (held : Held) (program : Program) → IsProgram held.script program → IsProgram (script_of (command_seen read) held) program
  own-program held program is = subst (λ (text : List ℕ). IsProgram text program) (sym (own held)) is

  -- What stops it after its script was accepted.
  module _ (checked : Checked) (middle : Counts) (lower : (file : List ℕ) → call.before file ≤ middle file)
      (loads : Loads (call.holds name) (checked_program checked)) where
    known : (why : Refusal) (files : List (List ℕ)) → MayAll call.holds names files →
        IsStop call (record { script = loads.text; files = files }) why →
        Stops call (Some read) (record { why = why; checked = Some checked })
    known why files may stop =
        let held : Held = record { script = loads.text; files = files } in
        known-stops call read asked held checked why (reading-may held loads.may may) (own-program held (checked_program checked) loads.is_program) stop

-- ---- a command that reads files of records

module _ (call : Call) (read : CommandRead) (asked : command_of call.asked ≡ Some (command_seen read)) (name : List ℕ) (names : List (List ℕ))
    (named : names_of (Some (command_seen read)) ≡ record { script = Some name; files = names })
    (own : (held : Held) → script_of (command_seen read) held ≡ held.script) (reads : ReadsRecords (command_seen read))
    (its : (held : Held) → files_of (command_seen read) held ≡ held.files) where
  pub reading-ready : first_no (command_seen read) ≡ 1 → (program : Program) (status : Status) (text : List ℕ) → Loads (call.holds name) program →
      ((records : List Record) → IsWhole (whole_end call.asked (command_seen read) program records)) →
      Reports (whole_end call.asked (command_seen read) program) program (file_rules call.asked (command_seen read)) call.holds names status text →
      Ready call status text
  reading-ready one program status text loads whole reports =
      let held : Held = record { script = loads.text; files = reports.files } in
      whole-ready call read asked held program reports.records status text (reading-may call read asked name names named own held loads.may reports.may)
      (own-program call read asked name names named own held program loads.is_program) reads
      (subst (λ (no : ℕ). AllFine program.plan (file_rules call.asked (command_seen read)) no (files_of (command_seen read) held) reports.records) (sym one)
      (subst (λ (fs : List (List ℕ)). AllFine program.plan (file_rules call.asked (command_seen read)) 1 fs reports.records) (sym (its held)) reports.fine))
      (record { whole = whole reports.records; status_is = reports.status_is; text_is = reports.text_is })

  -- What stops it after its script was accepted.
  module _ (checked : Checked) (middle : Counts) (lower : (file : List ℕ) → call.before file ≤ middle file)
      (loads : Loads (call.holds name) (checked_program checked)) where
    problem-stops : (why : PassErr) →
        HasFirstProblem (checked_program checked).plan (file_rules call.asked (command_seen read)) call.holds names (first_no (command_seen read)) why →
        Stops call (Some read) (record { why = pass_refusal why; checked = Some checked })
    problem-stops why s =
        let held : Held = record { script = loads.text; files = s.files } in
        known call read asked name names named own checked middle lower loads (pass_refusal why) s.files s.may
        (promise.at_end (pass_refusal why)
        (problem (command_seen read) (checked_program checked) why asked (own-program call read asked name names named own held (checked_program checked) loads.is_program)
        (subst (λ (fs : List (List ℕ)). FirstProblem (checked_program checked).plan (file_rules call.asked (command_seen read)) 0 (first_no (command_seen read)) fs why) (sym (its held)) s.problem)))

    pub reading-error-stops : (why : PassErr) →
        StopsFrom (first_no (command_seen read)) (checked_program checked).plan (file_rules call.asked (command_seen read)) call.holds names middle call.after why →
        Stops call (Some read) (record { why = pass_refusal why; checked = Some checked })
    reading-error-stops (pass_error.Read file) s =
        let held : Held = record { script = loads.text; files = s.files } in
        known call read asked name names named own checked middle lower loads (refusal.Read (place.File file)) s.files s.may
        (promise.file_unread (command_seen read) (checked_program checked) s.records file asked
        (own-program call read asked name names named own held (checked_program checked) loads.is_program) reads s.fine
        (file-failed call read asked name names named own file s.name s.named (omega (arith, lower s.name, s.rose))))
    reading-error-stops (pass_error.TooLarge file) s = problem-stops (pass_error.TooLarge file) s
    reading-error-stops (pass_error.Head file fault) s = problem-stops (pass_error.Head file fault) s
    reading-error-stops (pass_error.Bad file bad) s = problem-stops (pass_error.Bad file bad) s
    reading-error-stops pass_error.NoMemory s = memory-stops call (Some read) (Some checked)

    pub reading-files-stop : (why : Refusal) (cause : PassErr) → why ≡ pass_refusal cause →
        StopsFrom (first_no (command_seen read)) (checked_program checked).plan (file_rules call.asked (command_seen read)) call.holds names middle call.after cause →
        Stops call (Some read) (record { why = why; checked = Some checked })
    reading-files-stop why cause is s =
        subst (λ (w : Refusal). Stops call (Some read) (record { why = w; checked = Some checked })) (sym is) (reading-error-stops cause s)

-- ---- a saved run

-- This text is that of a saved run of the records of files which the names may hold.
abbrev pub MapsFiles : Program → FileRules → Holds → List (List ℕ) → ℕ → ℕ → List ℕ → Type 0
MapsFiles program rules holds names from limit text =
    AllRead program.plan rules holds names from
    (λ records. IsMapped program from limit records text)

pub maps-by : (program : Program) (rules : FileRules) (holds : Holds) (names : List (List ℕ)) (from limit : ℕ) (saved : Saved) (text : List ℕ)
    → SavedAll program.plan rules holds names from saved → IsLawfulSaved program.plan saved → AreTight program.plan limit saved.groups
    → text ≡ saved_text (script_text program.tree) saved → IsStored saved → MapsFiles program rules holds names from limit text
maps-by program rules holds names from limit saved text all lawful tight text_is stored = record {
  files = all.files;
  may = all.may;
  records = all.records;
  fine = all.fine;
  stands = record {
    saved = saved;
    file = record { is = record { lawful = lawful; text = text_is }; stored = stored };
    first_is = all.stands.0;
    stands = all.stands.1;
    tight = tight;
  };
}

pub map-ready : (call : Call) (read : MapRead) → command_of call.asked ≡ Some (Maps (map_seen read)) →
    (program : Program) (text : List ℕ) → Loads (call.holds read.script.now) program →
    MapsFiles program (file_rules call.asked (Maps (map_seen read))) call.holds (map_seen read).files read.first read.options.limit text →
    Ready call status.Done text
map-ready call read asked program text loads maps =
    let held : Held = record { script = loads.text; files = maps.files } in
    whole-ready call (command.Map read) asked held program maps.records status.Done text
    (reading-may call (command.Map read) asked read.script.now (map_seen read).files refl (λ h. refl) held loads.may maps.may) loads.is_program tt maps.fine
    (record { whole = tt; status_is = refl; text_is = mapped program read.first read.options.limit maps.records text maps.stands })

-- ---- a join of saved runs

-- This text is that of the join of the saved runs of files which the names may hold.
pub record JoinsFiles (program : Program) (max_bytes limit : ℕ) (holds : Holds)
    (names : List (List ℕ)) (text : List ℕ) : Type 0 where
  pub files : List (List ℕ)
  pub may : MayAll holds names files
  pub runs : List Saved
  pub are : AreRunFiles (script_text program.tree) program.plan max_bytes files runs
  pub text_is : IsJoined program limit runs text

pub joins-by : (program : Program) (max_bytes limit : ℕ) (holds : Holds) (names : List (List ℕ)) (saved : Saved) (text : List ℕ)
    → JoinedAll (script_text program.tree) program.plan max_bytes limit holds names saved
    → text ≡ saved_text (script_text program.tree) saved → IsStored saved → JoinsFiles program max_bytes limit holds names text
joins-by program max_bytes limit holds names saved text all text_is stored = record {
  files = all.files;
  may = all.may;
  runs = all.runs;
  are = all.are;
  text_is = record { saved = saved; text = text_is; stored = stored; joins = all.joins };
}

module _ (call : Call) (read : JoinRead) (asked : command_of call.asked ≡ Some (Joins (join_seen read))) where
  pub join-ready : (program : Program) (text : List ℕ) → Loads (call.holds read.script.now) program →
      JoinsFiles program read.max_bytes read.limit call.holds (join_seen read).files text →
      Ready call status.Done text
  join-ready program text loads joins =
      let held : Held = record { script = loads.text; files = joins.files } in
      record {
        held = held;
        may = reading-may call (command.Join read) asked read.script.now (join_seen read).files refl (λ h. refl) held loads.may joins.may;
        has = record {
          end = Joined program read.limit joins.runs;
          is_end = runs_joined (join_seen read) program joins.runs asked loads.is_program joins.are;
          whole = tt;
          status_is = refl;
          text_is = joined program read.limit joins.runs text joins.text_is;
        };
      }

  -- What stops it after its script was accepted.
  module _ (checked : Checked) (middle : Counts) (lower : (name : List ℕ) → call.before name ≤ middle name)
      (loads : Loads (call.holds read.script.now) (checked_program checked)) where
    joins-known : (why : Refusal) (files : List (List ℕ)) → MayAll call.holds (join_seen read).files files →
        IsStop call (record { script = loads.text; files = files }) why →
        Stops call (Some (command.Join read)) (record { why = why; checked = Some checked })
    joins-known = known call (command.Join read) asked read.script.now (join_seen read).files refl (λ held. refl) checked middle lower loads

    join-problem-stops : (why : ReduceErr) →
        HasJoinProblem (script_text (checked_program checked).tree) (checked_program checked).plan read.max_bytes call.holds (join_seen read).files why →
        Stops call (Some (command.Join read)) (record { why = reduce_refusal why; checked = Some checked })
    join-problem-stops why s =
        joins-known (reduce_refusal why) s.files s.may
        (promise.at_end (reduce_refusal why) (join_problem (join_seen read) (checked_program checked) why asked loads.is_program s.problem))

    join-error-stops : (why : ReduceErr) →
        StopsJoin (script_text (checked_program checked).tree) (checked_program checked).plan read.max_bytes call.holds (join_seen read).files middle call.after why →
        Stops call (Some (command.Join read)) (record { why = reduce_refusal why; checked = Some checked })
    join-error-stops (reduce_error.Read file) s =
        joins-known (refusal.Read (place.File file)) s.files s.may
        (promise.join_unread (join_seen read) (checked_program checked) s.runs file asked loads.is_program s.are
        (file-failed call (command.Join read) asked read.script.now (join_seen read).files refl (λ held. refl) file s.name s.named (omega (arith, lower s.name, s.rose))))
    join-error-stops (reduce_error.TooLarge file) s = join-problem-stops (reduce_error.TooLarge file) s
    join-error-stops (reduce_error.OtherScript file) s = join-problem-stops (reduce_error.OtherScript file) s
    join-error-stops (reduce_error.Malformed file) s = join-problem-stops (reduce_error.Malformed file) s
    join-error-stops (reduce_error.Apart file) s = join-problem-stops (reduce_error.Apart file) s
    join-error-stops (reduce_error.Gap file group) s = absurd s
    join-error-stops reduce_error.NoMemory s = memory-stops call (Some (command.Join read)) (Some checked)

    pub join-files-stop : (why : Refusal) (cause : ReduceErr) → why ≡ reduce_refusal cause →
        StopsJoin (script_text (checked_program checked).tree) (checked_program checked).plan read.max_bytes call.holds (join_seen read).files middle call.after cause →
        Stops call (Some (command.Join read)) (record { why = why; checked = Some checked })
    join-files-stop why cause is s =
        subst (λ (w : Refusal). Stops call (Some (command.Join read)) (record { why = w; checked = Some checked })) (sym is) (join-error-stops cause s)

-- ---- a report on saved runs

-- This status and this text are those of the report, in this form, of the totals of files of saved
-- runs which the names may hold.
pub record ReportsRuns (form : FormTexts) (program : Program) (max_bytes : ℕ) (holds : Holds)
    (names : List (List ℕ)) (status : Status) (text : List ℕ) : Type 0 where
  pub files : List (List ℕ)
  pub may : MayAll holds names files
  pub end : ℕ
  pub totals : Pairs
  pub reduced : AreReduced (script_text program.tree) program.plan max_bytes 1 [] files end totals
  pub status_is : status ≡ status_of (groups_end form program totals)
  pub text_is : IsTextOf (groups_end form program totals) text

module _ (call : Call) (read : ReduceRead) (asked : command_of call.asked ≡ Some (Reduces (reduce_seen read))) where
  pub reduce-ready : (program : Program) (status : Status) (text : List ℕ) → Loads (call.holds read.script.now) program →
      ReportsRuns (texts_of call.asked.forms read.form.now) program read.max_bytes call.holds (reduce_seen read).files status text →
      Ready call status text
  reduce-ready program status text loads reports =
      let held : Held = record { script = loads.text; files = reports.files } in
      record {
        held = held;
        may = reading-may call (command.Reduce read) asked read.script.now (reduce_seen read).files refl (λ h. refl) held loads.may reports.may;
        has = record {
          end = groups_end (texts_of call.asked.forms read.form.now) program reports.totals;
          is_end = reduced (reduce_seen read) program reports.end reports.totals asked loads.is_program reports.reduced;
          whole = tt;
          status_is = reports.status_is;
          text_is = reports.text_is;
        };
      }

  -- What stops it after its script was accepted.
  module _ (checked : Checked) (middle : Counts) (lower : (name : List ℕ) → call.before name ≤ middle name)
      (loads : Loads (call.holds read.script.now) (checked_program checked)) where
    runs-known : (why : Refusal) (files : List (List ℕ)) → MayAll call.holds (reduce_seen read).files files →
        IsStop call (record { script = loads.text; files = files }) why →
        Stops call (Some (command.Reduce read)) (record { why = why; checked = Some checked })
    runs-known = known call (command.Reduce read) asked read.script.now (reduce_seen read).files refl (λ held. refl) checked middle lower loads

    run-problem-stops : (why : ReduceErr) →
        HasFirstRunProblem (script_text (checked_program checked).tree) (checked_program checked).plan read.max_bytes call.holds (reduce_seen read).files why →
        Stops call (Some (command.Reduce read)) (record { why = reduce_refusal why; checked = Some checked })
    run-problem-stops why s =
        runs-known (reduce_refusal why) s.files s.may
        (promise.at_end (reduce_refusal why) (run_problem (reduce_seen read) (checked_program checked) why asked loads.is_program s.problem))

    run-error-stops : (why : ReduceErr) →
        StopsReduce (script_text (checked_program checked).tree) (checked_program checked).plan read.max_bytes call.holds (reduce_seen read).files middle call.after why →
        Stops call (Some (command.Reduce read)) (record { why = reduce_refusal why; checked = Some checked })
    run-error-stops (reduce_error.Read file) s =
        runs-known (refusal.Read (place.File file)) s.files s.may
        (promise.run_unread (reduce_seen read) (checked_program checked) s.end s.totals file asked loads.is_program s.reduced
        (file-failed call (command.Reduce read) asked read.script.now (reduce_seen read).files refl (λ held. refl) file s.name s.named (omega (arith, lower s.name, s.rose))))
    run-error-stops (reduce_error.TooLarge file) s = run-problem-stops (reduce_error.TooLarge file) s
    run-error-stops (reduce_error.OtherScript file) s = run-problem-stops (reduce_error.OtherScript file) s
    run-error-stops (reduce_error.Malformed file) s = run-problem-stops (reduce_error.Malformed file) s
    run-error-stops (reduce_error.Apart file) s = run-problem-stops (reduce_error.Apart file) s
    run-error-stops (reduce_error.Gap file group) s = run-problem-stops (reduce_error.Gap file group) s
    run-error-stops reduce_error.NoMemory s = memory-stops call (Some (command.Reduce read)) (Some checked)

    pub reduce-files-stop : (why : Refusal) (cause : ReduceErr) → why ≡ reduce_refusal cause →
        StopsReduce (script_text (checked_program checked).tree) (checked_program checked).plan read.max_bytes call.holds (reduce_seen read).files middle call.after cause →
        Stops call (Some (command.Reduce read)) (record { why = why; checked = Some checked })
    reduce-files-stop why cause is s =
        subst (λ (w : Refusal). Stops call (Some (command.Reduce read)) (record { why = w; checked = Some checked })) (sym is) (run-error-stops cause s)

-- What is written of totals.
pub runs-by : (form : FormTexts) (program : Program) (max_bytes : ℕ) (holds : Holds) (names : List (List ℕ)) (totals : Pairs) (faulty : Bool) (made : Status) (text : List ℕ) →
    ReducedAll (script_text program.tree) program.plan max_bytes holds names totals →
    text ≡ report_text form (heads_of program.tree program.plan) (map (row_of program.tree program.plan) totals) →
    faulty ≡ some_faulty (map (row_of program.tree program.plan) totals) →
    made ≡ (if faulty then status.Faulted else status.Done) →
    ReportsRuns form program max_bytes holds names made text
runs-by form program max_bytes holds names totals faulty made text all text_is faulty_is made_is = record {
  files = all.files;
  may = all.may;
  end = all.end;
  totals = totals;
  reduced = all.reduced;
  status_is = made_is ∙ ap (λ b. if b then status.Faulted else status.Done) faulty_is;
  text_is = subst (IsTextOf (groups_end form program totals)) (sym text_is)
      (report_in form (heads_of program.tree program.plan) (group_rows program totals));
}

-- ---- a check

pub check-ready : (call : Call) (read : CheckRead) → command_of call.asked ≡ Some (Checks (check_seen read)) →
    (program : Program) (text : List ℕ) → Loads (call.holds read.script.now) program → text ≡ said_of read.print program → Ready call status.Done text
check-ready call read asked program text loads text_is =
    let held : Held = record { script = loads.text; files = [] } in
    whole-ready call (command.Check read) asked held program [] status.Done text
    (may-by call (command.Check read) asked read.script.now refl (λ h. refl) held loads.may tt) loads.is_program tt (no_file 1)
    (record { whole = tt; status_is = refl; text_is = subst (IsTextOf (whole_end call.asked (Checks (check_seen read)) program [])) (sym text_is) (said (said_of read.print program)) })

-- ---- a making

module _ (call : Call) (read : MakeRead) (asked : command_of call.asked ≡ Some (Makes (make_seen read))) where
  make-may : MayHold call (record { script = []; files = [] })
  make-may =
      let P : FileNames → Type 0 = λ names. MayScript call.holds names.script [] × MayAll call.holds names.files [] in
      subst P (sym (ap names_of asked)) (refl, tt)

  made-refused : (why : Refusal) → MayRefuse made_script why → Stops call (Some (command.Make read)) (record { why = why; checked = None })
  made-refused why (inl same) =
      subst (λ w. Stops call (Some (command.Make read)) (record { why = w; checked = None })) (sym same)
      (memory-stops call (Some (command.Make read)) None)
  made-refused why (inr is) = refused-stops call (command.Make read) asked (record { script = []; files = [] }) why make-may is

  pub make-refused : (stopped : Stop) → stopped.checked ≡ None → MayRefuse made_script stopped.why → Stops call (Some (command.Make read)) stopped
  make-refused stopped none is =
      subst (λ (checked : Option Checked). Stops call (Some (command.Make read)) (record { why = stopped.why; checked = checked })) (sym none)
      (made-refused stopped.why is)

  files-stop : (checked : Checked) (why : Refusal) → IsProgram made_script (checked_program checked) →
      StopsRecords (checked_program checked) (file_rules call.asked (Makes (make_seen read))) (made_file read.records read.seed ∷ []) why →
      Stops call (Some (command.Make read)) (record { why = why; checked = Some checked })
  files-stop checked _ is (first why problem_is) =
      known-stops call (command.Make read) asked (record { script = []; files = [] }) checked (pass_refusal why) make-may is
      (promise.at_end (pass_refusal why) (problem (Makes (make_seen read)) (checked_program checked) why asked is problem_is))
  files-stop checked _ is no_more = memory-stops call (Some (command.Make read)) (Some checked)

  -- By the rows that a gate shows.
  module _ (shown : Row → Row) (likewise : call.asked.shown ≡ shown) where
    made-rules : rules_of read.options.max_bytes shown ≡ file_rules call.asked (Makes (make_seen read))
    made-rules = ap (rules_of read.options.max_bytes) (sym likewise)

    pub make-files-stop : (checked : Checked) (why : Refusal) → IsProgram made_script (checked_program checked) →
        StopsRecords (checked_program checked) (rules_of read.options.max_bytes shown) (made_file read.records read.seed ∷ []) why →
        Stops call (Some (command.Make read)) (record { why = why; checked = Some checked })
    make-files-stop checked why is stop =
        files-stop checked why is (subst (λ rules. StopsRecords (checked_program checked) rules (made_file read.records read.seed ∷ []) why) made-rules stop)

    pub make-ready : (checked : Checked) (groups : List (Key × Outcome)) (status : Status) (text : List ℕ) → IsProgram made_script (checked_program checked) →
        Passed (checked_program checked) (rules_of read.options.max_bytes shown) (made_file read.records read.seed ∷ []) groups →
        text ≡ summary_text read.records (map (row_of (checked_program checked).tree (checked_program checked).plan) groups) →
        status ≡ rows_status (map (row_of (checked_program checked).tree (checked_program checked).plan) groups) →
        Ready call status text
    make-ready checked groups status text is passed text_is status_is =
        let program = checked_program checked in
        let rows = map (row_of program.tree program.plan) in
        let fine = subst (λ rules. AllFine program.plan rules 1 (made_file read.records read.seed ∷ []) passed.records) made-rules passed.fine in
        whole-ready call (command.Make read) asked (record { script = []; files = [] }) program passed.records status text make-may is tt fine
        (record {
          whole = tt;
          status_is = status_is ∙ ap (λ gs. rows_status (rows gs)) passed.stands;
          text_is = subst (IsTextOf (whole_end call.asked (Makes (make_seen read)) program passed.records))
              (sym (text_is ∙ ap (λ gs. summary_text read.records (rows gs)) passed.stands)) (summed read.records (rows_of program passed.records));
        })

sure-first : (program : Program) (rules : FileRules) (files : List (List ℕ)) (why : PassErr) (found : List (List ℕ)) → found ≡ files →
    FirstProblem program.plan rules 0 1 found why → StopsRecords program rules files (pass_refusal why)
sure-first program rules files why found same problem_is =
    first why (subst (λ fs. FirstProblem program.plan rules 0 1 fs why) same problem_is)

-- Why a pass over files that a sure store holds is stopped.
pub sure-stops : (program : Program) (rules : FileRules) (holds : Holds) (names files : List (List ℕ)) (why : PassErr) →
    ((found : List (List ℕ)) → MayAll holds names found → found ≡ files) →
    StopsPass program.plan rules holds names (λ name. 0) (λ name. 0) why → StopsRecords program rules files (pass_refusal why)
sure-stops program rules holds names files (pass_error.Read file) same s = absurd (omega (arith, s.rose))
sure-stops program rules holds names files (pass_error.TooLarge file) same s = sure-first program rules files (pass_error.TooLarge file) _ (same s.files s.may) s.problem
sure-stops program rules holds names files (pass_error.Head file fault) same s = sure-first program rules files (pass_error.Head file fault) _ (same s.files s.may) s.problem
sure-stops program rules holds names files (pass_error.Bad file bad) same s = sure-first program rules files (pass_error.Bad file bad) _ (same s.files s.may) s.problem
sure-stops program rules holds names files pass_error.NoMemory same s = no_more
