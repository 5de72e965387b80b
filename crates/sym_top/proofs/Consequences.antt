-- What follows from what the top call says of each status.
use Rattle.std.proofs.Common.{◌≡◌, ◌⊎◌, inl, inr, ℕ, Bool, true, false, if◌then◌else◌, List, [], ◌∷◌, map, Option, None, Some, Result, Ok, Err, IfOk, refl, sym, ap, subst, ◌∙◌}
use Rattle.sym_base.specs.declared.values.record.Record.{Record}
use Rattle.sym_check.specs.declared.elaborate.error.CheckErr.TheVariants as check_error
use Rattle.sym_check.specs.declared.elaborate.error.CheckErr.{CheckErr}
use Rattle.sym_files.specs.declared.error.PassErr.{PassErr}
use Rattle.sym_files.specs.declared.error.PassErr.TheVariants as pass_error
use Rattle.sym_files.specs.Passing.{Holds, May, MayAll}
use Rattle.sym_reduce.specs.declared.error.ReduceErr.{ReduceErr}
use Rattle.sym_reduce.specs.declared.error.ReduceErr.TheVariants as reduce_error
use Rattle.sym_lex.specs.declared.error.LexFault.{LexFault}
use Rattle.sym_lex.specs.declared.error.LexFault.TheVariants as lex_fault
use Rattle.sym_parse.specs.declared.error.ParseErr.{ParseErr}
use Rattle.sym_parse.specs.declared.error.ParseErr.TheVariants as parse_error
use Rattle.sym_report.specs.ReportRows.{some_faulty}
use Rattle.sym_command.specs.declared.place.Place.{Place}
use Rattle.sym_command.specs.declared.place.Place.TheVariants as place
use Rattle.sym_command.specs.declared.commands.Command.{Command as CommandRead}
use Rattle.sym_command.specs.Commands.{Command, ReadsNoRuns, Runs, Traces, Checks, Makes, Maps, Reduces, Joins, FileNames, name_at, names_of}
use Rattle.sym_message.specs.declared.refusal.Refusal.{Refusal}
use Rattle.sym_message.specs.declared.refusal.Refusal.TheVariants as refusal
use Rattle.sym_message.specs.declared.status.Status.{Status}
use Rattle.sym_message.specs.declared.status.Status.TheVariants as status
use Rattle.sym_message.specs.Messages.{line_of}
use Rattle.sym_message.specs.Refusals.{status_of_refusal, parse_refusal, check_refusal, pass_refusal}
use Rattle.sym_message.specs.Telling.{Sunk, Has, Tells}
use Rattle.sym_top.specs.declared.output.Output.{Output}
use Rattle.sym_top.specs.declared.output.Stop.{Stop}
use Rattle.sym_top.specs.Ends.{End, whole_end, Refused, Reported, Said, Summed, Mapped, Joined, Held, IsEnd, usage, no_program, problem, finished, run_problem, reduced, join_problem, runs_joined, IsWhole, script_of, status_of}
use Rattle.sym_top.specs.EndReading.{command_end}
use Rattle.sym_top.specs.Loading.{ComesTo, Ready, Says, Stops, stop_line, text_bytes}
use Rattle.sym_top.specs.Programs.{Program, IsNoProgram, too_large, unparsed, broken}
use Rattle.sym_top.specs.Promises.{Call, IsUsage, call_line, call_names, MayScript, MayHold, TellsScript, Told, ReadFailed, IsStop, at_end, script_unread, file_unread, run_unread, join_unread, no_memory, IsUntouched, WriteFails, failed, short, IsCause, stopped, cut, Refuses, Wrote, line_told, text_written, Answers, Unless, IsReported, IsRefused, IsUnwritten, MustReport}
use Rattle.sym_top.specs.RunFileRefusals.{reduce_refusal}
use Rattle.sym_top.proofs.EndsFound.{found, one_end}

-- ---- statuses

pub refusal-refused : (why : Refusal) → IsRefused (status_of_refusal why)
refusal-refused refusal.Usage = λ h. h
refusal-refused (refusal.Script what at) = λ h. h
refusal-refused (refusal.Branchy paths) = λ h. h
refusal-refused (refusal.Head file what) = λ h. h
refusal-refused (refusal.Bad file bad) = λ h. h
refusal-refused (refusal.OtherScript file) = λ h. h
refusal-refused (refusal.Malformed file) = λ h. h
refusal-refused (refusal.Apart file) = λ h. h
refusal-refused (refusal.Gap file group) = λ h. h
refusal-refused (refusal.Read at) = λ h. h
refusal-refused refusal.Write = λ h. h
refusal-refused (refusal.TooLarge at) = λ h. h
refusal-refused refusal.NoMemory = λ h. h

pub faulty-reported : (b : Bool) → IsReported (if b then status.Faulted else status.Done)
faulty-reported true = tt
faulty-reported false = tt

pub whole-reported : (end : End) → IsWhole end → IsReported (status_of end)
whole-reported (Refused why) whole = absurd whole
whole-reported (Reported form heads rows) whole = faulty-reported (some_faulty rows)
whole-reported (Said text) whole = tt
whole-reported (Summed records rows) whole = faulty-reported (some_faulty rows)
whole-reported (Mapped program from limit records) whole = tt
whole-reported (Joined program limit runs) whole = tt

pub decided : (result : Status) → IsReported result ⊎ IsRefused result
decided status.Done = inl tt
decided status.Faulted = inl tt
decided status.Usage = inr (λ h. h)
decided status.Script = inr (λ h. h)
decided status.Input = inr (λ h. h)
decided status.ReadFault = inr (λ h. h)
decided status.WriteFault = inr (λ h. h)
decided status.TooLarge = inr (λ h. h)
decided status.NoMemory = inr (λ h. h)

pub reported-written : (result : Status) → IsReported result → IsUnwritten result → ⊥
reported-written status.Done reported unwritten = unwritten
reported-written status.Faulted reported unwritten = unwritten
reported-written status.Usage reported unwritten = reported
reported-written status.Script reported unwritten = reported
reported-written status.Input reported unwritten = reported
reported-written status.ReadFault reported unwritten = reported
reported-written status.WriteFault reported unwritten = reported
reported-written status.TooLarge reported unwritten = reported
reported-written status.NoMemory reported unwritten = reported

unless : (result : Status) (P : Type 0) → P → Unless result P
unless status.Done P p = p
unless status.Faulted P p = p
unless status.Usage P p = p
unless status.Script P p = p
unless status.Input P p = p
unless status.ReadFault P p = tt
unless status.WriteFault P p = tt
unless status.TooLarge P p = p
unless status.NoMemory P p = tt

-- ---- the exits

pub stop-refuses : (call : Call) (out err : Sunk) (command : Option CommandRead) (own : Stop) (result : Status) → Stops call command own →
    result ≡ status_of_refusal own.why → IsUntouched out → Tells err (stop_line command own) →
    Refuses call out err result
stop-refuses call out err command own result s status_is untouched told = record {
  held = s.held;
  may = s.may;
  why = own.why;
  status_is = status_is;
  cause = stopped s.stop untouched;
  line = subst (Tells err) s.line told;
}

cut-line : (call : Call) (held : Held) (names : FileNames) (out : Sunk) (text : List ℕ) (why : Refusal) →
    WriteFails out text why → line_of names [] why ≡ call_line call held why
cut-line call held names out text _ (failed prefix rose) = refl
cut-line call held names out text _ (short prefix rose) = refl

pub cut-refuses : (call : Call) (names : FileNames) (out err : Sunk) (status : Status) (text : List ℕ) (why : Refusal) (result : Status) →
    Ready call status text → result ≡ status_of_refusal why → WriteFails out text why → Tells err (line_of names [] why) →
    Refuses call out err result
cut-refuses call names out err status text why result ready status_is fails told = record {
  held = ready.held;
  may = ready.may;
  why = why;
  status_is = status_is;
  cause = cut status text ready.has fails;
  line = subst (Tells err) (cut-line call ready.held names out text why fails) told;
}

pub ready-writes : (call : Call) (out : Sunk) (status : Status) (text : List ℕ) → Ready call status text → Has out text →
    Wrote call out status
ready-writes call out status text ready has = record {
  held = ready.held;
  may = ready.may;
  text = text;
  report = ready.has;
  written = has;
}

pub ready-reported : (call : Call) (status : Status) (text : List ℕ) → Ready call status text → IsReported status
ready-reported call status text ready =
    subst IsReported (sym ready.has.status_is) (whole-reported ready.has.end ready.has.whole)

pub stop-says : (call : Call) (out err : Sunk) (command : Option CommandRead) (own : Stop) (result : Status) → Stops call command own →
    result ≡ status_of_refusal own.why → IsUntouched out → Tells err (stop_line command own) → Says call out err result
stop-says call out err command own result stops status_is untouched told = record {
  reported = λ done. absurd (refusal-refused own.why (subst IsReported status_is done));
  refused = λ undone. stop-refuses call out err command own result stops status_is untouched told;
  quiet = λ done. absurd (refusal-refused own.why (subst IsReported status_is done));
}

pub ready-says : (call : Call) (out err : Sunk) (status : Status) (text : List ℕ) → Ready call status text → Has out text → IsUntouched err →
    Says call out err status
ready-says call out err status text ready has quiet = record {
  reported = λ done. ready-writes call out status text ready has;
  refused = λ undone. absurd (undone (ready-reported call status text ready));
  quiet = λ done. quiet;
}

pub cut-says : (call : Call) (names : FileNames) (out err : Sunk) (status : Status) (text : List ℕ) (why : Refusal) (result : Status) →
    Ready call status text → result ≡ status_of_refusal why → WriteFails out text why → Tells err (line_of names [] why) → Says call out err result
cut-says call names out err status text why result ready status_is fails told = record {
  reported = λ done. absurd (refusal-refused why (subst IsReported status_is done));
  refused = λ undone. cut-refuses call names out err status text why result ready status_is fails told;
  quiet = λ done. absurd (refusal-refused why (subst IsReported status_is done));
}

-- What is ready has the status of a report.
pub made-reported : {F : Type 0} (call : Call) (gathered : F → List ℕ) (command : Option CommandRead) (made : Result (Output F) Stop) →
    ComesTo call gathered command made → IfOk made (λ output. IsReported output.status)
made-reported call gathered command (Ok output) ready = ready-reported call output.status (text_bytes gathered output.text) ready
made-reported call gathered command (Err own) stops = tt

-- ---- the bytes that a store tells are those that the files may hold

may-told : (o : Option (List ℕ)) (a b : List ℕ) → May o a → o ≡ Some b → a ≡ b
may-told None a b may e = cc
may-told (Some x) a b may e = let same : x ≡ b = cc in may ∙ same

pub files-told : (holds : Holds) (names files told : List (List ℕ)) → MayAll holds names files →
    map holds names ≡ map Some told → files ≡ told
files-told holds [] [] [] may e = refl
files-told holds [] [] (b ∷ bs) may e = cc
files-told holds [] (a ∷ ones) told may e = absurd may
files-told holds (name ∷ names) [] told may e = absurd may
files-told holds (name ∷ names) (a ∷ ones) [] may e = cc
files-told holds (name ∷ names) (a ∷ ones) (b ∷ bs) may e =
    let here : holds name ≡ Some b = cc in
    let rest : map holds names ≡ map Some bs = cc in
    let same : a ≡ b = may-told (holds name) a b may.0 here in
    let others : ones ≡ bs = files-told holds names ones bs may.1 rest in
    cc

script-told : (holds : Holds) (name : Option (List ℕ)) (text told : List ℕ) → MayScript holds name text →
    TellsScript holds name told → text ≡ told
script-told holds None text told may e = may ∙ sym e
script-told holds (Some name) text told may e = may-told (holds name) text told may e

pub held-told : (call : Call) (held told : Held) → MayHold call held → Told call told → held ≡ told
held-told call held told may e =
    let names = call_names call in
    let script : held.script ≡ told.script = script-told call.holds names.script held.script told.script may.0 e.0 in
    let files : held.files ≡ told.files = files-told call.holds names.files held.files told.files may.1 e.1 in
    let held_of : List ℕ → List (List ℕ) → Held = λ script files. record { script = script; files = files } in
    ap (λ s. held_of s held.files) script ∙ ap (λ fs. held_of told.script fs) files

-- ---- the end that is expected

module _ (call : Call) (out err : Sunk) (result : Status) where
  wrote-expected : (held : Held) (end : End) (w : Wrote call out result) → w.report.end ≡ end → IsUntouched err →
      Answers call held end out err result
  wrote-expected held end w same quiet =
      subst (λ e. Answers call held e out err result) same
      (record { status_is = w.report.status_is; sinks = text_written w.report.end w.text w.report.whole w.report.text_is w.written quiet })

  stop-expected : (held : Held) (end : End) (why : Refusal) → IsEnd call.asked held end → IsStop call held why →
      result ≡ status_of_refusal why → IsUntouched out → Tells err (call_line call held why) →
      Unless result (Answers call held end out err result)
  stop-expected held end _ is (at_end why stop) status_is untouched line =
      let same : Refused why ≡ end = one_end call.asked held (Refused why) end stop is in
      unless result (Answers call held end out err result)
      (subst (λ e. Answers call held e out err result) same
      (record { status_is = status_is; sinks = line_told why untouched line }))
  stop-expected held end _ is (script_unread unread) status_is untouched line =
      subst (λ s. Unless s (Answers call held end out err result)) (sym status_is) tt
  stop-expected held end _ is (file_unread command program records number asked prog own fine unread) status_is untouched line =
      subst (λ s. Unless s (Answers call held end out err result)) (sym status_is) tt
  stop-expected held end _ is (run_unread reduce program stop totals number asked prog are unread) status_is untouched line =
      subst (λ s. Unless s (Answers call held end out err result)) (sym status_is) tt
  stop-expected held end _ is (join_unread join program runs number asked prog are unread) status_is untouched line =
      subst (λ s. Unless s (Answers call held end out err result)) (sym status_is) tt
  stop-expected held end _ is no_memory status_is untouched line =
      subst (λ s. Unless s (Answers call held end out err result)) (sym status_is) tt

  cut-expected : (P : Type 0) (text : List ℕ) (why : Refusal) → WriteFails out text why →
      result ≡ status_of_refusal why → Unless result P
  cut-expected P text _ (failed prefix rose) status_is = subst (λ s. Unless s P) (sym status_is) tt
  cut-expected P text _ (short prefix rose) status_is = subst (λ s. Unless s P) (sym status_is) tt

  cause-expected : (held : Held) (end : End) (why : Refusal) → IsEnd call.asked held end → IsCause call held out why →
      result ≡ status_of_refusal why → Tells err (call_line call held why) →
      Unless result (Answers call held end out err result)
  cause-expected held end why is (stopped stop untouched) status_is line =
      stop-expected held end why is stop status_is untouched line
  cause-expected held end why is (cut s text has fails) status_is line =
      cut-expected (Answers call held end out err result) text why fails status_is

  refused-expected : (held : Held) (end : End) → Told call held → IsEnd call.asked held end → Refuses call out err result →
      Unless result (Answers call held end out err result)
  refused-expected held end told is r =
      let same : r.held ≡ held = held-told call r.held held r.may told in
      subst (λ h. Unless result (Answers call h end out err result)) same
      (cause-expected r.held end r.why (subst (λ h. IsEnd call.asked h end) (sym same) is) r.cause r.status_is r.line)

  reported-expected : (held : Held) (end : End) → Told call held → IsEnd call.asked held end → Wrote call out result →
      IsUntouched err → Unless result (Answers call held end out err result)
  reported-expected held end told is w quiet =
      let same : w.held ≡ held = held-told call w.held held w.may told in
      let there : IsEnd call.asked held w.report.end = subst (λ h. IsEnd call.asked h w.report.end) same w.report.is_end in
      unless result (Answers call held end out err result)
      (wrote-expected held end w (one_end call.asked held w.report.end end there is) quiet)

  expected-or : IsReported result ⊎ IsRefused result → Says call out err result → (held : Held) (end : End) → Told call held →
      IsEnd call.asked held end → Unless result (Answers call held end out err result)
  expected-or (inl done) says held end told is = reported-expected held end told is (says.reported done) (says.quiet done)
  expected-or (inr undone) says held end told is = refused-expected held end told is (says.refused undone)

  pub expected-by : Says call out err result → (held : Held) (end : End) → Told call held →
      IsEnd call.asked held end → Unless result (Answers call held end out err result)
  expected-by = expected-or (decided result)

  -- ---- a call that must write its text

  never-whole : (held : Held) (end : End) (why : Refusal) → IsEnd call.asked held end → IsWhole end →
      IsEnd call.asked held (Refused why) → ⊥
  never-whole held end why is whole stop = subst IsWhole (one_end call.asked held end (Refused why) is stop) whole

  stop-complete : (m : MustReport call out) (why : Refusal) → IsStop call m.held why → result ≡ status_of_refusal why →
      result ≡ status.NoMemory
  stop-complete m _ (at_end why stop) status_is = absurd (never-whole m.held m.end why m.is_end m.whole stop)
  stop-complete m _ (script_unread unread) status_is = absurd (m.read place.Script unread)
  stop-complete m _ (file_unread command program records number asked prog own fine unread) status_is =
      absurd (m.read (place.File number) unread)
  stop-complete m _ (run_unread reduce program stop totals number asked prog are unread) status_is =
      absurd (m.read (place.File number) unread)
  stop-complete m _ (join_unread join program runs number asked prog are unread) status_is =
      absurd (m.read (place.File number) unread)
  stop-complete m _ no_memory status_is = status_is

  cut-complete : (m : MustReport call out) (text : List ℕ) (why : Refusal) → WriteFails out text why →
      result ≡ status_of_refusal why → result ≡ status.NoMemory
  cut-complete m text _ (failed prefix rose) status_is = absurd (m.written rose)
  cut-complete m text _ (short prefix rose) status_is = status_is

  cause-complete : (m : MustReport call out) (why : Refusal) → IsCause call m.held out why →
      result ≡ status_of_refusal why → result ≡ status.NoMemory
  cause-complete m why (stopped stop untouched) status_is = stop-complete m why stop status_is
  cause-complete m why (cut s text has fails) status_is = cut-complete m text why fails status_is

  pub complete-by : Says call out err result → MustReport call out → IsRefused result → result ≡ status.NoMemory
  complete-by says m undone =
      let r = says.refused undone in
      let same : r.held ≡ m.held = held-told call r.held m.held r.may m.told in
      cause-complete m r.why (subst (λ h. IsCause call h out r.why) same r.cause) r.status_is

  -- ---- arguments of no command

  usage-end : (held : Held) (end : End) → IsUsage call → IsEnd call.asked held end → Refused refusal.Usage ≡ end
  usage-end held end none is =
      sym (ap (λ o. command_end call.asked o held) none) ∙ found call.asked held end (subst ReadsNoRuns (sym none) tt) is

  usage-whole : {A : Type 0} (held : Held) (end : End) → IsUsage call → IsEnd call.asked held end → IsWhole end → A
  usage-whole held end none is whole = absurd (subst IsWhole (sym (usage-end held end none is)) whole)

  unnamed : (at : Place) → IsUsage call → ReadFailed call at → ⊥
  unnamed place.Script none unread =
      let e : None ≡ Some unread.name = sym (ap (λ o. name_at (names_of o) place.Script) none) ∙ unread.named in cc
  unnamed (place.File number) none unread =
      let e : None ≡ Some unread.name = sym (ap (λ o. name_at (names_of o) (place.File number)) none) ∙ unread.named in cc

  usage-stop : (held : Held) (why : Refusal) → IsUsage call → IsStop call held why → result ≡ status_of_refusal why →
      (result ≡ status.Usage) ⊎ (result ≡ status.NoMemory)
  usage-stop held _ none (at_end why stop) status_is =
      let same : Refused refusal.Usage ≡ Refused why = usage-end held (Refused why) none stop in
      let cause : why ≡ refusal.Usage = cc in
      inl (status_is ∙ ap status_of_refusal cause)
  usage-stop held _ none (script_unread unread) status_is = absurd (unnamed place.Script none unread)
  usage-stop held _ none (file_unread command program records number asked prog own fine unread) status_is =
      absurd (unnamed (place.File number) none unread)
  usage-stop held _ none (run_unread reduce program stop totals number asked prog are unread) status_is =
      absurd (unnamed (place.File number) none unread)
  usage-stop held _ none (join_unread join program runs number asked prog are unread) status_is =
      absurd (unnamed (place.File number) none unread)
  usage-stop held _ none no_memory status_is = inr status_is

  usage-cause : (held : Held) (why : Refusal) → IsUsage call → IsCause call held out why →
      result ≡ status_of_refusal why → (result ≡ status.Usage) ⊎ (result ≡ status.NoMemory)
  usage-cause held why none (stopped stop untouched) status_is = usage-stop held why none stop status_is
  usage-cause held why none (cut s text has fails) status_is = usage-whole held has.end none has.is_end has.whole

  none-usage : IsReported result ⊎ IsRefused result → Says call out err result → IsUsage call →
      (result ≡ status.Usage) ⊎ (result ≡ status.NoMemory)
  none-usage (inl done) says none =
      let w = says.reported done in usage-whole w.held w.report.end none w.report.is_end w.report.whole
  none-usage (inr undone) says none =
      let r = says.refused undone in usage-cause r.held r.why none r.cause r.status_is

  pub no-command-by : Says call out err result → IsUsage call → (result ≡ status.Usage) ⊎ (result ≡ status.NoMemory)
  no-command-by = none-usage (decided result)

  fault-words : (b : Bool) → (if b then status.Faulted else status.Done) ≡ status.Usage → ⊥
  fault-words true e = cc
  fault-words false e = cc

  lex-words : (fault : LexFault) → status_of_refusal (parse_refusal (parse_error.Lex fault)) ≡ status.Usage → ⊥
  lex-words (lex_fault.BadByte at) e = cc
  lex-words (lex_fault.BadNumber at) e = cc
  lex-words (lex_fault.LongName at) e = cc
  lex-words (lex_fault.BadText at) e = cc

  parse-words : (why : ParseErr) → status_of_refusal (parse_refusal why) ≡ status.Usage → ⊥
  parse-words (parse_error.Lex fault) e = lex-words fault e
  parse-words (parse_error.Expected at) e = cc
  parse-words (parse_error.Limit at which) e = cc
  parse-words parse_error.NoMemory e = cc

  check-words : (why : CheckErr) → status_of_refusal (check_refusal why) ≡ status.Usage → ⊥
  check-words (check_error.Name at) e = cc
  check-words (check_error.Twice at) e = cc
  check-words (check_error.Kind at) e = cc
  check-words (check_error.Range at) e = cc
  check-words (check_error.NotLinear at) e = cc
  check-words (check_error.Branchy paths) e = cc
  check-words check_error.NoMemory e = cc

  pass-words : (why : PassErr) → status_of_refusal (pass_refusal why) ≡ status.Usage → ⊥
  pass-words (pass_error.Read file) e = cc
  pass-words (pass_error.TooLarge file) e = cc
  pass-words (pass_error.Head file fault) e = cc
  pass-words (pass_error.Bad file bad) e = cc
  pass-words pass_error.NoMemory e = cc

  reduce-words : (why : ReduceErr) → status_of_refusal (reduce_refusal why) ≡ status.Usage → ⊥
  reduce-words (reduce_error.Read file) e = cc
  reduce-words (reduce_error.TooLarge file) e = cc
  reduce-words (reduce_error.OtherScript file) e = cc
  reduce-words (reduce_error.Malformed file) e = cc
  reduce-words (reduce_error.Apart file) e = cc
  reduce-words (reduce_error.Gap file group) e = cc
  reduce-words reduce_error.NoMemory e = cc

  program-words : (text : List ℕ) (why : Refusal) → IsNoProgram text why → status_of_refusal why ≡ status.Usage → ⊥
  program-words text _ (too_large large) e = cc
  program-words text _ (unparsed why small is) e = parse-words why e
  program-words text _ (broken tree why small is breaks) e = check-words why e

  whole-words : (command : Command) (program : Program) (records : List Record) → status_of (whole_end call.asked command program records) ≡ status.Usage → ⊥
  whole-words (Runs run) program records e = fault-words _ e
  whole-words (Traces trace) program records e = fault-words _ e
  whole-words (Checks check) program records e = cc
  whole-words (Makes make) program records e = fault-words _ e
  whole-words (Maps part) program records e = cc
  whole-words (Reduces reduce) program records e = fault-words _ e
  whole-words (Joins join) program records e = cc

  end-words : (held : Held) (end : End) → IsEnd call.asked held end → status_of end ≡ status.Usage → IsUsage call
  end-words held _ (usage none) e = none
  end-words held _ (no_program command why asked is) e = absurd (program-words (script_of command held) why is e)
  end-words held _ (problem command program why asked is first) e = absurd (pass-words why e)
  end-words held _ (finished command program records asked is own fine) e = absurd (whole-words command program records e)
  end-words held _ (run_problem reduce program why asked is first) e = absurd (reduce-words why e)
  end-words held _ (reduced reduce program stop totals asked is are) e = absurd (fault-words _ e)
  end-words held _ (join_problem join program why asked is first) e = absurd (reduce-words why e)
  end-words held _ (runs_joined join program runs asked is are) e = absurd (cc)

  stop-words : (held : Held) (why : Refusal) → IsStop call held why → status_of_refusal why ≡ status.Usage → IsUsage call
  stop-words held _ (at_end why stop) e = end-words held (Refused why) stop e
  stop-words held _ (script_unread unread) e = cc
  stop-words held _ (file_unread command program records number asked prog own fine unread) e = cc
  stop-words held _ (run_unread reduce program stop totals number asked prog are unread) e = cc
  stop-words held _ (join_unread join program runs number asked prog are unread) e = cc
  stop-words held _ no_memory e = cc

  cut-words : (text : List ℕ) (why : Refusal) → WriteFails out text why → status_of_refusal why ≡ status.Usage → ⊥
  cut-words text _ (failed prefix rose) e = cc
  cut-words text _ (short prefix rose) e = cc

  cause-words : (held : Held) (why : Refusal) → IsCause call held out why → status_of_refusal why ≡ status.Usage → IsUsage call
  cause-words held why (stopped stop untouched) e = stop-words held why stop e
  cause-words held why (cut s text has fails) e = absurd (cut-words text why fails e)

  usage-words : Refuses call out err result → result ≡ status.Usage → IsUsage call
  usage-words r e = cause-words r.held r.why r.cause (sym r.status_is ∙ e)

  pub usage-by : Says call out err result → result ≡ status.Usage → IsUsage call
  usage-by says e = usage-words (says.refused (subst IsRefused (sym e) (λ h. h))) e
