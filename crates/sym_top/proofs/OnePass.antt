-- A run over fine files comes to what one sequential pass comes to.
use Rattle.std.proofs.Common.{◌≡◌, List, ℕ, map, Option, Some, refl, sym, ap, subst, ◌∙◌}
use Rattle.sym_report.specs.declared.rows.Heads.{Heads}
use Rattle.sym_report.specs.declared.rows.Row.{Row}
use Rattle.sym_report.specs.Forms.{FormTexts, report_text}
use Rattle.sym_command.specs.Commands.{Command, Runs, names_of, texts_of}
use Rattle.sym_message.specs.declared.status.Status.{Status}
use Rattle.sym_message.specs.declared.status.Status.TheVariants as status
use Rattle.sym_message.specs.Telling.{Sunk, Has}
use Rattle.sym_top.specs.Ends.{End, Reported, Held, IsEnd, finished, IsTextOf, nothing, report_in, said, summed, mapped, joined, report_of}
use Rattle.sym_top.specs.Headline.{FineRun, IsOnePass}
use Rattle.sym_top.specs.Loading.{Says}
use Rattle.sym_top.specs.Promises.{Call, Answers, LeavesSinks, line_told, text_written, Told, TellsScript, IsUntouched, Unless}
use Rattle.sym_top.proofs.Consequences.{expected-by}

unless-map : (result : Status) (P Q : Type 0) → (P → Q) → Unless result P → Unless result Q
unless-map status.Done P Q f p = f p
unless-map status.Faulted P Q f p = f p
unless-map status.Usage P Q f p = f p
unless-map status.Script P Q f p = f p
unless-map status.Input P Q f p = f p
unless-map status.ReadFault P Q f p = tt
unless-map status.WriteFault P Q f p = tt
unless-map status.TooLarge P Q f p = f p
unless-map status.NoMemory P Q f p = tt

-- The text of a report.
report-text : (end : End) (text : List ℕ) (form : FormTexts) (heads : Heads) (rows : List Row) → end ≡ Reported form heads rows → IsTextOf end text
    → text ≡ report_text form heads rows
report-text _ _ form heads rows same (nothing why) = absurd (cc)
report-text _ _ form heads rows same (said text) = absurd (cc)
report-text _ _ form heads rows same (summed count own) = absurd (cc)
report-text _ _ form heads rows same (mapped program first limit records text is) = absurd (cc)
report-text _ _ form heads rows same (joined program limit saved text is) = absurd (cc)
report-text _ _ form heads rows same (report_in own names shown) =
    let a : own ≡ form = cc in
    let b : names ≡ heads = cc in
    let c : shown ≡ rows = cc in
    ap (λ (f : FormTexts). report_text f names shown) a
    ∙ ap (λ (hs : Heads). report_text form hs shown) b
    ∙ ap (λ (rs : List Row). report_text form heads rs) c

module _ (call : Call) (out err : Sunk) (result : Status) where
  report-written : (held : Held) (end : End) (form : FormTexts) (heads : Heads) (rows : List Row) → end ≡ Reported form heads rows
      → LeavesSinks call held out err end → Has out (report_text form heads rows) × IsUntouched err
  report-written held _ form heads rows same (line_told why untouched told) = absurd (cc)
  report-written held _ form heads rows same (text_written end text whole is has quiet) =
      (subst (Has out) (report-text end text form heads rows same is) has, quiet)

  module _ (fine : FineRun call) where
    held : Held
    held = record { script = fine.text; files = fine.bytes }

    abbrev form : FormTexts
    form = texts_of call.asked.forms fine.run.form

    abbrev end : End
    end = report_of form fine.program fine.records

    is-end : IsEnd call.asked held end
    unfolding held
    is-end = finished (Runs fine.run) fine.program fine.records fine.asks fine.accepted tt fine.fine

    is-told : Told call held
    unfolding held
    is-told =
        let P : Option Command → Type 0 = λ o. TellsScript call.holds (names_of o).script held.script × (map call.holds (names_of o).files ≡ map Some held.files) in
        subst P (sym fine.asks) (fine.tells_text, fine.tells_bytes)

    one-pass : Answers call held end out err result → IsOnePass form fine.program fine.records out err result
    one-pass answers =
        let left = report-written held end form _ _ refl answers.sinks in
        record { report = left.0; status_is = answers.status_is; quiet = left.1 }

    pub one-pass-by : Says call out err result → Unless result (IsOnePass form fine.program fine.records out err result)
    one-pass-by says =
        unless-map result (Answers call held end out err result) (IsOnePass form fine.program fine.records out err result) one-pass
        (expected-by call out err result says held end is-told is-end)
