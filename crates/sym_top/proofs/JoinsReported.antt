-- Why a report on texts that were joined is that of the texts.
use Rattle.std.proofs.Common.{◌≡◌, ◌∙◌, refl, sym, ap, ap₂, subst, ℕ, ◌+◌, ◌≤◌, ◌<◌, ◌^◌, arith, List, [], ◌∷◌, ◌++◌, length, Some}
use Rattle.std.proofs.lemmas.Grind.{flat_map-append}
use Rattle.std.proofs.lemmas.List.Elements.{All-append, All-cons, All-head, All-nil, All-tail}
use Rattle.std.specs.List.{All, AllZip, flat_map}
use Rattle.sym_base.specs.declared.values.record.Record.{Record}
use Rattle.sym_check.specs.Meaning.Groups.{pass}
use Rattle.sym_check.specs.Meaning.Validity.{IsRecord}
use Rattle.sym_check.specs.Plan.ScriptPlans.{ScriptPlan}
use Rattle.sym_check.specs.Plan.WellFormed.{IsWellFormed}
use Rattle.sym_files.specs.FileRecords.{rules_of}
use Rattle.sym_files.specs.FirstProblems.{AllFine}
use Rattle.sym_file.specs.Texts.{saved_text}
use Rattle.sym_parse.specs.Printed.{script_text}
use Rattle.sym_reduce.specs.Joining.{AreFollowing, AreRunFiles, IsFirstOf, IsNextOf, IsOnlyOf, StandForParts}
use Rattle.sym_reduce.specs.Joining as joining
use Rattle.sym_file.specs.TakenTexts.{IsRunFile, Pairs}
use Rattle.sym_reduce.specs.Reducing.{AreReduced}
use Rattle.sym_reduce.specs.Reducing as runs
use Rattle.sym_reduce.specs.Standing.{StandInOrder}
use Rattle.sym_reduce.specs.Standing as standing
use Rattle.sym_reduce.proofs.Once.{same, totals_once}
use Rattle.sym_reduce.proofs.OnePass.{first_pass}
use Rattle.sym_report.specs.Forms.{FormTexts}
use Rattle.sym_run.specs.SavedRuns.{SavedStandsFor}
use Rattle.sym_run.specs.declared.saved.Saved.{Saved}
use Rattle.sym_table.specs.Reading.{Row}
use Rattle.sym_command.specs.Commands.{Asked, Command, Join, Joins, Maps, ReadsRecords, Reduce, Reduces, Runs, command_of, file_rules, first_no, texts_of}
use Rattle.sym_command.proofs.Bounds.{asked_few, joined_few}
use Rattle.sym_top.specs.Ends.{End, Held, Joined, IsEnd, usage, no_program, problem, finished, run_problem, reduced, join_problem, runs_joined, IsTextOf, IsWhole, nothing, report_in, said, summed, mapped, joined, files_of, groups_end, script_of, whole_end}
use Rattle.sym_top.specs.Parts.{AreJoinedTo, AreParts, IsJoinOfTexts, IsReportedInOne, IsReportedJoined, IsRunFileOf}
use Rattle.sym_top.specs.Parts as parts
use Rattle.sym_top.specs.Programs.{Program, IsProgram}
use Rattle.sym_top.specs.SavedFiles.{IsJoined}
use Rattle.sym_top.proofs.PartsReported.{cut_at as files_cut, fine_once, next_is, none_left, same_program, wrote_mapped}
use Rattle.sym_top.proofs.PassKeys.{fine-records}
use Rattle.sym_top.proofs.ReducedEnds.{program-formed}

abbrev records_of_all : List (List Record) → List Record
records_of_all parts = flat_map (λ (part : List Record). part) parts

all_of_both : (front rest : List (List Record)) → records_of_all (front ++ rest) ≡ records_of_all front ++ records_of_all rest
all_of_both front rest = flat_map-append (λ (part : List Record). part) front rest

-- ---- first and last numbers
same_first : (runs : List Saved) (a b : ℕ) → 1 ≤ length runs → IsFirstOf runs a → IsFirstOf runs b → a ≡ b
same_first [] a b some h k = absurd (omega arith)
same_first (run ∷ runs) a b some h k = h ∙ sym k

same_next : (runs : List Saved) (a b : ℕ) → 1 ≤ length runs → IsNextOf runs a → IsNextOf runs b → a ≡ b
same_next [] a b some h k = absurd (omega arith)
same_next (run ∷ []) a b some h k = h ∙ sym k
same_next (run ∷ other ∷ runs) a b some h k = same_next (other ∷ runs) a b (omega arith) h k

-- ---- the text of a joined end
joined_text : (end : End) (text : List ℕ) (program : Program) (limit : ℕ) (runs : List Saved) → end ≡ Joined program limit runs → IsTextOf end text → IsJoined program limit runs text
joined_text _ _ program limit runs e (nothing why) = absurd (cc)
joined_text _ _ program limit runs e (report_in form heads rows) = absurd (cc)
joined_text _ _ program limit runs e (said text) = absurd (cc)
joined_text _ _ program limit runs e (summed count rows) = absurd (cc)
joined_text _ _ program limit runs e (mapped own start most found text is) = absurd (cc)
joined_text _ _ program limit runs e (joined own most found text is) =
    let a : own ≡ program = cc in
    let b : most ≡ limit = cc in
    let c : found ≡ runs = cc in
    subst (λ (w : Program). IsJoined w limit runs text) a
    (subst (λ (n : ℕ). IsJoined own n runs text) b
    (subst (λ (rs : List Saved). IsJoined own most rs text) c is))

module _ (asked : Asked) (held : Held) (program : Program) (join : Join) (asks : command_of asked ≡ Some (Joins join)) (own : IsProgram held.script program) where
  this : (command : Command) → command_of asked ≡ Some command → Joins join ≡ command
  this command some = let both : Some (Joins join) ≡ Some command = sym asks ∙ some in cc

  -- The text is that of the join of the files' saved runs.
  Wrote : List ℕ → Type 0
  Wrote text = (runs : List Saved) × AreRunFiles (script_text program.tree) program.plan join.max_bytes held.files runs × IsJoined program join.limit runs text

  wrote_joined : (end : End) (text : List ℕ) → IsEnd asked held end → IsWhole end → IsTextOf end text → Wrote text
  unfolding Wrote
  wrote_joined _ text (usage none) whole is = absurd whole
  wrote_joined _ text (no_program command why some faulty) whole is = absurd whole
  wrote_joined _ text (problem command other why some found bad) whole is = absurd whole
  wrote_joined _ text (finished command other records some found reads fine) whole is = absurd (subst ReadsRecords (sym (this command some)) reads)
  wrote_joined _ text (run_problem reduce other why some found bad) whole is = absurd whole
  wrote_joined _ text (reduced reduce other stop totals some found are) whole is = let e : Joins join ≡ Reduces reduce = this (Reduces reduce) some in absurd (cc)
  wrote_joined _ text (join_problem other program why some found bad) whole is = absurd whole
  wrote_joined _ text (runs_joined other w found_runs some script are) whole is =
      let both : Joins join ≡ Joins other = this (Joins other) some in
      let one : other ≡ join = cc in
      let like : w ≡ program = same_program held.script w program script own in
      let P : Join → Type 0 = λ j. AreRunFiles (script_text w.tree) w.plan j.max_bytes held.files found_runs in
      let Q : Program → Type 0 = λ v. AreRunFiles (script_text v.tree) v.plan join.max_bytes held.files found_runs in (
        found_runs,
        subst Q like (subst P one are),
        joined_text (Joined w other.limit found_runs) text program join.limit found_runs
            (ap₂ (λ (v : Program) (j : Join). Joined v j.limit found_runs) like one) is,
      )

-- ---- the join of one file is that file
none_more : (script : List ℕ) (p : ScriptPlan) (max_bytes next : ℕ) (files : List (List ℕ)) (runs : List Saved) (end : ℕ) → files ≡ []
    → AreFollowing script p max_bytes next files runs end → runs ≡ []
none_more script p max_bytes _ _ _ _ e (joining.no_file next) = refl
none_more script p max_bytes _ _ _ _ e (joining.one_more next bytes files saved more end few own begins rest) = absurd (cc)

one_text : (script : List ℕ) (p : ScriptPlan) (max_bytes : ℕ) (bytes text : List ℕ) (single : Saved) (next : ℕ) (files : List (List ℕ)) (runs : List Saved) (end : ℕ)
    → files ≡ bytes ∷ [] → AreFollowing script p max_bytes next files runs end → IsOnlyOf runs single → text ≡ saved_text script single → text ≡ bytes
one_text script p max_bytes bytes text single _ _ _ _ e (joining.no_file next) only is = absurd (cc)
one_text script p max_bytes bytes text single _ _ _ _ e (joining.one_more next own files saved more end few file begins rest) only is =
    let here : own ≡ bytes = cc in
    let none : files ≡ [] = cc in
    let like : single ≡ saved = subst (λ (rs : List Saved). IsOnlyOf (saved ∷ rs) single) (none_more script p max_bytes saved.next files more end none rest) only in
    is ∙ ap (saved_text script) like ∙ sym file.is.text ∙ here

pub joined_alone : (program : Program) (bytes text : List ℕ) → IsJoinOfTexts program (bytes ∷ []) text → text ≡ bytes
unfolding Wrote
joined_alone program bytes text call =
    let size = call.join.max_bytes in
    let wrote = wrote_joined call.asked call.held program call.join call.asks call.is_program call.wrote.end text call.wrote.is_end call.wrote.whole call.wrote.text_is in
    one_text (script_text program.tree) program.plan size bytes text wrote.2.saved wrote.1.first call.held.files wrote.0 wrote.1.end call.files_are wrote.1.follow
    wrote.2.joins.only wrote.2.text

module _ (program : Program) (formed : IsWellFormed program.plan) where
  -- Texts of saved runs that stand for these parts, the first record of which has the number `first`,
  -- and after which `next` follows.
  Stand : ℕ → List (List ℕ) → List (List Record) → ℕ → Type 0
  Stand first [] [] next = first ≡ next
  Stand first [] (part ∷ parts) next = ⊥
  Stand first (text ∷ texts) [] next = ⊥
  Stand first (text ∷ texts) (part ∷ parts) next =
      (saved : Saved) × IsRunFile (script_text program.tree) program.plan text saved × SavedStandsFor program.plan part saved × (saved.first ≡ first)
      × All (IsRecord program.plan) part × Stand saved.next texts parts next

  record IsCutAt (first : ℕ) (inner texts : List (List ℕ)) (parts : List (List Record)) (next : ℕ) : Type 0 where
    front : List (List Record)
    rest : List (List Record)
    middle : ℕ
    are : parts ≡ front ++ rest
    before : Stand first inner front middle
    after : Stand middle texts rest next

  cut_at : (first : ℕ) (inner texts : List (List ℕ)) (parts : List (List Record)) (next : ℕ) → Stand first (inner ++ texts) parts next → IsCutAt first inner texts parts next
  unfolding Stand
  cut_at first [] texts parts next h = record { front = []; rest = parts; middle = first; are = refl; before = refl; after = h }
  cut_at first (text ∷ inner) texts [] next h = absurd h
  cut_at first (text ∷ inner) texts (part ∷ parts) next h =
      let cut = cut_at h.0.next inner texts parts next h.5 in
      record {
        front = part ∷ cut.front;
        rest = cut.rest;
        middle = cut.middle;
        are = ap (λ (ps : List (List Record)). part ∷ ps) cut.are;
        before = (h.0, h.1, h.2, h.3, h.4, cut.before);
        after = cut.after;
      }

  -- All are records of the script.
  kinds : (first : ℕ) (texts : List (List ℕ)) (parts : List (List Record)) (next : ℕ) → Stand first texts parts next → All (IsRecord program.plan) (records_of_all parts)
  unfolding Stand
  kinds first [] [] next h = All-nil (IsRecord program.plan)
  kinds first [] (part ∷ parts) next h = absurd h
  kinds first (text ∷ texts) [] next h = absurd h
  kinds first (text ∷ texts) (part ∷ parts) next h = All-append (IsRecord program.plan) part (records_of_all parts) h.4 (kinds h.0.next texts parts next h.5)

  -- ---- one text that others were joined to
  module _ (max_bytes : ℕ) (bound : max_bytes < 2 ^ 64) where
    Zipped : ℕ → List (List Record) → List Saved → ℕ → Type 0
    Zipped first parts saved next = StandForParts program.plan parts saved × IsFirstOf saved first × IsNextOf saved next

    one : (text : List ℕ) (a b : Saved) → length text ≤ max_bytes → IsRunFile (script_text program.tree) program.plan text a → IsRunFile (script_text program.tree) program.plan text b → a ≡ b
    one text a b few h k = same (script_text program.tree) program.plan formed text (omega arith) a b h k

    zipped : (from : ℕ) (texts : List (List ℕ)) (saved : List Saved) (end first : ℕ) (parts : List (List Record)) (next : ℕ) → AreFollowing (script_text program.tree) program.plan max_bytes from texts saved end
        → Stand first texts parts next → Zipped first parts saved next
    unfolding Zipped Stand
    zipped _ _ _ _ first [] next (joining.no_file from) h = (tt, tt, tt)
    zipped _ _ _ _ first (part ∷ parts) next (joining.no_file from) h = absurd h
    zipped _ _ _ _ first [] next (joining.one_more from text texts saved more end few own begins rest) h = absurd h
    zipped _ _ _ _ first (part ∷ parts) next (joining.one_more from text texts saved more end few own begins rest) h =
        let like : h.0 ≡ saved = one text h.0 saved few h.1 own in
        let later = zipped saved.next texts more end h.0.next parts next rest h.5 in
        let starts : first ≡ saved.first = sym h.3 ∙ ap (λ (s : Saved). s.first) like in
        ((subst (SavedStandsFor program.plan part) like h.2, later.0), starts, ends saved texts more end parts rest (subst (λ (s : Saved). Stand s.next texts parts next) like h.5) later.2)
      where
        ends : (saved : Saved) (texts : List (List ℕ)) (more : List Saved) (end : ℕ) (parts : List (List Record)) → AreFollowing (script_text program.tree) program.plan max_bytes saved.next texts more end
            → Stand saved.next texts parts next → IsNextOf more next → IsNextOf (saved ∷ more) next
        ends saved _ _ _ [] (joining.no_file from) h k = sym h
        ends saved _ _ _ (part ∷ parts) (joining.no_file from) h k = absurd h
        ends saved _ _ _ parts (joining.one_more from text texts other more end few own begins rest) h k = k

    long : (from : ℕ) (texts : List (List ℕ)) (saved : List Saved) (end : ℕ) → AreFollowing (script_text program.tree) program.plan max_bytes from texts saved end → length texts ≡ length saved
    long _ _ _ _ (joining.no_file from) = refl
    long _ _ _ _ (joining.one_more from text texts saved more end few own begins rest) = let later = long saved.next texts more end rest in omega (arith, later)

  -- What `join` wrote stands for the records of all parts that it joined.
  join_text : (first : ℕ) (outer : List (List ℕ)) (parts : List (List Record)) (next : ℕ) (text : List ℕ) → IsJoinOfTexts program outer text → 1 ≤ length outer → Stand first outer parts next
      → (saved : Saved) × IsRunFile (script_text program.tree) program.plan text saved × SavedStandsFor program.plan (records_of_all parts) saved × (saved.first ≡ first) × (saved.next ≡ next)
  unfolding Wrote Zipped
  join_text first outer parts next text call some h =
      let few = joined_few call.join call.asked call.asks in
      let bound : call.join.max_bytes < 2 ^ 64 = omega (arith, few) in
      let wrote = wrote_joined call.asked call.held program call.join call.asks call.is_program call.wrote.end text call.wrote.is_end call.wrote.whole call.wrote.text_is in
      let F : List (List ℕ) → Type 0 = λ fs. AreFollowing (script_text program.tree) program.plan call.join.max_bytes wrote.1.first fs wrote.0 wrote.1.end in
      let follow = subst F call.files_are wrote.1.follow in
      let zip = zipped call.join.max_bytes bound wrote.1.first outer wrote.0 wrote.1.end first parts next follow h in
      let many = long call.join.max_bytes bound wrote.1.first outer wrote.0 wrote.1.end follow in
      let j = wrote.2 in
      let there : 1 ≤ length wrote.0 = omega (arith, some, many) in (
        j.saved,
        record { is = record { lawful = j.joins.lawful parts zip.0; text = j.text }; stored = j.stored },
        j.joins.stands parts zip.0,
        same_first wrote.0 j.saved.first first there j.joins.first zip.1,
        same_next wrote.0 j.saved.next next there j.joins.next zip.2,
      )

  -- Texts that were joined stand for the same records, in other parts.
  regroup : (first : ℕ) (texts outer : List (List ℕ)) (all : List (List Record)) (next : ℕ) → AreJoinedTo program texts outer → Stand first texts all next
      → (others : List (List Record)) × Stand first outer others next × (records_of_all others ≡ records_of_all all)
  unfolding Stand
  regroup first _ _ all next parts.no_text h = (all, h, refl)
  regroup first _ _ [] next (parts.as_it_is text texts outer rest) h = absurd h
  regroup first _ _ (part ∷ all) next (parts.as_it_is text texts outer rest) h =
      let more = regroup h.0.next texts outer all next rest h.5 in
      (part ∷ more.0, (h.0, h.1, h.2, h.3, h.4, more.1), ap (λ (rs : List Record). part ++ rs) more.2)
  regroup first _ _ all next (parts.in_one inner outer texts others text within call some rest) h =
      let cut = cut_at first inner texts all next h in
      let front = regroup first inner outer cut.front cut.middle within cut.before in
      let made = join_text first outer front.0 cut.middle text call some front.1 in
      let later = regroup cut.middle texts others cut.rest next rest cut.after in (
        records_of_all front.0 ∷ later.0,
        (made.0, made.1, made.2, made.3, kinds first outer front.0 cut.middle front.1, subst (λ (n : ℕ). Stand n others later.0 next) (sym made.4) later.1),
        ap₂ (λ (xs ys : List Record). xs ++ ys) front.2 later.2 ∙ sym (all_of_both cut.front cut.rest) ∙ ap records_of_all (sym cut.are),
      )

  -- ---- what they are reduced to
  few_of : (size first : ℕ) (totals : Pairs) (texts : List (List ℕ)) (stop : ℕ) (all : Pairs) → AreReduced (script_text program.tree) program.plan size first totals texts stop all → All (λ (text : List ℕ). length text ≤ size) texts
  few_of size _ _ _ _ _ (runs.no_file next totals) = All-nil (λ (text : List ℕ). length text ≤ size)
  few_of size _ _ _ _ _ (runs.one_more next totals text texts saved more end all few is rest) =
      All-cons (λ (text : List ℕ). length text ≤ size) text texts few (few_of size saved.next more texts end all rest)

  stand_of : (size : ℕ) → size < 2 ^ 64 → (first : ℕ) (totals : Pairs) (texts : List (List ℕ)) (stop : ℕ) (all : Pairs) (records : List (List Record)) → AreReduced (script_text program.tree) program.plan size first totals texts stop all
      → AllZip (IsRunFileOf program) records texts → Stand first texts records stop
  unfolding Stand
  stand_of size bound _ _ _ _ _ [] (runs.no_file next totals) z = refl
  stand_of size bound _ _ _ _ _ (part ∷ records) (runs.no_file next totals) z = absurd z
  stand_of size bound _ _ _ _ _ [] (runs.one_more next totals text texts saved more end all few is rest) z = absurd z
  stand_of size bound _ _ _ _ _ (part ∷ records) (runs.one_more next totals text texts saved more end all few is rest) z =
      let like : saved ≡ z.0.saved = one size bound text saved z.0.saved few is.file z.0.file in
      let later = stand_of size bound saved.next more texts end all records rest z.1 in
      (z.0.saved, z.0.file, z.0.stands, sym (ap (λ (s : Saved). s.first) like) ∙ is.follows, z.0.are, subst (λ (s : Saved). Stand s.next texts records end) like later)

  in_order : (size first : ℕ) (texts : List (List ℕ)) (all : List (List Record)) (stop : ℕ) → Stand first texts all stop → All (λ (text : List ℕ). length text ≤ size) texts
      → StandInOrder (script_text program.tree) program.plan size first texts stop (records_of_all all)
  unfolding Stand
  in_order size first [] [] stop h few = subst (λ (n : ℕ). StandInOrder (script_text program.tree) program.plan size first [] n []) h (standing.no_file first)
  in_order size first [] (part ∷ all) stop h few = absurd h
  in_order size first (text ∷ texts) [] stop h few = absurd h
  in_order size first (text ∷ texts) (part ∷ all) stop h few =
      standing.one_more first text texts h.0 part stop (records_of_all all) (All-head (λ (text : List ℕ). length text ≤ size) text texts few) h.1 h.3 h.2 h.4
      (in_order size h.0.next texts all stop h.5 (All-tail (λ (text : List ℕ). length text ≤ size) text texts few))

  reduced_of : (size first : ℕ) (texts : List (List ℕ)) (all : List (List Record)) (stop : ℕ) → Stand first texts all stop → All (λ (text : List ℕ). length text ≤ size) texts
      → AreReduced (script_text program.tree) program.plan size first [] texts stop (pass program.plan (records_of_all all))
  reduced_of size first texts all stop h few =
      first_pass (script_text program.tree) program.plan formed size first texts stop (records_of_all all) (in_order size first texts all stop h few)

-- ---- the reports
module _ (asked : Asked) (texts : Held) (other : Asked) (saved : Held) (is : IsReportedJoined asked texts other saved) where
  reduces_this : (command : Command) → command_of asked ≡ Some command → Reduces is.reduce ≡ command
  reduces_this command some = let both : Some (Reduces is.reduce) ≡ Some command = sym is.asks_parts ∙ some in cc

  report_joined : (reduce : Reduce) (w : Program) (stop : ℕ) (totals : Pairs) → is.reduce ≡ reduce → w ≡ is.program → AreReduced (script_text w.tree) w.plan reduce.max_bytes 1 [] texts.files stop totals
      → IsEnd other saved (groups_end (texts_of asked.forms reduce.form) w totals)
  report_joined reduce w stop totals one like are =
      let program = is.program in
      let p = program.plan in
      let formed = program-formed texts.script program is.of_parts in
      let size = is.reduce.max_bytes in
      let few = asked_few is.reduce asked is.asks_parts in
      let bound : size < 2 ^ 64 = omega (arith, few) in
      let A : Program → Type 0 = λ v. AreReduced (script_text v.tree) v.plan reduce.max_bytes 1 [] texts.files stop totals in
      let S : Reduce → Type 0 = λ r. AreReduced (script_text program.tree) p r.max_bytes 1 [] texts.files stop totals in
      let own = subst S (sym one) (subst A like are) in
      let stand = stand_of program formed size bound 1 [] texts.files stop totals is.records own is.stand in
      let all = reduced_of program formed size 1 texts.files is.records stop stand (few_of program formed size 1 [] texts.files stop totals own) in
      let passed : totals ≡ pass p (records_of_all is.records) = totals_once (script_text program.tree) p formed size bound 1 [] texts.files stop stop totals (pass p (records_of_all is.records)) own all in
      let grouped = regroup program formed 1 texts.files saved.files is.records stop is.joins stand in
      let again = reduced_of program formed is.other.max_bytes 1 saved.files grouped.0 stop grouped.1 is.few in
      let T : Pairs → Type 0 = λ ts. AreReduced (script_text program.tree) p is.other.max_bytes 1 [] saved.files stop ts in
      let made = subst T (ap (pass p) grouped.2 ∙ sym passed) again in
      let E : Program → Type 0 = λ v. IsEnd other saved (groups_end (texts_of asked.forms reduce.form) v totals) in
      let R : Reduce → Type 0 = λ r. IsEnd other saved (groups_end (texts_of asked.forms r.form) program totals) in
      let F = λ (form : FormTexts). IsEnd other saved (groups_end form program totals) in
      subst E (sym like) (subst R one (subst F (sym is.form) (reduced is.other program stop totals is.asks_joined is.of_joined made)))

  pub reported_joined : (end : End) → IsEnd asked texts end → IsWhole end → IsEnd other saved end
  reported_joined _ (usage none) done = absurd done
  reported_joined _ (no_program command why some faulty) done = absurd done
  reported_joined _ (problem command w why some found bad) done = absurd done
  reported_joined _ (finished command w records some found reads fine) done = absurd (subst ReadsRecords (sym (reduces_this command some)) reads)
  reported_joined _ (run_problem reduce w why some found bad) done = absurd done
  reported_joined _ (join_problem join w why some found bad) done = absurd done
  reported_joined _ (runs_joined join w found_runs some found are) done = let e : Reduces is.reduce ≡ Joins join = reduces_this (Joins join) some in absurd (cc)
  reported_joined _ (reduced reduce w stop totals some found are) done =
      let both : Reduces is.reduce ≡ Reduces reduce = reduces_this (Reduces reduce) some in
      let one : is.reduce ≡ reduce = cc in
      report_joined reduce w stop totals one (same_program texts.script w is.program found is.of_parts) are

-- ---- parts of a log
module _ (program : Program) (formed : IsWellFormed program.plan) (shown : Row → Row) (max_bytes : ℕ) where
  -- What `map` wrote of the parts of files stands for their records.
  parts_stand : (first : ℕ) (files texts : List (List ℕ)) (records : List Record) → AreParts program shown first files texts → AllFine program.plan (rules_of max_bytes shown) first files records
      → (all : List (List Record)) × (next : ℕ) × Stand program formed first texts all next × (records_of_all all ≡ records)
  unfolding Stand
  parts_stand _ _ _ records (parts.no_part first) fine = ([], first, refl, none_left program.plan (rules_of max_bytes shown) first [] records refl fine)
  parts_stand _ _ _ records (parts.one_more first files others texts own text is rest) fine =
      let p = program.plan in
      let rules = rules_of max_bytes shown in
      let cut = files_cut p rules first (files ++ others) files others records refl fine in
      let P : (Row → Row) → Type 0 = λ show. AllFine p (rules_of is.part.options.max_bytes show) first files own in
      let like : cut.front ≡ own = fine_once p shown max_bytes is.part.options.max_bytes first files cut.front own cut.fine (subst P is.likewise is.fine) in
      let Q : List Record → Type 0 = λ rs. AllFine p rules (first + length rs) others cut.rest in
      let later = parts_stand (first + length own) others texts cut.rest rest (subst Q like cut.later) in
      let F : List (List ℕ) → Type 0 = λ fs. AllFine p (file_rules is.asked (Maps is.part)) first fs own in
      let N : ℕ → Type 0 = λ n. AllFine p (file_rules is.asked (Maps is.part)) n is.held.files own in
      let all = subst N (sym is.first_is) (subst F (sym is.files_are) is.fine) in
      let m = wrote_mapped is.asked is.held program is.part is.asks is.is_program is.wrote.end text own is.wrote.is_end is.wrote.whole is.wrote.text_is all in
      let begins : m.saved.first ≡ first = m.first_is ∙ is.first_is in
      let ends : m.saved.next ≡ first + length own = next_is m.saved.first m.saved.next own m.stands.numbered ∙ ap (λ (n : ℕ). n + length own) begins in
      let kinds = fine-records p (file_rules is.asked (Maps is.part)) first files own formed is.fine in (
        own ∷ later.0,
        later.1,
        (m.saved, m.file, m.stands, begins, kinds, subst (λ (n : ℕ). Stand program formed n texts later.0 later.1) (sym ends) later.2),
        ap₂ (λ (xs ys : List Record). xs ++ ys) (sym like) later.3 ∙ sym cut.are,
      )

module _ (whole : Asked) (held : Held) (other : Asked) (saved : Held) (is : IsReportedInOne whole held other saved) where
  runs_this : (command : Command) → command_of whole ≡ Some command → Runs is.run ≡ command
  runs_this command some = let both : Some (Runs is.run) ≡ Some command = sym is.asks_run ∙ some in cc

  report_in_one : (w : Program) (records : List Record) → w ≡ is.program → AllFine w.plan (file_rules whole (Runs is.run)) 1 held.files records
      → IsEnd other saved (groups_end (texts_of whole.forms is.run.form) w (pass w.plan records))
  report_in_one w records like fine =
      let program = is.program in
      let p = program.plan in
      let formed = program-formed held.script program is.of_run in
      let P : Program → Type 0 = λ v. AllFine v.plan (file_rules whole (Runs is.run)) 1 held.files records in
      let stand = parts_stand program formed whole.shown is.run.options.max_bytes 1 held.files is.texts records is.parts (subst P like fine) in
      let grouped = regroup program formed 1 is.texts saved.files stand.0 stand.1 is.joins stand.2 in
      let again = reduced_of program formed is.reduce.max_bytes 1 saved.files grouped.0 stand.1 grouped.1 is.few in
      let T : List Record → Type 0 = λ rs. AreReduced (script_text program.tree) p is.reduce.max_bytes 1 [] saved.files stand.1 (pass p rs) in
      let made = subst T (grouped.2 ∙ stand.3) again in
      let E : Program → Type 0 = λ v. IsEnd other saved (groups_end (texts_of whole.forms is.run.form) v (pass v.plan records)) in
      let F = λ (form : FormTexts). IsEnd other saved (groups_end form program (pass p records)) in
      subst E (sym like) (subst F (sym is.form) (reduced is.reduce program stand.1 (pass p records) is.asks_reduce is.of_reduce made))

  pub reported_in_one : (end : End) → IsEnd whole held end → IsWhole end → IsEnd other saved end
  reported_in_one _ (usage none) done = absurd done
  reported_in_one _ (no_program command why some faulty) done = absurd done
  reported_in_one _ (problem command w why some found bad) done = absurd done
  reported_in_one _ (run_problem reduce w why some found bad) done = absurd done
  reported_in_one _ (reduced reduce w stop totals some found are) done = let e : Runs is.run ≡ Reduces reduce = runs_this (Reduces reduce) some in absurd (cc)
  reported_in_one _ (join_problem join w why some found bad) done = absurd done
  reported_in_one _ (runs_joined join w found_runs some found are) done = let e : Runs is.run ≡ Joins join = runs_this (Joins join) some in absurd (cc)
  reported_in_one _ (finished command w records some script reads all) done =
      let like = sym (runs_this command some) in
      let P : Command → Type 0 = λ k. IsProgram (script_of k held) w in
      let Q : Command → Type 0 = λ k. AllFine w.plan (file_rules whole k) (first_no k) (files_of k held) records in
      let R : Command → Type 0 = λ k. IsEnd other saved (whole_end whole k w records) in
      subst R (sym like) (report_in_one w records (same_program held.script w is.program (subst P like script) is.of_run) (subst Q like all))
