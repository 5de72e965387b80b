-- Why a report on the saved runs of parts is that of the whole.
use Rattle.std.proofs.Common.{◌≡◌, ◌∙◌, refl, sym, ap, subst, ℕ, suc, ◌+◌, ◌≤◌, arith, append_assoc, length-append, List, [], ◌∷◌, ◌++◌, All, length, Some, Ok}
use Rattle.std.proofs.lemmas.List.Elements.{All-head, All-tail}
use Rattle.sym_base.specs.declared.values.record.Record.{Record}
use Rattle.sym_check.specs.Meaning.Groups.{pass}
use Rattle.sym_check.specs.Plan.ScriptPlans.{ScriptPlan}
use Rattle.sym_check.specs.Plan.WellFormed.{IsWellFormed}
use Rattle.sym_files.specs.FileRecords.{FileRules, IsFine, rules_of}
use Rattle.sym_files.specs.FileRecords as fine
use Rattle.sym_files.specs.FirstProblems.{AllFine}
use Rattle.sym_files.specs.FirstProblems as all_fine
use Rattle.sym_files.proofs.FilesAgree.{files_records}
use Rattle.sym_parse.specs.Printed.{script_text}
use Rattle.sym_reduce.specs.Reducing.{AreReduced}
use Rattle.sym_reduce.specs.Standing.{StandInOrder}
use Rattle.sym_reduce.specs.Standing as standing
use Rattle.sym_reduce.proofs.OnePass.{first_pass}
use Rattle.sym_run.specs.SavedRuns.{AreNumbered}
use Rattle.sym_table.specs.Reading.{Row}
use Rattle.sym_report.specs.Forms.{FormTexts}
use Rattle.sym_command.specs.Commands.{Asked, Command, Joins, Map, Maps, Reduces, Runs, command_of, file_rules, first_no, texts_of}
use Rattle.sym_top.specs.Ends.{End, Mapped, Held, IsEnd, usage, no_program, problem, finished, run_problem, reduced, join_problem, runs_joined, IsTextOf, IsWhole, nothing, report_in, said, summed, mapped, joined, files_of, groups_end, script_of, whole_end}
use Rattle.sym_top.specs.Parts.{AreParts, IsPart, IsReportedApart}
use Rattle.sym_top.specs.Parts as parts
use Rattle.sym_top.specs.Programs.{Program, IsProgram}
use Rattle.sym_top.specs.SavedFiles.{IsMapped}
use Rattle.sym_top.proofs.PassKeys.{fine-records}
use Rattle.sym_top.proofs.ProgramsFound.{program-found}
use Rattle.sym_top.proofs.ReducedEnds.{program-formed}

-- ---- files have the same records, however large they may be
wider : (p : ScriptPlan) (shown : Row → Row) (small large first : ℕ) (bytes : List ℕ) (records : List Record) → small ≤ large
    → IsFine p (rules_of small shown) first bytes records → IsFine p (rules_of large shown) first bytes records
wider p shown small large first bytes _ more (fine.empty few none) = fine.empty (omega (arith, more, few)) none
wider p shown small large first bytes _ more (fine.filled row rows header records few are is have) = fine.filled row rows header records (omega (arith, more, few)) are is have

all_wider : (p : ScriptPlan) (shown : Row → Row) (small large first : ℕ) (files : List (List ℕ)) (records : List Record) → small ≤ large
    → AllFine p (rules_of small shown) first files records → AllFine p (rules_of large shown) first files records
all_wider p shown small large _ _ _ more (all_fine.no_file first) = all_fine.no_file first
all_wider p shown small large _ _ _ more (all_fine.one_more first bytes files records others is rest) =
    all_fine.one_more first bytes files records others (wider p shown small large first bytes records more is) (all_wider p shown small large (first + length records) files others more rest)

pub fine_once : (p : ScriptPlan) (shown : Row → Row) (small large first : ℕ) (files : List (List ℕ)) (some others : List Record)
    → AllFine p (rules_of small shown) first files some → AllFine p (rules_of large shown) first files others → some ≡ others
fine_once p shown small large first files some others a b =
    let rules = rules_of (small + large) shown in
    let x = (files_records p rules 0 first files some).0 (all_wider p shown small (small + large) first files some (omega arith) a) in
    let y = (files_records p rules 0 first files others).0 (all_wider p shown large (small + large) first files others (omega arith) b) in
    let both : Ok some ≡ Ok others = sym x ∙ y in cc

-- ---- the records of files before others, and of those
pub record AreCut (p : ScriptPlan) (rules : FileRules) (first : ℕ) (files others : List (List ℕ)) (records : List Record) : Type 0 where
  pub front : List Record
  pub rest : List Record
  pub are : records ≡ front ++ rest
  pub fine : AllFine p rules first files front
  pub later : AllFine p rules (first + length front) others rest

pub cut_at : (p : ScriptPlan) (rules : FileRules) (first : ℕ) (all files others : List (List ℕ)) (records : List Record) → all ≡ files ++ others
    → AllFine p rules first all records → AreCut p rules first files others records
cut_at p rules first all [] others records same is =
    let P : List (List ℕ) → Type 0 = λ fs. AllFine p rules first fs records in
    let Q : ℕ → Type 0 = λ n. AllFine p rules n others records in
    let start : first ≡ first + 0 = omega arith in
    record { front = []; rest = records; are = refl; fine = all_fine.no_file first; later = subst Q start (subst P same is) }
cut_at p rules _ _ (own ∷ files) others _ same (all_fine.no_file first) = absurd (cc)
cut_at p rules _ _ (own ∷ files) others _ same (all_fine.one_more first bytes more records later is rest) =
    let head : bytes ≡ own = cc in
    let tail : more ≡ files ++ others = cc in
    let cut = cut_at p rules (first + length records) more files others later tail rest in
    let P : List ℕ → Type 0 = λ bs. IsFine p rules first bs records in
    let Q : ℕ → Type 0 = λ n. AllFine p rules n others cut.rest in
    let next : first + length records + length cut.front ≡ first + length (records ++ cut.front) = omega (arith, length-append records cut.front) in
    record {
      front = records ++ cut.front;
      rest = cut.rest;
      are = ap (λ (rs : List Record). records ++ rs) cut.are ∙ sym (append_assoc records cut.front cut.rest);
      fine = all_fine.one_more first own files records cut.front (subst P head is) cut.fine;
      later = subst Q next cut.later;
    }

pub none_left : (p : ScriptPlan) (rules : FileRules) (first : ℕ) (files : List (List ℕ)) (records : List Record) → files ≡ [] → AllFine p rules first files records → [] ≡ records
none_left p rules _ _ _ same (all_fine.no_file first) = refl
none_left p rules _ _ _ same (all_fine.one_more first bytes files records others is rest) = absurd (cc)

-- ---- numbers
pub next_is : (first next : ℕ) (records : List Record) → AreNumbered first next records → next ≡ first + length records
next_is first next [] h = omega (arith, h)
next_is first next (rec ∷ records) h = let later = next_is (suc first) next records h.1 in omega (arith, later)

-- ---- a text has one program
pub same_program : (text : List ℕ) (one other : Program) → IsProgram text one → IsProgram text other → one ≡ other
same_program text one other a b = let both : Ok one ≡ Ok other = sym (program-found text one a) ∙ program-found text other b in cc

-- ---- what a part wrote
mapped_text : (end : End) (text : List ℕ) (program : Program) (from limit : ℕ) (records : List Record) → end ≡ Mapped program from limit records → IsTextOf end text
    → IsMapped program from limit records text
mapped_text _ _ program from limit records same (nothing why) = absurd (cc)
mapped_text _ _ program from limit records same (report_in form heads rows) = absurd (cc)
mapped_text _ _ program from limit records same (said text) = absurd (cc)
mapped_text _ _ program from limit records same (summed count rows) = absurd (cc)
mapped_text _ _ program from limit records same (joined own most runs text is) = absurd (cc)
mapped_text _ _ program from limit records same (mapped own start most found text is) =
    let a : own ≡ program = cc in
    let b : start ≡ from = cc in
    let c : most ≡ limit = cc in
    let d : found ≡ records = cc in
    subst (λ (w : Program). IsMapped w from limit records text) a
    (subst (λ (n : ℕ). IsMapped own n limit records text) b
    (subst (λ (n : ℕ). IsMapped own start n records text) c
    (subst (λ (rs : List Record). IsMapped own start most rs text) d is)))

module _ (asked : Asked) (held : Held) (program : Program) (part : Map) (asks : command_of asked ≡ Some (Maps part)) (own : IsProgram held.script program) where
  this : (command : Command) → command_of asked ≡ Some command → Maps part ≡ command
  this command some = let both : Some (Maps part) ≡ Some command = sym asks ∙ some in cc

  -- The saved run is that of the files' records.
  pub wrote_mapped : (end : End) (text : List ℕ) (records : List Record) → IsEnd asked held end → IsWhole end → IsTextOf end text
      → AllFine program.plan (file_rules asked (Maps part)) part.first held.files records → IsMapped program part.first part.options.limit records text
  wrote_mapped _ text records (usage none) whole is fine = absurd whole
  wrote_mapped _ text records (no_program command why some faulty) whole is fine = absurd whole
  wrote_mapped _ text records (problem command other why some found bad) whole is fine = absurd whole
  wrote_mapped _ text records (run_problem reduce other why some found bad) whole is fine = absurd whole
  wrote_mapped _ text records (reduced reduce other stop totals some found are) whole is fine =
      let same : Maps part ≡ Reduces reduce = this (Reduces reduce) some in absurd (cc)
  wrote_mapped _ text records (join_problem join other why some found bad) whole is fine = absurd whole
  wrote_mapped _ text records (runs_joined join other runs some found are) whole is fine =
      let same : Maps part ≡ Joins join = this (Joins join) some in absurd (cc)
  wrote_mapped _ text records (finished command other found some script reads all) whole is fine =
      by command (sym (this command some)) other found script all is
    where
      by : (c : Command) → c ≡ Maps part → (w : Program) (rs : List Record) → IsProgram (script_of c held) w → AllFine w.plan (file_rules asked c) (first_no c) (files_of c held) rs
          → IsTextOf (whole_end asked c w rs) text → IsMapped program part.first part.options.limit records text
      by c same w rs script all is =
          let P : Command → Type 0 = λ k. IsProgram (script_of k held) w in
          let Q : Command → Type 0 = λ k. AllFine w.plan (file_rules asked k) (first_no k) (files_of k held) rs in
          let R : Command → Type 0 = λ k. IsTextOf (whole_end asked k w rs) text in
          let one : w ≡ program = same_program held.script w program (subst P same script) own in
          let S : Program → Type 0 = λ v. AllFine v.plan (file_rules asked (Maps part)) part.first held.files rs in
          let there = fine_once program.plan asked.shown part.options.max_bytes part.options.max_bytes part.first held.files rs records (subst S one (subst Q same all)) fine in
          mapped_text (whole_end asked (Maps part) w rs) text program part.first part.options.limit records
          (ap (λ (v : Program). Mapped v part.first part.options.limit rs) one ∙ ap (λ (xs : List Record). Mapped program part.first part.options.limit xs) there) (subst R same is)

-- ---- all parts
module _ (program : Program) (formed : IsWellFormed program.plan) (shown : Row → Row) (max_bytes size : ℕ) where
  -- The texts are run files in order, which stand for these records.
  Stand : ℕ → List Record → List (List ℕ) → Type 0
  Stand first records texts = (stop : ℕ) × StandInOrder (script_text program.tree) program.plan size first texts stop records

  one_part : (first : ℕ) (files : List (List ℕ)) (records : List Record) (text : List ℕ) (rest : List Record) (texts : List (List ℕ))
      → IsPart program shown first files records text → length text ≤ size
      → Stand (first + length records) rest texts → Stand first (records ++ rest) (text ∷ texts)
  unfolding Stand
  one_part first files records text rest texts is few later =
      let p = program.plan in
      let rules = file_rules is.asked (Maps is.part) in
      let F : List (List ℕ) → Type 0 = λ fs. AllFine p rules first fs records in
      let N : ℕ → Type 0 = λ n. AllFine p rules n is.held.files records in
      let all = subst N (sym is.first_is) (subst F (sym is.files_are) is.fine) in
      let m = wrote_mapped is.asked is.held program is.part is.asks is.is_program is.wrote.end text records is.wrote.is_end is.wrote.whole is.wrote.text_is all in
      let own : m.saved.first ≡ first = m.first_is ∙ is.first_is in
      let next : m.saved.next ≡ first + length records = next_is m.saved.first m.saved.next records m.stands.numbered ∙ ap (λ (n : ℕ). n + length records) own in
      let A : ℕ → Type 0 = λ n. StandInOrder (script_text program.tree) p size n texts later.0 rest in
      (later.0, standing.one_more first text texts m.saved records later.0 rest few m.file own m.stands (fine-records p rules first files records formed is.fine) (subst A (sym next) later.1))

  stands : (first : ℕ) (files texts : List (List ℕ)) (records : List Record) → AreParts program shown first files texts → All (λ text. length text ≤ size) texts
      → AllFine program.plan (rules_of max_bytes shown) first files records → Stand first records texts
  unfolding Stand
  stands _ _ _ records (parts.no_part first) few fine =
      let none = none_left program.plan (rules_of max_bytes shown) first [] records refl fine in
      (first, subst (λ (rs : List Record). StandInOrder (script_text program.tree) program.plan size first [] first rs) none (standing.no_file first))
  stands _ _ _ records (parts.one_more first files others texts own text is rest) few fine =
      let rules = rules_of max_bytes shown in
      let cut = cut_at program.plan rules first (files ++ others) files others records refl fine in
      let P : (Row → Row) → Type 0 = λ show. AllFine program.plan (rules_of is.part.options.max_bytes show) first files own in
      let same : cut.front ≡ own = fine_once program.plan shown max_bytes is.part.options.max_bytes first files cut.front own cut.fine (subst P is.likewise is.fine) in
      let Q : List Record → Type 0 = λ rs. AllFine program.plan rules (first + length rs) others cut.rest in
      let later = stands (first + length own) others texts cut.rest rest (All-tail (λ text. length text ≤ size) text texts few) (subst Q same cut.later) in
      let R : List Record → Type 0 = λ rs. Stand first rs (text ∷ texts) in
      subst R (sym (cut.are ∙ ap (λ (rs : List Record). rs ++ cut.rest) same))
      (one_part first files own text cut.rest texts is (All-head (λ text. length text ≤ size) text texts few) later)

  -- So they are reduced to the pass over these.
  reduces : (first : ℕ) (files texts : List (List ℕ)) (records : List Record) → AreParts program shown first files texts → All (λ text. length text ≤ size) texts
      → AllFine program.plan (rules_of max_bytes shown) first files records
      → (stop : ℕ) × AreReduced (script_text program.tree) program.plan size first [] texts stop (pass program.plan records)
  unfolding Stand
  reduces first files texts records are few fine =
      let s = stands first files texts records are few fine in
      (s.0, first_pass (script_text program.tree) program.plan formed size first texts s.0 records s.1)

-- ---- the whole
module _ (whole : Asked) (held : Held) (apart : Asked) (saved : Held) (is : IsReportedApart whole held apart saved) where
  runs_this : (command : Command) → command_of whole ≡ Some command → Runs is.run ≡ command
  runs_this command some = let both : Some (Runs is.run) ≡ Some command = sym is.asks_run ∙ some in cc

  report_apart : (w : Program) (records : List Record) → w ≡ is.program → AllFine w.plan (file_rules whole (Runs is.run)) 1 held.files records
      → IsEnd apart saved (groups_end (texts_of whole.forms is.run.form) w (pass w.plan records))
  report_apart w records same fine =
      let program = is.program in
      let P : Program → Type 0 = λ v. AllFine v.plan (file_rules whole (Runs is.run)) 1 held.files records in
      let E : Program → Type 0 = λ v. IsEnd apart saved (groups_end (texts_of whole.forms is.run.form) v (pass v.plan records)) in
      let to = reduces program (program-formed held.script program is.of_run) whole.shown is.run.options.max_bytes is.reduce.max_bytes 1 held.files saved.files records is.parts is.few (subst P same fine) in
      let F = λ (form : FormTexts). IsEnd apart saved (groups_end form program (pass program.plan records)) in
      subst E (sym same) (subst F (sym is.form) (reduced is.reduce program to.0 (pass program.plan records) is.asks_reduce is.of_reduce to.1))

  pub reported_apart : (end : End) → IsEnd whole held end → IsWhole end → IsEnd apart saved end
  reported_apart _ (usage none) done = absurd done
  reported_apart _ (no_program command why some faulty) done = absurd done
  reported_apart _ (problem command other why some found bad) done = absurd done
  reported_apart _ (run_problem reduce other why some found bad) done = absurd done
  reported_apart _ (reduced reduce other stop totals some found are) done = let same : Runs is.run ≡ Reduces reduce = runs_this (Reduces reduce) some in absurd (cc)
  reported_apart _ (join_problem join other why some found bad) done = absurd done
  reported_apart _ (runs_joined join other runs some found are) done = let same : Runs is.run ≡ Joins join = runs_this (Joins join) some in absurd (cc)
  reported_apart _ (finished command w records some script reads all) done =
      let same = sym (runs_this command some) in
      let P : Command → Type 0 = λ k. IsProgram (script_of k held) w in
      let Q : Command → Type 0 = λ k. AllFine w.plan (file_rules whole k) (first_no k) (files_of k held) records in
      let R : Command → Type 0 = λ k. IsEnd apart saved (whole_end whole k w records) in
      subst R (sym same) (report_apart w records (same_program held.script w is.program (subst P same script) is.of_run) (subst Q same all))
