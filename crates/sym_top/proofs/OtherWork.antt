-- No end depends on how records are worked on.
use Rattle.std.proofs.Common.{◌≡◌, ◌↔◌, ℕ, List, Some, None, refl, sym, ap, subst, ◌∙◌}
use Rattle.sym_base.specs.declared.limits.TheConstants as limit
use Rattle.sym_base.specs.declared.values.record.Record.{Record}
use Rattle.sym_files.specs.FileRecords.{FileRules, rules_of}
use Rattle.sym_files.specs.FirstProblems.{AllFine, FirstProblem}
use Rattle.sym_table.specs.Reading.{Row}
use Rattle.sym_command.specs.Commands.{Asked, Command, Form, Join, Joins, Reduce, Reduces, ReadsRecords, command_of, file_rules, first_no, texts_of}
use Rattle.sym_command.specs.Working.{IsWorkedOtherwise, run_otherwise, trace_otherwise, check_likewise, make_otherwise, map_otherwise, reduce_likewise, join_likewise, worked, DifferInWork}
use Rattle.sym_top.specs.Ends.{End, Held, IsEnd, usage, no_program, problem, finished, run_problem, reduced, join_problem, runs_joined, script_of, files_of, whole_end, report_of, trace_report_of, groups_end}
use Rattle.sym_top.specs.Programs.{Program, IsProgram, IsNoProgram}

-- The first command is the second worked otherwise as well.
swapped : (command other : Command) → IsWorkedOtherwise command other → IsWorkedOtherwise other command
swapped _ _ (run_otherwise run chunk limit workers watch) =
    run_otherwise (record run { options = worked run.options chunk limit workers; watch = watch })
    run.options.chunk run.options.limit run.options.workers run.watch
swapped _ _ (trace_otherwise trace chunk limit workers) =
    trace_otherwise (record trace { options = worked trace.options chunk limit workers })
    trace.options.chunk trace.options.limit trace.options.workers
swapped _ _ (check_likewise check) = check_likewise check
swapped _ _ (make_otherwise make chunk limit workers) =
    make_otherwise (record make { options = worked make.options chunk limit workers })
    make.options.chunk make.options.limit make.options.workers
swapped _ _ (map_otherwise part chunk workers) =
    map_otherwise (record part { options = worked part.options chunk part.options.limit workers })
    part.options.chunk part.options.workers
swapped _ _ (reduce_likewise reduce) = reduce_likewise reduce
swapped _ _ (join_likewise join) = join_likewise join

-- ---- what the two commands share

same_script : (held : Held) (command other : Command) → IsWorkedOtherwise command other → script_of command held ≡ script_of other held
same_script held _ _ (run_otherwise run chunk limit workers watch) = refl
same_script held _ _ (trace_otherwise trace chunk limit workers) = refl
same_script held _ _ (check_likewise check) = refl
same_script held _ _ (make_otherwise make chunk limit workers) = refl
same_script held _ _ (map_otherwise part chunk workers) = refl
same_script held _ _ (reduce_likewise reduce) = refl
same_script held _ _ (join_likewise join) = refl

same_files : (held : Held) (command other : Command) → IsWorkedOtherwise command other → files_of command held ≡ files_of other held
same_files held _ _ (run_otherwise run chunk limit workers watch) = refl
same_files held _ _ (trace_otherwise trace chunk limit workers) = refl
same_files held _ _ (check_likewise check) = refl
same_files held _ _ (make_otherwise make chunk limit workers) = refl
same_files held _ _ (map_otherwise part chunk workers) = refl
same_files held _ _ (reduce_likewise reduce) = refl
same_files held _ _ (join_likewise join) = refl

same_first : (command other : Command) → IsWorkedOtherwise command other → first_no command ≡ first_no other
same_first _ _ (run_otherwise run chunk limit workers watch) = refl
same_first _ _ (trace_otherwise trace chunk limit workers) = refl
same_first _ _ (check_likewise check) = refl
same_first _ _ (make_otherwise make chunk limit workers) = refl
same_first _ _ (map_otherwise part chunk workers) = refl
same_first _ _ (reduce_likewise reduce) = refl
same_first _ _ (join_likewise join) = refl

reads_too : (command other : Command) → IsWorkedOtherwise command other → ReadsRecords command → ReadsRecords other
reads_too _ _ (run_otherwise run chunk limit workers watch) reads = tt
reads_too _ _ (trace_otherwise trace chunk limit workers) reads = tt
reads_too _ _ (check_likewise check) reads = tt
reads_too _ _ (make_otherwise make chunk limit workers) reads = tt
reads_too _ _ (map_otherwise part chunk workers) reads = tt
reads_too _ _ (reduce_likewise reduce) reads = reads
reads_too _ _ (join_likewise join) reads = reads

-- `reduce` has none of the options.
same_reduce : (command other : Command) (reduce : Reduce) → IsWorkedOtherwise command other → command ≡ Reduces reduce → other ≡ Reduces reduce
same_reduce _ _ reduce (run_otherwise run chunk limit workers watch) e = absurd (cc)
same_reduce _ _ reduce (trace_otherwise trace chunk limit workers) e = absurd (cc)
same_reduce _ _ reduce (check_likewise check) e = absurd (cc)
same_reduce _ _ reduce (make_otherwise make chunk limit workers) e = absurd (cc)
same_reduce _ _ reduce (map_otherwise part chunk workers) e = absurd (cc)
same_reduce _ _ reduce (reduce_likewise own) e = e
same_reduce _ _ reduce (join_likewise join) e = absurd (cc)

-- Nor has `join`, but for the limit, which stays.
same_join : (command other : Command) (join : Join) → IsWorkedOtherwise command other → command ≡ Joins join → other ≡ Joins join
same_join _ _ join (run_otherwise run chunk limit workers watch) e = absurd (cc)
same_join _ _ join (trace_otherwise trace chunk limit workers) e = absurd (cc)
same_join _ _ join (check_likewise check) e = absurd (cc)
same_join _ _ join (make_otherwise make chunk limit workers) e = absurd (cc)
same_join _ _ join (map_otherwise part chunk workers) e = absurd (cc)
same_join _ _ join (reduce_likewise reduce) e = absurd (cc)
same_join _ _ join (join_likewise own) e = e

module _ (one other : Asked) (forms : one.forms ≡ other.forms) (shown : one.shown ≡ other.shown) where
  same_rules : (command likewise : Command) → IsWorkedOtherwise command likewise → file_rules one command ≡ file_rules other likewise
  same_rules _ _ (run_otherwise run chunk limit workers watch) = ap (λ (show : Row → Row). rules_of run.options.max_bytes show) shown
  same_rules _ _ (trace_otherwise trace chunk limit workers) = refl
  same_rules _ _ (check_likewise check) = ap (λ (show : Row → Row). rules_of limit.FILE_MAX_DEFAULT show) shown
  same_rules _ _ (make_otherwise make chunk limit workers) = ap (λ (show : Row → Row). rules_of make.options.max_bytes show) shown
  same_rules _ _ (map_otherwise part chunk workers) = ap (λ (show : Row → Row). rules_of part.options.max_bytes show) shown
  same_rules _ _ (reduce_likewise reduce) = ap (λ (show : Row → Row). rules_of reduce.max_bytes show) shown
  same_rules _ _ (join_likewise join) = ap (λ (show : Row → Row). rules_of join.max_bytes show) shown

  same_whole : (command likewise : Command) (program : Program) (records : List Record) → IsWorkedOtherwise command likewise
      → whole_end one command program records ≡ whole_end other likewise program records
  same_whole _ _ program records (run_otherwise run chunk limit workers watch) =
      ap (λ (fs : List Form). report_of (texts_of fs run.form) program records) forms
  same_whole _ _ program records (trace_otherwise trace chunk limit workers) =
      ap (λ (fs : List Form). trace_report_of (texts_of fs trace.form) program trace.every records) forms
  same_whole _ _ program records (check_likewise check) = refl
  same_whole _ _ program records (make_otherwise make chunk limit workers) = refl
  same_whole _ _ program records (map_otherwise part chunk workers) = refl
  same_whole _ _ program records (reduce_likewise reduce) =
      ap (λ (fs : List Form). report_of (texts_of fs reduce.form) program records) forms
  same_whole _ _ program records (join_likewise join) = refl

  module _ (held : Held) (likewise : Command) (asks : command_of other ≡ Some likewise) where
    -- The second call has the end that the first one has, at each stage.
    across : (end : End) → IsEnd one held end → ((command : Command) → command_of one ≡ Some command → IsWorkedOtherwise command likewise)
        → (command_of one ≡ None → ⊥) → IsEnd other held end
    across _ (usage none) differs some = absurd (some none)
    across _ (no_program command why own is) differs some =
        no_program likewise why asks
        (subst (λ (text : List ℕ). IsNoProgram text why) (same_script held command likewise (differs command own)) is)
    across _ (problem command program why own is first) differs some =
        let by = differs command own in
        let P : FileRules → Type 0 = λ rules. FirstProblem program.plan rules 0 (first_no command) (files_of command held) why in
        let Q : ℕ → Type 0 = λ n. FirstProblem program.plan (file_rules other likewise) 0 n (files_of command held) why in
        let R : List (List ℕ) → Type 0 = λ files. FirstProblem program.plan (file_rules other likewise) 0 (first_no likewise) files why in
        problem likewise program why asks
        (subst (λ (text : List ℕ). IsProgram text program) (same_script held command likewise by) is)
        (subst R (same_files held command likewise by) (subst Q (same_first command likewise by) (subst P (same_rules command likewise by) first)))
    across _ (finished command program records own is reads fine) differs some =
        let by = differs command own in
        let P : FileRules → Type 0 = λ rules. AllFine program.plan rules (first_no command) (files_of command held) records in
        let Q : ℕ → Type 0 = λ n. AllFine program.plan (file_rules other likewise) n (files_of command held) records in
        let R : List (List ℕ) → Type 0 = λ files. AllFine program.plan (file_rules other likewise) (first_no likewise) files records in
        subst (IsEnd other held) (sym (same_whole command likewise program records by))
        (finished likewise program records asks
        (subst (λ (text : List ℕ). IsProgram text program) (same_script held command likewise by) is)
        (reads_too command likewise by reads)
        (subst R (same_files held command likewise by) (subst Q (same_first command likewise by) (subst P (same_rules command likewise by) fine))))
    across _ (run_problem reduce program why own is first) differs some =
        let same = same_reduce (Reduces reduce) likewise reduce (differs (Reduces reduce) own) refl in
        run_problem reduce program why (asks ∙ ap (λ (c : Command). Some c) same) is first
    across _ (reduced reduce program stop totals own is are) differs some =
        let same = same_reduce (Reduces reduce) likewise reduce (differs (Reduces reduce) own) refl in
        subst (λ (fs : List Form). IsEnd other held (groups_end (texts_of fs reduce.form) program totals)) (sym forms)
        (reduced reduce program stop totals (asks ∙ ap (λ (c : Command). Some c) same) is are)
    across _ (join_problem join program why own is first) differs some =
        let same = same_join (Joins join) likewise join (differs (Joins join) own) refl in
        join_problem join program why (asks ∙ ap (λ (c : Command). Some c) same) is first
    across _ (runs_joined join program runs own is are) differs some =
        let same = same_join (Joins join) likewise join (differs (Joins join) own) refl in
        runs_joined join program runs (asks ∙ ap (λ (c : Command). Some c) same) is are

over : (one other : Asked) (held : Held) (end : End) → DifferInWork one other → IsEnd one held end → IsEnd other held end
over one other held end d is = across one other d.forms d.shown held d.other_command d.other_asks end is differs some
  where
    differs : (command : Command) → command_of one ≡ Some command → IsWorkedOtherwise command d.other_command
    differs command own =
        let both : Some d.command ≡ Some command = sym d.asks ∙ own in
        let same : d.command ≡ command = cc in
        subst (λ (c : Command). IsWorkedOtherwise c d.other_command) same d.otherwise

    some : command_of one ≡ None → ⊥
    some none = let both : Some d.command ≡ None = sym d.asks ∙ none in cc

backwards : (one other : Asked) → DifferInWork one other → DifferInWork other one
backwards one other d = record {
  forms = sym d.forms;
  shown = sym d.shown;
  command = d.other_command;
  asks = d.other_asks;
  other_command = d.command;
  other_asks = d.asks;
  otherwise = swapped d.command d.other_command d.otherwise;
}

pub one_end_by_work : (one other : Asked) (held : Held) (end : End) → DifferInWork one other → IsEnd one held end ↔ IsEnd other held end
one_end_by_work one other held end d = (over one other held end d, over other one held end (backwards one other d))
