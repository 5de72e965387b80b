-- A run over two files and what one sequential pass over their records comes to, files without
-- records, a refusal, the same run with other options, and calls of `reduce` and `join`.
use Rattle.std.proofs.Common.{◌≡◌, ◌↔◌, ◌≤◌, ◌⊎◌, ℕ, pos, false, true, if◌then◌else◌, List, [], ◌∷◌, length, map, codes, Option, Some, None, Ok, Err, refl, sym, ap, subst, lit≤, lit<, arith}
use Rattle.std.specs.Fmt.{digits}
use Rattle.std.specs.List.{IsDistinct}
use Rattle.std.specs.Str.{bytes_eq, chars, is_utf8}
use Rattle.std.proofs.lemmas.List.Elements.{All-nil}
use lib.Utf8.{encode}
use Rattle.clap.proofs.OnLiterals.{clap_on_literals}
use Rattle.csv.proofs.OnLiterals.{csv_on_literals}
use Rattle.sym_base.specs.declared.values.record.Record.{Record}
use Rattle.sym_base.specs.declared.values.value.Value.TheVariants as value
use Rattle.sym_base.specs.declared.tree.expression.BinOp.TheVariants as op
use Rattle.sym_base.specs.declared.tree.declaration.KindRef.TheVariants as of
use Rattle.sym_base.specs.declared.tree.declaration.CellDecl.TheVariants as cell
use Rattle.sym_base.specs.Trees.{ScriptTree, Num, Named, Bin, Set, Done, Then}
use Rattle.sym_lex.specs.Keywords.{keyword_of, keywords}
use Rattle.sym_lex.specs.Lexing.{lexed_from}
use Rattle.sym_lex.specs.Symbols.{symbol_of, symbols}
use Rattle.sym_parse.specs.Answers.{parsed}
use Rattle.sym_parse.specs.Parsing.Declarations.{num, kind_ref, header, default_value, field, group, range, clamp, names, int_cell, cell_decl, state, column}
use Rattle.sym_parse.specs.Parsing.Expressions.{chain, chain_from, call_or_name, number_leaf, named, primary, unary, product, sum, relation, negation, conjunction, expr, expression}
use Rattle.sym_parse.specs.Parsing.Scripts.{enums, fields, states, tests, columns, report, script}
use Rattle.sym_parse.specs.Parsing.Statements.{begins_statement, assignment, simple, statement, statements, statements_from, block, update}
use Rattle.sym_parse.specs.Steps.{next, place, passed, sees_word, sees_sign, sees_name, sees_number, sees_text, is_done, word, sign, name, number, done, one_statement, one_operand, repeated, separated}
use Rattle.sym_parse.specs.Printed as form
use Rattle.sym_parse.specs.Printed.{script_text}
use Rattle.sym_parse.proofs.Answering.{parsed-found}
use Rattle.sym_check.specs.declared.plan.script.KindPlan.TheVariants as kind
use Rattle.sym_check.specs.declared.plan.script.CellPlan.TheVariants as plan
use Rattle.sym_check.specs.Plan.FixedPlans as fixed
use Rattle.sym_check.specs.Plan.LinePlans as line
use Rattle.sym_check.specs.Plan.DoPlans as do_
use Rattle.sym_check.specs.Plan.ShowPlans as show
use Rattle.sym_check.specs.Rules.Scripts.{plan_of}
use Rattle.sym_check.proofs.ScriptsAgree.{planned_accepted}
use Rattle.sym_table.specs.declared.bad.BadCause.TheVariants as cause
use Rattle.sym_table.specs.declared.header.HeadFault.TheVariants as head
use Rattle.sym_files.specs.declared.error.PassErr.TheVariants as pass_error
use Rattle.sym_files.specs.FileRecords.{FileRules}
use Rattle.sym_files.specs.FirstProblems.{records_in}
use Rattle.sym_files.proofs.FilesAgree.{files_records, files_problem}
use Rattle.sym_run.specs.SavedRuns.{IsLawfulSaved}
use Rattle.sym_run.specs.declared.saved.Saved.{Saved}
use Rattle.sym_file.specs.Stored.{IsStored}
use Rattle.sym_file.specs.Texts.{head_text, body_text, saved_text}
use Rattle.sym_reduce.specs.declared.error.ReduceErr.TheVariants as reduce_error
use Rattle.sym_reduce.specs.Joining as joins
use Rattle.sym_file.specs.TakenTexts.{IsRunFile}
use Rattle.sym_reduce.specs.Reducing.{IsTakenFile}
use Rattle.sym_reduce.specs.Reducing as runs
use Rattle.sym_reduce.proofs.Once.{same}
use Rattle.sym_report.specs.Tables.{table_form}
use Rattle.sym_command.specs.declared.place.Place.TheVariants as place
use Rattle.sym_command.specs.CommandLines.{run_app, reduce_app, join_app, matched}
use Rattle.sym_command.specs.Commands.{Asked, Command, Join, Joins, Reduce, Reduces, Run, Runs, asks, command_in, command_of, names_of, shown_names, run_of, reduce_of, join_of, run_found, reduce_found, join_found, run_options, options_found, files_found}
use Rattle.sym_command.specs.Numbers.{number_of}
use Rattle.sym_command.specs.Working.{DifferInWork, run_otherwise, worked}
use Rattle.sym_message.specs.declared.refusal.Refusal.TheVariants as refusal
use Rattle.sym_message.specs.declared.status.Status.{Status}
use Rattle.sym_message.specs.declared.status.Status.TheVariants as status
use Rattle.sym_message.specs.Messages.{line_of}
use Rattle.sym_message.specs.Telling.{Sunk}
use Rattle.sym_top.specs.Causes.{IsBadInput, IsStopped, IsToldOf, IsTooLarge, apart_joined, large_file}
use Rattle.sym_top.specs.Ends.{End, Summed, Mapped, Joined, Held, IsEnd, finished, reduced, runs_joined, groups_end, report_of, rows_of, rows_status, status_of}
use Rattle.sym_top.specs.Headline.{FineRun, IsOnePass, pass_text}
use Rattle.sym_top.specs.Loading.{Says}
use Rattle.sym_top.specs.Programs.{Program, IsProgram, headers_in}
use Rattle.sym_top.specs.Promises.{Call, TellsScript, Told, Unless, call_line, call_script}
use Rattle.sym_top.proofs.CausesFound.{causes-by}
use Rattle.sym_top.proofs.EndsFound.{one_end}
use Rattle.sym_top.proofs.OnePass.{one-pass-by}
use Rattle.sym_top.proofs.OtherWork.{one_end_by_work}
use Rattle.sym_top.proofs.ReducedEnds.{program-formed}

-- The visits of each user. There may be one at most.
abbrev pub text : List ℕ
text =
    codes "field user: word;\ngroup user;\nstate n: int [0..1] = 0;\nupdate { n = n + 1; }\nreport { visits = n; }\n"

abbrev pub tree : ScriptTree
tree = record {
  enums = [];
  fields = record { name = record { text = codes "user"; at = 6 }; header = None; kind = of.Word; default = None } ∷ [];
  group = record { text = codes "user"; at = 24 } ∷ [];
  states = record { name = record { text = codes "n"; at = 36 }; cell = cell.Int (pos 0) (pos 1) (pos 0) false } ∷ [];
  tests = [];
  update = Then (Set (record { text = codes "n"; at = 64 }) (Bin op.Add (Named (record { text = codes "n"; at = 68 })) (Num (pos 1) 72) 70)) Done;
  columns = record { name = record { text = codes "visits"; at = 86 }; value = Named (record { text = codes "n"; at = 95 }) } ∷ [];
}

abbrev pub visits : Program
visits = record {
  tree = tree;
  plan = record {
    enums = [];
    fields = record { header = codes "user"; kind = kind.Word; default = None } ∷ [];
    group = 0 ∷ [];
    cells = plan.Int (pos 0) (pos 1) (pos 0) false ∷ [];
    tests = [];
    update = do_.Then (do_.SetInt 0 (line.OfLine (line.Add (line.Cell 0) (fixed.Lit (pos 1))))) do_.End;
    columns = record { name = codes "visits"; value = show.Cell 0 } ∷ [];
  };
}

-- Three records in two files.
abbrev pub first : List ℕ
first = codes "user\nann\nbob\n"

abbrev pub second : List ℕ
second = codes "user\nann\n"

abbrev pub visit : ℕ → List ℕ → Record
visit n user = record { no = n; fields = value.Word user ∷ [] }

abbrev pub records : List Record
records = visit 1 (codes "ann") ∷ visit 2 (codes "bob") ∷ visit 3 (codes "ann") ∷ []

abbrev pub holds : List ℕ → Option (List ℕ)
holds file =
    if bytes_eq file (codes "s") then Some text
    else if bytes_eq file (codes "f") then Some first
    else if bytes_eq file (codes "g") then Some second
    else None

-- `run --chunk 2 --limit 1 --workers 3 s f g`
abbrev pub asked : Asked
asked = asks
    (codes "run" ∷ codes "--chunk" ∷ codes "2" ∷ codes "--limit" ∷ codes "1" ∷ codes "--workers" ∷ codes "3" ∷ codes "s" ∷ codes "f" ∷ codes "g" ∷ [])
    (record { name = codes "table"; texts = table_form } ∷ []) (λ row. row)

abbrev pub call : Call
call = record { asked = asked; holds = holds; before = λ file. 0; after = λ file. 0 }

abbrev pub run : Run
run = record {
  form = codes "table";
  options = record { chunk = 2; limit = 1; workers = 3; max_bytes = 67108864 };
  watch = false;
  script = codes "s";
  files = codes "f" ∷ codes "g" ∷ [];
}

pub is_asked : command_of asked ≡ Some (Runs run)
unfolding command_in run_of matched run_app run_found run_options options_found files_found number_of clap_on_literals
is_asked = refl

is_read : parsed text ≡ Ok tree
unfolding parsed lexed_from keyword_of keywords symbol_of symbols next place passed sees_word sees_sign sees_name sees_number sees_text is_done word sign name number done one_statement one_operand repeated separated chain chain_from call_or_name number_leaf named primary unary product sum relation negation conjunction expr expression header kind_ref default_value num range clamp int_cell cell_decl field names group state column enums fields states tests columns report begins_statement assignment simple statement statements_from statements block update script
is_read = refl

is_planned : plan_of tree ≡ Ok visits.plan
is_planned = refl

pub are_read : records_in visits.plan (record { max_bytes = 67108864; shown = λ row. row }) 0 1 (first ∷ second ∷ []) ≡ Ok records
unfolding csv_on_literals is_utf8 chars encode
are_read = refl

pub is_program : IsProgram text visits
is_program = record { small = lit≤ tt; script = parsed-found text tree is_read; accepted = planned_accepted tree visits.plan is_planned }

-- The premises of the headline are met.
abbrev is_fine : FineRun call
is_fine = record {
  run = run;
  asks = is_asked;
  text = text;
  tells_text = refl;
  program = visits;
  accepted = is_program;
  bytes = first ∷ second ∷ [];
  tells_bytes = refl;
  records = records;
  fine = (files_records visits.plan (record { max_bytes = 67108864; shown = λ row. row }) 0 1 (first ∷ second ∷ []) records).1 are_read;
}

-- One sequential pass ends ann's group at the third record.
pass_is : pass_text table_form visits records ≡ codes "user | visits\nann | fault: n overflows at record 3\nbob | 1\n--\n"
unfolding digits
pass_is = refl

pass_ends : rows_status (rows_of visits records) ≡ status.Faulted
pass_ends = refl

-- So the run writes this text and ends with this status.
it_is_written : (out err : Sunk) (result : Status) → Says call out err result → Unless result (IsOnePass table_form visits records out err result)
it_is_written out err result says = one-pass-by call out err result is_fine says

-- ---- over the first file alone no row is faulty

abbrev pub first_records : List Record
first_records = visit 1 (codes "ann") ∷ visit 2 (codes "bob") ∷ []

first_pass_is : pass_text table_form visits first_records ≡ codes "user | visits\nann | 1\nbob | 1\n--\n"
unfolding digits
first_pass_is = refl

first_pass_ends : rows_status (rows_of visits first_records) ≡ status.Done
first_pass_ends = refl

-- A report and a summary are Faulted if a row is faulty. A saved run is Done, whatever its records do.
report_ends : status_of (report_of table_form visits records) ≡ status.Faulted
report_ends = refl

summary_ends : status_of (Summed 3 (rows_of visits records)) ≡ status.Faulted
summary_ends = refl

saved_ends : status_of (Mapped visits 1 16 records) ≡ status.Done
saved_ends = refl

-- ---- an empty file and a header alone have no records, and those after them are numbered on

abbrev pub rules : FileRules
rules = record { max_bytes = 67108864; shown = λ row. row }

abbrev header_alone : List ℕ
header_alone = codes "user\n"

none_are_read : records_in visits.plan rules 0 1 ([] ∷ header_alone ∷ []) ≡ Ok []
unfolding csv_on_literals is_utf8 chars encode
none_are_read = refl

others_are_read : records_in visits.plan rules 0 1 ([] ∷ first ∷ header_alone ∷ second ∷ []) ≡ Ok records
unfolding csv_on_literals is_utf8 chars encode
others_are_read = refl

-- `run s f`, where the file is empty
abbrev pub short_asked : Asked
short_asked = asks (codes "run" ∷ codes "s" ∷ codes "f" ∷ []) (record { name = codes "table"; texts = table_form } ∷ []) (λ row. row)

abbrev pub short_run : Run
short_run = record run { options = record run.options { chunk = 3072; limit = 16; workers = 4 }; files = codes "f" ∷ [] }

pub is_short : command_of short_asked ≡ Some (Runs short_run)
unfolding command_in run_of matched run_app run_found run_options options_found files_found number_of clap_on_literals
is_short = refl

pub nothing_is_read : records_in visits.plan rules 0 1 ([] ∷ []) ≡ Ok []
unfolding csv_on_literals
nothing_is_read = refl

-- It ends with a report of no groups.
pub empty_ends : IsEnd short_asked (record { script = text; files = [] ∷ [] }) (report_of table_form visits [])
empty_ends = finished (Runs short_run) visits [] is_short is_program tt ((files_records visits.plan rules 0 1 ([] ∷ []) []).1 nothing_is_read)

empty_pass_is : pass_text table_form visits [] ≡ codes "user | visits\n--\n"
empty_pass_is = refl

empty_pass_ends : rows_status (rows_of visits []) ≡ status.Done
empty_pass_ends = refl

-- ---- `run --max-bytes 9 s f` is refused, since the file has 13 bytes

abbrev tight_asked : Asked
tight_asked = asks (codes "run" ∷ codes "--max-bytes" ∷ codes "9" ∷ codes "s" ∷ codes "f" ∷ []) (record { name = codes "table"; texts = table_form } ∷ []) (λ row. row)

abbrev pub tight_run : Run
tight_run = record short_run { options = record short_run.options { max_bytes = 9 } }

is_tight : command_of tight_asked ≡ Some (Runs tight_run)
unfolding command_in run_of matched run_app run_found run_options options_found files_found number_of clap_on_literals
is_tight = refl

abbrev tight_call : Call
tight_call = record { asked = tight_asked; holds = holds; before = λ file. 0; after = λ file. 0 }

abbrev one_file : Held
one_file = record { script = text; files = first ∷ [] }

-- The store tells that the files which the call names have these bytes.
are_told : Told tight_call one_file
are_told =
    let P : Option Command → Type 0 = λ o. TellsScript holds (names_of o).script text × (map holds (names_of o).files ≡ map Some (first ∷ [])) in
    subst P (sym is_tight) (refl, refl)

pub too_many_bytes : records_in visits.plan (record rules { max_bytes = 9 }) 0 1 (first ∷ []) ≡ Err (pass_error.TooLarge 0)
too_many_bytes = refl

is_too_large : IsTooLarge tight_call one_file (refusal.TooLarge (place.File 0))
is_too_large =
    large_file 0 (record {
      command = Runs tight_run;
      asks = is_tight;
      program = visits;
      accepted = is_program;
      first = (files_problem visits.plan (record rules { max_bytes = 9 }) 0 1 (first ∷ []) (pass_error.TooLarge 0)).1 too_many_bytes;
    })

too_large_line : call_line tight_call one_file (refusal.TooLarge (place.File 0)) ≡ codes "symple: f: too large\n"
too_large_line = ap (λ o. line_of (shown_names o) (headers_in (call_script o one_file)) (refusal.TooLarge (place.File 0))) is_tight

-- So the status is TooLarge, and this line is told, unless a read fails or memory runs out.
it_is_refused : (out err : Sunk) (result : Status) → Says tight_call out err result →
    ((result ≡ status.TooLarge) × IsToldOf tight_call one_file out err (refusal.TooLarge (place.File 0))) ⊎ IsStopped result
it_is_refused out err result says =
    let table = causes-by tight_call out err result says in
    table.too_large.always one_file (refusal.TooLarge (place.File 0)) are_told is_too_large

-- The third row of two files is no record: it has two fields, and the header one.
a_bad_row : records_in visits.plan rules 0 1 (first ∷ codes "user\nann,2\n" ∷ []) ≡ Err (pass_error.Bad 1 (record { no = 3; cause = cause.Fields 2 }))
unfolding csv_on_literals is_utf8 chars encode
a_bad_row = refl

-- The header of the second file has no column `user`. It is tried before the rows.
a_bad_header : records_in visits.plan rules 0 1 (first ∷ codes "name\nann,2\n" ∷ []) ≡ Err (pass_error.Head 1 (head.NoField 0))
unfolding csv_on_literals is_utf8 chars encode
a_bad_header = refl

-- ---- `run --watch s f g` differs from it in work alone

abbrev other : Asked
other = asks (codes "run" ∷ codes "--watch" ∷ codes "s" ∷ codes "f" ∷ codes "g" ∷ []) (record { name = codes "table"; texts = table_form } ∷ []) (λ row. row)

other_asks : command_of other ≡ Some (Runs (record run { options = worked run.options 3072 16 4; watch = true }))
unfolding command_in run_of matched run_app run_found run_options options_found files_found number_of clap_on_literals
other_asks = refl

they_differ : DifferInWork asked other
they_differ = record {
  forms = refl;
  shown = refl;
  command = Runs run;
  asks = is_asked;
  other_command = Runs (record run { options = worked run.options 3072 16 4; watch = true });
  other_asks = other_asks;
  otherwise = run_otherwise run 3072 16 4 true;
}

one_end_of_both : (held : Held) (end : End) → IsEnd asked held end ↔ IsEnd other held end
one_end_of_both held end = one_end_by_work asked other held end they_differ

-- ---- `reduce s f`, where the file is that of a saved run of no records

abbrev pub reduce_asked : Asked
reduce_asked = asks (codes "reduce" ∷ codes "s" ∷ codes "f" ∷ []) (record { name = codes "table"; texts = table_form } ∷ []) (λ row. row)

abbrev pub reduce : Reduce
reduce = record { form = codes "table"; max_bytes = 67108864; script = codes "s"; files = codes "f" ∷ [] }

pub is_reduction : command_of reduce_asked ≡ Some (Reduces reduce)
unfolding command_in reduce_of matched reduce_app reduce_found files_found number_of clap_on_literals
is_reduction = refl

abbrev pub nothing : Saved
nothing = record { first = 1; next = 1; groups = [] }

abbrev pub run_file : List ℕ
run_file = saved_text (script_text tree) nothing

pub run_file_is_small : length run_file ≤ 67108864
unfolding script_text form.script form.range form.clamp_of head_text body_text digits
run_file_is_small = lit≤ tt

pub is_lawful : IsLawfulSaved visits.plan nothing
unfolding IsDistinct
is_lawful = record { from = lit≤ tt; order = lit≤ tt; distinct = tt; each = All-nil _ }

pub is_stored : IsStored nothing
is_stored = record { first = lit< tt; next = lit< tt; groups = record { many = lit< tt; each = All-nil _ } }

pub is_taken : IsTakenFile (script_text tree) visits.plan 1 [] run_file nothing []
is_taken = record { file = record { is = record { lawful = is_lawful; text = refl }; stored = is_stored }; follows = refl; led = refl }

abbrev pub read : Held
read = record { script = text; files = run_file ∷ [] }

-- It ends with a report of no groups, and with nothing else.
is_reduced : IsEnd reduce_asked read (groups_end table_form visits [])
is_reduced = reduced reduce visits 1 [] is_reduction is_program
    (runs.one_more 1 [] run_file [] nothing [] 1 [] run_file_is_small is_taken (runs.no_file 1 []))

one_end_alone : (end : End) → IsEnd reduce_asked read end → end ≡ groups_end table_form visits []
one_end_alone end is = one_end reduce_asked read end (groups_end table_form visits []) is is_reduced

-- ---- `join s f g`, where the files are those of saved runs of no records. The first one may begin anywhere.

abbrev join_asked : Asked
join_asked = asks (codes "join" ∷ codes "s" ∷ codes "f" ∷ codes "g" ∷ []) [] (λ row. row)

abbrev pub join : Join
join = record { limit = 16; max_bytes = 67108864; script = codes "s"; files = codes "f" ∷ codes "g" ∷ [] }

is_join : command_of join_asked ≡ Some (Joins join)
unfolding command_in join_of matched join_app join_found files_found number_of clap_on_literals
is_join = refl

-- What no records after the fourth one come to.
abbrev after_four : Saved
after_four = record { first = 5; next = 5; groups = [] }

abbrev later_file : List ℕ
later_file = saved_text (script_text tree) after_four

later_file_is_small : length later_file ≤ 67108864
unfolding script_text form.script form.range form.clamp_of head_text body_text digits
later_file_is_small = lit≤ tt

later_is_lawful : IsLawfulSaved visits.plan after_four
unfolding IsDistinct
later_is_lawful = record { from = lit≤ tt; order = lit≤ tt; distinct = tt; each = All-nil _ }

later_is_stored : IsStored after_four
later_is_stored = record { first = lit< tt; next = lit< tt; groups = record { many = lit< tt; each = All-nil _ } }

later_is_run_file : IsRunFile (script_text tree) visits.plan later_file after_four
later_is_run_file = record { is = record { lawful = later_is_lawful; text = refl }; stored = later_is_stored }

they_follow : joins.AreRunFiles (script_text tree) visits.plan 67108864 (later_file ∷ later_file ∷ []) (after_four ∷ after_four ∷ [])
they_follow = record {
  first = 5;
  end = 5;
  follow =
      joins.one_more 5 later_file (later_file ∷ []) after_four (after_four ∷ []) 5 later_file_is_small later_is_run_file refl
      (joins.one_more 5 later_file [] after_four [] 5 later_file_is_small later_is_run_file refl (joins.no_file 5));
}

they_are_joined : IsEnd join_asked (record { script = text; files = later_file ∷ later_file ∷ [] }) (Joined visits 16 (after_four ∷ after_four ∷ []))
they_are_joined = runs_joined join visits (after_four ∷ after_four ∷ []) is_join is_program they_follow

join_ends : status_of (Joined visits 16 (after_four ∷ after_four ∷ [])) ≡ status.Done
join_ends = refl

-- The other way round, the second file doesn't follow the first one: `symple: g: records do not follow`

abbrev wrong_order : Held
wrong_order = record { script = text; files = later_file ∷ run_file ∷ [] }

abbrev join_call : Call
join_call = record { asked = join_asked; holds = λ file. None; before = λ file. 0; after = λ file. 0 }

they_are_apart : IsBadInput join_call wrong_order (refusal.Apart 1)
they_are_apart =
    apart_joined 1 (record {
      join = join;
      asks = is_join;
      program = visits;
      accepted = is_program;
      first = record {
        first = 5;
        begins = λ saved few own. ap (λ (s : Saved). s.first) (same (script_text tree) visits.plan (program-formed text visits is_program) later_file (omega (arith, later_file_is_small)) saved after_four own later_is_run_file);
        problem = joins.later 0 5 later_file (run_file ∷ []) after_four (reduce_error.Apart 1) later_file_is_small later_is_run_file refl
            (joins.faulty 1 5 run_file [] (reduce_error.Apart 1) run_file_is_small (joins.apart nothing is_taken.file (λ e. cc)));
      };
    })

apart_line : call_line join_call wrong_order (refusal.Apart 1) ≡ codes "symple: g: records do not follow\n"
apart_line = ap (λ o. line_of (shown_names o) (headers_in (call_script o wrong_order)) (refusal.Apart 1)) is_join
