-- A run file that `map` writes, `join` over it, and the calls of `reduce` that these two lead to.
use Rattle.std.proofs.Common.{◌≡◌, ◌≤◌, ℕ, List, [], ◌∷◌, length, codes, Some, refl, lit≤}
use Rattle.std.proofs.lemmas.List.Elements.{All-cons, All-nil}
use Rattle.std.specs.List.{All}
use Rattle.clap.proofs.OnLiterals.{clap_on_literals}
use Rattle.sym_check.specs.Meaning.Validity.{IsRecord}
use Rattle.sym_files.specs.FirstProblems.{AllFine}
use Rattle.sym_files.proofs.FilesAgree.{files_records}
use Rattle.sym_parse.specs.Printed.{script_text}
use Rattle.sym_run.specs.SavedRuns.{SavedStandsFor}
use Rattle.sym_reduce.specs.Joining as joins
use Rattle.sym_reduce.proofs.JoiningFiles.{join_one}
use Rattle.sym_report.specs.Tables.{table_form}
use Rattle.sym_command.specs.CommandLines.{map_app, join_app, matched}
use Rattle.sym_command.specs.Commands.{Asked, Join, Joins, Map, Maps, asks, command_in, command_of, files_found, join_found, join_of, map_found, map_of, options_found, run_options}
use Rattle.sym_command.specs.Numbers.{number_of}
use Rattle.sym_top.specs.Ends.{Held, IsEnd, Joined, Mapped, finished, joined, mapped, report_of, runs_joined}
use Rattle.sym_top.specs.Parts.{AreJoinedTo, AreParts, IsJoinOfTexts, IsPart, IsReportedApart, IsReportedInOne, IsReportedJoined}
use Rattle.sym_top.specs.Parts as parts
use Rattle.sym_top.specs.SavedFiles.{IsMapped}
use Rattle.sym_top.proofs.HeadlineExamples.{empty_ends, is_lawful, is_program, is_reduction, is_short, is_stored, is_taken, join, nothing, nothing_is_read, read, reduce, reduce_asked, rules, run_file, run_file_is_small, short_asked, short_run, text, visits}
use Rattle.sym_top.proofs.JoinsReported.{reported_in_one, reported_joined}
use Rattle.sym_top.proofs.PartsReported.{reported_apart}

-- ---- `map s f` over the empty file writes the run file of no records

abbrev map_asked : Asked
map_asked = asks (codes "map" ∷ codes "s" ∷ codes "f" ∷ []) [] (λ row. row)

abbrev part : Map
part = record { first = 1; options = short_run.options; script = codes "s"; files = codes "f" ∷ [] }

is_mapping : command_of map_asked ≡ Some (Maps part)
unfolding command_in map_of matched map_app map_found run_options options_found files_found number_of clap_on_literals
is_mapping = refl

abbrev empty_file : Held
empty_file = record { script = text; files = [] ∷ [] }

none_is_fine : AllFine visits.plan rules 1 ([] ∷ []) []
none_is_fine = (files_records visits.plan rules 0 1 ([] ∷ []) []).1 nothing_is_read

nothing_stands : SavedStandsFor visits.plan [] nothing
nothing_stands = record { numbered = refl; groups = record { keys_are = refl; each = All-nil _ } }

is_mapped : IsMapped visits 1 16 [] run_file
is_mapped = record {
  saved = nothing;
  file = is_taken.file;
  first_is = refl;
  stands = nothing_stands;
  tight = All-nil _;
}

is_part : IsPart visits (λ row. row) 1 ([] ∷ []) [] run_file
is_part = record {
  asked = map_asked;
  held = empty_file;
  part = part;
  asks = is_mapping;
  likewise = refl;
  is_program = is_program;
  first_is = refl;
  files_are = refl;
  fine = none_is_fine;
  wrote = record {
    end = Mapped visits 1 16 [];
    is_end = finished (Maps part) visits [] is_mapping is_program tt none_is_fine;
    whole = tt;
    status_is = refl;
    text_is = mapped visits 1 16 [] run_file is_mapped;
  };
}

-- ---- `reduce s f` over that run file comes to what `run s f` comes to

are_parts : AreParts visits (λ row. row) 1 ([] ∷ []) (run_file ∷ [])
are_parts = parts.one_more 1 ([] ∷ []) [] [] [] run_file is_part (parts.no_part 1)

are_small : All (λ (bytes : List ℕ). length bytes ≤ 67108864) (run_file ∷ [])
are_small = All-cons (λ (bytes : List ℕ). length bytes ≤ 67108864) run_file [] run_file_is_small (All-nil _)

is_apart : IsReportedApart short_asked empty_file reduce_asked read
is_apart = record {
  program = visits;
  run = short_run;
  reduce = reduce;
  asks_run = is_short;
  asks_reduce = is_reduction;
  of_run = is_program;
  of_reduce = is_program;
  form = refl;
  parts = are_parts;
  few = are_small;
}

as_a_whole : IsEnd reduce_asked read (report_of table_form visits [])
as_a_whole = reported_apart short_asked empty_file reduce_asked read is_apart (report_of table_form visits []) empty_ends tt

-- ---- `join s f` over that run file writes it again, and `reduce s f` over what it wrote comes to the same

abbrev lone_asked : Asked
lone_asked = asks (codes "join" ∷ codes "s" ∷ codes "f" ∷ []) [] (λ row. row)

abbrev lone_join : Join
lone_join = record join { files = codes "f" ∷ [] }

is_lone : command_of lone_asked ≡ Some (Joins lone_join)
unfolding command_in join_of matched join_app join_found files_found number_of clap_on_literals
is_lone = refl

it_follows : joins.AreRunFiles (script_text visits.tree) visits.plan 67108864 (run_file ∷ []) (nothing ∷ [])
it_follows = record { first = 1; end = 1; follow = joins.one_more 1 run_file [] nothing [] 1 run_file_is_small is_taken.file refl (joins.no_file 1) }

is_join_text : IsJoinOfTexts visits (run_file ∷ []) run_file
is_join_text = record {
  asked = lone_asked;
  held = read;
  join = lone_join;
  asks = is_lone;
  is_program = is_program;
  files_are = refl;
  wrote = record {
    end = Joined visits 16 (nothing ∷ []);
    is_end = runs_joined lone_join visits (nothing ∷ []) is_lone is_program it_follows;
    whole = tt;
    status_is = refl;
    text_is = joined visits 16 (nothing ∷ []) run_file
        (record { saved = nothing; text = refl; stored = is_stored; joins = join_one visits.plan 16 nothing nothing refl is_lawful });
  };
}

are_joined : AreJoinedTo visits (run_file ∷ []) (run_file ∷ [])
are_joined =
    parts.in_one (run_file ∷ []) (run_file ∷ []) [] [] run_file (parts.as_it_is run_file [] [] parts.no_text) is_join_text (lit≤ tt) parts.no_text

is_reported_joined : IsReportedJoined reduce_asked read reduce_asked read
is_reported_joined = record {
  program = visits;
  reduce = reduce;
  other = reduce;
  asks_parts = is_reduction;
  asks_joined = is_reduction;
  of_parts = is_program;
  of_joined = is_program;
  form = refl;
  records = [] ∷ [];
  stand = (record { saved = nothing; file = is_taken.file; stands = nothing_stands; are = All-nil (IsRecord visits.plan) }, tt);
  joins = are_joined;
  few = are_small;
}

as_joined : IsEnd reduce_asked read (report_of table_form visits [])
as_joined = reported_joined reduce_asked read reduce_asked read is_reported_joined (report_of table_form visits []) as_a_whole tt

is_in_one : IsReportedInOne short_asked empty_file reduce_asked read
is_in_one = record {
  program = visits;
  run = short_run;
  reduce = reduce;
  asks_run = is_short;
  asks_reduce = is_reduction;
  of_run = is_program;
  of_reduce = is_program;
  form = refl;
  texts = run_file ∷ [];
  parts = are_parts;
  joins = are_joined;
  few = are_small;
}

in_one : IsEnd reduce_asked read (report_of table_form visits [])
in_one = reported_in_one short_asked empty_file reduce_asked read is_in_one (report_of table_form visits []) empty_ends tt
