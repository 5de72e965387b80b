-- The command lines, as `clap` reads them.
-- The commands and their arguments are this project's profile.
use Rattle.std.specs.Prelude.{◌==◌, if◌then◌else◌, List, length, Option, None, Some, true}
use Rattle.clap.specs.Words.{App, Rule, Row, Text, new_app, new_rule, with_rule, matches_of, fault_of}
use Rattle.clap.specs.Simple.{on_top}
use Rattle.clap.specs.declared.builder.action.ArgAction.TheVariants.{Set, SetTrue, Append}
use Rattle.sym_command.specs.declared.arguments.TheConstants as own

-- `--NAME VALUE`, given at most once.
abbrev pub option_rule : Text → Rule
option_rule name = record (new_rule name) { long = Some name; action = Some Set }

-- `--NAME`, given at most once.
abbrev pub flag_rule : Text → Rule
flag_rule name = record (new_rule name) { long = Some name; action = Some SetTrue }

-- One word.
abbrev pub word_rule : Text → Rule
word_rule name = record (new_rule name) { action = Some Set; required = true }

-- One word or more.
abbrev pub words_rule : Text → Rule
words_rule name = record (new_rule name) { action = Some Append; required = true }

-- A command without arguments; `-h`, `--help` and `--version` are none.
abbrev pub bare_app : Text → App
bare_app name = on_top
    (λ top. record top { disable_help_flag = true; disable_version_flag = true }) (new_app name)

-- `[--chunk N] [--limit N] [--workers N]`
abbrev pub with_pass_options : App → App
with_pass_options app =
    let chunked = with_rule app (option_rule own.CHUNK_NAME.now) in
    let limited = with_rule chunked (option_rule own.LIMIT_NAME.now) in
    with_rule limited (option_rule own.WORKERS_NAME.now)

-- `run [--form NAME] [--chunk N] [--limit N] [--workers N] [--max-bytes N] [--watch] SCRIPT
-- FILE...`
unfoldable pub run_app : App
run_app =
    let formed = with_rule (bare_app own.RUN_NAME.now) (option_rule own.FORM_NAME.now) in
    let sized = with_rule (with_pass_options formed) (option_rule own.MAX_BYTES_NAME.now) in
    let watched = with_rule sized (flag_rule own.WATCH_NAME.now) in
    with_rule (with_rule watched (word_rule own.SCRIPT_NAME.now)) (words_rule own.FILES_NAME.now)

-- `trace [--form NAME] [--every N] [--chunk N] [--limit N] [--workers N] [--max-bytes N] SCRIPT
-- FILE...`
unfoldable pub trace_app : App
trace_app =
    let formed = with_rule (bare_app own.TRACE_NAME.now) (option_rule own.FORM_NAME.now) in
    let numbered = with_rule formed (option_rule own.EVERY_NAME.now) in
    let sized = with_rule (with_pass_options numbered) (option_rule own.MAX_BYTES_NAME.now) in
    with_rule (with_rule sized (word_rule own.SCRIPT_NAME.now)) (words_rule own.FILES_NAME.now)

-- `check [--print] SCRIPT`
unfoldable pub check_app : App
check_app =
    with_rule (with_rule (bare_app own.CHECK_NAME.now) (flag_rule own.PRINT_NAME.now))
    (word_rule own.SCRIPT_NAME.now)

-- `make [--chunk N] [--limit N] [--workers N] N SEED`
unfoldable pub make_app : App
make_app =
    let counted = with_rule (with_pass_options (bare_app own.MAKE_NAME.now)) (word_rule own.RECORDS_NAME.now) in
    with_rule counted (word_rule own.SEED_NAME.now)

-- `map [--first N] [--chunk N] [--limit N] [--workers N] [--max-bytes N] SCRIPT FILE...`
unfoldable pub map_app : App
map_app =
    let numbered = with_rule (bare_app own.MAP_NAME.now) (option_rule own.FIRST_NAME.now) in
    let sized = with_rule (with_pass_options numbered) (option_rule own.MAX_BYTES_NAME.now) in
    with_rule (with_rule sized (word_rule own.SCRIPT_NAME.now)) (words_rule own.FILES_NAME.now)

-- `reduce [--form NAME] [--max-bytes N] SCRIPT FILE...`
unfoldable pub reduce_app : App
reduce_app =
    let formed = with_rule (bare_app own.REDUCE_NAME.now) (option_rule own.FORM_NAME.now) in
    let sized = with_rule formed (option_rule own.MAX_BYTES_NAME.now) in
    with_rule (with_rule sized (word_rule own.SCRIPT_NAME.now)) (words_rule own.FILES_NAME.now)

-- `join [--limit N] [--max-bytes N] SCRIPT FILE...`
unfoldable pub join_app : App
join_app =
    let limited = with_rule (bare_app own.JOIN_NAME.now) (option_rule own.LIMIT_NAME.now) in
    let sized = with_rule limited (option_rule own.MAX_BYTES_NAME.now) in
    with_rule (with_rule sized (word_rule own.SCRIPT_NAME.now)) (words_rule own.FILES_NAME.now)

-- What `clap` finds for each argument of a command, where it takes the words.
unfoldable pub matched : App → List Text → Option (List Row)
matched app words =
    if length (fault_of app words) == 0 then Some (matches_of app words) else None
