-- Lists of arguments, and the commands that they ask for.
use Rattle.std.proofs.Common.{◌≡◌, [], ◌∷◌, Some, None, true, false, refl, codes}
use Rattle.clap.proofs.OnLiterals.{clap_on_literals}
use Rattle.sym_command.specs.CommandLines.{run_app, trace_app, check_app, make_app, map_app, reduce_app, join_app, matched}
use Rattle.sym_command.specs.Commands.{Runs, Traces, Checks, Makes, Maps, Reduces, Joins, command_in, run_of, trace_of, check_of, make_of, map_of, reduce_of, join_of, run_found, trace_found, check_found, make_found, map_found, reduce_found, join_found, run_options, options_found, files_found}
use Rattle.sym_command.specs.Numbers.{number_of}

-- `run s f`
defaults : command_in (codes "run" ∷ codes "s" ∷ codes "f" ∷ []) ≡ Some (Runs (record {
  form = codes "table";
  options = record { chunk = 3072; limit = 16; workers = 4; max_bytes = 67108864 };
  watch = false;
  script = codes "s";
  files = codes "f" ∷ [];
}))
unfolding command_in run_of matched run_app run_found run_options options_found files_found number_of clap_on_literals
defaults = refl

-- `run --chunk 007 s f --limit=1 -- -g`
given : command_in (codes "run" ∷ codes "--chunk" ∷ codes "007" ∷ codes "s" ∷ codes "f" ∷ codes "--limit=1" ∷ codes "--" ∷ codes "-g" ∷ []) ≡ Some (Runs (record {
  form = codes "table";
  options = record { chunk = 7; limit = 1; workers = 4; max_bytes = 67108864 };
  watch = false;
  script = codes "s";
  files = codes "f" ∷ codes "-g" ∷ [];
}))
unfolding command_in run_of matched run_app run_found run_options options_found files_found number_of clap_on_literals
given = refl

-- `run s --watch f`
watched : command_in (codes "run" ∷ codes "s" ∷ codes "--watch" ∷ codes "f" ∷ []) ≡ Some (Runs (record {
  form = codes "table";
  options = record { chunk = 3072; limit = 16; workers = 4; max_bytes = 67108864 };
  watch = true;
  script = codes "s";
  files = codes "f" ∷ [];
}))
unfolding command_in run_of matched run_app run_found run_options options_found files_found number_of clap_on_literals
watched = refl

-- `run --watch s f --watch`
watched_twice : command_in (codes "run" ∷ codes "--watch" ∷ codes "s" ∷ codes "f" ∷ codes "--watch" ∷ []) ≡ None
unfolding command_in run_of matched run_app clap_on_literals
watched_twice = refl

-- `trace --watch s f`
watched_trace : command_in (codes "trace" ∷ codes "--watch" ∷ codes "s" ∷ codes "f" ∷ []) ≡ None
unfolding command_in trace_of matched trace_app clap_on_literals
watched_trace = refl

-- `run --chunk 0 s f`
zero_rows : command_in (codes "run" ∷ codes "--chunk" ∷ codes "0" ∷ codes "s" ∷ codes "f" ∷ []) ≡ None
unfolding command_in run_of matched run_app run_found run_options options_found files_found number_of clap_on_literals
zero_rows = refl

-- `run --chunk 2 --chunk 2 s f`
twice : command_in (codes "run" ∷ codes "--chunk" ∷ codes "2" ∷ codes "--chunk" ∷ codes "2" ∷ codes "s" ∷ codes "f" ∷ []) ≡ None
unfolding command_in run_of matched run_app clap_on_literals
twice = refl

-- `run --chunk -5 s f`
minus : command_in (codes "run" ∷ codes "--chunk" ∷ codes "-5" ∷ codes "s" ∷ codes "f" ∷ []) ≡ None
unfolding command_in run_of matched run_app clap_on_literals
minus = refl

-- `run s`
no_file : command_in (codes "run" ∷ codes "s" ∷ []) ≡ None
unfolding command_in run_of matched run_app clap_on_literals
no_file = refl

-- `run --help`
help : command_in (codes "run" ∷ codes "--help" ∷ []) ≡ None
unfolding command_in run_of matched run_app clap_on_literals
help = refl

-- `trace s --every 20 f`
traced : command_in (codes "trace" ∷ codes "s" ∷ codes "--every" ∷ codes "20" ∷ codes "f" ∷ []) ≡ Some (Traces (record {
  form = codes "table";
  every = 20;
  options = record { chunk = 3072; limit = 16; workers = 4; max_bytes = 67108864 };
  script = codes "s";
  files = codes "f" ∷ [];
}))
unfolding command_in trace_of matched trace_app trace_found run_options options_found files_found number_of clap_on_literals
traced = refl

-- `trace --every 0 s f`
none_shown : command_in (codes "trace" ∷ codes "--every" ∷ codes "0" ∷ codes "s" ∷ codes "f" ∷ []) ≡ None
unfolding command_in trace_of matched trace_app trace_found run_options options_found files_found number_of clap_on_literals
none_shown = refl

-- `check s --print`
printed : command_in (codes "check" ∷ codes "s" ∷ codes "--print" ∷ []) ≡ Some (Checks (record { script = codes "s"; print = true }))
unfolding command_in check_of matched check_app check_found clap_on_literals
printed = refl

-- `check s f`
two_scripts : command_in (codes "check" ∷ codes "s" ∷ codes "f" ∷ []) ≡ None
unfolding command_in check_of matched check_app clap_on_literals
two_scripts = refl

-- `make --workers 2 5 1`
made : command_in (codes "make" ∷ codes "--workers" ∷ codes "2" ∷ codes "5" ∷ codes "1" ∷ []) ≡ Some (Makes (record {
  options = record { chunk = 3072; limit = 16; workers = 2; max_bytes = 67108864 };
  records = 5;
  seed = 1;
}))
unfolding command_in make_of matched make_app make_found options_found number_of clap_on_literals
made = refl

-- `make 1000000 999999999`: as many records as `make` takes
most_made : command_in (codes "make" ∷ codes "1000000" ∷ codes "999999999" ∷ []) ≡ Some (Makes (record {
  options = record { chunk = 3072; limit = 16; workers = 4; max_bytes = 67108864 };
  records = 1000000;
  seed = 999999999;
}))
unfolding command_in make_of matched make_app make_found options_found number_of clap_on_literals
most_made = refl

-- `make 1000001 1`
too_many_made : command_in (codes "make" ∷ codes "1000001" ∷ codes "1" ∷ []) ≡ None
unfolding command_in make_of matched make_app make_found options_found number_of clap_on_literals
too_many_made = refl

-- `make 0 1`
no_records : command_in (codes "make" ∷ codes "0" ∷ codes "1" ∷ []) ≡ None
unfolding command_in make_of matched make_app make_found options_found number_of clap_on_literals
no_records = refl

-- `map s f --first 1001`
summarised : command_in (codes "map" ∷ codes "s" ∷ codes "f" ∷ codes "--first" ∷ codes "1001" ∷ []) ≡ Some (Maps (record {
  first = 1001;
  options = record { chunk = 3072; limit = 16; workers = 4; max_bytes = 67108864 };
  script = codes "s";
  files = codes "f" ∷ [];
}))
unfolding command_in map_of matched map_app map_found run_options options_found files_found number_of clap_on_literals
summarised = refl

-- `map --first 0 s f`
from_zero : command_in (codes "map" ∷ codes "--first" ∷ codes "0" ∷ codes "s" ∷ codes "f" ∷ []) ≡ None
unfolding command_in map_of matched map_app map_found run_options options_found files_found number_of clap_on_literals
from_zero = refl

-- `reduce s f g`
reported_on : command_in (codes "reduce" ∷ codes "s" ∷ codes "f" ∷ codes "g" ∷ []) ≡ Some (Reduces (record {
  form = codes "table";
  max_bytes = 67108864;
  script = codes "s";
  files = codes "f" ∷ codes "g" ∷ [];
}))
unfolding command_in reduce_of matched reduce_app reduce_found files_found number_of clap_on_literals
reported_on = refl

-- `join s f g --limit 7`
joined : command_in (codes "join" ∷ codes "s" ∷ codes "f" ∷ codes "g" ∷ codes "--limit" ∷ codes "7" ∷ []) ≡ Some (Joins (record {
  limit = 7;
  max_bytes = 67108864;
  script = codes "s";
  files = codes "f" ∷ codes "g" ∷ [];
}))
unfolding command_in join_of matched join_app join_found files_found number_of clap_on_literals
joined = refl

-- `join --form csv s f`
join_in_form : command_in (codes "join" ∷ codes "--form" ∷ codes "csv" ∷ codes "s" ∷ codes "f" ∷ []) ≡ None
unfolding command_in join_of matched join_app join_found files_found number_of clap_on_literals
join_in_form = refl
