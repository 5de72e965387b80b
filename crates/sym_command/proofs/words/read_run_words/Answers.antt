use Rattle.std.proofs.Common.{◌∙◌, ap}
use Rattle.clap.specs.Faults.{is_simple_and_free}
use Rattle.sym_command.proofs.Matching.{run-free}
use Rattle.sym_command.proofs.words.read_run_words.Goals as goal

pub find_matches-requires : goal.find_matches-requires
find_matches-requires c = ap is_simple_and_free c.in_ok-command.ensures ∙ run-free
