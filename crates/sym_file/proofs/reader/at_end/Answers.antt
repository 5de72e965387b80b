use Rattle.sym_file.proofs.Groups.{at_end_none}
use Rattle.sym_file.proofs.reader.at_end.Goals as goal

pub returns-in-len1-up : goal.returns-in-len1-up
returns-in-len1-up c = at_end_none c.args.saved c.args.rest.now c.in-len1-up.len_at_least
