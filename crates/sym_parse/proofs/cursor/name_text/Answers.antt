-- Names are UTF-8.
use Rattle.sym_parse.proofs.Letters.{name-utf8}
use Rattle.sym_parse.proofs.cursor.name_text.Goals as goal

pub unreachable-requires : goal.unreachable-requires
unreachable-requires c = c.in-Err.ensures.cases.0 (name-utf8 c.args.bytes.now c.requires)
