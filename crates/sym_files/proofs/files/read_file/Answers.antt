use Rattle.sym_files.proofs.FileByFile.{may_be}
use Rattle.sym_files.proofs.files.read_file.Goals as goal

pub returns-in-Ok-clause-read : goal.returns-in-Ok-clause-read
returns-in-Ok-clause-read g c =
    may_be (g.F.Store.holds c.args.files.now c.args.name.now) c.in-Ok.bytes.items c.in-Ok.ensures.ok
