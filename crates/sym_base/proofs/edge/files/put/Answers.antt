use Rattle.sym_base.proofs.Files.{file_at-set, file_at-others}
use Rattle.std.proofs.Common.{◌∙◌}
use Rattle.sym_base.proofs.edge.files.put.Goals as goal

pub returns-clause-set : goal.returns-clause-set
returns-clause-set c =
    rw (← c.in_ok-name.ensures.ok, ← c.in_ok-from_slice.ensures.items, ← c.of-bytes.ensures)
    (file_at-set c.args.files.now c.insert.new.self _ _ c.in_ok-_older.ensures.updates)

pub returns-clause-others : goal.returns-clause-others
returns-clause-others c = λ other ne.
    file_at-others c.args.files.now c.insert.new.self _ _ c.in_ok-_older.ensures.updates other (λ h. ne (h ∙ c.in_ok-name.ensures.ok))
