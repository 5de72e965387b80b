use Rattle.std.proofs.Common.{Some, ap, sym, ◌∙◌}
use Rattle.sym_base.proofs.Files.{file_at-entries}
use Rattle.sym_base.proofs.edge.files.find.Goals as goal

pub returns-in_err-bytes : goal.returns-in_err-bytes
returns-in_err-bytes c =
    rw c.from_residual.ensures (c.in_err-bytes.ensures.value ∙ sym (file_at-entries c.args.files.now.entries c.args.name.now))

pub returns : goal.returns
returns c =
    ap Some c.as_slice.ensures ∙ c.in_ok-bytes.ensures.value ∙ sym (file_at-entries c.args.files.now.entries c.args.name.now)
