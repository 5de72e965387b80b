use Rattle.std.proofs.Common.{◌≡◌, ◌∙◌, length, rules, refl, sym, ap}
use Rattle.std.proofs.lemmas.Iterator.Adapters.{YieldsList-from_vec}
use Rattle.std.proofs.lemmas.Iterator.Consumers.{YieldsList-end}
use Rattle.sym_known.proofs.Closed.{forms_done}
use Rattle.sym_known.proofs.plain_paths.forms_of.Goals as goal

pub returns : goal.returns
returns c =
    let end = YieldsList-end (YieldsList-from_vec {s = c.into_iter-form-iterator.result} c.args.forms (search rules) (search rules)) c.cells.yielded c.cells.form-iterator c.cells.yielded_by c.next.result c.next.new.self c.in-None.is c.next.ensures.steps in
    let whole = forms_done c.args.forms c.args.cells.now (length c.cells.yielded) c.cells.closed.items c.requires.lengths end.1 c.cells.invariant in
    rw c.of.ensures whole
