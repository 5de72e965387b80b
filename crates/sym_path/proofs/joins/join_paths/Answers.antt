use Rattle.std.proofs.Common.{List, subst}
use Rattle.sym_path.specs.declared.part.Part.{Part}
use Rattle.sym_path.specs.Joins.{AreUnited}
use Rattle.sym_path.proofs.JoiningJoined.{joined_by}
use Rattle.sym_path.proofs.joins.join_paths.Goals as goal

pub returns : goal.returns
returns c =
    let own : List Part = c.in_ok-copy.field-0 in
    let when : List Part = c.united-when.result in
    let united : AreUnited own c.args.q.now.when when = subst (λ (w : List Part). AreUnited own w when) c.as_slice.ensures c.united-when.ensures in
    joined_by c.args.p.now c.args.q.now (record { when = when; end = c.in_ok-end.end }) (subst (λ (v : List Part). AreUnited v c.args.q.now.when when) c.in_ok-copy.ensures united) c.in_ok-end.ensures
