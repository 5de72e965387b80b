use Rattle.std.proofs.Common.{List, subst}
use Rattle.std.proofs.lemmas.Result.{IfOk-weaker}
use Rattle.sym_check.specs.Checking.CheckedScripts.{checked_plan}
use Rattle.sym_path.specs.Composing.{AreComposed, IsComposition}
use Rattle.sym_path.specs.Settling.{IsSettling}
use Rattle.sym_path.specs.declared.path.Path.{Path}
use Rattle.sym_path.proofs.Composed.{composition}
use Rattle.sym_path.proofs.segment.Segment.composed_with.Goals as goal

pub returns : goal.returns
returns c =
    let p = checked_plan c.args.checked.now in
    let paths : List Path = c.in_ok-paths.paths.items in
    let first : AreComposed p c.args.self c.paths.result.now paths = subst (λ (ps : List Path). AreComposed p ps c.paths.result.now paths) c.into_vec.ensures c.in_ok-paths.ensures in
    let both : AreComposed p c.args.self c.args.right.now paths = subst (λ (ps : List Path). AreComposed p c.args.self ps paths) c.paths.ensures first in
    IfOk-weaker c.settle.result (IsSettling paths) (IsComposition p c.args.self c.args.right.now)
    (λ segment w. composition p c.args.self c.args.right.now paths segment c.requires.left c.requires.right both w)
    c.settle.ensures
