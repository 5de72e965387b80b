use Rattle.std.proofs.Common.{List, subst}
use Rattle.std.specs.Prelude.{IfOk}
use Rattle.sym_check.specs.Checking.CheckedScripts.{checked_plan}
use Rattle.sym_path.specs.declared.path.Path.{Path}
use Rattle.sym_explore.specs.Growing.{IsLonger, grown_paths}
use Rattle.sym_explore.proofs.extensions.extend.Goals as goal

-- The copy is the segment.
pub returns-clause-longer : goal.returns-clause-longer
returns-clause-longer c =
    subst (λ (old : List Path). IfOk c.grow.result (λ grown. IsLonger (checked_plan c.args.checked.now) c.args.rec.now old (grown_paths grown)))
    c.in_ok-copy.ensures c.grow.ensures.longer
