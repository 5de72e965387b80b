use Rattle.std.proofs.Common.{sym, subst}
use Rattle.sym_base.specs.Trees.{script_tree}
use Rattle.sym_top.specs.Loading.{MayRefuse}
use Rattle.sym_top.proofs.Preparing.{unparsed-refuses, broken-refuses}
use Rattle.sym_top.proofs.load.accept.Goals as goal

pub returns-in-Err-clause-refused : goal.returns-in-Err-clause-refused
returns-in-Err-clause-refused c =
    subst (MayRefuse c.args.text.now) (sym c.parse_refusal.ensures)
    (unparsed-refuses c.args.text.now c.in-Err.error c.requires c.in-Err.ensures.exact)

pub returns-in-Err-check-clause-refused : goal.returns-in-Err-check-clause-refused
returns-in-Err-check-clause-refused c =
    subst (MayRefuse c.args.text.now) (sym c.check_refusal.ensures)
    (broken-refuses c.args.text.now (script_tree c.in-Ok.script) c.in-Err-check.error c.requires
    c.in-Ok.ensures.accepted c.in-Err-check.ensures.breaks)
