use Rattle.std.proofs.Common.{◌∙◌, sym, arith}
use Rattle.sym_report.proofs.Choosing.{named_here, none_named}
use Rattle.sym_report.proofs.chosen.choose.Goals as goal

pub returns-then-is_named : goal.returns-then-is_named
returns-then-is_named g c =
    named_here _ c.args.name.now c.forms.forms.items c.forms.index c.index.result.now
    c.swap_remove.result (omega arith) c.index.ensures c.swap_remove.ensures.value
    (sym c.is_named.ensures ∙ c.if-is_named.true)
    ∙ c.forms.invariant

pub returns : goal.returns
returns g c =
    none_named _ c.args.name.now c.forms.forms.items c.forms.index (omega arith)
    ∙ c.forms.invariant
