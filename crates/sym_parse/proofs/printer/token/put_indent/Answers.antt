use Rattle.std.proofs.Common.{◌++◌, ◌∷◌, [], ◌∙◌, ap, append_assoc}
use Rattle.sym_parse.proofs.Printout.Appended.{indent_more}
use Rattle.sym_parse.specs.Printed.{indent}
use Rattle.sym_parse.proofs.printer.token.put_indent.Goals as goal

pub levels-preserved : goal.levels-preserved
levels-preserved c =
    c.in_ok-put.ensures ∙ ap (λ text. text ++ (32 ∷ 32 ∷ [])) c.levels.invariant
    ∙ append_assoc c.args.out.now.items (indent c.levels.block) (32 ∷ 32 ∷ [])
    ∙ ap (λ text. c.args.out.now.items ++ text) (indent_more c.levels.block)
