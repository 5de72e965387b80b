use Rattle.std.proofs.Common.{◌∙◌, ap, length, subst, sym}
use Rattle.std.specs.List.{IsDistinct}
use Rattle.sym_check.specs.Meaning.Groups.{is_key}
use Rattle.sym_plain.proofs.Zipped.{keys-are, length-zip}
use Rattle.sym_plain.proofs.groups.Groups.len.Goals as goal

pub returns-clause-len : goal.returns-clause-len
returns-clause-len c =
    c.len.ensures.len ∙ sym (length-zip c.self.inside.keys.keys c.self.inside.outcomes.items c.self.invariant.1) ∙ ap length c.self.view_is

pub returns-clause-distinct : goal.returns-clause-distinct
returns-clause-distinct c =
    subst (IsDistinct is_key) (keys-are c.self.inside.keys.keys c.self.inside.outcomes.items c.args.self.now c.self.view_is c.self.invariant.1) c.self.invariant.0
