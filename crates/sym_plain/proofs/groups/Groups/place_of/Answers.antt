use Rattle.std.proofs.Common.{◌∙◌, ap, ap₂, subst}
use Rattle.std.specs.List.{IsDistinct, position_or_len}
use Rattle.std.specs.Option.{unwrap_or}
use Rattle.sym_check.specs.Meaning.Groups.{is_key}
use Rattle.sym_plain.proofs.Zipped.{keys-are, position-or}
use Rattle.sym_plain.proofs.groups.Groups.place_of.Goals as goal

pub returns-clause-index : goal.returns-clause-index
returns-clause-index c =
    let test = is_key c.args.key.now in
    c.unwrap_or.ensures
    ∙ ap₂ unwrap_or c.get_index_of.ensures.index c.len.ensures.len
    ∙ position-or test c.self.inside.keys.keys
    ∙ ap (position_or_len test) (keys-are c.self.inside.keys.keys c.self.inside.outcomes.items c.args.self.now c.self.view_is c.self.invariant.1)

pub returns-clause-distinct : goal.returns-clause-distinct
returns-clause-distinct c =
    subst (IsDistinct is_key) (keys-are c.self.inside.keys.keys c.self.inside.outcomes.items c.args.self.now c.self.view_is c.self.invariant.1) c.self.invariant.0
