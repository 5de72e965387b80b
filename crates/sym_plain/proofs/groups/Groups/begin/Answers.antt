use Rattle.std.proofs.Common.{◌∙◌, ◌++◌, ◌∷◌, [], ap}
use Rattle.std.specs.Map.{lookup}
use Rattle.sym_check.specs.Meaning.Groups.{is_key}
use Rattle.sym_plain.proofs.Zipped.{is_absent, pushed}
use Rattle.sym_plain.proofs.groups.Groups.begin.Goals as goal

pub push-requires : goal.push-requires
push-requires c =
    record {
      new = is_absent c.self.inside.keys.keys c.self.inside.outcomes.items c.args.key c.self.invariant.1 (ap (lookup (is_key c.args.key)) c.self.view_is ∙ c.requires.new);
      distinct = c.self.invariant.0;
    }

pub returns-clause-ok : goal.returns-clause-ok
returns-clause-ok c =
    pushed c.push.result c.self.inside.keys.keys c.push.new.keys.keys c.self.inside.outcomes.items c.push.new.outcomes.items c.args.key c.args.outcome _ c.self.invariant.1
    (ap (λ ps. ps ++ (c.args.key, c.args.outcome) ∷ []) c.self.view_is) c.push.ensures.keys c.push.ensures.outcomes
