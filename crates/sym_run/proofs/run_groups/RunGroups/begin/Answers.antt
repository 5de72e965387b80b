use Rattle.std.proofs.Common.{◌∙◌, List, ap}
use Rattle.sym_base.specs.declared.values.value.Key.{Key}
use Rattle.sym_plain.specs.Pairs.{put}
use Rattle.sym_plain.proofs.Pairs.{insert-put, put-new}
use Rattle.sym_run.specs.Chained.{Chained}
use Rattle.sym_run.proofs.run_groups.RunGroups.begin.Goals as goal

pub returns-clause-ok : goal.returns-clause-ok
returns-clause-ok c =
    c.in_ok-insert.ensures.entries
    ∙ insert-put c.self.inside.map.entries c.args.key c.args.chain c.self.invariant
    ∙ ap (λ (groups : List (Key × Chained)). put groups c.args.key c.args.chain) c.self.view_is
    ∙ put-new c.args.self.now c.args.key c.args.chain c.requires.new
