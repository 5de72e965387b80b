use Rattle.std.proofs.Common.{◌≡◌, List, Some, subst}
use Rattle.std.specs.Prelude.{IfSome, slice_get}
use Rattle.std.specs.Map.{keys_of}
use Rattle.sym_base.specs.declared.values.value.Key.{Key}
use Rattle.sym_run.specs.Chained.{Chained}
use Rattle.sym_plain.proofs.Pairs.{indexed-key}
use Rattle.sym_run.proofs.run_groups.RunGroups.index_of.Goals as goal

pub returns-clause-index : goal.returns-clause-index
returns-clause-index c =
    subst (λ (groups : List (Key × Chained)). IfSome c.get_index_of.result (λ i. slice_get (keys_of groups) i ≡ Some c.args.key.now)) c.self.view_is
    (indexed-key (keys_of c.self.inside.map.entries) c.args.key.now c.get_index_of.result c.get_index_of.ensures.index)
