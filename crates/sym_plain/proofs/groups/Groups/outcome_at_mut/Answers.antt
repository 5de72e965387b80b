use Rattle.std.proofs.Common.{◌∙◌, ap}
use Rattle.std.specs.Prelude.{slice_get}
use Rattle.std.specs.Option.{ghost_name_of}
use Rattle.sym_plain.specs.Pairs.{put_by_index}
use Rattle.sym_plain.proofs.Zipped.{item-get, values-are, zip-set}
use Rattle.sym_plain.proofs.groups.Groups.outcome_at_mut.Goals as goal
use borrow.Follows.Closed.{read_of}

pub returns : goal.returns
returns c =
    let ks = c.self.inside.keys.keys in
    let vs = c.self.inside.outcomes.items in (
      (λ i. read_of (ghost_name_of c.get_mut.result) (λ w. (zip-set ks vs c.args.index w ∙ ap (λ ps. put_by_index ps c.args.index w) c.self.view_is) i) (c.self.view_is i)),
      record {
        writes_back = tt;
        outcome = item-get (λ x. x.now) vs c.args.index c.get_mut.result c.get_mut.ensures.item ∙ ap (λ l. slice_get l c.args.index) (values-are ks vs c.args.self.now c.self.view_is c.self.invariant.1);
      },
    )
