use borrow.Follows.Closed.{read_of}
use Rattle.std.specs.Option.{ghost_name_of}
use Rattle.sym_base.specs.SmallLists.{items_of}
use Rattle.sym_base.proofs.SmallListLemmas.{items-with_item, copied_mut-get}
use Rattle.sym_base.proofs.values.small_list.SmallList.get_mut.Goals as goal

pub returns : goal.returns
returns g c =
    let items = c.self.inside.items in
    let i = c.args.index in
    rw (← c.self.view_is) (
      λ t. read_of (ghost_name_of c.get_mut.result)
          (λ (w : g.row.T.Denot). items-with_item items i w t) (items_of items),
      record {
        writes_back = tt;
        item = copied_mut-get _ _ _ c.get_mut.ensures.item;
        found = c.get_mut.ensures.found;
      },
    )
