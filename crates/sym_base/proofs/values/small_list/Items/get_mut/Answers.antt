use Rattle.std.proofs.Common.{refl, arith}
use Rattle.sym_base.proofs.values.small_list.Items.get_mut.Goals as goal

pub returns-in-One : goal.returns-in-One
returns-in-One g c =
    let e = rw c.in-One.is at c.get_mut.ensures in
    rw c.in-One.is (
      refl,
      record { writes_back = tt; item = e.item; found = e.variant },
    )

pub returns-in-Many : goal.returns-in-Many
returns-in-Many g c =
    let e = rw c.in-Many.is at c.get_mut-in-Many.ensures in
    let counted = c.in-Many.items.ok.0 in
    rw c.in-Many.is (
      refl,
      record {
        writes_back = tt;
        item = e.item;
        found = ((λ some. let lt = e.variant.0 some in omega arith), λ lt. e.variant.1 (omega arith));
      },
    )
