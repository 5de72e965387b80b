use Rattle.std.proofs.Common.{rules, ◌≡◌, sym, subst, ap, ◌∙◌}
use Rattle.sym_base.specs.SmallLists.{items_of, IsSound}
use Rattle.sym_base.specs.declared.values.small_list.Items.TheVariants.{One}
use Rattle.sym_base.proofs.values.small_list.Items.spill.Goals as goal

pub unreachable-requires : goal.unreachable-requires
unreachable-requires g c =
    let same : One c.in-One-replace.one ≡ c.args.self.now =
    sym c.in-One-replace.is ∙ c.replace.ensures.value in
    let sound : IsSound (One c.in-One-replace.one) = subst IsSound (sym same) c.requires in
    let bad = c.in-Err.ensures.variant.1 sound in search rules

pub returns-in-Many-self-clause-items : goal.returns-in-Many-self-clause-items
returns-in-Many-self-clause-items g c =
    let same : One c.in-One-replace.one ≡ c.args.self.now =
    sym c.in-One-replace.is ∙ c.replace.ensures.value in
    let a = c.push_reserved.ensures.items in
    let b = c.in_ok-many.ensures.items in
    let d = c.in-Ok.is in
    let e = c.into_inner.ensures.ok in
    let f = ap items_of same in search rules
