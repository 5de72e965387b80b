use Rattle.std.proofs.Common.{◌≡◌, ◌∙◌, ◌++◌, ℕ, List, Option, ap₂, subst, sym}
use Rattle.sym_base.specs.declared.values.record.Record.{Record}
use Rattle.sym_run.specs.Keeping.{AreWide}
use Rattle.sym_run.proofs.EmptyWords.{all_narrower, less, same_place, with_none}
use Rattle.sym_run.proofs.kept.Kept.append.Goals as goal

pub append-requires : goal.append-requires
append-requires c =
    let count = c.requires.0 in
    let same : c.self.inside.empty ≡ c.more.inside.empty = same_place c.self.inside.empty c.more.inside.empty c.eq.result c.if-eq.true c.eq.ensures in
    let left = all_narrower c.self.inside.empty count c.self.inside.stored (subst (AreWide count) (sym c.self.view_is) c.requires.1) in
    let right = all_narrower c.more.inside.empty count c.more.inside.stored (subst (AreWide count) (sym c.more.view_is) c.requires.2) in
    (less c.self.inside.empty count, left, subst (λ (empty : Option ℕ). AreWide (less empty count) c.more.inside.stored) (sym same) right)

pub append-requires-2 : goal.append-requires-2
append-requires-2 c =
    let count = c.requires.0 in
    (count, subst (AreWide count) (sym (c.in_ok-all.ensures ∙ c.self.view_is)) c.requires.1, subst (AreWide count) (sym (c.in_ok-whole.ensures ∙ c.more.view_is)) c.requires.2)

pub returns-clause-ok : goal.returns-clause-ok
returns-clause-ok c =
    with_none c.append-2.new.self ∙ c.in_ok-append.ensures.ok
    ∙ ap₂ (λ (a b : List Record). a ++ b) (c.in_ok-all.ensures ∙ c.self.view_is) (c.in_ok-whole.ensures ∙ c.more.view_is)
