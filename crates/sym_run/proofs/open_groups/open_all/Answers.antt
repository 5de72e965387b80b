use Rattle.std.proofs.Common.{◌≡◌, ◌∙◌, List, [], ◌∷◌, ◌++◌, ap, map, subst, sym, append_assoc}
use Rattle.std.proofs.lemmas.List.{append-nil}
use Rattle.sym_base.specs.declared.values.value.Key.{Key}
use Rattle.sym_plain.specs.Pairs.{HaveDistinctKeys}
use Rattle.sym_plain.proofs.Pairs.{insert-next}
use Rattle.sym_run.specs.Chained.{Chained}
use Rattle.sym_run.specs.Opened.{opened_group}
use Rattle.sym_run.specs.declared.opened.Open.{Open}
use Rattle.sym_run.proofs.OpenGroups.{opened_distinct}
use Rattle.sym_run.proofs.open_groups.open_all.Goals as goal

pub groups-preserved : goal.groups-preserved
groups-preserved c =
    let done = c.groups.opened.entries in
    let left : List (Key × Open) = map opened_group c.next.new.self in
    let q : Key × Open = opened_group (c.in-Some.key, c.in-Some.chain) in
    let all : done ++ q ∷ left ≡ map opened_group c.args.groups = ap (λ gs. done ++ map opened_group gs) (sym c.in-Some.ensures.steps) ∙ c.groups.invariant in
    let apart = subst HaveDistinctKeys (sym all) (opened_distinct c.args.groups (subst HaveDistinctKeys c.into_map-map.ensures.same c.into_map-map.ensures.distinct)) in
    ap (λ gs. gs ++ left) (c.in_ok-insert.ensures.entries ∙ insert-next done q left apart) ∙ append_assoc done (q ∷ []) left ∙ all

pub returns-clause-distinct : goal.returns-clause-distinct
returns-clause-distinct c =
    let done = c.groups.opened.entries in
    let all : done ≡ map opened_group c.args.groups =
    sym (append-nil done) ∙ subst (λ (gs : List (Key × Chained)). done ++ map opened_group gs ≡ map opened_group c.args.groups) c.in-None.ensures.steps.0 c.groups.invariant in
    subst HaveDistinctKeys (sym all) (opened_distinct c.args.groups (subst HaveDistinctKeys c.into_map-map.ensures.same c.into_map-map.ensures.distinct))
