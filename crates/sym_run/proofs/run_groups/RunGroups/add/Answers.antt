use Rattle.std.proofs.Common.{◌∙◌, List, ap, sym, subst}
use Rattle.indexmap.specs.IndexMap.{insert_entry}
use Rattle.std.specs.Map.{lookup}
use Rattle.sym_base.specs.declared.values.value.Key.{Key}
use Rattle.sym_check.specs.Meaning.Groups.{is_key}
use Rattle.sym_run.specs.Chained.{Chained}
use Rattle.sym_plain.specs.Pairs.{HaveDistinctKeys}
use Rattle.sym_run.proofs.GroupPuts.{added_none, added_some}
use Rattle.sym_run.proofs.run_groups.RunGroups.add.Goals as goal

pub returns-then-is_some : goal.returns-then-is_some
returns-then-is_some c =
    added_none c.args.self c.args.key c.args.chain c.in_ok-old.old
    (c.in_ok-old.ensures.old ∙ ap (λ (es : List (Key × Chained)). lookup (is_key c.args.key) es) c.into_map-map.ensures.same)
    (sym c.is_some.ensures ∙ c.if-is_some.true)

pub returns : goal.returns
returns c =
    added_some c.args.self c.args.key c.args.chain c.in_ok-old.old c.of_map.result
    (c.in_ok-old.ensures.old ∙ ap (λ (es : List (Key × Chained)). lookup (is_key c.args.key) es) c.into_map-map.ensures.same)
    (sym c.is_some.ensures ∙ c.if-is_some.false)
    (subst HaveDistinctKeys c.into_map-map.ensures.same c.into_map-map.ensures.distinct)
    (c.of_map.ensures ∙ c.in_ok-old.ensures.entries ∙ ap (λ (es : List (Key × Chained)). insert_entry is_key es c.args.key c.args.chain) c.into_map-map.ensures.same)
