use Rattle.std.proofs.Common.{◌∙◌, [], ap, arith, refl, subst, sym}
use Rattle.std.proofs.lemmas.List.Elements.{All-nil}
use Rattle.std.proofs.lemmas.Option.{slice_get_within}
use Rattle.std.specs.Prelude.{slice_get}
use Rattle.sym_base.specs.declared.values.value.Key.{Key}
use Rattle.sym_check.specs.Checking.CheckedScripts.{checked_plan}
use Rattle.sym_check.specs.Meaning.Groups.{records_of}
use Rattle.sym_run.specs.Chained.{Chained}
use Rattle.sym_run.specs.Extended.{ChainIsExtended}
use Rattle.sym_run.specs.Runs.{GroupsAreExtended}
use Rattle.sym_run.proofs.FoundRecords.{run_of_none}
use Rattle.sym_run.proofs.chunks.of_chunk.Goals as goal

pub returns-clause-stands : goal.returns-clause-stands
returns-clause-stands c = λ chunks at.
    let p = checked_plan c.args.checked.now in
    let within = slice_get_within chunks c.args.number c.args.chunk.now at in
    c.extend.ensures.stands chunks
    (run_of_none p c.args.limit chunks c.args.number c.none.result (omega arith) c.none.ensures.ends c.none.ensures.groups c.none.ensures.bad)
    (ap (slice_get chunks) c.none.ensures.ends.to ∙ at)

pub returns-clause-extends : goal.returns-clause-extends
returns-clause-extends c = λ records all.
    let p = checked_plan c.args.checked.now in
    let start : GroupsAreExtended p c.args.limit [] c.none.result.groups =
    subst (GroupsAreExtended p c.args.limit []) (sym c.none.ensures.groups) (record { keys_are = refl; each = All-nil (λ (group : Key × Chained). ChainIsExtended p c.args.limit (records_of p group.0 []) group.1) }) in
    c.extend.ensures.extends [] records c.none.ensures.bad all start
