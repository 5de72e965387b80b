use Rattle.std.proofs.Common.{◌∙◌, ap}
use Rattle.indexmap.specs.IndexMap.{insert_entry}
use Rattle.sym_base.specs.declared.values.value.Key.{Key}
use Rattle.sym_check.specs.Checking.CheckedScripts.{checked_plan}
use Rattle.sym_check.specs.Meaning.Groups.{is_key}
use Rattle.sym_plain.proofs.Pairs.{insert-put}
use Rattle.sym_run.specs.declared.opened.Open.{Open}
use Rattle.sym_run.specs.declared.opened.Open.TheVariants as opened
use Rattle.sym_run.proofs.Beginning.{begun}
use Rattle.sym_run.proofs.ExtendedGroups.{begun_extended}
use Rattle.sym_run.proofs.chain_records.begin.Goals as goal

pub returns-clause-grows : goal.returns-clause-grows
returns-clause-grows c =
    let chain : Open = opened.Chain c.in_ok-chain.chain in
    begun (checked_plan c.args.settings.now.checked.now) c.args.settings.now.limit c.args.settings.now.most c.args.key.now c.args.rec.now c.args.map.now.entries c.insert.new.self.entries chain
    (c.in_ok-insert.ensures.entries ∙ ap (λ (k : Key). insert_entry is_key c.args.map.now.entries k chain) c.in_ok-copy.ensures
    ∙ insert-put c.args.map.now.entries c.args.key.now chain c.requires.distinct)
    c.requires.new c.in_ok-chain.ensures.fits c.in_ok-chain.ensures.tight c.in_ok-chain.ensures.stands c.in_ok-chain.ensures.closed

pub returns-clause-extends : goal.returns-clause-extends
returns-clause-extends c = λ none.
    let chain : Open = opened.Chain c.in_ok-chain.chain in
    begun_extended (checked_plan c.args.settings.now.checked.now) c.args.settings.now.limit c.args.settings.now.most c.args.key.now c.args.rec.now c.args.map.now.entries c.insert.new.self.entries chain
    (c.in_ok-insert.ensures.entries ∙ ap (λ (k : Key). insert_entry is_key c.args.map.now.entries k chain) c.in_ok-copy.ensures
    ∙ insert-put c.args.map.now.entries c.args.key.now chain c.requires.distinct)
    c.requires.new c.in_ok-chain.ensures.fits c.in_ok-chain.ensures.tight (c.in_ok-chain.ensures.extends none) c.in_ok-chain.ensures.closed
