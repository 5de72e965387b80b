use Rattle.std.proofs.Common.{◌∙◌, sym}
use Rattle.sym_base.specs.declared.values.value.Key.{Key}
use Rattle.sym_check.specs.Checking.CheckedScripts.{checked_plan}
use Rattle.sym_plain.proofs.Pairs.{set-put}
use Rattle.sym_run.specs.Opened.{OpenFits, OpenIsTight}
use Rattle.sym_run.specs.declared.opened.Open.{Open}
use Rattle.sym_run.proofs.Beginning.{grown_longer}
use Rattle.sym_run.proofs.ExtendedGroups.{longer_extended}
use Rattle.sym_run.proofs.GroupPuts.{all_found}
use Rattle.sym_run.proofs.chain_records.lengthen.Goals as goal

pub take_into-requires-clause-fits : goal.take_into-requires-clause-fits
take_into-requires-clause-fits c =
    let p = checked_plan c.args.settings.now.checked.now in
    all_found (λ (k : Key) (u : Open). OpenFits p u) c.args.key.now c.in-Some.chain.now c.args.map.now.entries c.requires.fits (sym c.in-Some.ensures.value)

pub take_into-requires-clause-tight : goal.take_into-requires-clause-tight
take_into-requires-clause-tight c =
    let p = checked_plan c.args.settings.now.checked.now in
    all_found (λ (k : Key) (u : Open). OpenIsTight p c.args.settings.now.limit u) c.args.key.now c.in-Some.chain.now c.args.map.now.entries c.requires.tight (sym c.in-Some.ensures.value)

pub returns-in_ok-take_into-in-Some-clause-grows : goal.returns-in_ok-take_into-in-Some-clause-grows
returns-in_ok-take_into-in-Some-clause-grows c =
    let chain : Open = c.take_into.new.chain in
    let there = sym c.in-Some.ensures.value in
    grown_longer (checked_plan c.args.settings.now.checked.now) c.args.settings.now.limit c.args.settings.now.most c.args.key.now c.args.rec.now c.args.map.now.entries (c.get_mut.follows.lender chain).entries c.in-Some.chain.now chain
    ((c.get_mut.follows.holds chain).0 ∙ set-put c.args.map.now.entries c.args.key.now c.in-Some.chain.now chain c.in-Some.ensures.unique there)
    there c.in_ok-take_into-in-Some.ensures

pub returns-in_ok-take_into-in-Some-clause-extends : goal.returns-in_ok-take_into-in-Some-clause-extends
returns-in_ok-take_into-in-Some-clause-extends c = λ t.
    let chain : Open = c.take_into.new.chain in
    let there = sym c.in-Some.ensures.value in
    longer_extended (checked_plan c.args.settings.now.checked.now) c.args.settings.now.limit c.args.settings.now.most c.args.key.now c.args.rec.now c.args.map.now.entries (c.get_mut.follows.lender chain).entries c.in-Some.chain.now chain
    ((c.get_mut.follows.holds chain).0 ∙ set-put c.args.map.now.entries c.args.key.now c.in-Some.chain.now chain c.in-Some.ensures.unique there)
    there c.in_ok-take_into-in-Some.ensures
