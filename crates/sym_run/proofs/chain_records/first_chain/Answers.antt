use Rattle.std.proofs.Common.{◌∷◌, [], refl, subst, sym}
use Rattle.sym_check.specs.Checking.CheckedScripts.{checked_plan}
use Rattle.sym_run.specs.Chains.{ChainStandsFor}
use Rattle.sym_run.specs.Extended.{ChainIsExtended}
use Rattle.sym_run.proofs.Extensions.{one_extended}
use Rattle.sym_run.proofs.KeptRecords.{closed_stands}
use Rattle.sym_run.proofs.chain_records.first_chain.Goals as goal

pub returns-clause-stands : goal.returns-clause-stands
returns-clause-stands c =
    let p = checked_plan c.args.settings.now.checked.now in
    let rec = c.args.rec.now in
    subst (ChainStandsFor p (rec ∷ [])) (sym c.of_one.ensures)
    (closed_stands p (rec ∷ []) (c.in_ok-own.own ∷ []) (rec ∷ [], [], refl, c.in_ok-own.ensures.stands, refl))

pub returns-clause-extends : goal.returns-clause-extends
returns-clause-extends c = λ none.
    let p = checked_plan c.args.settings.now.checked.now in
    let limit = c.args.settings.now.limit in
    let rec = c.args.rec.now in
    subst (ChainIsExtended p limit (rec ∷ [])) (sym c.of_one.ensures) (record { closed = refl; segments = one_extended p limit rec c.in_ok-own.own c.in_ok-own.ensures.stands })
