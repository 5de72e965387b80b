use Rattle.std.proofs.Common.{◌∙◌, ◌∷◌, [], ◌++◌, Option, ap, ap₂, sym, append-nil}
use Rattle.sym_base.specs.declared.values.value.Key.{Key}
use Rattle.sym_base.specs.declared.values.state.Outcome.{Outcome}
use Rattle.sym_scan.specs.Replays.{row_of}
use Rattle.sym_scan.proofs.ReplaySteps.{row_with}
use Rattle.sym_scan.proofs.replays.push_row.Goals as goal

pub returns-in_ok-push : goal.returns-in_ok-push
returns-in_ok-push c =
    c.in_ok-push.ensures.items
    ∙ ap₂ (λ (key : Key) (outcome : Outcome). c.args.rows.now.items ++ row_with c.args.no key outcome ∷ []) c.in_ok-copy.ensures c.in_ok-copy-2.ensures
    ∙ ap (λ (found : Option Outcome). c.args.rows.now.items ++ row_of c.args.no c.args.key.now found) c.in-Some.ensures

pub returns-in_default : goal.returns-in_default
returns-in_default c =
    sym (append-nil c.args.rows.now.items)
    ∙ ap (λ (found : Option Outcome). c.args.rows.now.items ++ row_of c.args.no c.args.key.now found) c.in_default.ensures
