use Rattle.std.proofs.Common.{◌≡◌, ◌∙◌, true, Option, None, true≢false, ap, ap₂, sym, refl, is_some}
use Rattle.std.specs.Option.{option_or}
use Rattle.sym_check.specs.Checking.CheckedScripts.{checked_plan}
use Rattle.sym_table.specs.declared.bad.Bad.{Bad}
use Rattle.sym_run.proofs.FoundRecords.{both_none, run_joined}
use Rattle.sym_run.proofs.runs.Run.join.Goals as goal

-- A bad row that is there is that of one of the two.
not_both : (bad next : Option Bad) → is_some (option_or bad next) ≡ true → bad ≡ None → next ≡ None → ⊥
not_both bad next e a b = true≢false (sym e ∙ ap₂ (λ (x y : Option Bad). is_some (option_or x y)) a b)

pub returns-then-is_some-clause-stands : goal.returns-then-is_some-clause-stands
returns-then-is_some-clause-stands c = λ chunks h k.
    let there : is_some (option_or c.args.self.bad c.args.right.bad) ≡ true = ap is_some (sym c.or-bad.ensures) ∙ sym c.is_some.ensures ∙ c.if-is_some.true in
    run_joined (checked_plan c.args.checked.now) c.args.limit chunks c.args.self c.args.right _ c.requires.meet h k (record { from = refl; to = refl }) c.or-bad.ensures c.requires.left
    (λ a b. absurd (not_both c.args.self.bad c.args.right.bad there a b))
    (λ a b. absurd (not_both c.args.self.bad c.args.right.bad there a b))

pub join_groups-requires-clause-tight_left : goal.join_groups-requires-clause-tight_left
join_groups-requires-clause-tight_left c =
    let none = both_none c.args.self.bad c.args.right.bad (ap is_some (sym c.or-bad.ensures) ∙ sym c.is_some.ensures ∙ c.if-is_some.false) in
    (c.requires.tight none.0 none.1).0

pub join_groups-requires-clause-tight_right : goal.join_groups-requires-clause-tight_right
join_groups-requires-clause-tight_right c =
    let none = both_none c.args.self.bad c.args.right.bad (ap is_some (sym c.or-bad.ensures) ∙ sym c.is_some.ensures ∙ c.if-is_some.false) in
    (c.requires.tight none.0 none.1).1

pub returns-clause-stands : goal.returns-clause-stands
returns-clause-stands c = λ chunks h k.
    let none = both_none c.args.self.bad c.args.right.bad (ap is_some (sym c.or-bad.ensures) ∙ sym c.is_some.ensures ∙ c.if-is_some.false) in
    run_joined (checked_plan c.args.checked.now) c.args.limit chunks c.args.self c.args.right _ c.requires.meet h k (record { from = refl; to = refl })
    (sym (ap₂ (λ (x y : Option Bad). option_or x y) none.0 none.1)) c.in_ok-join_groups.ensures.fits
    (λ a b. c.in_ok-join_groups.ensures.tight) (λ a b. c.in_ok-join_groups.ensures.stands)
