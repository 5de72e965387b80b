use Rattle.std.proofs.Common.{◌≡◌, ◌∙◌, [], ◌∷◌, ◌++◌, None, ap, subst, sym}
use Rattle.std.proofs.lemmas.Result.{on_ok_weaker}
use Rattle.std.specs.Map.{lookup}
use Rattle.sym_base.specs.declared.values.value.Key.{Key}
use Rattle.sym_check.specs.Meaning.Groups.{is_key}
use Rattle.sym_plain.proofs.Pairs.{put-new}
use Rattle.sym_run.specs.Leading.{IsAt}
use Rattle.sym_run.proofs.led_groups.put_back.Goals as goal

pub returns-in_ok-copy-in-None-clause-groups : goal.returns-in_ok-copy-in-None-clause-groups
returns-in_ok-copy-in-None-clause-groups c =
    let old = c.args.groups.now in
    let key = c.args.key.now in
    let outcome = c.args.taken.outcome in
    let none : lookup (is_key key) old ≡ None = subst (IsAt old key) c.in-None.is c.requires in
    on_ok_weaker c.begin.result
    (λ e. e ∙ ap (λ (k : Key). old ++ (k, outcome) ∷ []) c.in_ok-copy-in-None.ensures ∙ sym (put-new old key outcome none))
    c.begin.ensures.ok
