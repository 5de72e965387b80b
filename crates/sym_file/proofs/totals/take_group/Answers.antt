use Rattle.std.proofs.Common.{◌∙◌, ap}
use Rattle.std.specs.Map.{lookup}
use Rattle.sym_base.specs.declared.values.value.Key.{Key}
use Rattle.sym_check.specs.Checking.CheckedScripts.{checked_plan}
use Rattle.sym_check.specs.Meaning.Groups.{is_key}
use Rattle.sym_file.proofs.Taking.{copy_taken, not_found}
use Rattle.sym_file.proofs.totals.take_group.Goals as goal

pub returns-in-Some-clause-taken : goal.returns-in-Some-clause-taken
returns-in-Some-clause-taken c = c.take_at.ensures.taken c.args.key.now c.in-Some.ensures.index

pub begin-requires-clause-new : goal.begin-requires-clause-new
begin-requires-clause-new c =
    ap (λ (key : Key). lookup (is_key key) c.args.groups.now) c.in_ok-copy-in-None.ensures
    ∙ not_found (lookup (is_key c.args.key.now) c.args.groups.now) c.in-None.ensures.found

pub returns-in_ok-copy-in-None-clause-taken : goal.returns-in_ok-copy-in-None-clause-taken
returns-in_ok-copy-in-None-clause-taken c =
    copy_taken (checked_plan c.args.checked.now) c.args.key.now c.args.chain.now c.args.groups.now c.begin.result c.in_ok-copy-in-None.field-0 c.begin.new.groups c.in_ok-copy-in-None.ensures
    (not_found (lookup (is_key c.args.key.now) c.args.groups.now) c.in-None.ensures.found) c.begin.ensures.taken
