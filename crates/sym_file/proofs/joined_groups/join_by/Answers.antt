use Rattle.std.proofs.Common.{◌≡◌, subst}
use Rattle.sym_check.specs.Checking.CheckedScripts.{checked_plan}
use Rattle.sym_file.specs.JoinedTexts.{Chains, IsOwnJoined}
use Rattle.sym_file.proofs.JoinedTexts.{text_joined}
use Rattle.sym_file.proofs.joined_groups.join_by.Goals as goal

pub returns-in-Ok-Some-clause-joined : goal.returns-in-Ok-Some-clause-joined
returns-in-Ok-Some-clause-joined c =
    let p = checked_plan c.args.checked.now in
    let same : c.into_groups-groups.result ≡ c.args.before.groups = c.into_groups-groups.ensures in
    let joined = rw c.in-Ok-Some.field-0-is at c.in-Ok-Some.ensures in
    text_joined c.args.own.now p c.args.bytes.now c.args.limit c.args.before c.join_unless_apart.new.groups c.in-Ok-Some.next
    (subst (λ (groups : Chains). IsOwnJoined c.args.own.now p c.args.bytes.now c.args.before.next c.args.limit groups c.join_unless_apart.new.groups c.in-Ok-Some.next) same joined)
