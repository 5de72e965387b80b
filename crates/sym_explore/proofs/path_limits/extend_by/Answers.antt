use Rattle.std.proofs.Common.{◌≡◌, ◌++◌, true, List, length, refl, subst, arith}
use Rattle.std.proofs.lemmas.List.{length-append}
use Rattle.sym_path.specs.declared.path.Path.{Path}
use Rattle.sym_path.specs.Joining.{IsSettled}
use Rattle.sym_path.proofs.SettlingLists.{reduced_self}
use Rattle.sym_explore.specs.Limiting.{chosen}
use Rattle.sym_explore.proofs.path_limits.extend_by.Goals as goal

pub returns-then-end_in_turn : goal.returns-then-end_in_turn
returns-then-end_in_turn c =
    let old : List Path = c.args.segment in
    let others : List Path = c.args.grown.items in
    let ended : c.count_ended.result ≡ length (chosen true old) = subst (λ (ps : List Path). c.count_ended.result ≡ length (chosen true ps)) c.paths.ensures c.count_ended.ensures in
    let apart : IsSettled (chosen true old ++ others) =
    subst (λ (ps : List Path). IsSettled (chosen true ps ++ others)) c.paths-2.ensures
    (subst (λ (gs : List Path). IsSettled (chosen true c.paths-2.result.now ++ gs)) c.deref.ensures.value (c.end_in_turn.ensures c.if-end_in_turn.true)) in (
      refl,
      record {
        new = chosen true old ++ others;
        settling = record { settled = apart; reduced = reduced_self (chosen true old ++ others) };
        over = omega (arith, ended, length-append (chosen true old) others);
      },
    )
