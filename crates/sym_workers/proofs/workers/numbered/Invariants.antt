-- Each pass is new, whether it is still to be numbered or has its number.
use Rattle.std.proofs.Common.{◌≡◌, ◌+◌, All, vec_len}
use Rattle.sym_board.specs.Passes.{IsNewPassOf}
use Rattle.sym_workers.proofs.workers.numbered.Given as goal

abbrev pub invariant-passes : goal.invariant-passes
invariant-passes g l = record {
  left : All (λ p. IsNewPassOf l.board p) l.passes.items;
  each : All (λ w. IsNewPassOf l.board w.pass) l.workers.items;
  count : vec_len l.workers + vec_len l.passes ≡ vec_len l.fn.passes;
}

abbrev pub decreases-passes : goal.decreases-passes
decreases-passes g l = vec_len l.passes
