-- Opening a level where some are free, and where none is.
use Rattle.std.proofs.Common.{◌≡◌, ℕ, zero, suc, ◌<◌, length, Ok, Err, refl, arith}
use Rattle.sym_parse.specs.declared.stop.Stop.TheVariants.{Limit}
use Rattle.sym_parse.specs.declared.error.LimitKind.TheVariants.{Depth}
use Rattle.sym_parse.specs.Steps.{Input, opening, passed}

pub opens : (room : ℕ) (i : Input) → 0 < room → opening room i ≡ Ok (tt, passed i)
unfolding opening
opens zero i some = absurd (omega arith)
opens (suc room) i some = refl

pub opens_none : (i : Input) → opening 0 i ≡ Err (Limit (length i.rest) Depth)
unfolding opening
opens_none i = refl

pub ruleset openings = (opens, opens_none)
