-- Statements by turns, and an `if` by levels, where some are left.
use Rattle.std.proofs.Common.{◌≡◌, ℕ, zero, suc, ◌<◌, ◌-◌, refl, arith}
use Rattle.sym_base.specs.Trees.{StmtTree}
use Rattle.sym_parse.specs.declared.error.LimitKind.TheVariants as limit
use Rattle.sym_parse.specs.Limits.{most}
use Rattle.sym_parse.specs.Steps.{Input, Parser, ◌>>=◌, one_statement, opening}
use Rattle.sym_parse.specs.Parsing.Statements.{branches, if_statement, statements_from, statements_turn}
use Rattle.sym_parse.proofs.Turns.{some}

pub goes : (room : ℕ) (inner : Parser StmtTree) (n : ℕ) (i : Input) → 0 < n → statements_from most room inner n i ≡ statements_turn most room inner (statements_from most room inner (n - 1)) i
unfolding statements_from
goes room inner n i h = some (λ m. statements_from most room inner m i) n h

-- An `if` counts one statement, opens a level, and goes on within it.
pub ifs : (room : ℕ) (i : Input) → if_statement most room i ≡ (one_statement (most limit.Statements) >>= (λ _. opening room >>= (λ _. branches most (room - 1) (if_statement most (room - 1))))) i
unfolding if_statement opening
ifs zero i = refl
ifs (suc room) i = let e : suc room - 1 ≡ room = omega arith in rw e refl
