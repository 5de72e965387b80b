-- A function by levels or by turns, where some are left.
use Rattle.std.proofs.Common.{◌≡◌, ℕ, suc, ◌<◌, ◌-◌, refl, ap, arith}
use Rattle.sym_base.specs.Trees.{ExprTree}
use Rattle.sym_parse.specs.declared.operators.Level.{Level}
use Rattle.sym_parse.specs.declared.operators.Level.TheVariants.{Or, And, Sum, Product}
use Rattle.sym_parse.specs.Limits.{most}
use Rattle.sym_parse.specs.Steps.{Input, Parser}
use Rattle.sym_parse.specs.Syntax.Expressions.{Line, Whole, Negation, Signed}
use Rattle.sym_parse.specs.Parsing.Expressions.{lines, expr, negation, unary, values_from, values_turn, chain, conjunction, sum, product}
use Rattle.sym_parse.specs.Parsing.Levels.{op_at, item_at, chain_at}

pub some : {X : Type 0} (f : ℕ → X) (n : ℕ) → 0 < n → f n ≡ f (suc (n - 1))
some f n h = let e : n ≡ suc (n - 1) = omega arith in ap f e

pub deeper_whole : (room : ℕ) (i : Input) → 0 < room → lines most room Whole i ≡ expr most (room - 1) (lines most (room - 1)) i
unfolding lines
deeper_whole room i h = some (λ n. lines most n Whole i) room h

pub deeper_negation : (room : ℕ) (i : Input) → 0 < room → lines most room Negation i ≡ negation most (room - 1) (lines most (room - 1)) i
unfolding lines
deeper_negation room i h = some (λ n. lines most n Negation i) room h

pub deeper_signed : (room : ℕ) (i : Input) → 0 < room → lines most room Signed i ≡ unary most (room - 1) (lines most (room - 1)) i
unfolding lines
deeper_signed room i h = some (λ n. lines most n Signed i) room h

pub values_goes : (item : Parser ExprTree) (n : ℕ) (i : Input) → 0 < n → values_from item n i ≡ values_turn item (values_from item (n - 1)) i
unfolding values_from
values_goes item n i h = some (λ m. values_from item m i) n h

-- The line of a level is a chain of that level's items.
pub chain_is : (room : ℕ) (deeper : Line → Parser ExprTree) (level : Level) → chain_at most room deeper level ≡ chain (op_at level) (item_at most room deeper level)
unfolding chain_at item_at expr conjunction sum product
chain_is room deeper Or = refl
chain_is room deeper And = refl
chain_is room deeper Sum = refl
chain_is room deeper Product = refl

pub ruleset turns = (deeper_whole, deeper_negation, deeper_signed, values_goes)
