-- A chain goes on with an operator and its right operand, and ends before any other token.
use Rattle.std.proofs.Common.{◌≡◌, ℕ, zero, suc, ◌<◌, ◌-◌, length, refl, Ok, Err, Option, Some, None, arith}
use Rattle.sym_base.specs.Trees.{ExprTree, Bin}
use Rattle.sym_base.specs.declared.tree.expression.BinOp.{BinOp}
use Rattle.sym_parse.specs.declared.stop.Stop.{Stop}
use Rattle.sym_parse.specs.Lexemes.{Terminal}
use Rattle.sym_parse.specs.Steps.{Input, Parser, next, passed, place}
use Rattle.sym_parse.specs.Parsing.Expressions.{chain, chain_from, op_in}

module _ (ops : Terminal → Option BinOp) (item : Parser ExprTree) where
  pub chain_begins : (i j : Input) (x : ExprTree) → item i ≡ Ok (x, j) → chain ops item i ≡ chain_from ops item (suc (length j.rest)) x j
  unfolding chain
  chain_begins i j x e = rw e refl

  pub chain_refused : (i : Input) (stop : Stop) → item i ≡ Err stop → chain ops item i ≡ Err stop
  unfolding chain
  chain_refused i stop e = rw e refl

  pub chain_ends : (n : ℕ) (left : ExprTree) (i : Input) → op_in ops (next i) ≡ None → chain_from ops item n left i ≡ Ok (left, i)
  unfolding chain_from
  chain_ends zero left i e = refl
  chain_ends (suc n) left i e = rw e refl

  pub chain_goes : (n : ℕ) (left right : ExprTree) (b : BinOp) (i j : Input) → 0 < n → op_in ops (next i) ≡ Some b → item (passed i) ≡ Ok (right, j) →
      chain_from ops item n left i ≡ chain_from ops item (n - 1) (Bin b left right (place i)) j
  unfolding chain_from
  chain_goes zero left right b i j some e f = absurd (omega arith)
  chain_goes (suc n) left right b i j some e f = let k : suc n - 1 ≡ n = omega arith in rw (e, f, k) refl

  pub chain_stops : (n : ℕ) (left : ExprTree) (b : BinOp) (stop : Stop) (i : Input) → 0 < n → op_in ops (next i) ≡ Some b → item (passed i) ≡ Err stop →
      chain_from ops item n left i ≡ Err stop
  unfolding chain_from
  chain_stops zero left b stop i some e f = absurd (omega arith)
  chain_stops (suc n) left b stop i some e f = rw (e, f) refl
