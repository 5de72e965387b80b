-- Which lexemes are a sentence of the grammar, and which begin one.
use Rattle.std.specs.Prelude.{◌≡◌, ℕ, ◌≤◌, List, ◌++◌, length, Ok, Err}
use Rattle.sym_base.specs.Trees.{ScriptTree}
use Rattle.sym_parse.specs.declared.error.LimitKind.{LimitKind}
use Rattle.sym_parse.specs.declared.stop.Stop.TheVariants as stop
use Rattle.sym_parse.specs.Lexemes.{Lexeme}
use Rattle.sym_parse.specs.Steps.{Parsed}
use Rattle.sym_parse.specs.Syntax.Scripts.{IsScript}

-- The lexemes are a script's, by some limits.
pub record IsSentence (ls : List Lexeme) : Type 0 where
  pub limits : LimitKind → ℕ
  pub tree : ScriptTree
  pub script : IsScript limits ls tree

-- Whatever lexemes follow these, and whatever the limits, they are no script's.
abbrev pub BeginNoSentence : List Lexeme → Type 0
BeginNoSentence ls = (rest : List Lexeme) → IsSentence (ls ++ rest) → ⊥

-- No more than so many tokens are left where reading ends or stops.
abbrev pub IsNoEarlier : {A : Type 0} → ℕ → Parsed A → Type 0
IsNoEarlier left (Ok read) = length read.1.rest ≤ left
IsNoEarlier left (Err (stop.Expected other)) = other ≤ left
IsNoEarlier left (Err (stop.Limit other which)) = other ≤ left
IsNoEarlier left (Err stop.NoMemory) = ⊥

-- What wider limits make of an outcome: they keep it, unless it is that a limit is passed, and then
-- reading comes at least as far.
abbrev pub IsKeptBy : Parsed ScriptTree → Parsed ScriptTree → Type 0
IsKeptBy (Ok read) wide = wide ≡ Ok read
IsKeptBy (Err (stop.Expected left)) wide = wide ≡ Err (stop.Expected left)
IsKeptBy (Err (stop.Limit left which)) wide = IsNoEarlier left wide
IsKeptBy (Err stop.NoMemory) wide = ⊥
