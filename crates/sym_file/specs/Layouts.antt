-- Scripts whose texts differ in layout and comments alone: their syntax trees are equal without
-- places. A rule that one of them breaks is broken by the other, maybe at another place.
use Rattle.std.specs.Prelude.{◌≡◌}
use Rattle.sym_base.specs.Trees.{ScriptTree}
use Rattle.sym_check.specs.declared.elaborate.error.CheckErr.{CheckErr}
use Rattle.sym_check.specs.declared.elaborate.error.CheckErr.TheVariants.{Name, Twice, Kind, Range, NotLinear, Branchy, NoMemory}
use Rattle.sym_check.specs.Rules.Scripts.{BreaksScript}

-- The fault with its place at 0.
abbrev pub unplaced : CheckErr → CheckErr
unplaced (Name at) = Name 0
unplaced (Twice at) = Twice 0
unplaced (Kind at) = Kind 0
unplaced (Range at) = Range 0
unplaced (NotLinear at) = NotLinear 0
unplaced (Branchy paths) = Branchy paths
unplaced NoMemory = NoMemory

-- The first broken rule of the script is this one, maybe at another place.
pub record BreaksAlike (script : ScriptTree) (why : CheckErr) : Type 0 where
  pub fault : CheckErr
  pub breaks : BreaksScript script fault
  pub same : unplaced fault ≡ unplaced why
