-- States whose lists are moved out while a path's forms take their place, and the path of a segment
-- that is for a state.
use Rattle.std.specs.Prelude.{◌≡◌, ◌≢◌, ◌<◌, ◌⊎◌, ℕ, Bool, true, false, List, Option, Some, None, length, slice_get}
use Rattle.std.specs.List.{All}
use Rattle.sym_base.specs.Tests.{Truth}
use Rattle.sym_base.specs.States.{label_at, number_at, parts_at, cell_nums, cell_words}
use Rattle.sym_base.specs.declared.values.state.Cell.{Cell}
use Rattle.sym_base.specs.declared.values.state.Cell.TheVariants.{Enum, Int, Hold, Nums, Words}
use Rattle.sym_base.specs.declared.values.state.State.{State}
use Rattle.sym_base.specs.declared.values.state.Outcome.{Outcome}
use Rattle.sym_base.specs.declared.values.state.Outcome.TheVariants.{Going}
use Rattle.sym_base.specs.declared.values.state.Outcome.TheVariants as outcome
use Rattle.sym_path.specs.declared.path.Path.{Path}
use Rattle.sym_path.specs.Admitting.{Admits}
use Rattle.sym_path.specs.Giving.{end_at}

-- The states hold the same labels, numbers and parts, which is all that forms read. Their lists may
-- differ.
pub record SameButLists (old new : State) : Type 0 where
  pub labels : (c : ℕ) → label_at new c ≡ label_at old c
  pub numbers : (c : ℕ) → number_at new c ≡ number_at old c
  pub parts : (c : ℕ) → parts_at new c ≡ parts_at old c

-- It is a cell that holds a list.
abbrev pub is_list : Option Cell → Bool
is_list None = false
is_list (Some (Enum label)) = false
is_list (Some (Int x)) = false
is_list (Some (Hold parts)) = false
is_list (Some (Nums xs)) = true
is_list (Some (Words ts)) = true

-- A cell with the list of the cell with this number, which is moved out of the state if it is a
-- list cell. The other cells stay.
pub record IsListOut (c : ℕ) (old new : State) (out : Cell) : Type 0 where
  pub nums : cell_nums (Some out) ≡ cell_nums (slice_get old.cells c)
  pub words : cell_words (Some out) ≡ cell_words (slice_get old.cells c)
  pub same : SameButLists old new
  pub others : (d : ℕ) → d ≢ c → slice_get new.cells d ≡ slice_get old.cells d
  pub count : length new.cells ≡ length old.cells

-- No path of the list admits the state.
abbrev pub NoneAdmits : Truth → List Path → State → Type 0
NoneAdmits truth paths s = All (λ (path : Path). Admits truth path.when s → ⊥) paths

-- The path at this index is the first one of the list that admits the state.
pub record IsFirstFor (truth : Truth) (paths : List Path) (s : State) (index : ℕ) : Type 0 where
  pub path : Path
  pub is : slice_get paths index ≡ Some path
  pub admitted : Admits truth path.when s
  pub none_before : (i : ℕ) (other : Path) → i < index → slice_get paths i ≡ Some other →
      Admits truth other.when s → ⊥

-- The first path that admits the state makes this of it.
pub record IsLedByFirst (truth : Truth) (paths : List Path) (s : State)
    (new : Outcome) : Type 0 where
  pub index : ℕ
  pub first : IsFirstFor truth paths s index
  pub gives : new ≡ end_at first.path.end s

-- What a list of paths leads an outcome to: a state to what the first path that admits it makes of
-- it, and to itself if none does. A group that has ended stays so.
abbrev pub LeadsTo : Truth → List Path → Outcome → Outcome → Type 0
LeadsTo truth paths (Going s) new =
    IsLedByFirst truth paths s new ⊎ (NoneAdmits truth paths s × (new ≡ Going s))
LeadsTo truth paths (outcome.Ended fault) new = new ≡ outcome.Ended fault
