-- How many paths the symbolic execution of one record can have at most: the path bound, in sums and
-- products that don't stop at a million.
use Rattle.std.specs.Prelude.{ℕ, ◌+◌, ◌*◌, max, Bool, true, false, not, List, if◌then◌else◌}
use Rattle.std.specs.List.{sum_by}
use Rattle.sym_check.specs.Plan.LinePlans.{TermPlan, OfNum, OfLine}
use Rattle.sym_check.specs.Plan.CondPlans.{CondPlan, Compared, Words, CellIs, LabelIs, Test, Not, And, Or}
use Rattle.sym_check.specs.Meaning.Conditions.{is_fixed}
use Rattle.sym_check.specs.Plan.DoPlans.{DoPlan, Let, SetInt, SetEnum, CopyEnum, Keep, KeepFrom, PushNum, PushWord, If, DosPlan, End, Then}
use Rattle.sym_base.specs.declared.tree.compare.Compare.{Compare}
use Rattle.sym_check.specs.Plan.Ranges.{is_clamped}
use Rattle.sym_check.specs.Plan.ScriptPlans.{ScriptPlan}
use Rattle.sym_check.specs.declared.plan.script.CellPlan.{CellPlan}
use Rattle.sym_int.specs.Cuts.{most_with}
use Rattle.sym_path.specs.declared.path.PathEnd.{PathEnd}
use Rattle.sym_path.specs.declared.path.PathEnd.TheVariants.{Next, Ended}
use Rattle.sym_path.specs.declared.path.Path.{Path}

-- At most how many branches with this truth a comparison of a term makes of a path: one if the term
-- names no cell.
abbrev pub term_branches : Compare → TermPlan → Bool → ℕ
term_branches compare (OfNum n) x = 1
term_branches compare (OfLine l) x = most_with compare x

-- At most how many branches with this truth a condition makes of a path.
abbrev pub branches_of : CondPlan → Bool → ℕ
branches_of (Compared compare t n) x = term_branches compare t x
branches_of (Words v w) x = 1
branches_of (CellIs c l) x = 1
branches_of (LabelIs l m) x = 1
branches_of (Test t c es) x = 1
branches_of (Not c) x = branches_of c (not x)
branches_of (And c d) true = branches_of c true * branches_of d true
branches_of (And c d) false = branches_of c false + branches_of c true * branches_of d false
branches_of (Or c d) true = branches_of c true + branches_of c false * branches_of d true
branches_of (Or c d) false = branches_of c false * branches_of d false

-- The same of both sides of an `if`, of which a fixed condition takes one.
abbrev pub if_paths : CondPlan → ℕ → ℕ → ℕ
if_paths c a b = if is_fixed c then max a b else branches_of c true * a + branches_of c false * b

-- At most how many paths that go on a stored number makes of one, and how many more with those
-- that end: it is below the range of the cell, in it or above it. Outside it a path goes on where
-- the range clamps, and else it ends.
abbrev pub store_going : List CellPlan → ℕ → ℕ
store_going cells c = if is_clamped cells c then 3 else 1

-- At most how many paths that end a stored number makes of one: none if the range of the cell
-- clamps, else one below the range and one above it.
abbrev pub store_ended : List CellPlan → ℕ → ℕ
store_ended cells c = if is_clamped cells c then 0 else 2

-- At most how many paths that go on statements make of one.
abbrev mutual
  pub do_going : List CellPlan → DoPlan → ℕ
  do_going cells (Let n e) = 1
  do_going cells (SetInt c t) = store_going cells c
  do_going cells (SetEnum c l) = 1
  do_going cells (CopyEnum c d) = 1
  do_going cells (Keep c es) = 1
  do_going cells (KeepFrom c d) = 1
  do_going cells (PushNum c t) = store_going cells c
  do_going cells (PushWord c w) = 1
  do_going cells (If c a b) = if_paths c (dos_going cells a) (dos_going cells b)

  -- At most how many paths that go on statements in order make of one.
  pub dos_going : List CellPlan → DosPlan → ℕ
  dos_going cells End = 1
  dos_going cells (Then d rest) = do_going cells d * dos_going cells rest

-- How many more there can be with those that end. Arithmetic that fails ends a path in the place of
-- one that goes on, so only the sum of the two counts bounds the paths that end.
abbrev mutual
  pub do_ended : List CellPlan → DoPlan → ℕ
  do_ended cells (Let n e) = 0
  do_ended cells (SetInt c t) = store_ended cells c
  do_ended cells (SetEnum c l) = 0
  do_ended cells (CopyEnum c d) = 0
  do_ended cells (Keep c es) = 0
  do_ended cells (KeepFrom c d) = 0
  do_ended cells (PushNum c t) = store_ended cells c
  do_ended cells (PushWord c w) = 0
  do_ended cells (If c a b) = if_paths c (dos_ended cells a) (dos_ended cells b)

  -- How many more there can be of statements in order.
  pub dos_ended : List CellPlan → DosPlan → ℕ
  dos_ended cells End = 0
  dos_ended cells (Then d rest) = do_ended cells d + do_going cells d * dos_ended cells rest

-- At most how many paths the update of a script makes of one.
abbrev pub made_paths : ScriptPlan → ℕ
made_paths p = dos_going p.cells p.update + dos_ended p.cells p.update

-- So many paths, where the path goes on; one that has ended stays one.
abbrev pub most_paths : PathEnd → ℕ → ℕ
most_paths (Next forms) most = most
most_paths (Ended fault) most = 1

-- The same of all paths.
abbrev pub most_grown : ℕ → List Path → ℕ
most_grown most paths = sum_by (λ (path : Path). most_paths path.end most) paths
