-- The line that `check` writes of a script. It is this project's profile.
use Rattle.std.specs.Prelude.{ℕ, List, ◌++◌, length, codes}
use Rattle.std.specs.Fmt.{decimal}
use Rattle.sym_check.specs.Meaning.PathBounds.{path_bound}
use Rattle.sym_check.specs.Plan.ScriptPlans.{ScriptPlan}

-- A line of these numbers.
abbrev pub counts_line : ℕ → ℕ → ℕ → List ℕ
counts_line cells tests paths =
    codes "cells " ++ decimal cells
    ++ (codes " tests " ++ decimal tests)
    ++ (codes " paths " ++ decimal paths)
    ++ codes "\n"

-- The cells and the tests of a script, and its path bound.
abbrev pub check_line : ScriptPlan → List ℕ
check_line p = counts_line (length p.cells) (length p.tests) (path_bound p)
