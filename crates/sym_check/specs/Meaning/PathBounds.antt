-- The path bound: how many paths the symbolic execution of one record can have at most. Sums and
-- products stop at a million.
use Rattle.std.specs.Prelude.{ℕ, ◌+◌, ◌*◌, min, max, List, if◌then◌else◌}
use Rattle.sym_base.specs.declared.tree.compare.Compare.{Compare}
use Rattle.sym_base.specs.declared.tree.compare.Compare.TheVariants as compare
use Rattle.sym_base.specs.declared.limits.TheConstants as limit
use Rattle.sym_check.specs.Plan.LinePlans.{TermPlan, OfNum, OfLine}
use Rattle.sym_check.specs.Plan.CondPlans.{CondPlan, Compared, Words, CellIs, LabelIs, Test, Not, And, Or}
use Rattle.sym_check.specs.Meaning.Conditions.{is_fixed}
use Rattle.sym_check.specs.Plan.Ranges.{is_clamped}
use Rattle.sym_check.specs.Plan.ScriptPlans.{ScriptPlan}
use Rattle.sym_check.specs.declared.plan.script.CellPlan.{CellPlan}
use Rattle.sym_check.specs.declared.path_bound.Counts.{Counts}
use Rattle.sym_check.specs.declared.path_bound.Ways.{Ways}
use Rattle.sym_check.specs.Plan.DoPlans.{DoPlan, Let, SetInt, SetEnum, CopyEnum, Keep, KeepFrom, PushNum, PushWord, If, DosPlan, End, Then}

abbrev pub plus : ℕ → ℕ → ℕ
plus a b = min (a + b) limit.PATHS_COUNTED

abbrev pub times : ℕ → ℕ → ℕ
times a b = min (a * b) limit.PATHS_COUNTED

-- A line equals a number at one value of its cell, and differs from it below and above that.
abbrev pub compare_counts : Compare → Counts
compare_counts compare.Eq = record { true_paths = 1; false_paths = 2 }
compare_counts compare.Ne = record { true_paths = 2; false_paths = 1 }
compare_counts compare.Lt = record { true_paths = 1; false_paths = 1 }
compare_counts compare.Le = record { true_paths = 1; false_paths = 1 }
compare_counts compare.Gt = record { true_paths = 1; false_paths = 1 }
compare_counts compare.Ge = record { true_paths = 1; false_paths = 1 }

abbrev pub term_counts : Compare → TermPlan → Counts
term_counts c (OfNum n) = record { true_paths = 1; false_paths = 1 }
term_counts c (OfLine l) = compare_counts c

-- The right side counts on each path where the left one doesn't decide.
abbrev pub and_counts : Counts → Counts → Counts
and_counts l r = record {
  true_paths = times l.true_paths r.true_paths;
  false_paths = plus l.false_paths (times l.true_paths r.false_paths);
}

abbrev pub or_counts : Counts → Counts → Counts
or_counts l r = record {
  true_paths = plus l.true_paths (times l.false_paths r.true_paths);
  false_paths = times l.false_paths r.false_paths;
}

abbrev pub counts : CondPlan → Counts
counts (Compared c t n) = term_counts c t
counts (Words v w) = record { true_paths = 1; false_paths = 1 }
counts (CellIs c l) = record { true_paths = 1; false_paths = 1 }
counts (LabelIs l m) = record { true_paths = 1; false_paths = 1 }
counts (Test t c es) = record { true_paths = 1; false_paths = 1 }
counts (Not c) = record { true_paths = (counts c).false_paths; false_paths = (counts c).true_paths }
counts (And c d) = and_counts (counts c) (counts d)
counts (Or c d) = or_counts (counts c) (counts d)

-- A fixed condition takes the same side at each state.
abbrev pub if_ways : CondPlan → Ways → Ways → Ways
if_ways c a b =
    if is_fixed c
    then record { going = max a.going b.going; ended = max a.ended b.ended }
    else record {
      going = plus (times (counts c).true_paths a.going) (times (counts c).false_paths b.going);
      ended = plus (times (counts c).true_paths a.ended) (times (counts c).false_paths b.ended);
    }

-- One statement, and then others.
abbrev pub then_ways : Ways → Ways → Ways
then_ways first rest = record {
  going = times first.going rest.going;
  ended = plus first.ended (times first.going rest.ended);
}

-- A number that is stored lies below the cell's range, in it or above it. Outside it goes on where
-- the range clamps, and else it ends.
abbrev pub store_ways : List CellPlan → ℕ → Ways
store_ways cells c =
    if is_clamped cells c
    then record { going = 3; ended = 0 }
    else record { going = 1; ended = 2 }

abbrev mutual
  pub do_ways : List CellPlan → DoPlan → Ways
  do_ways cells (Let n e) = record { going = 1; ended = 0 }
  do_ways cells (SetInt c t) = store_ways cells c
  do_ways cells (SetEnum c l) = record { going = 1; ended = 0 }
  do_ways cells (CopyEnum c d) = record { going = 1; ended = 0 }
  do_ways cells (Keep c es) = record { going = 1; ended = 0 }
  do_ways cells (KeepFrom c d) = record { going = 1; ended = 0 }
  do_ways cells (PushNum c t) = store_ways cells c
  do_ways cells (PushWord c w) = record { going = 1; ended = 0 }
  do_ways cells (If c a b) = if_ways c (dos_ways cells a) (dos_ways cells b)

  pub dos_ways : List CellPlan → DosPlan → Ways
  dos_ways cells End = record { going = 1; ended = 0 }
  dos_ways cells (Then d rest) = then_ways (do_ways cells d) (dos_ways cells rest)

-- The path bound of a plan.
abbrev pub path_bound : ScriptPlan → ℕ
path_bound p = plus (dos_ways p.cells p.update).going (dos_ways p.cells p.update).ended
