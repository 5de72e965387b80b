-- Runs to which chunks are added: the chains of their groups are open.
use Rattle.std.specs.Prelude.{◌≡◌, ℕ, List, [], Option, None, map, refl}
use Rattle.std.specs.Coded.{Coded, code_by, coded_ℕ, coded×, coded_list, coded_option}
use Rattle.sym_base.specs.contracts.values.value.Key as key
use Rattle.sym_base.specs.declared.values.value.Key.{Key}
use Rattle.sym_check.specs.Plan.ScriptPlans.{ScriptPlan}
use Rattle.sym_table.specs.contracts.bad.Bad as bad_row
use Rattle.sym_table.specs.declared.bad.Bad.{Bad}
use Rattle.sym_table.specs.declared.chunk.Chunk.{Chunk}
use Rattle.sym_run.specs.Chained.{Chained}
use Rattle.sym_run.specs.contracts.opened.Open as open_chain
use Rattle.sym_run.specs.declared.opened.Open.{Open}
use Rattle.sym_run.specs.Opened.{open_kind, opened_group}
use Rattle.sym_run.specs.Runs.{StandForChunks}

-- The numbers of the first chunk and of the one after the last, the open chains by group, and the
-- first row that is no record.
pub record OpenedRun : Type 0 where
  pub lo : ℕ
  pub hi : ℕ
  pub groups : List (Key × Open)
  pub bad : Option Bad

abbrev pub open_run_code : Coded OpenedRun
open_run_code =
    code_by (ℕ × (ℕ × (List (Key × Open) × Option Bad)))
    (coded× coded_ℕ (coded× coded_ℕ
    (coded× (coded_list (coded× (key.the_row).coded (open_chain.the_row).coded)) (coded_option (bad_row.the_row).coded))))
    (λ r. (r.lo, (r.hi, (r.groups, r.bad))))
    (λ t. record { lo = t.0; hi = t.1.0; groups = t.1.1.0; bad = t.1.1.1 }) (λ _. refl)

-- No chunks yet, before the one with this number.
abbrev pub no_chunks : ℕ → OpenedRun
no_chunks number = record { lo = number; hi = number; groups = []; bad = None }

-- A run of these numbers, groups and bad row, whose chains are as they stand.
abbrev pub opened_run : ℕ → ℕ → List (Key × Chained) → Option Bad → OpenedRun
opened_run lo hi groups bad = record {
  lo = lo;
  hi = hi;
  groups = map opened_group groups;
  bad = bad;
}

-- The numbers of the first chunk and of the one after the last.
pub record IsOpenFromTo (lo hi : ℕ) (run : OpenedRun) : Type 0 where
  pub from : run.lo ≡ lo
  pub to : run.hi ≡ hi

-- An open run stands for those chunks of a list that its numbers name.
abbrev pub OpenStandsForChunks : ScriptPlan → ℕ → List Chunk → OpenedRun → Type 0
OpenStandsForChunks p limit chunks run =
    StandForChunks open_kind p limit chunks run.lo run.hi run.groups run.bad
