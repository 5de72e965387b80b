-- A code for runs, by which a proof tells them apart.
use Rattle.std.specs.Prelude.{ℕ, List, Option, refl}
use Rattle.std.specs.Coded.{Coded, code_by, coded_ℕ, coded×, coded_list, coded_option}
use Rattle.sym_base.specs.contracts.values.value.Key as key
use Rattle.sym_base.specs.declared.values.value.Key.{Key}
use Rattle.sym_table.specs.contracts.bad.Bad as bad_row
use Rattle.sym_table.specs.declared.bad.Bad.{Bad}
use Rattle.sym_run.specs.Chained.{Chained, chained_code}
use Rattle.sym_run.specs.declared.runs.Run.{Run}

abbrev pub run_code : Coded Run
run_code =
    code_by (ℕ × (ℕ × (List (Key × Chained) × Option Bad)))
    (coded× coded_ℕ (coded× coded_ℕ
    (coded× (coded_list (coded× (key.the_row).coded chained_code)) (coded_option (bad_row.the_row).coded))))
    (λ r. (r.lo, (r.hi, (r.groups, r.bad))))
    (λ t. record { lo = t.0; hi = t.1.0; groups = t.1.1.0; bad = t.1.1.1 }) (λ _. refl)
