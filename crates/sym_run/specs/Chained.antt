-- What a contract sees of a chain.
use Rattle.std.specs.Prelude.{List, refl}
use Rattle.std.specs.Coded.{Coded, code_by, coded×, coded_list}
use Rattle.sym_base.specs.contracts.values.record.Record as one_record
use Rattle.sym_base.specs.declared.values.record.Record.{Record}
use Rattle.sym_path.specs.contracts.path.Path as path
use Rattle.sym_path.specs.declared.path.Path.{Path}

-- Segments, in order, and after their records those that the chain keeps as they are.
pub record Chained : Type 0 where
  pub segments : List (List Path)
  pub kept : List Record

abbrev pub chained_code : Coded Chained
chained_code =
    code_by (List (List Path) × List Record)
    (coded× (coded_list (coded_list (path.the_row).coded)) (coded_list (one_record.the_row).coded))
    (λ c. (c.segments, c.kept)) (λ p. record { segments = p.0; kept = p.1 }) (λ _. refl)
