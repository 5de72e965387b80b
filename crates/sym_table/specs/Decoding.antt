-- What a row is decoded to: the record, or why there is none.
use Rattle.std.specs.Prelude.{◌≡◌, ℕ, List, Result, Ok, Err, Option, Some, None}
use Rattle.sym_base.specs.declared.values.value.Value.{Value}
use Rattle.sym_base.specs.declared.values.record.Record.{Record}
use Rattle.sym_table.specs.declared.bad.BadCause.{BadCause}
use Rattle.sym_table.specs.declared.bad.Bad.{Bad}
use Rattle.sym_table.specs.declared.bad.Decoded.{Decoded}
use Rattle.sym_table.specs.declared.bad.Decoded.TheVariants as decoded
use Rattle.sym_table.specs.declared.field_values.stop.Stop.{Stop}
use Rattle.sym_table.specs.declared.field_values.stop.Stop.TheVariants as stop

-- The record with this number, or the rule that it breaks.
abbrev pub numbered : ℕ → Result (List Value) BadCause → Decoded
numbered n (Ok values) = decoded.Is (record { no = n; fields = values })
numbered n (Err why) = decoded.Bad (record { no = n; cause = why })

-- The record is there where nothing is wrong with the row.
abbrev pub Fills : Option Bad → Record → Decoded → Type 0
Fills None rec d = d ≡ decoded.Is rec
Fills (Some bad) rec d = d ≡ decoded.Bad bad

-- The record, where there is one, is so.
abbrev pub IfRecord : Decoded → (Record → Type 0) → Type 0
IfRecord (decoded.Is rec) P = P rec
IfRecord (decoded.Bad bad) P = Unit {0}

-- What is left at a reference is the value that is meant, or the rule that is broken is meant;
-- where memory is out, anything.
abbrev pub Leaves : {A B : Type 0} → Result A Stop → B → Result B BadCause → Type 0
Leaves (Ok x) left meaning = meaning ≡ Ok left
Leaves (Err (stop.Cause why)) left meaning = meaning ≡ Err why
Leaves (Err stop.NoMemory) left meaning = Unit {0}
