-- Records that were found, and what was found after them.
use Rattle.std.proofs.Common.{◌≡◌, ap, sym, refl, List, [], ◌++◌, append_assoc, Result, Ok, Err}
use Rattle.sym_base.specs.declared.values.record.Record.{Record}
use Rattle.sym_table.specs.declared.bad.Bad.{Bad}
use Rattle.sym_table.specs.RowRecords.{in_turn}

abbrev pub Found : Type 0
Found = Result (List Record) Bad

pub none_before : (found : Found) → found ≡ in_turn (Ok []) found
none_before (Ok records) = refl
none_before (Err bad) = refl

pub both_before : (first next : List Record) (found : Found) → in_turn (Ok first) (in_turn (Ok next) found) ≡ in_turn (Ok (first ++ next)) found
both_before first next (Ok rest) = ap Ok (sym (append_assoc first next rest))
both_before first next (Err bad) = refl
