-- The text of a table and the rows of groups, tried on examples.
use Rattle.std.specs.Prelude.{◌≡◌, refl, ℕ, pos, negsuc, true, false}
use Rattle.std.specs.Prelude.{List, [], ◌∷◌, ◌++◌, None, codes}
use Rattle.std.specs.Fmt.{digits}
use Rattle.sym_base.specs.declared.values.value.Value.TheVariants as value
use Rattle.sym_base.specs.declared.values.value.Key.{Key}
use Rattle.sym_base.specs.declared.values.report.Column.TheVariants as column
use Rattle.sym_base.specs.declared.values.report.ReportFault.TheVariants as fault
use Rattle.sym_base.specs.declared.values.state.FaultKind.TheVariants as kind
use Rattle.sym_base.specs.declared.values.state.Outcome.TheVariants.{Ended}
use Rattle.sym_base.specs.declared.tree.declaration.CellDecl.TheVariants as cell
use Rattle.sym_base.specs.Trees.{ScriptTree, Done}
use Rattle.sym_check.specs.declared.plan.script.KindPlan.TheVariants as plan
use Rattle.sym_check.specs.Plan.ScriptPlans.{ScriptPlan}
use Rattle.sym_check.specs.Plan.ShowPlans as show
use Rattle.sym_check.specs.Plan.DoPlans.{End}
use Rattle.sym_report.specs.declared.rows.Heads.{Heads}
use Rattle.sym_report.specs.declared.rows.Row.{Row}
use Rattle.sym_report.specs.declared.rows.RowBody.TheVariants.{Columns, Over, Arith}
use Rattle.sym_report.specs.ReportRows.{heads_of, key_columns, row_of, is_faulty, some_faulty}
use Rattle.sym_report.specs.ValueTexts.{value_text}
use Rattle.sym_report.specs.Tables.{shown_word, table_text}

abbrev sessions : Heads
sessions = record {
  keys = codes "user" ∷ [];
  columns = codes "sessions" ∷ codes "longest" ∷ [];
}

abbrev ann : Row
ann = record {
  keys = column.Word (codes "ann") ∷ [];
  body = Columns (column.Num (pos 1) ∷ column.Nothing ∷ []);
}

abbrev bob : Row
bob = record { keys = column.Word (codes "bob") ∷ []; body = Over (codes "n") 12 }

abbrev names_line : List ℕ
names_line = codes "user | sessions | longest\n"

-- Two groups, one of which ended with a fault.
two_groups :
    table_text sessions (ann ∷ bob ∷ [])
    ≡ names_line
    ++ (codes "ann | 1 | none\nbob | fault: n overflows at record 12\n" ++ codes "--\n")
unfolding digits
two_groups = refl

no_groups : table_text sessions [] ≡ names_line ++ codes "--\n"
no_groups = refl

-- Without a group line there are no keys.
abbrev counted : Heads
counted = record { keys = []; columns = codes "n" ∷ [] }

abbrev failed : Row
failed = record { keys = []; body = Arith 2 }

one_group :
    table_text counted (failed ∷ []) ≡ codes "n\nfault: arithmetic at record 2\n--\n"
unfolding digits
one_group = refl

-- A control character is shown as `?`, in words alone and in lists of words.
tab_in_a_word : value_text shown_word (column.Word (codes "a\tb")) ≡ codes "a?b"
tab_in_a_word = refl

some_words :
    value_text shown_word (column.Words (codes "a" ∷ codes "\n" ∷ codes "" ∷ [])) ≡ codes "[a ? ]"
some_words = refl

some_numbers : value_text shown_word (column.Nums (negsuc 2 ∷ pos 12 ∷ [])) ≡ codes "[-3 12]"
unfolding digits
some_numbers = refl

no_numbers : value_text shown_word (column.Nums []) ≡ codes "[]"
no_numbers = refl

no_quotient : value_text shown_word (column.Bad fault.Zero) ≡ codes "zero divisor"
no_quotient = refl

-- Faults and columns that couldn't be computed make a row faulty.
ann_is_fine : is_faulty ann.body ≡ false
ann_is_fine = refl

bob_is_faulty : some_faulty (ann ∷ bob ∷ []) ≡ true
bob_is_faulty = refl

bad_column : is_faulty (Columns (column.Num (pos 1) ∷ column.Bad fault.Overflow ∷ [])) ≡ true
bad_column = refl

-- A script with the cells n and xs, grouped by day and by user. The kind of the users, who are the
-- first field, is an enum of two labels.
abbrev tree : ScriptTree
tree = record {
  enums = [];
  fields = [];
  group = record { text = codes "day"; at = 9 } ∷ record { text = codes "user"; at = 13 } ∷ [];
  states =
      record { name = record { text = codes "n"; at = 20 }; cell = cell.Words }
      ∷ record { name = record { text = codes "xs"; at = 30 }; cell = cell.Words }
      ∷ [];
  tests = [];
  update = Done;
  columns = [];
}

abbrev planned : ScriptPlan
planned = record {
  enums = record { labels = codes "idle" ∷ codes "busy" ∷ [] } ∷ [];
  fields =
      record { header = codes "User ID"; kind = plan.Label 0; default = None }
      ∷ record { header = codes "Day"; kind = plan.Num; default = None }
      ∷ [];
  group = 1 ∷ 0 ∷ [];
  cells = [];
  tests = [];
  update = End;
  columns = record { name = codes "count"; value = show.Num (pos 1) } ∷ [];
}

-- The group's fields are called by their names, and not by their headers, in the line's order.
names :
    heads_of tree planned
    ≡ record { keys = codes "day" ∷ codes "user" ∷ []; columns = codes "count" ∷ [] }
names = refl

abbrev busy_day : Key
busy_day = record { values = value.Num (pos 3) ∷ value.Label 1 ∷ [] }

-- A label is shown by its name, and so is the cell of a fault.
busy_group :
    row_of tree planned (busy_day, Ended (record { kind = kind.Over 1; no = 7 }))
    ≡ record {
      keys = column.Num (pos 3) ∷ column.Word (codes "busy") ∷ [];
      body = Over (codes "xs") 7;
    }
busy_group = refl

-- Without a group line a key has no values.
whole : key_columns (record planned { group = [] }) (record { values = [] }) ≡ []
whole = refl
