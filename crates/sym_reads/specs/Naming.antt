-- Which expressions, conditions and statements name a field, by its number: a case for each place
-- at which a field may stand. The body of a test names none, since it sees its parameters alone;
-- the arguments of a call may.
use Rattle.std.specs.Prelude.{ℕ, List, ◌∷◌}
use Rattle.sym_base.specs.declared.tree.compare.Compare.{Compare}
use Rattle.sym_check.specs.declared.plan.expression.ArithOp.{ArithOp}
use Rattle.sym_check.specs.declared.plan.expression.WordOf.{WordOf}
use Rattle.sym_check.specs.declared.plan.expression.WordOf.TheVariants as word
use Rattle.sym_check.specs.declared.plan.expression.LabelOf.{LabelOf}
use Rattle.sym_check.specs.declared.plan.expression.LabelOf.TheVariants as label
use Rattle.sym_check.specs.Plan.FixedPlans.{NumPlan, FixedPlan}
use Rattle.sym_check.specs.Plan.FixedPlans as fixed
use Rattle.sym_check.specs.Plan.LinePlans.{LinePlan, TermPlan}
use Rattle.sym_check.specs.Plan.LinePlans as line
use Rattle.sym_check.specs.Plan.CondPlans.{CondPlan}
use Rattle.sym_check.specs.Plan.CondPlans as cond
use Rattle.sym_check.specs.Plan.DoPlans.{DoPlan, DosPlan}
use Rattle.sym_check.specs.Plan.DoPlans as one
use Rattle.sym_check.specs.Plan.ScriptPlans.{ScriptPlan}

-- A number names the field: it is the field's, or has it in an operand.
pub data NumNames (i : ℕ) : NumPlan → Type 0 where
  field_number : NumNames i (fixed.Field i)
  opposite : (n : NumPlan) → NumNames i n → NumNames i (fixed.Neg n)
  left : (op : ArithOp) (l r : NumPlan) → NumNames i l → NumNames i (fixed.Bin op l r)
  right : (op : ArithOp) (l r : NumPlan) → NumNames i r → NumNames i (fixed.Bin op l r)

-- A word: it is the field's.
pub data WordNames (i : ℕ) : WordOf → Type 0 where
  field_word : WordNames i (word.Field i)

-- A label: it is the field's.
pub data LabelNames (i : ℕ) : LabelOf → Type 0 where
  field_label : LabelNames i (label.Field i)

-- A value of any kind.
pub data FixedNames (i : ℕ) : FixedPlan → Type 0 where
  in_number : (n : NumPlan) → NumNames i n → FixedNames i (fixed.OfNum n)
  in_word : (w : WordOf) → WordNames i w → FixedNames i (fixed.OfWord w)
  in_label : (l : LabelOf) → LabelNames i l → FixedNames i (fixed.OfLabel l)

-- One of several values: the arguments of a call, or what a hold cell keeps.
pub data SomeNames (i : ℕ) : List FixedPlan → Type 0 where
  first_value : (e : FixedPlan) (rest : List FixedPlan)
      → FixedNames i e
      → SomeNames i (e ∷ rest)
  later_value : (e : FixedPlan) (rest : List FixedPlan)
      → SomeNames i rest
      → SomeNames i (e ∷ rest)

-- A line over a cell: in what is added, or in what it is multiplied by.
pub data LineNames (i : ℕ) : LinePlan → Type 0 where
  opposite_line : (l : LinePlan) → LineNames i l → LineNames i (line.Neg l)
  line_before : (l : LinePlan) (n : NumPlan) → LineNames i l → LineNames i (line.Add l n)
  added : (l : LinePlan) (n : NumPlan) → NumNames i n → LineNames i (line.Add l n)
  factor : (n : NumPlan) (l : LinePlan) → NumNames i n → LineNames i (line.Scale n l)
  scaled : (n : NumPlan) (l : LinePlan) → LineNames i l → LineNames i (line.Scale n l)

-- A term: in its number or its line.
pub data TermNames (i : ℕ) : TermPlan → Type 0 where
  fixed_term : (n : NumPlan) → NumNames i n → TermNames i (line.OfNum n)
  line_term : (l : LinePlan) → LineNames i l → TermNames i (line.OfLine l)

-- A condition: in what it compares, in an argument of a test, or in a condition inside it.
pub data CondNames (i : ℕ) : CondPlan → Type 0 where
  left_number : (compare : Compare) (t : TermPlan) (n : NumPlan)
      → TermNames i t
      → CondNames i (cond.Compared compare t n)
  right_number : (compare : Compare) (t : TermPlan) (n : NumPlan)
      → NumNames i n
      → CondNames i (cond.Compared compare t n)
  left_word : (v w : WordOf) → WordNames i v → CondNames i (cond.Words v w)
  right_word : (v w : WordOf) → WordNames i w → CondNames i (cond.Words v w)
  label_of_cell : (c : ℕ) (l : LabelOf) → LabelNames i l → CondNames i (cond.CellIs c l)
  left_label : (l m : LabelOf) → LabelNames i l → CondNames i (cond.LabelIs l m)
  right_label : (l m : LabelOf) → LabelNames i m → CondNames i (cond.LabelIs l m)
  argument : (test c : ℕ) (args : List FixedPlan)
      → SomeNames i args
      → CondNames i (cond.Test test c args)
  denied : (c : CondPlan) → CondNames i c → CondNames i (cond.Not c)
  left_of_and : (c d : CondPlan) → CondNames i c → CondNames i (cond.And c d)
  right_of_and : (c d : CondPlan) → CondNames i d → CondNames i (cond.And c d)
  left_of_or : (c d : CondPlan) → CondNames i c → CondNames i (cond.Or c d)
  right_of_or : (c d : CondPlan) → CondNames i d → CondNames i (cond.Or c d)

-- A statement: in what it gives a local or a cell, in the condition of an `if`, or in the
-- statements of either side. What is copied from a cell names no field.
mutual
  pub data DoNames (i : ℕ) : DoPlan → Type 0 where
    local_value : (n : ℕ) (e : FixedPlan) → FixedNames i e → DoNames i (one.Let n e)
    assigned_number : (c : ℕ) (t : TermPlan) → TermNames i t → DoNames i (one.SetInt c t)
    assigned_label : (c : ℕ) (l : LabelOf) → LabelNames i l → DoNames i (one.SetEnum c l)
    kept : (c : ℕ) (values : List FixedPlan)
        → SomeNames i values
        → DoNames i (one.Keep c values)
    pushed_number : (c : ℕ) (t : TermPlan) → TermNames i t → DoNames i (one.PushNum c t)
    pushed_word : (c : ℕ) (w : WordOf) → WordNames i w → DoNames i (one.PushWord c w)
    condition : (c : CondPlan) (a b : DosPlan) → CondNames i c → DoNames i (one.If c a b)
    where_true : (c : CondPlan) (a b : DosPlan) → DosNames i a → DoNames i (one.If c a b)
    where_false : (c : CondPlan) (a b : DosPlan) → DosNames i b → DoNames i (one.If c a b)

  pub data DosNames (i : ℕ) : DosPlan → Type 0 where
    first : (d : DoPlan) (rest : DosPlan) → DoNames i d → DosNames i (one.Then d rest)
    later : (d : DoPlan) (rest : DosPlan) → DosNames i rest → DosNames i (one.Then d rest)

-- The update of the script names the field with this number.
abbrev pub NamesField : ScriptPlan → ℕ → Type 0
NamesField p i = DosNames i p.update
