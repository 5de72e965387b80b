-- What running a part of an update comes to, against what the part means.
use Rattle.std.specs.Prelude.{◌≡◌, ℕ, List, [], ◌∷◌, ◌++◌, Option, Some, None, Result, Ok, Err}
use Rattle.sym_base.specs.declared.values.state.State.{State}
use Rattle.sym_base.specs.declared.values.value.Value.{Value}
use Rattle.sym_base.specs.declared.values.state.FaultKind.{FaultKind}
use Rattle.sym_base.specs.declared.values.state.Cell.{Cell}
use Rattle.sym_base.specs.declared.values.state.Cell.TheVariants as cell
use Rattle.sym_base.specs.States.{with_cell}
use Rattle.sym_check.specs.Meaning.Arithmetic.{and_then}
use Rattle.sym_check.specs.Plan.FixedPlans.{FixedPlan}
use Rattle.sym_check.specs.Meaning.FixedValues.{Environment, fixed_value, fixed_values}
use Rattle.sym_check.specs.Meaning.Updates.{or_fault}
use Rattle.sym_check.specs.Plan.DoPlans.{DoPlan, Let, SetInt, SetEnum, CopyEnum, Keep, KeepFrom, PushNum, PushWord, If}
use Rattle.sym_plain.specs.declared.update.stop.Stop.{Stop}
use Rattle.sym_plain.specs.declared.update.stop.Stop.TheVariants as stop

-- The value that the part means, or its fault; where memory is out, anything.
abbrev pub Gives : {A : Type 0} → Result A Stop → Result A FaultKind → Type 0
Gives (Ok x) meaning = meaning ≡ Ok x
Gives (Err (stop.Fault kind)) meaning = meaning ≡ Err kind
Gives (Err stop.NoMemory) meaning = Unit {0}

-- What was written in the course of the part is the value that it means, or its fault is meant;
-- where memory is out, anything.
abbrev pub Makes : {A B : Type 0} → Result A Stop → B → Result B FaultKind → Type 0
Makes (Ok x) made meaning = meaning ≡ Ok made
Makes (Err (stop.Fault kind)) made meaning = meaning ≡ Err kind
Makes (Err stop.NoMemory) made meaning = Unit {0}

-- A statement that changes cells alone.
abbrev pub IsAssignment : DoPlan → Type 0
IsAssignment (Let n e) = ⊥
IsAssignment (SetInt c t) = Unit {0}
IsAssignment (SetEnum c l) = Unit {0}
IsAssignment (CopyEnum c d) = Unit {0}
IsAssignment (Keep c es) = Unit {0}
IsAssignment (KeepFrom c d) = Unit {0}
IsAssignment (PushNum c t) = Unit {0}
IsAssignment (PushWord c w) = Unit {0}
IsAssignment (If c a b) = ⊥

-- The fault that statements mean, or the state after them.
abbrev pub ComesTo : Option FaultKind → State → Result State FaultKind → Type 0
ComesTo None s meaning = meaning ≡ Ok s
ComesTo (Some kind) s meaning = meaning ≡ Err kind

-- What `keep` with these values makes of a cell.
abbrev pub kept_cell : Environment → List FixedPlan → Result Cell FaultKind
kept_cell k es = and_then (λ parts. Ok (cell.Hold parts)) (or_fault (fixed_values k es))

-- What `keep` with these values does to a state.
abbrev pub kept : Environment → ℕ → List FixedPlan → State → Result State FaultKind
kept k c es s =
    and_then (λ parts. Ok (with_cell s c (cell.Hold parts))) (or_fault (fixed_values k es))

-- These values and that of one expression more.
abbrev pub with_value : Environment → List Value → FixedPlan → Result (List Value) FaultKind
with_value k vs e = and_then (λ v. Ok (vs ++ v ∷ [])) (or_fault (fixed_value k e))
