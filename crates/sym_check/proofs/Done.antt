-- Lists of which the first elements are done: what they came to stands before what the others do.
use Rattle.std.proofs.Common.{◌≡◌, ℕ, List, ◌++◌}
use Rattle.std.specs.Prelude.{Result, Ok, Err}
use Rattle.sym_base.specs.declared.tree.declaration.Part.{Part}
use Rattle.sym_base.specs.declared.values.value.Value.{Value}
use Rattle.sym_check.specs.declared.plan.script.KindPlan.{KindPlan}
use Rattle.sym_check.specs.declared.elaborate.error.CheckErr.{CheckErr}
use Rattle.sym_check.specs.Rules.Scopes.{Scope}
use Rattle.sym_check.specs.Rules.InOrder.{Planned, each}
use Rattle.sym_check.specs.Elaborate.Declarations.{PlannedParts, parts_of}

abbrev pub behind : {B : Type 0} → List B → Result (Planned (List B)) CheckErr → Result (Planned (List B)) CheckErr
behind bs (Ok r) = Ok (record { plan = bs ++ r.plan; scope = r.scope })
behind bs (Err e) = Err e

-- The declarations before `rest` have these plans, and lead from the first scope to this one.
pub record AreDone {A B : Type 0} (one : Scope → ℕ → A → Result (Planned B) CheckErr) (first : Scope) (whole : List A) (bs : List B) (s : Scope) (n : ℕ) (rest : List A) : Type 0 where
  pub same : each one first 0 whole ≡ behind bs (each one s n rest)

abbrev pub parts_behind : List KindPlan → List Value → Result PlannedParts CheckErr → Result PlannedParts CheckErr
parts_behind ks vs (Ok p) = Ok (record { kinds = ks ++ p.kinds; firsts = vs ++ p.firsts })
parts_behind ks vs (Err e) = Err e

-- The parts before `rest` have these kinds and first values.
pub record ArePartsDone (s : Scope) (whole : List Part) (ks : List KindPlan) (vs : List Value) (rest : List Part) : Type 0 where
  pub same : parts_of s whole ≡ parts_behind ks vs (parts_of s rest)

abbrev pub before_all : {A : Type 0} → List A → Result (List A) CheckErr → Result (List A) CheckErr
before_all xs (Ok ys) = Ok (xs ++ ys)
before_all xs (Err e) = Err e
