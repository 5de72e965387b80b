-- Where the function goes on in a call.
use Rattle.std.proofs.Common.{◌≡◌, refl, sym, ◌∙◌, ℕ, ◌-◌, List, ◌++◌, length, take, drop, length-append, Result, Ok, arith}
use Rattle.std.specs.Prelude.{◌≢◌}
use Rattle.std.proofs.Math.Seq.{take-append_seam, drop-append_seam}
use Rattle.sym_base.specs.declared.tree.name.Name.{Name}
use Rattle.sym_base.specs.Trees.{ExprTree, Call, ExprsTree, More}
use Rattle.sym_check.specs.declared.plan.script.KindPlan.{KindPlan}
use Rattle.sym_check.specs.Meaning.Arithmetic.{and_then}
use Rattle.sym_check.specs.Plan.FixedPlans.{FixedPlan}
use Rattle.sym_check.specs.Plan.CondPlans as cond
use Rattle.sym_check.specs.declared.elaborate.error.CheckErr.{CheckErr}
use Rattle.sym_check.specs.Rules.Scopes.{Scope, Stands}
use Rattle.sym_check.specs.declared.elaborate.scope.Meaning.TheVariants as meaning
use Rattle.sym_check.specs.Rules.Typing.{Typed, HoldCell, Truth}
use Rattle.sym_check.specs.Breaks.Expressions.{place, IsFirst}
use Rattle.sym_check.specs.Elaborate.Expressions.{kind_at, Located, TestNamed, Arguments, values_of, called_on, infer, operands}
use Rattle.sym_check.proofs.SameKinds.{same_kinds, other_kinds, same_number, other_number}
use Rattle.sym_check.proofs.OperandOutcomes.{first_passes}

-- The outcome with fine arguments is that of the call on them.
pub call_outcome : (s : Scope) (x : Name) (e : ExprTree) (es : ExprsTree) (t : ℕ) (params : List KindPlan) (u : Typed) (others : List Located)
    → Stands s x (meaning.Test t params)
    → infer s e ≡ Ok u
    → IsFirst u
    → operands s es ≡ Ok others
    → infer s (Call x (More e es)) ≡ called_on x.at (record { test = t; params = params }) (record { first = record { at = place e; typed = u }; others = others }) u
call_outcome s x e es t params u others st p h q = rw (st.found, p, first_passes (place e) u h, q) refl

-- The rules of a call on a hold cell, in their order: the number of arguments,
pub wrong_number_called : (at : ℕ) (test : TestNamed) (args : Arguments) (c : ℕ) (ks : List KindPlan)
    → length args.others ≢ length test.params - length ks
    → called_on at test args (HoldCell c ks) ≡ kind_at at
wrong_number_called at test args c ks h = rw (other_number (length args.others) (length test.params - length ks) h) refl

-- the kinds of the cell's parts,
pub wrong_cell_called : (at : ℕ) (test : TestNamed) (args : Arguments) (c : ℕ) (ks : List KindPlan)
    → length args.others ≡ length test.params - length ks
    → ks ≢ take (length ks) test.params
    → called_on at test args (HoldCell c ks) ≡ kind_at args.first.at
wrong_cell_called at test args c ks n h =
    rw (same_number (length args.others) (length test.params - length ks) n, other_kinds ks (take (length ks) test.params) h) refl

-- and the kinds of the other arguments.
pub others_left : (params ks js : List KindPlan) → params ≡ ks ++ js → length params - length ks ≡ length js
others_left params ks js e = rw e (omega (arith, length-append ks js))

pub right_cell_called : (at : ℕ) (test : TestNamed) (args : Arguments) (c : ℕ) (ks js : List KindPlan) (r : Result (List FixedPlan) CheckErr)
    → test.params ≡ ks ++ js
    → length args.others ≡ length js
    → values_of js args.others ≡ r
    → called_on at test args (HoldCell c ks) ≡ and_then (λ (vs : List FixedPlan). Ok (Truth (cond.Test test.test c vs))) r
right_cell_called at test args c ks js r e n v =
    let parts : ks ≡ take (length ks) test.params = rw e (sym (take-append_seam ks js)) in
    let rest : drop (length ks) test.params ≡ js = rw e (drop-append_seam ks js) in
    rw (same_number (length args.others) (length test.params - length ks) (n ∙ sym (others_left test.params ks js e)), same_kinds ks (take (length ks) test.params) parts, rest, v) refl
