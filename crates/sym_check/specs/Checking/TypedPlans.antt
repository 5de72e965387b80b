-- What a contract sees of the values that elaborating goes over: plans without their boxes, and the
-- outcome of a call as that of its definition.
use Rattle.std.specs.Prelude.{◌≡◌, ◌≢◌, map, Result, Ok, Err}
use Rattle.sym_check.specs.declared.elaborate.error.CheckErr.{CheckErr}
use Rattle.sym_check.specs.declared.elaborate.error.CheckErr.TheVariants as broken
use Rattle.sym_check.specs.declared.elaborate.typed.Typed.{Typed as TypedTree}
use Rattle.sym_check.specs.declared.elaborate.typed.Typed.TheVariants as typed
use Rattle.sym_check.specs.declared.elaborate.typed.Located.{Located as LocatedTree}
use Rattle.sym_check.specs.declared.elaborate.typed.Arguments.{Arguments as ArgumentTrees}
use Rattle.sym_check.specs.Plan.LinePlans.{term_plan}
use Rattle.sym_check.specs.Plan.CondPlans.{cond_plan}
use Rattle.sym_check.specs.Rules.Typing.{Typed, Number, Word, Label, EnumCell, HoldCell, Truth}
use Rattle.sym_check.specs.Elaborate.Expressions.{Located, Arguments}

abbrev pub typed_plan : TypedTree → Typed
typed_plan (typed.Number t) = Number (term_plan t)
typed_plan (typed.Word w) = Word w
typed_plan (typed.Label enum l) = Label enum l
typed_plan (typed.EnumCell c enum) = EnumCell c enum
typed_plan (typed.HoldCell c ks) = HoldCell c ks
typed_plan (typed.Truth c) = Truth (cond_plan c)

abbrev pub located_plan : LocatedTree → Located
located_plan a = record { at = a.at; typed = typed_plan a.typed }

abbrev pub arguments_plan : ArgumentTrees → Arguments
arguments_plan a = record { first = located_plan a.first; others = map located_plan a.others.items }

-- The outcome is that of the definition, or `NoMemory` is returned.
abbrev pub Answers : {A B : Type 0} → (A → B) → Result B CheckErr → Result A CheckErr → Type 0
Answers view outcome (Ok a) = outcome ≡ Ok (view a)
Answers view outcome (Err e) = e ≢ broken.NoMemory → outcome ≡ Err e

abbrev pub itself : {A : Type 0} → A → A
itself a = a
