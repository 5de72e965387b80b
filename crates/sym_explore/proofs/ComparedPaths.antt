-- A path on which a number over the state before it is compared.
use Rattle.std.proofs.Common.{◌≡◌, ◌++◌, ℕ, ℤ, Bool, List, Option, Some, sym, ap, ◌∙◌, to_z, of_z, w64, rules}
use Rattle.std.proofs.lemmas.Int.{to_z-of_z}
use Rattle.std.specs.Prelude.{Result, Ok, Err, IfOk, OnOk}
use Rattle.sym_base.specs.Comparing.{compares}
use Rattle.sym_base.specs.Limits.{IsNumber}
use Rattle.sym_base.specs.declared.values.state.Outcome.{Outcome}
use Rattle.sym_base.specs.declared.values.state.Outcome.TheVariants.{Going}
use Rattle.sym_check.specs.Meaning.Conditions.{test_truth}
use Rattle.sym_check.specs.Plan.ScriptPlans.{ScriptPlan}
use Rattle.sym_int.specs.Cuts.{IsCut}
use Rattle.sym_int.specs.Lines.{wide_cell, wide_on, wide_value}
use Rattle.sym_int.specs.declared.pieces.Pieces.{Pieces}
use Rattle.sym_int.specs.declared.span.Span.{Span}
use Rattle.sym_int.specs.declared.wide.Wide.{Wide}
use Rattle.sym_path.specs.Giving.{given}
use Rattle.sym_path.specs.declared.path.Path.{Path}
use Rattle.sym_explore.proofs.PathNumbers.{map_going, wide_at}
use Rattle.sym_explore.specs.Branches.{answered, judged, Splits, with_truth}
use Rattle.sym_explore.specs.Comparing.{CutsPath, PiecesTell, WasCompared, number_compares}
use Rattle.sym_explore.specs.Terms.{IsReadyOver}
use Rattle.sym_explore.specs.declared.terms.Ready.{Ready}
use Rattle.sym_explore.specs.declared.branch.Branch.{Branch}
use Rattle.sym_explore.specs.declared.comparisons.Bound.{Bound}
use mir.Val.{SFits}

pub if_ok_both : {A E : Type 0} (r : Result A E) (P Q : A → Type 0) → ((x : A) → P x → Q x) → IfOk r P → IfOk r Q
if_ok_both (Ok x) P Q step h = step x h
if_ok_both (Err e) P Q step h = tt

pub on_ok_both : {A E : Type 0} (r : Result A E) (P Q R : Type 0) → (P → Q → R) → OnOk r P → OnOk r Q → OnOk r R
on_ok_both (Ok x) P Q R step h g = step h g
on_ok_both (Err e) P Q R step h g = tt

pub on_ok : {A E : Type 0} (r : Result A E) (P Q : Type 0) → (P → Q) → OnOk r P → OnOk r Q
on_ok (Ok x) P Q step h = step h
on_ok (Err e) P Q step h = tt

pub on_ok_always : {A E : Type 0} (r : Result A E) (P : Type 0) → P → OnOk r P
on_ok_always (Ok x) P h = h
on_ok_always (Err e) P h = tt

-- The pieces of a comparison tell its truth.
pub was_compared : (p : ScriptPlan) (wide : Wide) (bound : Bound) (c : ℕ) (span : Span) (pieces : Pieces) (old path : Path) (before after : List Branch) → wide_cell wide ≡ Some c → IsCut span wide bound.compare bound.number pieces → (last : Bool) → CutsPath p c pieces old before path after last → WasCompared p wide bound old before path after last
was_compared p wide bound c span pieces old path before after named cut last cuts s =
    let truth : ℤ → Bool = λ x. compares bound.compare (wide_on wide x) bound.number in
    let tells : PiecesTell truth pieces = record { first = cut.first; second = cut.second; third = cut.third } in
    cuts truth tells s
    ∙ ap (λ (x : ℤ). judged (test_truth p.tests) before s ++ with_truth (Some (compares bound.compare x bound.number)) (given (test_truth p.tests) old s)) (sym (wide_at wide c s named))

-- The number over the state before the path is that of the term after it.
pub compared_splits : (p : ScriptPlan) (r : Ready) (bound : Bound) (wide : Wide) (old path : Path) (before after : List Branch) (last : Bool) → IsReadyOver p r old wide → WasCompared p wide bound old before path after last → (n : ℕ) → Splits p (answered n (number_compares r bound)) old before path after last
compared_splits p r bound wide old path before after last over compared n s =
    compared s
    ∙ ap (λ (js : List (Outcome × Option Bool)). judged (test_truth p.tests) before s ++ js)
    (map_going (test_truth p.tests) old s
    (λ (o : Outcome). (o, Some (compares bound.compare (wide_value wide s) bound.number))) (answered n (number_compares r bound)) over.goes_on
    (λ later gives. ap (λ (x : ℤ). (Going later, Some (compares bound.compare x bound.number))) (sym (over.number s later gives))))

-- A number as it is stored.
pub stored_number : (x : ℤ) → IsNumber x → to_z w64 (of_z w64 x) ≡ x
stored_number x h = let fits : SFits w64 x = search rules in to_z-of_z w64 x fits

pub same_stored : (x y : ℤ) → IsNumber x → IsNumber y → of_z w64 x ≡ of_z w64 y → x ≡ y
same_stored x y g h e = sym (stored_number x g) ∙ ap (to_z w64) e ∙ stored_number y h
