-- The results of jobs that are worked at once, as values.
use Rattle.std.proofs.Common.{◌≡◌, ◌∙◌, ap, sym, subst, List, length, get_or, map, Result, Ok, IfOk}
use Rattle.std.proofs.lemmas.List.{length-map}
use Rattle.std.proofs.Math.ListN.{get_or-map}
use Rattle.std.specs.Fork.{GivesJobs}
use Rattle.std.specs.List.{AllZip}
use Rattle.std.specs.Prelude.{slice_index_or}
use denote.Param.Members.{Shared}
use Rattle.sym_scan.proofs.Lists.{zip_each}

-- Where all results are values, each is one that its job gives.
pub jobs_give : {F A B E : Type 0} (g : Shared F (A × Unit {0}) (Result B E)) (f : F) (R : A → B → Type 0) (jobs : List A) (results : List (Result B E)) (values : List B)
    → ((job : A) (r : Result B E) → g.post f (job, tt) r → IfOk r (R job)) → length results ≡ length jobs → map Ok values ≡ results → GivesJobs g f jobs results → AllZip R jobs values
jobs_give {A = A} {B = B} {E = E} g f R jobs results values says long made gives =
    let many : length jobs ≡ length values = sym long ∙ ap length (sym made) ∙ length-map values Ok in
    zip_each R jobs values many
    (λ i a b within.
    let given = (gives i (Ok b) within).1 in
    let is : slice_index_or results i (Ok b) ≡ Ok (get_or values i b) = ap (λ (rs : List (Result B E)). slice_index_or rs i (Ok b)) (sym made) ∙ get_or-map Ok values i b in
    let holds : IfOk {E = E} (Ok (get_or values i b)) (R given.job) = subst (λ (r : Result B E). IfOk {E = E} r (R given.job)) is (says given.job (slice_index_or results i (Ok b)) given.call.met) in
    subst (λ (job : A). R job (get_or values i b)) (sym (given.job_is a)) holds)
