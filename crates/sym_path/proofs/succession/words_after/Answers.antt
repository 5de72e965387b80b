use Rattle.std.proofs.Common.{◌≡◌, ℕ, List, Some, length, drop, sym, subst}
use Rattle.std.specs.Prelude.{slice_get}
use Rattle.std.specs.List.{AllZip}
use Rattle.sym_path.specs.declared.form.Form.TheVariants as form
use Rattle.sym_path.proofs.FollowingSteps.{words_moved, list_replaced}
use Rattle.sym_path.proofs.succession.words_after.Goals as goal

pub returns-clause-form : goal.returns-clause-form
returns-clause-form c =
    let first = c.in-Some-Words.first in
    let new = c.in_ok-go_through-in-Some-Words.field-0 in
    let at : Some (form.Words first) ≡ slice_get c.args.forms.now c.args.index = cc in
    let each : AllZip (λ (old t : List ℕ). t ≡ old) c.args.added.now (drop (length first) new) = subst (λ (ts : List (List ℕ)). AllZip (λ (old t : List ℕ). t ≡ old) ts (drop (length first) new)) c.in_ok-copy-in-Some-Words.ensures c.in_ok-go_through-in-Some-Words.ensures.elements in
    words_moved first c.args.added.now new (slice_get c.args.forms.now c.args.index) at (c.in_ok-go_through-in-Some-Words.ensures.first, each)

pub returns-clause-others : goal.returns-clause-others
returns-clause-others c =
    let at : Some (form.Words c.in-Some-Words.first) ≡ slice_get c.args.forms.now c.args.index = cc in
    list_replaced c.args.index c.args.forms.now c.replace.new.self c.no_form.result (form.Words c.in-Some-Words.first) c.replace.ensures.new at tt
