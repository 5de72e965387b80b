use Rattle.std.proofs.Common.{◌≡◌, ◌<◌, ◌+◌, ℕ, List, ℤ, pos, [], ◌∷◌, ◌++◌, length, refl, sym, ap, subst, take, Some, get_or}
use Rattle.std.proofs.lemmas.Option.{slice_get-get_or}
use Rattle.std.specs.Prelude.{slice_get}
use Rattle.sym_base.specs.Limits.{IsNumber}
use Rattle.sym_int.specs.declared.form.IntForm.{IntForm}
use Rattle.sym_path.proofs.Lists.{take_get}
use Rattle.sym_known.specs.Closing.{IsLonger}
use Rattle.sym_known.proofs.Closed.{longer_push, stored_number}
use Rattle.sym_known.proofs.plain_paths.add_numbers.Goals as goal

pub numbers-preserved : goal.numbers-preserved
numbers-preserved c =
    let xs : List ℤ = c.args.numbers.now in
    let i : ℕ = c.numbers.index in
    let x : ℤ = get_or xs i (pos 0) in
    let below : i < length xs = c.numbers-test.true in
    let at : slice_get xs i ≡ Some x = slice_get-get_or xs i (pos 0) below in
    let small : IsNumber x = c.requires i (pos 0) below in
    let all : List IntForm = c.numbers.longer ++ c.constant.result ∷ [] in
    let more = longer_push c.args.added (take i xs) _ c.numbers.longer c.constant.result c.numbers.invariant c.constant.ensures in
    let shown : IsLonger c.args.added (take i xs ++ x ∷ []) all = subst (λ (y : ℤ). IsLonger c.args.added (take i xs ++ y ∷ []) all) (stored_number x small) more in
    let next : IsLonger c.args.added (take (i + 1) xs) all = subst (λ (ys : List ℤ). IsLonger c.args.added ys all) (sym (take_get xs i x at)) shown in
    subst (λ (fs : List IntForm). IsLonger c.args.added (take (i + 1) xs) fs) (sym c.in_ok-longer.ensures) next
