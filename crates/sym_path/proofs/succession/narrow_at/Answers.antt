use Rattle.std.proofs.Common.{◌≡◌, ◌∙◌, List, Some, sym, ap, subst}
use Rattle.std.specs.Prelude.{slice_get, slice_set}
use Rattle.sym_path.specs.declared.part.Part.{Part}
use Rattle.sym_path.specs.declared.part.Part.TheVariants as part
use Rattle.sym_path.specs.declared.form.Form.{Form}
use Rattle.sym_path.specs.Left.{PartLeft}
use Rattle.sym_path.proofs.FollowingNarrowed.{set_twice, shape_put}
use Rattle.sym_path.proofs.succession.narrow_at.Goals as goal

pub returns : goal.returns
returns c =
    let forms : List Form = c.args.forms in
    let needs : List Part = c.args.needs.now in
    let old : Part = c.in-Some.part in
    let new : Part = c.in_ok-left-in-Some.left in
    let at : Some old ≡ slice_get c.args.when.now c.args.index = cc in
    let seen : PartLeft c.as_slice.result.now needs c.args.index old new = c.in_ok-left-in-Some.ensures in
    let some : PartLeft forms needs c.args.index old new = subst (λ (fs : List Form). PartLeft fs needs c.args.index old new) c.as_slice.ensures seen in
    record {
      part = old;
      left = new;
      was = sym at;
      is = c.set.ensures ∙ ap (λ (ps : List Part). slice_set ps c.args.index new) c.replace.ensures.new ∙ set_twice c.args.when.now c.args.index part.Free new;
      some = some;
      put = shape_put forms needs c.args.index old c.shape-old.result new forms c.put_left-after.result c.shape-old.ensures some c.put_left-after.ensures;
    }
