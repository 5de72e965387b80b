use Rattle.std.proofs.Common.{◌≡◌, ◌∙◌, List, Some, sym, ap}
use Rattle.std.specs.Prelude.{slice_get, slice_set}
use Rattle.sym_path.specs.declared.part.Part.{Part}
use Rattle.sym_path.specs.declared.part.Part.TheVariants as part
use Rattle.sym_path.proofs.FollowingNarrowed.{set_twice}
use Rattle.sym_path.proofs.succession.leave_at.Goals as goal

pub returns : goal.returns
returns c =
    let old : Part = c.in-Some.part in
    let new : Part = c.in_ok-left-in-Some.left in
    let at : Some old ≡ slice_get c.args.when.now c.args.index = cc in
    record {
      part = old;
      left = new;
      was = sym at;
      is = c.set.ensures ∙ ap (λ (ps : List Part). slice_set ps c.args.index new) c.replace.ensures.new ∙ set_twice c.args.when.now c.args.index part.Free new;
      some = c.in_ok-left-in-Some.ensures;
    }
