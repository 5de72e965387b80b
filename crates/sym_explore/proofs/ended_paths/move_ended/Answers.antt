use Rattle.std.proofs.Common.{◌≡◌, ◌<◌, true, false, length, sym, subst, ◌∙◌, arith}
use Rattle.std.proofs.lemmas.List.{get_or_default}
use Rattle.sym_path.specs.Changing.{GoesOn}
use Rattle.sym_path.specs.declared.path.Path.{Path}
use Rattle.sym_explore.proofs.EndedLists.{move_more, none_moved, within_removed}
use Rattle.sym_explore.proofs.ended_paths.move_ended.Goals as goal

pub paths-init : goal.paths-init
paths-init c = record {
  within = omega arith;
  moved = none_moved c.args.paths.now.items c.args.ended.now.items;
  going = λ k d a b. absurd (omega arith);
}

pub paths-preserved : goal.paths-preserved
paths-preserved c =
    let below : c.paths.index < length c.paths.paths.items = omega arith in
    let path : Path = c.swap_remove-path.result in
    let same : c.index.result.now ≡ path = c.index.ensures ∙ get_or_default c.paths.paths.items c.paths.index c.index.result.now path below ∙ sym c.swap_remove-path.ensures.value in
    let over : ¬ (GoesOn path.end) = λ g. let t : c.goes_on.result ≡ true = c.goes_on.ensures.1 (subst (λ (q : Path). GoesOn q.end) (sym same) g) in let f : c.goes_on.result ≡ false = c.if-goes_on.false in cc in
    record {
      within = omega (arith, c.swap_remove-path.ensures.len);
      moved = move_more c.args.paths.now.items c.paths.paths.items c.args.ended.now.items c.paths.ended.items c.paths.index path c.swap_remove-path.new.self.items c.push.new.self.items below c.swap_remove-path.ensures.value over c.swap_remove-path.ensures.items c.in_ok-push.ensures.items c.paths.invariant.moved;
      going = within_removed c.paths.paths.items c.swap_remove-path.new.self.items c.paths.index below (λ k d apart less. c.swap_remove-path.ensures.by_index.1 k d apart (omega (arith, c.paths.paths.ok.0))) c.paths.invariant.going;
    }
