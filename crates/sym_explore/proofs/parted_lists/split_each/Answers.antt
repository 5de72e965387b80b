use Rattle.std.proofs.Common.{◌≡◌, ◌<◌, ◌+◌, ℕ, List, length, set, refl, sym, ap, subst, arith}
use Rattle.std.proofs.lemmas.List.{length-set}
use Rattle.std.proofs.lemmas.List.Elements.{All-set}
use Rattle.std.proofs.lemmas.List.Sorted.{All-permutation, IsPermutation-swap}
use Rattle.sym_check.specs.Plan.ScriptPlans.{ScriptPlan, script_plan}
use Rattle.sym_path.specs.declared.path.Path.{Path}
use Rattle.sym_explore.specs.Branches.{AreGoing, IsGoing}
use Rattle.sym_explore.specs.Evaluating.{cell_branches, tried_on_cell}
use Rattle.sym_explore.proofs.PartedInPlace.{AreSplitTo, false_more, none_split, split_exact, split_few, split_within, true_more}
use Rattle.sym_explore.proofs.parted_lists.split_each.Goals as goal
use Rattle.sym_explore.proofs.parted_lists.split_each.Goals.{then-branch, else-branch}

pub paths-init : goal.paths-init
paths-init c =
    let p = script_plan c.args.plan.now in
    let q = c.args.condition.now in
    record {
      split = none_split p (tried_on_cell p c.args.args.now q) (cell_branches q) c.args.paths.now.items c.args.pieces.now.items;
      going = c.requires.going;
      pieces = c.requires.pieces;
    }

pub split-requires-clause-split : goal.split-requires-clause-split
split-requires-clause-split c =
    let p = script_plan c.args.plan.now in
    let going = subst (IsGoing p) (sym c.index_mut.ensures.value) (c.paths.invariant.going c.paths.index c.index_mut.result.now (omega arith)) in
    record { fits = going.fits; goes_on = going.goes_on; others = c.paths.invariant.pieces }

pub paths-preserved : goal.paths-preserved
paths-preserved c =
    let p : ScriptPlan = script_plan c.args.plan.now in
    let q = c.args.condition.now in
    let old : List Path = c.args.paths.now.items in
    let index : ℕ = c.paths.index in
    let paths : List Path = c.paths.paths.items in
    let new : Path = c.split.new.path in
    let written : List Path = set paths index new in
    let below : index < length paths = omega arith in
    let going : AreGoing p written = All-set (IsGoing p) paths index new (record { fits = c.in_ok-split.ensures.next.fits; goes_on = c.in_ok-split.ensures.next.goes_on }) c.paths.invariant.going in
    elim c.if-branch.branch [
      | then-branch w ↦
          let final : List Path = w.swap.new.self.items in
          let more : AreSplitTo p (tried_on_cell p c.args.args.now q) (cell_branches q) old c.args.pieces.now.items (index + 1) (c.paths.count + 1) final c.split.new.out.items =
          true_more p (tried_on_cell p c.args.args.now q) (cell_branches q) old c.args.pieces.now.items index c.paths.count paths c.paths.pieces.items c.paths.invariant.split c.index_mut.result.now new written c.split.new.out.items c.in_ok-split.field-0 below c.index_mut.ensures.value refl c.in_ok-split.ensures.exact c.in_ok-split.ensures.few w.if-branch.true final (w.swap.ensures.by_index.3 new) in
          let long = length-set paths index new in
          let counted : c.paths.count < length written = omega (arith, long, below, c.paths.invariant.split.parts.both, c.paths.invariant.split.parts.counted) in
          let indexed : index < length written = omega (arith, long, below) in
          let is : c.if-branch.paths.items ≡ final = ap (λ v. v.items) w.paths-is in
          record {
            split =
                subst (λ (n : ℕ). AreSplitTo p (tried_on_cell p c.args.args.now q) (cell_branches q) old c.args.pieces.now.items (index + 1) n c.if-branch.paths.items c.split.new.out.items) (sym w.count-is)
                (subst (λ (ps : List Path). AreSplitTo p (tried_on_cell p c.args.args.now q) (cell_branches q) old c.args.pieces.now.items (index + 1) (c.paths.count + 1) ps c.split.new.out.items) (sym is) more);
            going = subst (AreGoing p) (sym is) (All-permutation (IsGoing p) written final (IsPermutation-swap written final c.paths.count index counted indexed w.swap.ensures.items) going);
            pieces = c.in_ok-split.ensures.next.others;
          }
      | else-branch w ↦
          let more : AreSplitTo p (tried_on_cell p c.args.args.now q) (cell_branches q) old c.args.pieces.now.items (index + 1) c.paths.count written c.split.new.out.items =
          false_more p (tried_on_cell p c.args.args.now q) (cell_branches q) old c.args.pieces.now.items index c.paths.count paths c.paths.pieces.items c.paths.invariant.split c.index_mut.result.now new written c.split.new.out.items c.in_ok-split.field-0 below c.index_mut.ensures.value refl c.in_ok-split.ensures.exact c.in_ok-split.ensures.few w.if-branch.false in
          let is : c.if-branch.paths.items ≡ written = ap (λ v. v.items) w.paths-is in
          record {
            split =
                subst (λ (n : ℕ). AreSplitTo p (tried_on_cell p c.args.args.now q) (cell_branches q) old c.args.pieces.now.items (index + 1) n c.if-branch.paths.items c.split.new.out.items) (sym w.count-is)
                (subst (λ (ps : List Path). AreSplitTo p (tried_on_cell p c.args.args.now q) (cell_branches q) old c.args.pieces.now.items (index + 1) c.paths.count ps c.split.new.out.items) (sym is) more);
            going = subst (AreGoing p) (sym is) going;
            pieces = c.in_ok-split.ensures.next.others;
          }
    ]

pub returns-clause-within : goal.returns-clause-within
returns-clause-within c =
    let p = script_plan c.args.plan.now in
    let q = c.args.condition.now in
    split_within p (tried_on_cell p c.args.args.now q) (cell_branches q) c.args.paths.now.items c.args.pieces.now.items c.paths.index c.paths.count c.paths.paths.items c.paths.pieces.items c.paths.invariant.split (omega arith)

pub returns-clause-exact : goal.returns-clause-exact
returns-clause-exact c =
    let p = script_plan c.args.plan.now in
    let q = c.args.condition.now in
    split_exact p (tried_on_cell p c.args.args.now q) (cell_branches q) c.args.paths.now.items c.args.pieces.now.items c.paths.index c.paths.count c.paths.paths.items c.paths.pieces.items c.paths.invariant.split (omega arith)

pub returns-clause-few : goal.returns-clause-few
returns-clause-few c =
    let p = script_plan c.args.plan.now in
    let q = c.args.condition.now in
    split_few p (tried_on_cell p c.args.args.now q) (cell_branches q) c.args.paths.now.items c.args.pieces.now.items c.paths.index c.paths.count c.paths.paths.items c.paths.pieces.items c.paths.invariant.split (omega arith)
