use Rattle.std.proofs.Common.{rules, ◌≡◌, ◌<◌, ◌+◌, ◌-◌, ◌∙◌, List, Some, length, drop, take, refl, sym, subst, arith}
use Rattle.std.proofs.lemmas.List.{length-drop, take_all}
use Rattle.std.proofs.lemmas.Option.{slice_get_read, slice_get_within}
use Rattle.std.specs.List.{insert}
use Rattle.std.specs.Prelude.{slice_get}
use Rattle.sym_check.specs.Checking.CheckedScripts.{checked_plan}
use Rattle.sym_check.specs.Meaning.Conditions.{test_truth}
use Rattle.sym_check.specs.Plan.ScriptPlans.{ScriptPlan}
use Rattle.sym_path.specs.Composing.{GrowsByAll}
use Rattle.sym_path.specs.Following.{IsFollowed}
use Rattle.sym_path.specs.Possible.{IsPossiblePair}
use Rattle.sym_path.specs.declared.path.Path.{Path}
use Rattle.sym_path.proofs.Composed.{grown_around}
use Rattle.sym_path.proofs.composition.add_around.Goals as goal

some_is : {v w : Path} → Some v ≡ Some w → v ≡ w
some_is e = cc

pub returns : goal.returns
returns c =
    let p : ScriptPlan = checked_plan c.args.checked.now in
    let path : Path = c.args.path in
    let others : List Path = c.args.others.now in
    let old : List Path = c.args.out.now.items in
    let mid : List Path = c.add_each.new.out.items in
    let new : List Path = c.add_each-2.new.out.items in
    let both : Path = c.in_ok-both.both in
    let next : Path = c.index-others-at.result in
    let within : c.args.at < length others = slice_get_within others c.args.at c.requires.can.next c.requires.can.is in
    let here : slice_get others c.args.at ≡ Some next = slice_get_read others (length others) c.args.at next refl within c.index-others-at.is in
    let same : c.requires.can.next ≡ next = some_is (sym c.requires.can.is ∙ here) in
    let possible : IsPossiblePair (test_truth p.tests) path next = subst (λ (q : Path). IsPossiblePair (test_truth p.tests) path q) same c.requires.can.possible in
    let followed : IsFollowed p path next both = subst (λ (s : ScriptPlan). IsFollowed s path next both) c.plan.ensures.same c.in_ok-both.ensures in
    let before : GrowsByAll p path (take c.args.at others) old mid = c.in_ok-add_each.ensures in
    let past : List Path = drop (c.args.at + 1) others in
    let whole : take (length others - (c.args.at + 1)) past ≡ past = take_all (length others - (c.args.at + 1)) past (let l = length-drop (c.args.at + 1) others in omega (arith, l)) in
    let after : GrowsByAll p path past mid new = subst (λ (ps : List Path). GrowsByAll p path ps mid new) whole c.in_ok-add_each-2.ensures in
    let inserted : c.insert.new.self.items ≡ insert new (length mid) both = search rules in
    subst (λ (ps : List Path). GrowsByAll p path others old ps) (sym inserted)
    (grown_around p path next both others old mid new c.args.at here possible followed before after)
