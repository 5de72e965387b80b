use Rattle.std.proofs.Common.{◌∙◌, Some, ap, refl}
use Rattle.std.specs.Map.{keys_of}
use Rattle.std.proofs.lemmas.Result.{on_ok_weaker}
use Rattle.sym_base.specs.declared.values.value.Key.{Key}
use Rattle.sym_check.specs.Checking.CheckedScripts.{checked_plan}
use Rattle.sym_shuffle.specs.Dealing.{with_new}
use Rattle.sym_shuffle.specs.declared.batch.Batch.{Batch}
use Rattle.sym_shuffle.specs.declared.dealt.Dealt.{Dealt}
use Rattle.sym_shuffle.proofs.DealtKeys.{dealt_on}
use Rattle.sym_shuffle.proofs.dealt.push.Goals as goal

pub returns : goal.returns
returns c = λ done was.
    let old = c.args.dealt.now in
    let groups = c.args.dealer.now.groups.now in
    let batch : Batch = record { places = c.push.new.self; numbers = c.push-2.new.self; values = c.push_marked.new.values } in
    let new : Dealt = record { batch = batch; new = c.place_of.new.new; bad = old.bad } in
    on_ok_weaker c.push_marked.result
    (λ values. dealt_on (checked_plan c.args.dealer.now.checked.now) c.args.dealer.now.marks.now groups done c.args.memory.now.rec c.in_ok-place.place old new c.requires
    (c.in_ok-place.ensures.place ∙ ap Some c.in_ok-key_into.ensures)
    (c.in_ok-place.ensures.keys ∙ ap (λ (k : Key). with_new (keys_of groups) (keys_of old.new.entries) k) c.in_ok-key_into.ensures)
    c.in_ok-push.ensures.items c.in_ok-push-2.ensures.items values refl was)
    c.push_marked.ensures
