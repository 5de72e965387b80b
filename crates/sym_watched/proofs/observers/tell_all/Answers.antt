use Rattle.std.proofs.Common.{rules, ◌∙◌, ap, [], ◌∷◌, map}
use Rattle.std.proofs.Math.Seq.{map-set_same}
use Rattle.sym_watch.specs.Logs.{grown}
use Rattle.sym_watched.proofs.Logs.{on_err, told_more, told_some}
use Rattle.sym_watched.proofs.observers.tell_all.Goals as goal

pub all-preserved : goal.all-preserved
all-preserved g c =
    told_more (λ o. (goal.Observer-dyn g (o.vtable, o.value)).log o.value) (grown (c.args.partial.now ∷ []))
    c.all.observers.items _ c.all.i c.index_mut.result.now c.tell_one.new.observer c.all.invariant (search rules)
    c.index_mut.ensures.value c.in_ok-tell_one.ensures.ok

pub returns-in_err-tell_one-clause-err : goal.returns-in_err-tell_one-clause-err
returns-in_err-tell_one-clause-err g c =
    let logs = map (λ o. (goal.Observer-dyn g (o.vtable, o.value)).log o.value) c.args.observers.now.items in
    on_err _
    (told_some (c.args.partial.now ∷ []) logs c.all.i _
    (map-set_same (λ o. (goal.Observer-dyn g (o.vtable, o.value)).log o.value) c.all.observers.items c.all.i c.tell_one.new.observer c.index_mut.result.now
    (c.in_err-tell_one.ensures.err ∙ ap (λ o. (goal.Observer-dyn g (o.vtable, o.value)).log o.value) c.index_mut.ensures.value) ∙ c.all.invariant))
