-- The observers so far were told.
use Rattle.std.proofs.Common.{◌≡◌, [], ◌∷◌, map}
use Rattle.sym_watch.specs.Logs.{grown}
use Rattle.sym_watched.proofs.Logs.{front}
use Rattle.sym_watched.proofs.observers.tell_all.Given as goal

abbrev pub invariant-all : goal.invariant-all
invariant-all g l =
    map (λ o. (goal.Observer-dyn g (o.vtable, o.value)).log o.value) l.observers.items
    ≡ front (grown (l.partial ∷ [])) l.i (map (λ o. (goal.Observer-dyn g (o.vtable, o.value)).log o.value) l.fn.observers.items)
