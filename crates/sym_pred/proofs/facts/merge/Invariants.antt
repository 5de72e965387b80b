-- What is merged so far, with what the rest of the two lists comes to behind it, is the whole.
use Rattle.std.proofs.Common.{◌≡◌, ◌≤◌, ◌+◌, ◌-◌, ◌++◌, drop, length}
use Rattle.std.specs.Option.{option_map}
use Rattle.sym_pred.proofs.Merged.{merged}
use Rattle.sym_pred.proofs.facts.merge.Given as goal

abbrev pub invariant-literals : goal.invariant-literals
invariant-literals l =
    (l.done ≤ length l.left)
    × (l.gone ≤ length l.right)
    × (merged l.left l.right ≡ option_map (λ rest. l.all.items ++ rest) (merged (drop l.done l.left) (drop l.gone l.right)))

abbrev pub decreases-literals : goal.decreases-literals
decreases-literals l = (length l.left - l.done) + (length l.right - l.gone)
