-- A path that has ended keeps its fault where its constraint is narrowed.
use Rattle.std.proofs.Common.{◌≡◌, ℕ, ℤ, inl, inr, ap, ◌∙◌, arith}
use Rattle.std.proofs.lemmas.Int.{ints, by_lt_z}
use Rattle.std.specs.Prelude.{◌≤ℤ◌}
use Rattle.sym_base.specs.declared.values.state.Fault.{Fault}
use Rattle.sym_enum.specs.declared.label_set.LabelSet.{LabelSet}
use Rattle.sym_int.specs.declared.span.Span.{Span}
use Rattle.sym_path.specs.declared.path.PathEnd.{PathEnd}
use Rattle.sym_path.specs.declared.path.PathEnd.TheVariants.{Next, Ended}
use Rattle.sym_path.specs.declared.path.Path.{Path}
use Rattle.sym_path.specs.Narrowing.{end_with_label, NumberIsPutAtEnd, LabelsNarrowed, NumbersNarrowed}

put_fault : (c : ℕ) (x : ℤ) (old new : PathEnd) (fault : Fault) → NumberIsPutAtEnd c x old new → old ≡ Ended fault → new ≡ Ended fault
put_fault c x (Next fs) new fault h e = absurd (cc)
put_fault c x (Ended a) (Next gs) fault h e = absurd h
put_fault c x (Ended a) (Ended b) fault h e = ap Ended h ∙ e

pub numbers_end : (c : ℕ) (span : Span) (old new : Path) (fault : Fault) → NumbersNarrowed c span old new → old.end ≡ Ended fault → new.end ≡ Ended fault
numbers_end c span old new fault h e =
    by_lt_z span.lo span.hi
    (λ p. h.more p ∙ e)
    (λ p. let o : span.lo ≤ℤ span.hi = span.ordered in let one : span.lo ≡ span.hi = omega (arith, ints) in put_fault c span.lo old.end new.end fault (h.one one) e)

pub labels_end : (c : ℕ) (set : LabelSet) (old new : Path) (fault : Fault) → LabelsNarrowed c set old new → old.end ≡ Ended fault → new.end ≡ Ended fault
labels_end c set old new fault h e = elim h.end [
  | inl (l, only, is) ↦ is ∙ ap (end_with_label c l) e
  | inr (none, is) ↦ is ∙ e
]
