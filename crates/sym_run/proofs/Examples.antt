-- The definitions on saved runs, tried on examples.
use Rattle.std.specs.Prelude.{◌≡◌, refl, ℕ, [], ◌∷◌}
use Rattle.std.proofs.Common.{arith}
use Rattle.sym_base.specs.declared.values.record.Record.{Record}
use Rattle.sym_base.specs.declared.values.state.FaultKind.TheVariants.{Arith}
use Rattle.sym_path.specs.declared.path.PathEnd.TheVariants.{Ended}
use Rattle.sym_run.specs.SavedRuns.{AreNumbered, EndsWithin}

abbrev numbered : ℕ → Record
numbered number = record { no = number; fields = [] }

-- The records 3 and 4 are from 3 on, before 5. None are from 3 on, before 3.
two_records : AreNumbered 3 5 (numbered 3 ∷ numbered 4 ∷ [])
two_records = (refl, (refl, refl))

no_records : AreNumbered 3 3 []
no_records = refl

-- Not in another order, not one twice, and not one fewer.
turned : AreNumbered 3 5 (numbered 4 ∷ numbered 3 ∷ []) → ⊥
turned h = let first : 4 ≡ 3 = h.0 in absurd (omega (arith, first))

twice : AreNumbered 3 5 (numbered 3 ∷ numbered 3 ∷ []) → ⊥
twice h = let second : 3 ≡ 4 = h.1.0 in absurd (omega (arith, second))

one_fewer : AreNumbered 3 5 (numbered 3 ∷ []) → ⊥
one_fewer h = let next : 4 ≡ 5 = h.1 in absurd (omega (arith, next))

-- A fault at the number after the last record isn't one of theirs.
past_the_last : EndsWithin 3 5 (Ended (record { kind = Arith; no = 5 })) → ⊥
past_the_last h = absurd (omega (arith, h.1))
