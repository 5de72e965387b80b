use Rattle.std.proofs.Common.{◌≡◌, ◌∙◌, ℕ, ap, refl, sym, inl, List, Option, Some, None}
use Rattle.std.specs.Borrow.{MutBor}
use Rattle.std.specs.Prelude.{slice_get}
use Rattle.std.specs.List.{position_or_len}
use Rattle.std.specs.Map.{keys_of, lookup, values_of}
use Rattle.std.specs.Option.{ghost_name_of, option_copied_mut}
use Rattle.sym_base.specs.declared.values.value.Key.{Key}
use Rattle.sym_base.specs.declared.values.state.Outcome.{Outcome}
use Rattle.sym_check.specs.Meaning.Groups.{is_key}
use Rattle.sym_plain.specs.Pairs.{HaveDistinctKeys, put, put_by_index}
use Rattle.sym_plain.proofs.Zipped.{lookup-at, put-at}
use Rattle.sym_plain.proofs.groups.Groups.outcome_mut.Goals as goal
use borrow.Follows.Closed.{read_of}

-- What is written at the index of the key is put for it; where it isn't found, the pairs stay.
lent : (pairs : List (Key × Outcome)) (key : Key) (n : ℕ) (found : Option (MutBor Outcome)) → HaveDistinctKeys pairs → n ≡ position_or_len (is_key key) (keys_of pairs)
    → option_copied_mut found ≡ lookup (is_key key) pairs
    → read_of (ghost_name_of found) (put_by_index pairs n) pairs ≡ read_of (ghost_name_of found) (put pairs key) pairs
lent pairs key n None apart at is = refl
lent pairs key n (Some outcome) apart at is =
    let same : (now : Outcome) → put_by_index pairs n now ≡ put pairs key now = λ now. ap (λ m. put_by_index pairs m now) at ∙ put-at pairs key outcome.now now apart (sym is) in
    λ i. inl (outcome.ghost_name, λ now. same now i)

pub returns : goal.returns
returns c =
    let pairs = c.args.self.now in
    let is = c.outcome_at_mut.ensures.outcome ∙ ap (slice_get (values_of pairs)) c.place_of-index.ensures.index ∙ sym (lookup-at c.args.key.now pairs) in (
      lent pairs c.args.key.now c.place_of-index.result c.outcome_at_mut.result c.place_of-index.ensures.distinct c.place_of-index.ensures.index is,
      record { writes_back = tt; outcome = is },
    )
