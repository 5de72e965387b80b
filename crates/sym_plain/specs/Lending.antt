-- What groups end as, where a `&mut` to the outcome of one of them, or to those of all, is returned.
use Rattle.std.specs.Prelude.{ℕ, List, Option}
use Rattle.std.specs.Borrow.{Array, Lends, LendsIf, MutBor, Fml}
use Rattle.sym_base.specs.declared.values.value.Key.{Key}
use Rattle.sym_base.specs.declared.values.state.Outcome.{Outcome}
use Rattle.sym_base.specs.contracts.values.state.Outcome as row
use Rattle.sym_plain.specs.contracts.groups.Groups.{the_row}
use Rattle.sym_plain.specs.Pairs.{put, put_by_index, put_values}

-- The key's outcome becomes what is written last; where there is no such group, the groups stay.
abbrev pub lends_outcome : MutBor (List (Key × Outcome)) → Key → Option (MutBor Outcome) → Fml
lends_outcome groups key outcome =
    LendsIf the_row row.the_row groups outcome (put groups.now key) groups.now

-- The outcome at this index becomes what is written last; where there is none, the groups stay.
abbrev pub lends_outcome_at : MutBor (List (Key × Outcome)) → ℕ → Option (MutBor Outcome) → Fml
lends_outcome_at groups index outcome =
    LendsIf the_row row.the_row groups outcome (put_by_index groups.now index) groups.now

-- The outcomes become what is written last, in order, and the keys stay.
abbrev pub lends_outcomes : MutBor (List (Key × Outcome)) → MutBor (List Outcome) → Fml
lends_outcomes groups outcomes =
    Lends the_row (Array row.the_row 0) groups outcomes (put_values groups.now)
