-- Lists of partials, in the order in which they were published.
use Rattle.std.specs.Prelude.{ℕ, ◌≤◌, List, Option}
use Rattle.std.specs.Option.{ForSome, option_map}
use Rattle.std.specs.List.Sorted.{IsNonDecreasingBy}
use Rattle.sym_plain.specs.Shown.{last}
use Rattle.sym_watch.specs.declared.partial.Partial.{Partial}

-- The borders never fall along the list.
abbrev pub Rises : List Partial → Type 0
Rises = IsNonDecreasingBy (λ (p : Partial). p.upto)

-- The partial's border isn't below that of the last one of the list, if there is one.
abbrev pub MayFollow : List Partial → Partial → Type 0
MayFollow list partial = ForSome (last list) (λ p. p.upto ≤ partial.upto)

-- The border of the last partial, if there is one.
abbrev pub last_border : List Partial → Option ℕ
last_border list = option_map (λ (p : Partial). p.upto) (last list)
