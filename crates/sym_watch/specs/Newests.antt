-- What is shown to watchers, the newest partial, and the rule over it.
use Rattle.std.specs.Prelude.{◌≡◌, ℕ, List, length, Option, Some, None}
use mathlib.Core.Option.{some}
use lib.ListN.{get_elem?}
use Rattle.logbook.specs.Pages.{Book}
use Rattle.sym_plain.specs.Shown.{last}
use Rattle.sym_watch.specs.declared.newest.BookName.{BookName}
use Rattle.sym_watch.specs.declared.newest.Newest.{Newest}
use Rattle.sym_watch.specs.declared.newest.Entry.{Entry}

-- A book's three numbers, as a thread keeps them.
abbrev pub name_of : Book → BookName
name_of b =
    record { number = b.number; log_name = b.log_name; cells_name = b.cells_name }

-- The newest partial is of the book that a thread knows, if it knows one.
abbrev pub IsOf : Option BookName → Newest → Type 0
IsOf None newest = Unit {0}
IsOf (Some name) newest = name_of newest.seen.book ≡ name

-- What is shown belongs to a list that the book has reached: its count and its last partial.
pub record IsNewest (newest : Newest) : Type 0 where
  pub count : length newest.seen.log ≡ newest.count
  pub last : last newest.seen.log ≡ newest.last

-- The rule: what is shown belongs to such a list, of the book of every thread that knows one.
pub record Shows (shown : Newest) (views : List (Option BookName)) : Type 0 where
  pub newest : IsNewest shown
  pub each : (seat : ℕ) (view : Option BookName) → get_elem? views seat ≡ some view
      → IsOf view shown

-- What is shown after an entry.
abbrev pub put : Newest → Entry → Newest
put newest entry =
    record { count = entry.count; last = Some entry.partial; seen = entry.seen }

-- A look: what is shown is of the book that is known.
abbrev pub Looks : Option BookName → Newest → Newest → Option BookName → Type 0
Looks view before after now = (now ≡ view) × IsOf view after × IsNewest after

-- A publish: what is shown is of the same book as before.
abbrev pub Adds : Option BookName → Newest → Newest → Option BookName → Type 0
Adds view before after now = after.seen.book ≡ before.seen.book

-- The first publish: nothing new is shown, and the book is known from then on.
abbrev pub Begins : Option BookName → Newest → Newest → Option BookName → Type 0
Begins view before after now =
    (after.seen.book ≡ before.seen.book) × (now ≡ Some (name_of before.seen.book))
