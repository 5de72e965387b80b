-- What a publisher, what it tells, and a watcher have of the one list of what was published.
use Rattle.std.specs.Prelude.{Bool, List}
use Rattle.logbook.specs.Pages.{Book}
use Rattle.sym_watch.specs.declared.partial.Partial.{Partial}

-- A publisher: which one it is, told apart by the book of its list; the list of what it published;
-- and whether a publish has failed.
pub record PublishedList : Type 0 where
  pub of : Book
  pub list : List Partial
  pub failed : Bool

-- What was told of: the list, and whose it is.
pub record ToldList : Type 0 where
  pub of : Book
  pub list : List Partial

-- A watcher: whose it is, the list of what it has seen, and the longest list that it was told of.
pub record SeenList : Type 0 where
  pub of : Book
  pub seen : List Partial
  pub told : List Partial
