-- Each step keeps the rule over what is shown.
use Rattle.std.proofs.Common.{◌≡◌, ℕ, zero, suc, ◌≢◌, List, [], ◌∷◌, ◌++◌, length, set, Option, None, Some, refl, ap, sym, subst, ◌∙◌, ⊎_elim}
use mathlib.Core.Option.{some, some-injective, some-ne-none}
use lib.ListN.{get_elem?}
use Rattle.left_right.specs.Register.{Admits, Turns, TurnsAt, Forks, Merges}
use Rattle.atomic_table.proofs.Lists.{at_set, at_snoc}
use Rattle.sym_plain.specs.Shown.{last}
use Rattle.sym_watch.specs.declared.newest.BookName.{BookName}
use Rattle.sym_watch.specs.declared.newest.Newest.{Newest}
use Rattle.sym_watch.specs.declared.newest.Entry.{Entry}
use Rattle.sym_watch.specs.Newests.{name_of, IsOf, IsNewest, Shows, put, Looks, Adds, Begins}

abbrev Views : Type 0
Views = List (Option BookName)

abbrev Each : Newest → Views → Type 0
Each x views = (seat : ℕ) (v : Option BookName) → get_elem? views seat ≡ some v → IsOf v x

-- what is of one book is of it after a change within the book
is_of_same : (v : Option BookName) (x y : Newest) → y.seen.book ≡ x.seen.book → IsOf v x → IsOf v y
is_of_same None x y same of = tt
is_of_same (Some name) x y same of = ap name_of same ∙ of

each_set : (x : Newest) (views : Views) (seat : ℕ) (v : Option BookName) → Each x views → IsOf v x
    → Each x (set views seat v)
each_set x views seat v each of j u e =
    ⊎_elim (λ (t : (j ≡ seat) × (v ≡ u)). subst (λ (w : Option BookName). IsOf w x) t.1 of)
    (λ (t : (j ≢ seat) × (get_elem? views j ≡ some u)). each j u t.1)
    (at_set views seat j v u e)

each_more : (x : Newest) (views : Views) (v : Option BookName) → Each x views → IsOf v x
    → Each x (views ++ v ∷ [])
each_more x views v each of j u e =
    ⊎_elim (each j u) (λ (t : v ≡ u). subst (λ (w : Option BookName). IsOf w x) t of)
    (at_snoc views v u j e)

each_same : (x y : Newest) (views : Views) → y.seen.book ≡ x.seen.book → Each x views → Each y views
each_same x y views same each j u e = is_of_same u x y same (each j u e)

each_alone : (x : Newest) → Each x (None ∷ [])
each_alone x zero u e = subst (λ (w : Option BookName). IsOf w x) (some-injective None u e) tt
each_alone x (suc j) u e = absurd (some-ne-none u (sym e))

-- a thread that knows no book may begin at any time
pub opens : (x : Newest) → IsNewest x → Shows x (None ∷ [])
opens x newest = record { newest = newest; each = each_alone x }

pub admits : Admits Shows None
admits x views shows =
    record { newest = shows.newest; each = each_more x views None shows.each tt }

pub looks : (seat : ℕ) (v : Option BookName) → Turns Shows seat v (λ x. x) Looks
looks seat v x views shows at =
    let of : IsOf v x = shows.each seat v at in (
      v,
      record { newest = shows.newest; each = each_set x views seat v shows.each of },
      (refl, of, shows.newest),
    )

-- a publish of one entry of the same book
pub adds : (seat : ℕ) (v : Option BookName) (x y : Newest) (e : Entry) → y ≡ put x e
    → e.seen.book ≡ x.seen.book → length e.seen.log ≡ e.count → last e.seen.log ≡ Some e.partial
    → TurnsAt Shows seat v x y Adds
adds seat v x y e is book count end views shows at =
    let same : y.seen.book ≡ x.seen.book = ap (λ (n : Newest). n.seen.book) is ∙ book in
    let each : Each y views = each_same x y views same shows.each in (
      v,
      record {
        newest = subst IsNewest (sym is) (record { count = count; last = end });
        each = each_set y views seat v each (each seat v at);
      },
      same,
    )

-- the first publish, after which the publisher knows the book
pub begins : (seat : ℕ) (v : Option BookName) (x y : Newest) → y ≡ x
    → TurnsAt Shows seat v x y Begins
begins seat v x y is views shows at =
    let name = name_of x.seen.book in
    let same : y.seen.book ≡ x.seen.book = ap (λ (n : Newest). n.seen.book) is in (
      Some name,
      record {
        newest = subst IsNewest (sym is) shows.newest;
        each = each_set y views seat (Some name) (each_same x y views same shows.each) (ap name_of same);
      },
      (same, refl),
    )

pub forks : (seat : ℕ) (v : Option BookName) → Forks Shows seat v v v
forks seat v x views shows at =
    let of : IsOf v x = shows.each seat v at in
    record {
      newest = shows.newest;
      each = each_more x (set views seat v) v (each_set x views seat v shows.each of) of;
    }

pub merges : (seat : ℕ) (v : Option BookName) (other : ℕ) (w : Option BookName)
    → Merges Shows seat v other w w None
merges seat v other w x views shows at apart there =
    let of : IsOf w x =
    ⊎_elim (λ (t : (other ≡ seat) × (w ≡ w)). absurd (apart t.0))
    (λ (t : (other ≢ seat) × (get_elem? views other ≡ some w)). shows.each other w t.1)
    (at_set views seat other w w there) in
    record {
      newest = shows.newest;
      each = each_set x (set views seat w) other None (each_set x views seat w shows.each of) tt;
    }
