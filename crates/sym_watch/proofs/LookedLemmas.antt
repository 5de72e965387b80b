-- What a look shows is nothing exactly where the list is empty.
use Rattle.std.proofs.Common.{◌≡◌, ◌↔◌, List, [], None, Some, refl, ap, sym, ◌∙◌}
use Rattle.sym_plain.specs.Shown.{last}
use Rattle.sym_watch.specs.declared.partial.Partial.{Partial}
use Rattle.sym_watch.specs.declared.look.Looked.{Looked}
use Rattle.sym_watch.specs.declared.look.Looked.TheVariants.{Nothing, Seen}
use Rattle.sym_watch.specs.Looks.{shown}
use Rattle.sym_watch.proofs.Rising.{last_none}

shown_of_none : (l : Looked) → shown l ≡ None → l ≡ Nothing
shown_of_none Nothing none = refl
shown_of_none (Seen p) none = absurd (cc none)

pub shows_nothing : (l : Looked) (seen : List Partial) → shown l ≡ last seen
    → (l ≡ Nothing) ↔ (seen ≡ [])
shows_nothing l seen is =
    ((λ e. last_none seen (sym is ∙ ap shown e)), (λ e. shown_of_none l (is ∙ ap last e)))
