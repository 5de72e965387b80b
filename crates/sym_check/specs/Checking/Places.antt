-- Where the entries of a scope stand.
use Rattle.std.specs.Prelude.{◌≡◌, ℕ, suc, List, [], ◌∷◌, if◌then◌else◌, Option, Some, None, option_map}
use Rattle.std.specs.BTreeMap.{BTreeMap, get_by_text}
use Rattle.std.specs.declared.string.String.{String}
use Rattle.sym_check.specs.Meaning.Conditions.{same_word}
use Rattle.sym_check.specs.Rules.Scopes.{Scope}

-- The place of the first entry of a name, counted from 0.
abbrev pub place_of : Scope → List ℕ → Option ℕ
place_of [] text = None
place_of (e ∷ rest) text =
    if same_word e.name text then Some 0 else option_map suc (place_of rest text)

-- The map has the place of the first entry of each name, and no other.
abbrev pub ArePlaces : {A : Type 0} → BTreeMap (String A) ℕ → Scope → Type 0
ArePlaces places s = (text : List ℕ) → get_by_text places text ≡ place_of s text
