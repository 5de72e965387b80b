-- Places of chains by key.
use Rattle.std.proofs.Common.{◌≡◌, ◌∙◌, refl, ap, sym, ℕ, List, [], ◌∷◌, ◌++◌, Option, Some, None}
use Rattle.std.specs.Prelude.{slice_get}
use Rattle.std.specs.Map.{keys_of, lookup, values_of}
use Rattle.sym_base.specs.declared.values.value.Key.{Key}
use Rattle.sym_check.specs.Meaning.Groups.{is_key}
use Rattle.sym_plain.specs.Pairs.{HaveDistinctKeys, put, put_by_index}
use Rattle.sym_plain.proofs.Pairs.{indexed-lookup, indexed-put}
use Rattle.sym_file.specs.PlacedTexts.{Placed}
use Rattle.sym_file.specs.Places.{ChainPlace, placed, placed_all, places_of}

-- A place more of the key at an index.
pub placed_there : (key : Key) (groups : Placed) (index : ℕ) (was : List ChainPlace) (place : ChainPlace) → HaveDistinctKeys groups → slice_get (keys_of groups) index ≡ Some key
    → Some was ≡ slice_get (values_of groups) index → put_by_index groups index (was ++ place ∷ []) ≡ placed groups (key, place)
placed_there key groups index was place apart at there =
    indexed-put groups key index (was ++ place ∷ []) apart at
    ∙ ap (λ (found : Option (List ChainPlace)). put groups key (places_of found ++ place ∷ [])) (there ∙ sym (indexed-lookup groups key index apart at))

-- A key more.
pub placed_new : (key : Key) (groups : Placed) (place : ChainPlace) → lookup (is_key key) groups ≡ None → put groups key (place ∷ []) ≡ placed groups (key, place)
placed_new key groups place none = ap (λ (found : Option (List ChainPlace)). put groups key (places_of found ++ place ∷ [])) (sym none)

-- An entry more goes last.
pub placed_last : (groups : Placed) (entries : List (Key × ChainPlace)) (entry : Key × ChainPlace) → placed_all groups (entries ++ entry ∷ []) ≡ placed (placed_all groups entries) entry
placed_last groups [] entry = refl
placed_last groups (e ∷ entries) entry = placed_last (placed groups e) entries entry

pub placed_more : (groups : Placed) (entries others : List (Key × ChainPlace)) → placed_all groups (entries ++ others) ≡ placed_all (placed_all groups entries) others
placed_more groups [] others = refl
placed_more groups (e ∷ entries) others = placed_more (placed groups e) entries others
