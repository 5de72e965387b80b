-- Places among keys, and where they go when keys that were new get theirs.
use Rattle.std.specs.Prelude.{◌≡◌, ◌-◌, ℕ, List, Some, nat_le, slice_get, slice_index_or, if◌then◌else◌}
use Rattle.std.specs.List.{AllZip}
use Rattle.sym_base.specs.declared.values.value.Key.{Key}

-- Each key's place among all keys.
abbrev pub ArePlaces : List Key → List ℕ → List Key → Type 0
ArePlaces all places keys = AllZip (λ place key. slice_get all place ≡ Some key) places keys

-- Where a place goes: the first `count` stay, and those after them take theirs from a list.
abbrev pub moved_place : ℕ → List ℕ → ℕ → ℕ
moved_place count moved place =
    if nat_le count place then slice_index_or moved (place - count) place else place
