-- How new keys grow, key by key.
use Rattle.std.specs.Prelude.{List, [], ◌∷◌, ◌++◌, if◌then◌else◌}
use Rattle.sym_base.specs.declared.values.value.Key.{Key}
use Rattle.sym_check.specs.Meaning.Groups.{is_among}

-- The new keys with this one, which goes last unless it is among these others or among them.
abbrev pub with_new : List Key → List Key → Key → List Key
with_new others new key = if is_among key (others ++ new) then new else new ++ key ∷ []
