-- How segments are held.
use Rattle.std.specs.Prelude.{List, [], ◌∷◌}
use Rattle.sym_path.specs.declared.path.Path.{Path}
use Rattle.sym_run.specs.declared.segments.Held.{Held}
use Rattle.sym_run.specs.declared.segments.Held.TheVariants.{One, More}

abbrev pub held_segments : Held → List (List Path)
held_segments (One segment) = segment ∷ []
held_segments (More segments) = segments.items
