-- The files so far are read, and the store is as it was.
use Rattle.std.proofs.Common.{◌≡◌, ◌≤◌, ℕ, List, length, map, take, vec_len}
use Rattle.std.specs.List.{All}
use Rattle.std.specs.String.{string_bytes}
use Rattle.sym_files.specs.Passing.{MayAll}
use Rattle.sym_reduce.proofs.window.read_first.Given as goal

abbrev pub invariant-files : goal.invariant-files
invariant-files g l =
    record {
      count : vec_len l.texts ≡ l.file;
      few : l.bytes ≤ 268435456;
      may : MayAll (g.F.Store.holds l.fn.files) (take l.file (map string_bytes l.names)) (map (λ text. text.items) l.texts.items);
      fit : All (λ text. length text.items ≤ l.max_bytes) l.texts.items;
      same : g.F.Store.holds l.files ≡ g.F.Store.holds l.fn.files;
      later : (other : List ℕ) → g.F.Store.faults l.fn.files other ≤ g.F.Store.faults l.files other;
    }
