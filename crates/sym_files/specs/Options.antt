-- The options of a run over files.
use Rattle.std.specs.Prelude.{◌≤◌}
use Rattle.sym_base.specs.declared.limits.TheConstants as limit
use Rattle.sym_files.specs.declared.options.Options.{Options}
use Rattle.sym_files.specs.declared.options.TheConstants as own

-- Each option is in its range. The most bytes may be 0.
pub record InRange (o : Options) : Type 0 where
  pub some_rows : 1 ≤ o.chunk
  pub most_rows : o.chunk ≤ limit.CHUNK_MAX
  pub some_pairs : 1 ≤ o.limit
  pub most_pairs : o.limit ≤ own.LIMIT_MAX
  pub some_workers : 1 ≤ o.workers
  pub most_workers : o.workers ≤ limit.WORKERS_MAX
  pub most_bytes : o.max_bytes ≤ limit.FILE_MAX
