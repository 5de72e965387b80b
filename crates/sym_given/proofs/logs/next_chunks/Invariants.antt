-- The chunks so far fit the script, and so does the header.
use Rattle.std.specs.List.{All}
use Rattle.sym_check.specs.Checking.CheckedScripts.{checked_plan}
use Rattle.sym_table.specs.Rows.{FitsChunk, FitsHeader}
use Rattle.sym_given.proofs.logs.next_chunks.Given as goal

abbrev pub invariant-chunks : goal.invariant-chunks
invariant-chunks l = record {
  header : FitsHeader (checked_plan l.checked).fields l.cutter.header;
  fit : All (FitsChunk (checked_plan l.checked).fields) l.chunks.items;
}
