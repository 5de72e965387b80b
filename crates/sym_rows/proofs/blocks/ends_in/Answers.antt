use Rattle.std.proofs.Common.{◌≤◌, ◌+◌, ◌==◌, ◌&&◌, not, arith, get_or, subst, sym}
use Rattle.sym_rows.specs.Rows.{is_line_end}
use Rattle.sym_rows.proofs.BlockCounts.{Counted, counted_more, one_small}
use Rattle.sym_rows.proofs.blocks.ends_in.Goals as goal

pub bytes-preserved : goal.bytes-preserved
bytes-preserved c =
    let i = c.bytes.index in
    let window = c.args.window.now in
    let inv = c.bytes.invariant in
    let so : Counted window i c.bytes.rows c.bytes.quotes = record { counted = inv.counted; stands = inv.stands } in
    let more = counted_more window i c.bytes.rows c.bytes.quotes c.one_end-rows.result c.one_quote-quotes.result (omega arith) so c.one_end-rows.ensures c.one_quote-quotes.ensures in
    let one : c.one_end-rows.result ≤ 1 = subst (λ n. n ≤ 1) (sym c.one_end-rows.ensures) (one_small (is_line_end (get_or window (i + 1) 0) && not (is_line_end (get_or window i 0)))) in
    let quote : c.one_quote-quotes.result ≤ 1 = subst (λ n. n ≤ 1) (sym c.one_quote-quotes.ensures) (one_small (get_or window (i + 1) 0 == 34)) in
    record { few = omega (arith, inv.few); quotes = omega (arith, inv.quotes); counted = more.counted; stands = more.stands }
