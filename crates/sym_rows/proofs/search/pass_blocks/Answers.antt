use Rattle.std.proofs.Common.{◌≡◌, ◌+◌, ◌-◌, ap, arith, drop, take}
use Rattle.sym_rows.proofs.BlockCounts.{Reached, block_passed, first_passed}
use Rattle.sym_rows.proofs.search.pass_blocks.Goals as goal

pub block-init : goal.block-init
block-init c =
    let first = first_passed c.args.bytes.now c.args.from c.requires.within c.requires.begins in
    record {
      low = omega arith;
      high = c.requires.within;
      few = c.requires.some;
      counted = first.counted;
      stands = first.stands;
    }

pub block-preserved : goal.block-preserved
block-preserved c =
    let bytes = c.args.bytes.now in
    let inv = c.block.invariant in
    let so : Reached bytes c.args.from c.block.last c.block.rows = record { counted = inv.counted; stands = inv.stands } in
    let size : c.block.last + 128 + 1 - c.block.last ≡ 129 = omega arith in
    let window = take (c.block.last + 128 + 1 - c.block.last) (drop c.block.last bytes) in
    let is : window ≡ take 129 (drop c.block.last bytes) = ap (λ n. take n (drop c.block.last bytes)) size in
    let more = block_passed bytes c.args.from c.block.last c.block.rows window c.ends_in-block.result inv.low (omega arith) is c.ends_in-block.ensures c.if-block.false so in
    record {
      low = omega arith;
      high = omega arith;
      few = omega arith;
      counted = more.counted;
      stands = more.stands;
    }
