use Rattle.std.proofs.Common.{inl, inr, IfSome, to_z-of_z}
use Rattle.sym_int.proofs.Parted.{tells, some_tells, one_piece, few_pieces}
use Rattle.sym_int.specs.Cuts.{TellsTruth}
use Rattle.sym_int.proofs.cuts.cut.Goals as goal

pub returns : goal.returns
returns c =
    let part = rw (to_z-of_z c.ranges.bound) at c.chosen-part.ensures.part in
    let pieces = c.around.result in
    let cover = c.around.ensures.cover in
    let first : TellsTruth c.args.wide.now c.args.compare c.args.bound pieces.first = tells c.args.span.now c.args.wide.now c.args.compare c.args.bound c.chosen-part.result.1 c.chosen-part.result.0 part pieces.first (λ x p. (cover x).1 (inl p)) c.around.ensures.first in
    let second : IfSome pieces.second (TellsTruth c.args.wide.now c.args.compare c.args.bound) = some_tells c.args.span.now c.args.wide.now c.args.compare c.args.bound c.chosen-part.result.1 c.chosen-part.result.0 part pieces.second (λ x p. (cover x).1 (inr (inl p))) c.around.ensures.second in
    let third : IfSome pieces.third (TellsTruth c.args.wide.now c.args.compare c.args.bound) = some_tells c.args.span.now c.args.wide.now c.args.compare c.args.bound c.chosen-part.result.1 c.chosen-part.result.0 part pieces.third (λ x p. (cover x).1 (inr (inr p))) c.around.ensures.third in
    record {
      cover = cover;
      first = first;
      second = second;
      third = third;
      order = c.around.ensures.order;
      constant = one_piece c.args.wide.now c.args.compare c.args.bound pieces.first pieces.second pieces.third first second c.around.ensures.order;
      few = few_pieces c.args.compare c.chosen-part.result.1 pieces c.around.ensures.one c.chosen-part.ensures.equal c.chosen-part.ensures.unequal c.around.ensures.order (λ h. c.around.ensures.end (c.chosen-part.ensures.order h));
    }
