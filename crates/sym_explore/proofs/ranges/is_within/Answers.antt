use Rattle.std.proofs.Common.{ℤ, ◌+ℤ◌, ◌*ℤ◌}
use Rattle.sym_int.specs.Points.{HasPoint}
use Rattle.sym_int.specs.declared.span.Span.{Span}
use Rattle.sym_explore.proofs.PathRanges.{line_between}
use Rattle.sym_explore.proofs.ranges.is_within.Goals as goal

pub returns-then-begins_in : goal.returns-then-begins_in
returns-then-begins_in c = λ t x point.
    let a : ℤ = c.args.line.now.a in
    let b : ℤ = c.args.line.now.b in
    let span : Span = c.args.span.now in
    let range : Span = c.args.range.now in
    let first : HasPoint range (a *ℤ span.lo +ℤ b) = c.begins_in.ensures c.if-begins_in.true in
    let last : HasPoint range (a *ℤ span.hi +ℤ b) = c.ends_in.ensures t in
    line_between a b span.lo span.hi x range.lo range.hi point.0 point.1 first.0 first.1 last.0 last.1
