use Rattle.std.proofs.Common.{◌≡◌}
use Rattle.sym_path.specs.Possible.{IsLeft}
use Rattle.sym_path.specs.declared.part.Part.TheVariants as part
use Rattle.sym_path.proofs.Followed.{set_part_left, span_part_left, span_not_none}
use Rattle.sym_path.proofs.succession.left_of.Goals as goal

pub unreachable-requires : goal.unreachable-requires
unreachable-requires c =
    let left : IsLeft c.args.forms.now c.args.needs.now c.args.cell (part.Span c.in-Span.span) = rw c.in-Span.is at c.requires.left in
    span_not_none c.in-Span.span c.args.forms.now c.args.needs.now c.args.cell c.in-None.ensures left

pub returns-in-Set : goal.returns-in-Set
returns-in-Set c =
    let left : IsLeft c.args.forms.now c.args.needs.now c.args.cell (part.Set c.in-Set.set) = rw c.in-Set.is at c.requires.left in
    rw c.in-Set.is (set_part_left c.in-Set.set c.labels_left.result c.args.forms.now c.args.needs.now c.args.cell c.labels_left.ensures left)

pub returns-in-Some : goal.returns-in-Some
returns-in-Some c = rw c.in-Span.is (span_part_left c.in-Span.span c.in-Some.left c.args.forms.now c.args.needs.now c.args.cell c.in-Some.ensures)
