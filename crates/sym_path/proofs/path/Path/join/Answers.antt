use Rattle.std.proofs.Common.{List, refl, subst}
use Rattle.sym_path.specs.declared.part.Part.{Part}
use Rattle.sym_path.specs.Joins.{AreUnited}
use Rattle.sym_path.proofs.JoiningJoined.{joined_by, first_end, second_end}
use Rattle.sym_path.proofs.path.Path.join.Goals as goal

pub returns-then-first : goal.returns-then-first
returns-then-first c =
    let when : List Part = c.united-when.result in
    let united : AreUnited c.args.self.when c.args.other.when when = subst (λ (w : List Part). AreUnited c.args.self.when w when) c.as_slice.ensures c.united-when.ensures in
    joined_by c.args.self c.args.other (record { when = when; end = c.args.self.end }) united (first_end c.args.self c.args.other c.args.self.end c.end_is_taken-first.result c.end_is_taken-first.ensures c.if-first.true refl)

pub returns-else-first : goal.returns-else-first
returns-else-first c =
    let when : List Part = c.united-when.result in
    let united : AreUnited c.args.self.when c.args.other.when when = subst (λ (w : List Part). AreUnited c.args.self.when w when) c.as_slice.ensures c.united-when.ensures in
    joined_by c.args.self c.args.other (record { when = when; end = c.args.other.end }) united (second_end c.args.self c.args.other c.args.other.end c.end_is_taken-first.result c.requires c.end_is_taken-first.ensures c.if-first.false refl)
