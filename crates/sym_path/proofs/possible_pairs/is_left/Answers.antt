use Rattle.std.proofs.Common.{◌≡◌, ◌∙◌, sym, true, false}
use Rattle.sym_path.proofs.Possibly.{set_left, span_left, facts_left, all_from_left, others_from_left}
use Rattle.sym_path.proofs.possible_pairs.is_left.Goals as goal

pub returns-in-Set : goal.returns-in-Set
returns-in-Set c = rw c.in-Set.is (set_left c.in-Set.set c.labels_left.result c.args.forms.now c.args.needs.now c.args.cell c.is_empty.result c.labels_left.ensures c.is_empty.ensures)

pub returns-in-Span : goal.returns-in-Span
returns-in-Span c = rw (c.in-Span.is, c.is_some.ensures) (span_left c.in-Span.span c.numbers_left.result c.args.forms.now c.args.needs.now c.args.cell c.numbers_left.ensures)

pub returns-then-all_agree : goal.returns-then-all_agree
returns-then-all_agree c = rw c.in-Facts.is (
  λ h. facts_left c.args.cell c.in-Facts.facts c.args.forms.now c.args.needs.now (c.all_agree.ensures.0 c.if-all_agree.true) (c.needs_agree.ensures.0 h),
  λ h. c.needs_agree.ensures.1 (others_from_left c.args.cell c.in-Facts.facts c.args.forms.now c.args.needs.now h),
)

pub returns-else-all_agree : goal.returns-else-all_agree
returns-else-all_agree c = rw c.in-Facts.is (
  λ h. absurd (let t = c.if-all_agree.false in let e : true ≡ false = sym h ∙ t in cc),
  λ h. c.all_agree.ensures.1 (all_from_left c.args.cell c.in-Facts.facts c.args.forms.now c.args.needs.now h),
)
