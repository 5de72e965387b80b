use Rattle.std.proofs.Common.{sym, subst}
use Rattle.std.specs.Prelude.{slice_get}
use Rattle.sym_int.specs.Parts.{IsWithin}
use Rattle.sym_int.specs.declared.wide.Wide.{Wide}
use Rattle.sym_explore.proofs.PathNumbers.{span_is}
use Rattle.sym_explore.proofs.ranges.whole_form.Goals as goal

pub returns-then-is_within : goal.returns-then-is_within
returns-then-is_within c = record {
  span = c.in-Some.span;
  is = span_is (slice_get c.args.path.now.when c.args.line.now.cell) c.in-Some.span c.in-Some.ensures;
  within = subst (λ (wide : Wide). IsWithin wide c.args.range.now c.in-Some.span) (sym c.requires) (c.is_within.ensures c.if-is_within.true);
  form = c.taken.ensures.form;
  value = c.taken.ensures.value;
}
