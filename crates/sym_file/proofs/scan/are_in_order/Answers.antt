use Rattle.std.proofs.Common.{◌≡◌, ◌∙◌, ◌≤◌, ◌-◌, ◌<◌, Some, ap, arith, length, slice_get, refl, subst, sym}
use Rattle.std.proofs.lemmas.Option.{slice_get_read}
use Rattle.sym_file.specs.Places.{Span}
use Rattle.sym_file.proofs.Scanned.{in_order_first, in_order_next}
use Rattle.sym_file.proofs.scan.are_in_order.Goals as goal
use Rattle.sym_file.proofs.scan.are_in_order.Goals.{then-at-gt0+else-before-span, else-at-gt0}

pub spans-preserved : goal.spans-preserved
spans-preserved c =
    let spans = c.args.spans.now in
    let i = c.spans.at in
    let span : Span = c.index-spans-at.result in
    let at : slice_get spans i ≡ Some span = slice_get_read spans (length spans) i span refl c.spans-test.true c.index-spans-at.is in
    let a = c.if-span-lt1.false in
    let b = c.if-span.false in
    let from : 1 ≤ span.first = subst (λ (s : Span). 1 ≤ s.first) c.span.view_is (omega (arith, a)) in
    let order : span.first ≤ span.next = subst (λ (s : Span). s.first ≤ s.next) c.span.view_is (omega (arith, b)) in
    elim c.if-at-gt0.branch [
      | then-at-gt0+else-before-span w ↦
          (let before : Span = w.index-spans-at-then-at-gt0.result in
          let t = w.if-at-gt0.true in
          let near : i - 1 < length spans = (let u = c.spans-test.true in omega (arith, u)) in
          let there : slice_get spans (i - 1) ≡ Some before = slice_get_read spans (length spans) (i - 1) before refl near w.index-spans-at-then-at-gt0.is in
          let same : before.next ≡ span.first = ap (λ (s : Span). s.next) (sym w.before-then-at-gt0.view_is) ∙ w.if-before-span.false ∙ ap (λ (s : Span). s.first) c.span.view_is in
          in_order_next spans i span c.spans.invariant.0 at from order (i - 1) before (omega (arith, t)) there same)
      | else-at-gt0 w ↦ in_order_first spans i span c.spans.invariant.0 at from order (let f = w.if-at-gt0.false in omega (arith, f))
    ]
