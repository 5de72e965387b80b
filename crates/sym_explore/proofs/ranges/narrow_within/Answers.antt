use Rattle.std.proofs.Common.{◌≡◌, Some, sym, ap, ◌∙◌}
use Rattle.std.specs.Prelude.{slice_get}
use Rattle.sym_int.proofs.Values.{same_ends}
use Rattle.sym_int.specs.declared.span.Span.{Span}
use Rattle.sym_path.specs.declared.part.Part.TheVariants as part
use Rattle.sym_explore.proofs.ComparedPaths.{same_stored}
use Rattle.sym_explore.proofs.PathNumbers.{gives_own}
use Rattle.sym_explore.proofs.ranges.narrow_within.Goals as goal

same : (c : goal.Else-span-own-2) → slice_get c.args.path.now.when c.args.cell ≡ Some (part.Span c.args.span.now)
same c =
    let span : Span = c.args.span.now in
    let own : Span = c.args.own.now in
    let lo : span.lo ≡ own.lo = same_stored span.lo own.lo span.lo_in own.lo_in c.if-span-own.false in
    let hi : span.hi ≡ own.hi = same_stored span.hi own.hi span.hi_in own.hi_in c.if-span-own-2.false in
    let equal : span ≡ own = same_ends span own lo hi in
    c.requires.own ∙ ap (λ (q : Span). Some (part.Span q)) (sym equal)

pub returns-else-span-own-2-clause-gives : goal.returns-else-span-own-2-clause-gives
returns-else-span-own-2-clause-gives c = gives_own c.args.path.now c.args.cell c.args.span.now (same c)

pub returns-else-span-own-2-clause-span : goal.returns-else-span-own-2-clause-span
returns-else-span-own-2-clause-span c = same c
