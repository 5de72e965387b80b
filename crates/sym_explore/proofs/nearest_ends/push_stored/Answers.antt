use Rattle.std.proofs.Common.{◌≡◌, subst}
use Rattle.sym_path.specs.Narrowing.{GivesWhere}
use Rattle.sym_path.specs.declared.part.Part.TheVariants as part
use Rattle.sym_path.specs.declared.path.Path.{Path}
use Rattle.sym_explore.proofs.nearest_ends.push_stored.Goals as goal

pub returns : goal.returns
returns c =
    let same : c.in_ok-copy.copy ≡ c.args.path.now = c.in_ok-copy.ensures in
    record {
      pushed = c.put.new.path;
      is = c.in_ok-push.ensures.items;
      fits = c.in_ok-put.ensures.fits;
      goes_on = c.in_ok-put.ensures.next;
      narrowed = c.narrow_numbers.new.self;
      gives = subst (λ (q : Path). GivesWhere q c.args.line.now.cell (part.Span c.args.span.now) c.narrow_numbers.new.self) same c.narrow_numbers.ensures.gives;
      put = c.in_ok-put.ensures.gives;
    }
