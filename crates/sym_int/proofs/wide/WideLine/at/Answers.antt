use Rattle.std.proofs.Common.{refl, lit<}
use Rattle.sym_base.specs.Limits.{num_max}
use Rattle.sym_int.proofs.Products.{shown_64, shown_line}
use Rattle.sym_int.specs.Bounds.{wide_slope_max, wide_max}
use Rattle.sym_int.proofs.wide.WideLine.at.Goals as goal

pub returns : goal.returns
returns c =
    rw (shown_64 c.args.x num_max c.requires (lit< tt), shown_line c.args.self.now.a c.args.x c.args.self.now.b wide_slope_max num_max wide_max c.args.self.now.a_in c.requires c.args.self.now.b_in (lit< tt) (lit< tt) (lit< tt)) refl
