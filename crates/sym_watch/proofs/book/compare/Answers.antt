use Rattle.std.proofs.Common.{List, ap, subst}
use mathlib.Core.List.{IsPrefix}
use Rattle.sym_watch.specs.declared.partial.Partial.{Partial}
use Rattle.sym_watch.proofs.Prefixes.{prefix_shorter}
use Rattle.sym_watch.proofs.Rising.{rises_prefix}
use Rattle.sym_watch.proofs.book.compare.Goals as goal

pub returns-clause-prefix : goal.returns-clause-prefix
returns-clause-prefix c =
    let both = c.learn.new.self.log in
    let short : IsPrefix c.args.short.now.log both =
    subst (λ (l : List Partial). IsPrefix l both) (ap (λ s. s.log) c.again-both.ensures)
    c.learn.ensures.2 in
    prefix_shorter c.args.short.now.log c.args.long.now.log both short c.learn.ensures.3
    c.requires.shorter

pub returns-clause-rises : goal.returns-clause-rises
returns-clause-rises c =
    rises_prefix c.args.long.now.log c.learn.new.self.log c.learn.ensures.3
    c.learn.ensures.4.1.rises
