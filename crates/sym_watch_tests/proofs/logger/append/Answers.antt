use Rattle.std.proofs.Common.{sym, ◌∙◌, ap}
use Rattle.sym_watch_tests.proofs.Entries.{appends_moves}
use Rattle.sym_watch_tests.proofs.logger.append.Goals as goal

pub compare_exchange-found-requires : goal.compare_exchange-found-requires
compare_exchange-found-requires c =
    let head = c.requires.head in
    let offer = c.plain-offer.ensures in
    let pen = c.no_pen-pen.ensures in
    let book = sym (ap (λ w. w.book) head) in (
      ap (λ w. w.tracked) head,
      book,
      pen.0 ∙ book,
      offer.0,
      rw (ap (λ w. w.key) head, pen.1, offer.1, offer.3)
          (appends_moves c.args.seen.now.log c.args.partial.now c.args.count c.args.next
          (sym c.requires.count.0) c.requires.count.1),
    )
