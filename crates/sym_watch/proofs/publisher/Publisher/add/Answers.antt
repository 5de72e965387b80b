use Rattle.std.proofs.Common.{rules, ◌≡◌, List, [], ◌∷◌, ◌++◌, length, ap, ◌∙◌, length-append}
use Rattle.sym_plain.specs.Shown.{last}
use Rattle.sym_watch.specs.declared.partial.Partial.{Partial}
use Rattle.sym_watch.proofs.Rising.{last_more}
use Rattle.sym_watch.proofs.publisher.Publisher.add.Goals as goal

pub replace_with-requires : goal.replace_with-requires
replace_with-requires g c =
    let p = c.args.partial in
    let before = c.self.inside.seen.log in
    let log = ap (λ s. s.log) c.again.ensures ∙ c.if-not-append.ensures.log
    ∙ ap (λ s. s.log ++ p ∷ []) c.again-seen.ensures in (
      record {
        alloc = c.args.alloc;
        partial = p;
        count = c.in_ok-count.count;
        seen = c.again.result;
      },
      search rules,
      search rules,
      ap length log ∙ length-append before (p ∷ []) ∙ search rules,
      ap last log ∙ last_more before p,
    )
