use Rattle.std.proofs.Common.{◌∙◌, sym}
use Rattle.std.proofs.lemmas.List.{take_rest}
use Rattle.csv.proofs.ReadFacts.{strip-short}
use Rattle.sym_table.proofs.Marks.{mark_cut, no_mark}
use Rattle.sym_table.proofs.mark.without_mark.Goals as goal

pub returns-then-bytes-lt3 : goal.returns-then-bytes-lt3
returns-then-bytes-lt3 c = sym (strip-short c.args.bytes.now c.if-bytes-lt3.true)

pub returns-then-is_mark : goal.returns-then-is_mark
returns-then-is_mark c =
    take_rest c.args.bytes.now 3
    ∙ sym (mark_cut c.args.bytes.now c.if-bytes-lt3.false (sym c.is_mark.ensures ∙ c.if-is_mark.true))

pub returns-else-is_mark : goal.returns-else-is_mark
returns-else-is_mark c =
    sym (no_mark c.args.bytes.now c.if-bytes-lt3.false (sym c.is_mark.ensures ∙ c.if-is_mark.false))
