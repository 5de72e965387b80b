use Rattle.std.proofs.Common.{append_assoc}
use Rattle.sym_message.proofs.TellingLemmas.{told-along}
use Rattle.sym_message.proofs.message.tell_gap.Goals as goal

pub returns-clause-told : goal.returns-clause-told
returns-clause-told g c =
    told-along _ _ _ c.write_pieces.ensures.told (simp (c.format-number.ensures.text, append_assoc))
