use Rattle.std.proofs.Common.{append_assoc}
use Rattle.sym_message.proofs.TellingLemmas.{told-along}
use Rattle.sym_message.proofs.message.tell_script.Goals as goal

pub returns-clause-told : goal.returns-clause-told
returns-clause-told g c =
    told-along _ _ _ c.write_pieces.ensures.told
    (simp (c.format-place.ensures.text, c.fault_text.ensures, append_assoc))
