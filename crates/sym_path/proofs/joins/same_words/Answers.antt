use Rattle.std.proofs.lemmas.Bool.Decides.{Decides-at}
use Rattle.std.specs.Cmp.Lexicographic.{pointwise_decides, bytes_decides}
use Rattle.sym_path.proofs.joins.same_words.Goals as goal

pub returns : goal.returns
returns c = Decides-at _ _ c.eq.ensures (pointwise_decides bytes_decides c.args.other.now c.args.form.now)
