use Rattle.sym_path.proofs.PairsWithin.{composed_number, few_number, more_number, never_both}
use Rattle.sym_path.proofs.laws.pairs.few_pairs_are_composed.Goals as goal

pub returns : goal.returns
returns c = record {
  few = few_number;
  more = more_number;
  never = never_both;
  composed = λ p left right limit n made a h. composed_number p left right limit n made a h;
}
