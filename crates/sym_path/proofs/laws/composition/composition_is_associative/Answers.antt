use Rattle.sym_path.proofs.Agreeing.{both_ways_agree, both_ways_same}
use Rattle.sym_path.proofs.laws.composition.composition_is_associative.Goals as goal

pub returns : goal.returns
returns c = record {
  agree = λ p first second third from_left from_right s ways. both_ways_agree p first second third from_left from_right ways s;
  same = λ p first second third from_left from_right s ways. both_ways_same p first second third from_left from_right ways s;
}
