use Rattle.sym_path.proofs.Agreeing.{after_agrees_too, after_same, before_agrees, before_same, none_stand}
use Rattle.sym_path.proofs.laws.composition.path_of_all_is_neutral.Goals as goal

pub returns : goal.returns
returns c = record {
  before = λ p all paths segment s a l h v. before_agrees p all a l paths segment s v h;
  after = λ p all paths segment s a l fits h v. after_agrees_too p all a l paths segment s v fits h;
  same_before = λ p all paths segment s a l h v few. before_same p all a l paths segment s v h few;
  same_after = λ p all paths segment s a l fits h v few. after_same p all a l paths segment s v fits h few;
  stands = λ p all fits a l whole. none_stand p all a l fits whole;
}
