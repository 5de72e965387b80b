use Rattle.sym_check.proofs.GroupLaws.{keys_apart, keys_one, keys_append}
use Rattle.sym_check.proofs.laws.groups.keys_stand_in_order_of_appearance.Goals as goal

pub returns-clause-distinct : goal.returns-clause-distinct
returns-clause-distinct c = keys_apart

pub returns-clause-one : goal.returns-clause-one
returns-clause-one c = keys_one

pub returns-clause-more : goal.returns-clause-more
returns-clause-more c = keys_append
