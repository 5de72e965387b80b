use Rattle.sym_file.proofs.Layouts.PrintedAlike.{printed_alike}
use Rattle.sym_file.proofs.Layouts.ScriptsAlike.{accepted_alike, broken_alike}
use Rattle.sym_file.proofs.laws.layouts_are_one_script.Goals as goal

pub returns-clause-printed : goal.returns-clause-printed
returns-clause-printed c = printed_alike

pub returns-clause-plan : goal.returns-clause-plan
returns-clause-plan c = accepted_alike

pub returns-clause-fault : goal.returns-clause-fault
returns-clause-fault c = broken_alike
