use Rattle.std.proofs.Common.{subst}
use Rattle.std.specs.List.{All}
use Rattle.sym_check.specs.Meaning.Validity.{IsKey}
use Rattle.sym_run.proofs.LawfulRuns.{chain_lawful, keyed_groups_lawful, keyed_saved_lawful, recorded_saved_lawful, segment_lawful}
use Rattle.sym_run.proofs.laws.saved.what_stands_for_records_is_lawful.Goals as goal

pub returns-clause-segment : goal.returns-clause-segment
returns-clause-segment c = λ p records first next paths w all stands. segment_lawful p first next records paths w all stands

pub returns-clause-chain : goal.returns-clause-chain
returns-clause-chain c = λ p records first next chain w many all closed stands. chain_lawful p first next records chain w many all closed stands

pub returns-clause-groups : goal.returns-clause-groups
returns-clause-groups c = λ p records first next groups w are_keys numbered closed stands.
    keyed_groups_lawful p first next records groups w (subst (All (IsKey p)) stands.keys_are are_keys) numbered closed stands

pub returns-clause-saved : goal.returns-clause-saved
returns-clause-saved c = λ p records saved w are_keys from closed stands. keyed_saved_lawful p records saved w from closed stands are_keys

pub returns-clause-of_records : goal.returns-clause-of_records
returns-clause-of_records c = λ p records saved w kinds from closed stands. recorded_saved_lawful p records saved w from closed stands kinds
