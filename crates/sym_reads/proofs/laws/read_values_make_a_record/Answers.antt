use Rattle.sym_reads.proofs.FilledRecords.{blank_is_record, marked_is_record, marked_agrees, marked_steps}
use Rattle.sym_reads.proofs.laws.read_values_make_a_record.Goals as goal

pub returns-clause-blank : goal.returns-clause-blank
returns-clause-blank c = blank_is_record

pub returns-clause-of_script : goal.returns-clause-of_script
returns-clause-of_script c = marked_is_record

pub returns-clause-agrees : goal.returns-clause-agrees
returns-clause-agrees c = marked_agrees

pub returns-clause-steps : goal.returns-clause-steps
returns-clause-steps c = marked_steps
