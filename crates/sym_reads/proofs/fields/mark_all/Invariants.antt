-- The values that are left make of the marks so far what all of them make of the first ones.
use Rattle.std.proofs.Common.{◌≡◌, drop, map}
use Rattle.sym_check.specs.Plan.FixedPlans.{fixed_plan}
use Rattle.sym_reads.specs.NamedFields.{with_marks, fields_of_all}
use Rattle.sym_reads.proofs.fields.mark_all.Given as goal

abbrev pub invariant-values : goal.invariant-values
invariant-values l = with_marks (fields_of_all (map fixed_plan (drop l.value-index l.value-items))) l.reads ≡ with_marks (fields_of_all (map fixed_plan l.value-items)) l.fn.reads
