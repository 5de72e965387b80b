-- Some entries were put to the places, and are marked.
use Rattle.sym_check.specs.Plan.ScriptPlans.{script_plan}
use Rattle.sym_file.proofs.Scanned.{IsPlacing}
use Rattle.sym_file.proofs.scan.place_entries.Given as goal

abbrev pub invariant-entries : goal.invariant-entries
invariant-entries l = IsPlacing (script_plan l.plan) l.text l.count l.bytes l.fn.groups l.counter l.rest l.groups l.marks.items
