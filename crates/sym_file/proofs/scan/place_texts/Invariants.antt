-- The first texts were put to the places.
use Rattle.std.proofs.Common.{map}
use Rattle.sym_check.specs.Plan.ScriptPlans.{script_plan}
use Rattle.sym_file.proofs.Scanned.{ArePlacing}
use Rattle.sym_file.proofs.scan.place_texts.Given as goal

abbrev pub invariant-texts : goal.invariant-texts
invariant-texts l = ArePlacing l.own (script_plan l.plan) (map (λ text. text.items) l.texts) l.fn.groups l.text l.groups l.spans.items
