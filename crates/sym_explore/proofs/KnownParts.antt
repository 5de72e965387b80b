-- The parts of conditions and statements that are known are known too.
use Rattle.std.proofs.Common.{◌≡◌, []}
use Rattle.sym_base.specs.declared.values.record.Record.{Record}
use Rattle.sym_check.specs.Plan.CondPlans.{CondPlan}
use Rattle.sym_check.specs.Plan.DoPlans.{DoPlan, DosPlan, If, Then}
use Rattle.sym_check.specs.Meaning.FixedValues.{Environment}
use Rattle.sym_check.specs.Plan.ScriptPlans.{ScriptPlan}
use Rattle.sym_check.specs.Meaning.Updates.{environment, environment_after}
use Rattle.sym_check.specs.Meaning.Validity.{IsRecord}
use Rattle.sym_check.specs.Plan.WellFormed.{Kinds, IsKnown, IsDo, IsDos, IsWellFormed, known_kinds}
use Rattle.sym_check.specs.Plan.WellFormed as well
use Rattle.sym_check.proofs.ValidSteps.{fixed_is, more_known, record_known}
use Rattle.sym_explore.specs.Knowing.{DoIsKnown, DosAreKnown}
use Rattle.sym_explore.specs.Running.{HasValue}

-- ---- conditions

-- ---- statements

first_is : (p : ScriptPlan) (k : Environment) (kinds : Kinds) (d : DoPlan) (rest : DosPlan) → IsKnown p.enums kinds k → IsDos p kinds (Then d rest) → DoIsKnown p k d
first_is p k _ _ _ h (well.followed kinds later d rest t r) = record { kinds = kinds; later = later; known = h; well = t }

pub first_known : (p : ScriptPlan) (k : Environment) (d : DoPlan) (rest : DosPlan) → DosAreKnown p k (Then d rest) → DoIsKnown p k d
first_known p k d rest h = first_is p k h.kinds d rest h.known h.well

otherwise_is : (p : ScriptPlan) (k : Environment) (kinds later : Kinds) (c : CondPlan) (a b : DosPlan) → IsKnown p.enums kinds k → IsDo p kinds (If c a b) later → DosAreKnown p k b
otherwise_is p k _ _ _ _ _ h (well.branch kinds c a b t ta tb) = record { kinds = kinds; known = h; well = tb }

pub otherwise_known : (p : ScriptPlan) (k : Environment) (c : CondPlan) (a b : DosPlan) → DoIsKnown p k (If c a b) → DosAreKnown p k b
otherwise_known p k c a b h = otherwise_is p k h.kinds h.later c a b h.known h.well

named_known : (p : ScriptPlan) (k : Environment) (kinds later : Kinds) (d : DoPlan) → IsDo p kinds d later → IsKnown p.enums kinds k → HasValue k d → IsKnown p.enums later (environment_after k d)
named_known p k _ _ _ (well.let_value kinds n last e free t) h (v, is) = rw is (more_known p.enums kinds k n last v h (fixed_is p.enums kinds k h last e v t is))
named_known p k _ _ _ (well.set_int kinds c t w u) h v = h
named_known p k _ _ _ (well.set_enum kinds c l w) h v = h
named_known p k _ _ _ (well.copy_enum kinds c d w) h v = h
named_known p k _ _ _ (well.keep kinds c es w) h v = h
named_known p k _ _ _ (well.keep_from kinds c d w) h v = h
named_known p k _ _ _ (well.push_num kinds c t w u) h v = h
named_known p k _ _ _ (well.push_word kinds c w u t) h v = h
named_known p k _ _ _ (well.branch kinds c a b t ta tb) h v = h

rest_is : (p : ScriptPlan) (k : Environment) (kinds : Kinds) (d : DoPlan) (rest : DosPlan) → IsKnown p.enums kinds k → IsDos p kinds (Then d rest) → HasValue k d → DosAreKnown p (environment_after k d) rest
rest_is p k _ _ _ h (well.followed kinds later d rest t r) v = record { kinds = later; known = named_known p k kinds later d t h v; well = r }

-- The rest of a block after a statement that gives its local a value, if it names one.
pub rest_known : (p : ScriptPlan) (k after : Environment) (d : DoPlan) (rest : DosPlan) → DosAreKnown p k (Then d rest) → HasValue k d → after ≡ environment_after k d → DosAreKnown p after rest
rest_known p k after d rest h v e = rw e (rest_is p k h.kinds d rest h.known h.well v)

-- The update at a record.
pub update_known : (p : ScriptPlan) (rec : Record) → IsWellFormed p → IsRecord p rec → DosAreKnown p (environment rec []) p.update
update_known p rec w r = record { kinds = known_kinds p; known = record_known p rec r; well = w.update }
