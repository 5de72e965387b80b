-- Paths of which a form is replaced, or that end by a fault.
use Rattle.std.proofs.Common.{◌≡◌, ℕ, zero, suc, List, [], ◌∷◌, map, Bool, true, false, refl, ap}
use Rattle.std.proofs.lemmas.List.{set-set}
use Rattle.std.proofs.lemmas.List.Elements.{All-set}
use Rattle.std.specs.Prelude.{slice_get, slice_set, if◌then◌else◌}
use Rattle.sym_base.specs.declared.values.state.Cell.{Cell}
use Rattle.sym_base.specs.declared.values.state.Fault.{Fault}
use Rattle.sym_base.specs.declared.values.state.State.{State}
use Rattle.sym_base.specs.declared.values.state.Outcome.{Outcome}
use Rattle.sym_base.specs.Tests.{Truth}
use Rattle.sym_check.specs.Meaning.Fitting.{FitsFault}
use Rattle.sym_check.specs.Plan.ScriptPlans.{ScriptPlan}
use Rattle.sym_path.specs.declared.part.Part.{Part}
use Rattle.sym_path.specs.declared.form.Form.{Form}
use Rattle.sym_path.specs.declared.path.PathEnd.{PathEnd}
use Rattle.sym_path.specs.declared.path.PathEnd.TheVariants.{Next, Ended}
use Rattle.sym_path.specs.declared.path.Path.{Path}
use Rattle.sym_path.specs.Admitting.{admits}
use Rattle.sym_path.specs.Changing.{FormFitsCell, cell_or, changed, end_by, end_with_form, ended_by, formed, with_fault, with_form}
use Rattle.sym_path.specs.Fitting.{EndFits, FormFits, PathFits}
use Rattle.sym_path.specs.Giving.{cell_at, cells_at, end_at, given}
use Rattle.sym_path.specs.Taking.{IsTakenOn}
use Rattle.sym_path.proofs.Lists.{zip_set}

-- ---- what they give

cells_replaced : (forms : List Form) (c : ℕ) (f : Form) (s : State) (cells : List Cell) → cells_at (slice_set forms c f) s cells ≡ slice_set (cells_at forms s cells) c (cell_at f s (cell_or (slice_get cells c)))
cells_replaced [] c f s cells = refl
cells_replaced (g ∷ forms) zero f s [] = refl
cells_replaced (g ∷ forms) (suc c) f s [] = refl
cells_replaced (g ∷ forms) zero f s (old ∷ cells) = refl
cells_replaced (g ∷ forms) (suc c) f s (old ∷ cells) = ap (λ rest. cell_at g s old ∷ rest) (cells_replaced forms c f s cells)

end_replaced : (end : PathEnd) (c : ℕ) (f : Form) (s : State) → end_at (end_with_form c f end) s ≡ changed (formed c f s) (end_at end s)
end_replaced (Next forms) c f s = ap (λ (cells : List Cell). changed (λ _. record { cells = cells }) (end_at (Next forms) s)) (cells_replaced forms c f s s.cells)
end_replaced (Ended fault) c f s = refl

end_failed : (end : PathEnd) (fault : Fault) (s : State) → end_at (end_by fault end) s ≡ ended_by fault (end_at end s)
end_failed (Next forms) fault s = refl
end_failed (Ended old) fault s = refl

given_changed : (a : Bool) (f : Outcome → Outcome) (new old : Outcome) → new ≡ f old → (if a then new ∷ [] else []) ≡ map f (if a then old ∷ [] else [])
given_changed true f new old e = ap (λ o. o ∷ []) e
given_changed false f new old e = refl

pub forms_give : (truth : Truth) (s : State) (path : Path) (c : ℕ) (f : Form) → given truth (with_form path c f) s ≡ map (changed (formed c f s)) (given truth path s)
forms_give truth s path c f = given_changed (admits truth path.when s.cells) (changed (formed c f s)) (end_at (end_with_form c f path.end) s) (end_at path.end s) (end_replaced path.end c f s)

pub faults_give : (truth : Truth) (s : State) (path : Path) (fault : Fault) → given truth (with_fault path fault) s ≡ map (ended_by fault) (given truth path s)
faults_give truth s path fault = given_changed (admits truth path.when s.cells) (ended_by fault) (end_at (end_by fault path.end) s) (end_at path.end s) (end_failed path.end fault s)

-- ---- the later of two forms

end_twice : (end : PathEnd) (c : ℕ) (f g : Form) → end_with_form c g (end_with_form c f end) ≡ end_with_form c g end
end_twice (Next forms) c f g = ap (λ (fs : List Form). Next fs) (set-set forms c f g)
end_twice (Ended fault) c f g = refl

pub later_form : (path : Path) (c : ℕ) (f g : Form) → with_form (with_form path c f) c g ≡ with_form path c g
later_form path c f g = ap (λ (end : PathEnd). record path { end = end }) (end_twice path.end c f g)

-- ---- that they fit

end_form_fits : (p : ScriptPlan) (when : List Part) (c : ℕ) (f : Form) (end : PathEnd) → EndFits p when end → FormFitsCell p when c f → EndFits p when (end_with_form c f end)
end_form_fits p when c f (Next forms) fits cell = record {
  each = zip_set (FormFits p when) p.cells forms c cell.kind f fits.each cell.is cell.fits;
  taken = All-set (IsTakenOn when) forms c f cell.taken fits.taken;
}
end_form_fits p when c f (Ended fault) fits cell = fits

pub forms_fit : (p : ScriptPlan) (path : Path) (c : ℕ) (f : Form) → PathFits p path → FormFitsCell p path.when c f → PathFits p (with_form path c f)
forms_fit p path c f fits cell = record { parts = fits.parts; end = end_form_fits p path.when c f path.end fits.end cell }

end_fault_fits : (p : ScriptPlan) (when : List Part) (fault : Fault) (end : PathEnd) → EndFits p when end → FitsFault p fault.kind → EndFits p when (end_by fault end)
end_fault_fits p when fault (Next forms) fits kind = kind
end_fault_fits p when fault (Ended old) fits kind = fits

pub faults_fit : (p : ScriptPlan) (path : Path) (fault : Fault) → PathFits p path → FitsFault p fault.kind → PathFits p (with_fault path fault)
faults_fit p path fault fits kind = record { parts = fits.parts; end = end_fault_fits p path.when fault path.end fits.end kind }
