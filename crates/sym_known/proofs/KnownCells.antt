-- Paths with known cells stand for their records as they are held at first.
use Rattle.std.proofs.Common.{◌≡◌, ◌<◌, ◌+◌, ℕ, zero, suc, Bool, true, false, List, [], ◌∷◌, ◌++◌, Option, Some, None, map, length, refl, sym, ap, ap₂, ◌∙◌, subst, arith}
use Rattle.std.proofs.lemmas.List.{append-nil}
use Rattle.std.proofs.lemmas.List.Elements.{All-cons, All-head, All-nil, All-tail}
use Rattle.std.specs.List.{All, AllZip}
use Rattle.std.specs.Prelude.{slice_get, if◌then◌else◌}
use Rattle.sym_base.specs.Tests.{Truth}
use Rattle.sym_base.specs.declared.values.record.Record.{Record}
use Rattle.sym_base.specs.declared.values.state.Cell.{Cell}
use Rattle.sym_base.specs.declared.values.state.Cell.TheVariants as cell
use Rattle.sym_base.specs.declared.values.state.State.{State}
use Rattle.sym_base.specs.declared.values.state.Outcome.{Outcome}
use Rattle.sym_base.specs.declared.values.state.Outcome.TheVariants.{Going}
use Rattle.sym_check.specs.declared.plan.script.CellPlan.{CellPlan}
use Rattle.sym_check.specs.Meaning.Conditions.{test_truth}
use Rattle.sym_check.specs.Meaning.Fitting.{FitsOutcome, FitsState}
use Rattle.sym_check.specs.Meaning.Updates.{after}
use Rattle.sym_check.specs.Meaning.Validity.{IsValid, IsValidCell, IsValidOutcome}
use Rattle.sym_check.specs.Meaning.Validity as valid
use Rattle.sym_check.specs.Plan.Ranges.{InRange}
use Rattle.sym_check.specs.Plan.ScriptPlans.{ScriptPlan}
use Rattle.sym_enum.specs.declared.form.EnumForm.TheVariants as label
use Rattle.sym_int.specs.declared.form.IntForm.TheVariants as number
use Rattle.sym_pred.specs.declared.form.HoldForm.TheVariants as hold
use Rattle.sym_path.specs.declared.form.Form.{Form}
use Rattle.sym_path.specs.declared.form.Form.TheVariants as form
use Rattle.sym_path.specs.declared.part.Part.{Part}
use Rattle.sym_path.specs.declared.path.PathEnd.{PathEnd}
use Rattle.sym_path.specs.declared.path.PathEnd.TheVariants.{Next, Ended}
use Rattle.sym_path.specs.declared.path.Path.{Path}
use Rattle.sym_path.specs.Admitting.{admits}
use Rattle.sym_path.specs.Fitting.{EndFits, FormFits, PathFits, SegmentFits}
use Rattle.sym_path.specs.Fitting as fitting
use Rattle.sym_path.specs.Giving.{cell_at, cells_at, end_at, given, nums_after, outcomes, words_after}
use Rattle.sym_path.specs.Standing.{EndsAmong, StandsFor}
use Rattle.sym_path.proofs.Lists.{zip_both, zip_length, zip_weak}
use Rattle.sym_path.proofs.OnlyOutcomes.{only_outcome}
use Rattle.sym_known.specs.declared.placed.Placed.{Placed}
use Rattle.sym_known.specs.Fronts.{in_front, with_fronts}
use Rattle.sym_known.specs.Holding.{AllFit, EndedAmong, KnownFits, KnownPath, KnownStandsFor, StaysEnded, known_at, known_given, known_outcomes, known_path}
use Rattle.sym_known.specs.Knowing.{AreKnown, HasKnownCells, IsKnown, known_cell, known_outcome, known_state}
use Rattle.sym_known.specs.Placing.{AllPlaced, AreKept, HoldsKnown, IsPlaceOf, IsPlaced, known_in, outcome_in, outcome_or}

-- ---- what known forms give

known_fronted : (f : Form) (s : State) (old : Cell) → IsKnown f → in_front (cell_at f s old) (known_cell f) ≡ cell_at f s old
known_fronted (form.Enum (label.Const l)) s old k = refl
known_fronted (form.Enum (label.Copy c)) s old k = absurd k
known_fronted (form.Int (number.Const n)) s old k = refl
known_fronted (form.Int (number.Line line)) s old k = absurd (cc)
known_fronted (form.Hold (hold.Const parts)) s old k = refl
known_fronted (form.Hold (hold.Copy c)) s old k = absurd k
known_fronted (form.Nums added) s old k = ap cell.Nums (append-nil (nums_after added s old))
known_fronted (form.Words added) s old k = ap cell.Words (append-nil (words_after added old))

-- The known cells after the lists that the forms give are what the forms give.
all_fronted : (forms : List Form) (s : State) (olds : List Cell) → All IsKnown forms → length forms ≡ length olds → with_fronts (cells_at forms s olds) (map known_cell forms) ≡ cells_at forms s olds
all_fronted [] s olds k long = refl
all_fronted (f ∷ forms) s [] k long = absurd (omega (arith, long))
all_fronted (f ∷ forms) s (old ∷ olds) k long =
    ap₂ (λ (c : Cell) (cells : List Cell). c ∷ cells) (known_fronted f s old (All-head IsKnown f forms k)) (all_fronted forms s olds (All-tail IsKnown f forms k) (omega (arith, long)))

known_gives : (p : ScriptPlan) (when : List Part) (end : PathEnd) (path : Path) (s : State) → path.end ≡ end → EndFits p when end → HasKnownCells end → IsValid p s → known_at (known_path path) s ≡ end_at path.end s
known_gives p when (Next forms) path s is h k v =
    let one : length p.cells ≡ length forms = zip_length (FormFits p when) p.cells forms h.each in
    let two : length p.cells ≡ length s.cells = zip_length (IsValidCell p.enums) p.cells s.cells v in
    rw is (ap (λ (cells : List Cell). Going (record { cells = cells })) (all_fronted forms s s.cells k (sym one ∙ two)))
known_gives p when (Ended fault) path s is h k v = rw is refl

if_same : (b : Bool) (x y : Outcome) → x ≡ y → (if b then x ∷ [] else []) ≡ (if b then y ∷ [] else [])
if_same b x y e = ap (λ (o : Outcome). if b then o ∷ [] else []) e

all_given : (p : ScriptPlan) (paths : List Path) (s : State) → SegmentFits p paths → AreKnown paths → IsValid p s → known_outcomes (test_truth p.tests) (map known_path paths) s ≡ outcomes (test_truth p.tests) paths s
all_given p [] s h k v = refl
all_given p (path ∷ paths) s h k v =
    let fits : PathFits p path = All-head (PathFits p) path paths h in
    let K : Path → Type 0 = λ q. HasKnownCells q.end in
    let here : known_at (known_path path) s ≡ end_at path.end s = known_gives p path.when path.end path s refl fits.end (All-head K path paths k) v in
    ap₂ (λ (xs ys : List Outcome). xs ++ ys) (if_same (admits (test_truth p.tests) path.when s.cells) (known_at (known_path path) s) (end_at path.end s) here)
    (all_given p paths s (All-tail (PathFits p) path paths h) (All-tail K path paths k) v)

-- ---- what fits

cell_valid : (p : ScriptPlan) (when : List Part) (cp : CellPlan) (f : Form) → FormFits p when cp f → IsKnown f → IsValidCell p.enums cp (known_cell f)
cell_valid p when _ _ (fitting.of_label of first l h) k = valid.enum of first l h
cell_valid p when _ _ (fitting.copied_label of first c h) k = absurd k
cell_valid p when _ _ (fitting.of_number lo hi first (number.Const n) h) k = valid.int lo hi first _ n.value h
cell_valid p when _ _ (fitting.of_number lo hi first (number.Line line) h) k = absurd (cc)
cell_valid p when _ _ (fitting.of_parts kinds first parts h) k = valid.hold kinds first parts h
cell_valid p when _ _ (fitting.copied_parts kinds first c h) k = absurd k
cell_valid p when _ _ (fitting.of_numbers lo hi added h) k = valid.nums lo hi _ [] (All-nil (InRange lo hi))
cell_valid p when _ _ (fitting.of_words added) k = valid.words []

cells_valid : (p : ScriptPlan) (when : List Part) (cps : List CellPlan) (forms : List Form) → AllZip (FormFits p when) cps forms → All IsKnown forms → AllZip (IsValidCell p.enums) cps (map known_cell forms)
cells_valid p when [] [] h k = tt
cells_valid p when [] (f ∷ forms) h k = absurd h
cells_valid p when (cp ∷ cps) [] h k = absurd h
cells_valid p when (cp ∷ cps) (f ∷ forms) h k = (cell_valid p when cp f h.0 (All-head IsKnown f forms k), cells_valid p when cps forms h.1 (All-tail IsKnown f forms k))

end_valid : (p : ScriptPlan) (when : List Part) (end : PathEnd) → EndFits p when end → HasKnownCells end → IsValidOutcome p (known_outcome end)
end_valid p when (Next forms) h k = cells_valid p when p.cells forms h.each k
end_valid p when (Ended fault) h k = tt

end_fits : (p : ScriptPlan) → ((s : State) → IsValid p s → FitsState p s) → (when : List Part) (end : PathEnd) → EndFits p when end → HasKnownCells end → FitsOutcome p (known_outcome end)
end_fits p state when (Next forms) h k = state (known_state forms) (cells_valid p when p.cells forms h.each k)
end_fits p state when (Ended fault) h k = h

end_stays : (end : PathEnd) → StaysEnded end (known_outcome end)
end_stays (Next forms) = tt
end_stays (Ended fault) = refl

pub all_known_fit : (p : ScriptPlan) → ((s : State) → IsValid p s → FitsState p s) → (paths : List Path) → SegmentFits p paths → AreKnown paths → AllFit p (map known_path paths)
all_known_fit p state [] h k = All-nil (KnownFits p)
all_known_fit p state (path ∷ paths) h k =
    let fits : PathFits p path = All-head (PathFits p) path paths h in
    let K : Path → Type 0 = λ q. HasKnownCells q.end in
    let known : HasKnownCells path.end = All-head K path paths k in
    All-cons (KnownFits p) (known_path path) (map known_path paths)
    (record { path = fits; cells = known; ended = end_stays path.end; valid = end_valid p path.when path.end fits.end known; fits = end_fits p state path.when path.end fits.end known })
    (all_known_fit p state paths (All-tail (PathFits p) path paths h) (All-tail K path paths k))

-- ---- what they stand for

end_among : (records : List Record) (end : PathEnd) → EndsAmong records end → EndedAmong records (known_outcome end)
end_among records (Next forms) h = tt
end_among records (Ended fault) h = h

all_among : (records : List Record) (paths : List Path) → All (λ (path : Path). EndsAmong records path.end) paths → All (λ (k : KnownPath). EndedAmong records k.outcome) (map known_path paths)
all_among records [] h = All-nil (λ (k : KnownPath). EndedAmong records k.outcome)
all_among records (path ∷ paths) h =
    let P : Path → Type 0 = λ q. EndsAmong records q.end in
    All-cons (λ (k : KnownPath). EndedAmong records k.outcome) (known_path path) (map known_path paths) (end_among records path.end (All-head P path paths h)) (all_among records paths (All-tail P path paths h))

pub known_stand : (p : ScriptPlan) (records : List Record) (paths : List Path) → AreKnown paths → StandsFor p records paths → KnownStandsFor p records (map known_path paths)
known_stand p records paths k h = record {
  faults = all_among records paths h.faults;
  exact = λ s v. all_given p paths s h.fits k v ∙ (only_outcome (test_truth p.tests) paths s (after p records (Going s))).1 (h.exact s v);
}

-- ---- where outcomes stand

outcome_known : (os : List Outcome) (end : PathEnd) (place : ℕ) → HoldsKnown os end place → outcome_in os place end ≡ known_outcome end
outcome_known os (Next forms) place h = ap outcome_or h
outcome_known os (Ended fault) place h = refl

within : (os : List Outcome) (i : ℕ) (o : Outcome) → slice_get os i ≡ Some o → i < length os
within [] i o e = absurd (cc)
within (x ∷ os) zero o e = omega arith
within (x ∷ os) (suc i) o e = let k = within os i o e in omega (arith, k)

place_within : (os : List Outcome) (end : PathEnd) (place : ℕ) → HoldsKnown os end place → IsPlaceOf (length os) end place
place_within os (Next forms) place h = within os place (Going (known_state forms)) h
place_within os (Ended fault) place h = tt

known_placed : (os : List Outcome) (path : Path) (x : Placed) → IsPlaced os path x → known_in os x ≡ known_path path
known_placed os path x h =
    subst (λ (q : Path). record { path = q; outcome = outcome_in os x.place q.end } ≡ known_path path) (sym h.path)
    (ap (λ (o : Outcome). record { path = path; outcome = o }) (outcome_known os path.end x.place h.place))

pub all_placed_known : (os : List Outcome) (paths : List Path) (placed : List Placed) → AllZip (IsPlaced os) paths placed → map (known_in os) placed ≡ map known_path paths
all_placed_known os [] [] h = refl
all_placed_known os [] (x ∷ placed) h = absurd h
all_placed_known os (path ∷ paths) [] h = absurd h
all_placed_known os (path ∷ paths) (x ∷ placed) h = ap₂ (λ (k : KnownPath) (ks : List KnownPath). k ∷ ks) (known_placed os path x h.0) (all_placed_known os paths placed h.1)

pub all_placed_within : (os : List Outcome) (paths : List Path) (placed : List Placed) → AllZip (IsPlaced os) paths placed → AllPlaced (length os) placed
all_placed_within os [] [] h = All-nil (λ (x : Placed). IsPlaceOf (length os) x.path.end x.place)
all_placed_within os [] (x ∷ placed) h = absurd h
all_placed_within os (path ∷ paths) [] h = absurd h
all_placed_within os (path ∷ paths) (x ∷ placed) h =
    All-cons (λ (y : Placed). IsPlaceOf (length os) y.path.end y.place) x placed
    (subst (λ (q : Path). IsPlaceOf (length os) q.end x.place) (sym h.0.path) (place_within os path.end x.place h.0.place))
    (all_placed_within os paths placed h.1)

kept_place : (os new : List Outcome) (end : PathEnd) (place : ℕ) → AreKept os new → HoldsKnown os end place → HoldsKnown new end place
kept_place os new (Next forms) place kept h = kept place (Going (known_state forms)) h
kept_place os new (Ended fault) place kept h = tt

-- One path more is placed, where outcomes stay at their places.
pub placed_push : (os new : List Outcome) (paths : List Path) (placed all : List Placed) (path : Path) (x : Placed) → AreKept os new → x.path ≡ path → HoldsKnown new path.end x.place → all ≡ placed ++ x ∷ [] → AllZip (IsPlaced os) paths placed → AllZip (IsPlaced new) (paths ++ path ∷ []) all
placed_push os new paths placed all path x kept same held pushed h =
    subst (λ (xs : List Placed). AllZip (IsPlaced new) (paths ++ path ∷ []) xs) (sym pushed)
    (zip_both (IsPlaced new) paths placed path x (record { path = same; place = held })
    (zip_weak (IsPlaced os) (IsPlaced new) paths placed (λ q y old. record { path = old.path; place = kept_place os new q.end y.place kept old.place }) h))
