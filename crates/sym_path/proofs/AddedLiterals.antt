-- A path whose facts of a hold cell have one literal more.
use Rattle.std.proofs.Common.{◌≡◌, ◌↔◌, ℕ, zero, suc, Bool, true, false, ◌&&◌, List, [], ◌∷◌, get_or, Option, Some, None, inl, inr, refl, sym, ap, ◌∙◌, subst}
use Rattle.std.proofs.lemmas.Bool.{and_right}
use Rattle.std.proofs.lemmas.Bool.Decides.{Decides-and, Decides-like, same_from_decides}
use Rattle.std.proofs.lemmas.Option.{same_Some}
use Rattle.std.specs.FinMap.{get, insert}
use Rattle.std.specs.Prelude.{slice_get, slice_set, if◌then◌else◌}
use Rattle.std.specs.List.{All}
use Rattle.sym_base.specs.declared.values.value.Value.{Value}
use Rattle.sym_base.specs.declared.values.state.Cell.{Cell}
use Rattle.sym_base.specs.declared.values.state.Cell.TheVariants as cell
use Rattle.sym_base.specs.declared.values.state.Outcome.{Outcome}
use Rattle.sym_base.specs.States.{cell_parts, parts_at}
use Rattle.sym_base.specs.Tests.{Truth}
use Rattle.sym_check.specs.declared.plan.script.CellPlan.{CellPlan}
use Rattle.sym_check.specs.declared.plan.script.CellPlan.TheVariants as plan
use Rattle.sym_check.specs.declared.plan.script.KindPlan.{KindPlan}
use Rattle.sym_check.specs.Plan.ScriptPlans.{ScriptPlan}
use Rattle.sym_pred.proofs.CallersLemmas.{literal_stands, stands_at}
use Rattle.sym_pred.proofs.MeaningLemmas.{atoms, same_atom, inserted_here, inserted_else}
use Rattle.sym_pred.specs.Facts.{FactMap}
use Rattle.sym_pred.specs.Literals.{atom_of, literals}
use Rattle.sym_pred.specs.Meaning.{Stands}
use Rattle.sym_pred.specs.Meaning as facts
use Rattle.sym_pred.specs.declared.literal.Literal.{Literal}
use Rattle.sym_path.specs.declared.part.Part.{Part}
use Rattle.sym_path.specs.declared.part.Part.TheVariants as part
use Rattle.sym_path.specs.declared.path.Path.{Path}
use Rattle.sym_path.specs.Admitting.{admits, gives_outcome, part_admits}
use Rattle.sym_path.specs.Changing.{GivesWhereLiteral, SuitsCell}
use Rattle.sym_path.specs.Fitting.{PartFits, PathFits, Suits}
use Rattle.sym_path.specs.Fitting as fitting
use Rattle.sym_path.specs.Giving.{end_at, given}
use Rattle.sym_path.specs.Narrowing.{cell_admitted}
use Rattle.sym_path.proofs.Decided.{facts_decided, same_truth_decided}
use Rattle.sym_path.proofs.JoiningFits.{same_literal}
use Rattle.sym_path.proofs.Lists.{zip_at}
use Rattle.sym_path.proofs.Narrowed.{facts_give}
use Rattle.sym_path.proofs.NarrowedFits.{facts_fit}

-- Facts with a literal more admit what has its outcome too.
abbrev pub AdmitsMore : FactMap → Literal → FactMap → Type 0
AdmitsMore old literal new = (truth : Truth) (parts : List Value) →
    facts.Admits truth new parts ↔ (facts.Admits truth old parts × (truth literal.test literal.args parts ≡ literal.outcome))

cell_with_more : (truth : Truth) (old new : FactMap) (literal : Literal) → AdmitsMore old literal new → (o : Option Cell) → cell_admitted truth (part.Facts new) o ≡ (cell_admitted truth (part.Facts old) o && gives_outcome truth (cell_parts o) literal)
cell_with_more truth old new literal more None = refl
cell_with_more truth old new literal more (Some (cell.Enum l)) = refl
cell_with_more truth old new literal more (Some (cell.Int x)) = refl
cell_with_more truth old new literal more (Some (cell.Hold parts)) =
    let both = more truth parts in
    same_from_decides _ _
    (Decides-like _ both.0 both.1 (facts_decided truth new parts))
    (Decides-and _ _ (facts_decided truth old parts) (same_truth_decided literal.outcome (truth literal.test literal.args parts)))
cell_with_more truth old new literal more (Some (cell.Nums xs)) = refl
cell_with_more truth old new literal more (Some (cell.Words ts)) = refl

-- A constraint with a part that doesn't admit its cell admits nothing.
part_refuses : (truth : Truth) (ps : List Part) (cs : List Cell) (k : ℕ) (p : Part) → slice_get ps k ≡ Some p → cell_admitted truth p (slice_get cs k) ≡ false → admits truth ps cs ≡ false
part_refuses truth [] cs k p e h = absurd (cc)
part_refuses truth (q ∷ ps) [] k p e h = refl
part_refuses truth (q ∷ ps) (c ∷ cs) zero p e h =
    let same : p ≡ q = cc in
    let none : part_admits truth q c ≡ false = ap (λ (r : Part). part_admits truth r c) (sym same) ∙ h in
    rw none refl
part_refuses truth (q ∷ ps) (c ∷ cs) (suc k) p e h = and_right _ _ (part_refuses truth ps cs k p e h)

where_both : (a b x : Bool) (o : Outcome) → (a ≡ false → x ≡ false) → (if a && b then (if x then o ∷ [] else []) else []) ≡ (if b then (if x then o ∷ [] else []) else [])
where_both true b x o h = refl
where_both false true x o h = rw (h refl) refl
where_both false false x o h = refl

pub literal_gives : (c : ℕ) (known : FactMap) (literal : Literal) (more : FactMap) (old new : Path) → slice_get old.when c ≡ Some (part.Facts known) → AdmitsMore known literal more → new.when ≡ slice_set old.when c (part.Facts more) → new.end ≡ old.end → GivesWhereLiteral old c literal new
literal_gives c known literal more old new is admitted w same truth s =
    let narrowed : given truth new s ≡ (if cell_admitted truth (part.Facts more) (slice_get s.cells c) then given truth old s else []) = facts_give c known more old new is (λ t parts all. ((admitted t parts).0 all).0) w same truth s in
    let here : cell_admitted truth (part.Facts more) (slice_get s.cells c) ≡ (cell_admitted truth (part.Facts known) (slice_get s.cells c) && gives_outcome truth (parts_at s c) literal) = cell_with_more truth known more literal admitted (slice_get s.cells c) in
    narrowed ∙ ap (λ (b : Bool). if b then given truth old s else []) here ∙ where_both (cell_admitted truth (part.Facts known) (slice_get s.cells c)) (gives_outcome truth (parts_at s c) literal) (admits truth old.when s.cells) (end_at old.end s) (part_refuses truth old.when s.cells c (part.Facts known) is)

-- ---- that it fits

literals_suit : (p : ScriptPlan) (kinds : List KindPlan) (known : FactMap) (literal : Literal) → Suits p kinds literal → All (Suits p kinds) (literals known) → All (Suits p kinds) (literals (insert known (atom_of literal) literal.outcome))
literals_suit p kinds known literal suits all = λ k d l. one k d (literal_stands more k d l)
  where
    more : FactMap
    more = insert known (atom_of literal) literal.outcome

    one : (k : ℕ) (d : Literal) → Stands more (atom_of (get_or (literals more) k d)) (get_or (literals more) k d).outcome → Suits p kinds (get_or (literals more) k d)
    one k d stands =
        let x : Literal = get_or (literals more) k d in
        elim (atoms (atom_of x) (atom_of literal)) [
          | inl e ↦
              let same = same_atom (atom_of x) (atom_of literal) e in
              let here : Stands more (atom_of x) literal.outcome = ap (λ a. get more a) same ∙ inserted_here known (atom_of literal) literal.outcome in
              subst (λ (y : Literal). Suits p kinds y) (same_literal literal x (sym same) (same_Some _ _ (sym here ∙ stands))) suits
          | inr e ↦
              let old : Stands known (atom_of x) x.outcome = sym (inserted_else known (atom_of literal) literal.outcome (atom_of x) e) ∙ stands in
              let (i, within, is) = stands_at known (atom_of x) x.outcome old in
              subst (λ (y : Literal). Suits p kinds y) (same_literal (get_or (literals known) i x) x (is x).0 (is x).1) (all i x within)
        ]

suited_part : (p : ScriptPlan) (kinds : List KindPlan) (first : List Value) (known : FactMap) (literal : Literal) → Suits p kinds literal → PartFits p (plan.Hold kinds first) (part.Facts known) → PartFits p (plan.Hold kinds first) (part.Facts (insert known (atom_of literal) literal.outcome))
suited_part p _ _ _ literal suits (fitting.parts kinds first known all) = fitting.parts kinds first (insert known (atom_of literal) literal.outcome) (literals_suit p kinds known literal suits all)

pub literal_fits : (p : ScriptPlan) (c : ℕ) (known : FactMap) (literal : Literal) (more : FactMap) (old new : Path) → SuitsCell p c literal → slice_get old.when c ≡ Some (part.Facts known) → more ≡ insert known (atom_of literal) literal.outcome → new.when ≡ slice_set old.when c (part.Facts more) → new.end ≡ old.end → PathFits p old → PathFits p new
literal_fits p c known literal more old new suits is longer w same fits =
    let hold : CellPlan = plan.Hold suits.kinds suits.is_hold.first in
    let now : PartFits p hold (part.Facts known) = zip_at (PartFits p) p.cells old.when c hold (part.Facts known) fits.parts suits.is_hold.is is in
    let after : PartFits p hold (part.Facts more) = subst (λ (m : FactMap). PartFits p hold (part.Facts m)) (sym longer) (suited_part p suits.kinds suits.is_hold.first known literal suits.suits now) in
    facts_fit p c hold known more old new suits.is_hold.is is after w same fits
