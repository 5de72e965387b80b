use Rattle.std.proofs.Common.{◌≡◌, ◌∙◌, List, map, refl, sym, ap, subst}
use Rattle.sym_check.specs.Checking.CheckedScripts.{checked_plan}
use Rattle.sym_check.specs.Plan.ScriptPlans.{ScriptPlan}
use Rattle.sym_known.specs.Holding.{AllFit, KnownPath, KnownStandsFor, known_path}
use Rattle.sym_known.specs.Placing.{known_in}
use Rattle.sym_known.proofs.KnownCells.{all_known_fit, all_placed_known, all_placed_within, known_stand}
use Rattle.sym_known.proofs.known.Known.of.Goals as goal

pub invariant_of-result : goal.invariant_of-result
invariant_of-result c = all_placed_within c.place_all.new.outcomes.items c.into_vec.result.items c.in_ok-placed.placed.items c.in_ok-placed.ensures

pub returns-clause-paths : goal.returns-clause-paths
returns-clause-paths c = all_placed_known c.place_all.new.outcomes.items c.into_vec.result.items c.in_ok-placed.placed.items c.in_ok-placed.ensures ∙ ap (map known_path) c.into_vec.ensures

pub returns-clause-fits : goal.returns-clause-fits
returns-clause-fits c =
    let p : ScriptPlan = checked_plan c.args.checked.now in
    let same : map (known_in c.place_all.new.outcomes.items) c.in_ok-placed.placed.items ≡ map known_path c.args.segment =
    all_placed_known c.place_all.new.outcomes.items c.into_vec.result.items c.in_ok-placed.placed.items c.in_ok-placed.ensures ∙ ap (map known_path) c.into_vec.ensures in
    subst (λ (ks : List KnownPath). AllFit p ks) (sym same) (all_known_fit p (c.keys_states_and_steps_fit.ensures.state p) c.args.segment c.requires.fits c.requires.known)

pub returns-clause-stands : goal.returns-clause-stands
returns-clause-stands c = λ records stand.
    let p : ScriptPlan = checked_plan c.args.checked.now in
    let same : map (known_in c.place_all.new.outcomes.items) c.in_ok-placed.placed.items ≡ map known_path c.args.segment =
    all_placed_known c.place_all.new.outcomes.items c.into_vec.result.items c.in_ok-placed.placed.items c.in_ok-placed.ensures ∙ ap (map known_path) c.into_vec.ensures in
    subst (λ (ks : List KnownPath). KnownStandsFor p records ks) (sym same) (known_stand p records c.args.segment c.requires.known stand)
