use Rattle.std.proofs.Common.{◌≡◌, ◌≤◌, ◌∙◌, List, length, map, refl, sym, ap, subst, arith}
use Rattle.std.proofs.lemmas.Result.{IfOk-weaker}
use Rattle.std.specs.List.{All, AllZip}
use Rattle.sym_base.specs.declared.values.record.Record.{Record}
use Rattle.sym_base.specs.declared.values.state.Outcome.{Outcome}
use Rattle.sym_check.specs.Checking.CheckedScripts.{checked_plan}
use Rattle.sym_check.specs.Plan.ScriptPlans.{ScriptPlan}
use Rattle.sym_check.specs.Plan.WellFormed.{IsWellFormed}
use Rattle.sym_path.specs.declared.path.Path.{Path}
use Rattle.sym_path.specs.Fitting.{SegmentFits}
use Rattle.sym_path.specs.Settling.{IsSettling}
use Rattle.sym_path.specs.Standing.{StandsFor}
use Rattle.sym_path.proofs.Lists.{zip_length}
use Rattle.sym_path.proofs.SettlingStands.{settled_stand}
use Rattle.sym_known.specs.Closing.{CanBeClosed, IsClosed}
use Rattle.sym_known.specs.Holding.{KnownPath, KnownStandsFor}
use Rattle.sym_known.specs.Placing.{known_in}
use Rattle.sym_known.proofs.Closed.{all_can, closed_fit, closed_stand}
use Rattle.sym_known.proofs.known.Known.close.Goals as goal

pub close_all-requires-clause-can : goal.close_all-requires-clause-can
close_all-requires-clause-can c =
    let p : ScriptPlan = checked_plan c.args.checked.now in
    let self : List KnownPath = c.args.self in
    let view : map (known_in c.as_slice.result.now) c.self.inside.placed.items ≡ self = ap (λ (os : List Outcome). map (known_in os) c.self.inside.placed.items) c.as_slice.ensures.value ∙ c.self.view_is in
    let well : IsWellFormed p = subst IsWellFormed c.plan-plan.ensures.same c.plan-plan.ensures.well_formed in
    subst (λ (ks : List KnownPath). All CanBeClosed ks) (sym view) (all_can p well self c.requires.fits)

pub returns-clause-stands : goal.returns-clause-stands
returns-clause-stands c =
    let p : ScriptPlan = checked_plan c.args.checked.now in
    let self : List KnownPath = c.args.self in
    let view : map (known_in c.as_slice.result.now) c.self.inside.placed.items ≡ self = ap (λ (os : List Outcome). map (known_in os) c.self.inside.placed.items) c.as_slice.ensures.value ∙ c.self.view_is in
    let paths : List Path = c.in_ok-paths.paths.items in
    let zip : AllZip IsClosed self paths = subst (λ (ks : List KnownPath). AllZip IsClosed ks paths) view c.in_ok-paths.ensures in
    IfOk-weaker c.settle.result (IsSettling paths) (λ segment. (records : List Record) → KnownStandsFor p records self → StandsFor p records segment)
    (λ segment settling records stand. settled_stand p records paths segment (closed_stand p records self paths c.requires.fits zip stand) settling) c.settle.ensures

pub returns-clause-fits : goal.returns-clause-fits
returns-clause-fits c =
    let p : ScriptPlan = checked_plan c.args.checked.now in
    let self : List KnownPath = c.args.self in
    let view : map (known_in c.as_slice.result.now) c.self.inside.placed.items ≡ self = ap (λ (os : List Outcome). map (known_in os) c.self.inside.placed.items) c.as_slice.ensures.value ∙ c.self.view_is in
    let paths : List Path = c.in_ok-paths.paths.items in
    let zip : AllZip IsClosed self paths = subst (λ (ks : List KnownPath). AllZip IsClosed ks paths) view c.in_ok-paths.ensures in
    IfOk-weaker c.settle.result (IsSettling paths) (λ segment. SegmentFits p segment)
    (λ segment settling. settling.reduced.fits p (closed_fit p self paths c.requires.fits zip)) c.settle.ensures

pub returns-clause-few : goal.returns-clause-few
returns-clause-few c =
    let p : ScriptPlan = checked_plan c.args.checked.now in
    let self : List KnownPath = c.args.self in
    let view : map (known_in c.as_slice.result.now) c.self.inside.placed.items ≡ self = ap (λ (os : List Outcome). map (known_in os) c.self.inside.placed.items) c.as_slice.ensures.value ∙ c.self.view_is in
    let paths : List Path = c.in_ok-paths.paths.items in
    let zip : AllZip IsClosed self paths = subst (λ (ks : List KnownPath). AllZip IsClosed ks paths) view c.in_ok-paths.ensures in
    let long : length self ≡ length paths = zip_length IsClosed self paths zip in
    IfOk-weaker c.settle.result (IsSettling paths) (λ segment. length segment ≤ length self)
    (λ segment settling. let few = settling.reduced.few in omega (arith, few, long)) c.settle.ensures
