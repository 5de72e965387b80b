-- What conditions make of lists of paths, from what their parts do.
use Rattle.std.proofs.Common.{◌≡◌, ◌≤◌, ◌+◌, ℕ, Bool, true, false, List, [], ◌++◌, Option, map, length, refl, sym, ap, ◌∙◌, subst, arith, length-append}
use Rattle.std.proofs.lemmas.List.{append-nil, length-map}
use Rattle.std.proofs.lemmas.List.Elements.{All-append, All-nil, All-weaker}
use Rattle.std.specs.Prelude.{if◌then◌else◌}
use Rattle.sym_base.specs.declared.values.state.Fault.{Fault}
use Rattle.sym_base.specs.declared.values.state.FaultKind.TheVariants as kind
use Rattle.sym_base.specs.declared.values.state.Outcome.{Outcome}
use Rattle.sym_base.specs.declared.values.value.Value.{Value}
use Rattle.sym_check.specs.Plan.CondPlans.{CondPlan, Not, And, Or}
use Rattle.sym_check.specs.Meaning.FixedValues.{Environment}
use Rattle.sym_check.specs.Plan.ScriptPlans.{ScriptPlan}
use Rattle.sym_path.specs.declared.path.Path.{Path}
use Rattle.sym_path.specs.Changing.{GoesOn, with_fault}
use Rattle.sym_path.specs.Fitting.{PathFits, SegmentFits}
use Rattle.sym_explore.specs.Branches.{AreGoing, IsGoing}
use Rattle.sym_explore.specs.Counting.{branches_of}
use Rattle.sym_explore.specs.Evaluating.{cell_branches, tried_on_cell}
use Rattle.sym_explore.specs.Parting.{AllGoOn, AreFewParts, AreParts, at_state}
use Rattle.sym_explore.specs.Running.{CanRun}
use Rattle.sym_explore.specs.Trying.{CondWasTried, EvaluatedWasTried, WereTried}
use Rattle.sym_explore.specs.declared.parted_lists.CellCondition.{CellCondition}
use Rattle.sym_explore.specs.declared.parted_lists.Evaluated.TheVariants.{Known, Failed, Open}
use Rattle.sym_explore.proofs.PartedConnected.{and_parts, not_parts, or_parts}
use Rattle.sym_explore.proofs.PartedCounts.{and_few, fewer_parts, or_few}
use Rattle.sym_explore.proofs.PartedLists.{failed_came, failed_fit, failed_parts, known_parts, parts_alike, with_ended}

-- ---- paths that a step can be run on

pub can_run_both : (p : ScriptPlan) (xs ys now ended : List Path) → now ≡ xs ++ ys → CanRun p xs ended → CanRun p ys ended → CanRun p now ended
can_run_both p xs ys now ended is h k = record {
  fits = subst (SegmentFits p) (sym is) (All-append (PathFits p) xs ys h.fits k.fits);
  going = subst AllGoOn (sym is) (All-append (λ (path : Path). GoesOn path.end) xs ys h.going k.going);
  ended_fit = h.ended_fit;
}

-- Beside other paths that have ended.
pub can_run_beside : (p : ScriptPlan) (paths before ended : List Path) → CanRun p paths before → SegmentFits p ended → CanRun p paths ended
can_run_beside p paths before ended h fit = record { fits = h.fits; going = h.going; ended_fit = fit }

pub can_run_none : (p : ScriptPlan) (paths ended : List Path) → paths ≡ [] → SegmentFits p ended → CanRun p paths ended
can_run_none p paths ended none fit = record {
  fits = subst (SegmentFits p) (sym none) (All-nil (PathFits p));
  going = subst AllGoOn (sym none) (All-nil (λ (path : Path). GoesOn path.end));
  ended_fit = fit;
}

can_run_all : (p : ScriptPlan) (paths ended : List Path) → AreGoing p paths → SegmentFits p ended → CanRun p paths ended
can_run_all p paths ended each fit = record {
  fits = All-weaker (IsGoing p) (PathFits p) (λ path h. h.fits) paths each;
  going = All-weaker (IsGoing p) (λ (path : Path). GoesOn path.end) (λ path h. h.goes_on) paths each;
  ended_fit = fit;
}

-- ---- conditions that aren't connected

module _ (p : ScriptPlan) (args : List Value) (n : ℕ) (old new before ended : List Path) (can : CanRun p old ended) (others : CanRun p before ended) where
  pub known_tried : (after : List Path) (x : Bool) → new ≡ (if x then old else []) → after ≡ before ++ (if x then [] else old) → EvaluatedWasTried p args n (Known x) old new before after ended ended
  known_tried after true is more =
      let same : after ≡ before = more ∙ append-nil before in
      let a : length new ≡ length old = ap length is in
      let b : length after ≡ length before = ap length same in
      record {
        exact = known_parts p n true old new before after ended ended can.going is more refl;
        trues = subst (λ (ps : List Path). CanRun p ps ended) (sym is) can;
        falses = subst (λ (ps : List Path). CanRun p ps ended) (sym same) others;
        few = record { trues = omega (arith, a); falses = omega (arith, b); all = omega (arith, a, b) };
        faults = λ records has ends. ends;
      }
  known_tried after false is more =
      let a : length new ≡ 0 = ap length is in
      let b : length after ≡ length before + length old = ap length more ∙ length-append before old in
      record {
        exact = known_parts p n false old new before after ended ended can.going is more refl;
        trues = can_run_none p new ended is can.ended_fit;
        falses = can_run_both p before old after ended more others can;
        few = record { trues = omega (arith, a); falses = omega (arith, b); all = omega (arith, a, b) };
        faults = λ records has ends. ends;
      }

  pub failed_tried : (ended_after : List Path) (fault : Fault) → fault.kind ≡ kind.Arith → fault.no ≡ n → new ≡ [] → ended_after ≡ ended ++ map (λ (x : Path). with_fault x fault) old → EvaluatedWasTried p args n Failed old new before before ended ended_after
  failed_tried ended_after fault arith_kind number none more =
      let failing : Path → Path = λ (x : Path). with_fault x fault in
      let fit : SegmentFits p ended_after = failed_fit p fault old ended ended_after arith_kind can.fits can.ended_fit more in
      let a : length new ≡ 0 = ap length none in
      let b : length ended_after ≡ length ended + length old = omega (arith, ap length more, length-append ended (map failing old), length-map old failing) in
      record {
        exact = failed_parts p n (record {}) fault old new before before ended ended_after (λ i. record { kind = arith_kind i; no = number i }) none refl more;
        trues = can_run_none p new ended_after none fit;
        falses = can_run_beside p before ended ended_after others fit;
        few = record { trues = omega (arith, a); falses = omega arith; all = omega (arith, a, b) };
        faults = failed_came n fault old ended ended_after number can.going more;
      }

  pub open_tried : (after : List Path) (q : CellCondition) → AreParts p (tried_on_cell p args q n) old new before after [] [] → AreFewParts (cell_branches q) old new before after [] [] → AreGoing p new → AreGoing p after → EvaluatedWasTried p args n (Open q) old new before after ended ended
  open_tried after q exact few going falses = record {
    exact = with_ended p (tried_on_cell p args q n) old new before after ended exact;
    trues = can_run_all p new ended going can.ended_fit;
    falses = can_run_all p after ended falses can.ended_fit;
    few = record { trues = few.trues; falses = few.falses; all = omega (arith, few.all) };
    faults = λ records has ends. ends;
  }

-- ---- no paths

pub none_tried : (p : ScriptPlan) (n : ℕ) (meaning : Outcome → Outcome × Option Bool) (most : Bool → ℕ) (old before ended : List Path) → old ≡ [] → CanRun p old ended → CanRun p before ended → WereTried p meaning n most old old before before ended ended
none_tried p n meaning most old before ended none can others =
    let exact : AreParts p meaning [] [] before before ended ended = λ s once. record { trues = refl; falses = sym (append-nil (at_state p before s)); ended = sym (append-nil (at_state p ended s)) } in
    let few : AreFewParts most [] [] before before ended ended = record { trues = omega arith; falses = omega arith; all = omega arith } in
    record {
      exact = subst (λ (ps : List Path). AreParts p meaning ps ps before before ended ended) (sym none) exact;
      trues = can;
      falses = others;
      few = subst (λ (ps : List Path). AreFewParts most ps ps before before ended ended) (sym none) few;
      faults = λ records has ends. ends;
    }

-- ---- the same of other meanings

pub tried_alike : (p : ScriptPlan) (n : ℕ) (f g : Outcome → Outcome × Option Bool) (some most : Bool → ℕ) (old new before after ended ended_after : List Path) → ((o : Outcome) → f o ≡ g o) → ((x : Bool) → some x ≤ most x) → WereTried p f n some old new before after ended ended_after → WereTried p g n most old new before after ended ended_after
tried_alike p n f g some most old new before after ended ended_after alike less h = record {
  exact = parts_alike p f g old new before after ended ended_after alike h.exact;
  trues = h.trues;
  falses = h.falses;
  few = fewer_parts some most old new before after ended ended_after less h.few;
  faults = h.faults;
}

-- ---- connected conditions

module _ (p : ScriptPlan) (k : Environment) (n : ℕ) (whole : CondPlan) (old : List Path) where
  pub not_tried : (c : CondPlan) → whole ≡ Not c → (first none rest before after ended ended_after : List Path) → none ≡ [] → after ≡ before ++ first → CanRun p before ended → CondWasTried p k n c old first none rest ended ended_after → CondWasTried p k n whole old rest before after ended ended_after
  not_tried c is first none rest before after ended ended_after empty moved others h =
      let a : length none ≡ 0 = ap length empty in
      let b : length after ≡ length before + length first = ap length moved ∙ length-append before first in
      let few : AreFewParts (branches_of (Not c)) old rest before after ended ended_after =
      record { trues = omega (arith, a, h.few.falses); falses = omega (arith, b, h.few.trues); all = omega (arith, a, b, h.few.all) } in
      record {
        exact = not_parts p k n whole c is old first none rest before after ended ended_after empty moved h.exact;
        trues = h.falses;
        falses = can_run_both p before first after ended_after moved (can_run_beside p before ended ended_after others h.trues.ended_fit) h.trues;
        few = subst (λ (e : CondPlan). AreFewParts (branches_of e) old rest before after ended ended_after) (sym is) few;
        faults = h.faults;
      }

  pub and_tried : (c d : CondPlan) → whole ≡ And c d → (first new before middle after ended ended_middle ended_after : List Path) → CondWasTried p k n c old first before middle ended ended_middle → CondWasTried p k n d first new middle after ended_middle ended_after → CondWasTried p k n whole old new before after ended ended_after
  and_tried c d is first new before middle after ended ended_middle ended_after h g = record {
    exact = and_parts p k n whole c d is old first new before middle after ended ended_middle ended_after h.exact g.exact;
    trues = g.trues;
    falses = g.falses;
    few = and_few whole c d is old first new before middle after ended ended_middle ended_after h.few g.few;
    faults = λ records has ends. g.faults records has (h.faults records has ends);
  }

  pub or_tried : (c d : CondPlan) → whole ≡ Or c d → (first none rest more new before after ended ended_middle ended_after : List Path) → none ≡ [] → new ≡ first ++ more → CondWasTried p k n c old first none rest ended ended_middle → CondWasTried p k n d rest more before after ended_middle ended_after → CondWasTried p k n whole old new before after ended ended_after
  or_tried c d is first none rest more new before after ended ended_middle ended_after empty moved h g = record {
    exact = or_parts p k n whole c d is old first none rest more new before after ended ended_middle ended_after empty moved h.exact g.exact;
    trues = can_run_both p first more new ended_after moved (can_run_beside p first ended_middle ended_after h.trues g.trues.ended_fit) g.trues;
    falses = g.falses;
    few = or_few whole c d is old first none rest more new before after ended ended_middle ended_after empty moved h.few g.few;
    faults = λ records has ends. g.faults records has (h.faults records has ends);
  }
