-- Counts of paths: the path bound is the smaller of their number and a million.
use Rattle.std.proofs.Common.{◌≡◌, ℕ, ◌+◌, ◌*◌, ◌<◌, ◌≤◌, min, max, Bool, true, false, not, List, inl, inr, refl, ap, ◌∙◌, arith}
use Rattle.std.proofs.Math.Nat.{zero-mul, mul_comm, mul-le-mul}
use Rattle.std.proofs.lemmas.Bool.{cases_lt}
use Rattle.std.specs.Prelude.{if◌then◌else◌}
use Rattle.sym_base.specs.declared.limits.TheConstants as limit
use Rattle.sym_base.specs.declared.tree.compare.Compare.{Compare}
use Rattle.sym_base.specs.declared.tree.compare.Compare.TheVariants as compare
use Rattle.sym_check.specs.Plan.LinePlans.{TermPlan, OfNum, OfLine}
use Rattle.sym_check.specs.Plan.CondPlans.{CondPlan, Compared, Words, CellIs, LabelIs, Test, Not, And, Or}
use Rattle.sym_check.specs.Meaning.Conditions.{is_fixed}
use Rattle.sym_check.specs.Plan.DoPlans.{DoPlan, Let, SetInt, SetEnum, CopyEnum, Keep, KeepFrom, PushNum, PushWord, If, DosPlan, End, Then}
use Rattle.sym_check.specs.Meaning.PathBounds.{plus, times, counts, term_counts, do_ways, dos_ways, path_bound}
use Rattle.sym_check.specs.Plan.Ranges.{is_clamped}
use Rattle.sym_check.specs.Plan.ScriptPlans.{ScriptPlan}
use Rattle.sym_check.specs.declared.path_bound.Counts.{Counts}
use Rattle.sym_check.specs.declared.path_bound.Ways.{Ways}
use Rattle.sym_check.specs.declared.plan.script.CellPlan.{CellPlan}
use Rattle.sym_explore.specs.Counting.{term_branches, branches_of, do_going, dos_going, do_ended, dos_ended, made_paths}

-- ---- numbers that stop at a limit

nothing-times : (most a b : ℕ) → a ≤ 0 → min (min a most * min b most) most ≡ min (a * b) most
nothing-times most a b h =
    let left : min a most ≡ 0 = omega arith in
    let right : a ≡ 0 = omega arith in
    let product : min a most * min b most ≡ 0 = ap (λ (x : ℕ). x * min b most) left ∙ zero-mul (min b most) in
    let whole : a * b ≡ 0 = ap (λ (x : ℕ). x * b) right ∙ zero-mul b in
    omega arith

many-times : (most a b : ℕ) → most < a → 0 < b → min (min a most * min b most) most ≡ min (a * b) most
many-times most a b h g = elim (cases_lt 0 most) [
  | inl p ↦
      let left : min a most ≡ most = omega arith in
      let some : 1 ≤ min b most = omega arith in
      let same : most ≤ min a most = omega arith in
      let more : most ≤ a = omega arith in
      let product : most * 1 ≤ min a most * min b most = mul-le-mul same some in
      let whole : most * 1 ≤ a * b = mul-le-mul more g in
      omega arith
  | inr p ↦ omega arith
]

swapped : (most a b : ℕ) → min (min b most * min a most) most ≡ min (b * a) most → min (min a most * min b most) most ≡ min (a * b) most
swapped most a b h = ap (λ (x : ℕ). min x most) (mul_comm (min a most) (min b most)) ∙ h ∙ ap (λ (x : ℕ). min x most) (mul_comm b a)

times-capped : (most a b : ℕ) → min (min a most * min b most) most ≡ min (a * b) most
times-capped most a b = elim (cases_lt most a) [
  | inl p ↦ elim (cases_lt 0 b) [
    | inl q ↦ many-times most a b p q
    | inr q ↦ swapped most a b (nothing-times most b a q)
  ]
  | inr p ↦ elim (cases_lt most b) [
    | inl q ↦ elim (cases_lt 0 a) [
      | inl r ↦ swapped most a b (many-times most b a q r)
      | inr r ↦ nothing-times most a b r
    ]
    | inr q ↦
        let left : min a most ≡ a = omega arith in
        let right : min b most ≡ b = omega arith in
        λ i. min (left i * right i) most
  ]
]

abbrev capped : ℕ → ℕ
capped n = min n limit.PATHS_COUNTED

plus_is : (a b x y : ℕ) → x ≡ capped a → y ≡ capped b → plus x y ≡ capped (a + b)
plus_is a b x y e f = omega arith

times_is : (a b x y : ℕ) → x ≡ capped a → y ≡ capped b → times x y ≡ capped (a * b)
times_is a b x y e f = (λ i. times (e i) (f i)) ∙ times-capped limit.PATHS_COUNTED a b

max_is : (a b x y : ℕ) → x ≡ capped a → y ≡ capped b → max x y ≡ capped (max a b)
max_is a b x y e f = omega arith

-- ---- conditions

abbrev AreCounts : Counts → ℕ → ℕ → Type 0
AreCounts x t f = (x.true_paths ≡ capped t) × (x.false_paths ≡ capped f)

compare_capped : (c : Compare) (t : TermPlan) → AreCounts (term_counts c t) (term_branches c t true) (term_branches c t false)
compare_capped c (OfNum n) = (refl, refl)
compare_capped compare.Eq (OfLine l) = (refl, refl)
compare_capped compare.Ne (OfLine l) = (refl, refl)
compare_capped compare.Lt (OfLine l) = (refl, refl)
compare_capped compare.Le (OfLine l) = (refl, refl)
compare_capped compare.Gt (OfLine l) = (refl, refl)
compare_capped compare.Ge (OfLine l) = (refl, refl)

counts_capped : (c : CondPlan) → AreCounts (counts c) (branches_of c true) (branches_of c false)
counts_capped (Compared c t n) = compare_capped c t
counts_capped (Words v w) = (refl, refl)
counts_capped (CellIs c l) = (refl, refl)
counts_capped (LabelIs l m) = (refl, refl)
counts_capped (Test t c es) = (refl, refl)
counts_capped (Not c) = let h = counts_capped c in (h.1, h.0)
counts_capped (And c d) =
    let l = counts_capped c in
    let r = counts_capped d in
    (times_is _ _ _ _ l.0 r.0, plus_is _ _ _ _ l.1 (times_is _ _ _ _ l.0 r.1))
counts_capped (Or c d) =
    let l = counts_capped c in
    let r = counts_capped d in
    (plus_is _ _ _ _ l.0 (times_is _ _ _ _ l.1 r.0), times_is _ _ _ _ l.1 r.1)

-- ---- statements

abbrev AreWays : Ways → ℕ → ℕ → Type 0
AreWays x g e = (x.going ≡ capped g) × (x.ended ≡ capped e)

abbrev either_way : Bool → Counts → Ways → Ways → Ways
either_way fixed c a b =
    if fixed
    then record { going = max a.going b.going; ended = max a.ended b.ended }
    else record {
      going = plus (times c.true_paths a.going) (times c.false_paths b.going);
      ended = plus (times c.true_paths a.ended) (times c.false_paths b.ended);
    }

abbrev either_number : Bool → ℕ → ℕ → ℕ → ℕ → ℕ
either_number fixed t f a b = if fixed then max a b else t * a + f * b

either_capped : (fixed : Bool) (c : Counts) (t f : ℕ) (a b : Ways) (ag ae bg be : ℕ) → AreCounts c t f → AreWays a ag ae → AreWays b bg be → AreWays (either_way fixed c a b) (either_number fixed t f ag bg) (either_number fixed t f ae be)
either_capped true c t f a b ag ae bg be h l r = (max_is ag bg a.going b.going l.0 r.0, max_is ae be a.ended b.ended l.1 r.1)
either_capped false c t f a b ag ae bg be h l r = (
  plus_is (t * ag) (f * bg) (times c.true_paths a.going) (times c.false_paths b.going) (times_is t ag c.true_paths a.going h.0 l.0) (times_is f bg c.false_paths b.going h.1 r.0),
  plus_is (t * ae) (f * be) (times c.true_paths a.ended) (times c.false_paths b.ended) (times_is t ae c.true_paths a.ended h.0 l.1) (times_is f be c.false_paths b.ended h.1 r.1),
)

store_capped : (clamps : Bool) → AreWays (if clamps then record { going = 3; ended = 0 } else record { going = 1; ended = 2 }) (if clamps then 3 else 1) (if clamps then 0 else 2)
store_capped true = (refl, refl)
store_capped false = (refl, refl)

module _ (cells : List CellPlan) where
  mutual
    do_capped : (d : DoPlan) → AreWays (do_ways cells d) (do_going cells d) (do_ended cells d)
    do_capped (Let n e) = (refl, refl)
    do_capped (SetInt c t) = store_capped (is_clamped cells c)
    do_capped (SetEnum c l) = (refl, refl)
    do_capped (CopyEnum c d) = (refl, refl)
    do_capped (Keep c es) = (refl, refl)
    do_capped (KeepFrom c d) = (refl, refl)
    do_capped (PushNum c t) = store_capped (is_clamped cells c)
    do_capped (PushWord c w) = (refl, refl)
    do_capped (If c a b) = either_capped (is_fixed c) (counts c) (branches_of c true) (branches_of c false) (dos_ways cells a) (dos_ways cells b) (dos_going cells a) (dos_ended cells a) (dos_going cells b) (dos_ended cells b) (counts_capped c) (dos_capped a) (dos_capped b)

    dos_capped : (ds : DosPlan) → AreWays (dos_ways cells ds) (dos_going cells ds) (dos_ended cells ds)
    dos_capped End = (refl, refl)
    dos_capped (Then d rest) =
        let l = do_capped d in
        let r = dos_capped rest in (
          times_is (do_going cells d) (dos_going cells rest) (do_ways cells d).going (dos_ways cells rest).going l.0 r.0,
          plus_is (do_ended cells d) (do_going cells d * dos_ended cells rest) (do_ways cells d).ended (times (do_ways cells d).going (dos_ways cells rest).ended) l.1
              (times_is (do_going cells d) (dos_ended cells rest) (do_ways cells d).going (dos_ways cells rest).ended l.0 r.1),
        )

pub bound_counts : (p : ScriptPlan) → path_bound p ≡ min (made_paths p) limit.PATHS_COUNTED
bound_counts p =
    let h = dos_capped p.cells p.update in
    plus_is (dos_going p.cells p.update) (dos_ended p.cells p.update) (dos_ways p.cells p.update).going (dos_ways p.cells p.update).ended h.0 h.1

pub bound_is_count : (p : ScriptPlan) → path_bound p < limit.PATHS_COUNTED → made_paths p ≡ path_bound p
bound_is_count p = exact (path_bound p) (made_paths p) limit.PATHS_COUNTED (bound_counts p)
  where
    exact : (bound number most : ℕ) → bound ≡ min number most → bound < most → number ≡ bound
    exact bound number most h less = omega arith

-- ---- no count is zero

some-times : (a b : ℕ) → 1 ≤ a → 1 ≤ b → 1 ≤ a * b
some-times a b h g = let product : 1 * 1 ≤ a * b = mul-le-mul h g in product

some-plus : (a b : ℕ) → 1 ≤ a → 1 ≤ a + b
some-plus a b h = omega arith

terms_branch : (c : Compare) (t : TermPlan) (x : Bool) → 1 ≤ term_branches c t x
terms_branch c (OfNum n) x = omega arith
terms_branch compare.Eq (OfLine l) true = omega arith
terms_branch compare.Eq (OfLine l) false = omega arith
terms_branch compare.Ne (OfLine l) true = omega arith
terms_branch compare.Ne (OfLine l) false = omega arith
terms_branch compare.Lt (OfLine l) x = omega arith
terms_branch compare.Le (OfLine l) x = omega arith
terms_branch compare.Gt (OfLine l) x = omega arith
terms_branch compare.Ge (OfLine l) x = omega arith

pub conditions_branch : (c : CondPlan) (x : Bool) → 1 ≤ branches_of c x
conditions_branch (Compared c t n) x = terms_branch c t x
conditions_branch (Words v w) x = omega arith
conditions_branch (CellIs c l) x = omega arith
conditions_branch (LabelIs l m) x = omega arith
conditions_branch (Test t c es) x = omega arith
conditions_branch (Not c) x = conditions_branch c (not x)
conditions_branch (And c d) true = some-times (branches_of c true) (branches_of d true) (conditions_branch c true) (conditions_branch d true)
conditions_branch (And c d) false = some-plus (branches_of c false) (branches_of c true * branches_of d false) (conditions_branch c false)
conditions_branch (Or c d) true = some-plus (branches_of c true) (branches_of c false * branches_of d true) (conditions_branch c true)
conditions_branch (Or c d) false = some-times (branches_of c false) (branches_of d false) (conditions_branch c false) (conditions_branch d false)

some-either : (fixed : Bool) (t f a b : ℕ) → 1 ≤ t → 1 ≤ a → 1 ≤ either_number fixed t f a b
some-either true t f a b h l = omega arith
some-either false t f a b h l = some-plus (t * a) (f * b) (some-times t a h l)

pub store_goes_on : (clamps : Bool) → 1 ≤ (if clamps then 3 else 1)
store_goes_on true = omega arith
store_goes_on false = omega arith

module _ (cells : List CellPlan) where
  mutual
    pub statement_goes_on : (d : DoPlan) → 1 ≤ do_going cells d
    statement_goes_on (Let n e) = omega arith
    statement_goes_on (SetInt c t) = store_goes_on (is_clamped cells c)
    statement_goes_on (SetEnum c l) = omega arith
    statement_goes_on (CopyEnum c d) = omega arith
    statement_goes_on (Keep c es) = omega arith
    statement_goes_on (KeepFrom c d) = omega arith
    statement_goes_on (PushNum c t) = store_goes_on (is_clamped cells c)
    statement_goes_on (PushWord c w) = omega arith
    statement_goes_on (If c a b) = some-either (is_fixed c) (branches_of c true) (branches_of c false) (dos_going cells a) (dos_going cells b) (conditions_branch c true) (updates_go_on a)

    pub updates_go_on : (ds : DosPlan) → 1 ≤ dos_going cells ds
    updates_go_on End = omega arith
    updates_go_on (Then d rest) = some-times (do_going cells d) (dos_going cells rest) (statement_goes_on d) (updates_go_on rest)
