-- How many paths there are after a condition.
use Rattle.std.proofs.Common.{◌≡◌, ◌≤◌, ◌+◌, ◌*◌, ◌-◌, ℕ, Bool, true, false, List, [], ◌∷◌, ◌++◌, length, refl, sym, ap, subst, arith, length-append}
use Rattle.std.proofs.Math.Nat.{mul-le-mul_left, mul-le-mul_right, le-mul_of_pos_right}
use Rattle.std.specs.Prelude.{if◌then◌else◌}
use Rattle.sym_check.specs.Plan.CondPlans.{CondPlan, And, Or}
use Rattle.sym_int.specs.Cuts.{count_truth}
use Rattle.sym_path.specs.declared.path.Path.{Path}
use Rattle.sym_explore.specs.declared.branch.Branch.{Branch}
use Rattle.sym_explore.specs.Branches.{branches_with, paths_false, paths_true}
use Rattle.sym_explore.specs.Counting.{branches_of}
use Rattle.sym_explore.specs.Parting.{AreFewParts}
use Rattle.sym_explore.proofs.CountedPaths.{conditions_branch}

-- ---- branches by their truth

pub count_true : (bs : List Branch) → length (paths_true bs) ≡ branches_with true bs
count_true [] = refl
count_true (b ∷ bs) = go b.truth (count_true bs)
  where
    go : (x : Bool) → length (paths_true bs) ≡ branches_with true bs → length (if x then b.path ∷ paths_true bs else paths_true bs) ≡ count_truth true x + branches_with true bs
    go true h = omega (arith, h)
    go false h = omega (arith, h)

pub count_false : (bs : List Branch) → length (paths_false bs) ≡ branches_with false bs
count_false [] = refl
count_false (b ∷ bs) = go b.truth (count_false bs)
  where
    go : (x : Bool) → length (paths_false bs) ≡ branches_with false bs → length (if x then paths_false bs else b.path ∷ paths_false bs) ≡ count_truth false x + branches_with false bs
    go true h = omega (arith, h)
    go false h = omega (arith, h)

-- ---- connected conditions

pub fewer_parts : (some most : Bool → ℕ) (old trues falses_before falses ended_before ended : List Path) → ((x : Bool) → some x ≤ most x) → AreFewParts some old trues falses_before falses ended_before ended → AreFewParts most old trues falses_before falses ended_before ended
fewer_parts some most old trues falses_before falses ended_before ended less h =
    let a = h.trues in
    let b = h.falses in
    let c = h.all in
    let d : length old * some true ≤ length old * most true = mul-le-mul_left (length old) (less true) in
    let e : length old * some false ≤ length old * most false = mul-le-mul_left (length old) (less false) in
    record { trues = omega arith; falses = omega arith; all = omega arith }

more_times : (a d r : ℕ) → 1 ≤ r → a * r + (a + d) ≤ (a + d) * r + a
more_times a d r h = let m : d ≤ d * r = le-mul_of_pos_right d h in omega arith

-- More of the paths that become several in place of others.
pub as_many : (a l r : ℕ) → a ≤ l → 1 ≤ r → a * r + l ≤ l * r + a
as_many a l r h g = let e : a + (l - a) ≡ l = omega arith in subst (λ (n : ℕ). a * r + n ≤ n * r + a) e (more_times a (l - a) r g)

pub and_few : (whole c d : CondPlan) → whole ≡ And c d → (old first trues falses_before falses_middle falses ended_before ended_middle ended : List Path) → AreFewParts (branches_of c) old first falses_before falses_middle ended_before ended_middle → AreFewParts (branches_of d) first trues falses_middle falses ended_middle ended → AreFewParts (branches_of whole) old trues falses_before falses ended_before ended
and_few whole c d is old first trues falses_before falses_middle falses ended_before ended_middle ended h g =
    subst (λ (e : CondPlan). AreFewParts (branches_of e) old trues falses_before falses ended_before ended) (sym is)
    (let n = length old in
    let t = branches_of c true in
    let once : 1 ≤ branches_of d true + branches_of d false = omega (arith, conditions_branch d true) in
    let i = h.trues in
    let j = h.falses in
    let k = h.all in
    let l = g.trues in
    let m = g.falses in
    let o = g.all in
    let u : length first * branches_of d true ≤ (n * t) * branches_of d true = mul-le-mul_right (branches_of d true) i in
    let v : length first * branches_of d false ≤ (n * t) * branches_of d false = mul-le-mul_right (branches_of d false) i in
    let w : length first * (branches_of d true + branches_of d false) + n * t ≤ (n * t) * (branches_of d true + branches_of d false) + length first = as_many (length first) (n * t) (branches_of d true + branches_of d false) i once in
    record { trues = omega arith; falses = omega arith; all = omega arith })

pub or_few : (whole c d : CondPlan) → whole ≡ Or c d → (old first none rest more trues falses_before falses ended_before ended_middle ended : List Path) → none ≡ [] → trues ≡ first ++ more → AreFewParts (branches_of c) old first none rest ended_before ended_middle → AreFewParts (branches_of d) rest more falses_before falses ended_middle ended → AreFewParts (branches_of whole) old trues falses_before falses ended_before ended
or_few whole c d is old first none rest more trues falses_before falses ended_before ended_middle ended empty moved h g =
    subst (λ (e : CondPlan). AreFewParts (branches_of e) old trues falses_before falses ended_before ended) (sym is)
    (let n = length old in
    let f = branches_of c false in
    let once : 1 ≤ branches_of d true + branches_of d false = omega (arith, conditions_branch d true) in
    let a = ap (λ (ps : List Path). length ps) empty in
    let b = ap (λ (ps : List Path). length ps) moved in
    let e = length-append first more in
    let i = h.trues in
    let j : length rest ≤ n * f = let q = h.falses in omega arith in
    let k = h.all in
    let l = g.trues in
    let m = g.falses in
    let o = g.all in
    let u : length rest * branches_of d true ≤ (n * f) * branches_of d true = mul-le-mul_right (branches_of d true) j in
    let v : length rest * branches_of d false ≤ (n * f) * branches_of d false = mul-le-mul_right (branches_of d false) j in
    let w : length rest * (branches_of d true + branches_of d false) + n * f ≤ (n * f) * (branches_of d true + branches_of d false) + length rest = as_many (length rest) (n * f) (branches_of d true + branches_of d false) j once in
    record { trues = omega arith; falses = omega arith; all = omega arith })
