-- How many paths statements make of lists of paths.
use Rattle.std.proofs.Common.{◌≡◌, ◌≤◌, ◌+◌, ◌-◌, ◌*◌, inl, inr, max, ℕ, Bool, true, false, List, [], ◌++◌, length, refl, sym, subst, ap, arith, length-append}
use Rattle.std.proofs.Math.Nat.{mul-le-mul_left, mul-le-mul_right, mul_assoc}
use Rattle.std.proofs.lemmas.Nat.{mul-le}
use Rattle.std.specs.Prelude.{if◌then◌else◌, IsTrue}
use Rattle.sym_check.specs.declared.plan.script.CellPlan.{CellPlan}
use Rattle.sym_check.specs.Plan.CondPlans.{CondPlan}
use Rattle.sym_check.specs.Meaning.Conditions.{is_fixed}
use Rattle.sym_check.specs.Plan.DoPlans.{If, DosPlan}
use Rattle.sym_path.specs.declared.path.Path.{Path}
use Rattle.sym_explore.specs.Counting.{branches_of, if_paths, do_going, do_ended, dos_going, dos_ended}
use Rattle.sym_explore.specs.Parting.{AreFewParts, AreFewRun, AreOfOneTruth}
use Rattle.sym_explore.proofs.CountedPaths.{updates_go_on}

-- x things become at most r each: those that are fewer than most become fewer too, by at least as
-- many.
room : (x most r : ℕ) → x ≤ most → 1 ≤ r → x * r + most ≤ most * r + x
room x most r h once =
    let P : ℕ → Type 0 = λ n. x * n + most ≤ most * n + x in
    let e : (r - 1) + 1 ≡ r = omega (arith, once) in
    let m : x * (r - 1) ≤ most * (r - 1) = mul-le-mul_right (r - 1) h in
    let more : (n : ℕ) → x * n ≤ most * n → P (n + 1) = λ n less. omega (arith, less) in
    subst P e (more (r - 1) m)

pub few_none : (g e : ℕ) (before : List Path) → AreFewRun g e [] [] before before
few_none g e before = record { going = omega arith; all = omega arith }

-- ---- statements in order

pub few_then : (g e g' e' : ℕ) (old middle new before ended after : List Path) → 1 ≤ g' → AreFewRun g e old middle before ended → AreFewRun g' e' middle new ended after → AreFewRun (g * g') (e + g * e') old new before after
few_then g e g' e' old middle new before ended after once h k = record {
  going =
      let m : length middle * g' ≤ length old * g * g' = mul-le-mul_right g' h.going in
      omega (arith, k.going, m, mul_assoc (length old) g g');
  all = sum (length old) (length middle) (length new) (length before) (length ended) (length after) h.going h.all k.all;
}
  where
    sum : (o m n b d a : ℕ) → m ≤ o * g → m + d ≤ b + o * (g + e) → n + a ≤ d + m * (g' + e') → n + a ≤ b + o * (g * g' + (e + g * e'))
    sum o m n b d a hg ha ka =
        let r : m * (g' + e') + o * g ≤ o * g * (g' + e') + m = room m (o * g) (g' + e') hg (omega (arith, once)) in
        let x : o * (g * (g' + e')) ≡ o * g * (g' + e') = omega (arith, mul_assoc o g (g' + e')) in
        omega (arith, r, x, ha, ka)

-- ---- both sides of an `if`

-- One side has no paths, and the other one has no more than there were.
one_side : (o t b failed d a x y g e most_going most_ended : ℕ) → t ≤ o → t + failed ≤ b + o → 1 ≤ g → g ≤ most_going → e ≤ most_ended → x ≤ t * g → x + d ≤ failed + t * (g + e) → y ≤ 0 → y + a ≤ d → (x + y ≤ o * most_going) × (x + y + a ≤ b + o * (most_going + most_ended))
one_side o t b failed d a x y g e most_going most_ended within all once less fewer going sum none end =
    let m : t * g ≤ o * most_going = mul-le t g o most_going within less in
    let r : t * (g + e) ≤ t * (most_going + most_ended) = mul-le-mul_left t (omega (arith, less, fewer)) in
    let q : t * (most_going + most_ended) + o ≤ o * (most_going + most_ended) + t = room t o (most_going + most_ended) within (omega (arith, once, less)) in (
      omega (arith, going, none, m),
      omega (arith, sum, none, end, r, q, all),
    )

module _ (ga ea gb eb : ℕ) (once : 1 ≤ ga) (twice : 1 ≤ gb) (old trues falses before failed then_paths ended else_paths after : List Path) (k : AreFewRun ga ea trues then_paths failed ended) (l : AreFewRun gb eb falses else_paths ended after) where
  few_cut : (most : Bool → ℕ) → AreFewParts most old trues [] falses before failed → AreFewRun (most true * ga + most false * gb) (most true * ea + most false * eb) old (then_paths ++ else_paths) before after
  few_cut most h = record {
    going =
        let m : length trues * ga ≤ length old * most true * ga = mul-le-mul_right ga h.trues in
        let n : length falses * gb ≤ length old * most false * gb = mul-le-mul_right gb (omega (arith, h.falses)) in
        omega (arith, length-append then_paths else_paths, k.going, l.going, m, n);
    all =
        let r : length trues * (ga + ea) + length old * most true ≤ length old * most true * (ga + ea) + length trues = room (length trues) (length old * most true) (ga + ea) h.trues (omega (arith, once)) in
        let q : length falses * (gb + eb) + length old * most false ≤ length old * most false * (gb + eb) + length falses = room (length falses) (length old * most false) (gb + eb) (omega (arith, h.falses)) (omega (arith, twice)) in
        omega (arith, length-append then_paths else_paths, k.all, l.all, h.all, r, q);
  }

  few_then_side : AreOfOneTruth old trues [] falses before failed → falses ≡ [] → (length then_paths + length else_paths ≤ length old * max ga gb) × (length then_paths + length else_paths + length after ≤ length before + length old * (max ga gb + max ea eb))
  few_then_side h none =
      let f : length falses ≡ 0 = ap length none in
      let fg : length falses * gb ≡ 0 * gb = ap (λ n. n * gb) f in
      let fa : length falses * (gb + eb) ≡ 0 * (gb + eb) = ap (λ n. n * (gb + eb)) f in
      one_side (length old) (length trues) (length before) (length failed) (length ended) (length after) (length then_paths) (length else_paths) ga ea (max ga gb) (max ea eb)
      (omega (arith, f, h.going)) (omega (arith, f, h.all)) once (omega arith) (omega arith)
      k.going k.all (omega (arith, l.going, fg)) (omega (arith, l.all, fa))

  few_else_side : AreOfOneTruth old trues [] falses before failed → trues ≡ [] → (length else_paths + length then_paths ≤ length old * max ga gb) × (length else_paths + length then_paths + length after ≤ length before + length old * (max ga gb + max ea eb))
  few_else_side h none =
      let t : length trues ≡ 0 = ap length none in
      let tg : length trues * ga ≡ 0 * ga = ap (λ n. n * ga) t in
      let ta : length trues * (ga + ea) ≡ 0 * (ga + ea) = ap (λ n. n * (ga + ea)) t in
      let empty : length then_paths ≤ 0 = omega (arith, k.going, tg) in
      one_side (length old) (length falses) (length before) (length failed) (length after) (length after) (length else_paths) (length then_paths) gb eb (max ga gb) (max ea eb)
      (omega (arith, t, h.going)) (omega (arith, t, h.all)) twice (omega arith) (omega arith)
      l.going (omega (arith, k.all, ta, l.all)) empty (omega (arith, empty))

  few_one : AreOfOneTruth old trues [] falses before failed → AreFewRun (max ga gb) (max ea eb) old (then_paths ++ else_paths) before after
  few_one h = elim h.one [
    | inl none ↦
        let few = few_then_side h none in record {
          going = omega (arith, length-append then_paths else_paths, few.0);
          all = omega (arith, length-append then_paths else_paths, few.1);
        }
    | inr none ↦
        let few = few_else_side h none in record {
          going = omega (arith, length-append then_paths else_paths, few.0);
          all = omega (arith, length-append then_paths else_paths, few.1);
        }
  ]

if_most : (c : CondPlan) (a b : ℕ) (x : Bool) → is_fixed c ≡ x → if_paths c a b ≡ (if x then max a b else branches_of c true * a + branches_of c false * b)
if_most c a b x fixed = ap (λ z. if z then max a b else branches_of c true * a + branches_of c false * b) fixed

same_few : (c : CondPlan) (ga gb ea eb : ℕ) (x : Bool) → is_fixed c ≡ x → (old new before after : List Path) → AreFewRun (if x then max ga gb else branches_of c true * ga + branches_of c false * gb) (if x then max ea eb else branches_of c true * ea + branches_of c false * eb) old new before after → AreFewRun (if_paths c ga gb) (if_paths c ea eb) old new before after
same_few c ga gb ea eb x fixed old new before after h =
    let P : ℕ → Type 0 = λ n. AreFewRun n (if_paths c ea eb) old new before after in
    let Q : ℕ → Type 0 = λ n. AreFewRun (if x then max ga gb else branches_of c true * ga + branches_of c false * gb) n old new before after in
    subst P (sym (if_most c ga gb x fixed)) (subst Q (sym (if_most c ea eb x fixed)) h)

pub few_if : (cells : List CellPlan) (c : CondPlan) (a b : DosPlan) (old trues falses before failed then_paths ended else_paths after : List Path) → AreFewParts (branches_of c) old trues [] falses before failed → (IsTrue (is_fixed c) → AreOfOneTruth old trues [] falses before failed) → AreFewRun (dos_going cells a) (dos_ended cells a) trues then_paths failed ended → AreFewRun (dos_going cells b) (dos_ended cells b) falses else_paths ended after → AreFewRun (do_going cells (If c a b)) (do_ended cells (If c a b)) old (then_paths ++ else_paths) before after
few_if cells c a b old trues falses before failed then_paths ended else_paths after h one k l = fixed_or_not (is_fixed c) refl
  where
    fixed_or_not : (x : Bool) → is_fixed c ≡ x → AreFewRun (do_going cells (If c a b)) (do_ended cells (If c a b)) old (then_paths ++ else_paths) before after
    fixed_or_not true fixed =
        let few = few_one (dos_going cells a) (dos_ended cells a) (dos_going cells b) (dos_ended cells b) (updates_go_on cells a) (updates_go_on cells b) old trues falses before failed then_paths ended else_paths after k l (one fixed) in
        same_few c (dos_going cells a) (dos_going cells b) (dos_ended cells a) (dos_ended cells b) true fixed old (then_paths ++ else_paths) before after few
    fixed_or_not false fixed =
        let few = few_cut (dos_going cells a) (dos_ended cells a) (dos_going cells b) (dos_ended cells b) (updates_go_on cells a) (updates_go_on cells b) old trues falses before failed then_paths ended else_paths after k l (branches_of c) h in
        same_few c (dos_going cells a) (dos_going cells b) (dos_ended cells a) (dos_ended cells b) false fixed old (then_paths ++ else_paths) before after few
