-- Numbers of pairs: there is one, it is that of both parts where a list is cut, and it isn't large.
use Rattle.std.proofs.Common.{◌≡◌, ◌≤◌, ◌+◌, ◌*◌, ◌↔◌, ℕ, suc, Bool, true, false, cond, List, [], ◌∷◌, ◌++◌, map, length, refl, sym, ap, ◌∙◌, subst, arith}
use Rattle.std.proofs.lemmas.Grind.{flat_map-append}
use Rattle.std.proofs.Math.Nat.{add-mul}
use Rattle.std.proofs.lemmas.List.Elements.{All-cons, All-head, All-nil, All-tail}
use Rattle.std.proofs.lemmas.List.Sums.{count_by-le-length, sum_by-append, sum_by-cons}
use Rattle.std.specs.List.{All, AllZip, count_by}
use Rattle.std.specs.Prelude.{IsTrue, Some, not, slice_get, take}
use Rattle.sym_base.specs.Tests.{Truth}
use Rattle.sym_base.specs.declared.values.state.Fault.{Fault}
use Rattle.sym_path.specs.declared.form.Form.{Form}
use Rattle.sym_path.specs.declared.path.PathEnd.{PathEnd}
use Rattle.sym_path.specs.declared.path.PathEnd.TheVariants.{Next, Ended}
use Rattle.sym_path.specs.declared.path.Path.{Path}
use Rattle.sym_path.specs.Changing.{GoesOn}
use Rattle.sym_path.specs.Pairs.{AreAllPossible, AreFollowers, ArePairs, IsAnswer, each_with, has_ended, has_next, is_ended, most_pairs}
use Rattle.sym_path.specs.Possible.{IsPossiblePair}
use Rattle.sym_path.proofs.Lists.{take_get, zip_length}

-- ---- counts

abbrev yes : List Bool → ℕ
yes answers = count_by (λ (answer : Bool). answer) answers

pub count_both : {A : Type 0} (test : A → Bool) (xs ys : List A) → count_by test (xs ++ ys) ≡ count_by test xs + count_by test ys
count_both test xs ys = sum_by-append (λ x. cond (test x) 1 0) xs ys

pub count_first : {A : Type 0} (test : A → Bool) (x : A) (xs : List A) → count_by test (x ∷ xs) ≡ cond (test x) 1 0 + count_by test xs
count_first test x xs = sum_by-cons (λ y. cond (test y) 1 0) x xs

pub zip_join : {A B : Type 0} (R : A → B → Type 0) (xs vs : List A) (ys ws : List B) → AllZip R xs ys → AllZip R vs ws → AllZip R (xs ++ vs) (ys ++ ws)
zip_join R [] vs [] ws h k = k
zip_join R [] vs (y ∷ ys) ws h k = absurd h
zip_join R (x ∷ xs) vs [] ws h k = absurd h
zip_join R (x ∷ xs) vs (y ∷ ys) ws h k = (h.0, zip_join R xs vs ys ws h.1 k)

-- ---- lists that are cut

pub pairs_both : (truth : Truth) (first rest right : List Path) (m n : ℕ) → ArePairs truth first right m → ArePairs truth rest right n → ArePairs truth (first ++ rest) right (m + n)
pairs_both truth first rest right m n a b = record {
  answers = a.answers ++ b.answers;
  decided = subst (λ (pairs : List (Path × Path)). AllZip (IsAnswer truth) pairs (a.answers ++ b.answers)) (sym (flat_map-append (λ (p : Path). map (λ (q : Path). (p, q)) right) first rest))
      (zip_join (IsAnswer truth) (each_with first right) (each_with rest right) a.answers b.answers a.decided b.decided);
  sum =
      let ended = count_both has_ended first rest in
      let possible = count_both (λ (answer : Bool). answer) a.answers b.answers in
      let x = a.sum in
      let y = b.sum in
      omega (arith, ended, possible);
}

pub no_pairs : (truth : Truth) (right : List Path) → ArePairs truth [] right 0
no_pairs truth right = record { answers = []; decided = tt; sum = refl }

-- ---- one number

same_answer : {P : Type 0} (a b : Bool) → (IsTrue a ↔ P) → (IsTrue b ↔ P) → a ≡ b
same_answer true true h k = refl
same_answer true false h k = sym (k.1 (h.0 refl))
same_answer false true h k = h.1 (k.0 refl)
same_answer false false h k = refl

same_answers : (truth : Truth) (pairs : List (Path × Path)) (xs ys : List Bool) → AllZip (IsAnswer truth) pairs xs → AllZip (IsAnswer truth) pairs ys → xs ≡ ys
same_answers truth [] [] [] h k = refl
same_answers truth [] [] (y ∷ ys) h k = absurd k
same_answers truth [] (x ∷ xs) ys h k = absurd h
same_answers truth (p ∷ pairs) [] ys h k = absurd h
same_answers truth (p ∷ pairs) (x ∷ xs) [] h k = absurd k
same_answers truth (p ∷ pairs) (x ∷ xs) (y ∷ ys) h k =
    let first : x ≡ y = same_answer x y h.0 k.0 in
    let rest : xs ≡ ys = same_answers truth pairs xs ys h.1 k.1 in
    λ i. first i ∷ rest i

pub pairs_same : (truth : Truth) (left right : List Path) (m n : ℕ) → ArePairs truth left right m → ArePairs truth left right n → m ≡ n
pairs_same truth left right m n a b =
    a.sum ∙ ap (λ (answers : List Bool). count_by has_ended left + yes answers) (same_answers truth (each_with left right) a.answers b.answers a.decided b.decided) ∙ sym b.sum

-- ---- lengths

length_map : {A B : Type 0} (f : A → B) (xs : List A) → length (map f xs) ≡ length xs
length_map f [] = refl
length_map f (x ∷ xs) = ap suc (length_map f xs)

pub length_both : {A : Type 0} (xs ys : List A) → length (xs ++ ys) ≡ length xs + length ys
length_both [] ys = omega arith
length_both (x ∷ xs) ys = let rest = length_both xs ys in omega (arith, rest)

-- ---- one path

each_beside : (truth : Truth) (path : Path) (others : List Path) (answers : List Bool) → AllZip (λ (next : Path) (answer : Bool). IsAnswer truth (path, next) answer) others answers → AllZip (IsAnswer truth) (map (λ (q : Path). (path, q)) others ++ []) answers
each_beside truth path [] [] h = tt
each_beside truth path [] (x ∷ xs) h = absurd h
each_beside truth path (q ∷ others) [] h = absurd h
each_beside truth path (q ∷ others) (x ∷ xs) h = (h.0, each_beside truth path others xs h.1)

-- A path that goes on has as many pairs as others can come after it,
pub going_pairs : (truth : Truth) (path : Path) (others : List Path) (n : ℕ) → is_ended path.end ≡ false → AreFollowers truth path others n → ArePairs truth (path ∷ []) others n
going_pairs truth path others n goes a = record {
  answers = a.answers;
  decided = each_beside truth path others a.answers a.decided;
  sum =
      let none : count_by has_ended (path ∷ []) ≡ 0 = count_first has_ended path [] ∙ ap (λ (b : Bool). cond b 1 0 + 0) goes in
      let sum = a.sum in
      omega (arith, none);
}

pub none_of : {A : Type 0} → List A → List Bool
none_of [] = []
none_of (x ∷ xs) = false ∷ none_of xs

pub none-count : {A : Type 0} (xs : List A) → yes (none_of xs) ≡ 0
unfolding none_of
none-count [] = refl
none-count (x ∷ xs) =
    let first = count_first (λ (answer : Bool). answer) false (none_of xs) in
    let rest = none-count xs in
    omega (arith, first, rest)

-- Nothing is found.
pub none_found : {A : Type 0} (P : A → Type 0) (xs : List A) → AllZip (λ (x : A) (mark : Bool). IsTrue mark → P x) xs (none_of xs)
unfolding none_of
none_found P [] = tt
none_found P (x ∷ xs) = (λ e. absurd (cc), none_found P xs)

none_possible : (truth : Truth) (path : Path) (others : List Path) → ((q : Path) → IsPossiblePair truth path q → ⊥) → AllZip (λ (next : Path) (answer : Bool). IsAnswer truth (path, next) answer) others (none_of others)
unfolding none_of
none_possible truth path [] none = tt
none_possible truth path (q ∷ others) none = ((λ e. absurd (cc), λ h. absurd (none q h)), none_possible truth path others none)

-- and one that has ended has one.
pub ended_pairs : (truth : Truth) (path : Path) (others : List Path) → is_ended path.end ≡ true → ((q : Path) → IsPossiblePair truth path q → ⊥) → ArePairs truth (path ∷ []) others 1
ended_pairs truth path others ended none = record {
  answers = none_of others;
  decided = each_beside truth path others (none_of others) (none_possible truth path others none);
  sum =
      let one : count_by has_ended (path ∷ []) ≡ 1 = count_first has_ended path [] ∙ ap (λ (b : Bool). cond b 1 0 + 0) ended in
      let zero = none-count others in
      omega (arith, one, zero);
}

-- ---- ends

pub not_ended : (end : PathEnd) → GoesOn end → is_ended end ≡ false
not_ended (Next forms) h = refl
not_ended (Ended fault) h = absurd h

pub ended : (end : PathEnd) → (GoesOn end → ⊥) → is_ended end ≡ true
ended (Next forms) h = absurd (h tt)
ended (Ended fault) h = refl

pub none_follow : (truth : Truth) (path : Path) → (GoesOn path.end → ⊥) → (q : Path) → IsPossiblePair truth path q → ⊥
none_follow truth path none q h = go path.end none h
  where
    go : (end : PathEnd) → (GoesOn end → ⊥) → IsPossiblePair truth (record path { end = end }) q → ⊥
    go (Next forms) none h = none tt
    go (Ended fault) none h = h

-- ---- where each path has few

zip_cut : {A B : Type 0} (R : A → B → Type 0) (xs vs : List A) (ys : List B) → AllZip R (xs ++ vs) ys → (first : List B) × (rest : List B) × (ys ≡ first ++ rest) × AllZip R xs first × AllZip R vs rest
zip_cut R [] vs ys h = ([], ys, refl, tt, h)
zip_cut R (x ∷ xs) vs [] h = absurd h
zip_cut R (x ∷ xs) vs (y ∷ ys) h =
    let cut = zip_cut R xs vs ys h.1 in
    (y ∷ cut.0, cut.1, ap (λ rest. y ∷ rest) cut.2, (h.0, cut.3), cut.4)

ended_answers : (truth : Truth) (path : Path) (others : List Path) (answers : List Bool) → ((q : Path) → IsPossiblePair truth path q → ⊥) → AllZip (IsAnswer truth) (map (λ (q : Path). (path, q)) others) answers → yes answers ≡ 0
ended_answers truth path [] [] none h = refl
ended_answers truth path [] (b ∷ answers) none h = absurd h
ended_answers truth path (q ∷ others) [] none h = absurd h
ended_answers truth path (q ∷ others) (true ∷ answers) none h = absurd (none q (h.0.0 refl))
ended_answers truth path (q ∷ others) (false ∷ answers) none h =
    let first = count_first (λ (answer : Bool). answer) false answers in
    let rest = ended_answers truth path others answers none h.1 in
    omega (arith, first, rest)

abbrev one_if : Bool → ℕ
one_if b = cond b 1 0

most_first : (truth : Truth) (path : Path) (right : List Path) (answers : List Bool) (most : ℕ) → length right ≤ most → 1 ≤ most → AllZip (IsAnswer truth) (map (λ (q : Path). (path, q)) right) answers → one_if (has_ended path) + yes answers ≤ most
most_first truth path right answers most few once h = of path.end refl
  where
    of : (end : PathEnd) → path.end ≡ end → one_if (has_ended path) + yes answers ≤ most
    of (Next forms) e =
        let going : has_ended path ≡ false = ap is_ended e in
        let zero : one_if (has_ended path) ≡ one_if false = ap one_if going in
        let long : length (map {B = Path × Path} (λ (q : Path). (path, q)) right) ≡ length answers = zip_length (IsAnswer truth) (map (λ (q : Path). (path, q)) right) answers h in
        let same = length_map {B = Path × Path} (λ (q : Path). (path, q)) right in
        let possible = count_by-le-length (λ (answer : Bool). answer) answers in
        omega (arith, zero, long, same, possible, few)
    of (Ended fault) e =
        let over : has_ended path ≡ true = ap is_ended e in
        let one : one_if (has_ended path) ≡ one_if true = ap one_if over in
        let none : yes answers ≡ 0 = ended_answers truth path right answers (none_follow truth path (λ g. subst GoesOn e g)) h in
        omega (arith, one, none, once)

most_answers : (truth : Truth) (left right : List Path) (answers : List Bool) (most : ℕ) → length right ≤ most → 1 ≤ most → AllZip (IsAnswer truth) (each_with left right) answers → count_by has_ended left + yes answers ≤ length left * most
most_answers truth [] right [] most few once h = omega arith
most_answers truth [] right (b ∷ answers) most few once h = absurd h
most_answers truth (path ∷ left) right answers most few once h =
    let cut = zip_cut (IsAnswer truth) (map (λ (q : Path). (path, q)) right) (each_with left right) answers h in
    let ended = count_first has_ended path left in
    let sum = ap yes cut.2 ∙ count_both (λ (answer : Bool). answer) cut.0 cut.1 in
    let here = most_first truth path right cut.0 most few once cut.3 in
    let rest = most_answers truth left right cut.1 most few once cut.4 in
    omega (arith, ended, sum, here, rest)

-- Where each path of the left has at most so many, so have all.
pub pairs_most : (truth : Truth) (left right : List Path) (n most : ℕ) → length right ≤ most → 1 ≤ most → ArePairs truth left right n → n ≤ length left * most
pairs_most truth left right n most few once a =
    let all = most_answers truth left right a.answers most few once a.decided in
    let sum = a.sum in
    omega (arith, all, sum)

-- ---- as many as there can be

module _ (truth : Truth) (path : Path) where
  abbrev Answered : List Path → List Bool → Type 0
  Answered right answers = AllZip (IsAnswer truth) (map (λ (q : Path). (path, q)) right) answers

  abbrev Follows : Path → Type 0
  Follows q = IsPossiblePair truth path q

  few_yes : (right : List Path) (answers : List Bool) → Answered right answers → yes answers ≤ length right
  few_yes right answers h =
      let long : length (map {B = Path × Path} (λ (q : Path). (path, q)) right) ≡ length answers = zip_length (IsAnswer truth) (map (λ (q : Path). (path, q)) right) answers h in
      let same = length_map {B = Path × Path} (λ (q : Path). (path, q)) right in
      let possible = count_by-le-length (λ (answer : Bool). answer) answers in
      omega (arith, long, same, possible)

  -- Each of the others can come after the path where there are as many answers that say so.
  full_yes : (right : List Path) (answers : List Bool) → Answered right answers → All Follows right → yes answers ≡ length right
  full_yes [] [] h all = refl
  full_yes [] (b ∷ answers) h all = absurd h
  full_yes (q ∷ right) [] h all = absurd h
  full_yes (q ∷ right) (true ∷ answers) h all =
      let first = count_first (λ (answer : Bool). answer) true answers in
      let rest = full_yes right answers h.1 (All-tail Follows q right all) in
      omega (arith, first, rest)
  full_yes (q ∷ right) (false ∷ answers) h all = let e : false ≡ true = h.0.1 (All-head Follows q right all) in absurd (cc)

  all_yes : (right : List Path) (answers : List Bool) → Answered right answers → yes answers ≡ length right → All Follows right
  all_yes [] answers h same = All-nil Follows
  all_yes (q ∷ right) [] h same = absurd h
  all_yes (q ∷ right) (true ∷ answers) h same =
      let first = count_first (λ (answer : Bool). answer) true answers in
      All-cons Follows q right (h.0.0 refl) (all_yes right answers h.1 (omega (arith, first, same)))
  all_yes (q ∷ right) (false ∷ answers) h same =
      let first = count_first (λ (answer : Bool). answer) false answers in
      let few = few_yes right answers h.1 in
      absurd (omega (arith, first, same, few))

  abbrev room : List Path → ℕ
  room right = one_if (has_next path) * length right

  room_on : (right : List Path) → has_next path ≡ true → room right ≡ length right
  room_on right e = let product : room right ≡ 1 * length right = ap (λ (b : Bool). one_if b * length right) e in omega (arith, product)

  no_room : (right : List Path) → has_next path ≡ false → room right ≡ 0
  no_room right e = let product : room right ≡ 0 * length right = ap (λ (b : Bool). one_if b * length right) e in omega (arith, product)

  goes : (forms : List Form) → path.end ≡ Next forms → has_next path ≡ true
  goes forms e = ap (λ (end : PathEnd). not (is_ended end)) e

  over : (fault : Fault) → path.end ≡ Ended fault → has_next path ≡ false
  over fault e = ap (λ (end : PathEnd). not (is_ended end)) e

  first_most : (right : List Path) (answers : List Bool) → Answered right answers → yes answers ≤ room right
  first_most right answers h = of path.end refl
    where
      of : (end : PathEnd) → path.end ≡ end → yes answers ≤ room right
      of (Next forms) e = omega (arith, room_on right (goes forms e), few_yes right answers h)
      of (Ended fault) e =
          let none : yes answers ≡ 0 = ended_answers truth path right answers (none_follow truth path (λ g. subst GoesOn e g)) h in
          omega (arith, none)

  first_full : (right : List Path) (answers : List Bool) → Answered right answers → (GoesOn path.end → All Follows right) → yes answers ≡ room right
  first_full right answers h all = of path.end refl
    where
      of : (end : PathEnd) → path.end ≡ end → yes answers ≡ room right
      of (Next forms) e = full_yes right answers h (all (subst GoesOn (sym e) tt)) ∙ sym (room_on right (goes forms e))
      of (Ended fault) e =
          let none : yes answers ≡ 0 = ended_answers truth path right answers (none_follow truth path (λ g. subst GoesOn e g)) h in
          none ∙ sym (no_room right (over fault e))

  first_only : (right : List Path) (answers : List Bool) → Answered right answers → yes answers ≡ room right → GoesOn path.end → All Follows right
  first_only right answers h same g = of path.end refl
    where
      of : (end : PathEnd) → path.end ≡ end → All Follows right
      of (Next forms) e = all_yes right answers h (same ∙ room_on right (goes forms e))
      of (Ended fault) e = absurd (subst GoesOn e g)

module _ (truth : Truth) (right : List Path) where
  abbrev rooms : List Path → ℕ
  rooms left = count_by has_next left * length right

  abbrev AllFollow : Path → Type 0
  AllFollow p = GoesOn p.end → All (λ (q : Path). IsPossiblePair truth p q) right

  rooms_first : (path : Path) (left : List Path) → rooms (path ∷ left) ≡ room truth path right + rooms left
  rooms_first path left = ap (λ (k : ℕ). k * length right) (count_first has_next path left) ∙ add-mul (one_if (has_next path)) (count_by has_next left) (length right)

  yes_most : (left : List Path) (answers : List Bool) → AllZip (IsAnswer truth) (each_with left right) answers → yes answers ≤ rooms left
  yes_most [] [] h = omega arith
  yes_most [] (b ∷ answers) h = absurd h
  yes_most (path ∷ left) answers h =
      let cut = zip_cut (IsAnswer truth) (map (λ (q : Path). (path, q)) right) (each_with left right) answers h in
      let sum : yes answers ≡ yes cut.0 + yes cut.1 = ap yes cut.2 ∙ count_both (λ (answer : Bool). answer) cut.0 cut.1 in
      let here = first_most truth path right cut.0 cut.3 in
      let rest = yes_most left cut.1 cut.4 in
      let split = rooms_first path left in
      omega (arith, sum, here, rest, split)

  yes_full : (left : List Path) (answers : List Bool) → AllZip (IsAnswer truth) (each_with left right) answers → All AllFollow left → yes answers ≡ rooms left
  yes_full [] [] h all = omega arith
  yes_full [] (b ∷ answers) h all = absurd h
  yes_full (path ∷ left) answers h all =
      let cut = zip_cut (IsAnswer truth) (map (λ (q : Path). (path, q)) right) (each_with left right) answers h in
      let sum : yes answers ≡ yes cut.0 + yes cut.1 = ap yes cut.2 ∙ count_both (λ (answer : Bool). answer) cut.0 cut.1 in
      let here = first_full truth path right cut.0 cut.3 (All-head AllFollow path left all) in
      let rest = yes_full left cut.1 cut.4 (All-tail AllFollow path left all) in
      let split = rooms_first path left in
      omega (arith, sum, here, rest, split)

  yes_only : (left : List Path) (answers : List Bool) → AllZip (IsAnswer truth) (each_with left right) answers → yes answers ≡ rooms left → All AllFollow left
  yes_only [] answers h same = All-nil AllFollow
  yes_only (path ∷ left) answers h same =
      let cut = zip_cut (IsAnswer truth) (map (λ (q : Path). (path, q)) right) (each_with left right) answers h in
      let sum : yes answers ≡ yes cut.0 + yes cut.1 = ap yes cut.2 ∙ count_both (λ (answer : Bool). answer) cut.0 cut.1 in
      let here = first_most truth path right cut.0 cut.3 in
      let rest = yes_most left cut.1 cut.4 in
      let split = rooms_first path left in
      All-cons AllFollow path left
      (first_only truth path right cut.0 cut.3 (omega (arith, sum, here, rest, split, same)))
      (yes_only left cut.1 cut.4 (omega (arith, sum, here, rest, split, same)))

pub pairs_few : (truth : Truth) (left right : List Path) (n : ℕ) → ArePairs truth left right n → n ≤ most_pairs left right
pairs_few truth left right n a =
    let possible = yes_most truth right left a.answers a.decided in
    let sum = a.sum in
    omega (arith, possible)

pub pairs_full : (truth : Truth) (left right : List Path) (n : ℕ) → ArePairs truth left right n → (n ≡ most_pairs left right) ↔ AreAllPossible truth left right
pairs_full truth left right n a = (
  λ same. let sum = a.sum in yes_only truth right left a.answers a.decided (omega (arith, same)),
  λ all. let sum = a.sum in let full = yes_full truth right left a.answers a.decided all in omega (arith, full),
)

-- ---- as they are counted

-- One other more.
pub followers_more : (truth : Truth) (path next : Path) (others : List Path) (n : ℕ) (b : Bool) → (IsTrue b ↔ IsPossiblePair truth path next) → AreFollowers truth path others n → AreFollowers truth path (others ++ next ∷ []) (n + cond b 1 0)
followers_more truth path next others n b h a = record {
  answers = a.answers ++ b ∷ [];
  decided = zip_join (λ (q : Path) (answer : Bool). IsAnswer truth (path, q) answer) others (next ∷ []) a.answers (b ∷ []) a.decided (h, tt);
  sum =
      let both = count_both (λ (answer : Bool). answer) a.answers (b ∷ []) in
      let one = count_first (λ (answer : Bool). answer) b [] in
      let sum = a.sum in
      omega (arith, both, one);
}

-- One path more.
pub pairs_more : (truth : Truth) (left right : List Path) (i : ℕ) (path : Path) (m n : ℕ) → slice_get left i ≡ Some path → ArePairs truth (take i left) right m → ArePairs truth (path ∷ []) right n → ArePairs truth (take (i + 1) left) right (m + n)
pairs_more truth left right i path m n at a b = subst (λ (ps : List Path). ArePairs truth ps right (m + n)) (sym (take_get left i path at)) (pairs_both truth (take i left) (path ∷ []) right m n a b)

pub followers_next : (truth : Truth) (path next : Path) (others : List Path) (i m n : ℕ) (b : Bool) → slice_get others i ≡ Some next → (IsTrue b ↔ IsPossiblePair truth path next) → n ≡ m + cond b 1 0 → AreFollowers truth path (take i others) m → AreFollowers truth path (take (i + 1) others) n
followers_next truth path next others i m n b at h sum a =
    subst (λ (k : ℕ). AreFollowers truth path (take (i + 1) others) k) (sym sum)
    (subst (λ (ps : List Path). AreFollowers truth path ps (m + cond b 1 0)) (sym (take_get others i next at)) (followers_more truth path next (take i others) m b h a))
