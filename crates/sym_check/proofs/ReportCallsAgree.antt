-- Calls in the report, and with them columns, agree with what they give and with their first broken
-- rule.
use Rattle.std.proofs.Common.{◌≡◌, refl, subst, ℕ, ℤ, zero, suc, pos, negsuc, ◌-◌, ◌==◌, ◌≤◌, ◌<◌, length, get_or, slice_get, Bool, true, false, ◌||◌, is_some, codes, Decides, arith, ◌⊎◌, inl, inr, List, [], ◌∷◌, Option, Some, None, Result, Ok, Err}
use Rattle.std.proofs.lemmas.Option.{slice_get_past, slice_get_cases}
use Rattle.std.proofs.lemmas.Slice.Eq.{slice_eq-Decides}
use Rattle.std.proofs.lemmas.Bool.Decides.{Decides-eqb}
use Rattle.sym_base.specs.declared.tree.name.Name.{Name}
use Rattle.sym_base.specs.Trees.{ExprTree, Num, Words, Named, Call, Neg, Not, Bin, ExprsTree, End, More}
use Rattle.sym_check.specs.declared.plan.script.KindPlan.{KindPlan}
use Rattle.sym_check.specs.declared.plan.script.KindPlan.TheVariants as kind
use Rattle.sym_check.specs.declared.plan.show.ShowFn.{ShowFn}
use Rattle.sym_check.specs.declared.plan.show.ShowFn.TheVariants as show_fn
use Rattle.sym_check.specs.Meaning.Conditions.{same_word}
use Rattle.sym_check.specs.Meaning.Columns.{ShownAs, as_number, as_word, as_list, shown_kind, OfAnyList, word_list_shows}
use Rattle.sym_check.specs.Plan.ShowPlans.{ShowPlan}
use Rattle.sym_check.specs.Plan.ShowPlans as show
use Rattle.sym_check.specs.declared.elaborate.error.CheckErr.{CheckErr}
use Rattle.sym_check.specs.declared.elaborate.error.CheckErr.TheVariants as broken
use Rattle.sym_check.specs.declared.elaborate.scope.Meaning.{Meaning}
use Rattle.sym_check.specs.declared.elaborate.scope.Meaning.TheVariants as meaning
use Rattle.sym_check.specs.Rules.Scopes.{Scope, find, Stands}
use Rattle.sym_check.specs.Rules.Reports.{list_function, is_part, IsShown}
use Rattle.sym_check.specs.Rules.Reports as is
use Rattle.sym_check.specs.Breaks.Reports.{GivesSomething, IsSeen, AreSeen, IsFunction, of_lists, IsOutside, BreaksShown, BreakShown}
use Rattle.sym_check.specs.Breaks.Reports as breaks
use Rattle.sym_check.specs.Elaborate.Reports.{Seen, Numeral, Number, Word, NumList, WordList, Parts, part_seen, part_at, of_word_list, of_list, of_parts, applied, see_all}
use Rattle.sym_check.proofs.Agreements.{Agrees, in_words, only_value, only_fault, then_agrees, then_made, where_true}
use Rattle.sym_check.proofs.ReportsSeen.{Sees, Gives, a_numeral, a_number, a_word}
use Rattle.sym_check.proofs.ReportsAgree.{is_seen, seen_is, Sights, HasCellsAlone, NamedSeen, sees_name, numeral_once, numeral_sights, text_sights, name_sights, neg_sights, not_sights, bin_sights}

-- Arguments, and what they come to.
abbrev pub SeesAll : Scope → ExprsTree → List Seen → Type 0
SeesAll s End [] = Unit {0}
SeesAll s End (v ∷ vs) = ⊥
SeesAll s (More e es) [] = ⊥
SeesAll s (More e es) (v ∷ vs) = Sees s e v × SeesAll s es vs

pub are_seen : (s : Scope) (es : ExprsTree) (vs : List Seen) → SeesAll s es vs → AreSeen s es
are_seen s End [] i = breaks.none
are_seen s End (v ∷ vs) i = absurd i
are_seen s (More e es) [] i = absurd i
are_seen s (More e es) (v ∷ vs) i = breaks.more e es (is_seen s e v i.0) (are_seen s es vs i.1)

pub seen_are : (s : Scope) (es : ExprsTree) → AreSeen s es → (vs : List Seen) × SeesAll s es vs
seen_are s _ breaks.none = ([], tt)
seen_are s _ (breaks.more e es i j) = let t = seen_is s e i in let u = seen_are s es j in (t.0 ∷ u.0, (t.1, u.1))

abbrev pub AllSights : Scope → ExprsTree → Type 0
AllSights s es = Agrees (SeesAll s es) (BreakShown s es) (see_all s es)

none_seen : (s : Scope) (vs : List Seen) → SeesAll s End vs → [] ≡ vs
none_seen s [] i = refl
none_seen s (v ∷ vs) i = absurd i

none_sights : (s : Scope) → AllSights s End
none_sights s = only_value [] tt (none_seen s) (λ f b. elim b [ ])

abbrev MoreSeen : Scope → ExprTree → ExprsTree → List Seen → Type 0
MoreSeen s e es ws = (v : Seen) × Sees s e v × ((vs : List Seen) × SeesAll s es vs × (v ∷ vs ≡ ws))

more_joined : (s : Scope) (e : ExprTree) (es : ExprsTree) (ws : List Seen) → MoreSeen s e es ws → SeesAll s (More e es) ws
more_joined s e es ws (v, i, (vs, j, k)) = subst (SeesAll s (More e es)) k (i, j)

more_parted : (s : Scope) (e : ExprTree) (es : ExprsTree) (ws : List Seen) → SeesAll s (More e es) ws → MoreSeen s e es ws
more_parted s e es [] i = absurd i
more_parted s e es (v ∷ vs) i = (v, i.0, (vs, i.1, refl))

abbrev MoreFaults : Scope → ExprTree → ExprsTree → CheckErr → Type 0
MoreFaults s e es f = BreaksShown s e f ⊎ ((v : Seen) × Sees s e v × BreakShown s es f)

more_blamed : (s : Scope) (e : ExprTree) (es : ExprsTree) (f : CheckErr) → MoreFaults s e es f → BreakShown s (More e es) f
more_blamed s e es f (inl b) = breaks.in_first e es f b
more_blamed s e es f (inr (v, i, b)) = breaks.in_others e es f (is_seen s e v i) b

more_blames : (s : Scope) (e : ExprTree) (es : ExprsTree) (f : CheckErr) → BreakShown s (More e es) f → MoreFaults s e es f
more_blames s _ _ _ (breaks.in_first e es f b) = inl b
more_blames s _ _ _ (breaks.in_others e es f i b) = let t = seen_is s e i in inr (t.0, t.1, b)

more_sights : (s : Scope) (e : ExprTree) (es : ExprsTree) → Sights s e → AllSights s es → AllSights s (More e es)
more_sights s e es h k = in_words (then_agrees h (λ v i. then_made (λ vs. v ∷ vs) k)) (more_joined s e es) (more_parted s e es) (more_blamed s e es) (more_blames s e es)

-- The name of a function.
same_words : (a b : List ℕ) → Decides (same_word a b) (a ≡ b)
same_words a b = slice_eq-Decides Decides-eqb a b (same_word a b) refl

-- `part` is no function of lists.
part_alone : (t : List ℕ) → is_part t ≡ true → list_function t ≡ None
part_alone t e = let same : t ≡ codes "part" = (same_words t (codes "part")).0 e in rw same

function_decides : (x : Name) → Decides (is_some (list_function x.text) || is_part x.text) (IsFunction x)
function_decides x = (go (list_function x.text) refl, back)
  where
    part : (b : Bool) → is_part x.text ≡ b → b ≡ true → IsFunction x
    part b e i = let p : is_part x.text ≡ true = cc in breaks.of_parts p

    go : (o : Option ShowFn) → list_function x.text ≡ o → (is_some o || is_part x.text) ≡ true → IsFunction x
    go None e i = part (is_part x.text) refl i
    go (Some f) e i = of_lists f e

    lists : (o : Option ShowFn) (f : ShowFn) → o ≡ Some f → (is_some o || is_part x.text) ≡ true
    lists o f e = rw e refl

    parts : (o : Option ShowFn) → is_part x.text ≡ true → (is_some o || is_part x.text) ≡ true
    parts None e = e
    parts (Some f) e = refl

    back : IsFunction x → (is_some (list_function x.text) || is_part x.text) ≡ true
    back (breaks.of_lists f e) = lists (list_function x.text) f e
    back (breaks.of_parts e) = parts (list_function x.text) e

-- Parts by their number.
part_none : (place c : ℕ) (ks : List KindPlan) (k : ℕ) → slice_get ks (k - 1) ≡ None → part_at place c ks k ≡ Err (broken.Range place)
part_none place c ks k e = rw (e, part_at)

part_some : (place c : ℕ) (ks : List KindPlan) (k : ℕ) (of : KindPlan) → slice_get ks (k - 1) ≡ Some of → 1 ≤ k → part_at place c ks k ≡ Ok (part_seen of (show.Part c k))
part_some place c ks k of e least = let first : (k == 0) ≡ false = grind arith in rw (e, part_at, first)

part_zero : (place c : ℕ) (ks : List KindPlan) (o : Option KindPlan) → slice_get ks (0 - 1) ≡ o → part_at place c ks 0 ≡ Err (broken.Range place)
part_zero place c ks None e = part_none place c ks 0 e
part_zero place c ks (Some of) e = rw (e, part_at)

outside_is : (place c : ℕ) (ks : List KindPlan) (k : ℕ) → (k ≡ 0) ⊎ (length ks < k) → part_at place c ks k ≡ Err (broken.Range place)
outside_is place c ks k (inl e) = rw e (part_zero place c ks (slice_get ks (0 - 1)) refl)
outside_is place c ks k (inr lt) = part_none place c ks k (slice_get_past ks (k - 1) (omega arith))

past_is_outside : (ks : List KindPlan) (k : ℕ) → length ks ≤ k - 1 → (k ≡ 0) ⊎ (length ks < k)
past_is_outside ks zero le = inl refl
past_is_outside ks (suc k) le = inr (omega arith)

-- What a call comes to, its name and its arguments being right by themselves.
abbrev OutsideAt : Scope → Name → ExprsTree → CheckErr → Type 0
OutsideAt s x es f = (h : Name) × (k : ℕ) × (at : ℕ) × (es ≡ More (Named h) (More (Num (pos k) at) End)) × IsOutside s x h k × (broken.Range at ≡ f)

data Applied (s : Scope) (x : Name) (es : ExprsTree) : Result Seen CheckErr → Type 0 where
  comes : (v : Seen) → Sees s (Call x es) v → Applied s x es (Ok v)
  outside : (f : CheckErr) → OutsideAt s x es f → Applied s x es (Err f)
  refused : Applied s x es (Err (broken.Kind x.at))

sees_one : (s : Scope) (es : ExprsTree) (v : Seen) → SeesAll s es (v ∷ []) → (e : ExprTree) × (es ≡ More e End) × Sees s e v
sees_one s End v i = absurd i
sees_one s (More e End) v i = (e, refl, i.0)
sees_one s (More e (More d es)) v i = absurd i.1

sees_two : (s : Scope) (es : ExprsTree) (v w : Seen) → SeesAll s es (v ∷ w ∷ []) → (e : ExprTree) × (d : ExprTree) × (es ≡ More e (More d End)) × Sees s e v × Sees s d w
sees_two s End v w i = absurd i
sees_two s (More e End) v w i = absurd i.1
sees_two s (More e (More d End)) v w i = (e, d, refl, i.0, i.1.0)
sees_two s (More e (More d (More c es))) v w i = absurd i.1.1

words_applied : (s : Scope) (x y : Name) (f : ShowFn) (c : ℕ) → list_function x.text ≡ Some f → Stands s y (meaning.WordsCell c) → Applied s x (More (Named y) End) (of_word_list x.at f c)
words_applied s x y show_fn.Count c e t = comes _ (is.of_words x y show_fn.Count c e t tt, λ n at i. cc)
words_applied s x y show_fn.First c e t = comes _ (is.of_words x y show_fn.First c e t tt)
words_applied s x y show_fn.Last c e t = comes _ (is.of_words x y show_fn.Last c e t tt)
words_applied s x y show_fn.Sum c e t = refused
words_applied s x y show_fn.Min c e t = refused
words_applied s x y show_fn.Max c e t = refused

list_applied : (s : Scope) (x : Name) (es : ExprsTree) (f : ShowFn) → list_function x.text ≡ Some f → (found : List Seen) → SeesAll s es found → Applied s x es (of_list x.at f found)
list_applied s x es f e (NumList c ∷ []) i =
    let t = sees_one s es (NumList c) i in
    let y : (y : Name) × (t.0 ≡ Named y) × Stands s y (meaning.NumsCell c) = t.2 in
    let whole : es ≡ More (Named y.0) End = cc (t.1, y.1) in
    rw whole (comes (Number (show.Call f c)) (is.of_nums x y.0 f c e y.2, λ n at k. cc))
list_applied s x es f e (WordList c ∷ []) i =
    let t = sees_one s es (WordList c) i in
    let y : (y : Name) × (t.0 ≡ Named y) × Stands s y (meaning.WordsCell c) = t.2 in
    let whole : es ≡ More (Named y.0) End = cc (t.1, y.1) in
    rw whole (words_applied s x y.0 f c e y.2)
list_applied s x es f e _ i = refused

part_sees : (s : Scope) (x h : Name) (c k at : ℕ) (ks : List KindPlan) (of : KindPlan) → IsShown s (Call x (More (Named h) (More (Num (pos k) at) End))) (shown_kind of) (show.Part c k) → Sees s (Call x (More (Named h) (More (Num (pos k) at) End))) (part_seen of (show.Part c k))
part_sees s x h c k at ks kind.Num i = (i, λ n place e. cc)
part_sees s x h c k at ks kind.Word i = i
part_sees s x h c k at ks (kind.Label enum) i = i

get_none : {A : Type 0} (xs : List A) (i : ℕ) → slice_get xs i ≡ None → length xs ≤ i
get_none {A} xs i e = go (slice_get_cases xs i).1
  where
    go : ((x : A) × (i < length xs) × (slice_get xs i ≡ Some x) × (get_or xs i x ≡ x)) ⊎ ((length xs ≤ i) × (slice_get xs i ≡ None)) → length xs ≤ i
    go (inl (x, lt, f, g)) = absurd (cc)
    go (inr (le, f)) = le

part_applied : (s : Scope) (x h : Name) (c k place : ℕ) (ks : List KindPlan) → is_part x.text ≡ true → Stands s h (meaning.HoldCell c ks) → Applied s x (More (Named h) (More (Num (pos k) place) End)) (part_at place c ks k)
part_applied s x h c k place ks e t = go (slice_get ks (k - 1)) refl k refl
  where
    out : (k ≡ 0) ⊎ (length ks < k) → Applied s x (More (Named h) (More (Num (pos k) place) End)) (part_at place c ks k)
    out i = rw (outside_is place c ks k i) (outside (broken.Range place) (h, k, place, refl, record { is_part = e; cell = c; kinds = ks; stands = t; outside = i }, refl))

    go : (o : Option KindPlan) → slice_get ks (k - 1) ≡ o → (n : ℕ) → k ≡ n → Applied s x (More (Named h) (More (Num (pos k) place) End)) (part_at place c ks k)
    go None i n j = out (past_is_outside ks k (get_none ks (k - 1) i))
    go (Some of) i zero j = out (inl j)
    go (Some of) i (suc n) j =
        let least : 1 ≤ k = omega arith in
        rw (part_some place c ks k of i least) (comes (part_seen of (show.Part c k)) (part_sees s x h c k place ks of (is.part x h c k place ks of e t least i)))

parts_applied : (s : Scope) (x : Name) (es : ExprsTree) → is_part x.text ≡ true → (found : List Seen) → SeesAll s es found → Applied s x es (of_parts x.at found)
parts_applied s x es e (Parts c ks ∷ Numeral (pos k) place ∷ []) i =
    let t = sees_two s es (Parts c ks) (Numeral (pos k) place) i in
    let y : (y : Name) × (t.0 ≡ Named y) × Stands s y (meaning.HoldCell c ks) = t.3 in
    let n : t.1 ≡ Num (pos k) place = t.4 in
    let whole : es ≡ More (Named y.0) (More (Num (pos k) place) End) = cc (t.2, y.1, n) in
    rw whole (part_applied s x y.0 c k place ks e y.2)
parts_applied s x es e (Parts c ks ∷ Numeral (negsuc k) place ∷ []) i = refused
parts_applied s x es e _ i = refused

call_applied : (s : Scope) (x : Name) (es : ExprsTree) → IsFunction x → (found : List Seen) → SeesAll s es found → Applied s x es (applied x.at (list_function x.text) found)
call_applied s x es function found i = go (list_function x.text) refl
  where
    part : list_function x.text ≡ None → IsFunction x → is_part x.text ≡ true
    part e (breaks.of_lists f k) = absurd (cc (e, k))
    part e (breaks.of_parts k) = k

    go : (o : Option ShowFn) → list_function x.text ≡ o → Applied s x es (applied x.at o found)
    go None e = parts_applied s x es (part e function) found i
    go (Some f) e = list_applied s x es f e found i

-- What a call's arguments come to where it gives something.
named_once : (s : Scope) (x : Name) (m : Meaning) (v : Seen) → Stands s x m → Sees s (Named x) v → NamedSeen m v
named_once s x m v t i =
    let (n, u, j) = sees_name s x v i in
    let p : find s x.text ≡ Some m = t.found in
    let q : find s x.text ≡ Some n = u.found in
    let same : n ≡ m = cc (p, q) in
    subst (λ k. NamedSeen k v) same j

one_found : (s : Scope) (x : Name) (m : Meaning) (v : Seen) → Stands s x m → ((w : Seen) → NamedSeen m w → v ≡ w) → (found : List Seen) → SeesAll s (More (Named x) End) found → v ∷ [] ≡ found
one_found s x m v t one [] i = absurd i
one_found s x m v t one (w ∷ []) i = let e : v ≡ w = one w (named_once s x m w t i.0) in cc
one_found s x m v t one (w ∷ u ∷ ws) i = absurd i.1

part_found : (s : Scope) (h : Name) (c : ℕ) (ks : List KindPlan) (n : ℤ) (at : ℕ) → Stands s h (meaning.HoldCell c ks) → (found : List Seen) → SeesAll s (More (Named h) (More (Num n at) End)) found → Parts c ks ∷ Numeral n at ∷ [] ≡ found
part_found s h c ks n at t [] i = absurd i
part_found s h c ks n at t (w ∷ []) i = absurd i.1
part_found s h c ks n at t (w ∷ u ∷ []) i =
    let e : Parts c ks ≡ w = named_once s h (meaning.HoldCell c ks) w t i.0 in
    let f : Numeral n at ≡ u = numeral_once s n at u i.1.0 in
    cc
part_found s h c ks n at t (w ∷ u ∷ v ∷ ws) i = absurd i.1.1

-- A call's value is no numeral.
abbrev NoNumeral : Seen → Type 0
NoNumeral v = (n : ℤ) (at : ℕ) → v ≡ Numeral n at → ⊥

abbrev Comes : Result Seen CheckErr → ShownAs → ShowPlan → Type 0
Comes r g p = (v : Seen) × (r ≡ Ok v) × Gives v g p × NoNumeral v

part_comes : (of : KindPlan) (p : ShowPlan) → Gives (part_seen of p) (shown_kind of) p × NoNumeral (part_seen of p)
part_comes kind.Num p = (a_number p, λ n at e. cc)
part_comes kind.Word p = (a_word p, λ n at e. cc)
part_comes (kind.Label enum) p = (a_word p, λ n at e. cc)

words_come : (at : ℕ) (f : ShowFn) (c : ℕ) → OfAnyList f → Comes (of_word_list at f c) (word_list_shows f) (show.Call f c)
words_come at show_fn.Count c i = (Number (show.Call show_fn.Count c), refl, a_number _, λ n place e. cc)
words_come at show_fn.First c i = (Word (show.Call show_fn.First c), refl, a_word _, λ n place e. cc)
words_come at show_fn.Last c i = (Word (show.Call show_fn.Last c), refl, a_word _, λ n place e. cc)
words_come at show_fn.Sum c i = absurd i
words_come at show_fn.Min c i = absurd i
words_come at show_fn.Max c i = absurd i

call_comes : (s : Scope) (x : Name) (es : ExprsTree) (g : ShownAs) (p : ShowPlan) → IsShown s (Call x es) g p → (found : List Seen) → SeesAll s es found → Comes (applied x.at (list_function x.text) found) g p
call_comes s _ _ _ _ (is.part f h c k at ks of e t least j) found i =
    let came = part_comes of (show.Part c k) in
    rw (part_alone f.text e, ← part_found s h c ks (pos k) at t found i) (part_seen of (show.Part c k), part_some at c ks k of j least, came.0, came.1)
call_comes s _ _ _ _ (is.of_nums f x g c e t) found i =
    rw (e, ← one_found s x (meaning.NumsCell c) (NumList c) t (λ w j. j) found i) (Number (show.Call g c), refl, a_number (show.Call g c), λ n at k. cc)
call_comes s _ _ _ _ (is.of_words f x g c e t any) found i =
    rw (e, ← one_found s x (meaning.WordsCell c) (WordList c) t (λ w j. j) found i) (words_come f.at g c any)

outside_applied : (s : Scope) (x : Name) (es : ExprsTree) (f : CheckErr) → OutsideAt s x es f → (found : List Seen) → SeesAll s es found → applied x.at (list_function x.text) found ≡ Err f
outside_applied s x es f (h, k, at, e, out, j) found i =
    let all : Parts out.cell out.kinds ∷ Numeral (pos k) at ∷ [] ≡ found = part_found s h out.cell out.kinds (pos k) at out.stands found (subst (λ ds. SeesAll s ds found) e i) in
    rw (part_alone x.text out.is_part, ← all, ← j) (outside_is at out.cell out.kinds k out.outside)

number_is : (v : Seen) (p : ShowPlan) → Gives v as_number p → NoNumeral v → v ≡ Number p
number_is _ _ (a_numeral n at) none = absurd (none n at refl)
number_is _ _ (a_number p) none = refl

word_is : (v : Seen) (p : ShowPlan) → Gives v as_word p → v ≡ Word p
word_is _ _ (a_word p) = refl

sees_applied : (s : Scope) (x : Name) (es : ExprsTree) (found : List Seen) → SeesAll s es found → (v : Seen) → Sees s (Call x es) v → applied x.at (list_function x.text) found ≡ Ok v
sees_applied s x es found all (Numeral n at) i = absurd (cc)
sees_applied s x es found all (Number p) i = let (w, e, g, none) = call_comes s x es as_number p i.0 found all in let same : w ≡ Number p = number_is w p g none in subst (λ v. applied x.at (list_function x.text) found ≡ Ok v) same e
sees_applied s x es found all (Word p) i = let (w, e, g, none) = call_comes s x es as_word p i found all in let same : w ≡ Word p = word_is w p g in subst (λ v. applied x.at (list_function x.text) found ≡ Ok v) same e
sees_applied s x es found all (NumList c) i = let e = i.1 in absurd (cc)
sees_applied s x es found all (WordList c) i = let e = i.1 in absurd (cc)
sees_applied s x es found all (Parts c ks) i = let e = i.1 in absurd (cc)

call_gives : (s : Scope) (x : Name) (es : ExprsTree) (v : Seen) → Sees s (Call x es) v → GivesSomething s (Call x es)
call_gives s x es (Numeral n at) i = absurd (cc)
call_gives s x es (Number p) i = (as_number, p, i.0)
call_gives s x es (Word p) i = (as_word, p, i)
call_gives s x es (NumList c) i = let e = i.1 in absurd (cc)
call_gives s x es (WordList c) i = let e = i.1 in absurd (cc)
call_gives s x es (Parts c ks) i = let e = i.1 in absurd (cc)

abbrev NotOutside : Scope → Name → ExprsTree → Type 0
NotOutside s x es = (h : Name) (k at : ℕ) → es ≡ More (Named h) (More (Num (pos k) at) End) → IsOutside s x h k → ⊥

abbrev CallFaults : Scope → Name → ExprsTree → CheckErr → Type 0
CallFaults s x es f = OutsideAt s x es f ⊎ ((GivesSomething s (Call x es) → ⊥) × NotOutside s x es × (broken.Kind x.at ≡ f))

module _ (s : Scope) (x : Name) (es : ExprsTree) (found : List Seen) (all : SeesAll s es found) where
  comes_to : (r : Result Seen CheckErr) → applied x.at (list_function x.text) found ≡ r → Applied s x es r → Agrees (Sees s (Call x es)) (CallFaults s x es) r
  comes_to _ e (comes v i) = only_value v i one none
    where
      one : (w : Seen) → Sees s (Call x es) w → v ≡ w
      one w j = let k : applied x.at (list_function x.text) found ≡ Ok w = sees_applied s x es found all w j in cc (e, k)

      none : (f : CheckErr) → CallFaults s x es f → ⊥
      none f (inl out) = let k : applied x.at (list_function x.text) found ≡ Err f = outside_applied s x es f out found all in cc (e, k)
      none f (inr t) = t.0 (call_gives s x es v i)
  comes_to _ e (outside f out) = only_fault f (inl out) one none
    where
      one : (g : CheckErr) → CallFaults s x es g → f ≡ g
      one g (inl o) = let k : applied x.at (list_function x.text) found ≡ Err g = outside_applied s x es g o found all in cc (e, k)
      one g (inr t) = let (h, k, at, i, o, j) = out in absurd (t.1 h k at i o)

      none : (v : Seen) → Sees s (Call x es) v → ⊥
      none v i = let k : applied x.at (list_function x.text) found ≡ Ok v = sees_applied s x es found all v i in cc (e, k)
  comes_to _ e refused = only_fault (broken.Kind x.at) (inr (gives, inside, refl)) one none
    where
      gives : GivesSomething s (Call x es) → ⊥
      gives (g, p, i) = let (w, k, j, n) = call_comes s x es g p i found all in cc (e, k)

      inside : NotOutside s x es
      inside h n at i o = let k : applied x.at (list_function x.text) found ≡ Err (broken.Range at) = outside_applied s x es (broken.Range at) (h, n, at, i, o, refl) found all in cc (e, k)

      one : (g : CheckErr) → CallFaults s x es g → broken.Kind x.at ≡ g
      one g (inl o) = let k : applied x.at (list_function x.text) found ≡ Err g = outside_applied s x es g o found all in cc (e, k)
      one g (inr t) = t.2

      none : (v : Seen) → Sees s (Call x es) v → ⊥
      none v i = let k : applied x.at (list_function x.text) found ≡ Ok v = sees_applied s x es found all v i in cc (e, k)

applied_agrees : (s : Scope) (x : Name) (es : ExprsTree) → IsFunction x → (found : List Seen) → SeesAll s es found → Agrees (Sees s (Call x es)) (CallFaults s x es) (applied x.at (list_function x.text) found)
applied_agrees s x es function found all = comes_to s x es found all (applied x.at (list_function x.text) found) refl (call_applied s x es function found all)

-- Calls as a whole.
abbrev CallSees : Scope → Name → ExprsTree → Seen → Type 0
CallSees s x es v = (found : List Seen) × SeesAll s es found × Sees s (Call x es) v

call_seen : (s : Scope) (x : Name) (es : ExprsTree) (g : ShownAs) (p : ShowPlan) → IsShown s (Call x es) g p → IsFunction x × AreSeen s es
call_seen s _ _ _ _ (is.part f h c k at ks of e t least j) = (breaks.of_parts e, breaks.more _ _ (breaks.hold h c ks t) (breaks.more _ _ (breaks.gives _ (as_number, show.Num (pos k), is.numeral (pos k) at)) breaks.none))
call_seen s _ _ _ _ (is.of_nums f x g c e t) = (of_lists g e, breaks.more _ _ (breaks.gives _ (as_list, show.Cell c, is.nums_cell x c t)) breaks.none)
call_seen s _ _ _ _ (is.of_words f x g c e t any) = (of_lists g e, breaks.more _ _ (breaks.gives _ (as_list, show.Cell c, is.words_cell x c t)) breaks.none)

arguments_seen : (s : Scope) (x : Name) (es : ExprsTree) (v : Seen) → Sees s (Call x es) v → IsFunction x × AreSeen s es
arguments_seen s x es v i = let (g, p, j) = call_gives s x es v i in call_seen s x es g p j

sees_call : (s : Scope) (x : Name) (es : ExprsTree) (v : Seen) → Sees s (Call x es) v → CallSees s x es v
sees_call s x es v i = let t = seen_are s es (arguments_seen s x es v i).1 in (t.0, t.1, i)

abbrev FunctionFaults : Scope → Name → ExprsTree → CheckErr → Type 0
FunctionFaults s x es f = BreakShown s es f ⊎ ((found : List Seen) × SeesAll s es found × CallFaults s x es f)

call_blamed : (s : Scope) (x : Name) (es : ExprsTree) → IsFunction x → (f : CheckErr) → FunctionFaults s x es f → BreaksShown s (Call x es) f
call_blamed s x es function f (inl b) = breaks.in_argument x es f function b
call_blamed s x es function f (inr (found, all, inl (h, k, at, e, out, j))) = rw (e, ← j) (breaks.no_part x h k at out)
call_blamed s x es function f (inr (found, all, inr (none, inside, e))) = subst (BreaksShown s (Call x es)) e (breaks.wrong_arguments x es function (are_seen s es found all) none inside)

outside_seen : (s : Scope) (x h : Name) (k at : ℕ) (out : IsOutside s x h k) → SeesAll s (More (Named h) (More (Num (pos k) at) End)) (Parts out.cell out.kinds ∷ Numeral (pos k) at ∷ [])
outside_seen s x h k at out = ((h, refl, out.stands), (refl, tt))

call_blames : (s : Scope) (x : Name) (es : ExprsTree) → IsFunction x → (f : CheckErr) → BreaksShown s (Call x es) f → FunctionFaults s x es f
call_blames s _ _ function _ (breaks.no_function x es none) = absurd (none function)
call_blames s _ _ function _ (breaks.in_argument x es f _ b) = inl b
call_blames s _ _ function _ (breaks.no_part x h k at out) = inr (Parts out.cell out.kinds ∷ Numeral (pos k) at ∷ [], outside_seen s x h k at out, inl (h, k, at, refl, out, refl))
call_blames s _ _ function _ (breaks.wrong_arguments x es _ i none inside) = let t = seen_are s es i in inr (t.0, t.1, inr (none, inside, refl))

no_function_blames : (s : Scope) (x : Name) (es : ExprsTree) → (IsFunction x → ⊥) → (f : CheckErr) → BreaksShown s (Call x es) f → broken.Name x.at ≡ f
no_function_blames s _ _ none _ (breaks.no_function x es _) = refl
no_function_blames s _ _ none _ (breaks.in_argument x es f function b) = absurd (none function)
no_function_blames s _ _ none _ (breaks.no_part x h k at out) = absurd (none (breaks.of_parts out.is_part))
no_function_blames s _ _ none _ (breaks.wrong_arguments x es function i _ inside) = absurd (none function)

call_sights : (s : Scope) (x : Name) (es : ExprsTree) → AllSights s es → Sights s (Call x es)
call_sights s x es h =
    where_true (is_some (list_function x.text) || is_part x.text) (function_decides x)
    (λ function. in_words (then_agrees h (λ found all. applied_agrees s x es function found all)) (λ v t. t.2) (sees_call s x es) (call_blamed s x es function) (call_blames s x es function))
    (λ none. only_fault (broken.Name x.at) (breaks.no_function x es none) (no_function_blames s x es none) (λ v i. none (arguments_seen s x es v i).0))

-- Every report expression.
mutual
  pub sights : (s : Scope) → HasCellsAlone s → (e : ExprTree) → Sights s e
  sights s cells (Num n at) = numeral_sights s n at
  sights s cells (Words t at) = text_sights s t at
  sights s cells (Named x) = name_sights s cells x
  sights s cells (Call x es) = call_sights s x es (all_sights s cells es)
  sights s cells (Neg e at) = neg_sights s e at (sights s cells e)
  sights s cells (Not e at) = not_sights s e at (sights s cells e)
  sights s cells (Bin o l r at) = bin_sights s o l r at (sights s cells l) (sights s cells r)

  all_sights : (s : Scope) → HasCellsAlone s → (es : ExprsTree) → AllSights s es
  all_sights s cells End = none_sights s
  all_sights s cells (More e es) = more_sights s e es (sights s cells e) (all_sights s cells es)
