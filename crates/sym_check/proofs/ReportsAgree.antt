-- Report expressions agree with what they give and with their first broken rule, in a scope of cells.
use Rattle.std.proofs.Common.{◌≡◌, refl, subst, ℕ, ℤ, true, ◌⊎◌, inl, inr, List, Option, Some, None, Result, Ok}
use Rattle.sym_base.specs.declared.tree.name.Name.{Name}
use Rattle.sym_base.specs.declared.tree.expression.BinOp.{BinOp}
use Rattle.sym_base.specs.Trees.{ExprTree, Num, Words, Named, Neg, Not, Bin}
use Rattle.sym_check.specs.declared.plan.expression.ArithOp.{ArithOp}
use Rattle.sym_check.specs.Meaning.Arithmetic.{and_then}
use Rattle.sym_check.specs.Meaning.Columns.{ShownAs, as_number, as_word, as_list}
use Rattle.sym_check.specs.Plan.ShowPlans.{ShowPlan}
use Rattle.sym_check.specs.Plan.ShowPlans as show
use Rattle.sym_check.specs.declared.elaborate.error.CheckErr.{CheckErr}
use Rattle.sym_check.specs.declared.elaborate.error.CheckErr.TheVariants as broken
use Rattle.sym_check.specs.declared.elaborate.scope.Meaning.{Meaning}
use Rattle.sym_check.specs.declared.elaborate.scope.Meaning.TheVariants as meaning
use Rattle.sym_check.specs.Rules.Scopes.{Scope, Stands, IsFree, is_cell}
use Rattle.sym_check.specs.Rules.Typing.{arith_of}
use Rattle.sym_check.specs.Rules.Reports.{IsShown}
use Rattle.sym_check.specs.Rules.Reports as is
use Rattle.sym_check.specs.Breaks.Reports.{GivesSomething, IsSeen, AreSeen, BreaksShown, BreakShown}
use Rattle.sym_check.specs.Breaks.Reports as breaks
use Rattle.sym_check.specs.Elaborate.Reports.{Seen, Numeral, Number, Word, NumList, WordList, Parts, seen, shown_number, calculated_by, see}
use Rattle.sym_check.proofs.Agreements.{Agrees, in_words, only_value, then_agrees, then_made, IsKinded, of_kind, of_no_kind, kinded_then, one_value, named_agrees}
use Rattle.sym_check.proofs.ReportsSeen.{Sees, Gives, a_numeral, a_number, num_list, word_list, seen_shown, shown_seen}

-- Whether something is seen, by what it comes to.
pub is_seen : (s : Scope) (e : ExprTree) (v : Seen) → Sees s e v → IsSeen s e
is_seen s e (Numeral n at) i = breaks.gives e (as_number, show.Num n, seen_shown s e (Numeral n at) as_number (show.Num n) i (a_numeral n at))
is_seen s e (Number p) i = breaks.gives e (as_number, p, i.0)
is_seen s e (Word p) i = breaks.gives e (as_word, p, i)
is_seen s e (NumList c) i = breaks.gives e (as_list, show.Cell c, seen_shown s e (NumList c) as_list (show.Cell c) i (num_list c))
is_seen s e (WordList c) i = breaks.gives e (as_list, show.Cell c, seen_shown s e (WordList c) as_list (show.Cell c) i (word_list c))
is_seen s e (Parts c ks) i = rw i.1 (breaks.hold i.0 c ks i.2)

pub seen_is : (s : Scope) (e : ExprTree) → IsSeen s e → (v : Seen) × Sees s e v
seen_is s _ (breaks.gives e i) = let t = shown_seen s e i.0 i.1 i.2 in (t.0, t.1)
seen_is s _ (breaks.hold x c ks t) = (Parts c ks, (x, refl, t))

-- The number that something comes to.
abbrev pub NumberOf : Seen → ShowPlan → Type 0
NumberOf (Numeral n at) p = show.Num n ≡ p
NumberOf (Number q) p = q ≡ p
NumberOf (Word q) p = ⊥
NumberOf (NumList c) p = ⊥
NumberOf (WordList c) p = ⊥
NumberOf (Parts c ks) p = ⊥

number_gives : (v : Seen) (p : ShowPlan) → NumberOf v p → Gives v as_number p
number_gives (Numeral n at) p e = subst (Gives (Numeral n at) as_number) e (a_numeral n at)
number_gives (Number q) p e = subst (Gives (Number q) as_number) e (a_number q)
number_gives (Word q) p e = absurd e
number_gives (NumList c) p e = absurd e
number_gives (WordList c) p e = absurd e
number_gives (Parts c ks) p e = absurd e

gives_number : (v : Seen) (p : ShowPlan) → Gives v as_number p → NumberOf v p
gives_number _ _ (a_numeral n at) = refl
gives_number _ _ (a_number p) = refl

number_kinded : (at : ℕ) (v : Seen) → IsKinded (NumberOf v) at (shown_number at v)
number_kinded at (Numeral n place) = of_kind at (show.Num n) refl (λ b i. i)
number_kinded at (Number p) = of_kind at p refl (λ b i. i)
number_kinded at _ = of_no_kind at (λ a i. i)

shows_number : (s : Scope) (e : ExprTree) (v : Seen) (p : ShowPlan) → Sees s e v → NumberOf v p → IsShown s e as_number p
shows_number s e v p i j = seen_shown s e v as_number p i (number_gives v p j)

number_shown : (s : Scope) (e : ExprTree) (p : ShowPlan) → IsShown s e as_number p → (v : Seen) × Sees s e v × NumberOf v p
number_shown s e p i = let t = shown_seen s e as_number p i in (t.0, t.1, gives_number t.0 p t.2)

-- Numerals and texts.
abbrev pub Sights : Scope → ExprTree → Type 0
Sights s e = Agrees (Sees s e) (BreaksShown s e) (see s e)

pub numeral_once : (s : Scope) (n : ℤ) (at : ℕ) (v : Seen) → Sees s (Num n at) v → Numeral n at ≡ v
numeral_once s n at (Numeral m place) e = cc
numeral_once s n at (Number p) (i, none) = absurd (none n at refl)
numeral_once s n at (Word p) i = elim i [ ]
numeral_once s n at (NumList c) (x, e, t) = absurd (cc)
numeral_once s n at (WordList c) (x, e, t) = absurd (cc)
numeral_once s n at (Parts c ks) (x, e, t) = absurd (cc)

pub numeral_sights : (s : Scope) (n : ℤ) (at : ℕ) → Sights s (Num n at)
numeral_sights s n at = only_value (Numeral n at) refl (numeral_once s n at) (λ f b. elim b [ ])

text_alone : (s : Scope) (t : List ℕ) (at : ℕ) (p : ShowPlan) → IsShown s (Words t at) as_word p → show.Text t ≡ p
text_alone s _ _ _ (is.text t at) = refl

text_once : (s : Scope) (t : List ℕ) (at : ℕ) (v : Seen) → Sees s (Words t at) v → Word (show.Text t) ≡ v
text_once s t at (Numeral m place) e = absurd (cc)
text_once s t at (Number p) (i, none) = elim i [ ]
text_once s t at (Word p) i = let e : show.Text t ≡ p = text_alone s t at p i in cc
text_once s t at (NumList c) (x, e, u) = absurd (cc)
text_once s t at (WordList c) (x, e, u) = absurd (cc)
text_once s t at (Parts c ks) (x, e, u) = absurd (cc)

pub text_sights : (s : Scope) (t : List ℕ) (at : ℕ) → Sights s (Words t at)
text_sights s t at = only_value (Word (show.Text t)) (is.text t at) (text_once s t at) (λ f b. elim b [ ])

-- Names of cells.
abbrev pub NamedSeen : Meaning → Seen → Type 0
NamedSeen meaning.Unfinished v = ⊥
NamedSeen (meaning.Enum enum) v = ⊥
NamedSeen (meaning.Label enum l) v = ⊥
NamedSeen (meaning.Value k x) v = ⊥
NamedSeen (meaning.IntCell c) v = Number (show.Cell c) ≡ v
NamedSeen (meaning.EnumCell c enum) v = Word (show.Cell c) ≡ v
NamedSeen (meaning.HoldCell c ks) v = Parts c ks ≡ v
NamedSeen (meaning.NumsCell c) v = NumList c ≡ v
NamedSeen (meaning.WordsCell c) v = WordList c ≡ v
NamedSeen (meaning.Test t ks) v = ⊥

cell_kinded : (at : ℕ) (m : Meaning) → IsKinded (NamedSeen m) at (seen at (Some m))
cell_kinded at (meaning.IntCell c) = of_kind at (Number (show.Cell c)) refl (λ b i. i)
cell_kinded at (meaning.EnumCell c enum) = of_kind at (Word (show.Cell c)) refl (λ b i. i)
cell_kinded at (meaning.HoldCell c ks) = of_kind at (Parts c ks) refl (λ b i. i)
cell_kinded at (meaning.NumsCell c) = of_kind at (NumList c) refl (λ b i. i)
cell_kinded at (meaning.WordsCell c) = of_kind at (WordList c) refl (λ b i. i)
cell_kinded at _ = of_no_kind at (λ a i. i)

cell_seen : (m : Meaning) → is_cell m ≡ true → (v : Seen) × NamedSeen m v
cell_seen (meaning.IntCell c) e = (Number (show.Cell c), refl)
cell_seen (meaning.EnumCell c enum) e = (Word (show.Cell c), refl)
cell_seen (meaning.HoldCell c ks) e = (Parts c ks, refl)
cell_seen (meaning.NumsCell c) e = (NumList c, refl)
cell_seen (meaning.WordsCell c) e = (WordList c, refl)
cell_seen _ e = absurd (cc)

name_sees : (s : Scope) (x : Name) (m : Meaning) (v : Seen) → Stands s x m → NamedSeen m v → Sees s (Named x) v
name_sees s x (meaning.IntCell c) v t e = subst (Sees s (Named x)) e (is.int_cell x c t, λ n at i. cc)
name_sees s x (meaning.EnumCell c enum) v t e = subst (Sees s (Named x)) e (is.enum_cell x c enum t)
name_sees s x (meaning.HoldCell c ks) v t e = subst (Sees s (Named x)) e (x, refl, t)
name_sees s x (meaning.NumsCell c) v t e = subst (Sees s (Named x)) e (x, refl, t)
name_sees s x (meaning.WordsCell c) v t e = subst (Sees s (Named x)) e (x, refl, t)
name_sees s x _ v t e = absurd e

number_named : (s : Scope) (x : Name) (p : ShowPlan) → IsShown s (Named x) as_number p → (m : Meaning) × Stands s x m × NamedSeen m (Number p)
number_named s _ _ (is.int_cell x c t) = (meaning.IntCell c, t, refl)

word_named : (s : Scope) (x : Name) (p : ShowPlan) → IsShown s (Named x) as_word p → (m : Meaning) × Stands s x m × NamedSeen m (Word p)
word_named s _ _ (is.enum_cell x c enum t) = (meaning.EnumCell c enum, t, refl)

same_name : (s : Scope) (x y : Name) (m : Meaning) → Named x ≡ Named y → Stands s y m → Stands s x m
same_name s x y m e t = let same : y ≡ x = cc in subst (λ z. Stands s z m) same t

pub sees_name : (s : Scope) (x : Name) (v : Seen) → Sees s (Named x) v → (m : Meaning) × Stands s x m × NamedSeen m v
sees_name s x (Numeral n at) e = absurd (cc)
sees_name s x (Number p) (i, none) = number_named s x p i
sees_name s x (Word p) i = word_named s x p i
sees_name s x (NumList c) (y, e, t) = (meaning.NumsCell c, same_name s x y (meaning.NumsCell c) e t, refl)
sees_name s x (WordList c) (y, e, t) = (meaning.WordsCell c, same_name s x y (meaning.WordsCell c) e t, refl)
sees_name s x (Parts c ks) (y, e, t) = (meaning.HoldCell c ks, same_name s x y (meaning.HoldCell c ks) e t, refl)

-- In the report all names that stand for something are those of cells.
abbrev pub HasCellsAlone : Scope → Type 0
HasCellsAlone s = (x : Name) (m : Meaning) → Stands s x m → is_cell m ≡ true

abbrev NameFaults : Scope → Name → CheckErr → Type 0
NameFaults s x f = (IsFree s x × (broken.Name x.at ≡ f)) ⊎ ((m : Meaning) × Stands s x m × (((v : Seen) → NamedSeen m v → ⊥) × (broken.Kind x.at ≡ f)))

name_blamed : (s : Scope) → HasCellsAlone s → (x : Name) (f : CheckErr) → NameFaults s x f → BreaksShown s (Named x) f
name_blamed s cells x f (inl (t, e)) = subst (BreaksShown s (Named x)) e (breaks.unknown x t)
name_blamed s cells x f (inr (m, t, (none, e))) = let v = cell_seen m (cells x m t) in absurd (none v.0 v.1)

name_blames : (s : Scope) (x : Name) (f : CheckErr) → BreaksShown s (Named x) f → NameFaults s x f
name_blames s _ _ (breaks.unknown x t) = inl (t, refl)

pub name_sights : (s : Scope) → HasCellsAlone s → (x : Name) → Sights s (Named x)
name_sights s cells x = in_words (named_agrees s x (λ o. seen x.at o) refl (cell_kinded x.at)) (λ v t. name_sees s x t.0 v t.1 t.2) (sees_name s x) (name_blamed s cells x) (name_blames s x)

-- Unary minus.
abbrev NegSees : Scope → ExprTree → Seen → Type 0
NegSees s e v = (u : Seen) × Sees s e u × ((p : ShowPlan) × NumberOf u p × (Number (show.Neg p) ≡ v))

neg_sees : (s : Scope) (e : ExprTree) (at : ℕ) (v : Seen) → NegSees s e v → Sees s (Neg e at) v
neg_sees s e at v (u, i, (p, j, k)) = subst (Sees s (Neg e at)) k (is.negative e at p (shows_number s e u p i j), λ n place l. cc)

neg_shown : (s : Scope) (e : ExprTree) (at : ℕ) (g : ShownAs) (p : ShowPlan) → IsShown s (Neg e at) g p → (q : ShowPlan) × IsShown s e as_number q × (g ≡ as_number) × (show.Neg q ≡ p)
neg_shown s _ _ _ _ (is.negative e at q i) = (q, i, refl, refl)

sees_neg : (s : Scope) (e : ExprTree) (at : ℕ) (v : Seen) → Sees s (Neg e at) v → NegSees s e v
sees_neg s e at (Numeral n place) i = absurd (cc)
sees_neg s e at (Number p) (i, none) = let t = neg_shown s e at as_number p i in let u = number_shown s e t.0 t.1 in let k : show.Neg t.0 ≡ p = t.3 in (u.0, u.1, (t.0, u.2, cc))
sees_neg s e at (Word p) i = let t = neg_shown s e at as_word p i in let k : as_word ≡ as_number = t.2 in absurd (cc)
sees_neg s e at (NumList c) (x, i, t) = absurd (cc)
sees_neg s e at (WordList c) (x, i, t) = absurd (cc)
sees_neg s e at (Parts c ks) (x, i, t) = absurd (cc)

abbrev NegFaults : Scope → ExprTree → ℕ → CheckErr → Type 0
NegFaults s e at f = BreaksShown s e f ⊎ ((u : Seen) × Sees s e u × (((p : ShowPlan) → NumberOf u p → ⊥) × (broken.Kind at ≡ f)))

neg_blamed : (s : Scope) (e : ExprTree) (at : ℕ) → Sights s e → (f : CheckErr) → NegFaults s e at f → BreaksShown s (Neg e at) f
neg_blamed s e at h f (inl b) = breaks.in_negated e at f b
neg_blamed s e at h f (inr (u, i, (none, k))) = subst (BreaksShown s (Neg e at)) k (breaks.not_negated e at (is_seen s e u i) gives)
  where
    gives : GivesSomething s (Neg e at) → ⊥
    gives (g, p, j) = let t = neg_shown s e at g p j in let w = number_shown s e t.0 t.1 in let same : w.0 ≡ u = one_value h w.0 u w.1 i in none t.0 (subst (λ v. NumberOf v t.0) same w.2)

neg_blames : (s : Scope) (e : ExprTree) (at : ℕ) (f : CheckErr) → BreaksShown s (Neg e at) f → NegFaults s e at f
neg_blames s _ _ _ (breaks.in_negated e at f b) = inl b
neg_blames s _ _ _ (breaks.not_negated e at i none) = let t = seen_is s e i in inr (t.0, t.1, ((λ p j. none (as_number, show.Neg p, is.negative e at p (shows_number s e t.0 p t.1 j))), refl))

pub neg_sights : (s : Scope) (e : ExprTree) (at : ℕ) → Sights s e → Sights s (Neg e at)
neg_sights s e at h = in_words (then_agrees h (λ u i. then_made (λ p. Number (show.Neg p)) (number_kinded at u))) (neg_sees s e at) (sees_neg s e at) (neg_blamed s e at h) (neg_blames s e at)

-- `not`, which has no place in the report.
not_shown : (s : Scope) (e : ExprTree) (at : ℕ) (v : Seen) → Sees s (Not e at) v → ⊥
not_shown s e at (Numeral n place) i = cc
not_shown s e at (Number p) (i, none) = elim i [ ]
not_shown s e at (Word p) i = elim i [ ]
not_shown s e at (NumList c) (x, i, t) = cc
not_shown s e at (WordList c) (x, i, t) = cc
not_shown s e at (Parts c ks) (x, i, t) = cc

abbrev NotFaults : Scope → ExprTree → ℕ → CheckErr → Type 0
NotFaults s e at f = BreaksShown s e f ⊎ ((u : Seen) × Sees s e u × ((Seen → ⊥ → ⊥) × (broken.Kind at ≡ f)))

not_blamed : (s : Scope) (e : ExprTree) (at : ℕ) (f : CheckErr) → NotFaults s e at f → BreaksShown s (Not e at) f
not_blamed s e at f (inl b) = breaks.in_not e at f b
not_blamed s e at f (inr (u, i, (none, k))) = subst (BreaksShown s (Not e at)) k (breaks.no_condition e at (is_seen s e u i))

not_blames : (s : Scope) (e : ExprTree) (at : ℕ) (f : CheckErr) → BreaksShown s (Not e at) f → NotFaults s e at f
not_blames s _ _ _ (breaks.in_not e at f b) = inl b
not_blames s _ _ _ (breaks.no_condition e at i) = let t = seen_is s e i in inr (t.0, t.1, ((λ v j. j), refl))

pub not_sights : (s : Scope) (e : ExprTree) (at : ℕ) → Sights s e → Sights s (Not e at)
not_sights s e at h = in_words (then_agrees h (λ u i. of_no_kind {Is = λ (v : Seen). ⊥} at (λ v j. j))) (λ v t. absurd t.2) (λ v i. absurd (not_shown s e at v i)) (not_blamed s e at) (not_blames s e at)

-- Operators.
abbrev Calculated : Option ArithOp → Seen → Seen → Seen → Type 0
Calculated None t u v = ⊥
Calculated (Some a) t u v = (p : ShowPlan) × NumberOf t p × ((q : ShowPlan) × NumberOf u q × (Number (show.Bin a p q) ≡ v))

made_kinded : {A B : Type 0} {Is : A → Type 0} {r : Result A CheckErr} (at : ℕ) (make : A → B) → IsKinded Is at r → IsKinded (λ b. (a : A) × Is a × (make a ≡ b)) at (and_then (λ a. Ok (make a)) r)
made_kinded at make h = kinded_then at h (λ a i. of_kind at (make a) refl (λ b e. e))

calculated_kinded : (at : ℕ) (o : Option ArithOp) (t u : Seen) → IsKinded (Calculated o t u) at (calculated_by at o t u)
calculated_kinded at None t u = of_no_kind at (λ v i. i)
calculated_kinded at (Some a) t u = kinded_then at (number_kinded at t) (λ p i. made_kinded at (λ q. Number (show.Bin a p q)) (number_kinded at u))

abbrev BinSees : Scope → BinOp → ExprTree → ExprTree → Seen → Type 0
BinSees s o l r v = (t : Seen) × Sees s l t × ((u : Seen) × Sees s r u × Calculated (arith_of o) t u v)

bin_made : (s : Scope) (o : BinOp) (l r : ExprTree) (at : ℕ) (t u v : Seen) (found : Option ArithOp) → arith_of o ≡ found → Sees s l t → Sees s r u → Calculated found t u v → Sees s (Bin o l r at) v
bin_made s o l r at t u v None e i j k = absurd k
bin_made s o l r at t u v (Some a) e i j (p, m, (q, n, k)) = subst (Sees s (Bin o l r at)) k (is.calculated o a l r at p q e (shows_number s l t p i m) (shows_number s r u q j n), λ z place y. cc)

bin_shown : (s : Scope) (o : BinOp) (l r : ExprTree) (at : ℕ) (g : ShownAs) (p : ShowPlan) → IsShown s (Bin o l r at) g p → (a : ArithOp) × (arith_of o ≡ Some a) × ((q : ShowPlan) × IsShown s l as_number q × ((w : ShowPlan) × IsShown s r as_number w × (g ≡ as_number) × (show.Bin a q w ≡ p)))
bin_shown s _ _ _ _ _ _ (is.calculated o a l r at q w e i j) = (a, e, (q, i, (w, j, refl, refl)))

bin_parted : (s : Scope) (o : BinOp) (l r : ExprTree) (at : ℕ) (g : ShownAs) (p : ShowPlan) → IsShown s (Bin o l r at) g p → BinSees s o l r (Number p) × (g ≡ as_number)
bin_parted s o l r at g p i =
    let (a, e, (q, j, (w, k, m, n))) = bin_shown s o l r at g p i in
    let t = number_shown s l q j in
    let u = number_shown s r w k in
    ((t.0, t.1, (u.0, u.1, rw e (q, t.2, (w, u.2, cc (n))))), m)

sees_bin : (s : Scope) (o : BinOp) (l r : ExprTree) (at : ℕ) (v : Seen) → Sees s (Bin o l r at) v → BinSees s o l r v
sees_bin s o l r at (Numeral n place) i = absurd (cc)
sees_bin s o l r at (Number p) (i, none) = (bin_parted s o l r at as_number p i).0
sees_bin s o l r at (Word p) i = let k : as_word ≡ as_number = (bin_parted s o l r at as_word p i).1 in absurd (cc)
sees_bin s o l r at (NumList c) (x, i, t) = absurd (cc)
sees_bin s o l r at (WordList c) (x, i, t) = absurd (cc)
sees_bin s o l r at (Parts c ks) (x, i, t) = absurd (cc)

abbrev BinFaults : Scope → BinOp → ExprTree → ExprTree → ℕ → CheckErr → Type 0
BinFaults s o l r at f = BreaksShown s l f ⊎ ((t : Seen) × Sees s l t × (BreaksShown s r f ⊎ ((u : Seen) × Sees s r u × (((v : Seen) → Calculated (arith_of o) t u v → ⊥) × (broken.Kind at ≡ f)))))

bin_blamed : (s : Scope) (o : BinOp) (l r : ExprTree) (at : ℕ) → Sights s l → Sights s r → (f : CheckErr) → BinFaults s o l r at f → BreaksShown s (Bin o l r at) f
bin_blamed s o l r at h k f (inl b) = breaks.in_left o l r at f b
bin_blamed s o l r at h k f (inr (t, i, inl b)) = breaks.in_right o l r at f (is_seen s l t i) b
bin_blamed s o l r at h k f (inr (t, i, inr (u, j, (none, e)))) = subst (BreaksShown s (Bin o l r at)) e (breaks.wrong_kinds o l r at (is_seen s l t i) (is_seen s r u j) gives)
  where
    gives : GivesSomething s (Bin o l r at) → ⊥
    gives (g, p, w) =
        let (t', i', (u', j', c)) = (bin_parted s o l r at g p w).0 in
        let left : t' ≡ t = one_value h t' t i' i in
        let right : u' ≡ u = one_value k u' u j' j in
        none (Number p) (subst (λ y. Calculated (arith_of o) t y (Number p)) right (subst (λ y. Calculated (arith_of o) y u' (Number p)) left c))

bin_gives : (s : Scope) (o : BinOp) (l r : ExprTree) (at : ℕ) (t u v : Seen) (found : Option ArithOp) → arith_of o ≡ found → Sees s l t → Sees s r u → Calculated found t u v → GivesSomething s (Bin o l r at)
bin_gives s o l r at t u v None e i j k = absurd k
bin_gives s o l r at t u v (Some a) e i j (p, m, (q, n, k)) = (as_number, show.Bin a p q, is.calculated o a l r at p q e (shows_number s l t p i m) (shows_number s r u q j n))

bin_blames : (s : Scope) (o : BinOp) (l r : ExprTree) (at : ℕ) (f : CheckErr) → BreaksShown s (Bin o l r at) f → BinFaults s o l r at f
bin_blames s _ _ _ _ _ (breaks.in_left o l r at f b) = inl b
bin_blames s _ _ _ _ _ (breaks.in_right o l r at f i b) = let t = seen_is s l i in inr (t.0, t.1, inl b)
bin_blames s _ _ _ _ _ (breaks.wrong_kinds o l r at i j none) =
    let t = seen_is s l i in
    let u = seen_is s r j in
    inr (t.0, t.1, inr (u.0, u.1, ((λ v c. none (bin_gives s o l r at t.0 u.0 v (arith_of o) refl t.1 u.1 c)), refl)))

pub bin_sights : (s : Scope) (o : BinOp) (l r : ExprTree) (at : ℕ) → Sights s l → Sights s r → Sights s (Bin o l r at)
bin_sights s o l r at h k =
    in_words (then_agrees h (λ t i. then_agrees k (λ u j. calculated_kinded at (arith_of o) t u)))
    (λ v i. bin_made s o l r at i.0 i.2.0 v (arith_of o) refl i.1 i.2.1 i.2.2)
    (sees_bin s o l r at) (bin_blamed s o l r at h k) (bin_blames s o l r at)
