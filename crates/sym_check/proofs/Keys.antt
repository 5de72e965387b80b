-- Keys are told apart by a test, and stand in order of their first appearance.
use Rattle.std.proofs.Common.{◌≡◌, ◌∙◌, ap, sym, refl, rules, Bool, true, false, not, cond, ◌||◌, if◌then◌else◌, List, [], ◌∷◌, ◌++◌, map, append-nil}
use Rattle.std.specs.Bool.{Decides}
use Rattle.std.specs.Cmp.{IsEquivalence}
use Rattle.std.specs.List.{AllByRecursion, filter, list_any, IsDistinct}
use Rattle.std.proofs.lemmas.List.Elements.{filter-append}
use Rattle.std.proofs.lemmas.Map.Keys.{IsDistinct-cons, IsDistinct-head, IsDistinct-tail}
use Rattle.sym_base.specs.declared.values.value.Key.{Key}
use Rattle.sym_base.specs.declared.values.value.Value.{Value}
use Rattle.sym_base.proofs.ValueLemmas.{key_eq-Decides}
use Rattle.sym_check.specs.Meaning.Groups.{is_key, is_value, is_among, not_among, distinct}

-- The test of values holds exactly of equal ones,
pub value-Decides : (v w : Value) → Decides (is_value v w) (v ≡ w)
value-Decides v w = search rules

-- and so does that of keys.
pub key-Decides : (x y : Key) → Decides (is_key x y) (x ≡ y)
key-Decides = key_eq-Decides

pub same_key : (x : Key) → is_key x x ≡ true
same_key x = (key-Decides x x).1 refl

pub equal_keys : (x y : Key) → is_key x y ≡ true → x ≡ y
equal_keys x y h = (key-Decides x y).0 h

pub turned : (x y : Key) → is_key x y ≡ true → is_key y x ≡ true
turned x y h = (key-Decides y x).1 (sym (equal_keys x y h))

chained : (x y z : Key) → is_key x y ≡ true → is_key y z ≡ true → is_key x z ≡ true
chained x y z p q = (key-Decides x z).1 (equal_keys x y p ∙ equal_keys y z q)

by_tests : (a b : Bool) → (a ≡ true → b ≡ true) → (b ≡ true → a ≡ true) → a ≡ b
by_tests true true f g = refl
by_tests true false f g = sym (f refl)
by_tests false true f g = g refl
by_tests false false f g = refl

pub keys_equiv : IsEquivalence is_key
keys_equiv = record {
  refl = same_key;
  symm = λ x y. by_tests (is_key x y) (is_key y x) (turned x y) (turned y x);
  congr = λ x y z h. ap (λ (k : Key). is_key k z) (equal_keys x y h);
}

-- The keys that are unlike one.
abbrev unlike : Key → List Key → List Key
unlike k ks = filter (λ other. not (is_key other k)) ks

-- Keys that are unlike k have another key as before, and k no more.
among-unlike : (key k : Key) (ks : List Key) → is_among key (unlike k ks) ≡ (if is_key key k then false else is_among key ks)
among-unlike key k [] = of (is_key key k)
  where
    of : (b : Bool) → false ≡ (if b then false else false)
    of true = refl
    of false = refl
among-unlike key k (x ∷ rest) = of (is_key x k) (is_key key k) (is_key key x) refl refl refl (among-unlike key k rest)
  where
    of : (b c d : Bool) → is_key x k ≡ b → is_key key k ≡ c → is_key key x ≡ d
        → is_among key (unlike k rest) ≡ (if is_key key k then false else is_among key rest)
        → is_among key (cond (not b) (x ∷ unlike k rest) (unlike k rest)) ≡ (if c then false else d || is_among key rest)
    of true true d p q r later = later ∙ ap (λ (t : Bool). if t then false else is_among key rest) q
    of true false true p q r later = let both : is_key key k ≡ true = chained key x k r p in cc
    of true false false p q r later = later ∙ ap (λ (t : Bool). if t then false else is_among key rest) q
    of false true true p q r later = let both : is_key x k ≡ true = chained x key k (turned key x r) q in cc
    of false true false p q r later = ap (λ (t : Bool). t || is_among key (unlike k rest)) r ∙ later ∙ ap (λ (t : Bool). if t then false else is_among key rest) q
    of false false d p q r later = ap (λ (t : Bool). t || is_among key (unlike k rest)) r ∙ ap (λ (t : Bool). d || t) (later ∙ ap (λ (t : Bool). if t then false else is_among key rest) q)

pub among-distinct : (key : Key) (ks : List Key) → is_among key (distinct ks) ≡ is_among key ks
among-distinct key [] = refl
among-distinct key (k ∷ rest) =
    ap (λ (t : Bool). is_key key k || t) (among-unlike key k (distinct rest))
    ∙ of (is_key key k) (among-distinct key rest)
  where
    of : (b : Bool) → is_among key (distinct rest) ≡ is_among key rest → (b || (if b then false else is_among key (distinct rest))) ≡ (b || is_among key rest)
    of true later = refl
    of false later = later

-- A key behind others is distinct from them, or it goes.
pub distinct_next : (ks : List Key) (key : Key) → distinct (ks ++ key ∷ []) ≡ (if is_among key ks then distinct ks else distinct ks ++ key ∷ [])
distinct_next [] key = refl
distinct_next (k ∷ rest) key =
    ap (λ ks. k ∷ unlike k ks) (distinct_next rest key)
    ∙ of (is_among key rest) (is_key key k) refl
  where
    of : (b c : Bool) → is_key key k ≡ c → k ∷ unlike k (if b then distinct rest else distinct rest ++ key ∷ []) ≡ (if c || b then k ∷ unlike k (distinct rest) else (k ∷ unlike k (distinct rest)) ++ key ∷ [])
    of true true e = refl
    of true false e = refl
    of false true e =
        ap (λ ks. k ∷ ks) (filter-append (λ other. not (is_key other k)) (distinct rest) (key ∷ [])
        ∙ ap (λ (t : Bool). unlike k (distinct rest) ++ cond (not t) (key ∷ []) []) e ∙ append-nil (unlike k (distinct rest)))
    of false false e =
        ap (λ ks. k ∷ ks) (filter-append (λ other. not (is_key other k)) (distinct rest) (key ∷ [])
        ∙ ap (λ (t : Bool). unlike k (distinct rest) ++ cond (not t) (key ∷ []) []) e)

-- ---- more keys
all_stay : (ks : List Key) → not_among [] ks ≡ ks
all_stay [] = refl
all_stay (k ∷ rest) = ap (λ ks. k ∷ ks) (all_stay rest)

-- Unlike one key and none of others is none of them all.
unlike-not_among : (x : Key) (others ks : List Key) → unlike x (not_among others ks) ≡ not_among (x ∷ unlike x others) ks
unlike-not_among x others [] = refl
unlike-not_among x others (k ∷ rest) =
    of (is_key k x) (is_among k others) refl (unlike-not_among x others rest)
    ∙ ap (λ (t : Bool). cond (not (is_key k x || t)) (k ∷ not_among (x ∷ unlike x others) rest) (not_among (x ∷ unlike x others) rest)) (sym (among-unlike k x others))
  where
    of : (a b : Bool) → is_key k x ≡ a → unlike x (not_among others rest) ≡ not_among (x ∷ unlike x others) rest
        → unlike x (cond (not b) (k ∷ not_among others rest) (not_among others rest))
        ≡ cond (not (a || (if a then false else b))) (k ∷ not_among (x ∷ unlike x others) rest) (not_among (x ∷ unlike x others) rest)
    of true true e later = later
    of false true e later = later
    of true false e later = ap (λ (t : Bool). cond (not t) (k ∷ unlike x (not_among others rest)) (unlike x (not_among others rest))) e ∙ later
    of false false e later = ap (λ (t : Bool). cond (not t) (k ∷ unlike x (not_among others rest)) (unlike x (not_among others rest))) e ∙ ap (λ ks. k ∷ ks) later

-- Of keys and more the new ones of the latter go last.
pub distinct_append : (xs ys : List Key) → distinct (xs ++ ys) ≡ distinct xs ++ not_among (distinct xs) (distinct ys)
distinct_append [] ys = sym (all_stay (distinct ys))
distinct_append (x ∷ rest) ys =
    ap (λ ks. x ∷ unlike x ks) (distinct_append rest ys)
    ∙ ap (λ ks. x ∷ ks) (filter-append (λ other. not (is_key other x)) (distinct rest) (not_among (distinct rest) (distinct ys)))
    ∙ ap (λ ks. x ∷ (unlike x (distinct rest) ++ ks)) (unlike-not_among x (distinct rest) (distinct ys))

-- No key of these comes twice.
apart_stay : (x k : Key) (ks : List Key) → AllByRecursion (λ y. is_key x y ≡ false) ks → AllByRecursion (λ y. is_key x y ≡ false) (unlike k ks)
apart_stay x k [] h = tt
apart_stay x k (y ∷ rest) h = of (is_key y k) (apart_stay x k rest h.1)
  where
    of : (b : Bool) → AllByRecursion (λ y. is_key x y ≡ false) (unlike k rest) → AllByRecursion (λ y. is_key x y ≡ false) (cond (not b) (y ∷ unlike k rest) (unlike k rest))
    of true later = later
    of false later = (h.0, later)

distinct_stay : (k : Key) (ks : List Key) → IsDistinct is_key ks → IsDistinct is_key (unlike k ks)
distinct_stay k [] h = h
distinct_stay k (y ∷ rest) h = of (is_key y k) (distinct_stay k rest (IsDistinct-tail is_key y rest h))
  where
    of : (b : Bool) → IsDistinct is_key (unlike k rest) → IsDistinct is_key (cond (not b) (y ∷ unlike k rest) (unlike k rest))
    of true later = later
    of false later = IsDistinct-cons is_key y (unlike k rest) (apart_stay y k rest (IsDistinct-head is_key y rest h)) later

apart_from : (k : Key) (ks : List Key) → AllByRecursion (λ y. is_key k y ≡ false) (unlike k ks)
apart_from k [] = tt
apart_from k (y ∷ rest) = of (is_key y k) refl (apart_from k rest)
  where
    of : (b : Bool) → is_key y k ≡ b → AllByRecursion (λ y. is_key k y ≡ false) (unlike k rest) → AllByRecursion (λ y. is_key k y ≡ false) (cond (not b) (y ∷ unlike k rest) (unlike k rest))
    of true e later = later
    of false e later = (keys_equiv.symm k y ∙ e, later)

none_distinct : IsDistinct is_key []
unfolding IsDistinct
none_distinct = tt

pub distinct_apart : (ks : List Key) → IsDistinct is_key (distinct ks)
distinct_apart [] = none_distinct
distinct_apart (k ∷ rest) =
    IsDistinct-cons is_key k (unlike k (distinct rest)) (apart_from k (distinct rest))
    (distinct_stay k (distinct rest) (distinct_apart rest))
