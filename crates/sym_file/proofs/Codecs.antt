-- A text and its reader: what is read has the text and is stored, and what is so is read.
use Rattle.std.proofs.Common.{◌≡◌, ℕ, zero, suc, ◌+◌, ◌<◌, ◌^◌, Bool, true, false, cond, eqb, List, [], ◌∷◌, ◌++◌, length, Option, Some, None, refl, sym, ap, subst, ◌∙◌, append_assoc, arith, codes}
use Rattle.std.proofs.lemmas.Bool.{eqb-true}
use Rattle.std.proofs.lemmas.List.{length-append}
use Rattle.std.proofs.lemmas.List.Concat.{flat_map-cons}
use Rattle.std.proofs.lemmas.List.Elements.{All-cons, All-head, All-nil, All-tail}
use Rattle.std.specs.List.{All, AllZip, flat_map}
use Rattle.sym_file.specs.Reading.{Read, ◌>>=◌, after, apart, each, is_digit, many}

-- The value of a step that didn't fail.
pub bound : {A B : Type 0} (r : Option A) (f : A → Option B) (y : B) → (r >>= f) ≡ Some y → (x : A) × (r ≡ Some x) × (f x ≡ Some y)
bound (Some x) f y e = (x, refl, e)
bound None f y e = absurd cc

abbrev some_of : {A : Type 0} → A → Option A
some_of x = Some x

pub some_is : {A : Type 0} (x y : A) → some_of x ≡ some_of y → x ≡ y
some_is x y e = cc

-- What was read, and what it is turned into.
abbrev pub read_to : {A : Type 0} → A → List ℕ → Read A
read_to x rest = Some (x, rest)

abbrev pub into : {A B : Type 0} → (A → B) → A × List ℕ → Read B
into make x = Some (make x.0, x.1)

-- A test that didn't fail.
pub kept : {A : Type 0} (b : Bool) (x : Option A) (y : A) → cond b x None ≡ Some y → (b ≡ true) × (x ≡ Some y)
kept true x y e = (refl, e)
kept false x y e = absurd cc

pub kept_not : {A : Type 0} (b : Bool) (x : Option A) (y : A) → cond b None x ≡ Some y → (b ≡ false) × (x ≡ Some y)
kept_not true x y e = absurd cc
kept_not false x y e = (refl, e)

-- ---- texts
pub grouped_3 : (a b c r : List ℕ) → (a ++ b ++ c) ++ r ≡ a ++ (b ++ (c ++ r))
grouped_3 a b c r = append_assoc (a ++ b) c r ∙ append_assoc a b (c ++ r)

pub grouped_6 : (a b c d e f r : List ℕ) → (a ++ b ++ c ++ d ++ e ++ f) ++ r ≡ a ++ (b ++ (c ++ (d ++ (e ++ (f ++ r)))))
grouped_6 a b c d e f r =
    append_assoc (a ++ b ++ c ++ d ++ e) f r ∙ append_assoc (a ++ b ++ c ++ d) e (f ++ r) ∙ append_assoc (a ++ b ++ c) d (e ++ (f ++ r)) ∙ grouped_3 a b c (d ++ (e ++ (f ++ r)))

pub after_again : (text rest : List ℕ) → after text (text ++ rest) ≡ Some rest
unfolding after
after_again [] rest = refl
after_again (c ∷ text) rest = rw (same c) (after_again text rest)
  where
    same : (c : ℕ) → eqb c c ≡ true
    same c = grind arith

pub after_takes : (text bytes rest : List ℕ) → after text bytes ≡ Some rest → bytes ≡ text ++ rest
unfolding after
after_takes [] bytes rest e = some_is bytes rest e
after_takes (c ∷ text) [] rest e = absurd cc
after_takes (c ∷ text) (b ∷ bytes) rest e =
    let k = kept (eqb c b) (after text bytes) rest e in
    let same : c ≡ b = eqb-true c b k.0 in
    ap (λ (d : ℕ). d ∷ bytes) (sym same) ∙ ap (λ (bs : List ℕ). c ∷ bs) (after_takes text bytes rest k.1)

-- The bytes don't go on with a digit.
abbrev pub Ends : List ℕ → Type 0
Ends [] = Unit {0}
Ends (b ∷ bytes) = is_digit b ≡ false

-- So few bytes that a count of them has a type.
abbrev pub Few : List ℕ → Type 0
Few bytes = length bytes < 2 ^ 64

pub fewer : (text bytes rest : List ℕ) → bytes ≡ text ++ rest → Few bytes → Few rest
fewer text bytes rest e few =
    let count : length bytes ≡ length text + length rest = ap length e ∙ length-append text rest in
    omega (arith, few, count)

pub few_after : (text bytes rest : List ℕ) → after text bytes ≡ Some rest → Few bytes → Few rest
few_after text bytes rest e few = fewer text bytes rest (after_takes text bytes rest e) few

-- What was read has its text, and is so.
pub record Takes {A : Type 0} (text : A → List ℕ) (Is : A → Type 0) (bytes : List ℕ) (x : A) (rest : List ℕ) : Type 0 where
  pub text_is : bytes ≡ text x ++ rest
  pub is_so : Is x

pub record Codec {A : Type 0} (text : A → List ℕ) (Is : A → Type 0) (item : List ℕ → Read A) : Type 0 where
  pub takes : (bytes : List ℕ) (x : A) (rest : List ℕ) → Few bytes → item bytes ≡ Some (x, rest) → Takes text Is bytes x rest
  pub again : (x : A) (rest : List ℕ) → Is x → Ends rest → item (text x ++ rest) ≡ Some (x, rest)

pub apart_codec : {A : Type 0} (text : A → List ℕ) (Is : A → Type 0) (item : List ℕ → Read A) → Codec text Is item → Codec (λ x. codes " " ++ text x) Is (apart item)
apart_codec {A} text Is item h = record {
  takes = λ bytes x rest few e.
      let b = bound (after (codes " ") bytes) item (x, rest) e in
      let t = h.takes b.0 x rest (few_after (codes " ") bytes b.0 b.1 few) b.2 in
      record { text_is = after_takes (codes " ") bytes b.0 b.1 ∙ ap (λ (bs : List ℕ). codes " " ++ bs) t.text_is; is_so = t.is_so };
  again = λ x rest is ends.
      ap (λ (r : Option (List ℕ)). r >>= item) (after_again (codes " ") (text x ++ rest)) ∙ h.again x rest is ends;
}

-- ---- lists
pub record AreMany {A : Type 0} (Is : A → Type 0) (n : ℕ) (xs : List A) : Type 0 where
  pub many : length xs ≡ n
  pub each : All Is xs

module _ {A : Type 0} (text : A → List ℕ) (Is : A → Type 0) (item : List ℕ → Read A) (h : Codec text Is item) where
  pub many_takes : (n : ℕ) (bytes : List ℕ) (xs : List A) (rest : List ℕ) → Few bytes → many item n bytes ≡ Some (xs, rest) → Takes (λ ys. flat_map text ys) (AreMany Is n) bytes xs rest
  unfolding many
  many_takes zero bytes xs rest few e =
      subst (λ (p : List A × List ℕ). Takes (λ ys. flat_map text ys) (AreMany Is 0) bytes p.0 p.1) (some_is ([], bytes) (xs, rest) e)
      (record { text_is = refl; is_so = record { many = refl; each = All-nil Is } })
  many_takes (suc n) bytes xs rest few e =
      let a = bound (item bytes) (λ first. many item n first.1 >>= λ others. Some (first.0 ∷ others.0, others.1)) (xs, rest) e in
      let b = bound (many item n a.0.1) (λ others. Some (a.0.0 ∷ others.0, others.1)) (xs, rest) a.2 in
      let first = h.takes bytes a.0.0 a.0.1 few a.1 in
      let others = many_takes n a.0.1 b.0.0 b.0.1 (fewer (text a.0.0) bytes a.0.1 first.text_is few) b.1 in
      let whole : bytes ≡ flat_map text (a.0.0 ∷ b.0.0) ++ b.0.1 =
      first.text_is ∙ ap (λ (bs : List ℕ). text a.0.0 ++ bs) others.text_is ∙ sym (append_assoc (text a.0.0) (flat_map text b.0.0) b.0.1)
      ∙ ap (λ (bs : List ℕ). bs ++ b.0.1) (sym (flat_map-cons text a.0.0 b.0.0)) in
      subst (λ (p : List A × List ℕ). Takes (λ ys. flat_map text ys) (AreMany Is (suc n)) bytes p.0 p.1) (some_is (a.0.0 ∷ b.0.0, b.0.1) (xs, rest) b.2)
      (record { text_is = whole; is_so = record { many = ap suc others.is_so.many; each = All-cons Is a.0.0 b.0.0 first.is_so others.is_so.each } })

  module _ (starts : (x : A) (rest : List ℕ) → Ends (text x ++ rest)) where
    pub ends_before : (xs : List A) (rest : List ℕ) → Ends rest → Ends (flat_map text xs ++ rest)
    ends_before [] rest ends = ends
    ends_before (x ∷ xs) rest ends =
        subst Ends (sym (ap (λ (bs : List ℕ). bs ++ rest) (flat_map-cons text x xs) ∙ append_assoc (text x) (flat_map text xs) rest))
        (starts x (flat_map text xs ++ rest))

    many_again : (xs : List A) (rest : List ℕ) → All Is xs → Ends rest → many item (length xs) (flat_map text xs ++ rest) ≡ Some (xs, rest)
    unfolding many
    many_again [] rest all ends = refl
    many_again (x ∷ xs) rest all ends =
        let grouped : flat_map text (x ∷ xs) ++ rest ≡ text x ++ (flat_map text xs ++ rest) =
        ap (λ (bs : List ℕ). bs ++ rest) (flat_map-cons text x xs) ∙ append_assoc (text x) (flat_map text xs) rest in
        ap (many item (suc (length xs))) grouped
        ∙ rw (h.again x (flat_map text xs ++ rest) (All-head Is x xs all) (ends_before xs rest ends), many_again xs rest (All-tail Is x xs all) ends) refl

pub many_codec : {A : Type 0} (text : A → List ℕ) (Is : A → Type 0) (item : List ℕ → Read A) → Codec text Is item → ((x : A) (rest : List ℕ) → Ends (text x ++ rest)) → (n : ℕ)
    → Codec (λ xs. flat_map text xs) (AreMany Is n) (many item n)
many_codec {A} text Is item h starts n = record {
  takes = λ bytes xs rest few e. many_takes text Is item h n bytes xs rest few e;
  again = λ xs rest is ends. subst (λ (k : ℕ). many item k (flat_map text xs ++ rest) ≡ Some (xs, rest)) is.many (many_again text Is item h starts xs rest is.each ends);
}

module _ {K A : Type 0} (text : A → List ℕ) (Is : K → A → Type 0) (item : K → List ℕ → Read A) (h : (k : K) → Codec text (Is k) (item k)) where
  each_takes : (ks : List K) (bytes : List ℕ) (xs : List A) (rest : List ℕ) → Few bytes → each item ks bytes ≡ Some (xs, rest) → Takes (λ ys. flat_map text ys) (AllZip Is ks) bytes xs rest
  unfolding each
  each_takes [] bytes xs rest few e =
      subst (λ (p : List A × List ℕ). Takes (λ ys. flat_map text ys) (AllZip Is []) bytes p.0 p.1) (some_is ([], bytes) (xs, rest) e) (record { text_is = refl; is_so = tt })
  each_takes (k ∷ ks) bytes xs rest few e =
      let a = bound (item k bytes) (λ first. each item ks first.1 >>= λ others. Some (first.0 ∷ others.0, others.1)) (xs, rest) e in
      let b = bound (each item ks a.0.1) (λ others. Some (a.0.0 ∷ others.0, others.1)) (xs, rest) a.2 in
      let first = (h k).takes bytes a.0.0 a.0.1 few a.1 in
      let others = each_takes ks a.0.1 b.0.0 b.0.1 (fewer (text a.0.0) bytes a.0.1 first.text_is few) b.1 in
      let whole : bytes ≡ flat_map text (a.0.0 ∷ b.0.0) ++ b.0.1 =
      first.text_is ∙ ap (λ (bs : List ℕ). text a.0.0 ++ bs) others.text_is ∙ sym (append_assoc (text a.0.0) (flat_map text b.0.0) b.0.1)
      ∙ ap (λ (bs : List ℕ). bs ++ b.0.1) (sym (flat_map-cons text a.0.0 b.0.0)) in
      subst (λ (p : List A × List ℕ). Takes (λ ys. flat_map text ys) (AllZip Is (k ∷ ks)) bytes p.0 p.1) (some_is (a.0.0 ∷ b.0.0, b.0.1) (xs, rest) b.2)
      (record { text_is = whole; is_so = (first.is_so, others.is_so) })

  module _ (starts : (x : A) (rest : List ℕ) → Ends (text x ++ rest)) where
    each_ends : (xs : List A) (rest : List ℕ) → Ends rest → Ends (flat_map text xs ++ rest)
    each_ends [] rest ends = ends
    each_ends (x ∷ xs) rest ends =
        subst Ends (sym (ap (λ (bs : List ℕ). bs ++ rest) (flat_map-cons text x xs) ∙ append_assoc (text x) (flat_map text xs) rest))
        (starts x (flat_map text xs ++ rest))

    each_again : (ks : List K) (xs : List A) (rest : List ℕ) → AllZip Is ks xs → Ends rest → each item ks (flat_map text xs ++ rest) ≡ Some (xs, rest)
    unfolding each
    each_again [] [] rest all ends = refl
    each_again [] (x ∷ xs) rest all ends = absurd all
    each_again (k ∷ ks) [] rest all ends = absurd all
    each_again (k ∷ ks) (x ∷ xs) rest all ends =
        let grouped : flat_map text (x ∷ xs) ++ rest ≡ text x ++ (flat_map text xs ++ rest) =
        ap (λ (bs : List ℕ). bs ++ rest) (flat_map-cons text x xs) ∙ append_assoc (text x) (flat_map text xs) rest in
        ap (each item (k ∷ ks)) grouped
        ∙ rw ((h k).again x (flat_map text xs ++ rest) all.0 (each_ends xs rest ends), each_again ks xs rest all.1 ends) refl

pub each_codec : {K A : Type 0} (text : A → List ℕ) (Is : K → A → Type 0) (item : K → List ℕ → Read A) → ((k : K) → Codec text (Is k) (item k)) → ((x : A) (rest : List ℕ) → Ends (text x ++ rest)) → (ks : List K)
    → Codec (λ xs. flat_map text xs) (AllZip Is ks) (each item ks)
each_codec text Is item h starts ks = record {
  takes = each_takes text Is item h ks;
  again = each_again text Is item h starts ks;
}
