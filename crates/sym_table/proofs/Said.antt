-- What a text says, as a function and as a relation.
use Rattle.std.proofs.Common.{◌≡◌, ◌≢◌, ◌∙◌, refl, sym, ap, subst, ℕ, zero, suc, ℤ, pos, neg_ℤ, unsigned_abs, ◌<◌, ◌≤◌, arith, Bool, true, false, nat_le, nat_eq, ◌==◌, ◌&&◌, IsTrue, List, [], ◌∷◌, length, get_or, slice_get, Option, Some, None, option_map, if◌then◌else◌}
use Rattle.std.proofs.lemmas.Bool.Decides.{nat_tests, Decides-eqb}
use Rattle.std.proofs.lemmas.Int.{ints}
use Rattle.std.proofs.lemmas.List.Quantifiers.{position-Some}
use Rattle.std.proofs.lemmas.Slice.Eq.{slice_eq-Decides}
use Rattle.std.specs.Char.{is_ascii_digit}
use Rattle.std.specs.Cmp.Lexicographic.{pointwise}
use Rattle.std.specs.List.{list_all}
use Rattle.std.specs.Str.Parse.{digits_value}
use Rattle.sym_base.specs.Limits.{num_max, IsNumber}
use Rattle.sym_table.specs.Texts.{are_digits, IsNumeral, SaysNumber, digits_number, negative, number_in, SaysLabel, label_in}
use Rattle.sym_table.specs.Texts as texts
use Rattle.sym_table.proofs.Firsts.{first_found}

eqb_same : (a b : ℕ) → (a == b) ≡ true → a ≡ b
eqb_same a b e = (Decides-eqb a b).0 e

abs_pos : (n : ℕ) → unsigned_abs (pos n) ≡ n
abs_pos n = grind (arith, ints)

abs_neg : (n : ℕ) → unsigned_abs (neg_ℤ (pos n)) ≡ n
abs_neg n = grind (arith, ints)

true_le : (m n : ℕ) → m ≤ n → nat_le m n ≡ true
true_le m n h = grind (arith, nat_tests)

le_true : (m n : ℕ) → nat_le m n ≡ true → m ≤ n
le_true m n h = grind (arith, nat_tests)

-- The digits' number, and why there is none.
record Digits (ds : List ℕ) (n : ℕ) : Type 0 where
  digits : IsTrue (are_digits ds)
  value : n ≡ digits_value 10 ds
  small : digits_value 10 ds ≤ num_max

some_same : (m n : ℕ) → ◌≡◌ {A = Option ℕ} (Some m) (Some n) → m ≡ n
some_same m n e = cc

some_number : (m n : ℤ) → ◌≡◌ {A = Option ℤ} (Some m) (Some n) → m ≡ n
some_number m n e = cc

digits_go : (ds : List ℕ) (n : ℕ) (d s : Bool) → are_digits ds ≡ d → nat_le (digits_value 10 ds) num_max ≡ s
    → (if d && s then Some (digits_value 10 ds) else None) ≡ Some n → Digits ds n
digits_go ds n true true ed es h = record {
  digits = ed;
  value = sym (some_same (digits_value 10 ds) n h);
  small = le_true (digits_value 10 ds) num_max es;
}
digits_go ds n true false ed es h = cc h
digits_go ds n false true ed es h = cc h
digits_go ds n false false ed es h = cc h

digits_said : (ds : List ℕ) (n : ℕ) → digits_number ds ≡ Some n → Digits ds n
digits_said ds n e = digits_go ds n (are_digits ds) (nat_le (digits_value 10 ds) num_max) refl refl e

said_digits : (ds : List ℕ) → IsTrue (are_digits ds) → digits_value 10 ds ≤ num_max → digits_number ds ≡ Some (digits_value 10 ds)
said_digits ds d small = rw (d, true_le (digits_value 10 ds) num_max small) refl

-- A sign is no digit.
no_sign : (d : ℕ) → is_ascii_digit d ≡ true → ((d == 45) ≡ false) × ((d == 43) ≡ false)
no_sign d h = (grind (arith, nat_tests), grind (arith, nat_tests))

first_digit : (d : ℕ) (ds : List ℕ) → IsTrue (are_digits (d ∷ ds)) → is_ascii_digit d ≡ true
first_digit d ds h = go (is_ascii_digit d) (list_all is_ascii_digit ds) h
  where
    go : (a b : Bool) → (a && b) ≡ true → a ≡ true
    go true b e = refl
    go false b e = cc e

pos_of : (o : Option ℕ) (x : ℤ) → option_map pos o ≡ Some x → (n : ℕ) × (o ≡ Some n) × (x ≡ pos n)
pos_of None x e = cc e
pos_of (Some n) x e = (n, refl, sym (some_number (pos n) x e))

neg_of : (o : Option ℕ) (x : ℤ) → option_map negative o ≡ Some x → (n : ℕ) × (o ≡ Some n) × (x ≡ neg_ℤ (pos n))
neg_of None x e = cc e
neg_of (Some n) x e = (n, refl, sym (some_number (neg_ℤ (pos n)) x e))

-- The number that the function finds is one that the text says.
says_pos : (ds text : List ℕ) (n : ℕ) (x : ℤ) → (IsTrue (are_digits ds) → IsNumeral text (pos (digits_value 10 ds)))
    → digits_number ds ≡ Some n → x ≡ pos n → SaysNumber text x
says_pos ds text n x is e ex =
    let d = digits_said ds n e in
    let same : x ≡ pos (digits_value 10 ds) = ex ∙ ap pos d.value in
    let P : ℤ → Type 0 = λ y. SaysNumber text y in
    subst P (sym same) (record {
      numeral = is d.digits;
      in_range = rw (abs_pos (digits_value 10 ds)) d.small;
    })

says_neg : (ds text : List ℕ) (n : ℕ) (x : ℤ) → (IsTrue (are_digits ds) → IsNumeral text (neg_ℤ (pos (digits_value 10 ds))))
    → digits_number ds ≡ Some n → x ≡ neg_ℤ (pos n) → SaysNumber text x
says_neg ds text n x is e ex =
    let d = digits_said ds n e in
    let same : x ≡ neg_ℤ (pos (digits_value 10 ds)) = ex ∙ ap (λ m. neg_ℤ (pos m)) d.value in
    let P : ℤ → Type 0 = λ y. SaysNumber text y in
    subst P (sym same) (record {
      numeral = is d.digits;
      in_range = rw (abs_neg (digits_value 10 ds)) d.small;
    })

number_go : (b : ℕ) (rest : List ℕ) (x : ℤ) (m p : Bool) → (b == 45) ≡ m → (b == 43) ≡ p
    → (if m then option_map negative (digits_number rest) else if p then option_map pos (digits_number rest) else option_map pos (digits_number (b ∷ rest))) ≡ Some x
    → SaysNumber (b ∷ rest) x
number_go b rest x true p em ep e =
    let found = neg_of (digits_number rest) x e in
    let is : b ≡ 45 = eqb_same b 45 em in
    says_neg rest (b ∷ rest) found.0 x (λ d. rw is (texts.minus rest d)) found.1 found.2
number_go b rest x false true em ep e =
    let found = pos_of (digits_number rest) x e in
    let is : b ≡ 43 = eqb_same b 43 ep in
    says_pos rest (b ∷ rest) found.0 x (λ d. rw is (texts.plus rest d)) found.1 found.2
number_go b rest x false false em ep e =
    let found = pos_of (digits_number (b ∷ rest)) x e in
    says_pos (b ∷ rest) (b ∷ rest) found.0 x (λ d. texts.plain (b ∷ rest) d) found.1 found.2

pub number_said : (text : List ℕ) (x : ℤ) → number_in text ≡ Some x → SaysNumber text x
number_said [] x e = cc e
number_said (b ∷ rest) x e = number_go b rest x (b == 45) (b == 43) refl refl e

-- The number that a text says is the one that the function finds.
plain_found : (ds : List ℕ) → IsTrue (are_digits ds) → IsNumber (pos (digits_value 10 ds)) → number_in ds ≡ Some (pos (digits_value 10 ds))
plain_found [] d small = cc d
plain_found (b ∷ rest) d small =
    let none = no_sign b (first_digit b rest d) in
    rw (none.0, none.1, said_digits (b ∷ rest) d (rw (abs_pos (digits_value 10 (b ∷ rest))) at small)) refl

numeral_found : (text : List ℕ) (x : ℤ) → IsNumeral text x → IsNumber x → number_in text ≡ Some x
numeral_found _ _ (texts.plain ds d) small = plain_found ds d small
numeral_found _ _ (texts.plus ds d) small = rw (said_digits ds d (rw (abs_pos (digits_value 10 ds)) at small)) refl
numeral_found _ _ (texts.minus ds d) small = rw (said_digits ds d (rw (abs_neg (digits_value 10 ds)) at small)) refl

pub said_number : (text : List ℕ) (x : ℤ) → SaysNumber text x → number_in text ≡ Some x
said_number text x says = numeral_found text x says.numeral says.in_range

-- The label that the function finds is the first with the name.
there : {A : Type 0} (xs : List A) (i : ℕ) (d : A) → i < length xs → slice_get xs i ≡ Some (get_or xs i d)
there [] i d h = absurd (omega (arith, h))
there (x ∷ xs) zero d h = refl
there (x ∷ xs) (suc i) d h = there xs i d (omega arith)

within : {A : Type 0} (xs : List A) (i : ℕ) (x d : A) → slice_get xs i ≡ Some x → (i < length xs) × (get_or xs i d ≡ x)
within [] i x d e = cc e
within (y ∷ xs) zero x d e = (omega arith, cc e)
within (y ∷ xs) (suc i) x d e = let rest = within xs i x d e in (omega (arith, rest.0), rest.1)

pub is_text : (a b : List ℕ) → pointwise nat_eq a b ≡ true → a ≡ b
is_text a b e = (slice_eq-Decides Decides-eqb a b (pointwise nat_eq a b) refl).0 e

text_is : (a b : List ℕ) → a ≡ b → pointwise nat_eq a b ≡ true
text_is a b e = (slice_eq-Decides Decides-eqb a b (pointwise nat_eq a b) refl).1 e

no_text : (a b : List ℕ) → a ≢ b → pointwise nat_eq a b ≡ false
no_text a b h = go (pointwise nat_eq a b) refl
  where
    go : (t : Bool) → pointwise nat_eq a b ≡ t → pointwise nat_eq a b ≡ false
    go true e = absurd (h (is_text a b e))
    go false e = e

pub other_text : (a b : List ℕ) → pointwise nat_eq a b ≡ false → a ≢ b
other_text a b e same = let yes = text_is a b same in cc (e, yes)

pub label_said : (labels : List (List ℕ)) (text : List ℕ) (l : ℕ) → label_in labels text ≡ Some l → SaysLabel labels text l
label_said labels text l e =
    let found = position-Some (λ name. pointwise nat_eq name text) labels l [] e in
    record {
      named = there labels l [] found.0 ∙ ap Some (is_text (get_or labels l []) text found.1);
      first = λ k less named.
          let at = within labels k text [] named in
          other_text (get_or labels k []) text (found.2 k less) at.1;
    }

pub said_label : (labels : List (List ℕ)) (text : List ℕ) (l : ℕ) → SaysLabel labels text l → label_in labels text ≡ Some l
said_label labels text l says =
    let at = within labels l text [] says.named in
    sym (first_found (λ name. pointwise nat_eq name text) labels l [] at.0
    (λ k less. no_text (get_or labels k []) text (λ same. says.first k less (there labels k [] (omega (arith, at.0, less)) ∙ ap Some same)))
    (text_is (get_or labels l []) text at.1))
