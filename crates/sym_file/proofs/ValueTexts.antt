-- Values, and lists of them.
use Rattle.std.proofs.Common.{◌≡◌, ℕ, ◌<◌, ◌^◌, Bool, true, false, cond, eqb, List, [], ◌∷◌, ◌++◌, Some, None, refl, sym, ap, subst, ◌∙◌, arith, codes}
use Rattle.std.proofs.lemmas.Bool.{eqb-true}
use Rattle.std.specs.Fmt.{decimal, signed_decimal}
use Rattle.std.specs.List.{flat_map}
use Rattle.sym_base.specs.Limits.{IsNumber}
use Rattle.sym_base.specs.declared.values.value.Value.{Value}
use Rattle.sym_base.specs.declared.values.value.Value.TheVariants as value
use Rattle.sym_file.specs.Reading.{Read, ◌>>=◌, apart, below_at, counted_at, many, small_at, value_at}
use Rattle.sym_file.specs.Stored.{IsStoredText}
use Rattle.sym_file.specs.Texts.{counted, value_text}
use Rattle.sym_file.proofs.Codecs.{AreMany, Codec, Ends, Few, Takes, apart_codec, bound, fewer, into, many_codec, some_is}
use Rattle.sym_file.proofs.NumberTexts.{below_codec, counted_codec, small_codec}

-- A value whose number is one of a script's, and that is stored.
abbrev pub IsWritten : Value → Type 0
IsWritten (value.Num x) = IsNumber x
IsWritten (value.Label l) = l < 2 ^ 8
IsWritten (value.Word t) = IsStoredText t

-- What is read after a letter, and turned into another kind of value.
pub lettered : {A B : Type 0} (letter : ℕ) (text : A → List ℕ) (own : B → List ℕ) (make : A → B) (item : List ℕ → Read A)
    → (Is : A → Type 0) (Own : B → Type 0) → Codec text Is item → ((x : A) → Is x → Own (make x)) → ((x : A) → own (make x) ≡ letter ∷ text x)
    → (b : ℕ) (bytes : List ℕ) (y : B) (rest : List ℕ) → Few (b ∷ bytes) → eqb b letter ≡ true → (item bytes >>= into make) ≡ Some (y, rest) → Takes own Own (b ∷ bytes) y rest
lettered {A} {B} letter text own make item Is Own h turned same b bytes y rest few is e =
    let k = bound (item bytes) (into make) (y, rest) e in
    let t = h.takes bytes k.0.0 k.0.1 (fewer (b ∷ []) (b ∷ bytes) bytes refl few) k.1 in
    let read : b ∷ bytes ≡ own (make k.0.0) ++ k.0.1 =
    ap (λ (d : ℕ). d ∷ bytes) (eqb-true b letter is) ∙ ap (λ (bs : List ℕ). letter ∷ bs) t.text_is
    ∙ ap (λ (u : List ℕ). u ++ k.0.1) (sym (same k.0.0)) in
    subst (λ (p : B × List ℕ). Takes own Own (b ∷ bytes) p.0 p.1) (some_is (make k.0.0, k.0.1) (y, rest) k.2)
    (record { text_is = read; is_so = turned k.0.0 t.is_so })

pub labels : Codec decimal (λ m. m < 256) (below_at 256)
labels = below_codec 256 (omega arith)

value_takes : (bytes : List ℕ) (v : Value) (rest : List ℕ) → Few bytes → value_at bytes ≡ Some (v, rest) → Takes value_text IsWritten bytes v rest
unfolding value_at value_text
value_takes [] v rest few e = absurd cc
value_takes (b ∷ bytes) v rest few e = of (eqb b 110) (eqb b 108) (eqb b 119) refl refl refl e
  where
    of : (n l w : Bool) → eqb b 110 ≡ n → eqb b 108 ≡ l → eqb b 119 ≡ w
        → cond n (small_at bytes >>= into value.Num)
        (cond l (below_at 256 bytes >>= into value.Label) (cond w (counted_at bytes >>= into value.Word) None)) ≡ Some (v, rest)
        → Takes value_text IsWritten (b ∷ bytes) v rest
    of true l w is p q f = lettered 110 signed_decimal value_text value.Num small_at IsNumber IsWritten small_codec (λ x h. h) (λ x. refl) b bytes v rest few is f
    of false true w o is q f = lettered 108 decimal value_text value.Label (below_at 256) (λ m. m < 256) IsWritten labels (λ x h. h) (λ x. refl) b bytes v rest few is f
    of false false true o p is f = lettered 119 counted value_text value.Word counted_at IsStoredText IsWritten counted_codec (λ x h. h) (λ x. refl) b bytes v rest few is f
    of false false false o p q f = absurd cc

value_again : (v : Value) (rest : List ℕ) → IsWritten v → Ends rest → value_at (value_text v ++ rest) ≡ Some (v, rest)
unfolding value_at value_text
value_again (value.Num x) rest is ends = rw (small_codec.again x rest is ends) refl
value_again (value.Label l) rest is ends = rw (labels.again l rest is ends) refl
value_again (value.Word t) rest is ends = rw (counted_codec.again t rest is ends) refl

pub value_codec : Codec value_text IsWritten value_at
value_codec = record { takes = value_takes; again = value_again }

abbrev pub next_value_text : Value → List ℕ
next_value_text v = codes " " ++ value_text v

pub values_codec : (n : ℕ) → Codec (λ vs. flat_map next_value_text vs) (AreMany IsWritten n) (many (apart value_at) n)
values_codec n = many_codec next_value_text IsWritten (apart value_at) (apart_codec value_text IsWritten value_at value_codec) (λ v rest. refl) n
