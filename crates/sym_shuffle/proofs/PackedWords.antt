-- Values and their words, as they grow and are taken out.
use Rattle.std.proofs.Common.{◌≡◌, ◌∙◌, ap, sym, refl, arith, ℕ, zero, suc, ◌+◌, ◌<◌, ◌≤◌, List, [], ◌∷◌, ◌++◌, map, length, get_or, Option, Some, None}
use Rattle.std.specs.Option.{option_map, unwrap_or}
use Rattle.csv.specs.Records.{field_at}
use Rattle.std.proofs.lemmas.List.{map-append}
use Rattle.std.proofs.lemmas.List.Elements.{All-head, All-push, All-tail, All-weaker}
use Rattle.sym_base.specs.declared.values.value.Value.{Value}
use Rattle.sym_base.specs.declared.values.value.Value.TheVariants as value
use Rattle.sym_shuffle.specs.declared.packed.Packed.{Packed}
use Rattle.sym_shuffle.specs.declared.packed.Packed.TheVariants as packed
use Rattle.sym_shuffle.specs.Packing.{AreThere, IsThere, unpacked, unpacked_one}

-- ---- words that grow
-- A word stays where others go last.
word_stays : (words more : List (List ℕ)) (index : ℕ) → index < length words → get_or (words ++ more) index [] ≡ get_or words index []
word_stays [] more index lt = absurd (omega arith)
word_stays (word ∷ words) more zero lt = refl
word_stays (word ∷ words) more (suc index) lt = word_stays words more index (omega arith)

still_within : (words more : List (List ℕ)) (index : ℕ) → index < length words → index < length (words ++ more)
still_within [] more index lt = absurd (omega arith)
still_within (word ∷ words) more zero lt = omega arith
still_within (word ∷ words) more (suc index) lt = let later = still_within words more index (omega arith) in omega arith

one_stays : (words more : List (List ℕ)) (item : Packed) → IsThere words item → unpacked_one (words ++ more) item ≡ unpacked_one words item
one_stays words more (packed.Num number) h = refl
one_stays words more (packed.Word index) h = ap value.Word (word_stays words more index h)
one_stays words more (packed.Label label) h = refl

one_there : (words more : List (List ℕ)) (item : Packed) → IsThere words item → IsThere (words ++ more) item
one_there words more (packed.Num number) h = tt
one_there words more (packed.Word index) h = still_within words more index h
one_there words more (packed.Label label) h = tt

-- So values stay.
all_stay : (words more : List (List ℕ)) (items : List Packed) → AreThere words items → unpacked (words ++ more) items ≡ unpacked words items
all_stay words more [] h = refl
all_stay words more (item ∷ items) h =
    let first = one_stays words more item (All-head (IsThere words) item items h) in
    let rest = all_stay words more items (All-tail (IsThere words) item items h) in
    ap (λ v. v ∷ unpacked (words ++ more) items) first ∙ ap (λ vs. unpacked_one words item ∷ vs) rest

pub still_there : (words more now : List (List ℕ)) (items : List Packed) → now ≡ words ++ more → AreThere words items → AreThere now items
still_there words more now items is h =
    rw is (All-weaker (IsThere words) (IsThere (words ++ more)) (one_there words more) items h)

-- The word that goes last is at the next index.
pub last_word : (words now : List (List ℕ)) (word : List ℕ) (index : ℕ) → now ≡ words ++ word ∷ [] → index ≡ length words → get_or now index [] ≡ word
last_word words now word index is at = ap (λ (ws : List (List ℕ)). get_or ws index []) is ∙ of words index at
  where
    of : (words : List (List ℕ)) (index : ℕ) → index ≡ length words → get_or (words ++ word ∷ []) index [] ≡ word
    of [] zero at = refl
    of [] (suc index) at = absurd (omega (arith, at))
    of (first ∷ words) zero at = absurd (omega (arith, at))
    of (first ∷ words) (suc index) at = of words index (omega (arith, at))

pub last_within : (words now : List (List ℕ)) (word : List ℕ) (index : ℕ) → now ≡ words ++ word ∷ [] → index ≡ length words → index < length now
last_within words now word index is at = rw is (of words index at)
  where
    of : (words : List (List ℕ)) (index : ℕ) → index ≡ length words → index < length (words ++ word ∷ [])
    of [] index at = omega (arith, at)
    of (first ∷ words) zero at = absurd (omega (arith, at))
    of (first ∷ words) (suc index) at = let later = of words index (omega (arith, at)) in omega arith

-- ---- values that grow
-- One value more goes last.
pub pushed_last : (words more now : List (List ℕ)) (items after : List Packed) (item : Packed) (one : Value) → AreThere words items → now ≡ words ++ more → after ≡ items ++ item ∷ [] → unpacked_one now item ≡ one
    → unpacked now after ≡ unpacked words items ++ one ∷ []
pushed_last words more now items after item one h is grown last =
    ap (unpacked now) grown
    ∙ map-append (unpacked_one now) items (item ∷ [])
    ∙ ap (λ (v : Value). unpacked now items ++ v ∷ []) last
    ∙ ap (λ (ws : List (List ℕ)). unpacked ws items ++ one ∷ []) is
    ∙ ap (λ (vs : List Value). vs ++ one ∷ []) (all_stay words more items h)

pub pushed_there : (words more now : List (List ℕ)) (items after : List Packed) (item : Packed) → AreThere words items → now ≡ words ++ more → after ≡ items ++ item ∷ [] → IsThere now item → AreThere now after
pushed_there words more now items after item h is grown there =
    rw grown (All-push (IsThere now) items item (still_there words more now items is h) there)

-- ---- values that are taken out
-- The value at an index is that of the item there.
pub value_at : (words : List (List ℕ)) (items : List Packed) (index : ℕ) (item : Packed) (d : Value) → index < length items → item ≡ get_or items index item → get_or (unpacked words items) index d ≡ unpacked_one words item
value_at words [] index item d lt is = absurd (omega arith)
value_at words (first ∷ items) zero item d lt is = ap (unpacked_one words) (sym is)
value_at words (first ∷ items) (suc index) item d lt is = value_at words items index item d (omega arith) is

pub no_value : (words : List (List ℕ)) (items : List Packed) (index : ℕ) (d : Value) → length items ≤ index → get_or (unpacked words items) index d ≡ d
no_value words [] index d past = refl
no_value words (first ∷ items) zero d past = absurd (omega arith)
no_value words (first ∷ items) (suc index) d past = no_value words items index d (omega arith)

-- A field is the word at its index; where there is none, there is no word.
field_read : (words : List (List ℕ)) (index : ℕ) (word : List ℕ) → Some word ≡ field_at words index → word ≡ get_or words index []
unfolding field_at
field_read [] index word is = absurd cc
field_read (first ∷ words) zero word is = cc
field_read (first ∷ words) (suc index) word is = field_read words index word is

no_field : (words : List (List ℕ)) (index : ℕ) → None ≡ field_at words index → [] ≡ get_or words index []
unfolding field_at
no_field [] index is = refl
no_field (first ∷ words) zero is = absurd cc
no_field (first ∷ words) (suc index) is = no_field words index is

pub word_read : {R : Type 0} (bytes : R → List ℕ) (found : Option R) (none word : R) (words : List (List ℕ)) (index : ℕ) → option_map bytes found ≡ field_at words index → word ≡ unwrap_or found none → bytes none ≡ []
    → bytes word ≡ get_or words index []
word_read bytes (Some one) none word words index is at empty = ap bytes at ∙ field_read words index (bytes one) is
word_read bytes None none word words index is at empty = ap bytes at ∙ empty ∙ no_field words index is
