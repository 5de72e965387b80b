-- Texts that are appended to a sink piece by piece.
use Rattle.std.specs.Prelude.{Option, None, Some, min}
use Rattle.std.specs.List.{flat_map}
use Rattle.std.proofs.Common.{◌≡◌, ℕ, ◌+◌, ◌<◌, ◌≤◌, List, ◌++◌, length, take, drop, get_or, refl, sym, ap, subst, ◌∙◌, append_assoc, arith}
use Rattle.std.proofs.Math.Seq.{take-append-add}
use Rattle.std.proofs.lemmas.List.{take-append-drop, take-append-le, take_min, drop_more}
use Rattle.std.proofs.lemmas.List.Concat.{flat_map-append}
use Rattle.sym_base.specs.Transfers.{appended, AppendsPrefix}
use Rattle.sym_message.specs.Telling.{Sunk, Tells}

-- The same text.
pub told-along : (sink : Sunk) (x y : List ℕ) → Tells sink x → x ≡ y → Tells sink y
told-along sink x y told same = let P : List ℕ → Type 0 = λ text. Tells sink text in subst P same told

-- All texts: those before one, this one, and those after it.
split : {X : Type 0} (f : X → List ℕ) (xs : List X) (i : ℕ) (d : X) → i < length xs →
    flat_map f xs ≡ flat_map f (take i xs) ++ (f (get_or xs i d) ++ flat_map f (drop (i + 1) xs))
split f xs i d inside =
    ap (flat_map f) (sym (take-append-drop i xs))
    ∙ flat_map-append f (take i xs) (drop i xs)
    ∙ ap (λ rest. flat_map f (take i xs) ++ flat_map f rest) (drop_more xs i d inside)

-- Two texts, one after the other, are one text.
appended-appended : (before : Option (List ℕ)) (x y : List ℕ) →
    appended (appended before x) y ≡ appended before (x ++ y)
appended-appended None x y = refl
appended-appended (Some written) x y = ap Some (append_assoc written x y)

-- A prefix of a text, with what stands before it, is a prefix of the whole.
joined-prefix : (front text rest : List ℕ) (count : ℕ) →
    take (length front + min count (length text)) (front ++ (text ++ rest)) ≡ front ++ take count text
joined-prefix front text rest count =
    let short : min count (length text) ≤ length text = omega arith in
    take-append-add front (text ++ rest) (min count (length text))
    ∙ ap (λ more. front ++ more)
    (take-append-le (min count (length text)) text rest short ∙ take_min count text)

-- A prefix of a piece, after all pieces before it, is a prefix of all pieces.
pub prefix-within : {X : Type 0} (f : X → List ℕ) (xs : List X) (i : ℕ) (d : X)
    (before mid after : Option (List ℕ)) → i < length xs →
    mid ≡ appended before (flat_map f (take i xs)) →
    AppendsPrefix mid after (f (get_or xs i d)) → AppendsPrefix before after (flat_map f xs)
prefix-within f xs i d before mid after inside put prefix =
    let front : List ℕ = flat_map f (take i xs) in
    let text : List ℕ = f (get_or xs i d) in
    let rest : List ℕ = flat_map f (drop (i + 1) xs) in
    let count : ℕ = length front + min prefix.0 (length text) in (
      count,
      prefix.1
          ∙ ap (λ now. appended now (take prefix.0 text)) put
          ∙ appended-appended before front (take prefix.0 text)
          ∙ ap (appended before) (sym (joined-prefix front text rest prefix.0))
          ∙ ap (λ all. appended before (take count all)) (sym (split f xs i d inside)),
    )
