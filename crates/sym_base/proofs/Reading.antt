-- Reading a file, piece by piece, into the end of a vector.
use Rattle.std.proofs.Common.{◌≡◌, ℕ, ◌+◌, ◌≤◌, List, ◌++◌, length, take, drop, IfSome, ap, ◌∙◌, subst, arith, length-append}
use Rattle.std.specs.Prelude.{Option, Some, None}
use Rattle.std.proofs.Math.Seq.{take-add, take-append-add}
use Rattle.std.proofs.lemmas.List.{take-take, take-append-le, length-take-le}
use Rattle.sym_base.specs.Transfers.{ReadsAt}

-- Two facts of what an option may hold give a third one.
pub IfSome-both : {X : Type 0} (o : Option X) (P Q R : X → Type 0) → ((x : X) → P x → Q x → R x) → IfSome o P → IfSome o Q → IfSome o R
IfSome-both None P Q R f p q = tt
IfSome-both (Some x) P Q R f p q = f x p q

-- The first elements of two lists, where they reach into the second one.
pub take-into : (xs ys : List ℕ) (n count : ℕ) → length xs ≡ n → take (n + count) (xs ++ ys) ≡ xs ++ take count ys
take-into xs ys n count e = subst (λ m. take (m + count) (xs ++ ys) ≡ xs ++ take count ys) e (take-append-add xs ys count)

-- What is kept of a buffer behind whose first bytes a read went.
pub kept_of : (d into rest past : List ℕ) (start count n : ℕ) → start ≤ length d → count ≤ length into → start + count ≤ n → take (start + count) (take n ((take start d ++ (into ++ rest)) ++ past)) ≡ take start d ++ take count into
kept_of d into rest past start count n h k m =
    let e : length (take start d) ≡ start = length-take-le start d h in
    let inside : start + count ≤ length (take start d ++ (into ++ rest)) = omega (arith, e, length-append (take start d) (into ++ rest), length-append into rest) in
    take-take (start + count) n ((take start d ++ (into ++ rest)) ++ past) m
    ∙ take-append-le (start + count) (take start d ++ (into ++ rest)) past inside
    ∙ take-into (take start d) (into ++ rest) start count e
    ∙ ap (λ x. take start d ++ x) (take-append-le count into rest k)

-- The bytes that a read gave are the file's next ones.
pub read_front : (whole before into : List ℕ) (place count : ℕ) → ReadsAt whole place count before into → take count into ≡ take count (drop place whole)
read_front whole before into place count r =
    let e : length (take count (drop place whole)) ≡ count = length-take-le count (drop place whole) r.within in
    rw (r.filled, take-append-le count (take count (drop place whole)) (drop count before) (omega arith)) (take-take count count (drop place whole) (omega arith))

-- The bytes so far and the next ones are the first bytes of the file.
pub read_next : (whole old items before into : List ℕ) (count : ℕ) → count ≤ length into → items ≡ old ++ take count into → old ≡ take (length old) whole → ReadsAt whole (length old) count before into → items ≡ take (length items) whole
read_next whole old items before into count k e p r =
    let n : length items ≡ length old + count = omega (arith, ap length e, length-append old (take count into), length-take-le count into k) in
    let w : items ≡ take (length old + count) whole = rw (take-add (length old) count whole, ← p, ← read_front whole before into (length old) count r) e in
    rw n w

-- After a read, the bytes so far are again the first bytes of the file, where that is told.
pub read_on : (told now : Option (List ℕ)) (old items before into : List ℕ) (place count : ℕ) → now ≡ told → place ≡ length old → count ≤ length into → items ≡ old ++ take count into → IfSome told (λ whole. old ≡ take (length old) whole) → IfSome now (λ whole. ReadsAt whole place count before into) → IfSome told (λ whole. items ≡ take (length items) whole)
read_on told now old items before into place count same at k e p r =
    let Read : ℕ → Option (List ℕ) → Type 0 = λ n o. IfSome o (λ whole. ReadsAt whole n count before into) in
    let s : Read (length old) told = subst (λ o. Read (length old) o) same (subst (λ n. Read n now) at r) in
    IfSome-both told (λ whole. old ≡ take (length old) whole) (λ whole. ReadsAt whole (length old) count before into) (λ whole. items ≡ take (length items) whole) (λ whole q t. read_next whole old items before into count k e q t) p s
