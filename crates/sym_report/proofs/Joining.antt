-- Texts that are joined, and what the code appends of them.
use Rattle.std.proofs.Common.{◌≡◌, ℕ, Bool, true, false, not, ◌==◌, List, [], ◌∷◌, ◌++◌}
use Rattle.std.proofs.Common.{length, map, refl, sym, ap, ◌∙◌, append_assoc, rules}
use Rattle.std.proofs.lemmas.List.{append-nil}
use Rattle.std.specs.List.{zip}
use Rattle.sym_report.specs.Appending.{lead, continued}
use Rattle.sym_report.specs.ValueTexts.{joined}

-- The code appends texts that are joined where nothing stands before them.
pub joined_continued :
    (separator : List ℕ) (texts : List (List ℕ)) →
    joined separator texts ≡ continued separator false texts
joined_continued separator [] = refl
joined_continued separator (x ∷ []) = sym (append-nil x)
joined_continued separator (x ∷ y ∷ rest) =
    ap (λ text. x ++ (separator ++ text)) (joined_continued separator (y ∷ rest))

-- Texts that go on after others.
continued-append :
    (separator : List ℕ) (xs ys : List (List ℕ)) →
    continued separator true (xs ++ ys)
    ≡ continued separator true xs ++ continued separator true ys
continued-append separator [] ys = refl
continued-append separator (x ∷ xs) ys =
    let front = continued separator true xs in
    let back = continued separator true ys in
    ap (λ text. separator ++ (x ++ text)) (continued-append separator xs ys)
    ∙ ap (λ text. separator ++ text) (sym (append_assoc x front back))
    ∙ sym (append_assoc separator (x ++ front) back)

some-items : {A : Type 0} (x : A) (xs : List A) → not (length (x ∷ xs) == 0) ≡ true
some-items x xs = search rules

-- A separator stands between two lists exactly where the first one has items.
pub joined_values :
    {A : Type 0} (text : A → List ℕ) (separator : List ℕ) (xs : List A) (ys : List (List ℕ)) →
    joined separator (map text xs ++ ys)
    ≡ continued separator false (map text xs) ++ continued separator (not (length xs == 0)) ys
joined_values text separator [] ys = joined_continued separator ys
joined_values text separator (x ∷ xs) ys =
    let front = continued separator true (map text xs) in
    joined_continued separator (text x ∷ (map text xs ++ ys))
    ∙ ap (λ rest. text x ++ rest) (continued-append separator (map text xs) ys)
    ∙ sym (append_assoc (text x) front (continued separator true ys))
    ∙ ap (λ started. (text x ++ front) ++ continued separator started ys) (sym (some-items x xs))

pub joined_names :
    (separator : List ℕ) (xs ys : List (List ℕ)) →
    joined separator (xs ++ ys)
    ≡ continued separator false xs ++ continued separator (not (length xs == 0)) ys
joined_names separator [] ys = joined_continued separator ys
joined_names separator (x ∷ xs) ys =
    let front = continued separator true xs in
    joined_continued separator (x ∷ (xs ++ ys))
    ∙ ap (λ rest. x ++ rest) (continued-append separator xs ys)
    ∙ sym (append_assoc x front (continued separator true ys))
    ∙ ap (λ started. (x ++ front) ++ continued separator started ys) (sym (some-items x xs))

-- One text that goes on.
pub one_more :
    (into middle new separator text : List ℕ) (started : Bool) →
    middle ≡ into ++ lead separator started → new ≡ middle ++ text →
    new ≡ into ++ continued separator started (text ∷ [])
one_more into middle new separator text started led appended =
    appended
    ∙ ap (λ front. front ++ text) led
    ∙ append_assoc into (lead separator started) text
    ∙ ap (λ rest. into ++ (lead separator started ++ rest)) (sym (append-nil text))

-- Two lists have a pair exactly where both have items.
pub some_zipped :
    {A B : Type 0} (xs : List A) (ys : List B) (first second : Bool) →
    first ≡ (length xs == 0) → second ≡ (length ys == 0) → first ≡ false →
    not second ≡ not (length (zip xs ys) == 0)
some_zipped [] ys first second is_first is_second some = cc
some_zipped (x ∷ xs) [] first second is_first is_second some = ap not is_second
some_zipped (x ∷ xs) (y ∷ ys) first second is_first is_second some =
    ap not is_second ∙ some-items y ys ∙ sym (some-items (x, y) (zip xs ys))
