-- A round has as many rows as it may, or no row is left.
use Rattle.std.proofs.Common.{◌≡◌, ◌∙◌, sym, ap, ℕ, ◌+◌, ◌*◌, ◌<◌, ◌≤◌, arith, length-append, List, [], ◌∷◌, ◌++◌, length, Option, None, Some, Ok, subst, add-one, ⊎_elim}
use Rattle.std.proofs.Math.Nat.{mul-le-mul_right, suc-mul}
use Rattle.std.proofs.lemmas.Bool.{cases_lt}
use Rattle.sym_table.specs.declared.chunk.Chunk.{Chunk}
use Rattle.sym_table.specs.Cutting.{Cutting, Cuts, IsNext}
use Rattle.sym_files.specs.Taking.{rows_of}
use Rattle.sym_files.proofs.Walks.{more_rows, some_rows}

next_times : (n chunk : ℕ) → (n + 1) * chunk ≡ n * chunk + chunk
next_times n chunk = ap (λ (m : ℕ). m * chunk) (add-one n) ∙ suc-mul n chunk

rows_on : (b c : Cutting) (n chunk : ℕ) (cuts : List Chunk) (cut : Chunk) → b.chunk ≡ chunk
    → length (rows_of cuts) ≤ n * chunk → IsNext b c cut → length (rows_of (cuts ++ cut ∷ [])) ≤ (n + 1) * chunk
rows_on b c n chunk cuts cut same few next =
    omega (arith, next_times n chunk, ap length (more_rows cuts cut), length-append (rows_of cuts) cut.rows, next.most, same, few)

full_on : (b c : Cutting) (n chunk : ℕ) (cuts : List Chunk) (cut : Chunk) → b.chunk ≡ chunk
    → (length (rows_of cuts) < n * chunk → b.left ≡ Some []) → IsNext b c cut
    → length (rows_of (cuts ++ cut ∷ [])) < (n + 1) * chunk → c.left ≡ Some []
full_on b c n chunk cuts cut same full next few =
    ⊎_elim
    (λ (short : length cut.rows < chunk).
    let none : next.rest ≡ [] = next.full (omega (arith, same, short)) in next.has ∙ ap Some none)
    (λ (long : chunk ≤ length cut.rows).
    let less : length (rows_of cuts) < n * chunk =
    omega (arith, few, next_times n chunk, ap length (more_rows cuts cut), length-append (rows_of cuts) cut.rows, long) in
    let none : cut.rows ++ next.rest ≡ [] = some_rows (cut.rows ++ next.rest) [] (sym next.had ∙ full less) in
    absurd (omega (arith, ap length none, length-append cut.rows next.rest, next.some)))
    (cases_lt (length cut.rows) chunk)

-- The next chunk, as it was found and put behind the others.
pub rows_push : (b c : Cutting) (n chunk : ℕ) (cuts more : List Chunk) (found : Option Chunk) (cut : Chunk) → found ≡ Some cut → more ≡ cuts ++ cut ∷ []
    → b.chunk ≡ chunk → length (rows_of cuts) ≤ n * chunk → Cuts b c (Ok found) → length (rows_of more) ≤ (n + 1) * chunk
rows_push b c n chunk cuts more found cut some pushed same few next =
    let P : Option Chunk → Type 0 = λ o. Cuts b c (Ok o) in
    let Q : List Chunk → Type 0 = λ all. length (rows_of all) ≤ (n + 1) * chunk in
    subst Q (sym pushed) (rows_on b c n chunk cuts cut same few (subst P some next))

pub full_push : (b c : Cutting) (n chunk : ℕ) (cuts more : List Chunk) (found : Option Chunk) (cut : Chunk) → found ≡ Some cut → more ≡ cuts ++ cut ∷ []
    → b.chunk ≡ chunk → (length (rows_of cuts) < n * chunk → b.left ≡ Some []) → Cuts b c (Ok found)
    → length (rows_of more) < (n + 1) * chunk → c.left ≡ Some []
full_push b c n chunk cuts more found cut some pushed same full next =
    let P : Option Chunk → Type 0 = λ o. Cuts b c (Ok o) in
    let Q : List Chunk → Type 0 = λ all. length (rows_of all) < (n + 1) * chunk → c.left ≡ Some [] in
    subst Q (sym pushed) (full_on b c n chunk cuts cut same full (subst P some next))

-- Fewer chunks have no more rows than as many as a round may have.
pub rows_within : (rows n chunk : ℕ) → rows ≤ n * chunk → n ≤ 64 → rows ≤ 64 * chunk
rows_within rows n chunk few le = omega (arith, few, mul-le-mul_right chunk le)

-- No chunk is left.
pub none_left : (b c : Cutting) (found : Option Chunk) → found ≡ None → Cuts b c (Ok found) → c.left ≡ Some []
none_left b c found none next =
    let P : Option Chunk → Type 0 = λ o. Cuts b c (Ok o) in
    let ends = subst P none next in ends.1
