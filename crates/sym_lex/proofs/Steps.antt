-- Steps of reading a text.
use Rattle.std.proofs.Common.{◌≡◌, ℕ, zero, suc, ◌+◌, ◌-◌, ◌<◌, ◌≤◌, length, Bool, true, false, cond, List, [], ◌∷◌, ◌++◌, Ok, Err, drop, refl, ap, ◌∙◌, sym, add-zero, append_assoc, arith, length-drop}
use Rattle.std.proofs.Math.ListN.{drop_of_length-le}
use Rattle.std.proofs.lemmas.List.{append-nil, drop-drop}
use Rattle.std.proofs.lemmas.List.Sums.{prefix_len-le-length}
use Rattle.std.specs.List.{prefix_len}
use Rattle.sym_lex.specs.declared.error.LexErr.{LexErr}
use Rattle.sym_lex.specs.declared.error.LexErr.TheVariants.{Fault, NoMemory}
use Rattle.sym_lex.specs.declared.error.LexFault.{LexFault}
use Rattle.sym_lex.specs.declared.found.Found.{Found}
use Rattle.sym_lex.specs.declared.token.Token.{Token}
use Rattle.sym_lex.specs.Letters.{is_blank, is_hash, is_in_line}
use Rattle.sym_lex.specs.Lexing.{Answers, found_at, gap_size, lexed, lexed_from, with_found}
use Rattle.sym_lex.specs.Rules.{LexResult, with_token}
use Rattle.sym_lex.specs.Spelling.{with_tokens}

-- The bytes of what began before are passed over.
pub lexed-inside : (at n : ℕ) (text : List ℕ) → n ≤ length text → lexed_from at n text ≡ lexed_from (at + n) 0 (drop n text)
unfolding lexed_from
lexed-inside at zero text h = rw add-zero refl
lexed-inside at (suc n) [] h = absurd (omega arith)
lexed-inside at (suc n) (b ∷ rest) h =
    let k : n ≤ length rest = omega arith in
    let e : at + suc n ≡ at + 1 + n = omega arith in
    rw e (lexed-inside (at + 1) n rest k)

gap-by : (blank hash : Bool) (at n b : ℕ) (rest : List ℕ) (other : LexResult) → n ≤ length rest →
    0 < cond blank 1 (cond hash (1 + n) 0) →
    cond blank (lexed_from (at + 1) 0 rest) (cond hash (lexed_from (at + 1) n rest) other)
    ≡ lexed_from (at + cond blank 1 (cond hash (1 + n) 0)) 0 (drop (cond blank 1 (cond hash (1 + n) 0)) (b ∷ rest))
gap-by true hash at n b rest other k h = refl
gap-by false true at n b rest other k h =
    let e : at + (1 + n) ≡ at + 1 + n = omega arith in
    let d : 1 + n ≡ suc n = omega arith in
    rw (e, d) (lexed-inside (at + 1) n rest k)
gap-by false false at n b rest other k h = absurd (omega arith)

pub lexed-gap : (at : ℕ) (text : List ℕ) → 0 < gap_size text → lexed_from at 0 text ≡ lexed_from (at + gap_size text) 0 (drop (gap_size text) text)
unfolding lexed_from
lexed-gap at [] h = absurd (omega arith)
lexed-gap at (b ∷ rest) h =
    gap-by (is_blank b) (is_hash b) at (prefix_len is_in_line rest) b rest _ (prefix_len-le-length is_in_line rest) h

past-gap : (blank hash : Bool) (n : ℕ) (x y z : LexResult) → cond blank 1 (cond hash (1 + n) 0) ≡ 0 → cond blank x (cond hash y z) ≡ z
past-gap true hash n x y z h = absurd (omega arith)
past-gap false true n x y z h = absurd (omega arith)
past-gap false false n x y z h = refl

pub lexed-fault : (at : ℕ) (text : List ℕ) (f : LexFault) → 0 < length text → gap_size text ≡ 0 → found_at at text ≡ Err f → lexed_from at 0 text ≡ Err f
unfolding lexed_from
lexed-fault at [] f h g e = absurd (omega arith)
lexed-fault at (b ∷ rest) f h g e =
    past-gap (is_blank b) (is_hash b) (prefix_len is_in_line rest) _ _ _ g ∙ ap (λ o. with_found at o (λ size. lexed_from (at + 1) (size - 1) rest)) e

pub lexed-token : (at : ℕ) (text : List ℕ) (found : Found) → gap_size text ≡ 0 → found_at at text ≡ Ok found → 0 < found.size → found.size ≤ length text →
    lexed_from at 0 text ≡ with_token (record { kind = found.kind; at = at; end = at + found.size }) (lexed_from (at + found.size) 0 (drop found.size text))
unfolding lexed_from
lexed-token at [] found g e low high = absurd (omega arith)
lexed-token at (b ∷ rest) found g e low high =
    let k : found.size - 1 ≤ length rest = omega arith in
    let n : at + 1 + (found.size - 1) ≡ at + found.size = omega arith in
    let s : found.size ≡ suc (found.size - 1) = omega arith in
    let d : drop found.size (b ∷ rest) ≡ drop (found.size - 1) rest = ap (λ m. drop m (b ∷ rest)) s in
    past-gap (is_blank b) (is_hash b) (prefix_len is_in_line rest) _ _ _ g
    ∙ ap (λ o. with_found at o (λ size. lexed_from (at + 1) (size - 1) rest)) e
    ∙ ap (with_token (record { kind = found.kind; at = at; end = at + found.size }))
    (lexed-inside (at + 1) (found.size - 1) rest k ∙ ap (λ m. lexed_from m 0 (drop (found.size - 1) rest)) n ∙ ap (λ r. lexed_from (at + found.size) 0 r) (sym d))

-- The tokens so far, and then those of the bytes from a place on.
abbrev pub split : List Token → ℕ → List ℕ → LexResult
split front at bytes = with_tokens front (lexed_from at 0 (drop at bytes))

pub split-gap : (front : List Token) (at n : ℕ) (bytes : List ℕ) → n ≡ gap_size (drop at bytes) → 0 < n → split front (at + n) bytes ≡ split front at bytes
split-gap front at n bytes e h =
    let k : 0 < gap_size (drop at bytes) = omega arith in
    ap (with_tokens front)
    (sym (lexed-gap at (drop at bytes) k
    ∙ ap (λ m. lexed_from (at + m) 0 (drop m (drop at bytes))) (sym e)
    ∙ ap (λ r. lexed_from (at + n) 0 r) (drop-drop n at bytes)))

pub split-fault : (front : List Token) (at : ℕ) (bytes : List ℕ) (f : LexFault) → at < length bytes → gap_size (drop at bytes) ≡ 0 → found_at at (drop at bytes) ≡ Err f → split front at bytes ≡ Err f
split-fault front at bytes f h g e =
    let k : 0 < length (drop at bytes) = omega (arith, length-drop at bytes) in
    ap (with_tokens front) (lexed-fault at (drop at bytes) f k g e)

regroup : (front : List Token) (t : Token) (o : LexResult) → with_tokens front (with_token t o) ≡ with_tokens (front ++ t ∷ []) o
regroup front t (Err f) = refl
regroup front t (Ok ts) = ap Ok (sym (append_assoc front (t ∷ []) ts))

pub split-token : (front : List Token) (at : ℕ) (found : Found) (bytes : List ℕ) → gap_size (drop at bytes) ≡ 0 → found_at at (drop at bytes) ≡ Ok found → 0 < found.size → found.size ≤ length (drop at bytes) →
    split (front ++ record { kind = found.kind; at = at; end = at + found.size } ∷ []) (at + found.size) bytes ≡ split front at bytes
split-token front at found bytes g e low high =
    sym (ap (with_tokens front)
    (lexed-token at (drop at bytes) found g e low high
    ∙ ap (λ r. with_token (record { kind = found.kind; at = at; end = at + found.size }) (lexed_from (at + found.size) 0 r)) (drop-drop found.size at bytes))
    ∙ regroup front (record { kind = found.kind; at = at; end = at + found.size }) (lexed_from (at + found.size) 0 (drop (at + found.size) bytes)))

pub split-end : (front : List Token) (at : ℕ) (bytes : List ℕ) → length bytes ≤ at → split front at bytes ≡ Ok front
unfolding lexed_from
split-end front at bytes h = rw (drop_of_length-le bytes h) (ap Ok (append-nil front))

pub nothing-before : (o : LexResult) → with_tokens [] o ≡ o
nothing-before (Ok ts) = refl
nothing-before (Err f) = refl

-- The answer where the token at a place is a fault, or where there is no memory for it.
pub answers-fault : {A V : Type 0} (front : List Token) (at : ℕ) (bytes : List ℕ) (e : LexErr) (view : A → Found) (items : V → List Token) → at < length bytes → gap_size (drop at bytes) ≡ 0 →
    Answers {A = A} {B = Found} view (Err e) (found_at at (drop at bytes)) → split front at bytes ≡ lexed bytes → Answers {A = V} {B = List Token} items (Err e) (lexed bytes)
answers-fault front at bytes (Fault f) view items h g e before = sym before ∙ split-fault front at bytes f h g e
answers-fault front at bytes NoMemory view items h g e before = tt
