-- What a text reads as by the rules is what is found in it.
use Rattle.std.proofs.Common.{◌≡◌, ℕ, zero, suc, pos, ◌+◌, ◌-◌, ◌<◌, ◌≤◌, Bool, true, false, not, cond, ◌&&◌, nat_eq, nat_le, List, [], ◌∷◌, ◌++◌, length, take, drop, Option, Some, None, Result, Ok, Err, refl, sym, ap, subst, ◌∙◌, arith, add-zero, append_assoc, length-append, length-take}
use Rattle.std.proofs.lemmas.List.{take-append-drop}
use Rattle.std.proofs.lemmas.List.Sums.{prefix_len-le-length}
use Rattle.std.proofs.lemmas.Str.{is_utf8-from_IsUtf8, IsUtf8-from_is_utf8}
use Rattle.std.proofs.Math.Seq.{take-append_seam, drop-append_seam}
use Rattle.std.specs.List.{list_all, prefix_len, starts_with}
use Rattle.std.specs.Str.{IsUtf8, is_utf8}
use Rattle.std.specs.Str.Parse.{digits_value}
use Rattle.std.specs.Char.{is_ascii_digit}
use Rattle.sym_base.specs.Limits.{max_name_bytes, num_max}
use Rattle.sym_lex.specs.declared.error.LexFault.{LexFault}
use Rattle.sym_lex.specs.declared.error.LexFault.TheVariants.{BadNumber, LongName, BadText}
use Rattle.sym_lex.specs.declared.found.Found.{Found}
use Rattle.sym_lex.specs.declared.token.TokenKind.{TokenKind}
use Rattle.sym_lex.specs.declared.token.TokenKind.TheVariants as kind
use Rattle.sym_lex.specs.declared.keyword.Keyword.{Keyword}
use Rattle.sym_lex.specs.declared.symbol.Symbol.{Symbol}
use Rattle.sym_lex.specs.Keywords.{keyword_of}
use Rattle.sym_base.specs.Names.{is_name_part, is_name_start, starts_name}
use Rattle.sym_lex.specs.Letters.{begins, is_blank, is_hash, is_in_line, is_quote}
use Rattle.sym_lex.specs.Lexing.{body_of, found_at, gap_size, lexed, lexed_from, name_at, name_kind, number_at, symbol_at, symbol_from, text_from, with_found}
use Rattle.sym_lex.specs.Quoting.{escaped, quoted}
use Rattle.sym_lex.specs.Rules.{IsRun, IsNameRun, IsNumeral, IsSymbol, IsToken, name, word, number, string, sign, IsFault, bad_byte, large_number, joined_number, long_name, open_text, other_escape, not_utf8, LexResult, with_token, Reads, ended, blank, comment, token, fault}
use Rattle.sym_lex.specs.Symbols.{symbol_text}
use Rattle.sym_lex.proofs.Bodies.{closed, left-open, other-refused, text-given, text-refused}
use Rattle.sym_lex.proofs.Bytes.{by_test, digit-blank, digit-hash, digit-start, hash-blank, le-false, le-true, prefix-ends, prefix-is, prefix-passes, start-blank, start-hash}
use Rattle.sym_lex.proofs.Finding.{IsFound, IsRight, chosen, found-right}
use Rattle.sym_lex.proofs.Signs.{IsLongest, sign-first, symbol-long, symbol-no, symbol-own}
use Rattle.sym_lex.proofs.Steps.{lexed-fault, lexed-inside, lexed-token}
use Rattle.sym_lex.proofs.Words.{keyword-none, keyword-own, keyword-short}

-- A token that stands at the start of a text is found there.
pub record Goes (bytes rest : List ℕ) (k : TokenKind) : Type 0 where
  pub some : 0 < length bytes
  pub gap : gap_size (bytes ++ rest) ≡ 0
  pub found : (at : ℕ) → found_at at (bytes ++ rest) ≡ Ok (record { kind = k; size = length bytes })

no-gap : (b : ℕ) (rest : List ℕ) → is_blank b ≡ false → is_hash b ≡ false → gap_size (b ∷ rest) ≡ 0
no-gap b rest g h = rw (g, h) refl

found-name : (at b : ℕ) (rest : List ℕ) → is_name_start b ≡ true → found_at at (b ∷ rest) ≡ name_at at (b ∷ rest)
found-name at b rest e =
    ap (λ t. cond t (name_at at (b ∷ rest)) (cond (is_ascii_digit b) (number_at at (b ∷ rest)) (cond (is_quote b) (text_from at (body_of false rest)) (symbol_at at (b ∷ rest))))) e

found-number : (at b : ℕ) (rest : List ℕ) → is_ascii_digit b ≡ true → found_at at (b ∷ rest) ≡ number_at at (b ∷ rest)
found-number at b rest e =
    ap (λ t. cond t (name_at at (b ∷ rest)) (cond (is_ascii_digit b) (number_at at (b ∷ rest)) (cond (is_quote b) (text_from at (body_of false rest)) (symbol_at at (b ∷ rest))))) (digit-start b e)
    ∙ ap (λ t. cond t (number_at at (b ∷ rest)) (cond (is_quote b) (text_from at (body_of false rest)) (symbol_at at (b ∷ rest)))) e

found-symbol : (at b : ℕ) (rest : List ℕ) → is_name_start b ≡ false → is_ascii_digit b ≡ false → is_quote b ≡ false → found_at at (b ∷ rest) ≡ symbol_at at (b ∷ rest)
found-symbol at b rest n d q =
    ap (λ t. cond t (name_at at (b ∷ rest)) (cond (is_ascii_digit b) (number_at at (b ∷ rest)) (cond (is_quote b) (text_from at (body_of false rest)) (symbol_at at (b ∷ rest))))) n
    ∙ ap (λ t. cond t (number_at at (b ∷ rest)) (cond (is_quote b) (text_from at (body_of false rest)) (symbol_at at (b ∷ rest)))) d
    ∙ ap (λ t. cond t (text_from at (body_of false rest)) (symbol_at at (b ∷ rest))) q

-- Names and keywords.
name-at-is : (at : ℕ) (t text : List ℕ) (o : Option Keyword) → prefix_len is_name_part t ≡ length text → take (length text) t ≡ text → length text ≤ max_name_bytes → keyword_of text ≡ o →
    name_at at t ≡ Ok (record { kind = name_kind o; size = length text })
name-at-is at t text o p k few w =
    let le : nat_le (length text) max_name_bytes ≡ true = le-true (length text) max_name_bytes few in
    rw (p, k, le, w) refl

name-at-long : (at : ℕ) (t text : List ℕ) → prefix_len is_name_part t ≡ length text → max_name_bytes < length text → name_at at t ≡ Err (LongName at)
name-at-long at t text p many =
    let le : nat_le (length text) max_name_bytes ≡ false = le-false (length text) max_name_bytes many in
    rw (p, le) refl

name-goes : (bytes rest : List ℕ) (o : Option Keyword) → IsNameRun bytes rest → length bytes ≤ max_name_bytes → keyword_of bytes ≡ o → Goes bytes rest (name_kind o)
name-goes [] rest o h few w = absurd (let t = h.starts in cc)
name-goes (b ∷ front) rest o h few w = record {
  some = omega arith;
  gap = no-gap b (front ++ rest) (start-blank b h.starts) (start-hash b h.starts);
  found = λ at. found-name at b (front ++ rest) h.starts
      ∙ name-at-is at (b ∷ (front ++ rest)) (b ∷ front) o (prefix-is is_name_part (b ∷ front) rest h.run.each h.run.ends) (take-append_seam (b ∷ front) rest) few w;
}

-- Numbers.
number-at-is : (at : ℕ) (t text : List ℕ) → prefix_len is_ascii_digit t ≡ length text → take (length text) t ≡ text → digits_value 10 text ≤ num_max → starts_name (drop (length text) t) ≡ false →
    number_at at t ≡ Ok (record { kind = kind.Number (pos (digits_value 10 text)); size = length text })
number-at-is at t text p k small apart =
    let le : nat_le (digits_value 10 text) num_max ≡ true = le-true (digits_value 10 text) num_max small in
    rw (p, k, le, apart) refl

number-at-large : (at : ℕ) (t text : List ℕ) → prefix_len is_ascii_digit t ≡ length text → take (length text) t ≡ text → num_max < digits_value 10 text → number_at at t ≡ Err (BadNumber at)
number-at-large at t text p k large =
    let le : nat_le (digits_value 10 text) num_max ≡ false = le-false (digits_value 10 text) num_max large in
    rw (p, k, le) refl

neither : (a : Bool) → (a && not true) ≡ false
neither true = refl
neither false = refl

number-at-joined : (at : ℕ) (t text : List ℕ) → prefix_len is_ascii_digit t ≡ length text → take (length text) t ≡ text → starts_name (drop (length text) t) ≡ true → number_at at t ≡ Err (BadNumber at)
number-at-joined at t text p k joined =
    rw (p, k, joined, neither (nat_le (digits_value 10 text) num_max)) refl

number-goes : (bytes rest : List ℕ) → IsNumeral bytes rest → digits_value 10 bytes ≤ num_max → starts_name rest ≡ false → Goes bytes rest (kind.Number (pos (digits_value 10 bytes)))
number-goes [] rest h small apart = absurd (let t = h.starts in cc)
number-goes (b ∷ front) rest h small apart = record {
  some = omega arith;
  gap = no-gap b (front ++ rest) (digit-blank b h.starts) (digit-hash b h.starts);
  found = λ at. found-number at b (front ++ rest) h.starts
      ∙ number-at-is at (b ∷ (front ++ rest)) (b ∷ front) (prefix-is is_ascii_digit (b ∷ front) rest h.run.each h.run.ends) (take-append_seam (b ∷ front) rest) small
      (ap (starts_name) (drop-append_seam (b ∷ front) rest) ∙ apart);
}

-- Texts.
text-goes : (text rest : List ℕ) → list_all is_in_line text ≡ true → IsUtf8 text → Goes (quoted text) rest (kind.Str text)
text-goes text rest line utf8 =
    let long : 1 + (length (escaped text) + 1) ≡ length (quoted text) = omega (arith, length-append (escaped text) (34 ∷ [])) in
    record {
      some = omega arith;
      gap = refl;
      found = λ at. ap (λ (r : List ℕ). text_from at (body_of false r)) (append_assoc (escaped text) (34 ∷ []) rest)
          ∙ text-given at (body_of false (escaped text ++ 34 ∷ rest)) (record { text = text; size = length (escaped text) + 1 }) (closed text rest line) (is_utf8-from_IsUtf8 text utf8)
          ∙ ap (λ (n : ℕ). Ok (record { kind = kind.Str text; size = n })) long;
    }

-- Symbols.
first-gap : (text : List ℕ) → 0 < length text → begins is_blank text ≡ false → begins is_hash text ≡ false → gap_size text ≡ 0
first-gap [] some g h = absurd (omega arith)
first-gap (b ∷ rest) some g h = no-gap b rest g h

first-symbol : (at : ℕ) (text : List ℕ) → 0 < length text → starts_name text ≡ false → begins is_ascii_digit text ≡ false → begins is_quote text ≡ false → found_at at text ≡ symbol_at at text
first-symbol at [] some n d q = absurd (omega arith)
first-symbol at (b ∷ rest) some n d q = found-symbol at b rest n d q

own-goes : (s : Symbol) (rest : List ℕ) → IsLongest s (symbol_text s ++ rest) → Goes (symbol_text s) rest (kind.Sign s)
own-goes s rest longest =
    let first = sign-first s rest in
    let some : 0 < length (symbol_text s ++ rest) = omega (arith, symbol-long s, length-append (symbol_text s) rest) in
    record {
      some = symbol-long s;
      gap = first-gap (symbol_text s ++ rest) some first.no_blank first.no_hash;
      found = λ at. first-symbol at (symbol_text s ++ rest) some first.no_name first.no_digit first.no_quote ∙ ap (symbol_from at) (symbol-own s rest longest);
    }

symbol-goes : (s : Symbol) (bytes rest : List ℕ) → IsSymbol s bytes rest → Goes bytes rest (kind.Sign s)
symbol-goes s bytes rest h =
    let longest : IsLongest s (symbol_text s ++ rest) = subst (λ t. (other : Symbol) → starts_with nat_eq (t ++ rest) (symbol_text other) ≡ true → length (symbol_text other) ≤ length t) h.spelled h.longest in
    subst (λ t. Goes t rest (kind.Sign s)) (sym h.spelled) (own-goes s rest longest)

pub token-goes : (bytes rest : List ℕ) (k : TokenKind) → IsToken bytes rest k → Goes bytes rest k
token-goes bytes rest _ (name h few other) = name-goes bytes rest None h few (keyword-none bytes other)
token-goes bytes rest _ (word k h same) =
    name-goes bytes rest (Some k) h (omega (arith, ap length same, keyword-short k)) (ap keyword_of same ∙ keyword-own k)
token-goes bytes rest _ (number h small apart) = number-goes bytes rest h small apart
token-goes bytes rest _ (string text same line utf8) = subst (λ b. Goes b rest (kind.Str text)) (sym same) (text-goes text rest line utf8)
token-goes bytes rest _ (sign s h) = symbol-goes s bytes rest h

-- A fault that stands at the start of a text is found there.
pub record Fails (at : ℕ) (text : List ℕ) (f : LexFault) : Type 0 where
  pub some : 0 < length text
  pub gap : gap_size text ≡ 0
  pub found : found_at at text ≡ Err f

large-fails : (at : ℕ) (digits rest : List ℕ) → IsNumeral digits rest → num_max < digits_value 10 digits → Fails at (digits ++ rest) (BadNumber at)
large-fails at [] rest h large = absurd (let t = h.starts in cc)
large-fails at (b ∷ front) rest h large = record {
  some = omega arith;
  gap = no-gap b (front ++ rest) (digit-blank b h.starts) (digit-hash b h.starts);
  found = found-number at b (front ++ rest) h.starts
      ∙ number-at-large at (b ∷ (front ++ rest)) (b ∷ front) (prefix-is is_ascii_digit (b ∷ front) rest h.run.each h.run.ends) (take-append_seam (b ∷ front) rest) large;
}

joined-fails : (at : ℕ) (digits rest : List ℕ) → IsNumeral digits rest → starts_name rest ≡ true → Fails at (digits ++ rest) (BadNumber at)
joined-fails at [] rest h joined = absurd (let t = h.starts in cc)
joined-fails at (b ∷ front) rest h joined = record {
  some = omega arith;
  gap = no-gap b (front ++ rest) (digit-blank b h.starts) (digit-hash b h.starts);
  found = found-number at b (front ++ rest) h.starts
      ∙ number-at-joined at (b ∷ (front ++ rest)) (b ∷ front) (prefix-is is_ascii_digit (b ∷ front) rest h.run.each h.run.ends) (take-append_seam (b ∷ front) rest)
      (ap (starts_name) (drop-append_seam (b ∷ front) rest) ∙ joined);
}

long-fails : (at : ℕ) (bytes rest : List ℕ) → IsNameRun bytes rest → max_name_bytes < length bytes → Fails at (bytes ++ rest) (LongName at)
long-fails at [] rest h many = absurd (omega arith)
long-fails at (b ∷ front) rest h many = record {
  some = omega arith;
  gap = no-gap b (front ++ rest) (start-blank b h.starts) (start-hash b h.starts);
  found = found-name at b (front ++ rest) h.starts
      ∙ name-at-long at (b ∷ (front ++ rest)) (b ∷ front) (prefix-is is_name_part (b ∷ front) rest h.run.each h.run.ends) many;
}

text-fails : (at : ℕ) (rest : List ℕ) → text_from at (body_of false rest) ≡ Err (BadText at) → Fails at (34 ∷ rest) (BadText at)
text-fails at rest e = record { some = omega arith; gap = refl; found = e }

not-utf8 : (text : List ℕ) → ¬ (IsUtf8 text) → is_utf8 text ≡ false
not-utf8 text h = by_test (is_utf8 text) (λ t. absurd (h (IsUtf8-from_is_utf8 text t))) (λ t. t)

pub fault-fails : (at : ℕ) (text : List ℕ) (f : LexFault) → IsFault at text f → Fails at text f
fault-fails at _ _ (bad_byte b rest h) = record {
  some = omega arith;
  gap = no-gap b rest h.no_blank h.no_comment;
  found = found-symbol at b rest h.no_name h.no_number h.no_text ∙ ap (symbol_from at) (symbol-no (b ∷ rest) h.no_symbol);
}
fault-fails at _ _ (large_number digits rest h large) = large-fails at digits rest h large
fault-fails at _ _ (joined_number digits rest h joined) = joined-fails at digits rest h joined
fault-fails at _ _ (long_name bytes rest h many) = long-fails at bytes rest h many
fault-fails at _ _ (open_text text rest line e) = text-fails at (escaped text ++ rest) (ap (text_from at) (left-open text rest line e))
fault-fails at _ _ (other_escape text rest line e) = text-fails at (escaped text ++ 92 ∷ rest) (ap (text_from at) (other-refused text rest line e))
fault-fails at _ _ (not_utf8 text rest line wrong) =
    text-fails at ((escaped text ++ 34 ∷ []) ++ rest)
    (ap (λ (r : List ℕ). text_from at (body_of false r)) (append_assoc (escaped text) (34 ∷ []) rest)
    ∙ text-refused at (body_of false (escaped text ++ 34 ∷ rest)) (record { text = text; size = length (escaped text) + 1 }) (closed text rest line) (not-utf8 text wrong))

-- From the rules to what is found.
lexed-end : (at inside : ℕ) → lexed_from at inside [] ≡ Ok []
unfolding lexed_from
lexed-end at inside = refl

lexed-blank : (at b : ℕ) (rest : List ℕ) → is_blank b ≡ true → lexed_from at 0 (b ∷ rest) ≡ lexed_from (at + 1) 0 rest
unfolding lexed_from
lexed-blank at b rest e = rw e refl

lexed-comment : (at b : ℕ) (rest : List ℕ) → is_hash b ≡ true → lexed_from at 0 (b ∷ rest) ≡ lexed_from (at + 1) (prefix_len is_in_line rest) rest
unfolding lexed_from
lexed-comment at b rest e =
    let gap : is_blank b ≡ false = hash-blank b e in
    rw (gap, e) refl

pub are-lexed : (at : ℕ) (text : List ℕ) (o : LexResult) → Reads at text o → lexed_from at 0 text ≡ o
are-lexed _ _ _ (ended at) = lexed-end at 0
are-lexed _ _ _ (blank at b rest o e h) = lexed-blank at b rest e ∙ are-lexed (at + 1) rest o h
are-lexed _ _ _ (comment at b body rest o e run h) =
    lexed-comment at b (body ++ rest) e
    ∙ ap (λ n. lexed_from (at + 1) n (body ++ rest)) (prefix-is is_in_line body rest run.each run.ends)
    ∙ lexed-inside (at + 1) (length body) (body ++ rest) (omega (arith, length-append body rest))
    ∙ ap (lexed_from (at + 1 + length body) 0) (drop-append_seam body rest)
    ∙ are-lexed (at + 1 + length body) rest o h
are-lexed _ _ _ (token at bytes rest k o is h) =
    let g = token-goes bytes rest k is in
    lexed-token at (bytes ++ rest) (record { kind = k; size = length bytes }) g.gap (g.found at) g.some (omega (arith, length-append bytes rest))
    ∙ ap (λ r. with_token (record { kind = k; at = at; end = at + length bytes }) (lexed_from (at + length bytes) 0 r)) (drop-append_seam bytes rest)
    ∙ ap (with_token (record { kind = k; at = at; end = at + length bytes })) (are-lexed (at + length bytes) rest o h)
are-lexed _ _ _ (fault at text f is) = let g = fault-fails at text f is in lexed-fault at text f g.some g.gap g.found

-- From what is found to the rules.
found-reads : (at b : ℕ) (rest : List ℕ) (r : Result Found LexFault) (more : ℕ → LexResult) → IsRight at (b ∷ rest) r → ((n : ℕ) → Reads (at + 1 + n) (drop n rest) (more n)) →
    Reads at (b ∷ rest) (with_found at r (λ size. more (size - 1)))
found-reads at b rest (Err f) more right later = fault at (b ∷ rest) f right
found-reads at b rest (Ok found) more right later =
    let f : IsFound (b ∷ rest) found = right in
    let n : ℕ = found.size - 1 in
    let o : LexResult = more n in
    let whole_size : suc n ≡ length f.bytes = omega (arith, f.sized, f.some) in
    let place : at + 1 + n ≡ at + length f.bytes = omega (arith, f.sized, f.some) in
    let behind : drop n rest ≡ f.rest = ap (λ m. drop m (b ∷ rest)) whole_size ∙ ap (drop (length f.bytes)) (sym f.whole) ∙ drop-append_seam f.bytes f.rest in
    let after : Reads (at + length f.bytes) f.rest o = subst (λ r. Reads (at + length f.bytes) r o) behind (subst (λ m. Reads m (drop n rest) o) place (later n)) in
    let made : Reads at (b ∷ rest) (with_token (record { kind = found.kind; at = at; end = at + length f.bytes }) o) =
    subst (λ t. Reads at t (with_token (record { kind = found.kind; at = at; end = at + length f.bytes }) o)) f.whole (token at f.bytes f.rest found.kind o f.is after) in
    subst (λ (m : ℕ). Reads at (b ∷ rest) (with_token (record { kind = found.kind; at = at; end = at + m }) o)) (sym f.sized) made

comment-reads : (at b : ℕ) (rest : List ℕ) (o : LexResult) → is_hash b ≡ true → Reads (at + 1 + prefix_len is_in_line rest) (drop (prefix_len is_in_line rest) rest) o → Reads at (b ∷ rest) o
comment-reads at b rest o h later =
    let n : ℕ = prefix_len is_in_line rest in
    let size : length (take n rest) ≡ n = omega (arith, length-take {A = ℕ}, prefix_len-le-length is_in_line rest) in
    let run : IsRun is_in_line (take n rest) (drop n rest) = record { each = prefix-passes is_in_line rest; ends = prefix-ends is_in_line rest } in
    let made : Reads at (b ∷ (take n rest ++ drop n rest)) o = comment at b (take n rest) (drop n rest) o h run (subst (λ m. Reads (at + 1 + m) (drop n rest) o) (sym size) later) in
    subst (λ t. Reads at (b ∷ t) o) (take-append-drop n rest) made

reads-inner : (at inside : ℕ) (text : List ℕ) → Reads (at + inside) (drop inside text) (lexed_from at inside text)
unfolding lexed_from
reads-inner at zero [] = ended (at + zero)
reads-inner at (suc n) [] = ended (at + suc n)
reads-inner at (suc n) (b ∷ rest) =
    let place : at + 1 + n ≡ at + suc n = omega arith in
    subst (λ m. Reads m (drop n rest) (lexed_from (at + 1) n rest)) place (reads-inner (at + 1) n rest)
reads-inner at zero (b ∷ rest) =
    rw add-zero
    (chosen (Reads at (b ∷ rest)) (is_blank b) _ _
    (λ g. blank at b rest (lexed_from (at + 1) 0 rest) g (subst (λ m. Reads m rest (lexed_from (at + 1) 0 rest)) (add-zero (at + 1)) (reads-inner (at + 1) zero rest)))
    (λ g. chosen (Reads at (b ∷ rest)) (is_hash b) _ _
    (λ h. comment-reads at b rest (lexed_from (at + 1) (prefix_len is_in_line rest) rest) h (reads-inner (at + 1) (prefix_len is_in_line rest) rest))
    (λ h. found-reads at b rest (found_at at (b ∷ rest)) (λ n. lexed_from (at + 1) n rest) (found-right at b rest g h) (λ n. reads-inner (at + 1) n rest))))

pub reads-lexed : (text : List ℕ) → Reads 0 text (lexed text)
reads-lexed text = subst (λ m. Reads m text (lexed_from 0 0 text)) (add-zero 0) (reads-inner 0 0 text)

pub reads-once : (text : List ℕ) (o : LexResult) → (Reads 0 text o → lexed text ≡ o) × (lexed text ≡ o → Reads 0 text o)
reads-once text o = (are-lexed 0 text o, λ e. subst (Reads 0 text) e (reads-lexed text))
