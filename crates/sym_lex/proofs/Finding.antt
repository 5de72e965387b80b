-- What is found at the start of a text is a token or a fault of the rules.
use Rattle.std.proofs.Common.{◌≡◌, ℕ, pos, ◌+◌, ◌<◌, ◌≤◌, Bool, true, false, not, cond, ◌&&◌, nat_eq, nat_le, List, [], ◌∷◌, ◌++◌, length, take, drop, Option, Some, None, Result, Ok, Err, refl, sym, ap, subst, ◌∙◌, arith, append_assoc, length-append, length-take}
use Rattle.std.proofs.lemmas.List.{take-append-drop}
use Rattle.std.proofs.lemmas.List.Sums.{prefix_len-le-length}
use Rattle.std.proofs.lemmas.Str.{IsUtf8-from_is_utf8, is_utf8-from_IsUtf8}
use Rattle.std.specs.List.{prefix_len, starts_with}
use Rattle.std.specs.Str.{is_utf8}
use Rattle.std.specs.Str.Parse.{digits_value}
use Rattle.std.specs.Char.{is_ascii_digit}
use Rattle.sym_base.specs.Limits.{max_name_bytes, num_max}
use Rattle.sym_lex.specs.declared.error.LexFault.{LexFault}
use Rattle.sym_lex.specs.declared.error.LexFault.TheVariants.{BadNumber, LongName, BadText}
use Rattle.sym_lex.specs.declared.found.Found.{Found}
use Rattle.sym_lex.specs.declared.token.TokenKind.TheVariants as kind
use Rattle.sym_lex.specs.declared.keyword.Keyword.{Keyword}
use Rattle.sym_lex.specs.declared.symbol.Symbol.{Symbol}
use Rattle.sym_lex.specs.Keywords.{keyword_of}
use Rattle.sym_base.specs.Names.{is_name_part, is_name_start, starts_name}
use Rattle.sym_lex.specs.Letters.{begins, is_blank, is_hash, is_in_line, is_quote}
use Rattle.sym_lex.specs.Lexing.{Decoded, body_of, found_at, gap_size, name_at, name_kind, number_at, symbol_from, text_from}
use Rattle.sym_lex.specs.Quoting.{escaped, quoted}
use Rattle.sym_lex.specs.Rules.{IsNameRun, IsNumeral, IsToken, name, word, number, string, sign, IsFault, bad_byte, large_number, joined_number, long_name, open_text, other_escape, not_utf8}
use Rattle.sym_lex.specs.Symbols.{symbol_of, symbol_text}
use Rattle.sym_lex.proofs.Bodies.{IsBody, IsNoBody, ReadsAs, body-right, other, unclosed}
use Rattle.sym_lex.proofs.Bytes.{above, at_most, both, by_test, denied, prefix-ends, prefix-passes, prefix-step, quote-is, start-part, starts-name-on, starts-on}
use Rattle.sym_lex.proofs.Signs.{begins-with, symbol-found, symbol-long, symbol-longest, symbol-none}
use Rattle.sym_lex.proofs.Words.{keyword-is, keyword-own}

-- The token of these bytes, with which the text begins.
pub record IsFound (text : List ℕ) (found : Found) : Type 0 where
  pub bytes : List ℕ
  pub rest : List ℕ
  pub whole : bytes ++ rest ≡ text
  pub sized : found.size ≡ length bytes
  pub some : 0 < length bytes
  pub is : IsToken bytes rest found.kind

abbrev pub IsRight : ℕ → List ℕ → Result Found LexFault → Type 0
IsRight at text (Ok found) = IsFound text found
IsRight at text (Err fault) = IsFault at text fault

pub chosen : {A : Type 0} (P : A → Type 0) (t : Bool) (x y : A) → (t ≡ true → P x) → (t ≡ false → P y) → P (cond t x y)
chosen P true x y a b = a refl
chosen P false x y a b = b refl

-- Names and keywords.
is-word : (b : ℕ) (rest : List ℕ) → is_name_start b ≡ true → IsNameRun (take (prefix_len is_name_part (b ∷ rest)) (b ∷ rest)) (drop (prefix_len is_name_part (b ∷ rest)) (b ∷ rest))
is-word b rest e =
    let step : prefix_len is_name_part (b ∷ rest) ≡ 1 + prefix_len is_name_part rest = prefix-step is_name_part b rest (start-part b e) in
    record {
      starts = ap (λ m. starts_name (take m (b ∷ rest))) step ∙ starts-name-on b (prefix_len is_name_part rest) rest e;
      run = record { each = prefix-passes is_name_part (b ∷ rest); ends = prefix-ends is_name_part (b ∷ rest) };
    }

prefix-some : (p : ℕ → Bool) (b : ℕ) (rest : List ℕ) → p b ≡ true → 0 < prefix_len p (b ∷ rest)
prefix-some p b rest e = let step : prefix_len p (b ∷ rest) ≡ 1 + prefix_len p rest = prefix-step p b rest e in omega arith

prefix-long : (p : ℕ → Bool) (text : List ℕ) → length (take (prefix_len p text) text) ≡ prefix_len p text
prefix-long p text = omega (arith, length-take {A = ℕ}, prefix_len-le-length p text)

kind-is : (bytes rest : List ℕ) (o : Option Keyword) → IsNameRun bytes rest → length bytes ≤ max_name_bytes → keyword_of bytes ≡ o → IsToken bytes rest (name_kind o)
kind-is bytes rest None h few w = name h few (λ k same. let own = sym (ap keyword_of same ∙ keyword-own k) ∙ w in cc)
kind-is bytes rest (Some k) h few w = word k h (keyword-is bytes k w)

name-right : (at b : ℕ) (rest : List ℕ) → is_name_start b ≡ true → IsRight at (b ∷ rest) (name_at at (b ∷ rest))
name-right at b rest e =
    let text : List ℕ = b ∷ rest in
    let n : ℕ = prefix_len is_name_part text in
    let w : IsNameRun (take n text) (drop n text) = is-word b rest e in
    let long : length (take n text) ≡ n = prefix-long is_name_part text in
    let some : 0 < n = prefix-some is_name_part b rest (start-part b e) in
    chosen (IsRight at text) (nat_le n max_name_bytes) (Ok (record { kind = name_kind (keyword_of (take n text)); size = n })) (Err (LongName at))
    (λ le. let few : n ≤ max_name_bytes = at_most n max_name_bytes le in record {
      bytes = take n text;
      rest = drop n text;
      whole = take-append-drop n text;
      sized = sym long;
      some = omega arith;
      is = kind-is (take n text) (drop n text) (keyword_of (take n text)) w (omega arith) refl;
    })
    (λ le. let many : max_name_bytes < n = above n max_name_bytes le in
    subst (λ t. IsFault at t (LongName at)) (take-append-drop n text) (long_name (take n text) (drop n text) w (omega arith)))

-- Numbers.
is-numeral : (b : ℕ) (rest : List ℕ) → is_ascii_digit b ≡ true → IsNumeral (take (prefix_len is_ascii_digit (b ∷ rest)) (b ∷ rest)) (drop (prefix_len is_ascii_digit (b ∷ rest)) (b ∷ rest))
is-numeral b rest e =
    let step : prefix_len is_ascii_digit (b ∷ rest) ≡ 1 + prefix_len is_ascii_digit rest = prefix-step is_ascii_digit b rest e in
    record {
      starts = ap (λ m. begins is_ascii_digit (take m (b ∷ rest))) step ∙ starts-on is_ascii_digit b (prefix_len is_ascii_digit rest) rest e;
      run = record { each = prefix-passes is_ascii_digit (b ∷ rest); ends = prefix-ends is_ascii_digit (b ∷ rest) };
    }

second : (a c : Bool) → a ≡ true → (a && not c) ≡ false → c ≡ true
second true true p e = refl
second true false p e = cc
second false c p e = cc

number-right : (at b : ℕ) (rest : List ℕ) → is_ascii_digit b ≡ true → IsRight at (b ∷ rest) (number_at at (b ∷ rest))
number-right at b rest e =
    let text : List ℕ = b ∷ rest in
    let n : ℕ = prefix_len is_ascii_digit text in
    let w : IsNumeral (take n text) (drop n text) = is-numeral b rest e in
    let long : length (take n text) ≡ n = prefix-long is_ascii_digit text in
    let some : 0 < n = prefix-some is_ascii_digit b rest e in
    let value : ℕ = digits_value 10 (take n text) in
    let small : Bool = nat_le value num_max in
    let joined : Bool = starts_name (drop n text) in
    let fault : List ℕ → Type 0 = λ t. IsFault at t (BadNumber at) in
    chosen (IsRight at text) (small && not joined) (Ok (record { kind = kind.Number (pos value); size = n })) (Err (BadNumber at))
    (λ t. let parts = both small (not joined) t in record {
      bytes = take n text;
      rest = drop n text;
      whole = take-append-drop n text;
      sized = sym long;
      some = omega arith;
      is = number w (at_most value num_max parts.0) (denied joined parts.1);
    })
    (λ t. subst fault (take-append-drop n text)
    (by_test small
    (λ s. joined_number (take n text) (drop n text) w (second small joined s t))
    (λ s. large_number (take n text) (drop n text) w (above value num_max s))))

-- Texts.
text-none : (at : ℕ) (rest : List ℕ) → IsNoBody rest → IsFault at (34 ∷ rest) (BadText at)
text-none at _ (unclosed text rest line e) = open_text text rest line e
text-none at _ (other text rest line e) = other_escape text rest line e

text-some : (at : ℕ) (rest : List ℕ) (body : Decoded) → IsBody rest body → IsRight at (34 ∷ rest) (text_from at (Some body))
text-some at rest body h =
    let whole : quoted body.text ++ h.rest ≡ 34 ∷ rest = ap (λ (r : List ℕ). 34 ∷ r) (append_assoc (escaped body.text) (34 ∷ []) h.rest ∙ sym h.written) in
    chosen (IsRight at (34 ∷ rest)) (is_utf8 body.text) (Ok (record { kind = kind.Str body.text; size = 1 + body.size })) (Err (BadText at))
    (λ u. record {
      bytes = quoted body.text;
      rest = h.rest;
      whole = whole;
      sized = omega (arith, h.sized, length-append (escaped body.text) (34 ∷ []));
      some = omega arith;
      is = string body.text refl h.line (IsUtf8-from_is_utf8 body.text u);
    })
    (λ u. subst (λ t. IsFault at t (BadText at)) whole (not_utf8 body.text h.rest h.line (λ v. let t : is_utf8 body.text ≡ true = is_utf8-from_IsUtf8 body.text v in cc)))

text-by : (at : ℕ) (rest : List ℕ) (o : Option Decoded) → ReadsAs rest o → IsRight at (34 ∷ rest) (text_from at o)
text-by at rest None h = text-none at rest h
text-by at rest (Some body) h = text-some at rest body h

text-right : (at b : ℕ) (rest : List ℕ) → is_quote b ≡ true → IsRight at (b ∷ rest) (text_from at (body_of false rest))
text-right at b rest e =
    subst (λ n. IsRight at (n ∷ rest) (text_from at (body_of false rest))) (sym (quote-is b e)) (text-by at rest (body_of false rest) (body-right false rest))

-- Symbols.
symbol-some : (at : ℕ) (text : List ℕ) (s : Symbol) → symbol_of text ≡ Some s → IsFound text (record { kind = kind.Sign s; size = length (symbol_text s) })
symbol-some at text s e =
    let rest : List ℕ = drop (length (symbol_text s)) text in
    let whole : symbol_text s ++ rest ≡ text = sym (begins-with text s (symbol-found text s e)) in
    record {
      bytes = symbol_text s;
      rest = rest;
      whole = whole;
      sized = refl;
      some = symbol-long s;
      is = sign s (record {
        spelled = refl;
        longest = λ other h. symbol-longest text s other e (subst (λ t. starts_with nat_eq t (symbol_text other) ≡ true) whole h);
      });
    }

symbol-by : (at b : ℕ) (rest : List ℕ) (o : Option Symbol) → is_blank b ≡ false → is_hash b ≡ false → is_name_start b ≡ false → is_ascii_digit b ≡ false → is_quote b ≡ false →
    symbol_of (b ∷ rest) ≡ o → IsRight at (b ∷ rest) (symbol_from at o)
symbol-by at b rest None g h n d q e =
    bad_byte b rest (record { no_blank = g; no_comment = h; no_name = n; no_number = d; no_text = q; no_symbol = λ s. symbol-none (b ∷ rest) s e })
symbol-by at b rest (Some s) g h n d q e = symbol-some at (b ∷ rest) s e

pub found-right : (at b : ℕ) (rest : List ℕ) → is_blank b ≡ false → is_hash b ≡ false → IsRight at (b ∷ rest) (found_at at (b ∷ rest))
found-right at b rest g h =
    let P : Result Found LexFault → Type 0 = IsRight at (b ∷ rest) in
    chosen P (is_name_start b) _ _ (λ n. name-right at b rest n)
    (λ n. chosen P (is_ascii_digit b) _ _ (λ d. number-right at b rest d)
    (λ d. chosen P (is_quote b) _ _ (λ q. text-right at b rest q)
    (λ q. symbol-by at b rest (symbol_of (b ∷ rest)) g h n d q refl)))

pub gap-none : (blank hash : Bool) (n : ℕ) → cond blank 1 (cond hash (1 + n) 0) ≡ 0 → (blank ≡ false) × (hash ≡ false)
gap-none true hash n e = absurd (omega arith)
gap-none false true n e = absurd (omega arith)
gap-none false false n e = (refl, refl)

pub found-fits : (at : ℕ) (text : List ℕ) (found : Found) → gap_size text ≡ 0 → found_at at text ≡ Ok found → (0 < found.size) × (found.size ≤ length text)
found-fits at [] found g e = absurd (cc)
found-fits at (b ∷ rest) found g e =
    let gap = gap-none (is_blank b) (is_hash b) (prefix_len is_in_line rest) g in
    let right : IsRight at (b ∷ rest) (Ok found) = subst (IsRight at (b ∷ rest)) e (found-right at b rest gap.0 gap.1) in
    let f : IsFound (b ∷ rest) found = right in
    (omega (arith, f.sized, f.some), omega (arith, f.sized, ap length f.whole, length-append f.bytes f.rest))
