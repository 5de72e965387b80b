-- Steps of reading what stands between quotes.
use Rattle.std.proofs.Common.{◌≡◌, ℕ, ◌+◌, ◌<◌, ◌≤◌, Bool, true, false, List, [], ◌∷◌, ◌++◌, length, drop, get_or, Option, Some, None, option_map, Ok, Err, refl, ap, subst, sym, ◌∙◌, append_assoc, drop-cons, add-one, arith, length-append}
use Rattle.std.proofs.Math.ListN.{drop_of_length-le}
use Rattle.std.proofs.lemmas.List.{append-nil}
use Rattle.std.specs.List.{list_all}
use Rattle.std.specs.Str.{is_utf8}
use Rattle.sym_lex.specs.declared.error.LexFault.TheVariants.{BadText}
use Rattle.sym_lex.specs.declared.token.TokenKind.TheVariants as kind
use Rattle.sym_lex.specs.Letters.{begins, is_backslash, is_escaped, is_in_line, is_line_end, is_quote}
use Rattle.sym_lex.specs.Quoting.{escaped}
use Rattle.sym_lex.proofs.Bytes.{backslash-is, both, by_test, denied, escaped-line, escaped-no, join, line-quote, quote-is, refused, unescaped}
use Rattle.sym_lex.specs.Lexing.{Decoded, body_of, text_from, with_backslash, with_byte}

-- What was read so far, before what is read from here on.
abbrev pub continued : List ℕ → ℕ → Option Decoded → Option Decoded
continued text size = option_map (λ body. record { text = text ++ body.text; size = size + body.size })

pub nothing-before : (o : Option Decoded) → continued [] 0 o ≡ o
nothing-before None = refl
nothing-before (Some body) = ap (λ n. Some (record { text = body.text; size = n })) (omega arith)

byte-joined : (text : List ℕ) (size b : ℕ) (o : Option Decoded) → continued text size (option_map (with_byte b) o) ≡ continued (text ++ b ∷ []) (size + 1) o
byte-joined text size b None = refl
byte-joined text size b (Some body) =
    let e : size + (1 + body.size) ≡ size + 1 + body.size = omega arith in
    rw (e, append_assoc text (b ∷ []) body.text) refl

backslash-joined : (text : List ℕ) (size : ℕ) (o : Option Decoded) → continued text size (option_map with_backslash o) ≡ continued text (size + 1) o
backslash-joined text size None = refl
backslash-joined text size (Some body) =
    let e : size + (1 + body.size) ≡ size + 1 + body.size = omega arith in
    rw e refl

step-escaped : (b : ℕ) (rest : List ℕ) → is_escaped b ≡ true → body_of true (b ∷ rest) ≡ option_map (with_byte b) (body_of false rest)
unfolding body_of
step-escaped b rest e = rw e refl

step-refused : (b : ℕ) (rest : List ℕ) → is_escaped b ≡ false → body_of true (b ∷ rest) ≡ None
unfolding body_of
step-refused b rest e = rw e refl

step-quote : (b : ℕ) (rest : List ℕ) → is_quote b ≡ true → body_of false (b ∷ rest) ≡ Some (record { text = []; size = 1 })
unfolding body_of
step-quote b rest e = rw e refl

step-line : (b : ℕ) (rest : List ℕ) → is_quote b ≡ false → is_line_end b ≡ true → body_of false (b ∷ rest) ≡ None
unfolding body_of
step-line b rest q e = rw (q, e) refl

step-backslash : (b : ℕ) (rest : List ℕ) → is_quote b ≡ false → is_line_end b ≡ false → is_backslash b ≡ true → body_of false (b ∷ rest) ≡ option_map with_backslash (body_of true rest)
unfolding body_of
step-backslash b rest q l e = rw (q, l, e) refl

step-plain : (b : ℕ) (rest : List ℕ) → is_quote b ≡ false → is_line_end b ≡ false → is_backslash b ≡ false → body_of false (b ∷ rest) ≡ option_map (with_byte b) (body_of false rest)
unfolding body_of
step-plain b rest q l e = rw (q, l, e) refl

pub body-end : (after : Bool) → body_of after [] ≡ None
unfolding body_of
body-end after = refl

-- What the loop over the bytes keeps, byte by byte.
at-byte : (after : Bool) (i : ℕ) (bytes : List ℕ) → i < length bytes → body_of after (drop i bytes) ≡ body_of after (get_or bytes i 0 ∷ drop (i + 1) bytes)
at-byte after i bytes h = ap (body_of after) (rw add-one (drop-cons bytes i 0 h))

pub read-escaped : (text : List ℕ) (size i : ℕ) (bytes : List ℕ) (whole : Option Decoded) → i < length bytes → is_escaped (get_or bytes i 0) ≡ true →
    continued text size (body_of true (drop i bytes)) ≡ whole → continued (text ++ get_or bytes i 0 ∷ []) (size + 1) (body_of false (drop (i + 1) bytes)) ≡ whole
read-escaped text size i bytes whole h e before =
    sym (ap (continued text size) (at-byte true i bytes h ∙ step-escaped (get_or bytes i 0) (drop (i + 1) bytes) e) ∙ byte-joined text size (get_or bytes i 0) (body_of false (drop (i + 1) bytes))) ∙ before

pub read-plain : (text : List ℕ) (size i : ℕ) (bytes : List ℕ) (whole : Option Decoded) → i < length bytes → is_quote (get_or bytes i 0) ≡ false → is_line_end (get_or bytes i 0) ≡ false → is_backslash (get_or bytes i 0) ≡ false →
    continued text size (body_of false (drop i bytes)) ≡ whole → continued (text ++ get_or bytes i 0 ∷ []) (size + 1) (body_of false (drop (i + 1) bytes)) ≡ whole
read-plain text size i bytes whole h q l s before =
    sym (ap (continued text size) (at-byte false i bytes h ∙ step-plain (get_or bytes i 0) (drop (i + 1) bytes) q l s) ∙ byte-joined text size (get_or bytes i 0) (body_of false (drop (i + 1) bytes))) ∙ before

pub read-backslash : (text : List ℕ) (size i : ℕ) (bytes : List ℕ) (whole : Option Decoded) → i < length bytes → is_quote (get_or bytes i 0) ≡ false → is_line_end (get_or bytes i 0) ≡ false → is_backslash (get_or bytes i 0) ≡ true →
    continued text size (body_of false (drop i bytes)) ≡ whole → continued text (size + 1) (body_of true (drop (i + 1) bytes)) ≡ whole
read-backslash text size i bytes whole h q l s before =
    sym (ap (continued text size) (at-byte false i bytes h ∙ step-backslash (get_or bytes i 0) (drop (i + 1) bytes) q l s) ∙ backslash-joined text size (body_of true (drop (i + 1) bytes))) ∙ before

pub read-refused : (text : List ℕ) (size i : ℕ) (bytes : List ℕ) (whole : Option Decoded) → i < length bytes → is_escaped (get_or bytes i 0) ≡ false →
    continued text size (body_of true (drop i bytes)) ≡ whole → None ≡ whole
read-refused text size i bytes whole h e before =
    sym (ap (continued text size) (at-byte true i bytes h ∙ step-refused (get_or bytes i 0) (drop (i + 1) bytes) e)) ∙ before

pub read-line : (text : List ℕ) (size i : ℕ) (bytes : List ℕ) (whole : Option Decoded) → i < length bytes → is_quote (get_or bytes i 0) ≡ false → is_line_end (get_or bytes i 0) ≡ true →
    continued text size (body_of false (drop i bytes)) ≡ whole → None ≡ whole
read-line text size i bytes whole h q l before =
    sym (ap (continued text size) (at-byte false i bytes h ∙ step-line (get_or bytes i 0) (drop (i + 1) bytes) q l)) ∙ before

pub read-quote : (text : List ℕ) (size i : ℕ) (bytes : List ℕ) (whole : Option Decoded) → i < length bytes → is_quote (get_or bytes i 0) ≡ true →
    continued text size (body_of false (drop i bytes)) ≡ whole → Some (record { text = text; size = size + 1 }) ≡ whole
read-quote text size i bytes whole h q before =
    ap (λ (t : List ℕ). Some (record { text = t; size = size + 1 })) (sym (append-nil text))
    ∙ sym (ap (continued text size) (at-byte false i bytes h ∙ step-quote (get_or bytes i 0) (drop (i + 1) bytes) q)) ∙ before

pub read-end : (text : List ℕ) (size i : ℕ) (after : Bool) (bytes : List ℕ) (whole : Option Decoded) → length bytes ≤ i →
    continued text size (body_of after (drop i bytes)) ≡ whole → None ≡ whole
read-end text size i after bytes whole h before =
    sym (ap (λ r. continued text size (body_of after r)) (drop_of_length-le bytes h) ∙ ap (continued text size) (body-end after)) ∙ before

byte-behind : (b : ℕ) (text : List ℕ) (size total : ℕ) (o : Option Decoded) → total ≡ 1 + size → option_map (with_byte b) (continued text size o) ≡ continued (b ∷ text) total o
byte-behind b text size total None t = refl
byte-behind b text size total (Some body) t = let e : 1 + (size + body.size) ≡ total + body.size = omega arith in rw e refl

backslash-behind : (b : ℕ) (text : List ℕ) (size total : ℕ) (o : Option Decoded) → total ≡ 2 + size → option_map with_backslash (option_map (with_byte b) (continued text size o)) ≡ continued (b ∷ text) total o
backslash-behind b text size total None t = refl
backslash-behind b text size total (Some body) t = let e : 1 + (1 + (size + body.size)) ≡ total + body.size = omega arith in rw e refl

by_backslash : (b : ℕ) (text rest : List ℕ) → is_escaped b ≡ true → body_of false (escaped text ++ rest) ≡ continued text (length (escaped text)) (body_of false rest) →
    body_of false (92 ∷ b ∷ (escaped text ++ rest)) ≡ continued (b ∷ text) (length (92 ∷ b ∷ escaped text)) (body_of false rest)
by_backslash b text rest e more =
    step-backslash 92 (b ∷ (escaped text ++ rest)) refl refl refl
    ∙ ap (option_map with_backslash) (step-escaped b (escaped text ++ rest) e ∙ ap (option_map (with_byte b)) more)
    ∙ backslash-behind b text (length (escaped text)) (length (92 ∷ b ∷ escaped text)) (body_of false rest) (omega arith)

by_plain : (b : ℕ) (text rest : List ℕ) → is_escaped b ≡ false → is_line_end b ≡ false → body_of false (escaped text ++ rest) ≡ continued text (length (escaped text)) (body_of false rest) →
    body_of false (b ∷ (escaped text ++ rest)) ≡ continued (b ∷ text) (length (b ∷ escaped text)) (body_of false rest)
by_plain b text rest e line more =
    let no = escaped-no b e in
    step-plain b (escaped text ++ rest) no.0 line no.1
    ∙ ap (option_map (with_byte b)) more
    ∙ byte-behind b text (length (escaped text)) (length (b ∷ escaped text)) (body_of false rest) (omega arith)

-- The text that is read once the bytes before are decoded.
pub body-escaped : (text rest : List ℕ) → list_all is_in_line text ≡ true → body_of false (escaped text ++ rest) ≡ continued text (length (escaped text)) (body_of false rest)
body-escaped [] rest h = sym (nothing-before (body_of false rest))
body-escaped (b ∷ text) rest h =
    let parts = both (is_in_line b) (list_all is_in_line text) h in
    let line : is_line_end b ≡ false = denied (is_line_end b) parts.0 in
    let more = body-escaped text rest parts.1 in
    let P : List ℕ → Type 0 = λ w. body_of false (w ++ rest) ≡ continued (b ∷ text) (length w) (body_of false rest) in
    by_test (is_escaped b)
    (λ e. let w : escaped (b ∷ text) ≡ 92 ∷ b ∷ escaped text = rw e refl in subst P (sym w) (by_backslash b text rest e more))
    (λ e. let w : escaped (b ∷ text) ≡ b ∷ escaped text = rw e refl in subst P (sym w) (by_plain b text rest e line more))

pub closed : (text rest : List ℕ) → list_all is_in_line text ≡ true → body_of false (escaped text ++ 34 ∷ rest) ≡ Some (record { text = text; size = length (escaped text) + 1 })
closed text rest h =
    body-escaped text (34 ∷ rest) h ∙ ap (continued text (length (escaped text))) (step-quote 34 rest refl) ∙ ap (λ (t : List ℕ). Some (record { text = t; size = length (escaped text) + 1 })) (append-nil text)

line-ends : (rest : List ℕ) → begins is_in_line rest ≡ false → body_of false rest ≡ None
line-ends [] h = body-end false
line-ends (b ∷ rest) h =
    let line : is_line_end b ≡ true = refused (is_line_end b) h in
    let quote : is_quote b ≡ false = line-quote b line in
    step-line b rest quote line

pub left-open : (text rest : List ℕ) → list_all is_in_line text ≡ true → begins is_in_line rest ≡ false → body_of false (escaped text ++ rest) ≡ None
left-open text rest h e = body-escaped text rest h ∙ ap (continued text (length (escaped text))) (line-ends rest e)

other-ends : (rest : List ℕ) → begins is_escaped rest ≡ false → body_of true rest ≡ None
other-ends [] h = body-end true
other-ends (b ∷ rest) h = step-refused b rest h

pub other-refused : (text rest : List ℕ) → list_all is_in_line text ≡ true → begins is_escaped rest ≡ false → body_of false (escaped text ++ 92 ∷ rest) ≡ None
other-refused text rest h e =
    body-escaped text (92 ∷ rest) h ∙ ap (continued text (length (escaped text))) (step-backslash 92 rest refl refl refl ∙ ap (option_map with_backslash) (other-ends rest e))

-- What is read is what the bytes write.
pub record IsBody (bytes : List ℕ) (body : Decoded) : Type 0 where
  pub rest : List ℕ
  pub written : bytes ≡ escaped body.text ++ 34 ∷ rest
  pub sized : body.size ≡ length (escaped body.text) + 1
  pub line : list_all is_in_line body.text ≡ true

pub data IsNoBody : List ℕ → Type 0 where
  unclosed : (text rest : List ℕ) → list_all is_in_line text ≡ true → begins is_in_line rest ≡ false → IsNoBody (escaped text ++ rest)
  other : (text rest : List ℕ) → list_all is_in_line text ≡ true → begins is_escaped rest ≡ false → IsNoBody (escaped text ++ 92 ∷ rest)

abbrev pub ReadsAs : List ℕ → Option Decoded → Type 0
ReadsAs bytes (Some body) = IsBody bytes body
ReadsAs bytes None = IsNoBody bytes

-- A byte that is written as these bytes.
record Writes (b : ℕ) (front : List ℕ) : Type 0 where
  each : (text : List ℕ) → escaped (b ∷ text) ≡ front ++ escaped text

body-before : (b : ℕ) (front bytes : List ℕ) (body made : Decoded) → Writes b front → is_in_line b ≡ true → made ≡ record { text = b ∷ body.text; size = length front + body.size } → IsBody bytes body → IsBody (front ++ bytes) made
body-before b front bytes body made w line is h =
    subst (IsBody (front ++ bytes)) (sym is) (record {
      rest = h.rest;
      written = ap (λ (r : List ℕ). front ++ r) h.written ∙ sym (append_assoc front (escaped body.text) (34 ∷ h.rest)) ∙ ap (λ (r : List ℕ). r ++ 34 ∷ h.rest) (sym (w.each body.text));
      sized = omega (arith, h.sized, ap length (w.each body.text), length-append front (escaped body.text));
      line = join (is_in_line b) (list_all is_in_line body.text) line h.line;
    })

none-before : (b : ℕ) (front bytes : List ℕ) → Writes b front → is_in_line b ≡ true → IsNoBody bytes → IsNoBody (front ++ bytes)
none-before b front _ w line (unclosed text rest h e) =
    subst IsNoBody (ap (λ (r : List ℕ). r ++ rest) (w.each text) ∙ append_assoc front (escaped text) rest)
    (unclosed (b ∷ text) rest (join (is_in_line b) (list_all is_in_line text) line h) e)
none-before b front _ w line (other text rest h e) =
    subst IsNoBody (ap (λ (r : List ℕ). r ++ 92 ∷ rest) (w.each text) ∙ append_assoc front (escaped text) (92 ∷ rest))
    (other (b ∷ text) rest (join (is_in_line b) (list_all is_in_line text) line h) e)

plain-before : (b : ℕ) (bytes : List ℕ) (o : Option Decoded) → is_escaped b ≡ false → is_in_line b ≡ true → ReadsAs bytes o → ReadsAs (b ∷ bytes) (option_map (with_byte b) o)
plain-before b bytes None e line h = none-before b (b ∷ []) bytes (record { each = λ text. rw e refl }) line h
plain-before b bytes (Some body) e line h = body-before b (b ∷ []) bytes body (with_byte b body) (record { each = λ text. rw e refl }) line refl h

escape-before : (b : ℕ) (bytes : List ℕ) (o : Option Decoded) → is_escaped b ≡ true → is_in_line b ≡ true → ReadsAs bytes o → ReadsAs (92 ∷ b ∷ bytes) (option_map with_backslash (option_map (with_byte b) o))
escape-before b bytes None e line h = none-before b (92 ∷ b ∷ []) bytes (record { each = λ text. rw e refl }) line h
escape-before b bytes (Some body) e line h =
    body-before b (92 ∷ b ∷ []) bytes body (with_backslash (with_byte b body)) (record { each = λ text. rw e refl }) line (let n : 1 + (1 + body.size) ≡ 2 + body.size = omega arith in rw n refl) h

-- After a `\`, the bytes with it.
abbrev pub whole : Bool → List ℕ → List ℕ
whole true bytes = 92 ∷ bytes
whole false bytes = bytes

abbrev pub whole_body : Bool → Option Decoded → Option Decoded
whole_body true o = option_map with_backslash o
whole_body false o = o

pub body-right : (after : Bool) (bytes : List ℕ) → ReadsAs (whole after bytes) (whole_body after (body_of after bytes))
body-right true [] = subst (ReadsAs (92 ∷ [])) (ap (option_map with_backslash) (sym (body-end true))) (other [] [] refl refl)
body-right false [] = subst (ReadsAs []) (sym (body-end false)) (unclosed [] [] refl refl)
body-right true (b ∷ bytes) = by_test (is_escaped b)
    (λ e. subst (ReadsAs (92 ∷ b ∷ bytes)) (ap (option_map with_backslash) (sym (step-escaped b bytes e))) (escape-before b bytes (body_of false bytes) e (escaped-line b e) (body-right false bytes)))
    (λ e. subst (ReadsAs (92 ∷ b ∷ bytes)) (ap (option_map with_backslash) (sym (step-refused b bytes e))) (other [] (b ∷ bytes) refl e))
body-right false (b ∷ bytes) = by_test (is_quote b)
    (λ q. subst (ReadsAs (b ∷ bytes)) (sym (step-quote b bytes q)) (record { rest = bytes; written = ap (λ n. n ∷ bytes) (quote-is b q); sized = refl; line = refl }))
    (λ q. by_test (is_line_end b)
    (λ l. subst (ReadsAs (b ∷ bytes)) (sym (step-line b bytes q l)) (unclosed [] (b ∷ bytes) refl (rw l refl)))
    (λ l. by_test (is_backslash b)
    (λ s. subst (ReadsAs (b ∷ bytes)) (sym (step-backslash b bytes q l s)) (subst (λ n. ReadsAs (n ∷ bytes) (option_map with_backslash (body_of true bytes))) (sym (backslash-is b s)) (body-right true bytes)))
    (λ s. subst (ReadsAs (b ∷ bytes)) (sym (step-plain b bytes q l s)) (plain-before b bytes (body_of false bytes) (unescaped b q s) (rw l refl) (body-right false bytes)))))

-- The token of a text that was read.
pub text-given : (at : ℕ) (o : Option Decoded) (body : Decoded) → o ≡ Some body → is_utf8 body.text ≡ true → text_from at o ≡ Ok (record { kind = kind.Str body.text; size = 1 + body.size })
text-given at o body e u = ap (text_from at) e ∙ (rw u refl)

pub text-refused : (at : ℕ) (o : Option Decoded) (body : Decoded) → o ≡ Some body → is_utf8 body.text ≡ false → text_from at o ≡ Err (BadText at)
text-refused at o body e u = ap (text_from at) e ∙ (rw u refl)
